-- The start of a marking, a verdict and sweeps keep states sound.
use Rattle.std.proofs.Common.{◌≡◌, ◌≢◌, ℕ, zero, suc, true, List, ◌∷◌, nat_eq, refl, sym, ◌∙◌, subst, arith, inl, Some}
use Rattle.std.specs.Set.{is_member}
use Rattle.std.specs.FinMap.{get}
use Rattle.std.proofs.lemmas.Bool.{false_from_ne_true}
use Rattle.space_model.specs.declared.event.Kind.{Kind}
use Rattle.space_model.specs.declared.phase.Phase.TheVariants.{Sweeping, Moving, Fixing}
use Rattle.space_model.specs.Ages.{aged}
use Rattle.space_model.specs.Markings.{mark_started, StartMark, took, Took}
use Rattle.space_model.specs.Sweeps.{sweep_phase, swept, Sweep1, Sweeps, SweepAll}
use Rattle.space_model.specs.Graph.{IsChild}
use Rattle.space_model.specs.Layout.{page_of}
use Rattle.space_model.specs.Maps.{without, carried_over}
use Rattle.space_model.specs.Pages.{pool_pages, spared}
use Rattle.space_model.specs.Reach.{IsStart}
use Rattle.space_model.specs.Sound.{Sound, SoundMoments, SoundNames, SoundCorpses, SoundSweep, SoundUsed}
use Rattle.space_model.specs.State.{State}
use Rattle.space_model.specs.Verdicts.{IsVerdict}
use Rattle.space_model.proofs.AfterPieces.{SoundHeap, heap_of, tables_of, sound_of, after_piece}
use Rattle.space_model.proofs.AgeLaws.{aged-length}
use Rattle.space_model.proofs.CorpsesKept.{placed_swept, SoundCorpses-took, SoundCorpses-swept}
use Rattle.space_model.proofs.FinalsKept.{SoundFinals-took, SoundQueue-took, SoundFinals-swept, SoundQueue-swept}
use Rattle.space_model.proofs.KeptNames.{SoundKept-verdict}
use Rattle.space_model.proofs.LeftKept.{SoundLeft-none, SoundStale-none}
use Rattle.space_model.proofs.MarkingKept.{sweeps_mark_none, SoundMarking-started}
use Rattle.space_model.proofs.MapLaws.{held_without, left-without, present-without}
use Rattle.space_model.proofs.MovesKept.{SoundMoves-still, sweeps_move_none, SoundMoves-same}
use Rattle.space_model.proofs.PageLaws.{length-spared}
use Rattle.space_model.proofs.ReachedLaws.{member-reached_names, reached_names-once}
use Rattle.space_model.proofs.Reaching.{IsReached-start}
use Rattle.space_model.proofs.SlotLaws.{AreSlots-part}
use Rattle.space_model.proofs.SweepKept.{sweeping, SoundSweep-took, SoundSweep-swept, SoundUsed-took, SoundUsed-swept}
use Rattle.space_model.proofs.TablesKept.{AreSoundEntries-left}

-- what the start of a marking notes is what there is
pub SoundMoments-started : (s : State) → SoundMoments (mark_started s)
SoundMoments-started s = record { seen = λ n r. (member-reached_names s n).1 r; once = reached_names-once s; mixed = λ n m. m }

pub Sound-mark_started : (s : State) → Sound s → Sound (mark_started s)
Sound-mark_started s h =
    sound_of (mark_started s) (heap_of s h) (SoundMoves-same s (mark_started s) (λ e. e) refl refl h.moves) h.names h.items h.roots (tables_of s h)
    (SoundMoments-started s)
    (λ e. SoundMarking-started s s.collector.vague (h.marking e).open_kept h.names)

pub Sound-start : (s t : State) → StartMark s t → Sound s → Sound t
Sound-start s t e h = subst Sound (sym e) (Sound-mark_started s h)

SoundNames-took : (s : State) (kind : Kind) (taken : List ℕ) → IsVerdict s kind taken → SoundNames s.graph s.roots s.heap.place →
    SoundNames s.graph s.roots (without s.heap.place taken)
SoundNames-took s kind taken v h = record {
  children_present = λ m n p c. let x = left-without s.heap.place taken m p in
      present-without s.heap.place taken n (h.children_present m n x.0 c) (v.closed m n x.0 x.1 c);
  roots_present = λ n m. present-without s.heap.place taken n (h.roots_present n m)
      (false_from_ne_true _ (λ t. v.unreached n t (IsReached-start (IsChild s.graph) (IsStart s) n (inl m))));
}

took_heap : (s : State) (kind : Kind) (taken : List ℕ) → s.collector.phase ≢ Moving → s.collector.phase ≢ Fixing → IsVerdict s kind taken → Sound s →
    SoundHeap s.graph (took s kind taken).heap (took s kind taken).collector
took_heap s kind taken a b v h =
    let rests = h.resting a b in
    record {
      layout = record {
        placed = AreSlots-part s.graph s.heap.pages s.heap.place (without s.heap.place taken)
            (λ n a e. (held_without s.heap.place taken n a e).0) h.layout.placed;
        limited = h.layout.limited;
      };
      corpses = SoundCorpses-took s.graph s.heap.place s.heap.corpses s.heap.pages s.heap.unswept taken v.present h.layout.placed h.corpses;
      sweep = SoundSweep-took s.heap.pages;
      used = SoundUsed-took (sweep_phase (pool_pages s.heap.pages)) s.heap.pages (without s.heap.place taken);
      resting = λ _ _. rests;
      cursor = λ _. h.cursor b;
      left = SoundLeft-none s.graph (without s.heap.place taken) (carried_over s.heap.place s.heap.corpses taken) s.heap.left s.heap.pages rests.0;
      stale = SoundStale-none s.graph (without s.heap.place taken) s.heap.left s.collector.stale s.collector.cursor rests.1;
      kept = SoundKept-verdict kind s.graph s.heap.place (without s.heap.place taken) (aged (without s.heap.place taken) s.collector.outlived)
          s.collector.kept h.kept;
      outlived = aged-length (without s.heap.place taken) s.collector.outlived ∙ h.outlived;
    }

pub Sound-took : (s t : State) (kind : Kind) (taken : List ℕ) → s.collector.phase ≢ Moving → s.collector.phase ≢ Fixing → IsVerdict s kind taken →
    Took s kind taken t → Sound s → Sound t
Sound-took s t kind taken a b v e h = after_piece (took s kind taken) t e (record {
  heap = took_heap s kind taken a b v h;
  moves = SoundMoves-still (took s kind taken) (sweeps_move_none (pool_pages s.heap.pages));
  names = SoundNames-took s kind taken v h.names;
  items = h.items;
  roots = h.roots;
  tables = record {
    ids = h.ids;
    weak = AreSoundEntries-left s.heap.place taken s.tables.weak h.weak;
    finals = SoundFinals-took s.heap.place s.heap.corpses taken s.tables.finals h.finals;
    queue = SoundQueue-took s.heap.place s.heap.corpses taken s.graph s.tables.queue v.present h.queue;
  };
  once = h.moments.once;
  marking = λ e. absurd (sweeps_mark_none (pool_pages s.heap.pages) e);
})

swept_heap : (s : State) (page : ℕ) (others freed : List ℕ) → s.heap.unswept ≡ page ∷ others →
    ((n a : ℕ) → get s.heap.corpses n ≡ Some a → page_of a ≡ page → is_member nat_eq freed n ≡ true) → Sound s →
    SoundHeap s.graph (swept s page others freed).heap (swept s page others freed).collector
swept_heap s page others freed first all h =
    let corpses = subst (λ ps. SoundCorpses s.graph s.heap.place s.heap.corpses s.heap.pages ps) first h.corpses in
    let sweep = subst (λ ps. SoundSweep s.collector.phase s.heap.pages ps) first h.sweep in
    let use_of = subst (λ ps. SoundUsed s.collector.phase s.heap.pages ps s.heap.place) first h.used in
    let now : s.collector.phase ≡ Sweeping = sweeping s.collector.phase s.heap.pages page others sweep in
    let rests = h.resting (λ e. cc) (λ e. cc) in
    record {
      layout = record {
        placed = placed_swept s.graph s.heap.place s.heap.corpses s.heap.pages page others freed all h.layout.placed;
        limited = (let e = length-spared s.heap.place page s.heap.pages in let l = h.layout.limited in omega arith);
      };
      corpses = SoundCorpses-swept s.graph s.heap.place s.heap.corpses s.heap.pages page others freed all corpses;
      sweep = SoundSweep-swept s.collector.phase s.heap.place s.heap.pages page others sweep;
      used = SoundUsed-swept s.collector.phase s.heap.place s.heap.pages page others (λ e. cc) (λ e. cc) use_of;
      resting = λ _ _. rests;
      cursor = λ _. h.cursor (λ e. cc);
      left = SoundLeft-none s.graph s.heap.place (without s.heap.corpses freed) s.heap.left (spared s.heap.place page s.heap.pages) rests.0;
      stale = SoundStale-none s.graph s.heap.place s.heap.left s.collector.stale s.collector.cursor rests.1;
      kept = h.kept;
      outlived = h.outlived;
    }

pub Sound-swept : (s t : State) (freed : List ℕ) → Sweep1 s freed t → Sound s → Sound t
Sound-swept s t freed p h =
    after_piece (swept s p.page p.others freed) t p.after (record {
      heap = swept_heap s p.page p.others freed p.first (λ n a e q. (p.corpses.are n).1 (a, e, q)) h;
      moves = SoundMoves-still (swept s p.page p.others freed) (sweeps_move_none p.others);
      names = h.names;
      items = h.items;
      roots = h.roots;
      tables = record {
        ids = h.ids;
        weak = h.weak;
        finals = SoundFinals-swept s.heap.place s.heap.corpses freed s.tables.finals h.finals;
        queue = SoundQueue-swept s.heap.place s.heap.corpses freed s.graph s.heap.pages s.heap.unswept p.page s.tables.finals s.tables.queue h.corpses
            (λ n m. (p.corpses.are n).0 m) h.queue;
      };
      once = h.moments.once;
      marking = λ e. absurd (sweeps_mark_none p.others e);
    })

pub Sound-sweeps : (pages : ℕ) (s t : State) (freed : List ℕ) → Sweeps pages s freed t → Sound s → Sound t
Sound-sweeps zero s t freed (_, same) h = subst Sound (sym same) h
Sound-sweeps (suc pages) s t freed (now, later, mid, _, one, more) h = Sound-sweeps pages mid t later more (Sound-swept s mid now one h)

pub Sound-swept_all : (s t : State) (freed : List ℕ) → SweepAll s freed t → Sound s → Sound t
Sound-swept_all s t freed p h = Sound-sweeps _ s t freed p h
