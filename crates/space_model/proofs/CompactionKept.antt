-- The beginning and the end of a compaction, the beginning of the correction of references and its visits keep states sound.
use Rattle.std.proofs.Common.{◌≡◌, ◌≢◌, ℕ, zero, suc, ◌+◌, ◌&&◌, not, cond, Bool, true, false, List, [], ◌∷◌, length, nat_eq, refl, sym, ap, ◌∙◌, subst, arith, Option, None, Some, ⊎_elim}
use Rattle.std.specs.Set.{is_member}
use Rattle.std.specs.Ordering.{nat_cmp}
use Rattle.std.specs.FinMap.{FinMap, get, empty, get-empty}
use Rattle.std.proofs.lemmas.Bool.{cases_Bool, false≢true, and_parts}
use Rattle.std.proofs.lemmas.Bool.Decides.{nat_tests}
use Rattle.space_model.specs.declared.phase.Phase.TheVariants.{Idle, Moving, Fixing}
use Rattle.space_model.specs.CompactCommands.{moving_begun}
use Rattle.space_model.specs.Compaction.{fixing_begun, without_pairs, visited, IsNextVisit, Visits1, all_spared, compaction_ended}
use Rattle.space_model.specs.Layout.{page_of}
use Rattle.space_model.specs.Pages.{pool_at, is_used}
use Rattle.space_model.specs.Sound.{Sound, AreSlots, SoundLayout, SoundCorpses, SoundUsed, SoundStale, SoundMoves}
use Rattle.space_model.specs.State.{State}
use Rattle.space_model.specs.StoredWords.{is_stale}
use Rattle.space_model.proofs.AfterPieces.{SoundHeap, tables_of, sound_of}
use Rattle.space_model.proofs.LeftKept.{SoundLeft-none, SoundStale-none}
use Rattle.space_model.proofs.MapLaws.{some_get}
use Rattle.space_model.proofs.MovesKept.{SoundMoves-still}
use Rattle.space_model.proofs.PageLaws.{used}
use Rattle.space_model.proofs.SlotLaws.{AreSlots-same}
use Rattle.space_model.proofs.SweepKept.{no_corpse}

-- the moves begin

begun_heap : (s : State) → s.collector.phase ≡ Idle → Sound s → SoundHeap s.graph s.heap (moving_begun s).collector
begun_heap s idle h = record {
  layout = h.layout;
  corpses = h.corpses;
  sweep = record { rising = h.sweep.rising; have_pools = h.sweep.have_pools; some = λ e. absurd (cc); none = λ e. h.sweep.none (λ f. cc) };
  used = λ a b. absurd (a refl);
  resting = λ a b. absurd (a refl);
  cursor = λ a. h.cursor (λ e. cc);
  left = h.left;
  stale = h.stale;
  kept = h.kept;
  outlived = h.outlived;
}

-- no name left an address yet
moves_none : (s : State) → s.collector.phase ≡ Idle → Sound s → SoundMoves (moving_begun s)
moves_none s idle h moves name address free left at f =
    let none = (h.resting (λ e. cc) (λ e. cc)).0 in
    let gone = some_get _ left in
    absurd (let e : None ≡ Some gone.0 = sym (get-empty nat_cmp name) ∙ ap (λ (m : FinMap nat_cmp ℕ). get m name) (sym none) ∙ gone.1 in cc)

pub Sound-moving_begun : (s : State) → s.collector.phase ≡ Idle → Sound s → Sound (moving_begun s)
Sound-moving_begun s idle h = sound_of (moving_begun s) (begun_heap s idle h) (moves_none s idle h) h.names h.items h.roots (tables_of s h)
    (record { seen = h.moments.seen; once = h.moments.once; mixed = h.moments.mixed })
    (λ e. absurd (cc))

-- the correction of references begins

fixing_heap : (s : State) → s.collector.phase ≡ Moving → Sound s → SoundHeap s.graph s.heap (fixing_begun s).collector
fixing_heap s moving h = record {
  layout = h.layout;
  corpses = h.corpses;
  sweep = record { rising = h.sweep.rising; have_pools = h.sweep.have_pools; some = λ e. absurd (cc); none = λ e. h.sweep.none (λ f. cc) };
  used = λ a b. absurd (b refl);
  resting = λ a b. absurd (b refl);
  cursor = λ a. refl;
  left = h.left;
  stale = record { fields = h.stale.fields; unvisited = λ n i a e at. omega arith };
  kept = h.kept;
  outlived = h.outlived;
}

pub Sound-fixing_begun : (s : State) → s.collector.phase ≡ Moving → Sound s → Sound (fixing_begun s)
Sound-fixing_begun s moving h =
    sound_of (fixing_begun s) (fixing_heap s moving h) (SoundMoves-still (fixing_begun s) (λ e. cc)) h.names h.items h.roots (tables_of s h)
    (record { seen = h.moments.seen; once = h.moments.once; mixed = h.moments.mixed })
    (λ e. absurd (cc))

-- a visit

-- a field is stale without those of a name where it was, and is of another
pub stale-without_pairs : (stale : List (ℕ × ℕ)) (name n i : ℕ) → is_stale (without_pairs stale name) n i ≡ (is_stale stale n i && not (nat_eq n name))
stale-without_pairs [] name n i = refl
stale-without_pairs (pair ∷ stale) name n i = step (stale-without_pairs stale name n i) (nat_eq pair.0 name) refl
  where
    step : is_stale (without_pairs stale name) n i ≡ (is_stale stale n i && not (nat_eq n name)) → (c : Bool) → nat_eq pair.0 name ≡ c →
        is_stale (without_pairs (pair ∷ stale) name) n i ≡ (is_stale (pair ∷ stale) n i && not (nat_eq n name))
    step rest true e = grind (arith, nat_tests, e, rest)
    step rest false e = grind (arith, nat_tests, e, rest)

SoundStale-visited : (s : State) (name address : ℕ) → IsNextVisit s name address → AreSlots s.graph s.heap.pages s.heap.place →
    SoundStale s.graph s.heap.place s.heap.left s.collector.stale s.collector.cursor →
    SoundStale s.graph s.heap.place s.heap.left (without_pairs s.collector.stale name) (address + 1)
SoundStale-visited s name address v placed h = record {
  fields = λ n i e. h.fields n i (was n i e).0;
  unvisited = λ n i a e at.
      let before = was n i e in
      let not_yet = h.unvisited n i a before.0 at in
      let least = v.least n a at not_yet in
      let other : a ≢ address = λ same. before.1 (placed.once n name a at (v.at ∙ ap Some (sym same))) in
      omega arith;
}
  where
    was : (n i : ℕ) → is_stale (without_pairs s.collector.stale name) n i ≡ true → (is_stale s.collector.stale n i ≡ true) × (n ≢ name)
    was n i e =
        let both = and_parts (is_stale s.collector.stale n i) _ (sym (stale-without_pairs s.collector.stale name n i) ∙ e) in
        (both.0, λ same. let w = both.1 in grind (arith, nat_tests, w, same))

visited_heap : (s : State) (name address : ℕ) → IsNextVisit s name address → s.collector.phase ≡ Fixing → Sound s →
    SoundHeap s.graph s.heap (visited s name address).collector
visited_heap s name address v fixing h = record {
  layout = h.layout;
  corpses = h.corpses;
  sweep = h.sweep;
  used = h.used;
  resting = λ a b. absurd (b fixing);
  cursor = λ a. absurd (a fixing);
  left = h.left;
  stale = SoundStale-visited s name address v h.layout.placed h.stale;
  kept = h.kept;
  outlived = h.outlived;
}

pub Sound-visited : (s t : State) → s.collector.phase ≡ Fixing → Visits1 s t → Sound s → Sound t
Sound-visited s t fixing v h = subst Sound (sym v.after)
    (sound_of (visited s v.name v.address) (visited_heap s v.name v.address v.next fixing h) (SoundMoves-still (visited s v.name v.address) (λ e. cc)) h.names
    h.items h.roots (tables_of s h) (record { seen = h.moments.seen; once = h.moments.once; mixed = h.moments.mixed }) (λ e. absurd (cc)))

-- the end: each page with a pool has an object on it

pub length-all_spared : (place : FinMap nat_cmp ℕ) (page : ℕ) (pages : List (Option ℕ)) → length (all_spared place page pages) ≡ length pages
length-all_spared place page [] = refl
length-all_spared place page (pool ∷ pages) = ap suc (length-all_spared place (page + 1) pages)

spared_at : (place : FinMap nat_cmp ℕ) (page : ℕ) (pages : List (Option ℕ)) (q : ℕ) →
    pool_at (all_spared place page pages) q ≡ cond (is_used place (page + q)) (pool_at pages q) None
spared_at place page [] q = ⊎_elim (λ t. rw t refl) (λ f. rw f refl) (cases_Bool (is_used place (page + q)))
spared_at place page (pool ∷ pages) zero = ap (λ p. cond (is_used place p) pool None) (let z : page ≡ page + 0 = omega arith in z)
spared_at place page (pool ∷ pages) (suc q) =
    spared_at place (page + 1) pages q ∙ ap (λ p. cond (is_used place p) (pool_at pages q) None) (let z : page + 1 + q ≡ page + suc q = omega arith in z)

-- a page keeps its pool where something stands on it
pub pool_at-all_spared : (place : FinMap nat_cmp ℕ) (pages : List (Option ℕ)) (q : ℕ) →
    pool_at (all_spared place 0 pages) q ≡ cond (is_used place q) (pool_at pages q) None
pool_at-all_spared place pages q =
    spared_at place 0 pages q ∙ ap (λ p. cond (is_used place p) (pool_at pages q) None) (let z : 0 + q ≡ q = omega arith in z)

SoundUsed-ended : (s : State) → SoundUsed Idle (compaction_ended s).heap.pages s.heap.unswept s.heap.place
SoundUsed-ended s a b page e u = ⊎_elim
    (λ t. t)
    (λ f. absurd (let q = pool_at-all_spared s.heap.place s.heap.pages page in grind (arith, q, f, e)))
    (cases_Bool (is_used s.heap.place page))

SoundLayout-ended : (s : State) → SoundLayout s.graph s.heap.place s.heap.pages s.heap.limit →
    SoundLayout s.graph s.heap.place (compaction_ended s).heap.pages s.heap.limit
SoundLayout-ended s h = record {
  placed = AreSlots-same s.graph s.graph s.heap.pages (all_spared s.heap.place 0 s.heap.pages) s.heap.place (omega arith) (λ n _ _. refl)
      (λ n a e.
      let q = pool_at-all_spared s.heap.place s.heap.pages (page_of a) in
      let on = used s.heap.place n a e in
      q ∙ ap (λ b. cond b (pool_at s.heap.pages (page_of a)) None) on)
      h.placed;
  limited = (let e = length-all_spared s.heap.place 0 s.heap.pages in let l = h.limited in omega arith);
}

SoundCorpses-ended : (s : State) → ((n a : ℕ) → get s.heap.corpses n ≡ Some a → ⊥) →
    SoundCorpses s.graph s.heap.place s.heap.corpses (compaction_ended s).heap.pages s.heap.unswept
SoundCorpses-ended s none = record {
  slots = record {
    allocated = λ n a e. absurd (none n a e);
    at = λ n a e. absurd (none n a e);
    once = λ n k a e f. absurd (none n a e);
  };
  gone = λ n a e. absurd (none n a e);
  apart = λ n k a e f. none k a f;
  on_unswept = λ n a e. absurd (none n a e);
}

ended_heap : (s : State) → s.collector.phase ≡ Fixing → Sound s → SoundHeap s.graph (compaction_ended s).heap (compaction_ended s).collector
ended_heap s fixing h =
    let none : (n a : ℕ) → get s.heap.corpses n ≡ Some a → ⊥ =
    no_corpse s.graph s.heap.place s.heap.corpses s.collector.phase s.heap.pages s.heap.unswept h.corpses h.sweep (λ e. cc) in
    let waits : s.heap.unswept ≡ [] = h.sweep.none (λ e. cc) in
    record {
      layout = SoundLayout-ended s h.layout;
      corpses = SoundCorpses-ended s none;
      sweep = record {
        rising = h.sweep.rising;
        have_pools = λ page m. absurd (false≢true (sym (ap (λ pages. is_member nat_eq pages page) waits) ∙ m));
        some = λ e. absurd (cc);
        none = λ e. waits;
      };
      used = SoundUsed-ended s;
      resting = λ a b. (refl, refl);
      cursor = λ a. refl;
      left = SoundLeft-none s.graph s.heap.place s.heap.corpses empty (compaction_ended s).heap.pages refl;
      stale = SoundStale-none s.graph s.heap.place empty [] 0 refl;
      kept = h.kept;
      outlived = h.outlived;
    }

pub Sound-compaction_ended : (s : State) → s.collector.phase ≡ Fixing → Sound s → Sound (compaction_ended s)
Sound-compaction_ended s fixing h =
    sound_of (compaction_ended s) (ended_heap s fixing h) (SoundMoves-still (compaction_ended s) (λ e. cc)) h.names h.items h.roots (tables_of s h)
    (record { seen = h.moments.seen; once = h.moments.once; mixed = h.moments.mixed })
    (λ e. absurd (cc))
