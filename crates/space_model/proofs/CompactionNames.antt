-- What the pieces of a compaction leave: nothing is taken, no item and no start changes, and a name moves only where this is told.
use Rattle.std.proofs.Common.{◌≡◌, ℕ, zero, suc, ◌+◌, cond, Bool, true, false, List, [], ◌∷◌, length, nat_eq, refl, sym, ap, ◌∙◌, subst, ⊎_elim, Option, Some}
use Rattle.std.specs.Prelude.{is_some}
use Rattle.std.specs.List.{IsDistinct}
use Rattle.std.specs.Ordering.{nat_cmp}
use Rattle.std.specs.FinMap.{FinMap, get, insert}
use Rattle.std.proofs.lemmas.Bool.{cases_Bool, eqb-true, or_from, false≢true, false_from_ne_true}
use Rattle.std.proofs.lemmas.List.{append-nil}
use Rattle.space_model.specs.declared.event.Event.{Event}
use Rattle.space_model.specs.declared.event.Event.TheVariants.{Moved}
use Rattle.space_model.specs.declared.phase.Phase.TheVariants.{Moving}
use Rattle.space_model.specs.declared.reply.Reply.{Reply}
use Rattle.space_model.specs.declared.reply.Reply.TheVariants.{MoveCount, FixCount, Refused}
use Rattle.space_model.specs.Compaction.{IsPinned, Moves1, Moves, fixing_begun, Visits1, Visits, all_spared, compaction_ended, FixesAll, MovesAll}
use Rattle.space_model.specs.CompactCommands.{AnswersMove, BeginsFixing, EndsWhereDone, MakesVisits, AnswersFix}
use Rattle.space_model.specs.State.{State}
use Rattle.space_model.proofs.CompactionKept.{length-all_spared}
use Rattle.space_model.proofs.EntryLaws.{all_left}
use Rattle.space_model.proofs.Leaving.{Leaves, leaves_all, leaves_same, leaves_then}
use Rattle.space_model.proofs.MapLaws.{get-insert_name}
use Rattle.space_model.proofs.Queueing.{queues_none}

-- a name that is there is put at another address
there_moved : (place : FinMap nat_cmp ℕ) (name from to n : ℕ) → get place name ≡ Some from → is_some (get (insert place name to) n) ≡ is_some (get place n)
there_moved place name from to n at = ⊎_elim
    (λ same.
    ap is_some (get-insert_name place name to n ∙ ap (λ b. cond b (Some to) (get place n)) same)
    ∙ ap is_some (sym (ap (get place) (eqb-true n name same) ∙ at)))
    (λ other. ap is_some (get-insert_name place name to n ∙ ap (λ b. cond b (Some to) (get place n)) other))
    (cases_Bool (nat_eq n name))

-- the next move
leaves_move : (s t : State) (name from to : ℕ) → s.collector.phase ≡ Moving → Moves1 s name from to t → Leaves s (Moved name from to ∷ []) t
unfolding IsDistinct
leaves_move s t name from to moving m = record {
  taken = [];
  told = refl;
  present = λ n among. absurd (false≢true among);
  unreached = λ n among r. false≢true among;
  order = refl;
  once = tt;
  there = λ n. ap (λ (u : State). is_some (get u.heap.place n)) m.after ∙ there_moved s.heap.place name from to n m.next.movable.at;
  place = λ n p. ap (λ (u : State). get u.heap.place n) m.after;
  pinned = λ n pin.
      or_from (nat_eq n name) false
      (false_from_ne_true _ (λ same. m.next.movable.loose (subst (IsPinned s) (eqb-true n name same) pin)))
      refl;
  unmoving = λ other. absurd (other moving);
  still = λ e. (refl, moving);
  graph = ap (λ (u : State). u.graph) m.after;
  roots = ap (λ (u : State). u.roots) m.after;
  stack = ap (λ (u : State). u.stack) m.after;
  limit = ap (λ (u : State). u.heap.limit) m.after;
  page_count = ap (λ (u : State). length u.heap.pages) m.after;
  ids = ap (λ (u : State). u.tables.ids) m.after;
  weak = ap (λ (u : State). u.tables.weak) m.after ∙ sym (all_left s.tables.weak);
  silent = refl;
  queues = queues_none s t (ap (λ (u : State). u.tables) m.after);
}

pub move_phase : (s t : State) (name from to : ℕ) → Moves1 s name from to t → t.collector.phase ≡ s.collector.phase
move_phase s t name from to m = ap (λ (u : State). u.collector.phase) m.after

-- some moves
pub leaves_moves : (count : ℕ) (s : State) (events : List Event) (t : State) → s.collector.phase ≡ Moving → Moves count s events t → Leaves s events t
leaves_moves zero s events t moving (none, same) = subst (λ events. Leaves s events t) (sym none) (leaves_same s t same)
leaves_moves (suc count) s events t moving (name, from, to, later, mid, both, first, others) =
    subst (λ events. Leaves s events t) (sym both)
    (leaves_then s mid t (Moved name from to ∷ []) later (leaves_move s mid name from to moving first)
    (leaves_moves count mid later t (move_phase s mid name from to first ∙ moving) others))

pub moves_phase : (count : ℕ) (s : State) (events : List Event) (t : State) → Moves count s events t → t.collector.phase ≡ s.collector.phase
moves_phase zero s events t (none, same) = ap (λ (u : State). u.collector.phase) same
moves_phase (suc count) s events t (name, from, to, later, mid, both, first, others) =
    moves_phase count mid later t others ∙ move_phase s mid name from to first

-- the beginning of the correction of references
leaves_fixing : (s : State) → Leaves s [] (fixing_begun s)
leaves_fixing s = leaves_all s (fixing_begun s) refl refl refl refl refl refl refl (λ e. absurd (cc))

-- a visit
leaves_visit : (s t : State) → Visits1 s t → Leaves s [] t
leaves_visit s t v = subst (Leaves s []) (sym v.after) (leaves_all s _ refl refl refl refl refl refl refl (λ e. e))

-- some visits
leaves_visits : (count : ℕ) (s t : State) → Visits count s t → Leaves s [] t
leaves_visits zero s t same = leaves_same s t same
leaves_visits (suc count) s t (mid, first, others) = leaves_then s mid t [] [] (leaves_visit s mid first) (leaves_visits count mid t others)

pub visits_phase : (count : ℕ) (s t : State) → Visits count s t → t.collector.phase ≡ s.collector.phase
visits_phase zero s t same = ap (λ (u : State). u.collector.phase) same
visits_phase (suc count) s t (mid, first, others) = visits_phase count mid t others ∙ ap (λ (u : State). u.collector.phase) first.after

-- the end of a compaction
leaves_ended : (s : State) → Leaves s [] (compaction_ended s)
leaves_ended s = leaves_all s (compaction_ended s) refl refl refl refl refl (length-all_spared s.heap.place 0 s.heap.pages) refl (λ e. absurd (cc))

-- all visits that are left, and the end
pub leaves_fixes : (s t : State) → FixesAll s t → Leaves s [] t
leaves_fixes s t f =
    leaves_then s f.last t [] [] (leaves_visits f.visits s f.last f.visits_are) (subst (Leaves f.last []) (sym f.after) (leaves_ended f.last))

-- all moves that are left, all visits, and the end
pub leaves_compacted : (s : State) (events : List Event) (t : State) → s.collector.phase ≡ Moving → MovesAll s events t → Leaves s events t
leaves_compacted s events t moving m =
    subst (λ told. Leaves s told t) (append-nil events)
    (leaves_then s m.last t events [] (leaves_moves m.moves s events m.last moving m.makes)
    (leaves_then m.last (fixing_begun m.last) t [] [] (leaves_fixing m.last) (leaves_fixes (fixing_begun m.last) t m.fixes)))

-- what `move` and `fix` leave

pub leaves_move_answer : (s t : State) (count : ℕ) (events : List Event) (reply : Reply) → AnswersMove s count events reply t → Leaves s events t
leaves_move_answer s t count events (MoveCount moves done) a = leaves_moves moves s events t a.moving a.makes
leaves_move_answer s t count events (Refused why) a = subst (λ events. Leaves s events t) (sym a.2) (leaves_same s t a.3)
leaves_move_answer s t count events _ a = absurd a

leaves_begun : (s begun : State) → BeginsFixing s begun → Leaves s [] begun
leaves_begun s begun b = ⊎_elim
    (λ (_, begins). subst (Leaves s []) (sym begins) (leaves_fixing s))
    (λ (_, same). leaves_same s begun same)
    b

leaves_done : (done : Bool) (s t : State) → EndsWhereDone done s t → Leaves s [] t
leaves_done true s t e = subst (Leaves s []) (sym e.1) (leaves_ended s)
leaves_done false s t e = leaves_same s t e.1

leaves_made : (s t : State) (count visits : ℕ) (done : Bool) → MakesVisits s count visits done t → Leaves s [] t
leaves_made s t count visits done m =
    leaves_then s m.begun t [] [] (leaves_begun s m.begun m.begins)
    (leaves_then m.begun m.last t [] [] (leaves_visits visits m.begun m.last m.makes) (leaves_done done m.last t m.ends))

pub leaves_fix_answer : (s t : State) (count : ℕ) (reply : Reply) → AnswersFix s count reply t → Leaves s [] t
leaves_fix_answer s t count (FixCount visits done) a = leaves_made s t count visits done a
leaves_fix_answer s t count (Refused why) a = leaves_same s t a.3
leaves_fix_answer s t count _ a = absurd a
