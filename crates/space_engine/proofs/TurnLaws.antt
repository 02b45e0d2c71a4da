-- How far pieces of work change a heap's counts, and that they leave a quiescent heap at rest so.
use Rattle.std.proofs.Common.{◌≡◌, ◌≢◌, ℕ, ◌+◌, ◌*◌, ◌≤◌, nat_eq, refl, sym, ap, ◌∙◌, arith, ⊎_elim}
use Rattle.std.specs.Set.{is_member}
use Rattle.space_model.specs.declared.phase.Phase.TheVariants.{Idle, Marking, Moving, Fixing}
use Rattle.space_model.specs.Layout.{page_of}
use Rattle.space_heap.specs.declared.colour.Colour.TheVariants.{Grey}
use Rattle.space_heap.specs.Slots.{ObjectView}
use Rattle.space_heap.specs.HeapView.{Counters, HeapView}
use Rattle.space_heap.specs.Objects.{is_moved, written}
use Rattle.space_heap.specs.Marking.{colour_of}
use Rattle.space_heap.specs.Sweeping.{is_gone}
use Rattle.space_heap.proofs.FreeLaws.{is_moved-with_object}
use Rattle.space_heap.proofs.GoneLaws.{is_gone-with_object}
use Rattle.space_heap.proofs.ObjectLaws.{stays, rest-with_object}
use Rattle.space_collector.specs.PagesSwept.{LeavesRest}
use Rattle.space_collector.specs.Quiescent.{IsQuiescent, most_slots}
use Rattle.space_engine.specs.Turns.{IsAtRest, IsWork, IsQuietWork, IsOneTurn}

-- heaps that are at the same point, and in which the same is gone and moved; and outside a marking the same is grey
pub record IsAlike (v w : HeapView) : Type 0 where
  pub phase : w.phase ≡ v.phase
  pub unswept : w.unswept ≡ v.unswept
  pub grey : v.phase ≢ Marking → w.grey ≡ v.grey
  pub gone : (a : ℕ) → is_gone w a ≡ is_gone v a
  pub moved : (a : ℕ) → is_moved w a ≡ is_moved v a
  pub grey_was : v.phase ≢ Marking → (a : ℕ) → colour_of w a ≡ Grey → colour_of v a ≡ Grey

-- are quiescent alike
pub quiescent_alike : (v w : HeapView) → IsAlike v w → IsQuiescent v → IsQuiescent w
quiescent_alike v w alike q = record {
  gone_wait = λ a e. ap (λ pages. is_member nat_eq pages (page_of a)) alike.unswept ∙ q.gone_wait a (sym (alike.gone a) ∙ e);
  none_waits = λ not. alike.unswept ∙ q.none_waits (λ e. not (alike.phase ∙ e));
  some_wait = λ e none. q.some_wait (sym alike.phase ∙ e) (sym alike.unswept ∙ none);
  none_moved = λ not_moving not_fixing a. alike.moved a ∙ q.none_moved (λ e. not_moving (alike.phase ∙ e)) (λ e. not_fixing (alike.phase ∙ e)) a;
  none_grey = λ not.
      let rests : v.phase ≢ Marking = λ e. not (alike.phase ∙ e) in
      let none = q.none_grey rests in
      record { listed = alike.grey rests ∙ none.listed; objects = λ a e. none.objects a (alike.grey_was rests a e) };
}

-- a heap is at rest where its phase is that of one that is
pub rests_alike : (v w : HeapView) → w.phase ≡ v.phase → IsAtRest v → IsAtRest w
rests_alike v w same rests = (λ e. rests.0 (sym same ∙ e), λ e. rests.1 (sym same ∙ e))

-- one where nothing is under way is
pub rests_idle : (w : HeapView) → w.phase ≡ Idle → IsAtRest w
rests_idle w idle = (λ e. idle_moving (sym idle ∙ e), λ e. idle_fixing (sym idle ∙ e))
  where
    idle_moving : Idle ≢ Moving
    idle_moving e = cc

    idle_fixing : Idle ≢ Fixing
    idle_fixing e = cc

-- sweeps leave a heap at rest so
pub rests_left : (v w : HeapView) → LeavesRest v w → IsAtRest v → IsAtRest w
rests_left v w rest rests = ⊎_elim (λ same. rests_alike v w same rests) (λ idle. rests_idle w idle) rest.phase

-- no count changed but that of objects, which rose by one at most, and a quiescent heap stays such
pub work_born : (k n : ℕ) (v w : HeapView) (born : ℕ) → w.counters ≡ record v.counters { born = born } → born ≤ v.counters.born + 1 →
    (IsQuiescent v → IsQuiescent w) → IsWork k n v w
work_born k n v w born counters few quiescent =
    let same = ap (λ (c : Counters). c.born) counters in
    let minors = ap (λ (c : Counters). c.minor_verdicts) counters in
    let others = ap (λ (c : Counters). c.other_verdicts) counters in
    let freed = ap (λ (c : Counters). c.freed) counters in
    let compactions = ap (λ (c : Counters). c.compactions) counters in
    let moves = ap (λ (c : Counters). c.moves) counters in
    record {
      born = omega arith;
      minor_verdicts = omega arith;
      other_verdicts = omega arith;
      freed = omega arith;
      compactions = omega arith;
      moves = omega arith;
      quiescent = quiescent;
    }

-- no count changed at all
pub work_uncounted : (k n : ℕ) (v w : HeapView) → w.counters ≡ v.counters → (IsQuiescent v → IsQuiescent w) → IsWork k n v w
work_uncounted k n v w counters quiescent = work_born k n v w v.counters.born counters (omega arith) quiescent

-- heaps that are alike, where no count changed
pub turn_alike : (k n : ℕ) (v w : HeapView) → IsAlike v w → w.counters ≡ v.counters → IsWork k n v w
turn_alike k n v w alike counters = work_uncounted k n v w counters (quiescent_alike v w alike)

-- pages were swept, and no more slots freed than a heap has
pub work_swept : (v w : HeapView) → LeavesRest v w → w.counters.freed ≤ v.counters.freed + most_slots → IsQuiescent w → IsWork 1 0 v w
work_swept v w rest most quiescent =
    let born = ap (λ (c : Counters). c.born) rest.counters in
    let minors = ap (λ (c : Counters). c.minor_verdicts) rest.counters in
    let others = ap (λ (c : Counters). c.other_verdicts) rest.counters in
    let compactions = ap (λ (c : Counters). c.compactions) rest.counters in
    let moves = ap (λ (c : Counters). c.moves) rest.counters in
    record {
      born = omega arith;
      minor_verdicts = omega arith;
      other_verdicts = omega arith;
      freed = most;
      compactions = omega arith;
      moves = omega arith;
      quiescent = λ q. quiescent;
    }

-- so many times, and then so many times more
more_times : (a b c j k most : ℕ) → b ≤ a + j * most → c ≤ b + k * most → c ≤ a + (j + k) * most
more_times a b c j k most first second = let all : (j + k) * most ≡ j * most + k * most = grind arith in omega (arith, all, first, second)

-- one piece of work after another, where the first allocated nothing and did no verdict
pub work_then : (j k m n : ℕ) (v u w : HeapView) → IsQuietWork j m v u → IsWork k n u w → IsWork (j + k) (m + n) v w
work_then j k m n v u w first second =
    let born = first.born in
    let minors = first.minor_verdicts in
    let others = first.other_verdicts in
    let later_born = second.born in
    let later_minors = second.minor_verdicts in
    let later_others = second.other_verdicts in
    let compactions = first.work.compactions in
    let later_compactions = second.compactions in
    record {
      born = omega arith;
      minor_verdicts = omega arith;
      other_verdicts = omega arith;
      freed = more_times v.counters.freed u.counters.freed w.counters.freed j k most_slots first.work.freed second.freed;
      compactions = omega arith;
      moves = more_times v.counters.moves u.counters.moves w.counters.moves m n most_slots first.work.moves second.moves;
      quiescent = λ q. second.quiescent (first.work.quiescent q);
    }

-- a field of an object was written
pub turn_written : (v : HeapView) (address index word : ℕ) → IsOneTurn v (written v address index word)
turn_written v address index word =
    let others = rest-with_object v address _ in
    turn_alike 3 2 v (written v address index word) (record {
      phase = others.phase;
      unswept = others.unswept;
      grey = λ rests. others.grey;
      gone = λ a. is_gone-with_object v address _ a refl;
      moved = λ a. is_moved-with_object v address _ a;
      grey_was = λ rests a e. sym (stays (λ (o : ObjectView). o.colour) v address _ a refl) ∙ e;
    }) others.counters
