-- After visits the space stands for the state after the same visits.
use Rattle.std.proofs.Common.{◌≡◌, ℕ, zero, suc, true, false, true≢false, nat_lt, refl, sym, ◌∙◌, subst, arith, ⊎_elim}
use Rattle.std.proofs.lemmas.Bool.{cases_Bool}
use Rattle.std.proofs.lemmas.Bool.Decides.{nat_tests}
use Rattle.space_model.specs.declared.phase.Phase.TheVariants.{Fixing}
use Rattle.space_model.specs.Compaction.{Visits, HasNoVisit}
use Rattle.space_model.specs.State.{State}
use Rattle.space_heap.specs.HeapView.{HeapView}
use Rattle.space_heap.specs.Objects.{is_object, object_of}
use Rattle.space_heap.specs.Walks.{HasNoObjectFrom}
use Rattle.space_compact.specs.Visits.{visited, Visits as HeapVisits}
use Rattle.space_engine.specs.Stands.{Holds}
use Rattle.space_engine.specs.Views.{View, with_heap}
use Rattle.space_engine.proofs.VisitedObjects.{state_after, one_visit, visit_held}

-- the state after the visits
pub record VisitsTo (s : State) (new : View) (visits : ℕ) : Type 0 where
  pub state : State
  pub makes : Visits visits s state
  pub holds : Holds new state
  pub fixing : state.collector.phase ≡ Fixing

pub visits_held : (v : View) (s : State) → Holds v s → s.collector.phase ≡ Fixing → (visits : ℕ) (w : HeapView) → HeapVisits visits v.heap w →
    VisitsTo s (with_heap v w) visits
visits_held v s h fixing zero w is =
    record { state = s; makes = refl; holds = subst (λ heap. Holds (with_heap v heap) s) (sym is) h; fixing = fixing }
visits_held v s h fixing (suc visits) w (a, next, rest) =
    let later = visits_held (with_heap v (visited v.heap a)) (state_after v s h a next) (visit_held v s h a next fixing) fixing visits w rest in
    record {
      state = later.state;
      makes = (state_after v s h a next, one_visit v s h a next, later.makes);
      holds = later.holds;
      fixing = later.fixing;
    }

-- none is left to visit exactly where none is left in the heap
pub none_left : (v : View) (s : State) → Holds v s → HasNoObjectFrom v.heap v.heap.cursor → HasNoVisit s
none_left v s h none name address at = ⊎_elim
    (λ (below : nat_lt address s.collector.cursor ≡ true). grind (arith, nat_tests, below))
    (λ (above : nat_lt address s.collector.cursor ≡ false).
    let until = h.represents.heap.progress.until in
    absurd (true≢false (
    sym (h.represents.heap.objects.stands name address at)
    ∙ none address (grind (arith, nat_tests, above, until)))))
    (cases_Bool (nat_lt address s.collector.cursor))

pub left_none : (v : View) (s : State) → Holds v s → HasNoVisit s → HasNoObjectFrom v.heap v.heap.cursor
left_none v s h none a from = ⊎_elim
    (λ (there : is_object v.heap a ≡ true).
    let until = h.represents.heap.progress.until in
    let below = none (object_of v.heap a).name a (h.represents.heap.objects.only a there) in
    absurd (omega (arith, until, from, below)))
    (λ (gone : is_object v.heap a ≡ false). gone)
    (cases_Bool (is_object v.heap a))
