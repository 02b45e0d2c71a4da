use Rattle.std.proofs.Common.{◌≡◌, ℕ, ◌+◌, true, refl, sym, ap, ◌∙◌, subst, arith}
use Rattle.space_heap.specs.HeapView.{HeapView}
use Rattle.space_heap.specs.Objects.{is_occupied, is_object}
use Rattle.space_heap.specs.Walks.{IsNextObject}
use Rattle.space_heap.proofs.ObjectLaws.{occupied_from_object}
use Rattle.space_heap.proofs.SweptPages.{standing_below}
use Rattle.space_compact.specs.Visits.{Visits}
use Rattle.space_compact.proofs.Costs.{AreFewSteps, no_steps, one_step, few_steps}
use Rattle.space_compact.proofs.Visiting.{visits_more, visits_standing, cursor-visited}
use Rattle.space_compact.proofs.fixing.visit_up_to.Goals as goal

pub visits-init : goal.visits-init
visits-init g c = record { made = refl; most = omega arith; cost = no_steps c.args.heap.now c.args.heap.now.cursor 0; ticks = omega arith }

-- the object stood there from the start
stood : (n : ℕ) (v u : HeapView) (a : ℕ) → Visits n v u → is_object u a ≡ true → is_occupied v a ≡ true
stood n v u a made is = sym (visits_standing n v u made a) ∙ occupied_from_object u a is

pub visit-requires-clause-object : goal.visit-requires-clause-object
visit-requires-clause-object g c = occupied_from_object c.visits.heap c.in-Some.address c.in-Some.ensures.is

pub visit-requires-clause-small : goal.visit-requires-clause-small
visit-requires-clause-small g c =
    let s = standing_below c.args.heap.now c.in-Some.address c.page_count.ensures.sound
    (stood c.visits.slots c.args.heap.now c.visits.heap c.in-Some.address c.visits.invariant.made c.in-Some.ensures.is) in
    omega arith

pub visit-requires-clause-ticks : goal.visit-requires-clause-ticks
visit-requires-clause-ticks g c =
    let few = few_steps c.args.heap.now c.visits.heap.cursor 0 c.visits.slots c.page_count.ensures.sound c.visits.invariant.cost in
    let t = c.visits.invariant.ticks in
    let r = c.requires in
    omega arith

pub visits-preserved : goal.visits-preserved
visits-preserved g c =
    let i = c.visits.invariant in
    let next : IsNextObject c.visits.heap c.visits.heap.cursor c.in-Some.address =
    subst (λ k. IsNextObject c.visits.heap k c.in-Some.address) c.cursor.ensures c.in-Some.ensures in
    record {
      made = subst (Visits (c.visits.slots + 1) c.args.heap.now) (sym c.visit.ensures.visited)
          (visits_more c.visits.slots c.args.heap.now c.visits.heap c.in-Some.address i.made next);
      most = let t = c.visits-test.true in omega arith;
      cost = subst (λ from. AreFewSteps c.args.heap.now from 0 (c.visits.slots + 1))
          (sym (ap (λ (v : HeapView). v.cursor) c.visit.ensures.visited ∙ cursor-visited c.visits.heap c.in-Some.address))
          (one_step c.args.heap.now c.visits.heap.cursor c.in-Some.address 0 c.visits.slots (c.visits.slots + 1) i.cost next.from_there
          (stood c.visits.slots c.args.heap.now c.visits.heap c.in-Some.address i.made next.is) (omega arith) (omega arith));
      ticks = let t = c.visit.ensures.ticks in let k = i.ticks in omega arith;
    }

pub returns-in_default-clause-few : goal.returns-in_default-clause-few
returns-in_default-clause-few g c = few_steps c.args.heap.now c.visits.heap.cursor 0 c.visits.slots c.page_count.ensures.sound c.visits.invariant.cost

pub returns-clause-few : goal.returns-clause-few
returns-clause-few g c = few_steps c.args.heap.now c.visits.heap.cursor 0 c.visits.slots c.page_count.ensures.sound c.visits.invariant.cost
