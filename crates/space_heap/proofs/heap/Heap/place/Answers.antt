use Rattle.std.proofs.Common.{◌≡◌, ◌+◌, ◌*◌, ◌≤◌, true≢false, refl, sym, ap, ◌∙◌, subst}
use Rattle.std.specs.Prelude.{vec_capacity}
use Rattle.space_model.specs.Layout.{pool_for}
use Rattle.space_heap.specs.Slots.{new_object}
use Rattle.space_heap.specs.FreeSlots.{IsLeastFree, HasNoFree}
use Rattle.space_heap.specs.Objects.{placed}
use Rattle.space_heap.specs.Marking.{IsCoherent}
use Rattle.space_heap.specs.SoundHeap.{IsSoundHeap}
use Rattle.space_heap.specs.Inside.{AreAllMarks, view_with, view_from, rest_of}
use Rattle.space_heap.proofs.updates.WordLaws.{pool_known}
use Rattle.space_heap.proofs.fields.SoundViews.{sound_read}
use Rattle.space_heap.proofs.fields.FreeReads.{least_read, none_read}
use Rattle.space_heap.proofs.updates.Placed.{one_more, placed_view, placed_marks}
use Rattle.space_heap.proofs.Coherence.{coherent_placed}
use Rattle.space_heap.proofs.heap.Heap.place.Goals as goal

-- the slot was the least free one
least : (c : goal.After-self-1) → IsLeastFree (view_from c.self.inside) (pool_for c.args.fields) c.in-Some.allocated.address
least c =
    let h = c.self.inside in
    least_read h.pools h.marks.items (rest_of h) (pool_for c.args.fields) c.in-Some.allocated.address c.in-Some.ensures.sound (pool_known c.args.fields)
    c.in-Some.ensures.lowest

-- the view after the allocation
view : (c : goal.After-self-1) → view_with c.allocate_slot.new.pools c.begin_slot.new.marks.items (one_more (rest_of c.self.inside)) ≡ placed
    (view_from c.self.inside) c.in-Some.allocated.address (new_object (c.self.inside.born + 1) c.args.fields c.args.guard c.args.style)
view c =
    let h = c.self.inside in
    ap (λ ms. view_with c.allocate_slot.new.pools ms (one_more (rest_of h))) c.begin_slot.ensures.items
    ∙ placed_view h.pools c.allocate_slot.new.pools h.marks.items (rest_of h) c.in-Some.allocated.address c.in-Some.allocated.page c.in-Some.allocated.slot
    c.args.fields (h.born + 1) c.args.guard c.args.style c.requires.few c.self.invariant.marks c.in-Some.ensures.at c.in-Some.ensures.written

pub invariant_of-self : goal.invariant_of-self
invariant_of-self c =
    let h = c.self.inside in
    let all = placed_marks h.pools c.allocate_slot.new.pools h.marks.items (rest_of h) c.in-Some.allocated.address c.in-Some.allocated.page
    c.in-Some.allocated.slot c.args.fields (h.born + 1) c.args.guard c.args.style c.requires.few c.self.invariant.marks c.in-Some.ensures.at
    c.in-Some.ensures.written in
    record {
      marks = subst (AreAllMarks c.allocate_slot.new.pools) (sym c.begin_slot.ensures.items) all;
      room = subst (λ n. c.allocate_slot.new.pools.limit ≤ n) (sym c.begin_slot.ensures.room)
          (subst (λ n. n ≤ vec_capacity h.marks) (sym c.in-Some.ensures.written.limit) c.self.invariant.room);
      places = subst (λ n. 1638 * n ≤ vec_capacity h.grey) (sym c.in-Some.ensures.written.count) c.self.invariant.places;
      coherent = subst IsCoherent (sym (view c)) (coherent_placed (view_from h) (pool_for c.args.fields) c.in-Some.allocated.address
          (new_object (h.born + 1) c.args.fields c.args.guard c.args.style) (least c).free refl c.self.invariant.coherent);
    }

pub returns-in-Some-clause-lowest : goal.returns-in-Some-clause-lowest
returns-in-Some-clause-lowest c = subst (λ v. IsLeastFree v (pool_for c.args.fields) c.in-Some.allocated.address) c.self.view_is (least c)

pub returns-in-Some-clause-full : goal.returns-in-Some-clause-full
returns-in-Some-clause-full c =
    let free = subst (λ v. IsLeastFree v (pool_for c.args.fields) c.in-Some.allocated.address) c.self.view_is (least c) in
    (λ e a. cc, λ none. absurd (true≢false (sym free.free ∙ none c.in-Some.allocated.address)))

pub returns-in-Some-clause-placed : goal.returns-in-Some-clause-placed
returns-in-Some-clause-placed c = view c ∙ ap (λ v.
    placed v c.in-Some.allocated.address (new_object (c.self.inside.born + 1) c.args.fields c.args.guard c.args.style)) c.self.view_is

pub returns-in-None-clause-full : goal.returns-in-None-clause-full
returns-in-None-clause-full c =
    let h = c.self.inside in
    let none = subst (λ v. HasNoFree v (pool_for c.args.fields)) c.self.view_is (none_read h.pools h.marks.items (rest_of h) (pool_for c.args.fields)
    c.in-None.ensures.lowest) in
    (λ e. none, λ e. refl)

pub returns-in-Some-clause-sound : goal.returns-in-Some-clause-sound
returns-in-Some-clause-sound c = let h = c.self.inside in
    subst IsSoundHeap c.self.view_is (sound_read h.pools h.marks.items (rest_of h) c.in-Some.ensures.sound)

pub returns-in-None-clause-sound : goal.returns-in-None-clause-sound
returns-in-None-clause-sound c = let h = c.self.inside in
    subst IsSoundHeap c.self.view_is (sound_read h.pools h.marks.items (rest_of h) c.in-None.ensures.sound)
