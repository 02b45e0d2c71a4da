use Rattle.std.proofs.Common.{◌≡◌, ◌<◌, true, false, sym, ap, ◌∙◌, subst, length, arith}
use Rattle.space_planes.specs.Planes.{bit}
use Rattle.space_heap.specs.planes.MarkPlanes.{marks_at}
use Rattle.space_heap.proofs.fields.Here.{none_resolved, page_here, moved_here, stays_here, moves_here, left_here}
use Rattle.space_heap.proofs.starts.PoolStarts.{wide_slot}
use Rattle.space_heap.proofs.heap.Heap.resolve.Goals as goal

pub marks_of-requires : goal.marks_of-requires
marks_of-requires c = page_here c.self.inside _ c.self.view_is _ _ _ c.self.invariant c.in-Some.ensures.place

pub is_moved-requires : goal.is_moved-requires
is_moved-requires c = subst (λ m. c.in-Some.slot < length m.moved) (sym c.marks_of.ensures)
    (moved_here c.self.inside _ c.self.view_is _ _ _ c.self.invariant c.in-Some.ensures.place)

pub returns-else-is_moved : goal.returns-else-is_moved
returns-else-is_moved c =
    let stays : bit (marks_at c.self.inside.marks.items c.in-Some.page).moved c.in-Some.slot ≡ false =
    ap (λ m. bit m.moved c.in-Some.slot) (sym c.marks_of.ensures) ∙ sym c.is_moved.ensures ∙ c.if-is_moved.false in
    sym (stays_here c.self.inside _ c.self.view_is _ _ _ c.self.invariant c.in-Some.ensures.place stays)

pub returns-in-None : goal.returns-in-None
returns-in-None c = sym (none_resolved c.self.inside _ c.self.view_is _ c.in-None.ensures.place)

pub bounds-slot-1 : goal.bounds-slot-1
bounds-slot-1 c =
    let moved : bit (marks_at c.self.inside.marks.items c.in-Some.page).moved c.in-Some.slot ≡ true =
    ap (λ m. bit m.moved c.in-Some.slot) (sym c.marks_of.ensures) ∙ sym c.is_moved.ensures ∙ c.if-is_moved.true in
    let used = left_here c.self.inside _ c.self.view_is _ _ _ c.self.invariant c.in-Some.ensures.place moved in
    let wide = wide_slot c.self.inside.pools c.in-Some.page c.in-Some.slot c.in-Some.ensures.sound used in
    let long = c.slot.ensures.len in
    omega arith

pub returns-then-is_moved : goal.returns-then-is_moved
returns-then-is_moved c =
    let moved : bit (marks_at c.self.inside.marks.items c.in-Some.page).moved c.in-Some.slot ≡ true =
    ap (λ m. bit m.moved c.in-Some.slot) (sym c.marks_of.ensures) ∙ sym c.is_moved.ensures ∙ c.if-is_moved.true in
    sym (moves_here c.self.inside _ c.self.view_is _ _ _ c.self.invariant c.in-Some.ensures.place c.slot.result.now c.slot.ensures.words moved)
