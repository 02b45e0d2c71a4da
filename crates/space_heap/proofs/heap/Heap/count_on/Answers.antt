use Rattle.std.proofs.Common.{length, sym, ap, ◌∙◌, arith}
use Rattle.std.specs.Prelude.{count_by}
use Rattle.std.specs.List.{range_with_len}
use Rattle.space_planes.specs.Planes.{count_set}
use Rattle.space_pools.specs.PoolsView.{page_at as pools_page}
use Rattle.space_heap.specs.declared.heap.Heap.TheInside.{Inside}
use Rattle.space_heap.specs.declared.marks.Marks.{Marks}
use Rattle.space_heap.specs.Slots.{has_present, is_free}
use Rattle.space_heap.specs.HeapView.{page_at}
use Rattle.space_heap.specs.planes.MarkPlanes.{marks_at}
use Rattle.space_heap.specs.planes.CountedSlots.{has_noted, is_noted_in, has_counted}
use Rattle.space_heap.proofs.CountedSlots.{all_objects, noted_objects, free_count, counted_view, page_inside}
use Rattle.space_heap.proofs.heap.Heap.count_on.Goals as goal

pub marks_of-requires : goal.marks_of-requires
marks_of-requires c =
    let within = page_inside c.self.inside c.args.self.now c.args.page c.self.view_is c.requires in
    let all = c.self.invariant.marks.all in
    omega arith

pub marks_of-requires-in-Noted : goal.marks_of-requires-in-Noted
marks_of-requires-in-Noted c =
    let within = page_inside c.self.inside c.args.self.now c.args.page c.self.view_is c.requires in
    let all = c.self.invariant.marks.all in
    omega arith

pub free_plane-requires : goal.free_plane-requires
free_plane-requires c = page_inside c.self.inside c.args.self.now c.args.page c.self.view_is c.requires

pub present_count-requires : goal.present_count-requires
present_count-requires c =
    let h : Inside = c.self.inside in
    let all = all_objects (pools_page h.pools c.args.page) (marks_at h.marks.items c.args.page) (c.self.invariant.marks.of_page c.args.page) in
    let object = ap (λ (m : Marks). count_set m.object) c.marks_of.ensures in
    let gone = ap (λ (m : Marks). count_set m.gone) c.marks_of.ensures in
    omega (arith, all, object, gone)

pub returns-in-Live : goal.returns-in-Live
returns-in-Live c =
    let h : Inside = c.self.inside in
    let all = all_objects (pools_page h.pools c.args.page) (marks_at h.marks.items c.args.page) (c.self.invariant.marks.of_page c.args.page) in
    let object = ap (λ (m : Marks). count_set m.object) c.marks_of.ensures in
    let gone = ap (λ (m : Marks). count_set m.gone) c.marks_of.ensures in
    let count = c.present_count.ensures in
    let view = counted_view has_present h c.args.self.now c.args.page c.self.view_is in
    let same = ap (λ k. count_by (has_counted k) (page_at c.args.self.now c.args.page).slots) c.in-Live.is in
    omega (arith, all, object, gone, count, view, same)

pub returns-in-Vacant : goal.returns-in-Vacant
returns-in-Vacant c =
    let h : Inside = c.self.inside in
    c.count.ensures
    ∙ free_count (pools_page h.pools c.args.page) (marks_at h.marks.items c.args.page) (c.self.invariant.marks.of_page c.args.page) c.free_plane.result.now
    c.free_plane.ensures.len c.free_plane.ensures.bits
    ∙ counted_view is_free h c.args.self.now c.args.page c.self.view_is
    ∙ sym (ap (λ k. count_by (has_counted k) (page_at c.args.self.now c.args.page).slots) c.in-Vacant.is)

pub returns-in-Noted : goal.returns-in-Noted
returns-in-Noted c =
    let h : Inside = c.self.inside in
    c.noted_count.ensures
    ∙ ap (λ (m : Marks). count_by (is_noted_in c.in-Noted.note m) (range_with_len 0 (length m.object))) c.marks_of-in-Noted.ensures
    ∙ noted_objects (pools_page h.pools c.args.page) (marks_at h.marks.items c.args.page) (c.self.invariant.marks.of_page c.args.page) c.in-Noted.note
    ∙ counted_view (has_noted c.in-Noted.note) h c.args.self.now c.args.page c.self.view_is
    ∙ sym (ap (λ k. count_by (has_counted k) (page_at c.args.self.now c.args.page).slots) c.in-Noted.is)
