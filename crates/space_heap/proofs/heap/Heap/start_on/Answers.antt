use Rattle.std.proofs.Common.{length, ap, sym, arith}
use Rattle.space_heap.specs.HeapView.{HeapView}
use Rattle.space_heap.proofs.fields.Views.{length-pages_from}
use Rattle.space_heap.proofs.walks.WalkPlaces.{starts_from, starts_spare}
use Rattle.space_heap.proofs.heap.Heap.start_on.Goals as goal

pub page_pool-requires : goal.page_pool-requires
page_pool-requires c =
    let n = length-pages_from c.self.inside.pools c.self.inside.marks.items in
    let e = ap (λ (v : HeapView). length v.pages) c.self.view_is in
    let r = c.requires in
    omega arith

pub returns-in-Some : goal.returns-in-Some
returns-in-Some c = starts_from c.self.inside _ c.self.view_is c.args.page c.in-Some.pool (sym c.in-Some.ensures.pool) c.first_slot.result c.args.from c.first_slot.ensures

pub returns-in-None : goal.returns-in-None
returns-in-None c = starts_spare c.self.inside _ c.self.view_is c.args.page (sym c.in-None.ensures.pool) 0 c.args.from
