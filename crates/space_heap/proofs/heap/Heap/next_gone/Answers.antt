use Rattle.std.proofs.Common.{arith}
use Rattle.space_heap.specs.declared.marks.Sought.TheVariants.{Gone}
use Rattle.space_heap.specs.Walks.{is_sought}
use Rattle.space_heap.proofs.walks.SlotWalks.{none_left, next_found}
use Rattle.space_heap.proofs.walks.WalkPlaces.{walk_begun, walk_more, walk_behind}
use Rattle.space_heap.proofs.heap.Heap.next_gone.Goals as goal

pub pages-init : goal.pages-init
pages-init c = record { at = λ from w. walk_begun c.args.self.now c.args.walk.now from w; narrow = omega arith; further = omega arith }

pub pages-preserved : goal.pages-preserved
pages-preserved c = record {
  at = λ from w. let at = c.pages.invariant.at from w in
      walk_more c.args.self.now c.pages.page c.pages.start from (c.in_default.ensures.found from at.slots) at;
  narrow = omega arith;
  further = let far = c.pages.invariant.further in let narrow = c.pages.invariant.narrow in omega arith;
}

pub returns-in-Some-clause-next : goal.returns-in-Some-clause-next
returns-in-Some-clause-next c = λ from w.
    let at = c.pages.invariant.at from w in
    let found = c.in-Some.ensures.found from at.slots in
    (next_found (is_sought Gone c.args.self.now) from c.pages.page c.in-Some.found.address at.before found.0, found.1)

pub returns-in-Some-clause-behind : goal.returns-in-Some-clause-behind
returns-in-Some-clause-behind c = walk_behind c.args.self.now _ c.in-Some.found.address c.in-Some.ensures.on c.in-Some.ensures.next

pub returns-clause-next : goal.returns-clause-next
returns-clause-next c = λ from w. none_left c.args.self.now Gone from c.pages.page (c.pages.invariant.at from w).before (omega arith)
