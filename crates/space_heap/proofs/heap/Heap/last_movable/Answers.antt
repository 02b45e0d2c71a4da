use Rattle.std.proofs.Common.{◌≡◌, ◌-◌, ◌+◌, ◌∙◌, arith}
use Rattle.space_heap.specs.LastMovable.{is_movable_in}
use Rattle.space_heap.proofs.walks.LastSlots.{none_after, more_clear, last_found}
use Rattle.space_heap.proofs.heap.Heap.last_movable.Goals as goal

pub pages-init : goal.pages-init
pages-init c = record {
  within = let n = c.page_count.ensures.count in grind (arith, c.min-page.ensures, c.from.ensures, n);
  after = λ b under from. none_after c.args.self.now c.args.pool c.args.below c.from.result c.min-page.result b
      (c.from.ensures ∙ c.page_count.ensures.count) c.min-page.ensures under from;
}

pub pages-preserved : goal.pages-preserved
pages-preserved c =
    let e : c.pages.page - 1 + 1 ≡ c.pages.page = let t = c.pages-test.true in omega arith in
    record {
      within = let w = c.pages.invariant.within in omega arith;
      after = more_clear (is_movable_in c.args.self.now c.args.pool) c.args.below (c.pages.page - 1) c.in_default.ensures
          (λ b under from. c.pages.invariant.after b under (omega (arith, from)));
    }

pub returns-in-Some : goal.returns-in-Some
returns-in-Some c =
    let t = c.pages-test.true in
    last_found c.args.self.now c.args.pool c.args.below (c.pages.page - 1) c.in-Some.address
    (λ b under from. c.pages.invariant.after b under (omega (arith, from))) c.in-Some.ensures
