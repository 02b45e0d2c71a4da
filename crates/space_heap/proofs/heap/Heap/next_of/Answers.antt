use Rattle.std.proofs.Common.{arith, rules}
use Rattle.space_heap.specs.Walks.{is_sought}
use Rattle.space_heap.proofs.walks.SlotWalks.{page_before, none_left, next_found}
use Rattle.space_heap.proofs.heap.Heap.next_of.Goals as goal

pub pages-init : goal.pages-init
pages-init c = λ b there below. absurd (page_before c.args.from b c.saturating_sub-page.result (search rules) there below)

pub returns-in-Some-clause-next : goal.returns-in-Some-clause-next
returns-in-Some-clause-next c =
    (next_found (is_sought c.args.sought c.args.self.now) c.args.from _ c.in-Some.found.address c.pages.invariant c.in-Some.ensures.0, c.in-Some.ensures.1)

pub returns-clause-next : goal.returns-clause-next
returns-clause-next c = none_left c.args.self.now c.args.sought c.args.from c.pages.page c.pages.invariant (omega arith)
