use Rattle.std.proofs.Common.{true≢false, nat_lt, sym, ap, ◌∙◌}
use Rattle.space_collector.proofs.NeededSweeps.{some_there}
use Rattle.space_collector.proofs.sweeping.needs_sweep.Goals as goal

pub returns-in-Some-clause-needs : goal.returns-in-Some-clause-needs
returns-in-Some-clause-needs c = (
  (λ needs. absurd (true≢false (sym needs))),
  (λ needs. absurd (true≢false (sym c.in-Some.ensures.lowest.free ∙ needs.0 c.in-Some.field-0))),
)

pub returns-in-None-clause-needs : goal.returns-in-None-clause-needs
returns-in-None-clause-needs c =
    let there = some_there c.args.heap.now.unswept in
    let count = ap (nat_lt 0) c.unswept.ensures.count in
    ((λ needs. (c.in-None.ensures.lowest, there.0 (sym count ∙ needs))), (λ needs. count ∙ there.1 needs.1))
