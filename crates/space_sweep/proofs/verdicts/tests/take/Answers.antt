use Rattle.space_sweep.proofs.VerdictLaws.{none_gone_walked}
use Rattle.space_sweep.proofs.verdicts.tests.take.Goals as goal

pub verdict-requires-clause-none_gone : goal.verdict-requires-clause-none_gone
verdict-requires-clause-none_gone c = none_gone_walked c.args.heap.now c.new.result c.new.ensures c.in-None-next_gone.ensures.next
