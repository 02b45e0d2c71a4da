use Rattle.std.proofs.Common.{◌≡◌, ◌≤◌, ◌-◌}
use Rattle.space_engine.specs.Views.{with_queue}
use Rattle.space_engine.proofs.FinalCommands.{HasRun}
use Rattle.space_engine.proofs.engine.Engine.skip_queued.Given as goal

-- so many were taken from the queue, and all else is as it was
abbrev pub invariant-skipped : goal.invariant-skipped
invariant-skipped l = record {
  has_run : HasRun l.fn.self.finals.queue l.self.finals.queue l.skipped;
  rest : l.self ≡ with_queue l.fn.self l.self.finals.queue;
  most : l.skipped ≤ l.count;
}

abbrev pub decreases-skipped : goal.decreases-skipped
decreases-skipped l = l.count - l.skipped
