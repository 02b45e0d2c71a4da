use Rattle.std.proofs.Common.{◌≡◌, ◌≤◌, ◌-◌, map}
use Rattle.std.specs.Io.KnownBytes.{Appends}
use Rattle.space_model.specs.FinalCommands.{ran_events}
use Rattle.space_model.specs.Outputs.{Told}
use Rattle.space_model.specs.Texts.{text_of}
use Rattle.space_engine.specs.Views.{with_queue}
use Rattle.space_engine.proofs.FinalCommands.{HasRun}
use Rattle.space_engine.proofs.engine.Engine.run_and_tell.Given as goal

-- so many ran, the lines of their events were written, and all else is as it was
abbrev pub invariant-run : goal.invariant-run
invariant-run g l = record {
  told : (has : HasRun l.fn.self.finals.queue l.self.finals.queue l.ran)
      × Appends (g.K.Sink.written l.fn.sink) (g.K.Sink.written l.sink) (text_of (map Told (ran_events has.done)));
  rest : l.self ≡ with_queue l.fn.self l.self.finals.queue;
  calm : g.K.Sink.faults l.sink ≡ g.K.Sink.faults l.fn.sink;
  most : l.ran ≤ l.count;
}

abbrev pub decreases-run : goal.decreases-run
decreases-run g l = l.count - l.ran
