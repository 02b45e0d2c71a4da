use Rattle.std.proofs.Common.{◌-◌, ◌≤◌}
use Rattle.space_io.specs.Causes.{HasCause}
use Rattle.space_compact.specs.Moves.{AreFingers}
use Rattle.space_collector.specs.MovesWritten.{AreMovesMade}
use Rattle.space_collector.proofs.moving.make_moves.Given as goal

abbrev pub invariant-moves : goal.invariant-moves
invariant-moves g l = record {
  made : AreMovesMade l.fn.heap l.heap l.moved l.told (g.K.Sink.written l.fn.sink) (g.K.Sink.written l.sink);
  cause : HasCause (g.K.Sink.faults l.fn.sink) (g.K.Sink.faults l.sink) l.told;
  fingers : AreFingers l.heap l.fingers;
  at_most : l.moved ≤ l.count;
}

abbrev pub decreases-moves : goal.decreases-moves
decreases-moves g l = l.count - l.moved
