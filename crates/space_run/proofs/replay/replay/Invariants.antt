use Rattle.std.proofs.Common.{◌≡◌, ◌-◌, ◌*◌, ◌^◌, ◌≤◌, false}
use Rattle.space_run.specs.Progress.{HasReplayed}
use Rattle.space_run.proofs.replay.replay.Given as goal

abbrev pub invariant-each_line : goal.invariant-each_line
invariant-each_line g l = record {
  done : HasReplayed l.fn.space.parts.heap.limit (g.S.Source.rest l.fn.source) (g.S.Source.rest l.source) (g.S.Source.ends l.fn.source)
      (g.S.Source.ends l.source) (g.K.Sink.written l.fn.sink) (g.K.Sink.written l.sink) l.lines l.space;
  number : l.lines.number ≤ 2 ^ 32;
  able : l.space.is_spent ≡ false;
  turns : l.space.turns ≤ l.lines.number;
  steps : l.steps ≤ 2 ^ 26 * l.lines.number;
  read_calm : g.S.Source.faults l.source ≡ g.S.Source.faults l.fn.source;
  write_calm : g.K.Sink.faults l.sink ≡ g.K.Sink.faults l.fn.sink;
}

abbrev pub decreases-each_line : goal.decreases-each_line
decreases-each_line g l = 2 ^ 33 - l.lines.number
