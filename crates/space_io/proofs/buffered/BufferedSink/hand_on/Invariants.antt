use Rattle.std.proofs.Common.{◌≡◌, ◌+◌, ◌≤◌, length, vec_len, vec_capacity}
use Rattle.std.specs.Io.KnownBytes.{Keeps, append_known}
use Rattle.space_io.proofs.buffered.BufferedSink.hand_on.Given as goal

abbrev pub invariant-loop-self : goal.invariant-loop-self
invariant-loop-self g l = record {
  within : vec_len l.self-inside.bytes ≤ 65536;
  room : 65536 ≤ vec_capacity l.self-inside.bytes;
  bytes : Keeps (append_known (g.K.Sink.written l.fn.self.inner) l.fn.self.bytes)
      (append_known (g.K.Sink.written l.self-inside.inner) l.self-inside.bytes.items);
  held : g.K.Sink.held l.self-inside.inner + length l.self-inside.bytes.items ≤ g.K.Sink.held l.fn.self.inner + length l.fn.self.bytes;
  calm : g.K.Sink.faults l.self-inside.inner ≡ g.K.Sink.faults l.fn.self.inner;
}

abbrev pub decreases-loop-self : goal.decreases-loop-self
decreases-loop-self g l = length l.self-inside.bytes.items
