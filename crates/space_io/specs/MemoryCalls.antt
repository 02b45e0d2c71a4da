-- When a call of a source or a sink in memory fails, how many bytes it moves, and what it leaves.
use Rattle.std.specs.Prelude.{ℕ, ◌⊎◌, ◌-◌, ◌≤◌, ◌==◌, ◌++◌, if◌then◌else◌, min, List, Contains, length, take, drop}
use Rattle.space_io.specs.Causes.{raised}
use Rattle.space_io.specs.Memory.{SourceView, SinkView}

-- the call that comes next is one of those that fail
abbrev pub ReadFails : SourceView → Type 0
ReadFails s = Contains s.failing (raised s.calls)

-- how many bytes a call that doesn't fail gives
abbrev pub read_count : SourceView → List ℕ → ℕ
read_count s into = min (min (length s.rest) (length into)) s.most

-- the source after a call that gave n bytes: where it gave none, it told its end
abbrev pub after_read : SourceView → ℕ → SourceView
after_read s n = record s { rest = drop n s.rest; calls = raised s.calls; ends = if n == 0 then raised s.ends else s.ends }

-- the source after a call that failed
abbrev pub after_read_fault : SourceView → SourceView
after_read_fault s = record s { calls = raised s.calls; faults = raised s.faults }

-- the buffer after a call that gave n bytes: they stand at the front, and what follows stays
abbrev pub buffer_after : SourceView → List ℕ → ℕ → List ℕ
buffer_after s into n = take n s.rest ++ drop n into

-- the call that comes next is one of those that fail, or finds no room
abbrev pub WriteFails : SinkView → Type 0
WriteFails s = Contains s.failing (raised s.calls) ⊎ (s.room ≤ length s.written)

-- how many bytes a call that doesn't fail takes
abbrev pub write_count : SinkView → List ℕ → ℕ
write_count s piece = min (min (length piece) s.most) (s.room - length s.written)

-- the sink after a call that took the first n bytes of the piece
abbrev pub after_write : SinkView → List ℕ → ℕ → SinkView
after_write s piece n = record s { written = s.written ++ take n piece; calls = raised s.calls }

-- the sink after a call that failed
abbrev pub after_write_fault : SinkView → SinkView
after_write_fault s = record s { calls = raised s.calls; faults = raised s.faults }
