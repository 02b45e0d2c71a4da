-- What a sink that gathers bytes before it hands them on is seen as.
use Rattle.std.specs.Prelude.{ℕ, ◌≤◌, List, vec_len, vec_capacity}
use Rattle.space_io.specs.declared.buffered.BufferedSink.TheInside.{Inside}

-- the most bytes that are held
abbrev pub MOST_HELD : ℕ
MOST_HELD = 65536

-- the sink that bytes are handed on to, and the bytes that are held
pub record Buffered (K : Type 0) : Type 0 where
  pub inner : K
  pub bytes : List ℕ

-- the buffer has room for the most bytes that are held, so that no memory is taken later
pub record IsBuffered {K : Type 0} (a : Inside K) : Type 0 where
  pub within : vec_len a.bytes ≤ MOST_HELD
  pub room : MOST_HELD ≤ vec_capacity a.bytes
