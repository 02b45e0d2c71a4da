-- What the adapters over std's readers and writers are seen as.
use Rattle.std.specs.Prelude.{ℕ}

-- the reader, how often it has failed, and how often it has told its end, since it was put in
pub record AdaptedReader (R : Type 0) : Type 0 where
  pub inner : R
  pub faults : ℕ
  pub ends : ℕ

-- the writer, and how often it has failed since it was put in
pub record AdaptedWriter (W : Type 0) : Type 0 where
  pub inner : W
  pub faults : ℕ
