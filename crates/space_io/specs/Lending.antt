-- What the lines of a source are after a line was lent.
use Rattle.std.specs.Borrow.{MutBor, Fml}
use Rattle.std.specs.Io.BufRead.{Rests}
use Rattle.space_io.specs.Reading.{Reading}
use Rattle.space_io.specs.contracts.lines.Lines.{the_row}

-- once the line is no longer used, the lines are left as such a reading
abbrev pub LeavesLines : MutBor Reading → (Reading → Type 0) → Fml
LeavesLines lines after = Rests the_row lines after
