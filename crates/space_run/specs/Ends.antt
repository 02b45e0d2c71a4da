-- How a replay ends: its status, what it has done then, and which call has failed.
use Rattle.std.specs.Prelude.{◌≡◌, ℕ, List, Option}
use Rattle.space_io.specs.Causes.{Rose}
use Rattle.space_run.specs.Replays.{Replays, StopsAtLine, HasFailedRead, HasFailedWrite, HasReachedLimit}
use Rattle.space_run.specs.declared.end.End.{End}
use Rattle.space_run.specs.declared.end.End.TheVariants.{Complete, Malformed, ReadFault, WriteFault, InputLimit}

-- the status of the program
abbrev pub status_of : End → ℕ
status_of Complete = 0
status_of Malformed = 3
status_of ReadFault = 4
status_of WriteFault = 5
status_of InputLimit = 6

-- what the replay has done
abbrev pub EndsAs : ℕ → Option (List ℕ) → Option (List ℕ) → ℕ → ℕ → Option (List ℕ) → Option (List ℕ) → End → Type 0
EndsAs limit rest_before rest_after ends_before ends_after written_before written_after Complete =
    Replays limit rest_before rest_after written_before written_after × Rose ends_before ends_after
EndsAs limit rest_before rest_after ends_before ends_after written_before written_after Malformed =
    StopsAtLine limit rest_before rest_after ends_before ends_after written_before written_after
EndsAs limit rest_before rest_after ends_before ends_after written_before written_after ReadFault =
    HasFailedRead limit rest_before rest_after written_before written_after × (ends_after ≡ ends_before)
EndsAs limit rest_before rest_after ends_before ends_after written_before written_after WriteFault =
    HasFailedWrite limit rest_before rest_after ends_before ends_after written_before written_after
EndsAs limit rest_before rest_after ends_before ends_after written_before written_after InputLimit =
    HasReachedLimit limit rest_before rest_after written_before written_after × (ends_after ≡ ends_before)

-- a failed read ends it, or a failed write, and is the only call that failed; at each other end none has
abbrev pub HasFailed : ℕ → ℕ → ℕ → ℕ → End → Type 0
HasFailed reads_before reads_after writes_before writes_after Complete = (reads_after ≡ reads_before) × (writes_after ≡ writes_before)
HasFailed reads_before reads_after writes_before writes_after Malformed = (reads_after ≡ reads_before) × (writes_after ≡ writes_before)
HasFailed reads_before reads_after writes_before writes_after ReadFault = Rose reads_before reads_after × (writes_after ≡ writes_before)
HasFailed reads_before reads_after writes_before writes_after WriteFault = (reads_after ≡ reads_before) × Rose writes_before writes_after
HasFailed reads_before reads_after writes_before writes_after InputLimit = (reads_after ≡ reads_before) × (writes_after ≡ writes_before)
