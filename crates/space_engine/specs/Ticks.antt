-- How far the ledger's count rises by a command.
use Rattle.std.specs.Prelude.{◌≡◌, ◌≢◌, ◌⊎◌, ℕ, ◌+◌, ◌^◌, ◌≤◌, ◌<◌, List, [], ◌∷◌, ◌++◌, length, map}
use Rattle.space_model.specs.declared.command.Command.{Command}
use Rattle.space_model.specs.declared.command.Command.TheVariants.{New, Load, Minor, Gc, Major, Mark, Finish, Compact, Move, Fix, Dump, Peek, Exit}
use Rattle.space_model.specs.declared.event.Event.{Event}
use Rattle.space_model.specs.declared.phase.Phase.TheVariants.{Marking, Moving, Fixing}
use Rattle.space_model.specs.declared.reply.Reply.{Reply}
use Rattle.space_model.specs.declared.reply.Reply.TheVariants.{NoMemory, Scanned, Marked, FixCount, Dumped, Refused}
use Rattle.space_model.specs.Completions.{Completes}
use Rattle.space_model.specs.Counts.{CountIs}
use Rattle.space_model.specs.DumpLines.{DumpLine}
use Rattle.space_model.specs.MajorMarking.{EndsMarking}
use Rattle.space_model.specs.Outputs.{Output, Told, Listed, Peeked, Replied}
use Rattle.space_model.specs.Reach.{Reach}
use Rattle.space_model.specs.State.{State}

-- whatever is written, the count rises by fewer than this, or stays
abbrev pub RisesByFewer : ℕ → ℕ → ℕ → Type 0
RisesByFewer few before after = (before ≤ after) × (after < before + few)

-- more than the scans of two markings of a heap, and so than any command makes
abbrev pub most_ticks : ℕ
most_ticks = 2 ^ 26

-- a command that tells no events: in `load` by one, where a field was read, in `mark` and `fix` by the scans or
-- visits that the reply tells, and else not at all
abbrev pub IsReplyTicked : Command → Reply → ℕ → ℕ → Type 0
IsReplyTicked (Load root object index) (Refused why) before after = after ≡ before
IsReplyTicked (Load root object index) reply before after = after ≡ before + 1
IsReplyTicked (Mark count) (Marked scans grey) before after = after ≡ before + scans
IsReplyTicked (Fix count) (FixCount visits done) before after = after ≡ before + visits
IsReplyTicked command reply before after = after ≡ before

-- no compaction is under way
abbrev pub IsResting : State → Type 0
IsResting s = (s.collector.phase ≢ Moving) × (s.collector.phase ≢ Fixing)

-- the reads that complete what is under way: those that end a marking, which are as many as `finish` would tell; in a compaction those of what is
-- pinned and visited; and else none
pub record AreCompletionScans (s : State) (scans : ℕ) : Type 0 where
  pub marking : s.collector.phase ≡ Marking → (events : List Event) × (judged : State) × EndsMarking s events scans judged
  pub others : s.collector.phase ≢ Marking → IsResting s → scans ≡ 0

-- what is under way is completed, and so many scans come after it
pub record IsCompletedTicked (s : State) (scans before after : ℕ) : Type 0 where
  pub ended : ℕ
  pub ended_are : AreCompletionScans s ended
  pub ticked : after ≡ before + ended + scans

-- a whole collection: once for each name that is reached when its marking starts, which is when what was under way is completed
pub record IsMarkingTicked (s : State) (before after : ℕ) : Type 0 where
  pub idle : State
  pub completion : List Event
  pub completes : Completes s completion idle
  pub scans : ℕ
  pub scanned : CountIs (Reach idle) scans
  pub ticked : IsCompletedTicked s scans before after

-- by the command, its events and its reply: in `minor`, `gc` and `compact` by the scans that the reply tells, after those that complete what is under way; in
-- `major` and `exit`, which leaves nothing to scan, by the latter alone; in `finish` by the scans that the reply tells; in `new`, which tells events only where it collects, by the scans of
-- that collection, and without one not at all, where no compaction is under way; in `move` by the objects of style K
abbrev pub IsTicked : State → Command → List Event → Reply → ℕ → ℕ → Type 0
IsTicked s Minor events (Scanned count) before after = IsCompletedTicked s count before after
IsTicked s Gc events (Scanned count) before after = IsCompletedTicked s count before after
IsTicked s Major events reply before after = IsCompletedTicked s 0 before after
IsTicked s Exit events reply before after = IsCompletedTicked s 0 before after
IsTicked s Finish events (Scanned count) before after = after ≡ before + count
IsTicked s (New root fields guard style) [] reply before after = IsResting s → after ≡ before
IsTicked s (New root fields guard style) (event ∷ events) reply before after = IsResting s → IsMarkingTicked s before after
IsTicked s Compact events (Scanned count) before after = IsCompletedTicked s count before after
IsTicked s (Move count) events (Refused why) before after = after ≡ before
IsTicked s (Move count) events reply before after = before ≤ after
IsTicked s command events reply before after = IsReplyTicked command reply before after

-- in a dump by the lines, and by one more where there was no memory for the next
pub record AreDumpTicked (outputs : List Output) (before after : ℕ) : Type 0 where
  pub lines : List DumpLine
  pub lacking : ℕ
  pub outputs_are : ((lacking ≡ 0) × (outputs ≡ map Listed lines ++ Replied (Dumped (length lines)) ∷ []))
      ⊎ ((lacking ≡ 1) × (outputs ≡ map Listed lines ++ Replied NoMemory ∷ []))
  pub ticked : after ≡ before + length lines + lacking

-- in `peek` by one, where an object is shown
abbrev pub ArePeekTicked : List Output → ℕ → ℕ → Type 0
ArePeekTicked (Peeked address words ∷ []) before after = after ≡ before + 1
ArePeekTicked _ before after = after ≡ before

-- the outputs are events and one reply, and the count rises as they tell
pub record AreReplyTicked (s : State) (command : Command) (outputs : List Output) (before after : ℕ) : Type 0 where
  pub events : List Event
  pub reply : Reply
  pub outputs_are : outputs ≡ map Told events ++ Replied reply ∷ []
  pub ticked : IsTicked s command events reply before after

-- by the command and its outputs
abbrev pub AreTicked : State → Command → List Output → ℕ → ℕ → Type 0
AreTicked s Dump outputs before after = AreDumpTicked outputs before after
AreTicked s (Peek object) outputs before after = ArePeekTicked outputs before after
AreTicked s command outputs before after = AreReplyTicked s command outputs before after
