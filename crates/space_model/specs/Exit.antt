-- The command `exit`: nothing is left of what the trace made, and the space stays. That finalizers run at the exit is CRuby's (3.3); that a
-- trace goes on after it is this project's own.
use Rattle.std.specs.Prelude.{◌≡◌, ℕ, List, [], ◌++◌, length}
use Rattle.space_model.specs.declared.event.Event.{Event}
use Rattle.space_model.specs.declared.event.Kind.TheVariants.{Full}
use Rattle.space_model.specs.declared.reply.Reply.{Reply}
use Rattle.space_model.specs.declared.reply.Reply.TheVariants.{ExitRan}
use Rattle.space_model.specs.Collections.{IsCollection}
use Rattle.space_model.specs.Completions.{Completes}
use Rattle.space_model.specs.FinalCommands.{ran_events, queue_replaced}
use Rattle.space_model.specs.Moments.{noted}
use Rattle.space_model.specs.State.{State}
use Rattle.space_model.specs.Sweeps.{SweepAll}

-- no root and no stack word is left
abbrev pub starts_dropped : State → State
starts_dropped s = record s { roots = []; stack = [] }

-- what was under way is completed, roots and stack words go, a whole collection takes all objects, all pages are swept, and then each
-- finalizer that waits runs
pub record Exits (s : State) (events : List Event) (ran : ℕ) (t : State) : Type 0 where
  pub idle : State
  pub completion : List Event
  pub completes : Completes s completion idle
  pub dropped : State
  pub drops : dropped ≡ noted (starts_dropped idle)
  pub collected : State
  pub told : List Event
  pub scans : ℕ
  pub collects : IsCollection dropped Full told scans collected
  pub swept : State
  pub freed : List ℕ
  pub sweeps : SweepAll collected freed swept
  pub events_are : events ≡ completion ++ told ++ ran_events swept.tables.queue
  pub ran_are : ran ≡ length swept.tables.queue
  pub after : t ≡ queue_replaced swept []

-- `exit`: it tells how many finalizers ran
abbrev pub AnswersExit : State → List Event → Reply → State → Type 0
AnswersExit s events (ExitRan ran) t = Exits s events ran t
AnswersExit s events _ t = ⊥
