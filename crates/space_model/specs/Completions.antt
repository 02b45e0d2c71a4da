-- What a command does first with work that is under way.
use Rattle.std.specs.Prelude.{◌≡◌, ℕ, List, []}
use Rattle.space_model.specs.declared.event.Event.{Event}
use Rattle.space_model.specs.declared.event.Kind.TheVariants.{Major}
use Rattle.space_model.specs.declared.phase.Phase.{Phase}
use Rattle.space_model.specs.declared.phase.Phase.TheVariants.{Idle, Marking, Sweeping, Moving, Fixing}
use Rattle.space_model.specs.Compaction.{MovesAll, FixesAll}
use Rattle.space_model.specs.Markings.{GivesVerdict}
use Rattle.space_model.specs.Sweeps.{SweepAll}
use Rattle.space_model.specs.State.{State}

-- a marking that was under way is completed: a major verdict ends it, and then all pages are swept. Its scans are told by no reply
pub record CompletesMarking (s : State) (events : List Event) (t : State) : Type 0 where
  pub taken : List ℕ
  pub judged : State
  pub verdict : GivesVerdict s Major taken events judged
  pub freed : List ℕ
  pub sweeps : SweepAll judged freed t

-- by the phase: a marking is ended, pages that wait are swept, moves are made until the space is packed, and all references are corrected
abbrev pub CompletesIn : Phase → State → List Event → State → Type 0
CompletesIn Idle s events t = (events ≡ []) × (t ≡ s)
CompletesIn Marking s events t = CompletesMarking s events t
CompletesIn Sweeping s events t = (freed : List ℕ) × (events ≡ []) × SweepAll s freed t
CompletesIn Moving s events t = MovesAll s events t
CompletesIn Fixing s events t = (events ≡ []) × FixesAll s t

-- what was under way is completed
abbrev pub Completes : State → List Event → State → Type 0
Completes s events t = CompletesIn s.collector.phase s events t
