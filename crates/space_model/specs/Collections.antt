-- Collections: a marking and its verdict in one command, and the commands that collect. That a collection first completes what is under way
-- is this project's own.
use Rattle.std.specs.Prelude.{◌≡◌, ℕ, ◌+◌, ◌≤◌, true, false, List, ◌++◌, length, nat_eq}
use Rattle.std.specs.Set.{is_member}
use Rattle.space_model.specs.declared.event.Event.{Event}
use Rattle.space_model.specs.declared.event.Kind.{Kind}
use Rattle.space_model.specs.declared.event.Kind.TheVariants.{Minor, Major, Full}
use Rattle.space_model.specs.declared.reply.Reply.{Reply}
use Rattle.space_model.specs.declared.reply.Reply.TheVariants.{Scanned}
use Rattle.space_model.specs.Ages.{is_old}
use Rattle.space_model.specs.Completions.{Completes}
use Rattle.space_model.specs.Counts.{CountIs}
use Rattle.space_model.specs.Markings.{StartMark, GivesVerdict}
use Rattle.space_model.specs.State.{State, is_present}

-- the name isn't old, and the verdict doesn't take it
abbrev pub IsYoungSurvivor : State → List ℕ → ℕ → Type 0
IsYoungSurvivor marked taken name = (is_present marked name ≡ true) × (is_member nat_eq taken name ≡ false) × (is_old marked name ≡ false)

-- the name is old, and had a child that wasn't old at some moment since the last marking began
abbrev pub IsSuspect : State → ℕ → Type 0
IsSuspect idle name = (is_old idle name ≡ true) × (is_member nat_eq idle.history.mixed name ≡ true)

-- the number of scans of a minor marking: each young survivor is scanned, and besides them only suspects
pub record AreMinorScans (idle marked : State) (taken : List ℕ) (scans : ℕ) : Type 0 where
  pub young : ℕ
  pub young_are : CountIs (IsYoungSurvivor marked taken) young
  pub suspects : ℕ
  pub suspects_are : CountIs (IsSuspect idle) suspects
  pub at_least : young ≤ scans
  pub at_most : scans ≤ young + suspects

-- the number of scans of a marking and its verdict in one command. A whole marking scans each name once that was reached when it started.
-- No one command starts a marking and ends it by a major verdict. `idle` is the state before the start, `marked` the one before the
-- verdict, which takes these names
abbrev pub AreScans : Kind → State → State → List ℕ → ℕ → Type 0
AreScans Minor idle marked taken scans = AreMinorScans idle marked taken scans
AreScans Major idle marked taken scans = Unit {0}
AreScans Full idle marked taken scans = scans ≡ length marked.history.seen

-- what was under way is completed, a marking starts, and a verdict of the kind ends it. `idle` is the state after the completion
pub record IsCollection (s : State) (kind : Kind) (events : List Event) (scans : ℕ) (t : State) : Type 0 where
  pub idle : State
  pub completion : List Event
  pub completes : Completes s completion idle
  pub marked : State
  pub starts : StartMark idle marked
  pub taken : List ℕ
  pub told : List Event
  pub verdict : GivesVerdict marked kind taken told t
  pub scans_are : AreScans kind idle marked taken scans
  pub events_are : events ≡ completion ++ told

-- a command that collects tells how many scans its marking did
abbrev pub Collects : State → Kind → List Event → Reply → State → Type 0
Collects s kind events (Scanned scans) t = IsCollection s kind events scans t
Collects s kind events _ t = ⊥
