-- The laws of finalizers, dumps and `exit`, which functions of this crate promise.
use Rattle.std.specs.Prelude.{◌≡◌, ℕ, ◌++◌, true, false, List, [], nat_eq, None}
use Rattle.std.specs.Set.{is_member}
use Rattle.std.specs.FinMap.{get}
use Rattle.space_model.specs.declared.command.Command.{Command}
use Rattle.space_model.specs.declared.command.Command.TheVariants.{Final, Unfinal, Exit}
use Rattle.space_model.specs.declared.event.Event.{Event}
use Rattle.space_model.specs.declared.phase.Phase.TheVariants.{Idle}
use Rattle.space_model.specs.Completions.{Completes}
use Rattle.space_model.specs.Dumps.{ArePresentNames, DumpsAll}
use Rattle.space_model.specs.Exit.{Exits}
use Rattle.space_model.specs.Finalizers.{labels_of, pair_names}
use Rattle.space_model.specs.Lawful.{Lawful}
use Rattle.space_model.specs.Outputs.{Output, ran_in}
use Rattle.space_model.specs.Pages.{pool_at}
use Rattle.space_model.specs.Sound.{Sound, IsSweptName}
use Rattle.space_model.specs.State.{State, is_present}

-- the command defines a finalizer, or takes some away
abbrev pub ChangesFinals : Command → Type 0
ChangesFinals (Final object label) = Unit {0}
ChangesFinals (Unfinal object) = Unit {0}
ChangesFinals _ = ⊥

-- some finalizers were queued over a command: they are those that were defined before it and aren't after it, and for each name they kept
-- their order. What was told to have run, and then what waits after it, is what waited before it, and then what was queued
pub record AreQueued (s : State) (outputs : List Output) (t : State) : Type 0 where
  pub queued : List (ℕ × List ℕ)
  pub defined : (name : ℕ) → labels_of queued name ++ labels_of t.tables.finals name ≡ labels_of s.tables.finals name
  pub order : ran_in outputs ++ t.tables.queue ≡ s.tables.queue ++ queued

-- so it is over each lawful command but `final` and `unfinal`. As what is queued is defined no more, and what ran waits no more, a finalizer
-- runs once at most
abbrev pub FinalsRunOnce : Type 0
FinalsRunOnce =
    (s t : State) (command : Command) (outputs : List Output) → Lawful s command outputs t → (ChangesFinals command → ⊥) → AreQueued s outputs t

-- `final` and `unfinal` run none, and leave what waits
abbrev pub QueueStays : Type 0
QueueStays =
    (s t : State) (command : Command) (outputs : List Output) → Lawful s command outputs t → ChangesFinals command →
    (ran_in outputs ≡ []) × (t.tables.queue ≡ s.tables.queue)

-- what runs over a lawful command, in a sound state, is a finalizer of an object that is gone and swept
abbrev pub FinalsRunOfSwept : Type 0
FinalsRunOfSwept =
    (s t : State) (command : Command) (outputs : List Output) → Lawful s command outputs t → Sound s →
    (name : ℕ) → is_member nat_eq (pair_names (ran_in outputs)) name ≡ true → IsSweptName t.graph t.heap.place t.heap.corpses name

-- nothing is left of what a trace made
pub record IsEmptied (t : State) : Type 0 where
  pub roots : t.roots ≡ []
  pub stack : t.stack ≡ []
  pub present : (name : ℕ) → is_present t name ≡ false
  pub corpses : (name : ℕ) → get t.heap.corpses name ≡ None
  pub spare : (page : ℕ) → pool_at t.heap.pages page ≡ None
  pub unswept : t.heap.unswept ≡ []
  pub phase : t.collector.phase ≡ Idle
  pub weak : t.tables.weak ≡ []
  pub finals : t.tables.finals ≡ []
  pub queue : t.tables.queue ≡ []

-- after `exit`, from a sound state, nothing is left but the graph and the names that were given an id; and what ran is, name for name, what
-- waited before it, and then what was defined
pub record LeavesNothing (s : State) (outputs : List Output) (t : State) : Type 0 where
  pub emptied : IsEmptied t
  pub graph : t.graph ≡ s.graph
  pub ids : t.tables.ids ≡ s.tables.ids
  pub ran : (name : ℕ) → labels_of (ran_in outputs) name ≡ labels_of s.tables.queue name ++ labels_of s.tables.finals name

-- so it is after each lawful `exit`
abbrev pub ExitLeavesNothing : Type 0
ExitLeavesNothing = (s t : State) (outputs : List Output) → Lawful s Exit outputs t → Sound s → LeavesNothing s outputs t

-- where what is under way can be completed, a sound state has an `exit`
abbrev pub ExitIsThere : Type 0
ExitIsThere =
    (s idle : State) (completion : List Event) → Completes s completion idle → Sound s →
    (events : List Event) × (ran : ℕ) × (t : State) × Exits s events ran t

-- a sound state has a `dump` of all lines
abbrev pub DumpIsThere : Type 0
DumpIsThere = (s : State) → Sound s → (names : List ℕ) × (answer : List Output) × ArePresentNames s names × DumpsAll s names answer

-- and one alone
abbrev pub DumpIsOne : Type 0
DumpIsOne =
    (s : State) (names others : List ℕ) (answer other : List Output) → ArePresentNames s names → ArePresentNames s others →
    DumpsAll s names answer → DumpsAll s others other → answer ≡ other
