-- What a step of the space does.
use Rattle.std.specs.Prelude.{◌≡◌, ℕ, List, [], ◌∷◌, Option}
use Rattle.std.specs.Io.KnownBytes.{Appends}
use Rattle.space_model.specs.declared.command.Command.{Command}
use Rattle.space_model.specs.declared.command.Command.TheVariants.{New, Run, Minor, Gc, Major, Finish, Compact, Move, Dump, Peek, Exit}
use Rattle.space_model.specs.declared.event.Event.{Event}
use Rattle.space_model.specs.declared.reply.Reply.{Reply}
use Rattle.space_model.specs.declared.reply.Reply.TheVariants.{Read}
use Rattle.space_model.specs.declared.value.Value.{Value}
use Rattle.space_model.specs.RootCommands.{WritesRoot}
use Rattle.space_model.specs.Lawful.{Effects, Lawful, Replies}
use Rattle.space_model.specs.Outputs.{Output, Replied}
use Rattle.space_model.specs.State.{State}
use Rattle.space_model.specs.Texts.{AreSpelled, text_of}
use Rattle.space_engine.specs.declared.counts.Counts.{Counts}
use Rattle.space_engine.specs.Counting.{counts_of}
use Rattle.space_engine.specs.Views.{View, SpaceView}
use Rattle.space_engine.specs.Stands.{Represents, Stands}
use Rattle.space_engine.specs.Ticks.{AreTicked}

-- the command isn't one that runs finalizers or shows objects: its outputs are events that tell of gone objects, and one reply
abbrev pub IsPlain : Command → Type 0
IsPlain (Run count) = ⊥
IsPlain Dump = ⊥
IsPlain (Peek object) = ⊥
IsPlain Exit = ⊥
IsPlain _ = Unit {0}

-- the command tells events, and gives one reply
abbrev pub IsEventful : Command → Type 0
IsEventful (New root fields guard style) = Unit {0}
IsEventful Minor = Unit {0}
IsEventful Gc = Unit {0}
IsEventful Major = Unit {0}
IsEventful Finish = Unit {0}
IsEventful Compact = Unit {0}
IsEventful (Move count) = Unit {0}
IsEventful _ = ⊥

-- the command tells no events, and gives one reply
abbrev pub IsQuiet : Command → Type 0
IsQuiet (New root fields guard style) = ⊥
IsQuiet (Run count) = ⊥
IsQuiet Minor = ⊥
IsQuiet Gc = ⊥
IsQuiet Major = ⊥
IsQuiet Finish = ⊥
IsQuiet Compact = ⊥
IsQuiet (Move count) = ⊥
IsQuiet Dump = ⊥
IsQuiet (Peek object) = ⊥
IsQuiet Exit = ⊥
IsQuiet _ = Unit {0}

-- the reply to a command that tells no events is lawful, and the view has what the state after it has
pub record Answers (s : State) (new : View) (command : Command) (reply : Reply) : Type 0 where
  pub state : State
  pub represents : Represents new state
  pub replies : Replies s command reply state

-- the root holds the value, which the reply tells, or there is no memory for a new root; and the view has what the state after it has
pub record HandsOut (s : State) (new : View) (root : List ℕ) (value : Value) (reply : Reply) : Type 0 where
  pub state : State
  pub represents : Represents new state
  pub writes : WritesRoot s root value (Read value) reply state

-- the events and the reply are lawful, and the view has what the state after them has
pub record AnswersWith (s : State) (new : View) (command : Command) (events : List Event) (reply : Reply) : Type 0 where
  pub state : State
  pub represents : Represents new state
  pub effects : Effects s command events (Replied reply ∷ []) state

-- the outputs of the command are lawful, and the view has what the state after them has
pub record Gives (s : State) (new : View) (command : Command) (outputs : List Output) : Type 0 where
  pub state : State
  pub represents : Represents new state
  pub lawful : Lawful s command outputs state

-- the outputs of the command are lawful, the space stands for the state after them, and IsSo holds of the outputs
pub record StepsFrom (s : State) (new : SpaceView) (command : Command) (IsSo : List Output → Type 0) : Type 0 where
  pub outputs : List Output
  pub state : State
  pub stands : Stands new state
  pub lawful : Lawful s command outputs state
  pub spelled : AreSpelled outputs
  pub so : IsSo outputs

-- the same, from each state that the space stands for
abbrev pub LawfulSteps : SpaceView → SpaceView → Command → (State → List Output → Type 0) → Type 0
LawfulSteps old new command IsSo = (s : State) → Stands old s → StepsFrom s new command (IsSo s)

-- the outputs were counted and written, and the ledger's count rose as they tell
pub record AreDone (s : State) (command : Command) (counts : Counts) (before after : Option (List ℕ)) (before_ticks after_ticks : ℕ)
    (outputs : List Output) : Type 0 where
  pub counted : counts ≡ counts_of outputs
  pub written : Appends before after (text_of outputs)
  pub ticked : AreTicked s command outputs before_ticks after_ticks
