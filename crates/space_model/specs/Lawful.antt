-- Which outputs a command may have, and the state after it: one row a command.
use Rattle.std.specs.Prelude.{◌≡◌, List, [], ◌∷◌, ◌++◌, map}
use Rattle.space_model.specs.declared.command.Command.{Command}
use Rattle.space_model.specs.declared.command.Command.TheVariants.{New, Set, DropRoot, Push, Raw, Pop, Store, RawStore, Load, Same, Unprotect}
use Rattle.space_model.specs.declared.command.Command.TheVariants.{Id, ById, WeakSet, WeakGet, WeakKey, WeakSize, WeakDelete}
use Rattle.space_model.specs.declared.command.Command.TheVariants.{Final, Unfinal, Run, Minor, Gc, Major, Mark, Finish, Sweep, Compact, Move, Fix, Stat, Dump, Peek, Exit}
use Rattle.space_model.specs.declared.event.Event.{Event}
use Rattle.space_model.specs.declared.event.Kind.TheVariants.{Minor as MinorKind, Full}
use Rattle.space_model.specs.declared.reply.Reply.{Reply}
use Rattle.space_model.specs.RootCommands.{Sets, DropsRoot, Loads}
use Rattle.space_model.specs.ObjectCommands.{Stores, RawStores, Unprotects, Compares}
use Rattle.space_model.specs.Collections.{Collects}
use Rattle.space_model.specs.CompactCommands.{AnswersCompact, AnswersMove, AnswersFix}
use Rattle.space_model.specs.Dumps.{Dumps, Peeks}
use Rattle.space_model.specs.Exit.{AnswersExit}
use Rattle.space_model.specs.FinalCommands.{DefinesFinal, TakesFinals, RunsFinals}
use Rattle.space_model.specs.IdCommands.{TellsIdOf, FindsById}
use Rattle.space_model.specs.MajorMarking.{AnswersMajor, AnswersMark, AnswersFinish}
use Rattle.space_model.specs.NewCommand.{AnswersNew}
use Rattle.space_model.specs.Outputs.{Output, Told, Replied}
use Rattle.space_model.specs.StackCommands.{Pushes, PushesWord, Pops}
use Rattle.space_model.specs.Stat.{AnswersStat}
use Rattle.space_model.specs.State.{State}
use Rattle.space_model.specs.Sweeps.{AnswersSweep}
use Rattle.space_model.specs.WeakCommands.{SetsWeak, GetsWeak, HasWeak, CountsWeak, DeletesWeak}

-- the reply of a command without events that gives one reply, and the state after it; of another command it never holds
abbrev pub Replies : State → Command → Reply → State → Type 0
Replies s (Set root value) reply t = Sets s root value reply t
Replies s (DropRoot root) reply t = DropsRoot s root reply t
Replies s (Push value) reply t = Pushes s value reply t
Replies s (Raw word) reply t = PushesWord s word reply t
Replies s Pop reply t = Pops s reply t
Replies s (Store object index value) reply t = Stores s object index value reply t
Replies s (RawStore object index value) reply t = RawStores s object index value reply t
Replies s (Load root object index) reply t = Loads s root object index reply t
Replies s (Same left right) reply t = Compares s left right reply t
Replies s (Unprotect object) reply t = Unprotects s object reply t
Replies s (Id object) reply t = TellsIdOf s object reply t
Replies s (ById root id) reply t = FindsById s root id reply t
Replies s (WeakSet weak key value) reply t = SetsWeak s weak key value reply t
Replies s (WeakGet root weak key) reply t = GetsWeak s root weak key reply t
Replies s (WeakKey weak key) reply t = HasWeak s weak key reply t
Replies s (WeakSize weak) reply t = CountsWeak s weak reply t
Replies s (WeakDelete weak key) reply t = DeletesWeak s weak key reply t
Replies s (Final object label) reply t = DefinesFinal s object label reply t
Replies s (Unfinal object) reply t = TakesFinals s object reply t
Replies s (Mark count) reply t = AnswersMark s count reply t
Replies s (Sweep count) reply t = AnswersSweep s count reply t
Replies s (Fix count) reply t = AnswersFix s count reply t
Replies s Stat reply t = AnswersStat s reply t
Replies s _ reply t = ⊥

-- the outputs are one reply, of which this holds
pub record IsOneReply (Is : Reply → Type 0) (answer : List Output) : Type 0 where
  pub reply : Reply
  pub answer_is : answer ≡ Replied reply ∷ []
  pub is : Is reply

-- the events of a command, its outputs after them, and the state after it
abbrev pub Effects : State → Command → List Event → List Output → State → Type 0
Effects s (New root fields guard style) events answer t = IsOneReply (λ reply. AnswersNew s root fields guard style events reply t) answer
Effects s (Run count) events answer t = IsOneReply (λ reply. RunsFinals s count events reply t) answer
Effects s Minor events answer t = IsOneReply (λ reply. Collects s MinorKind events reply t) answer
Effects s Gc events answer t = IsOneReply (λ reply. Collects s Full events reply t) answer
Effects s Major events answer t = IsOneReply (λ reply. AnswersMajor s events reply t) answer
Effects s Finish events answer t = IsOneReply (λ reply. AnswersFinish s events reply t) answer
Effects s Compact events answer t = IsOneReply (λ reply. AnswersCompact s events reply t) answer
Effects s (Move count) events answer t = IsOneReply (λ reply. AnswersMove s count events reply t) answer
Effects s Dump events answer t = (events ≡ []) × Dumps s answer t
Effects s (Peek object) events answer t = (events ≡ []) × Peeks s object answer t
Effects s Exit events answer t = IsOneReply (λ reply. AnswersExit s events reply t) answer
Effects s command events answer t = (events ≡ []) × IsOneReply (λ reply. Replies s command reply t) answer

-- the outputs are lawful for the command in the state s: its events and then its answer, and t is the state after them
pub record Lawful (s : State) (command : Command) (outputs : List Output) (t : State) : Type 0 where
  pub events : List Event
  pub answer : List Output
  pub outputs_are : outputs ≡ map Told events ++ answer
  pub effects : Effects s command events answer t

-- the outputs of a list of commands, each from the state after the one before
abbrev pub LawfulAll : State → List Command → List Output → State → Type 0
LawfulAll s [] outputs t = (outputs ≡ []) × (t ≡ s)
LawfulAll s (command ∷ commands) outputs t =
    (now : List Output) × (later : List Output) × (mid : State) × (outputs ≡ now ++ later) × Lawful s command now mid × LawfulAll mid commands later t
