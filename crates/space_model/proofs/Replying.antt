-- The replies of commands without events are effects, and lawful outputs.
use Rattle.std.proofs.Common.{[], ◌∷◌, refl}
use Rattle.space_model.specs.declared.command.Command.{Command}
use Rattle.space_model.specs.declared.command.Command.TheVariants.{New, Run, Minor, Gc, Major, Finish, Compact, Move, Dump, Peek, Exit}
use Rattle.space_model.specs.declared.reply.Reply.{Reply}
use Rattle.space_model.specs.Lawful.{Replies, Effects, Lawful}
use Rattle.space_model.specs.Outputs.{Replied}
use Rattle.space_model.specs.State.{State}

-- a reply is the answer, and there are no events
pub Effects-replied : (s : State) (command : Command) (reply : Reply) (t : State) → Replies s command reply t → Effects s command [] (Replied reply ∷ []) t
Effects-replied s (New root fields guard style) reply t r = absurd r
Effects-replied s (Run count) reply t r = absurd r
Effects-replied s Minor reply t r = absurd r
Effects-replied s Gc reply t r = absurd r
Effects-replied s Major reply t r = absurd r
Effects-replied s Finish reply t r = absurd r
Effects-replied s Compact reply t r = absurd r
Effects-replied s (Move count) reply t r = absurd r
Effects-replied s Dump reply t r = absurd r
Effects-replied s (Peek object) reply t r = absurd r
Effects-replied s Exit reply t r = absurd r
Effects-replied s command reply t r = (refl, record { reply = reply; answer_is = refl; is = r })

pub Lawful-replied : (s : State) (command : Command) (reply : Reply) (t : State) → Replies s command reply t → Lawful s command (Replied reply ∷ []) t
Lawful-replied s command reply t r = record { events = []; answer = Replied reply ∷ []; outputs_are = refl; effects = Effects-replied s command reply t r }
