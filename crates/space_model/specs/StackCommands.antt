-- The commands that change the stack: `push`, `raw` and `pop`. They choose nothing, but that they may be out of memory.
use Rattle.std.specs.Prelude.{◌≡◌, ◌⊎◌, ℕ, List, [], ◌∷◌, ◌++◌, Result, Ok, Err}
use Rattle.space_model.specs.declared.command.Input.{Input}
use Rattle.space_model.specs.declared.reply.Refusal.{Refusal}
use Rattle.space_model.specs.declared.reply.Refusal.TheVariants.{NoWord}
use Rattle.space_model.specs.declared.reply.Reply.{Reply}
use Rattle.space_model.specs.declared.reply.Reply.TheVariants.{NoMemory, Done, Pushed}
use Rattle.space_model.specs.declared.value.Value.{Value}
use Rattle.space_model.specs.Refusals.{Refuses}
use Rattle.space_model.specs.Operands.{input_value, value_word, named_by}
use Rattle.space_model.specs.Pieces.{StackReplaced}
use Rattle.space_model.specs.State.{State}

-- `raw`: the word goes on top of the stack, and the reply tells it and the name that it names; or there was no memory for it, and
-- nothing was changed
abbrev pub PushesWord : State → ℕ → Reply → State → Type 0
PushesWord s word reply t =
    ((reply ≡ Pushed word (named_by s.heap.place word)) × StackReplaced s (s.stack ++ word ∷ []) t) ⊎ ((reply ≡ NoMemory) × (t ≡ s))

-- what `push` answers to a value, or to the refusal that was found instead
abbrev pub PushReply : State → Result Value Refusal → Reply → State → Type 0
PushReply s (Ok value) reply t = PushesWord s (value_word s.heap.place value) reply t
PushReply s (Err why) reply t = Refuses s why reply t

-- `push`: the word of the value goes on top of the stack
abbrev pub Pushes : State → Input → Reply → State → Type 0
Pushes s value reply t = PushReply s (input_value s value) reply t

-- the top word, which is the last of the list, was taken away
pub record PopsTop (s : State) (reply : Reply) (t : State) : Type 0 where
  pub top : ℕ
  pub others : List ℕ
  pub stack_is : s.stack ≡ others ++ top ∷ []
  pub reply_is : reply ≡ Done
  pub after : StackReplaced s others t

-- `pop`: the top word is taken away, where there is one
abbrev pub Pops : State → Reply → State → Type 0
Pops s reply t = PopsTop s reply t ⊎ ((s.stack ≡ []) × Refuses s NoWord reply t)
