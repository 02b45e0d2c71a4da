-- What the commands that change the stack reply, and the states after them.
use Rattle.std.proofs.Common.{◌≡◌, ℕ, List, [], ◌∷◌, ◌++◌, refl, ap, ◌∙◌, subst, inl, inr, Option, Result, Ok, Err}
use Rattle.space_model.specs.declared.command.Command.TheVariants.{Push, Raw, Pop}
use Rattle.space_model.specs.declared.command.Input.{Input}
use Rattle.space_model.specs.declared.reply.Refusal.{Refusal}
use Rattle.space_model.specs.declared.reply.Refusal.TheVariants.{NoWord}
use Rattle.space_model.specs.declared.reply.Reply.{Reply}
use Rattle.space_model.specs.declared.reply.Reply.TheVariants.{NoMemory, Done, Pushed, Refused}
use Rattle.space_model.specs.declared.value.Value.{Value}
use Rattle.space_model.specs.Moments.{noted}
use Rattle.space_model.specs.Operands.{input_value, value_word, named_by}
use Rattle.space_model.specs.Pieces.{stack_replaced}
use Rattle.space_model.specs.StackCommands.{PushesWord}
use Rattle.space_model.specs.State.{State}
use Rattle.space_engine.specs.Stands.{Holds}
use Rattle.space_engine.specs.Steps.{Answers}
use Rattle.space_engine.specs.Views.{View, with_stack}
use Rattle.space_engine.specs.Words.{word_result}
use Rattle.space_engine.proofs.Changes.{after_stack_replaced}
use Rattle.space_engine.proofs.Outcomes.{ok_same}
use Rattle.space_engine.proofs.WordResults.{refused_value}

module _ (v : View) (s : State) (h : Holds v s) where
  -- `raw`

  pub raw_done : (word : ℕ) (names : Option ℕ) → names ≡ named_by s.heap.place word →
      Answers s (with_stack v (v.stack ++ word ∷ [])) (Raw word) (Pushed word names)
  raw_done word names e = record {
    state = noted (stack_replaced s (v.stack ++ word ∷ []));
    represents = after_stack_replaced v s h (v.stack ++ word ∷ []);
    replies = inl (ap (Pushed word) e, rw h.represents.stack refl);
  }

  pub raw_lacking : (word : ℕ) → Answers s v (Raw word) NoMemory
  raw_lacking word = record { state = s; represents = h.represents; replies = inr (refl, refl) }

  -- `push`

  push_value : (new : View) (input : Input) (word : ℕ) (reply : Reply) (found : Result Value Refusal) → input_value s input ≡ found →
      Ok word ≡ word_result s.heap.place found → Answers s new (Raw word) reply → Answers s new (Push input) reply
  push_value new input word reply (Ok value) e w a =
      let raws : PushesWord s (value_word s.heap.place value) reply a.state =
      subst (λ n. PushesWord s n reply a.state) (ok_same word (value_word s.heap.place value) w) a.replies in
      record { state = a.state; represents = a.represents; replies = rw e raws }
  push_value new input word reply (Err why) e w a = absurd (cc)

  -- what is pushed is the word of the value
  pub pushed : (new : View) (input : Input) (word : ℕ) (reply : Reply) → Ok word ≡ word_result s.heap.place (input_value s input) →
      Answers s new (Raw word) reply → Answers s new (Push input) reply
  pushed new input word reply w a = push_value new input word reply (input_value s input) refl w a

  pub push_refused : (input : Input) (why : Refusal) → Err why ≡ word_result s.heap.place (input_value s input) → Answers s v (Push input) (Refused why)
  push_refused input why e = record {
    state = s;
    represents = h.represents;
    replies = rw (refused_value s.heap.place (input_value s input) why e) (record { reply_is = refl; unchanged = refl });
  }

  -- `pop`

  pub popped : (others : List ℕ) (top : ℕ) → v.stack ≡ others ++ top ∷ [] → Answers s (with_stack v others) Pop Done
  popped others top e = record {
    state = noted (stack_replaced s others);
    represents = after_stack_replaced v s h others;
    replies = inl (record { top = top; others = others; stack_is = h.represents.stack ∙ e; reply_is = refl; after = refl });
  }

  pub pop_refused : v.stack ≡ [] → Answers s v Pop (Refused NoWord)
  pop_refused e = record {
    state = s;
    represents = h.represents;
    replies = inr (h.represents.stack ∙ e, record { reply_is = refl; unchanged = refl });
  }
