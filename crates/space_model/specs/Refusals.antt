-- How refusals are found: over all operands, and by one order, never from left to right; and that a refused command changes nothing.
use Rattle.std.specs.Prelude.{◌≡◌, ℕ, nat_le, if◌then◌else◌, Result, Ok, Err}
use Rattle.space_model.specs.declared.reply.Refusal.{Refusal}
use Rattle.space_model.specs.declared.reply.Refusal.TheVariants.{TooLarge, NoRoot, NoWord, NotObject, NoField, Protected, NoId, NotMarking, NotCompacting}
use Rattle.space_model.specs.declared.reply.Reply.{Reply}
use Rattle.space_model.specs.declared.reply.Reply.TheVariants.{Refused}
use Rattle.space_model.specs.State.{State}

-- the place of a refusal in the one order
abbrev pub rank : Refusal → ℕ
rank TooLarge = 0
rank NoRoot = 1
rank NoWord = 2
rank NotObject = 3
rank NoField = 4
rank Protected = 5
rank NoId = 6
rank NotMarking = 7
rank NotCompacting = 8

-- the refusal that comes first in the order
abbrev pub first_refusal : Refusal → Refusal → Refusal
first_refusal why other = if nat_le (rank why) (rank other) then why else other

-- both values, or the refusal that comes first
abbrev pub both : {A B : Type 0} → Result A Refusal → Result B Refusal → Result (A × B) Refusal
both (Ok a) (Ok b) = Ok (a, b)
both (Ok a) (Err why) = Err why
both (Err why) (Ok b) = Err why
both (Err why) (Err other) = Err (first_refusal why other)

-- a value, and what comes of it
abbrev pub and_then : {A B : Type 0} → Result A Refusal → (A → Result B Refusal) → Result B Refusal
and_then (Ok x) f = f x
and_then (Err why) f = Err why

-- the command was refused, and the state is as it was
pub record Refuses (s : State) (why : Refusal) (reply : Reply) (t : State) : Type 0 where
  pub reply_is : reply ≡ Refused why
  pub unchanged : t ≡ s
