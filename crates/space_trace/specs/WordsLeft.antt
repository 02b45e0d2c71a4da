-- What is left of a line while its words are read one after another.
use Rattle.std.specs.Prelude.{◌≡◌, ℕ, ◌==◌, false, List, [], ◌∷◌, ◌++◌, Option, None, Some, MatchOption}
use Rattle.std.specs.Borrow.{Bor}
use Rattle.space_model.specs.declared.command.Command.{Command}
use Rattle.space_model.specs.Grammar.{words_of, IsCommand}

-- the words that are left: none behind the last word
abbrev pub words_in : Option (Bor (List ℕ)) → List (List ℕ)
words_in None = []
words_in (Some rest) = words_of rest.now

-- no byte is a space
abbrev pub HasNoSpace : List ℕ → Type 0
HasNoSpace [] = Unit {0}
HasNoSpace (b ∷ bs) = ((b == 32) ≡ false) × HasNoSpace bs

-- the line begins with the word and a space, and the rest comes after it
pub record IsWordCut (line word rest : List ℕ) : Type 0 where
  pub whole : line ≡ word ++ 32 ∷ rest
  pub no_space : HasNoSpace word

-- the command that the words are, or that they are none
abbrev pub ReadsWords : List (List ℕ) → Option Command → Type 0
ReadsWords words result = MatchOption result ((command : Command) → IsCommand words command → ⊥) (λ command. IsCommand words command)
