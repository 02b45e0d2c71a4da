-- The words that stand for small integers. The low bit 1 is CRuby's; that there is no sign is this project's own.
use Rattle.std.specs.Prelude.{◌≡◌, ℕ, ◌+◌, ◌*◌, ◌^◌, ◌<◌}

-- the word of a small integer
abbrev pub small_number_word : ℕ → ℕ
small_number_word number = 2 * number + 1

-- the integers that have a word: below 2 ^ 62
abbrev pub IsSmallInteger : ℕ → Type 0
IsSmallInteger number = number < 2 ^ 62

-- the word stands for the small integer
pub record IsSmallWord (word number : ℕ) : Type 0 where
  pub is : word ≡ small_number_word number
  pub small : IsSmallInteger number
