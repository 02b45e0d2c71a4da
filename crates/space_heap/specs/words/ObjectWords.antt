-- The words of an object's slot: its style and number of fields, its name, its fields, and then 0.
use Rattle.std.specs.Prelude.{◌≡◌, ℕ, ◌+◌, ◌*◌, ◌/◌, ◌%◌, ◌≤◌, ◌==◌, List, length, take, drop, replicate, slice_index_or, slice_set, Option, option_map, if◌then◌else◌}
use Rattle.space_model.specs.declared.object.Style.{Style}
use Rattle.space_model.specs.declared.object.Style.TheVariants.{Movable, Keeping}

-- a word of a slot, and 0 past its end
abbrev pub word_at : List ℕ → ℕ → ℕ
word_at words k = slice_index_or words k 0

-- the number that stands for a style in the first word
abbrev pub style_number : Style → ℕ
style_number Movable = 0
style_number Keeping = 1

-- the style that the first word tells
abbrev pub style_from : ℕ → Style
style_from first = if ((first / 4) % 2) == 1 then Keeping else Movable

-- the first word of an object with so many fields
abbrev pub first_word : ℕ → Style → ℕ
first_word fields style = 1 + 4 * style_number style + 256 * fields

-- how many fields the first word tells
abbrev pub count_in : List ℕ → ℕ
count_in words = word_at words 0 / 256

-- the words of the fields
abbrev pub fields_in : List ℕ → List ℕ
fields_in words = take (count_in words) (drop 2 words)

-- the words of a new object, whose fields are nil, in a slot of so many words
abbrev pub object_words : ℕ → ℕ → Style → ℕ → List ℕ
object_words width fields style name = slice_set (slice_set (replicate width 0) 0 (first_word fields style)) 1 name

-- the words after the one of a field changed
abbrev pub with_word : ℕ → ℕ → Option (List ℕ) → Option (List ℕ)
with_word i word found = option_map (λ words. slice_set words (2 + i) word) found

-- these are the words of an object
pub record AreObjectWords (words : List ℕ) : Type 0 where
  pub fits : 2 + count_in words ≤ length words
  pub first : word_at words 0 ≡ first_word (count_in words) (style_from (word_at words 0))
  -- the words past the fields are 0
  pub zeroed : (k : ℕ) → 2 + count_in words ≤ k → word_at words k ≡ 0
