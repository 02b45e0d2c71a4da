-- An object by the words of its slot, and one of these words.
use Rattle.std.specs.Prelude.{◌≡◌, ℕ, List, length}
use Rattle.space_heap.specs.words.ObjectWords.{word_at, style_from, count_in, fields_in, AreObjectWords}
use Rattle.space_heap.specs.Slots.{ObjectView}

-- these are the words of the object
pub record IsShownBy (o : ObjectView) (words : List ℕ) : Type 0 where
  pub shape : AreObjectWords words
  pub name : o.name ≡ word_at words 1
  pub style : o.style ≡ style_from (word_at words 0)
  pub fields : o.fields ≡ fields_in words
  pub count : count_in words ≡ length o.fields

-- this is one of the words of the object
abbrev pub IsWordOf : ObjectView → ℕ → ℕ → Type 0
IsWordOf o k word = (words : List ℕ) × IsShownBy o words × (word ≡ word_at words k)
