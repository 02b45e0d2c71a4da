-- What marking has done to a heap, from one moment to a later one.
use Rattle.std.specs.Prelude.{◌≡◌, ◌≢◌, ◌⊎◌, ◌||◌, ℕ, ◌+◌, Bool, true, false, List, ◌++◌, length, nat_eq}
use Rattle.std.specs.List.{IsDistinct}
use Rattle.std.specs.Set.{is_member}
use Rattle.space_model.specs.Counts.{CountIs}
use Rattle.space_model.specs.Reach.{IsReached}
use Rattle.space_heap.specs.declared.colour.Colour.TheVariants.{White, Black}
use Rattle.space_heap.specs.HeapView.{HeapView}
use Rattle.space_heap.specs.Objects.{object_of}
use Rattle.space_heap.specs.Marking.{colour_of}
use Rattle.space_heap.specs.Generations.{is_protected_at}
use Rattle.space_tracing.specs.Scans.{is_aged_at, has_young_child}
use Rattle.space_tracing.specs.Graph.{IsChild, IsNamed, SameGraph}

-- the object at the address isn't white
abbrev pub IsMarked : HeapView → ℕ → Type 0
IsMarked v n = colour_of v n ≢ White

-- whether its fields were read: it was black and scanned again, which a whole marking does to none, or was scanned for the first time
abbrev pub is_read : List ℕ → List ℕ → ℕ → Bool
is_read again done n = is_member nat_eq again n || is_member nat_eq done n

-- From old to new the words were visited, and the objects of again and of done were scanned, each once.
pub record Marking (old new : HeapView) (words again done : List ℕ) : Type 0 where
  pub kept : (a : ℕ) → IsMarked old a → IsMarked new a
  pub black_kept : (a : ℕ) → colour_of old a ≡ Black → colour_of new a ≡ Black
  pub once : IsDistinct nat_eq done
  pub done_black : (a : ℕ) → is_member nat_eq done a ≡ true → colour_of new a ≡ Black
  pub done_new : (a : ℕ) → is_member nat_eq done a ≡ true → colour_of old a ≢ Black
  pub black_done : (a : ℕ) → colour_of new a ≡ Black → colour_of old a ≢ Black → is_member nat_eq done a ≡ true
  pub again_once : IsDistinct nat_eq again
  pub again_black : (a : ℕ) → is_member nat_eq again a ≡ true → colour_of old a ≡ Black
  pub named : (n : ℕ) → IsNamed old words n → IsMarked new n
  pub closed : (m n : ℕ) → is_read again done m ≡ true → IsChild old m n → IsMarked new n
  pub sound : (n : ℕ) → IsMarked new n → IsReached (IsChild old) (λ a. IsMarked old a ⊎ IsNamed old words a) n

-- the scan of m keeps n: m has age 2 or more, and n is an unprotected child of it
pub record IsKeeper (v : HeapView) (m n : ℕ) : Type 0 where
  pub aged : is_aged_at v m ≡ true
  pub child : IsChild v m n
  pub unprotected : is_protected_at v n ≡ false

-- What scans of the objects with the property left of remembered and kept marks: each that has age 2 or more is remembered exactly where it
-- has a protected child of age 0 or 1, and keeps its unprotected children. No other mark of these kinds changed.
pub record IsNoted (old new : HeapView) (IsScanned : ℕ → Type 0) : Type 0 where
  pub remembered_aged : (n : ℕ) → IsScanned n → is_aged_at old n ≡ true → (object_of new n).remembered ≡ has_young_child old n
  pub remembered_young : (n : ℕ) → is_aged_at old n ≡ false → (object_of new n).remembered ≡ (object_of old n).remembered
  pub remembered_other : (n : ℕ) → (IsScanned n → ⊥) → (object_of new n).remembered ≡ (object_of old n).remembered
  pub kept_before : (n : ℕ) → (object_of old n).kept ≡ true → (object_of new n).kept ≡ true
  pub kept_now : (m n : ℕ) → IsScanned m → IsKeeper old m n → (object_of new n).kept ≡ true
  pub kept_only : (n : ℕ) → (object_of new n).kept ≡ true → ((object_of old n).kept ≡ true) ⊎ ((m : ℕ) × IsScanned m × IsKeeper old m n)

-- the scans of again and of done left this of remembered and kept marks
abbrev pub Notes : HeapView → HeapView → List ℕ → List ℕ → Type 0
Notes old new again done = IsNoted old new (λ n. is_read again done n ≡ true)

-- marking did this, and nothing but colours, remembered and kept marks and the list of grey addresses changed
pub record Marks (old new : HeapView) (words again done : List ℕ) : Type 0 where
  pub same : SameGraph old new
  pub notes : Notes old new again done
  pub marking : Marking old new words again done

-- From any moment before, marking went on by k scans.
abbrev pub GoesOn : HeapView → HeapView → ℕ → Type 0
GoesOn now new k = (old : HeapView) (words again done : List ℕ) → Marks old now words again done →
    (more : List ℕ) × Marks old new words again (done ++ more) × (length more ≡ k)

-- so many have the one property and so many the other, and the count is the sum of both numbers
pub record CountsAre (P Q : ℕ → Type 0) (count : ℕ) : Type 0 where
  pub first : ℕ
  pub second : ℕ
  pub have_first : CountIs P first
  pub have_second : CountIs Q second
  pub sum : first + second ≡ count
