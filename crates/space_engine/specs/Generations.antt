-- How the heap's marks of generations stand for what a state knows of names. All is said of names, never of the words of fields: a word that an
-- object left names nothing, while its name goes on being a child.
use Rattle.std.specs.Prelude.{◌≡◌, ◌≢◌, ◌⊎◌, ℕ, ◌≤◌, true, false, List, nat_eq, min, Some, if◌then◌else◌}
use Rattle.std.specs.Ordering.{nat_cmp}
use Rattle.std.specs.FinMap.{FinMap, get}
use Rattle.std.specs.Set.{is_member}
use Rattle.space_model.specs.declared.phase.Phase.TheVariants.{Marking}
use Rattle.space_model.specs.Ages.{is_protected, outlived_by}
use Rattle.space_model.specs.Graph.{Item, IsChild}
use Rattle.space_model.specs.State.{Collector}
use Rattle.space_heap.specs.declared.colour.Colour.TheVariants.{Black}
use Rattle.space_heap.specs.HeapView.{HeapView}
use Rattle.space_heap.specs.Marking.{colour_of}
use Rattle.space_heap.specs.Objects.{object_of}
use Rattle.space_heap.specs.Generations.{is_old, is_aged}

-- the age that the object of a name has: the verdicts that it outlived, up to 3; and 0 where the write barrier doesn't protect it
abbrev pub age_of : List Item → List ℕ → ℕ → ℕ
age_of graph outlived name = if is_protected graph name then min (outlived_by outlived name) 3 else 0

-- each object has the age of its name
abbrev pub HasAges : List Item → FinMap nat_cmp ℕ → List ℕ → HeapView → Type 0
HasAges graph place outlived heap =
    (name address : ℕ) → get place name ≡ Some address → (object_of heap address).age ≡ age_of graph outlived name

-- the names that are kept for certain are, and where no others may be they are all; a kept object is unprotected, and outlived a verdict but in a
-- marking, whose scans keep new objects too
pub record HasKept (graph : List Item) (place : FinMap nat_cmp ℕ) (collector : Collector) (heap : HeapView) : Type 0 where
  pub certain : (name address : ℕ) → get place name ≡ Some address → is_member nat_eq collector.kept name ≡ true →
      (object_of heap address).kept ≡ true
  pub only : collector.vague ≡ 0 → (name address : ℕ) → get place name ≡ Some address → (object_of heap address).kept ≡ true →
      is_member nat_eq collector.kept name ≡ true
  pub unprotected : (name address : ℕ) → get place name ≡ Some address → (object_of heap address).kept ≡ true → is_protected graph name ≡ false
  pub outlived : collector.phase ≢ Marking → (name address : ℕ) → get place name ≡ Some address → (object_of heap address).kept ≡ true →
      1 ≤ outlived_by collector.outlived name

-- a remembered object has age 2 or more, and its name had a child that wasn't old at some moment since the last marking began
pub record HasRemembered (place : FinMap nat_cmp ℕ) (mixed : List ℕ) (heap : HeapView) : Type 0 where
  pub aged : (name address : ℕ) → get place name ≡ Some address → (object_of heap address).remembered ≡ true →
      is_aged (object_of heap address) ≡ true
  pub mixed_since : (name address : ℕ) → get place name ≡ Some address → (object_of heap address).remembered ≡ true →
      is_member nat_eq mixed name ≡ true

-- the children of an old object that isn't remembered are old or kept
abbrev pub HasOldChildren : List Item → FinMap nat_cmp ℕ → HeapView → Type 0
HasOldChildren graph place heap =
    (parent child a c : ℕ) → get place parent ≡ Some a → get place child ≡ Some c → IsChild graph parent child →
    is_old (object_of heap a) ≡ true → (object_of heap a).remembered ≡ false →
    (is_old (object_of heap c) ≡ true) ⊎ ((object_of heap c).kept ≡ true)

-- in a marking the children of a black object of age 2 or more that isn't remembered have age 2 or more or are kept: so they are old or kept once
-- its verdict has raised the ages
abbrev pub HasAgedChildren : List Item → FinMap nat_cmp ℕ → HeapView → Type 0
HasAgedChildren graph place heap =
    (parent child a c : ℕ) → get place parent ≡ Some a → get place child ≡ Some c → IsChild graph parent child → colour_of heap a ≡ Black →
    is_aged (object_of heap a) ≡ true → (object_of heap a).remembered ≡ false →
    (is_aged (object_of heap c) ≡ true) ⊎ ((object_of heap c).kept ≡ true)

-- the heap's ages, kept and remembered marks are those of the state, and the write barrier remembers what a minor marking has to scan
pub record HasGenerations (graph : List Item) (place : FinMap nat_cmp ℕ) (collector : Collector) (mixed : List ℕ) (heap : HeapView) : Type 0 where
  pub ages : HasAges graph place collector.outlived heap
  pub kept : HasKept graph place collector heap
  pub remembered : HasRemembered place mixed heap
  pub old_children : collector.phase ≢ Marking → HasOldChildren graph place heap
  pub aged_children : collector.phase ≡ Marking → HasAgedChildren graph place heap
