-- How the colours of objects stand for what a state knows of names while a marking goes on. All is said of names, as the marks of generations are.
use Rattle.std.specs.Prelude.{◌≡◌, ℕ, true, List, nat_eq, Some}
use Rattle.std.specs.Ordering.{nat_cmp}
use Rattle.std.specs.FinMap.{FinMap, get}
use Rattle.std.specs.Set.{is_member}
use Rattle.space_model.specs.declared.phase.Phase.{Phase}
use Rattle.space_model.specs.declared.phase.Phase.TheVariants.{Marking}
use Rattle.space_model.specs.Ages.{is_protected}
use Rattle.space_model.specs.Counts.{CountIs}
use Rattle.space_model.specs.Graph.{Item, IsChild}
use Rattle.space_model.specs.State.{History}
use Rattle.space_heap.specs.declared.colour.Colour.TheVariants.{Black}
use Rattle.space_heap.specs.HeapView.{HeapView}
use Rattle.space_heap.specs.Marking.{colour_of}
use Rattle.space_tracing.specs.Marking.{IsMarked}

-- the object at the address is black: it was scanned
abbrev pub IsBlack : HeapView → ℕ → Type 0
IsBlack heap address = colour_of heap address ≡ Black

-- no black object that the write barrier protects has a white child
abbrev pub HasMarkedChildren : List Item → FinMap nat_cmp ℕ → HeapView → Type 0
HasMarkedChildren graph place heap =
    (parent child a c : ℕ) → get place parent ≡ Some a → get place child ≡ Some c → IsChild graph parent child → is_protected graph parent ≡ true →
    IsBlack heap a → IsMarked heap c

-- the colours in a marking: a marked object's name was seen since the marking began, each name that it began with is marked, and as many
-- objects are black as scans were told
pub record AreColours (graph : List Item) (place : FinMap nat_cmp ℕ) (history : History) (heap : HeapView) : Type 0 where
  pub children : HasMarkedChildren graph place heap
  pub seen : (name address : ℕ) → get place name ≡ Some address → IsMarked heap address → is_member nat_eq history.seen name ≡ true
  pub began : (name address : ℕ) → get place name ≡ Some address → is_member nat_eq history.began name ≡ true → IsMarked heap address
  pub scanned : CountIs (IsBlack heap) history.scanned

-- outside a marking colours mean nothing
abbrev pub HasColours : List Item → FinMap nat_cmp ℕ → History → Phase → HeapView → Type 0
HasColours graph place history phase heap = phase ≡ Marking → AreColours graph place history heap
