-- The colours in a marking stay where the same objects are black, what was marked is, and what became marked was seen.
use Rattle.std.proofs.Common.{◌≡◌, ◌⊎◌, ℕ, true, List, nat_eq, Some, ⊎_elim, inl}
use Rattle.std.specs.Ordering.{nat_cmp}
use Rattle.std.specs.Set.{is_member}
use Rattle.std.specs.FinMap.{FinMap, get}
use Rattle.space_model.specs.Ages.{is_protected}
use Rattle.space_model.specs.Counts.{CountIs}
use Rattle.space_model.specs.Graph.{Item, IsChild}
use Rattle.space_model.specs.State.{History}
use Rattle.space_heap.specs.HeapView.{HeapView}
use Rattle.space_tracing.specs.Marking.{IsMarked}
use Rattle.space_engine.specs.Colours.{IsBlack, AreColours}

-- the same objects are black after a change
pub record SameBlack (heap heap' : HeapView) : Type 0 where
  pub still : (a : ℕ) → IsBlack heap a → IsBlack heap' a
  pub only : (a : ℕ) → IsBlack heap' a → IsBlack heap a

-- so as many are
pub black_count : (heap heap' : HeapView) (count : ℕ) → SameBlack heap heap' → CountIs (IsBlack heap) count → CountIs (IsBlack heap') count
black_count heap heap' count same c = record {
  names = c.names;
  once = c.once;
  are = λ a. (λ m. same.still a ((c.are a).0 m), λ black. (c.are a).1 (same.only a black));
  long = c.long;
}

-- the child is one that the protected parent had, or it is marked
abbrev pub IsOldOrMarked : List Item → HeapView → ℕ → ℕ → ℕ → Type 0
IsOldOrMarked graph heap' parent child address = (IsChild graph parent child × (is_protected graph parent ≡ true)) ⊎ IsMarked heap' address

module _ (graph graph' : List Item) (place : FinMap nat_cmp ℕ) (history : History) (seen mixed : List ℕ) (heap heap' : HeapView)
    (c : AreColours graph place history heap) (more : (n : ℕ) → is_member nat_eq history.seen n ≡ true → is_member nat_eq seen n ≡ true)
    (black : SameBlack heap heap') (marked : (a : ℕ) → IsMarked heap a → IsMarked heap' a)
    (greyed : (name a : ℕ) → get place name ≡ Some a → IsMarked heap' a → IsMarked heap a ⊎ (is_member nat_eq seen name ≡ true))
    (children : (parent child a b : ℕ) → get place parent ≡ Some a → get place child ≡ Some b → IsChild graph' parent child →
    is_protected graph' parent ≡ true → IsBlack heap' a → IsOldOrMarked graph heap' parent child b) where
  pub colours_kept : AreColours graph' place (record history { seen = seen; mixed = mixed }) heap'
  colours_kept = record {
    children = λ parent child a b pat cat is protected now. ⊎_elim
        (λ (was, before). marked b (c.children parent child a b pat cat was before (black.only a now)))
        (λ m. m)
        (children parent child a b pat cat is protected now);
    seen = λ name a e m. ⊎_elim (λ was. more name (c.seen name a e was)) (λ now. now) (greyed name a e m);
    began = λ name a e m. marked a (c.began name a e m);
    scanned = black_count heap heap' history.scanned black c.scanned;
  }

-- only more was seen
pub colours_noted : (graph : List Item) (place : FinMap nat_cmp ℕ) (history : History) (seen mixed : List ℕ) (heap : HeapView) →
    ((n : ℕ) → is_member nat_eq history.seen n ≡ true → is_member nat_eq seen n ≡ true) → AreColours graph place history heap →
    AreColours graph place (record history { seen = seen; mixed = mixed }) heap
colours_noted graph place history seen mixed heap more c =
    colours_kept graph graph place history seen mixed heap heap c more (record { still = λ a b. b; only = λ a b. b }) (λ a m. m)
    (λ name a e m. inl m) (λ parent child a b pat cat is protected now. inl (is, protected))
