-- What the heap's answers tell of a word.
use Rattle.std.proofs.Common.{◌≡◌, ℕ, cond, true, false, ◌∙◌, sym, subst, None, Some, ⊎_elim}
use Rattle.std.proofs.lemmas.Bool.{cases_Bool, cond-true, cond-false}
use Rattle.space_heap.specs.HeapView.{HeapView}
use Rattle.space_heap.specs.Objects.{is_occupied, is_object}
use Rattle.space_heap.proofs.ObjectLaws.{occupied_from_object}

-- the word of an object is its address
pub record IsThere (heap : HeapView) (word address : ℕ) : Type 0 where
  pub is : is_object heap word ≡ true
  pub same : address ≡ word
  pub stands : is_occupied heap address ≡ true

pub there : (heap : HeapView) (word address : ℕ) → Some address ≡ cond (is_object heap word) (Some word) None → IsThere heap word address
there heap word address e = ⊎_elim
    (λ (is : is_object heap word ≡ true).
    let same : address ≡ word = (let f : Some address ≡ Some word = e ∙ cond-true (is_object heap word) (Some word) None is in cc) in
    record { is = is; same = same; stands = subst (λ a. is_occupied heap a ≡ true) (sym same) (occupied_from_object heap word is) })
    (λ (none : is_object heap word ≡ false). let f : Some address ≡ None = e ∙ cond-false (is_object heap word) (Some word) None none in absurd (cc))
    (cases_Bool (is_object heap word))

pub not_there : (heap : HeapView) (word : ℕ) → None ≡ cond (is_object heap word) (Some word) None → is_object heap word ≡ false
not_there heap word e = ⊎_elim
    (λ (is : is_object heap word ≡ true). let f : None ≡ Some word = e ∙ cond-true (is_object heap word) (Some word) None is in absurd (cc))
    (λ (none : is_object heap word ≡ false). none)
    (cases_Bool (is_object heap word))
