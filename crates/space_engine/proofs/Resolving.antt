-- What the words of values, and those that are stored in fields, are resolved to.
use Rattle.std.proofs.Common.{◌≡◌, ◌≢◌, ℕ, ◌+◌, ◌*◌, ◌%◌, sym, ap, ◌∙◌, arith, Option, Some, ⊎_elim}
use Rattle.std.specs.Prelude.{slice_get}
use Rattle.std.specs.Option.{unwrap_or}
use Rattle.std.specs.FinMap.{get, empty, get-empty}
use Rattle.std.specs.Ordering.{nat_cmp}
use Rattle.std.proofs.lemmas.Bool.{cases_Bool, cond-true, cond-false}
use Rattle.space_model.specs.declared.value.Value.{Value}
use Rattle.space_model.specs.declared.value.Value.TheVariants.{Nil, Small, Name}
use Rattle.space_model.specs.Graph.{item_of}
use Rattle.space_model.specs.Operands.{value_word}
use Rattle.space_model.specs.Places.{pool_of}
use Rattle.space_model.specs.State.{State}
use Rattle.space_model.proofs.MapLaws.{some_get}
use Rattle.space_model.proofs.StackWords.{slot_address-even, slot_address-some}
use Rattle.space_model.proofs.ValuesKept.{IsPresentValue, name_present}
use Rattle.space_heap.specs.Objects.{is_moved, resolved, HasNoMoved}
use Rattle.space_heap.proofs.MovedLaws.{resolved_unmoved}
use Rattle.space_heap.proofs.TakenLaws.{resolved_object}
use Rattle.space_model.specs.StoredWords.{is_stale, stored_word}
use Rattle.space_engine.specs.Stands.{Holds}
use Rattle.space_engine.specs.Views.{View}
use Rattle.space_engine.proofs.Outcomes.{none_some, some_same}

module _ (v : View) (s : State) (h : Holds v s) where
  -- a word that no name left is its own
  not_left : (word : ℕ) → ((name : ℕ) → get s.heap.left name ≢ Some word) → resolved v.heap word ≡ word
  not_left word none = resolved_unmoved v.heap word (⊎_elim
      (λ moved. let l = h.represents.heap.left.only word moved in absurd (none l.0 l.1))
      (λ e. e)
      (cases_Bool (is_moved v.heap word)))

  zero_resolved : resolved v.heap 0 ≡ 0
  zero_resolved = not_left 0 (λ name e.
      let slot = h.sound.left.slots.at name 0 e in
      let some = slot_address-some slot.page (pool_of s.graph name) slot.slot in
      let is = slot.is in
      omega (arith, is, some))

  odd_resolved : (number : ℕ) → resolved v.heap (2 * number + 1) ≡ 2 * number + 1
  odd_resolved number = not_left (2 * number + 1) (λ name e.
      let slot = h.sound.left.slots.at name (2 * number + 1) e in
      let even : (2 * number + 1) % 2 ≡ 0 = ap (λ (n : ℕ). n % 2) slot.is ∙ slot_address-even slot.page (pool_of s.graph name) slot.slot in
      omega (arith, even))

  -- the word of a present value is its own
  pub value_resolved : (value : Value) → IsPresentValue s.heap.place value → resolved v.heap (value_word s.heap.place value) ≡ value_word s.heap.place value
  value_resolved Nil present = zero_resolved
  value_resolved (Small number) present = odd_resolved number
  value_resolved (Name name) present =
      let at = some_get (get s.heap.place name) (name_present s.heap.place name present) in
      let word : value_word s.heap.place (Name name) ≡ at.0 = ap (λ (o : Option ℕ). unwrap_or o 0) at.1 in
      ap (resolved v.heap) word ∙ resolved_object v.heap at.0 (h.represents.heap.objects.stands name at.0 at.1) ∙ sym word

  -- the stored word of a field is resolved to the word of its value
  pub stored_resolved : (name index : ℕ) (value : Value) → slice_get (item_of s.graph name).values index ≡ Some value → IsPresentValue s.heap.place value →
      resolved v.heap (stored_word s.heap.place s.heap.left s.collector.stale name index value) ≡ value_word s.heap.place value
  stored_resolved name index value at present = ⊎_elim
      (λ old.
      let p = h.sound.stale.fields name index old in
      let is : value ≡ Name p.child = some_same value (Name p.child) (sym at ∙ p.holds) in
      let was = some_get (get s.heap.left p.child) p.was_left in
      let word : value_word s.heap.left value ≡ was.0 = ap (value_word s.heap.left) is ∙ ap (λ (o : Option ℕ). unwrap_or o 0) was.1 in
      ap (resolved v.heap) (cond-true (is_stale s.collector.stale name index) (value_word s.heap.left value) (value_word s.heap.place value) old ∙ word)
      ∙ sym (ap (value_word s.heap.place) is ∙ ap (λ (o : Option ℕ). unwrap_or o 0) (h.represents.heap.left.leads p.child was.0 was.1)))
      (λ fresh.
      ap (resolved v.heap) (cond-false (is_stale s.collector.stale name index) (value_word s.heap.left value) (value_word s.heap.place value) fresh)
      ∙ value_resolved value present)
      (cases_Bool (is_stale s.collector.stale name index))

  -- where no name was moved no object was
  pub none_moved : s.heap.left ≡ empty → HasNoMoved v.heap
  none_moved none a = ⊎_elim
      (λ e. let l = h.represents.heap.left.only a e in absurd (none_some a (sym (get-empty nat_cmp l.0) ∙ ap (λ left. get left l.0) (sym none) ∙ l.1)))
      (λ e. e)
      (cases_Bool (is_moved v.heap a))
