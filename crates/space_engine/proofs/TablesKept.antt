-- Object ids and weak maps over changes that take no name away: what is kept of a name leads where the name stands.
use Rattle.std.proofs.Common.{◌≡◌, ℕ, true, List, [], ◌∷◌, nat_eq, refl, sym, ap, ◌∙◌, None, Some}
use Rattle.std.specs.Ordering.{nat_cmp}
use Rattle.std.specs.Set.{is_member}
use Rattle.std.specs.FinMap.{FinMap, get}
use Rattle.std.proofs.lemmas.Bool.{or_left, or_right, eq-eqb}
use Rattle.space_model.specs.State.{WeakEntry}
use Rattle.space_heap.specs.HeapView.{HeapView}
use Rattle.space_heap.specs.Objects.{resolved}
use Rattle.space_ids.specs.GivenIds.{GivenIds, names_in}
use Rattle.space_weak.specs.WeakEntries.{Entry}
use Rattle.space_engine.specs.Stands.{AreKept, HasIds, IsEntryAt, HasWeakEntries}

module _ (place place' : FinMap nat_cmp ℕ) (heap heap' : HeapView)
    (stays : (name address : ℕ) → get place name ≡ Some (resolved heap address) → get place' name ≡ Some (resolved heap' address)) where
  kept_over : (given : GivenIds) → ((name : ℕ) → is_member nat_eq (names_in given) name ≡ true → get place name ≡ None → get place' name ≡ None) →
      AreKept place heap given → AreKept place' heap' given
  kept_over [] absent kept = tt
  kept_over ((name, None) ∷ given) absent kept = (
    absent name (or_left _ _ (eq-eqb name name refl)) kept.0,
    kept_over given (λ other m none. absent other (or_right (nat_eq other name) _ m) none) kept.1,
  )
  kept_over ((name, Some address) ∷ given) absent kept = (
    stays name address kept.0,
    kept_over given (λ other m none. absent other (or_right (nat_eq other name) _ m) none) kept.1,
  )

  entry_over : (entry : Entry) → IsEntryAt place heap entry → IsEntryAt place' heap' entry
  entry_over entry at = record {
    key = stays entry.key_name entry.key_address at.key;
    value = stays entry.value_name entry.value_address at.value;
  }

  pub ids_over : (ids : List ℕ) (given : GivenIds) → ((name : ℕ) → is_member nat_eq ids name ≡ true → get place name ≡ None → get place' name ≡ None) →
      HasIds place ids given heap → HasIds place' ids given heap'
  ids_over ids given absent h = record {
    names = h.names;
    kept = kept_over given (λ name m none. absent name (ap (λ names. is_member nat_eq names name) (sym h.names) ∙ m) none) h.kept;
  }

  pub weak_over : (weak : List WeakEntry) (entries : List Entry) → HasWeakEntries place weak entries heap → HasWeakEntries place' weak entries heap'
  weak_over weak entries h = record { apart = h.apart; values = h.values; at = λ map_name key entry found. entry_over entry (h.at map_name key entry found) }

-- no name came or went, and each word leads where it led
module _ (place : FinMap nat_cmp ℕ) (heap heap' : HeapView) (leads : (word : ℕ) → resolved heap' word ≡ resolved heap word) where
  stays_there : (name address : ℕ) → get place name ≡ Some (resolved heap address) → get place name ≡ Some (resolved heap' address)
  stays_there name address e = e ∙ ap Some (sym (leads address))

  pub ids_led : (ids : List ℕ) (given : GivenIds) → HasIds place ids given heap → HasIds place ids given heap'
  ids_led ids given h = ids_over place place heap heap' stays_there ids given (λ name m none. none) h

  pub weak_led : (weak : List WeakEntry) (entries : List Entry) → HasWeakEntries place weak entries heap → HasWeakEntries place weak entries heap'
  weak_led weak entries h = weak_over place place heap heap' stays_there weak entries h
