-- The entries of weak maps after one was set or deleted: they are those of the state.
use Rattle.std.proofs.Common.{◌≡◌, ℕ, Bool, true, false, ◌&&◌, not, nat_eq, if◌then◌else◌, List, sym, ◌∙◌, subst, Option, None, Some}
use Rattle.std.specs.List.Sorted.{IsPermutation}
use Rattle.std.specs.Ordering.{nat_cmp}
use Rattle.std.specs.FinMap.{FinMap}
use Rattle.std.specs.Str.{bytes_eq}
use Rattle.space_heap.specs.HeapView.{HeapView}
use Rattle.space_model.specs.State.{WeakEntry}
use Rattle.space_model.specs.WeakMaps.{with_weak_value, without_weak_value}
use Rattle.space_weak.specs.WeakEntries.{Entry, entry_with, entry_of, is_at, with_entry, without_entry}
use Rattle.space_weak.proofs.EntryLaws.{entry_of-IsPermutation, AreApart-IsPermutation, AreApart-with_entry, AreApart-filter}
use Rattle.space_weak.proofs.ModelEntries.{entry_set, option_filter, passed_of, values_set, values_deleted}
use Rattle.space_engine.specs.Stands.{IsEntryAt, HasWeakEntries}
use Rattle.space_engine.proofs.Outcomes.{some_same}

passed : (p : Entry → Bool) (found : Option Entry) (entry : Entry) → option_filter p found ≡ Some entry → found ≡ Some entry
passed p None entry e = absurd (cc)
passed p (Some first) entry e = by_test (p first) e
  where
    by_test : (b : Bool) → ◌≡◌ {A = Option Entry} (if b then Some first else None) (Some entry) → ◌≡◌ {A = Option Entry} (Some first) (Some entry)
    by_test true e = e
    by_test false e = absurd (cc)

module _ (place : FinMap nat_cmp ℕ) (heap : HeapView) (weak : List WeakEntry) (old new : List Entry) (h : HasWeakEntries place weak old heap) where
  one_of : (b : Bool) (set : Entry) (found : Option Entry) (entry : Entry) → IsEntryAt place heap set →
      ((other : Entry) → found ≡ Some other → IsEntryAt place heap other) → ◌≡◌ {A = Option Entry} (if b then Some set else found) (Some entry) →
      IsEntryAt place heap entry
  one_of true set found entry at others e = subst (IsEntryAt place heap) (some_same set entry e) at
  one_of false set found entry at others e = others entry e

  -- an entry was set, whose objects stand at these addresses
  pub weak_set_over : (name : List ℕ) (key key_address value value_address : ℕ) → IsEntryAt place heap (entry_with name key key_address value value_address) →
      IsPermutation (with_entry old (entry_with name key key_address value value_address)) new →
      HasWeakEntries place (with_weak_value weak name key value) new heap
  weak_set_over name key key_address value value_address at same =
      let set = entry_with name key key_address value value_address in
      let apart = AreApart-with_entry old set h.apart in
      record {
        apart = AreApart-IsPermutation (with_entry old set) new same apart;
        values = values_set weak old new name key key_address value value_address h.apart same h.values;
        at = λ map_name k entry found.
            one_of (bytes_eq map_name name && nat_eq k key) set (entry_of old map_name k) entry at (λ other e. h.at map_name k other e)
            (sym (entry_of-IsPermutation (with_entry old set) new map_name k same apart ∙ entry_set old set map_name k) ∙ found);
      }

  -- an entry was taken out
  pub weak_deleted_over : (name : List ℕ) (key : ℕ) → IsPermutation (without_entry old name key) new →
      HasWeakEntries place (without_weak_value weak name key) new heap
  weak_deleted_over name key same =
      let stays = λ (entry : Entry). not (is_at name key entry) in
      let apart = AreApart-filter stays old h.apart in
      record {
        apart = AreApart-IsPermutation (without_entry old name key) new same apart;
        values = values_deleted weak old new name key h.apart same h.values;
        at = λ map_name k entry found.
            h.at map_name k entry (passed stays (entry_of old map_name k) entry
            (sym (entry_of-IsPermutation (without_entry old name key) new map_name k same apart ∙ passed_of stays old map_name k h.apart) ∙ found));
      }
