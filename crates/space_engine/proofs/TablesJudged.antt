-- Object ids and weak maps over a verdict: of the ids of what it took no address is kept, and the entries of what it took are gone.
use Rattle.std.proofs.Common.{◌≡◌, ◌&&◌, not, ℕ, true, false, List, [], ◌∷◌, nat_eq, sym, ap, ◌∙◌, Option, None, Some, ⊎_elim}
use Rattle.std.specs.Ordering.{nat_cmp}
use Rattle.std.specs.Set.{is_member}
use Rattle.std.specs.FinMap.{FinMap, get}
use Rattle.std.proofs.lemmas.Bool.{cases_Bool, and_parts, not-true, cond-true, cond-false}
use Rattle.space_model.specs.Maps.{without}
use Rattle.space_model.specs.Sound.{AreSoundEntries}
use Rattle.space_model.specs.State.{WeakEntry}
use Rattle.space_model.specs.WeakMaps.{entries_left}
use Rattle.space_model.proofs.MapLaws.{get-without}
use Rattle.space_heap.specs.HeapView.{HeapView}
use Rattle.space_heap.specs.Objects.{resolved}
use Rattle.space_ids.specs.GivenIds.{GivenIds, still_kept, purged as purged_ids}
use Rattle.space_ids.proofs.ModelIds.{names-purged}
use Rattle.space_weak.specs.WeakEntries.{Entry, is_live, purged as purged_entries}
use Rattle.space_weak.proofs.EntryLaws.{AreApart-filter}
use Rattle.space_weak.proofs.ModelEntries.{found_passed, values_purged}
use Rattle.space_engine.specs.Stands.{IsKeptOf, AreKept, HasIds, IsEntryAt, HasWeakEntries}

-- a verdict leads no word elsewhere, and an object that is known to stand somewhere is live after it where its name wasn't taken
module _ (place : FinMap nat_cmp ℕ) (taken : List ℕ) (old new : HeapView) (leads : (word : ℕ) → resolved new word ≡ resolved old word)
    (live : (name address : ℕ) → get place name ≡ Some (resolved old address) → is_live new address ≡ not (is_member nat_eq taken name)) where
  abbrev place' : FinMap nat_cmp ℕ
  place' = without place taken

  taken_gone : (name : ℕ) → is_member nat_eq taken name ≡ true → get place' name ≡ None
  taken_gone name m = get-without place taken name ∙ cond-true (is_member nat_eq taken name) None (get place name) m

  left_same : (name : ℕ) → is_member nat_eq taken name ≡ false → get place' name ≡ get place name
  left_same name out = get-without place taken name ∙ cond-false (is_member nat_eq taken name) None (get place name) out

  left_at : (name address : ℕ) → get place name ≡ Some (resolved old address) → is_member nat_eq taken name ≡ false →
      get place' name ≡ Some (resolved new address)
  left_at name address at out = left_same name out ∙ at ∙ ap Some (sym (leads address))

  one_kept : (name : ℕ) (kept : Option ℕ) → IsKeptOf place old (name, kept) → IsKeptOf place' new (name, still_kept new kept)
  one_kept name None none = ⊎_elim (λ m. taken_gone name m) (λ out. left_same name out ∙ none) (cases_Bool (is_member nat_eq taken name))
  one_kept name (Some address) at = ⊎_elim
      (λ (m : is_member nat_eq taken name ≡ true). rw (live name address at ∙ ap not m) (taken_gone name m))
      (λ (out : is_member nat_eq taken name ≡ false). rw (live name address at ∙ ap not out) (left_at name address at out))
      (cases_Bool (is_member nat_eq taken name))

  all_kept : (given : GivenIds) → AreKept place old given → AreKept place' new (purged_ids new given)
  all_kept [] kept = tt
  all_kept ((name, first) ∷ given) kept = (one_kept name first kept.0, all_kept given kept.1)

  pub ids_judged : (ids : List ℕ) (given : GivenIds) → HasIds place ids given old → HasIds place' ids (purged_ids new given) new
  ids_judged ids given h = record { names = names-purged new given ∙ h.names; kept = all_kept given h.kept }

  entry_live : (entry : Entry) → IsEntryAt place old entry →
      (is_live new entry.key_address && is_live new entry.value_address)
      ≡ (not (is_member nat_eq taken entry.key_name) && not (is_member nat_eq taken entry.value_name))
  entry_live entry at =
      let key = live entry.key_name entry.key_address at.key in
      let value = live entry.value_name entry.value_address at.value in
      λ i. key i && value i

  entry_left : (entry : Entry) → IsEntryAt place old entry → (is_live new entry.key_address && is_live new entry.value_address) ≡ true →
      IsEntryAt place' new entry
  entry_left entry at lives =
      let out = and_parts _ _ (sym (entry_live entry at) ∙ lives) in
      record {
        key = left_at entry.key_name entry.key_address at.key (not-true _ out.0);
        value = left_at entry.value_name entry.value_address at.value (not-true _ out.1);
      }

  pub weak_judged : (weak : List WeakEntry) (entries : List Entry) → AreSoundEntries place weak → HasWeakEntries place weak entries old →
      HasWeakEntries place' (entries_left taken weak) (purged_entries new entries) new
  weak_judged weak entries sound h = record {
    apart = AreApart-filter _ entries h.apart;
    values = values_purged place new taken weak entries sound h.apart h.values
        (λ map_name key entry found. entry_live entry (h.at map_name key entry found));
    at = λ map_name key entry found.
        let was = found_passed (λ entry. is_live new entry.key_address && is_live new entry.value_address) entries map_name key entry h.apart found in
        entry_left entry (h.at map_name key entry was.0) was.1;
  }
