-- Roots, object ids and weak maps over the end of a compaction: what is kept of a name is resolved, in a heap in which nothing is moved any more.
use Rattle.std.proofs.Common.{◌≡◌, ℕ, true, false, List, [], ◌∷◌, sym, ap, ◌∙◌, subst, refl, Option, None, Some, ⊎_elim}
use Rattle.std.specs.List.{AllByRecursion}
use Rattle.std.specs.Option.{option_map}
use Rattle.std.specs.Ordering.{nat_cmp}
use Rattle.std.specs.FinMap.{FinMap, get}
use Rattle.std.proofs.lemmas.Bool.{cases_Bool}
use Rattle.std.proofs.lemmas.Map.Keys.{IsDistinct-cons, IsDistinct-head, IsDistinct-tail}
use Rattle.space_model.specs.Roots.{Root}
use Rattle.space_model.specs.State.{WeakEntry}
use Rattle.space_heap.specs.HeapView.{HeapView}
use Rattle.space_heap.specs.Objects.{resolved, HasNoMoved}
use Rattle.space_heap.proofs.MovedLaws.{resolved_unmoved}
use Rattle.space_ids.specs.GivenIds.{GivenIds, refixed as refixed_ids}
use Rattle.space_ids.proofs.ModelIds.{names-refixed}
use Rattle.space_weak.specs.WeakEntries.{Entry, is_at, entry_of, AreApart, refixed_entry, refixed as refixed_entries}
use Rattle.space_weak.proofs.ModelEntries.{values_refixed}
use Rattle.space_engine.specs.Stands.{AreKept, HasIds, IsEntryAt, HasWeakEntries}
use Rattle.space_engine.specs.Words.{word_roots, resolved_roots}
use Rattle.space_engine.proofs.Outcomes.{none_some, some_same}
use Rattle.space_engine.proofs.ResolvedRoots.{resolved_roots-unmoved}

-- entries keep their maps and their keys where their addresses are resolved
not_at : (heap : HeapView) (map_name : List ℕ) (key : ℕ) (entries : List Entry) → AllByRecursion (λ entry. is_at map_name key entry ≡ false) entries →
    AllByRecursion (λ entry. is_at map_name key entry ≡ false) (refixed_entries heap entries)
not_at heap map_name key [] none = tt
not_at heap map_name key (entry ∷ entries) none = (none.0, not_at heap map_name key entries none.1)

apart_refixed : (heap : HeapView) (entries : List Entry) → AreApart entries → AreApart (refixed_entries heap entries)
apart_refixed heap [] apart = apart
apart_refixed heap (entry ∷ entries) apart = IsDistinct-cons _ (refixed_entry heap entry) (refixed_entries heap entries)
    (not_at heap entry.map_name entry.key_name entries (IsDistinct-head _ entry entries apart))
    (apart_refixed heap entries (IsDistinct-tail _ entry entries apart))

found_refixed : (heap : HeapView) (entries : List Entry) (map_name : List ℕ) (key : ℕ) →
    entry_of (refixed_entries heap entries) map_name key ≡ option_map (refixed_entry heap) (entry_of entries map_name key)
found_refixed heap [] map_name key = refl
found_refixed heap (entry ∷ entries) map_name key =
    let others = found_refixed heap entries map_name key in
    ⊎_elim
    (λ (here : is_at map_name key entry ≡ true). rw here refl)
    (λ (other : is_at map_name key entry ≡ false). rw other others)
    (cases_Bool (is_at map_name key entry))

-- no object is moved away in the new heap, so each word is its own there
module _ (place : FinMap nat_cmp ℕ) (old new : HeapView) (none : HasNoMoved new) where
  lasts : (name word : ℕ) → get place name ≡ Some (resolved old word) → get place name ≡ Some (resolved new (resolved old word))
  lasts name word at = at ∙ ap Some (sym (resolved_unmoved new (resolved old word) (none (resolved old word))))

  pub roots_ended : (words : List (List ℕ × ℕ)) (roots : List Root) → resolved_roots old words ≡ word_roots place roots →
      resolved_roots new (resolved_roots old words) ≡ word_roots place roots
  roots_ended words roots e = resolved_roots-unmoved new none (resolved_roots old words) ∙ e

  kept_ended : (given : GivenIds) → AreKept place old given → AreKept place new (refixed_ids old given)
  kept_ended [] kept = tt
  kept_ended ((name, None) ∷ given) kept = (kept.0, kept_ended given kept.1)
  kept_ended ((name, Some address) ∷ given) kept = (lasts name address kept.0, kept_ended given kept.1)

  pub ids_ended : (ids : List ℕ) (given : GivenIds) → HasIds place ids given old → HasIds place ids (refixed_ids old given) new
  ids_ended ids given h = record { names = names-refixed old given ∙ h.names; kept = kept_ended given h.kept }

  entry_ended : (entry : Entry) → IsEntryAt place old entry → IsEntryAt place new (refixed_entry old entry)
  entry_ended entry at = record {
    key = lasts entry.key_name entry.key_address at.key;
    value = lasts entry.value_name entry.value_address at.value;
  }

  found_ended : (found : Option Entry) (entry : Entry) → ((was : Entry) → found ≡ Some was → IsEntryAt place old was) →
      option_map (refixed_entry old) found ≡ Some entry → IsEntryAt place new entry
  found_ended None entry at e = absurd (none_some entry e)
  found_ended (Some was) entry at e = subst (IsEntryAt place new) (some_same (refixed_entry old was) entry e) (entry_ended was (at was refl))

  pub weak_ended : (weak : List WeakEntry) (entries : List Entry) → HasWeakEntries place weak entries old →
      HasWeakEntries place weak (refixed_entries old entries) new
  weak_ended weak entries h = record {
    apart = apart_refixed old entries h.apart;
    values = values_refixed old weak entries h.values;
    at = λ map_name key entry found. found_ended (entry_of entries map_name key) entry (λ was e. h.at map_name key was e)
        (sym (found_refixed old entries map_name key) ∙ found);
  }
