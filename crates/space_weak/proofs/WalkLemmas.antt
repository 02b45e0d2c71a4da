-- What a walk over all maps leaves of the entries: those of which no object is gone, or all with new addresses.
use Rattle.std.proofs.Common.{◌≡◌, ℕ, zero, suc, ◌+◌, ◌<◌, ◌≤◌, nat_eq, Bool, true, false, not, List, [], ◌∷◌, ◌++◌, length, map, take, drop, slice_get}
use Rattle.std.proofs.Common.{Some, ⊎_elim, cond, arith, add-one, refl, sym, ap, ◌∙◌, subst, true≢false}
use Rattle.std.proofs.Math.Dec.{eqb-suc-zero}
use Rattle.std.proofs.lemmas.Bool.{cases_Bool}
use Rattle.std.proofs.lemmas.List.Elements.{filter-append}
use Rattle.std.proofs.lemmas.Option.{same_Some}
use Rattle.std.specs.List.{IsDistinct}
use Rattle.std.specs.Map.{keys_of, values_of}
use Rattle.std.specs.Map.Calls.{RetainsPairs}
use Rattle.std.specs.HashMap.{HashMap}
use Rattle.indexmap.specs.IndexMap.{with_entries}
use Rattle.indexmap.specs.Layout.{set_value_at}
use Rattle.space_heap.specs.HeapView.{HeapView}
use Rattle.space_weak.specs.declared.weak.Link.{Link}
use Rattle.space_weak.specs.WeakEntries.{Entry, purged, refixed}
use Rattle.space_weak.specs.StoredEntries.{entry_from, entries_in, HaveOwnKeys, AreStored, both_live, live_links, refixed_link, refixed_links}

module _ {K X : Type 0} (g : X → X) where
  -- the values that a walk changes
  abbrev pub changed : List (K × X) → List (K × X)
  changed entries = map (λ entry. (entry.0, g entry.1)) entries

  changed-suc : (entries : List (K × X)) (k : ℕ) (x : X) → k < length entries → slice_get (values_of (changed (take k entries) ++ drop k entries)) k ≡ Some x
      → set_value_at (changed (take k entries) ++ drop k entries) k (g x) ≡ changed (take (suc k) entries) ++ drop (suc k) entries
  changed-suc [] k x h at = absurd (omega arith)
  changed-suc (entry ∷ entries) zero x h at = ap (λ y. (entry.0, g y) ∷ entries) (sym (same_Some entry.1 x at))
  changed-suc (entry ∷ entries) (suc k) x h at = ap (λ rest. (entry.0, g entry.1) ∷ rest) (changed-suc entries k x (omega arith) at)

  -- one entry more is written
  pub changed-next : (entries : List (K × X)) (k : ℕ) (x : X) → k < length entries
      → slice_get (values_of (changed (take k entries) ++ drop k entries)) k ≡ Some x
      → set_value_at (changed (take k entries) ++ drop k entries) k (g x) ≡ changed (take (k + 1) entries) ++ drop (k + 1) entries
  changed-next entries k x h at = rw add-one (changed-suc entries k x h at)

  -- once all are written
  pub changed-whole : (entries : List (K × X)) (k : ℕ) → length entries ≤ k → changed (take k entries) ++ drop k entries ≡ changed entries
  changed-whole [] zero h = refl
  changed-whole [] (suc k) h = refl
  changed-whole (entry ∷ entries) zero h = absurd (omega arith)
  changed-whole (entry ∷ entries) (suc k) h = ap (λ rest. (entry.0, g entry.1) ∷ rest) (changed-whole entries k (omega arith))

  -- the keys stay
  pub keys_of-changed : (entries : List (K × X)) → keys_of (changed entries) ≡ keys_of entries
  keys_of-changed [] = refl
  keys_of-changed (entry ∷ entries) = ap (λ keys. entry.0 ∷ keys) (keys_of-changed entries)

-- of the entries of one map those stay whose links do
purged-own : (heap : HeapView) (m : List ℕ) (ps : List (ℕ × Link)) → purged heap (map (entry_from m) ps) ≡ map (entry_from m) (live_links heap ps)
purged-own heap m [] = refl
purged-own heap m (p ∷ ps) = ⊎_elim
    (λ t. rw t (ap (λ rest. entry_from m p ∷ rest) (purged-own heap m ps)))
    (λ f. rw f (purged-own heap m ps))
    (cases_Bool (both_live heap p.1))

-- and their new addresses are those of their links
refixed-own : (heap : HeapView) (m : List ℕ) (ps : List (ℕ × Link)) (rest : List Entry)
    → map (entry_from m) (refixed_links heap ps) ++ refixed heap rest ≡ refixed heap (map (entry_from m) ps ++ rest)
refixed-own heap m [] rest = refl
refixed-own heap m (p ∷ ps) rest = ap (λ later. entry_from m (p.0, refixed_link heap p.1) ∷ later) (refixed-own heap m ps rest)

-- the links of one map, all with their new addresses
abbrev pub refixed_map : {S : Type 0} → HeapView → HashMap ℕ Link S → HashMap ℕ Link S
refixed_map heap links = with_entries links (refixed_links heap links.entries)

none_left : (ps : List (ℕ × Link)) → not (nat_eq (length ps) 0) ≡ false → ps ≡ []
none_left [] h = refl
none_left (p ∷ ps) h = absurd (true≢false (rw (eqb-suc-zero (length ps)) at h))

module _ {F X : Type 0} (links : X → List (ℕ × Link)) (heap : HeapView) (T : F → List ℕ → X → Bool → X → F → Type 0) (f : F)
    (says : (k : List ℕ) (v : X) (b : Bool) (w : X) (g : F) → T f k v b w g
    → (links w ≡ live_links heap (links v)) × IsDistinct nat_eq (keys_of (links w)) × (b ≡ not (nat_eq (length (links w)) 0)) × (g ≡ f)) where
  one_kept : (m : List ℕ) (w : X) (b : Bool) (rest : List (List ℕ × X)) → b ≡ not (nat_eq (length (links w)) 0)
      → entries_in links (cond b ((m, w) ∷ rest) rest) ≡ map (entry_from m) (links w) ++ entries_in links rest
  one_kept m w true rest h = refl
  one_kept m w false rest h = rw (none_left (links w) (sym h)) refl

  -- what a map's `retain` leaves, where the closure purges the links of each map and drops those that have none
  pub purged-RetainsPairs : (maps kept : List (List ℕ × X)) → RetainsPairs T f maps kept → entries_in links kept ≡ purged heap (entries_in links maps)
  purged-RetainsPairs [] kept h = rw h refl
  purged-RetainsPairs (m ∷ maps) kept h =
      let s = says m.0 m.1 h.0 h.1 h.2 h.4 in
      let rest = purged-RetainsPairs maps h.3 (subst (λ g. RetainsPairs T g maps h.3) s.3 h.5) in
      ap (entries_in links) h.6 ∙ one_kept m.0 h.1 h.0 h.3 s.2 ∙ rw (s.0, rest)
      (sym (filter-append _ (map (entry_from m.0) (links m.1)) (entries_in links maps)
      ∙ ap (λ own. own ++ purged heap (entries_in links maps)) (purged-own heap m.0 (links m.1))))

  own_kept : (m : List ℕ) (w : X) (b : Bool) (rest : List (List ℕ × X)) → IsDistinct nat_eq (keys_of (links w)) → HaveOwnKeys links rest
      → HaveOwnKeys links (cond b ((m, w) ∷ rest) rest)
  own_kept m w true rest d h = (d, h)
  own_kept m w false rest d h = h

  -- no map has a key twice then
  pub HaveOwnKeys-RetainsPairs : (maps kept : List (List ℕ × X)) → RetainsPairs T f maps kept → HaveOwnKeys links kept
  HaveOwnKeys-RetainsPairs [] kept h = rw h tt
  HaveOwnKeys-RetainsPairs (m ∷ maps) kept h =
      let s = says m.0 m.1 h.0 h.1 h.2 h.4 in
      let rest = HaveOwnKeys-RetainsPairs maps h.3 (subst (λ g. RetainsPairs T g maps h.3) s.3 h.5) in
      rw h.6 (own_kept m.0 h.1 h.0 h.3 s.1 rest)

module _ {X : Type 0} (links : X → List (ℕ × Link)) (heap : HeapView) (g : X → X) (says : (x : X) → links (g x) ≡ refixed_links heap (links x)) where
  -- where each map's links have their new addresses, all entries do
  pub refixed-changed : (maps : List (List ℕ × X)) → entries_in links (changed g maps) ≡ refixed heap (entries_in links maps)
  refixed-changed [] = refl
  refixed-changed (m ∷ maps) = rw (says m.1, refixed-changed maps) (refixed-own heap m.0 (links m.1) (entries_in links maps))

  own_changed : (maps : List (List ℕ × X)) → HaveOwnKeys links maps → HaveOwnKeys links (changed g maps)
  own_changed [] h = tt
  own_changed (m ∷ maps) h = (rw (says m.1, keys_of-changed (refixed_link heap) (links m.1)) h.0, own_changed maps h.1)

  -- and what holds of the stored maps stays
  pub AreStored-changed : (maps : List (List ℕ × X)) → AreStored links maps → AreStored links (changed g maps)
  AreStored-changed maps h = record { distinct = rw (keys_of-changed g maps) h.distinct; own_keys = own_changed maps h.own_keys }
