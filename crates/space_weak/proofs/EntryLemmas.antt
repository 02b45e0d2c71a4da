-- Entries of one map and of all maps: which one belongs to a key, and how many there are.
use Rattle.std.proofs.Common.{◌≡◌, ℕ, suc, nat_eq, Bool, true, false, List, [], ◌∷◌, ◌++◌, length, map, refl, ap, ◌∙◌}
use Rattle.std.proofs.Common.{Option, None, Some, sym, true≢false, ⊎_elim, arith}
use Rattle.std.proofs.lemmas.Bool.{cases_Bool, eqb-true}
use Rattle.std.proofs.lemmas.Cmp.{nat_list_eq_equiv}
use Rattle.std.proofs.lemmas.Map.Keys.{IsDistinct-head, IsDistinct-tail, IsDistinct-cons}
use Rattle.std.proofs.lemmas.Slice.Eq.{bytes_eq-Decides}
use Rattle.std.specs.List.{IsDistinct, AllByRecursion}
use Rattle.std.specs.Map.{lookup, keys_of}
use Rattle.std.specs.Option.{option_map}
use Rattle.std.specs.Str.{bytes_eq}
use Rattle.space_weak.specs.declared.weak.Link.{Link}
use Rattle.space_weak.specs.WeakEntries.{Entry, entry_of, size_of, is_at, AreApart}
use Rattle.space_weak.specs.StoredEntries.{entry_from, entries_in, HaveOwnKeys}

-- texts that compare as equal are equal
pub same_text : (x y : List ℕ) → bytes_eq x y ≡ true → x ≡ y
same_text x y h = grind (arith, bytes_eq-Decides x y)

-- the map and the key to which an entry belongs are its own
pub at_parts : (weak : List ℕ) (key : ℕ) (entry : Entry) → is_at weak key entry ≡ true → (weak ≡ entry.map_name) × (key ≡ entry.key_name)
at_parts weak key entry h = ⊎_elim
    (λ t. (same_text weak entry.map_name t, eqb-true key entry.key_name (rw t at h)))
    (λ f. let e = rw f at h in absurd (true≢false (sym e)))
    (cases_Bool (bytes_eq weak entry.map_name))

-- keys that differ from one aren't found by it
pub lookup_apart : {K X : Type 0} (e : K → K → Bool) (k : K) (es : List (K × X)) → AllByRecursion (λ y. e k y ≡ false) (keys_of es) → lookup (e k) es ≡ None
lookup_apart e k [] h = refl
lookup_apart e k (x ∷ es) h = rw h.0 (lookup_apart e k es h.1)

-- a key of no entry
pub not_at_map : (weak m : List ℕ) (key : ℕ) (stored : ℕ × Link) → bytes_eq weak m ≡ false → is_at weak key (entry_from m stored) ≡ false
not_at_map weak m key stored other = rw other refl

pub at_map : (weak m : List ℕ) (key : ℕ) (stored : ℕ × Link) → bytes_eq weak m ≡ true → is_at weak key (entry_from m stored) ≡ nat_eq key stored.0
at_map weak m key stored same = rw same refl

-- the entries of another map don't matter
pub entry_of-other : (weak m : List ℕ) (key : ℕ) (ps : List (ℕ × Link)) (rest : List Entry) → bytes_eq weak m ≡ false
    → entry_of (map (entry_from m) ps ++ rest) weak key ≡ entry_of rest weak key
entry_of-other weak m key [] rest other = refl
entry_of-other weak m key (p ∷ ps) rest other = rw (not_at_map weak m key p other) (entry_of-other weak m key ps rest other)

-- among those of its own map a key is found by a look-up
pub entry_of-own : (weak m : List ℕ) (key : ℕ) (ps : List (ℕ × Link)) (rest : List Entry) → bytes_eq weak m ≡ true → entry_of rest weak key ≡ None
    → entry_of (map (entry_from m) ps ++ rest) weak key ≡ option_map (λ link. entry_from weak (key, link)) (lookup (nat_eq key) ps)
entry_of-own weak m key [] rest same none = none
entry_of-own weak m key (p ∷ ps) rest same none = ⊎_elim
    (λ t.
    let k : key ≡ p.0 = eqb-true key p.0 t in
    let w : weak ≡ m = same_text weak m same in
    rw (at_map weak m key p same, t) (rw (k, w) refl))
    (λ f. rw (at_map weak m key p same) (rw f (entry_of-own weak m key ps rest same none)))
    (cases_Bool (nat_eq key p.0))

-- where a key has none, no entry belongs to it
pub none_at : (entries : List Entry) (weak : List ℕ) (key : ℕ) → entry_of entries weak key ≡ None
    → AllByRecursion (λ entry. is_at weak key entry ≡ false) entries
none_at [] weak key none = tt
none_at (entry ∷ entries) weak key none = ⊎_elim
    (λ t. let e = rw t at none in absurd (cc))
    (λ f. (f, none_at entries weak key (rw f at none)))
    (cases_Bool (is_at weak key entry))

-- the same of how many there are
pub size_of-other : (weak m : List ℕ) (ps : List (ℕ × Link)) (rest : List Entry) → bytes_eq weak m ≡ false
    → size_of (map (entry_from m) ps ++ rest) weak ≡ size_of rest weak
size_of-other weak m [] rest other = refl
size_of-other weak m (p ∷ ps) rest other = rw other (size_of-other weak m ps rest other)

pub size_of-own : (weak m : List ℕ) (ps : List (ℕ × Link)) (rest : List Entry) → bytes_eq weak m ≡ true → size_of rest weak ≡ 0
    → size_of (map (entry_from m) ps ++ rest) weak ≡ length ps
size_of-own weak m [] rest same none = none
size_of-own weak m (p ∷ ps) rest same none = rw same (ap suc (size_of-own weak m ps rest same none))

module _ {X : Type 0} (links : X → List (ℕ × Link)) where
  -- the entry that look-ups find
  abbrev pub entry_found : List ℕ → ℕ → Option X → Option Entry
  entry_found weak key None = None
  entry_found weak key (Some x) = option_map (λ link. entry_from weak (key, link)) (lookup (nat_eq key) (links x))

  -- the number that a look-up finds
  abbrev pub size_found : Option X → ℕ
  size_found None = 0
  size_found (Some x) = length (links x)

  -- of a map that isn't there nothing is found
  pub entry_of-absent : (maps : List (List ℕ × X)) (weak : List ℕ) (key : ℕ) → lookup (bytes_eq weak) maps ≡ None
      → entry_of (entries_in links maps) weak key ≡ None
  entry_of-absent [] weak key none = refl
  entry_of-absent (m ∷ maps) weak key none = ⊎_elim
      (λ t. let e = rw t at none in absurd (cc))
      (λ f. entry_of-other weak m.0 key (links m.1) (entries_in links maps) f ∙ entry_of-absent maps weak key (rw f at none))
      (cases_Bool (bytes_eq weak m.0))

  pub size_of-absent : (maps : List (List ℕ × X)) (weak : List ℕ) → lookup (bytes_eq weak) maps ≡ None → size_of (entries_in links maps) weak ≡ 0
  size_of-absent [] weak none = refl
  size_of-absent (m ∷ maps) weak none = ⊎_elim
      (λ t. let e = rw t at none in absurd (cc))
      (λ f. size_of-other weak m.0 (links m.1) (entries_in links maps) f ∙ size_of-absent maps weak (rw f at none))
      (cases_Bool (bytes_eq weak m.0))

  -- behind a map there is none with its name
  pub none_behind : (weak : List ℕ) (m : List ℕ × X) (maps : List (List ℕ × X)) → IsDistinct bytes_eq (keys_of (m ∷ maps)) → bytes_eq weak m.0 ≡ true
      → lookup (bytes_eq weak) maps ≡ None
  none_behind weak m maps d same = rw (same_text weak m.0 same) (lookup_apart bytes_eq m.0 maps (IsDistinct-head bytes_eq m.0 (keys_of maps) d))

  -- the entry of a key is what two look-ups find
  pub entry_of-entries_in : (maps : List (List ℕ × X)) (weak : List ℕ) (key : ℕ) → IsDistinct bytes_eq (keys_of maps)
      → entry_of (entries_in links maps) weak key ≡ entry_found weak key (lookup (bytes_eq weak) maps)
  entry_of-entries_in [] weak key d = refl
  entry_of-entries_in (m ∷ maps) weak key d = ⊎_elim
      (λ t. entry_of-own weak m.0 key (links m.1) (entries_in links maps) t (entry_of-absent maps weak key (none_behind weak m maps d t)) ∙ rw t refl)
      (λ f. entry_of-other weak m.0 key (links m.1) (entries_in links maps) f
      ∙ entry_of-entries_in maps weak key (IsDistinct-tail bytes_eq m.0 (keys_of maps) d) ∙ rw f refl)
      (cases_Bool (bytes_eq weak m.0))

  -- and the number of entries is what one finds
  pub size_of-entries_in : (maps : List (List ℕ × X)) (weak : List ℕ) → IsDistinct bytes_eq (keys_of maps)
      → size_of (entries_in links maps) weak ≡ size_found (lookup (bytes_eq weak) maps)
  size_of-entries_in [] weak d = refl
  size_of-entries_in (m ∷ maps) weak d = ⊎_elim
      (λ t. size_of-own weak m.0 (links m.1) (entries_in links maps) t (size_of-absent maps weak (none_behind weak m maps d t)) ∙ rw t refl)
      (λ f. size_of-other weak m.0 (links m.1) (entries_in links maps) f ∙ size_of-entries_in maps weak (IsDistinct-tail bytes_eq m.0 (keys_of maps) d)
      ∙ rw f refl)
      (cases_Bool (bytes_eq weak m.0))

  apart_own : (m : List ℕ) (ps : List (ℕ × Link)) (rest : List Entry) → IsDistinct nat_eq (keys_of ps)
      → ((key : ℕ) → entry_of rest m key ≡ None) → AreApart rest → AreApart (map (entry_from m) ps ++ rest)
  apart_own m [] rest d none h = h
  apart_own m (p ∷ ps) rest d none h =
      let found = entry_of-own m m p.0 ps rest (nat_list_eq_equiv.refl m) (none p.0) in
      let absent = lookup_apart nat_eq p.0 ps (IsDistinct-head nat_eq p.0 (keys_of ps) d) in
      IsDistinct-cons _ (entry_from m p) _ (none_at (map (entry_from m) ps ++ rest) m p.0 (found ∙ rw absent refl))
      (apart_own m ps rest (IsDistinct-tail nat_eq p.0 (keys_of ps) d) none h)

  -- no two entries belong to one map and one key
  pub AreApart-entries_in : (maps : List (List ℕ × X)) → IsDistinct bytes_eq (keys_of maps) → HaveOwnKeys links maps → AreApart (entries_in links maps)
  unfolding IsDistinct
  AreApart-entries_in [] d h = tt
  AreApart-entries_in (m ∷ maps) d h =
      apart_own m.0 (links m.1) (entries_in links maps) h.0 (λ key. entry_of-absent maps m.0 key (none_behind m.0 m maps d (nat_list_eq_equiv.refl m.0)))
      (AreApart-entries_in maps (IsDistinct-tail bytes_eq m.0 (keys_of maps) d) h.1)
