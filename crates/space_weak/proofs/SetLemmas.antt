-- What is left of all entries where one is set or deleted.
use Rattle.std.proofs.Common.{◌≡◌, ℕ, nat_eq, Bool, true, false, not, List, [], ◌∷◌, ◌++◌, map, filter, append-nil, append_assoc, refl, sym, ap, ◌∙◌}
use Rattle.std.proofs.Common.{Option, None, Some, is_some, ⊎_elim, cond}
use Rattle.std.proofs.lemmas.Bool.{cases_Bool, eqb-true}
use Rattle.std.proofs.lemmas.Cmp.{nat_eq_equiv}
use Rattle.std.proofs.lemmas.List.Sorted.{IsPermutation-refl, IsPermutation-cons, IsPermutation-to_front, IsPermutation-append_left}
use Rattle.std.proofs.lemmas.List.Sorted.{IsPermutation-append_right, IsPermutation-map}
use Rattle.std.proofs.lemmas.Map.Keys.{IsDistinct-tail}
use Rattle.std.proofs.lemmas.Option.{same_Some}
use Rattle.std.specs.List.{IsDistinct}
use Rattle.std.specs.List.Sorted.{IsPermutation}
use Rattle.std.specs.Map.{lookup, keys_of, set_value}
use Rattle.std.specs.Option.{option_map}
use Rattle.std.specs.Str.{bytes_eq}
use Rattle.std.specs.HashMap.{HashMap, hasher_of, spare}
use Rattle.std.proofs.lemmas.Map.Made.{IsDistinct-keys_filter}
use Rattle.std.proofs.lemmas.Map.Entries.{lookup-filter-keys}
use Rattle.std.proofs.lemmas.Map.Lookups.{hash_map_IsPermutation_from_get}
use Rattle.indexmap.specs.Layout.{hash_map}
use Rattle.indexmap.specs.IndexMap.{insert_entry}
use Rattle.space_weak.specs.declared.weak.Link.{Link}
use Rattle.space_weak.specs.WeakEntries.{Entry, entry_of, is_at, with_entry, without_entry}
use Rattle.space_weak.specs.StoredEntries.{entry_from, entries_in, HaveOwnKeys, AreStored}
use Rattle.space_weak.proofs.EntryLemmas.{same_text, not_at_map, at_map, entry_of-absent, none_behind}

-- an entry whose key has none comes last
pub with_entry-absent : (entries : List Entry) (new : Entry) → entry_of entries new.map_name new.key_name ≡ None → with_entry entries new ≡ entries ++ new ∷ []
with_entry-absent [] new none = refl
with_entry-absent (entry ∷ entries) new none = ⊎_elim
    (λ t. let e = rw t at none in absurd (cc))
    (λ f. rw f (ap (λ rest. entry ∷ rest) (with_entry-absent entries new (rw f at none))))
    (cases_Bool (is_at new.map_name new.key_name entry))

-- without an entry that isn't there all are left
pub without_entry-absent : (entries : List Entry) (weak : List ℕ) (key : ℕ) → entry_of entries weak key ≡ None → without_entry entries weak key ≡ entries
without_entry-absent [] weak key none = refl
without_entry-absent (entry ∷ entries) weak key none = ⊎_elim
    (λ t. let e = rw t at none in absurd (cc))
    (λ f. rw f (ap (λ rest. entry ∷ rest) (without_entry-absent entries weak key (rw f at none))))
    (cases_Bool (is_at weak key entry))

-- the entries of another map stay
with_entry-other : (m : List ℕ) (ps : List (ℕ × Link)) (rest : List Entry) (new : Entry) → bytes_eq new.map_name m ≡ false
    → with_entry (map (entry_from m) ps ++ rest) new ≡ map (entry_from m) ps ++ with_entry rest new
with_entry-other m [] rest new other = refl
with_entry-other m (p ∷ ps) rest new other =
    rw (not_at_map new.map_name m new.key_name p other) (ap (λ later. entry_from m p ∷ later) (with_entry-other m ps rest new other))

without_entry-other : (m : List ℕ) (ps : List (ℕ × Link)) (rest : List Entry) (weak : List ℕ) (key : ℕ) → bytes_eq weak m ≡ false
    → without_entry (map (entry_from m) ps ++ rest) weak key ≡ map (entry_from m) ps ++ without_entry rest weak key
without_entry-other m [] rest weak key other = refl
without_entry-other m (p ∷ ps) rest weak key other =
    rw (not_at_map weak m key p other) (ap (λ later. entry_from m p ∷ later) (without_entry-other m ps rest weak key other))

-- in its own map an entry comes in the place of that of its key, or behind the others
with_entry-own : (m weak : List ℕ) (key : ℕ) (link : Link) (ps : List (ℕ × Link)) (rest : List Entry) → bytes_eq weak m ≡ true → entry_of rest weak key ≡ None
    → IsPermutation (with_entry (map (entry_from m) ps ++ rest) (entry_from weak (key, link))) (map (entry_from m) (insert_entry nat_eq ps key link) ++ rest)
with_entry-own m weak key link [] rest same none =
    rw (with_entry-absent rest (entry_from weak (key, link)) none, ← same_text weak m same) (IsPermutation-to_front rest (entry_from weak (key, link)))
with_entry-own m weak key link (p ∷ ps) rest same none = ⊎_elim
    (λ t.
    let k : key ≡ p.0 = eqb-true key p.0 t in
    let w : weak ≡ m = same_text weak m same in
    rw (at_map weak m key p same) (rw t (rw (k, w) (IsPermutation-refl (entry_from m (p.0, link) ∷ (map (entry_from m) ps ++ rest))))))
    (λ f. rw (at_map weak m key p same) (rw f (IsPermutation-cons (entry_from m p) _ _ (with_entry-own m weak key link ps rest same none))))
    (cases_Bool (nat_eq key p.0))

-- without it the others are left
without_entry-own : (m weak : List ℕ) (key : ℕ) (ps : List (ℕ × Link)) (rest : List Entry) → bytes_eq weak m ≡ true → entry_of rest weak key ≡ None
    → without_entry (map (entry_from m) ps ++ rest) weak key ≡ map (entry_from m) (filter (λ p. not (nat_eq key p.0)) ps) ++ rest
without_entry-own m weak key [] rest same none = without_entry-absent rest weak key none
without_entry-own m weak key (p ∷ ps) rest same none = ⊎_elim
    (λ t. rw (at_map weak m key p same) (rw t (without_entry-own m weak key ps rest same none)))
    (λ f. rw (at_map weak m key p same) (rw f (ap (λ later. entry_from m p ∷ later) (without_entry-own m weak key ps rest same none))))
    (cases_Bool (nat_eq key p.0))

module _ {X : Type 0} (links : X → List (ℕ × Link)) where
  -- an entry is set in a map that is there
  pub set-entries_in : (maps : List (List ℕ × X)) (weak : List ℕ) (key : ℕ) (link : Link) (x w : X) → IsDistinct bytes_eq (keys_of maps)
      → lookup (bytes_eq weak) maps ≡ Some x
      → links w ≡ insert_entry nat_eq (links x) key link
      → IsPermutation (with_entry (entries_in links maps) (entry_from weak (key, link))) (entries_in links (set_value (bytes_eq weak) maps w))
  set-entries_in [] weak key link x w d found set = absurd (cc)
  set-entries_in (m ∷ maps) weak key link x w d found set = ⊎_elim
      (λ t.
      let is : m.1 ≡ x = same_Some m.1 x (rw t at found) in
      let none = entry_of-absent links maps weak key (none_behind links weak m maps d t) in
      rw t (rw (set, ← is) (with_entry-own m.0 weak key link (links m.1) (entries_in links maps) t none)))
      (λ f. rw f (rw (with_entry-other m.0 (links m.1) (entries_in links maps) (entry_from weak (key, link)) f)
      (IsPermutation-append_right (map (entry_from m.0) (links m.1)) _ _
      (set-entries_in maps weak key link x w (IsDistinct-tail bytes_eq m.0 (keys_of maps) d) (rw f at found) set))))
      (cases_Bool (bytes_eq weak m.0))

  -- one is deleted from a map that is there
  pub delete-entries_in : (maps : List (List ℕ × X)) (weak : List ℕ) (key : ℕ) (x w : X) → IsDistinct bytes_eq (keys_of maps)
      → lookup (bytes_eq weak) maps ≡ Some x
      → IsPermutation (filter (λ p. not (nat_eq key p.0)) (links x)) (links w)
      → IsPermutation (without_entry (entries_in links maps) weak key) (entries_in links (set_value (bytes_eq weak) maps w))
  delete-entries_in [] weak key x w d found left = absurd (cc)
  delete-entries_in (m ∷ maps) weak key x w d found left = ⊎_elim
      (λ t.
      let is : m.1 ≡ x = same_Some m.1 x (rw t at found) in
      let none = entry_of-absent links maps weak key (none_behind links weak m maps d t) in
      rw t (rw (without_entry-own m.0 weak key (links m.1) (entries_in links maps) t none, is)
      (IsPermutation-append_left (entries_in links maps) _ _ (IsPermutation-map (entry_from m.0) _ _ left))))
      (λ f. rw f (rw (without_entry-other m.0 (links m.1) (entries_in links maps) weak key f)
      (IsPermutation-append_right (map (entry_from m.0) (links m.1)) _ _
      (delete-entries_in maps weak key x w (IsDistinct-tail bytes_eq m.0 (keys_of maps) d) (rw f at found) left))))
      (cases_Bool (bytes_eq weak m.0))

  -- a map that comes behind all others
  pub entries_in-push : (maps : List (List ℕ × X)) (weak : List ℕ) (x : X)
      → entries_in links (maps ++ (weak, x) ∷ []) ≡ entries_in links maps ++ map (entry_from weak) (links x)
  entries_in-push [] weak x = append-nil (map (entry_from weak) (links x))
  entries_in-push (m ∷ maps) weak x =
      ap (λ rest. map (entry_from m.0) (links m.1) ++ rest) (entries_in-push maps weak x)
      ∙ sym (append_assoc (map (entry_from m.0) (links m.1)) (entries_in links maps) (map (entry_from weak) (links x)))

  -- links that are replaced by the same
  pub entries_in-set_value : (maps : List (List ℕ × X)) (test : List ℕ → Bool) (x w : X) → lookup test maps ≡ Some x → links w ≡ links x
      → entries_in links (set_value test maps w) ≡ entries_in links maps
  entries_in-set_value [] test x w found same = refl
  entries_in-set_value (m ∷ maps) test x w found same = ⊎_elim
      (λ t. let is : m.1 ≡ x = same_Some m.1 x (rw t at found) in rw t (ap (λ ps. map (entry_from m.0) ps ++ entries_in links maps) (same ∙ ap links (sym is))))
      (λ f. rw f (ap (λ rest. map (entry_from m.0) (links m.1) ++ rest) (entries_in-set_value maps test x w (rw f at found) same)))
      (cases_Bool (test m.0))

  -- each map has no key twice after one is replaced
  pub HaveOwnKeys-set_value : (maps : List (List ℕ × X)) (test : List ℕ → Bool) (w : X) → HaveOwnKeys links maps → IsDistinct nat_eq (keys_of (links w))
      → HaveOwnKeys links (set_value test maps w)
  HaveOwnKeys-set_value [] test w h d = tt
  HaveOwnKeys-set_value (m ∷ maps) test w h d = ⊎_elim
      (λ t. rw t (d, h.1))
      (λ f. rw f (h.0, HaveOwnKeys-set_value maps test w h.1 d))
      (cases_Bool (test m.0))

  -- or comes behind all others
  pub HaveOwnKeys-push : (maps : List (List ℕ × X)) (weak : List ℕ) (x : X) → HaveOwnKeys links maps → IsDistinct nat_eq (keys_of (links x))
      → HaveOwnKeys links (maps ++ (weak, x) ∷ [])
  HaveOwnKeys-push [] weak x h d = (d, tt)
  HaveOwnKeys-push (m ∷ maps) weak x h d = (h.0, HaveOwnKeys-push maps weak x h.1 d)

  -- what a look-up finds has no key twice
  pub HaveOwnKeys-found : (maps : List (List ℕ × X)) (test : List ℕ → Bool) (x : X) → HaveOwnKeys links maps → lookup test maps ≡ Some x
      → IsDistinct nat_eq (keys_of (links x))
  HaveOwnKeys-found [] test x h found = absurd (cc)
  HaveOwnKeys-found (m ∷ maps) test x h found = ⊎_elim
      (λ t. rw (← same_Some m.1 x (rw t at found)) h.0)
      (λ f. HaveOwnKeys-found maps test x h.1 (rw f at found))
      (cases_Bool (test m.0))

  -- what holds of the stored maps after one is replaced
  pub AreStored-written : (maps new : List (List ℕ × X)) (test : List ℕ → Bool) (w : X) → AreStored links maps → new ≡ set_value test maps w
      → IsDistinct bytes_eq (keys_of new) → IsDistinct nat_eq (keys_of (links w)) → AreStored links new
  AreStored-written maps new test w h is d own = record { distinct = d; own_keys = rw is (HaveOwnKeys-set_value maps test w h.own_keys own) }

  -- and after one came behind all others
  pub AreStored-push : (maps new : List (List ℕ × X)) (weak : List ℕ) (x : X) → AreStored links maps → new ≡ maps ++ (weak, x) ∷ []
      → IsDistinct bytes_eq (keys_of new) → IsDistinct nat_eq (keys_of (links x)) → AreStored links new
  AreStored-push maps new weak x h is d own = record { distinct = d; own_keys = rw is (HaveOwnKeys-push maps weak x h.own_keys own) }

  -- an entry that is set in a map of its own
  pub set-push : (maps new : List (List ℕ × X)) (weak : List ℕ) (key : ℕ) (link : Link) (x : X) → lookup (bytes_eq weak) maps ≡ None
      → links x ≡ (key, link) ∷ []
      → new ≡ maps ++ (weak, x) ∷ [] → IsPermutation (with_entry (entries_in links maps) (entry_from weak (key, link))) (entries_in links new)
  set-push maps new weak key link x none one is =
      rw (with_entry-absent (entries_in links maps) (entry_from weak (key, link)) (entry_of-absent links maps weak key none), is)
      (rw (entries_in-push maps weak x) (rw one (IsPermutation-refl (entries_in links maps ++ entry_from weak (key, link) ∷ []))))

not_then : {A : Type 0} (b : Bool) (x y : A) → cond (not b) x y ≡ cond b y x
not_then true x y = refl
not_then false x y = refl

all_the_same : (ps : List (ℕ × Link)) → map (λ p. (p.0, p.1)) ps ≡ ps
all_the_same [] = refl
all_the_same (p ∷ ps) = ap (λ rest. p ∷ rest) (all_the_same ps)

-- a key that was taken out, whatever the order of the others
pub removed_key : {S : Type 0} (m n : HashMap ℕ Link S) (key : ℕ) → IsDistinct nat_eq (keys_of m.entries) → IsDistinct nat_eq (keys_of n.entries)
    → ((q : ℕ) → lookup (nat_eq q) n.entries ≡ cond (nat_eq key q) None (lookup (nat_eq q) m.entries))
    → IsPermutation (filter (λ p. not (nat_eq key p.0)) m.entries) n.entries
removed_key m n key d e u =
    let left = filter (λ p. not (nat_eq key p.0)) m.entries in
    let apart = IsDistinct-keys_filter nat_eq (λ p. not (nat_eq key p.0)) m.entries d in
    let answers : (q k : ℕ) → nat_eq q k ≡ true → not (nat_eq key k) ≡ not (nat_eq key q) = λ q k t. rw (eqb-true q k t) refl in
    let found : (q : ℕ) → lookup (nat_eq q) left ≡ lookup (nat_eq q) n.entries =
    λ q. lookup-filter-keys (nat_eq q) (λ k. not (nat_eq key k)) (not (nat_eq key q)) (answers q) m.entries ∙ not_then (nat_eq key q) _ _ ∙ sym (u q) in
    let same = hash_map_IsPermutation_from_get nat_eq_equiv (hash_map left (hasher_of m) (spare m)) n apart e found (λ k. k) (λ x y t. eqb-true x y t) in
    rw (all_the_same left, all_the_same n.entries) at same

-- what is found of a link is found of its entry
pub still_some : (f : Link → Entry) (o : Option Link) → is_some o ≡ is_some (option_map f o)
still_some f None = refl
still_some f (Some link) = refl
