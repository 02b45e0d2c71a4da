-- What each call leaves of the stored lists.
use Rattle.std.proofs.Common.{◌≡◌, ◌≢◌, ℕ, zero, suc, ◌+◌, ◌<◌, ◌≤◌, nat_eq, Bool, true, false, cond, if◌then◌else◌, List, [], ◌∷◌, ◌++◌, length, drop, get_or}
use Rattle.std.proofs.Common.{append_assoc, append-nil, add-one, length-append, refl, sym, ap, ◌∙◌, Option, None, Some, ⊎_elim, arith}
use Rattle.std.proofs.lemmas.Bool.{cases_Bool, eqb-true, eq-eqb}
use Rattle.std.proofs.lemmas.Bool.Decides.{nat_tests}
use Rattle.std.proofs.lemmas.Cmp.{nat_eq_equiv}
use Rattle.std.proofs.lemmas.List.{drop-append-le, length-map}
use Rattle.std.proofs.lemmas.Option.{same_Some}
use Rattle.std.proofs.Math.Seq.{drop-append_seam}
use Rattle.std.proofs.lemmas.Map.Keys.{IsDistinct-head, IsDistinct-tail}
use Rattle.std.specs.List.{IsDistinct, AllByRecursion}
use Rattle.std.specs.Map.{lookup, keys_of, set_value}
use Rattle.space_model.specs.Finalizers.{labels_of, pairs_of, without_name}
use Rattle.space_model.proofs.FinalNames.{labels_of-append, labels_of-pairs_of_same, labels_of-pairs_of_other, labels_of-without_name}
use Rattle.space_finals.specs.FinalLists.{HaveSameLabels}
use Rattle.space_finals.specs.StoredFinals.{pairs_in, HaveLabels, AreToRun, HasLabel, labels_found, AreStored}

-- the pair at a place among those of a name
first_from : (name : ℕ) (labels : List (List ℕ)) (rest : List (ℕ × List ℕ)) (ran : ℕ) (label : List ℕ) → ran < length labels → label ≡ get_or labels ran label
    → drop ran (pairs_of name labels ++ rest) ≡ (name, label) ∷ drop (suc ran) (pairs_of name labels ++ rest)
first_from name [] rest ran label h at = absurd (omega arith)
first_from name (own ∷ labels) rest zero label h at = ap (λ l. (name, l) ∷ (pairs_of name labels ++ rest)) (sym at)
first_from name (own ∷ labels) rest (suc ran) label h at = first_from name labels rest ran label (omega arith) at

module _ {X : Type 0} (labels : X → List (List ℕ)) where
  absent : (n m : ℕ) (entries : List (ℕ × X)) → nat_eq n m ≡ true → AllByRecursion (λ y. nat_eq m y ≡ false) (keys_of entries)
      → lookup (nat_eq n) entries ≡ None
  absent n m [] t h = refl
  absent n m (entry ∷ entries) t h =
      let apart : nat_eq n entry.0 ≡ false = grind (arith, nat_tests, h.0) in
      rw apart (absent n m entries t h.1)

  -- the labels of a name are those that a look-up finds
  pub labels_of-pairs_in : (entries : List (ℕ × X)) (n : ℕ) → IsDistinct nat_eq (keys_of entries)
      → labels_of (pairs_in labels entries) n ≡ labels_found labels (lookup (nat_eq n) entries)
  labels_of-pairs_in [] n h = refl
  labels_of-pairs_in (entry ∷ entries) n h =
      let rest = labels_of-pairs_in entries n (IsDistinct-tail nat_eq entry.0 (keys_of entries) h) in
      let split = labels_of-append (pairs_of entry.0 (labels entry.1)) (pairs_in labels entries) n in
      split ∙ ⊎_elim
      (λ t. rw (
        labels_of-pairs_of_same entry.0 (labels entry.1) n t,
        rest,
        absent n entry.0 entries t
            (IsDistinct-head nat_eq entry.0 (keys_of entries) h),
        t,
      ) (append-nil (labels entry.1)))
      (λ f. rw (labels_of-pairs_of_other entry.0 (labels entry.1) n f) (rw f rest))
      (cases_Bool (nat_eq n entry.0))

  -- what is left where a name is taken out
  pub HaveSameLabels-removed : (old new : List (ℕ × X)) (name : ℕ) → IsDistinct nat_eq (keys_of old) → IsDistinct nat_eq (keys_of new)
      → ((q : ℕ) → lookup (nat_eq q) new ≡ cond (nat_eq name q) None (lookup (nat_eq q) old))
      → HaveSameLabels (pairs_in labels new) (without_name (pairs_in labels old) name)
  HaveSameLabels-removed old new name d e u n =
      let left = labels_of-pairs_in new n e in
      let right = labels_of-without_name (pairs_in labels old) name n in
      ⊎_elim
      (λ t. left ∙ rw (u n, t) (sym (right ∙ rw t refl)))
      (λ f. left ∙ rw (u n, f) (sym (right ∙ rw f (labels_of-pairs_in old n d))))
      (cases_Bool (nat_eq name n))

  -- what is there where a name has one more label
  pub HaveSameLabels-added : (old new : List (ℕ × X)) (name : ℕ) (label : List ℕ) (x : X) → IsDistinct nat_eq (keys_of old) → IsDistinct nat_eq (keys_of new)
      → ((q : ℕ) → lookup (nat_eq q) new ≡ cond (nat_eq name q) (Some x) (lookup (nat_eq q) old))
      → labels x ≡ labels_found labels (lookup (nat_eq name) old) ++ label ∷ []
      → HaveSameLabels (pairs_in labels new) (pairs_in labels old ++ (name, label) ∷ [])
  HaveSameLabels-added old new name label x d e u l n =
      let left = labels_of-pairs_in new n e in
      let right = labels_of-append (pairs_in labels old) ((name, label) ∷ []) n
      ∙ ap (λ front. front ++ labels_of ((name, label) ∷ []) n) (labels_of-pairs_in old n d) in
      ⊎_elim
      (λ t. let same : name ≡ n = eqb-true name n t in left ∙ rw (u n, t) (l ∙ sym (right ∙ rw (nat_eq_equiv.symm n name, t, ← same) refl)))
      (λ f. left ∙ ap (labels_found labels) {y = lookup (nat_eq n) old} (u n ∙ rw f refl)
      ∙ sym (right ∙ rw (labels_of-pairs_of_other name (label ∷ []) n (nat_eq_equiv.symm n name ∙ f))
      (append-nil (labels_found labels (lookup (nat_eq n) old)))))
      (cases_Bool (nat_eq name n))

  -- a list of labels that is replaced by one with the same labels
  pub pairs_in-set_value : (test : ℕ → Bool) (entries : List (ℕ × X)) (x w : X) → lookup test entries ≡ Some x → labels w ≡ labels x
      → pairs_in labels (set_value test entries w) ≡ pairs_in labels entries
  pairs_in-set_value test [] x w found same = refl
  pairs_in-set_value test (entry ∷ entries) x w found same = ⊎_elim
      (λ t. let is = same_Some entry.1 x (rw t at found) in rw t (ap (λ ls. pairs_of entry.0 ls ++ pairs_in labels entries) (same ∙ ap labels (sym is))))
      (λ f. rw f (ap (λ rest. pairs_of entry.0 (labels entry.1) ++ rest) (pairs_in-set_value test entries x w (rw f at found) same)))
      (cases_Bool (test entry.0))

  -- one name more in the queue
  pub pairs_in-push : (entries : List (ℕ × X)) (name : ℕ) (x : X)
      → pairs_in labels (entries ++ (name, x) ∷ []) ≡ pairs_in labels entries ++ pairs_of name (labels x)
  pairs_in-push [] name x = append-nil (pairs_of name (labels x))
  pairs_in-push (entry ∷ entries) name x =
      ap (λ rest. pairs_of entry.0 (labels entry.1) ++ rest) (pairs_in-push entries name x)
      ∙ sym (append_assoc (pairs_of entry.0 (labels entry.1)) (pairs_in labels entries) (pairs_of name (labels x)))

  have_labels-push : (entries : List (ℕ × X)) (name : ℕ) (x : X) → HaveLabels labels entries → 0 < length (labels x)
      → HaveLabels labels (entries ++ (name, x) ∷ [])
  have_labels-push [] name x h l = (l, tt)
  have_labels-push (entry ∷ entries) name x h l = (h.0, have_labels-push entries name x h.1 l)

  pub AreToRun-push : (ran : ℕ) (entries : List (ℕ × X)) (name : ℕ) (x : X) → AreToRun labels ran entries → 0 < length (labels x)
      → AreToRun labels ran (entries ++ (name, x) ∷ [])
  AreToRun-push ran [] name x h l = rw h (l, tt)
  AreToRun-push ran (entry ∷ entries) name x h l = (h.0, have_labels-push entries name x h.1 l)

  -- what is still to run, with one name more in the queue
  pub to_run-push : (ran : ℕ) (entries : List (ℕ × X)) (name : ℕ) (x : X) → AreToRun labels ran entries
      → drop ran (pairs_in labels (entries ++ (name, x) ∷ [])) ≡ drop ran (pairs_in labels entries) ++ pairs_of name (labels x)
  to_run-push ran [] name x h = rw h (append-nil (pairs_of name (labels x)))
  to_run-push ran (entry ∷ entries) name x h =
      let few : ran ≤ length (pairs_in labels (entry ∷ entries)) =
      omega (
        arith,
        h.0,
        length-append (pairs_of entry.0 (labels entry.1)) (pairs_in labels entries),
        length-map {B = ℕ × List ℕ} (labels entry.1)
            (λ label. (entry.0, label)),
      ) in
      ap (drop ran) (pairs_in-push (entry ∷ entries) name x) ∙ drop-append-le ran (pairs_in labels (entry ∷ entries)) (pairs_of name (labels x)) few

  -- the oldest of those that are still to run
  pub to_run-oldest : (ran : ℕ) (entries : List (ℕ × X)) (entry : ℕ × X) (label : List ℕ) → AreToRun labels ran entries → 0 < length entries
      → entry ≡ get_or entries 0 entry → label ≡ get_or (labels entry.1) ran label
      → drop ran (pairs_in labels entries) ≡ (entry.0, label) ∷ drop (ran + 1) (pairs_in labels entries)
  to_run-oldest ran [] entry label h some first at = absurd (omega arith)
  to_run-oldest ran (own ∷ entries) entry label h some first at =
      rw (add-one, first) (first_from own.0 (labels own.1) (pairs_in labels entries) ran label h.0 (rw first at at))

  -- once the last label of a name ran, the next name is up
  pub to_run-next : (ran : ℕ) (entries : List (ℕ × X)) (entry : ℕ × X) → 0 < length entries → entry ≡ get_or entries 0 entry → ran ≡ length (labels entry.1)
      → drop ran (pairs_in labels entries) ≡ pairs_in labels (drop 1 entries)
  to_run-next ran [] entry some first h = absurd (omega arith)
  to_run-next ran (own ∷ entries) entry some first h =
      rw (h ∙ ap (λ e. length (labels e.1)) first
      ∙ sym (length-map {B = ℕ × List ℕ} (labels own.1) (λ label. (own.0, label))))
      (drop-append_seam (pairs_of own.0 (labels own.1)) (pairs_in labels entries))

  -- and has a label
  pub AreToRun-next : (entries : List (ℕ × X)) → HaveLabels labels entries → AreToRun labels 0 entries
  AreToRun-next [] h = refl
  AreToRun-next (entry ∷ entries) h = h

  HasLabel-without : (b : Bool) (o : Option X) → HasLabel labels o → HasLabel labels (cond b None o)
  HasLabel-without true o h = tt
  HasLabel-without false o h = h

  HasLabel-found : (o : Option X) (x : X) → o ≡ Some x → HasLabel labels o → 0 < length (labels x)
  HasLabel-found o x found h = rw found at h

  -- what is stored once a name is moved to the queue
  pub AreStored-moved : (old new queue queued : List (ℕ × X)) (ran waiting later room after : ℕ) (name : ℕ) (x : X)
      → AreStored labels old queue ran waiting room → IsDistinct nat_eq (keys_of new)
      → ((q : ℕ) → lookup (nat_eq q) new ≡ cond (nat_eq name q) None (lookup (nat_eq q) old)) → lookup (nat_eq name) old ≡ Some x
      → queued ≡ queue ++ (name, x) ∷ [] → later + length new ≤ after → AreStored labels new queued ran later after
  AreStored-moved old new queue queued ran waiting later room after name x h d u found is fits = record {
    distinct = d;
    labelled = λ q. rw (u q) (HasLabel-without (nat_eq name q) (lookup (nat_eq q) old) (h.labelled q));
    to_run = rw is (AreToRun-push ran queue name x h.to_run (HasLabel-found (lookup (nat_eq name) old) x found (h.labelled name)));
    fits = fits;
  }

-- where each name has the same labels, it does so with one pair more
pub HaveSameLabels-push : (xs ys : List (ℕ × List ℕ)) (pair : ℕ × List ℕ) → HaveSameLabels xs ys → HaveSameLabels (xs ++ pair ∷ []) (ys ++ pair ∷ [])
HaveSameLabels-push xs ys pair h n =
    labels_of-append xs (pair ∷ []) n ∙ ap (λ front. front ++ labels_of (pair ∷ []) n) (h n) ∙ sym (labels_of-append ys (pair ∷ []) n)

-- and without a name
pub HaveSameLabels-without_name : (xs ys : List (ℕ × List ℕ)) (name : ℕ) → HaveSameLabels xs ys → HaveSameLabels (without_name xs name) (without_name ys name)
HaveSameLabels-without_name xs ys name h n =
    labels_of-without_name xs name n ∙ ap (λ labels. if nat_eq name n then [] else labels) (h n) ∙ sym (labels_of-without_name ys name n)

-- the pairs of a name, and the others
pub length-without_name : (pairs : List (ℕ × List ℕ)) (name : ℕ) → length (labels_of pairs name) + length (without_name pairs name) ≡ length pairs
length-without_name [] name = refl
length-without_name (pair ∷ pairs) name =
    let rest = length-without_name pairs name in
    ⊎_elim (λ t. rw t (omega arith)) (λ f. rw f (omega arith)) (cases_Bool (nat_eq name pair.0))

-- where each name has the same labels there are as many pairs
pub same_length : (xs ys : List (ℕ × List ℕ)) → HaveSameLabels xs ys → length xs ≡ length ys
same_length xs ys h = by_length (length xs) xs ys (omega arith) h
  where
    none : (pair : ℕ × List ℕ) (ys : List (ℕ × List ℕ)) → labels_of (pair ∷ ys) pair.0 ≡ [] → ⊥
    none pair ys e =
        let same = eq-eqb pair.0 pair.0 refl in
        let some : pair.1 ∷ labels_of ys pair.0 ≡ [] = rw same at e in
        cc

    some_go : (pair : ℕ × List ℕ) (xs : List (ℕ × List ℕ)) → length (without_name (pair ∷ xs) pair.0) ≤ length xs
    some_go pair xs =
        let same = eq-eqb pair.0 pair.0 refl in
        let rest = length-without_name xs pair.0 in
        rw same (omega arith)

    by_length : (most : ℕ) (xs ys : List (ℕ × List ℕ)) → length xs ≤ most → HaveSameLabels xs ys → length xs ≡ length ys
    by_length most [] [] few h = refl
    by_length most [] (pair ∷ ys) few h = absurd (none pair ys (sym (h pair.0)))
    by_length zero (pair ∷ xs) ys few h = absurd (omega arith)
    by_length (suc most) (pair ∷ xs) ys few h =
        let go = some_go pair xs in
        let others = by_length most (without_name (pair ∷ xs) pair.0) (without_name ys pair.0) (omega arith)
        (HaveSameLabels-without_name (pair ∷ xs) ys pair.0 h) in
        let its = ap length (h pair.0) in
        let first = length-without_name (pair ∷ xs) pair.0 in
        let second = length-without_name ys pair.0 in
        omega arith

-- one more pair makes it longer by one
pub length-pushed : (now before : List (ℕ × List ℕ)) (pair : ℕ × List ℕ) → HaveSameLabels now (before ++ pair ∷ []) → length now ≡ length before + 1
length-pushed now before pair h = same_length now (before ++ pair ∷ []) h ∙ length-append before (pair ∷ [])

-- and without a name it is shorter by its labels
pub length-removed : (now before : List (ℕ × List ℕ)) (name : ℕ) → HaveSameLabels now (without_name before name)
    → length (labels_of before name) + length now ≡ length before
length-removed now before name h = ap (λ n. length (labels_of before name) + n) (same_length now (without_name before name) h) ∙ length-without_name before name

module _ {X : Type 0} (labels : X → List (List ℕ)) where
  -- a name that is taken out takes as many pairs as it had labels
  pub length-taken : (old new : List (ℕ × X)) (name : ℕ) (x : X) → IsDistinct nat_eq (keys_of old) → IsDistinct nat_eq (keys_of new)
      → ((q : ℕ) → lookup (nat_eq q) new ≡ cond (nat_eq name q) None (lookup (nat_eq q) old)) → lookup (nat_eq name) old ≡ Some x
      → length (labels x) + length (pairs_in labels new) ≡ length (pairs_in labels old)
  length-taken old new name x d e u found =
      let its : labels_of (pairs_in labels old) name ≡ labels x = labels_of-pairs_in labels old name d ∙ ap (labels_found labels) found in
      ap (λ ls. length ls + length (pairs_in labels new)) (sym its)
      ∙ length-removed (pairs_in labels new) (pairs_in labels old) name (HaveSameLabels-removed labels old new name d e u)

  -- so many pairs are still to run, with one name more in the queue
  pub length-queued : (ran : ℕ) (entries : List (ℕ × X)) (name : ℕ) (x : X) → AreToRun labels ran entries
      → length (drop ran (pairs_in labels (entries ++ (name, x) ∷ []))) ≡ length (drop ran (pairs_in labels entries)) + length (labels x)
  length-queued ran entries name x h =
      ap length (to_run-push labels ran entries name x h)
      ∙ length-append (drop ran (pairs_in labels entries)) (pairs_of name (labels x))
      ∙ ap (λ n. length (drop ran (pairs_in labels entries)) + n) (length-map {B = ℕ × List ℕ} (labels x) (λ label. (name, label)))

  -- where a name has its list of labels, there is a pair
  pub some_pair : (entries : List (ℕ × X)) → ((name : ℕ) → HasLabel labels (lookup (nat_eq name) entries)) → 0 < length entries
      → pairs_in labels entries ≢ []
  some_pair [] h some none = absurd (omega arith)
  some_pair (entry ∷ entries) h some none =
      let same = eq-eqb entry.0 entry.0 refl in
      let labelled : 0 < length (labels entry.1) = rw same at (h entry.0) in
      let sizes = length-append (pairs_of entry.0 (labels entry.1)) (pairs_in labels entries) in
      let mapped = length-map {B = ℕ × List ℕ} (labels entry.1) (λ label. (entry.0, label)) in
      let nothing : length (pairs_of entry.0 (labels entry.1) ++ pairs_in labels entries) ≡ 0 = ap length none in
      absurd (omega arith)
