-- The calls on finalizers, in the words of the model: `final` and `unfinal`, and the sweep of a page, which queues the names of its corpses
-- one after another.
use Rattle.std.proofs.Common.{◌≡◌, ℕ, ◌||◌, Bool, true, false, if◌then◌else◌, List, [], ◌∷◌, ◌++◌, length, nat_eq, refl, sym, ap, ◌∙◌, subst}
use mathlib.Core.List.{append_assoc, append-nil}
use Rattle.std.specs.List.{IsDistinct}
use Rattle.std.specs.Set.{is_member}
use Rattle.std.proofs.lemmas.Bool.{or_from, or_left, or_right, eqb-true, eq-eqb, false≢true}
use Rattle.std.proofs.lemmas.Cmp.{nat_eq_equiv}
use Rattle.std.proofs.lemmas.List.Folds.{list_any-append}
use Rattle.std.proofs.lemmas.Map.Keys.{IsDistinct-tail}
use Rattle.space_model.specs.Finalizers.{labels_of, pairs_of, without_name, without_names, pairs_of_names}
use Rattle.space_model.proofs.FinalNames.{labels_of-without_name, labels_of-without_names, head_apart}
use Rattle.space_finals.specs.FinalLists.{FinalLists, HaveSameLabels, QueuesName, QueuesNames}
use Rattle.space_finals.proofs.FinalsLemmas.{HaveSameLabels-push, HaveSameLabels-without_name}

-- as many are taken away from the same
pub count_same : (xs ys : List (ℕ × List ℕ)) (name : ℕ) → HaveSameLabels xs ys → length (labels_of xs name) ≡ length (labels_of ys name)
count_same xs ys name h = ap length (h name)

-- one more is defined
pub defined_same : (now before finals : List (ℕ × List ℕ)) (name : ℕ) (label : List ℕ) → HaveSameLabels now (before ++ (name, label) ∷ []) →
    HaveSameLabels before finals → HaveSameLabels now (finals ++ (name, label) ∷ [])
defined_same now before finals name label h same n = h n ∙ HaveSameLabels-push before finals (name, label) same n

-- those of a name are taken away
pub taken_same : (now before finals : List (ℕ × List ℕ)) (name : ℕ) → HaveSameLabels now (without_name before name) → HaveSameLabels before finals →
    HaveSameLabels now (without_name finals name)
taken_same now before finals name h same n = h n ∙ HaveSameLabels-without_name before finals name same n

-- before the first name is queued
pub none_queued : (finals : List (ℕ × List ℕ)) → HaveSameLabels finals (without_names finals [])
none_queued finals n = sym (labels_of-without_names finals [] n)

last_member : (names : List ℕ) (name n : ℕ) → is_member nat_eq (names ++ name ∷ []) n ≡ (is_member nat_eq names n || nat_eq n name)
last_member names name n = list_any-append (nat_eq n) names (name ∷ []) ∙ ap (λ b. is_member nat_eq names n || b) (only (nat_eq n name))
  where
    only : (b : Bool) → (b || false) ≡ b
    only true = refl
    only false = refl

both_out : (a b : Bool) (labels : List (List ℕ)) → (if b then [] else if a then [] else labels) ≡ (if a || b then [] else labels)
both_out true true labels = refl
both_out true false labels = refl
both_out false true labels = refl
both_out false false labels = refl

module _ (finals : List (ℕ × List ℕ)) (done : List ℕ) (before : List (ℕ × List ℕ)) (same : HaveSameLabels before (without_names finals done)) (name : ℕ) where
  -- what is defined after one more name was queued
  pub queued_finals : (now : List (ℕ × List ℕ)) → HaveSameLabels now (without_name before name) → HaveSameLabels now (without_names finals (done ++ name ∷ []))
  queued_finals now h n =
      h n
      ∙ labels_of-without_name before name n
      ∙ ap (λ labels. if nat_eq name n then [] else labels) (same n ∙ labels_of-without_names finals done n)
      ∙ both_out (is_member nat_eq done n) (nat_eq name n) (labels_of finals n)
      ∙ ap (λ b. if is_member nat_eq done n || b then [] else labels_of finals n) (nat_eq_equiv.symm name n)
      ∙ ap (λ b. if b then [] else labels_of finals n) (sym (last_member done name n))
      ∙ sym (labels_of-without_names finals (done ++ name ∷ []) n)

  -- and what waits
  pub queued_pairs : is_member nat_eq done name ≡ false → (waited : List (ℕ × List ℕ)) →
      (waited ++ pairs_of_names finals done) ++ pairs_of name (labels_of before name) ≡ waited ++ pairs_of_names finals (done ++ name ∷ [])
  queued_pairs out waited =
      let its : labels_of before name ≡ labels_of finals name = same name ∙ labels_of-without_names finals done name ∙ rw out refl in
      append_assoc waited (pairs_of_names finals done) (pairs_of name (labels_of before name))
      ∙ ap (λ labels. waited ++ (pairs_of_names finals done ++ pairs_of name labels)) its
      ∙ ap (λ pairs. waited ++ pairs) (sym (pairs-push done))
    where
      pairs-push : (names : List ℕ) → pairs_of_names finals (names ++ name ∷ []) ≡ pairs_of_names finals names ++ pairs_of name (labels_of finals name)
      pairs-push [] = append-nil (pairs_of name (labels_of finals name))
      pairs-push (first ∷ names) =
          ap (λ rest. pairs_of first (labels_of finals first) ++ rest) (pairs-push names)
          ∙ sym (append_assoc (pairs_of first (labels_of finals first)) (pairs_of_names finals names) (pairs_of name (labels_of finals name)))

-- a name that doesn't come again comes last
distinct_last : (done names : List ℕ) (name : ℕ) → is_member nat_eq done name ≡ false → IsDistinct nat_eq (name ∷ names) →
    ((n : ℕ) → is_member nat_eq names n ≡ true → is_member nat_eq done n ≡ false) →
    (n : ℕ) → is_member nat_eq names n ≡ true → is_member nat_eq (done ++ name ∷ []) n ≡ false
distinct_last done names name new once apart n m =
    last_member done name n ∙ or_from (is_member nat_eq done n) (nat_eq n name) (apart n m) (other (nat_eq n name) refl)
  where
    other : (b : Bool) → nat_eq n name ≡ b → nat_eq n name ≡ false
    other true e = absurd (false≢true (sym (head_apart name names once) ∙ ap (is_member nat_eq names) (sym (eqb-true n name e)) ∙ m))
    other false e = e

module _ (finals : List (ℕ × List ℕ)) (waited : List (ℕ × List ℕ)) where
  -- names were queued after these
  record IsQueued (done : List ℕ) (f : FinalLists) : Type 0 where
    defined : HaveSameLabels f.finals (without_names finals done)
    waiting : f.queue ≡ waited ++ pairs_of_names finals done

  queued_rest : (done names : List ℕ) (f g : FinalLists) → QueuesNames f names g → IsDistinct nat_eq names →
      ((n : ℕ) → is_member nat_eq names n ≡ true → is_member nat_eq done n ≡ false) → IsQueued done f → IsQueued (done ++ names) g
  queued_rest done [] f g same once apart h = subst (λ (g : FinalLists). IsQueued (done ++ []) g) (sym same) (subst (λ names. IsQueued names f) (sym (append-nil done)) h)
  queued_rest done (name ∷ names) f g (mid, first, others) once apart h =
      let new : is_member nat_eq done name ≡ false = apart name (or_left (nat_eq name name) _ (eq-eqb name name refl)) in
      let rest = queued_rest (done ++ name ∷ []) names mid g others (IsDistinct-tail nat_eq name names once)
      (distinct_last done names name new once (λ n m. apart n (or_right (nat_eq n name) _ m)))
      (record {
        defined = queued_finals finals done f.finals h.defined name mid.finals first.finals;
        waiting = first.queue ∙ ap (λ pairs. pairs ++ pairs_of name (labels_of f.finals name)) h.waiting
            ∙ queued_pairs finals done f.finals h.defined name new waited;
      }) in
      subst (λ names. IsQueued names g) (append_assoc done (name ∷ []) names) rest

-- after some names were queued, in the model's words
pub queued_names : (f : FinalLists) (names : List ℕ) (g : FinalLists) (finals queue : List (ℕ × List ℕ)) → QueuesNames f names g →
    HaveSameLabels f.finals finals → IsDistinct nat_eq names → f.queue ≡ queue →
    HaveSameLabels g.finals (without_names finals names) × (g.queue ≡ queue ++ pairs_of_names finals names)
queued_names f names g finals queue queues same once waits =
    let all = queued_rest finals queue [] names f g queues once (λ n m. refl)
    (record { defined = λ n. same n ∙ none_queued finals n; waiting = waits ∙ sym (append-nil queue) }) in
    (all.defined, all.waiting)

-- one name more was queued
pub queued_more : (f : FinalLists) (names : List ℕ) (mid g : FinalLists) (name : ℕ) → QueuesNames f names mid → QueuesName mid name g →
    QueuesNames f (names ++ name ∷ []) g
queued_more f [] mid g name same last = (g, subst (λ (mid : FinalLists). QueuesName mid name g) same last, refl)
queued_more f (first ∷ names) mid g name (now, begins, others) last = (now, begins, queued_more now names mid g name others last)

-- where none is defined, queueing changes nothing that shows
pub queued_nothing : (f : FinalLists) (names : List ℕ) → f.finals ≡ [] → QueuesNames f names f
queued_nothing f [] none = refl
queued_nothing f (name ∷ names) none = (
  f,
  record {
    finals = λ n. ap (λ pairs. labels_of pairs n) none ∙ sym (ap (λ pairs. labels_of (without_name pairs name) n) none);
    queue = sym (append-nil f.queue) ∙ sym (ap (λ pairs. f.queue ++ pairs_of name (labels_of pairs name)) none);
  },
  queued_nothing f names none,
)
