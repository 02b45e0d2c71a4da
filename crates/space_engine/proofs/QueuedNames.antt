-- The finalizers of names that were queued one after another, in words of the model.
use Rattle.std.proofs.Common.{◌≡◌, ℕ, true, false, List, [], ◌∷◌, ◌++◌, nat_eq, refl, sym, ap, ◌∙◌, subst, ⊎_elim}
use mathlib.Core.List.{append_assoc, append-nil}
use Rattle.std.specs.List.{IsDistinct}
use Rattle.std.specs.Set.{is_member}
use Rattle.std.proofs.lemmas.Bool.{eqb-true, false≢true, false_from_ne_true, or_cases, or_left, or_right, eq-eqb}
use Rattle.std.proofs.lemmas.Map.Keys.{IsDistinct-tail}
use Rattle.space_model.specs.Finalizers.{labels_of, pairs_of, without_names, pairs_of_names}
use Rattle.space_model.proofs.FinalNames.{head_apart}
use Rattle.space_model.proofs.Members.{member_cases}
use Rattle.space_finals.specs.FinalLists.{FinalLists, HaveSameLabels, QueuesNames}
use Rattle.space_finals.proofs.ModelFinals.{none_queued, queued_finals, queued_pairs}

-- of these finalizers those of some names went to the end of the queue, one name after another
pub record AreQueued (finals waited : List (ℕ × List ℕ)) (names : List ℕ) (new : FinalLists) : Type 0 where
  pub defined : HaveSameLabels new.finals (without_names finals names)
  pub waits : new.queue ≡ waited ++ pairs_of_names finals names

-- none of the names that come was queued before
abbrev AreApart : List ℕ → List ℕ → Type 0
AreApart done names = (n : ℕ) → is_member nat_eq names n ≡ true → is_member nat_eq done n ≡ false

-- and none of the others, once one more was
others_apart : (done : List ℕ) (name : ℕ) (names : List ℕ) → IsDistinct nat_eq (name ∷ names) → AreApart done (name ∷ names) →
    AreApart (done ++ name ∷ []) names
others_apart done name names once apart n m = false_from_ne_true _ (λ t. ⊎_elim
    (λ before. false≢true (sym (apart n (or_right (nat_eq n name) _ m)) ∙ before))
    (λ last. ⊎_elim
    (λ same. false≢true (sym (head_apart name names once) ∙ ap (is_member nat_eq names) (sym (eqb-true n name same)) ∙ m))
    (λ none. false≢true none)
    (or_cases _ _ last))
    (member_cases done (name ∷ []) n t))

module _ (finals waited : List (ℕ × List ℕ)) where
  more_queued : (done names : List ℕ) (mid new : FinalLists) → AreQueued finals waited done mid → AreApart done names → IsDistinct nat_eq names →
      QueuesNames mid names new → AreQueued finals waited (done ++ names) new
  more_queued done [] mid new q apart once same =
      subst (λ done. AreQueued finals waited done new) (sym (append-nil done)) (subst (λ new. AreQueued finals waited done new) (sym same) q)
  more_queued done (name ∷ names) mid new q apart once (next, first, later) =
      let out = apart name (or_left _ _ (eq-eqb name name refl)) in
      let now : AreQueued finals waited (done ++ name ∷ []) next = record {
        defined = queued_finals finals done mid.finals q.defined name next.finals first.finals;
        waits = first.queue ∙ ap (λ queue. queue ++ pairs_of name (labels_of mid.finals name)) q.waits
            ∙ queued_pairs finals done mid.finals q.defined name out waited;
      } in
      subst (λ names. AreQueued finals waited names new) (append_assoc done (name ∷ []) names)
      (more_queued (done ++ name ∷ []) names next new now (others_apart done name names once apart) (IsDistinct-tail nat_eq name names once) later)

-- from lists that have the same
pub names_queued : (finals waited : List (ℕ × List ℕ)) (old : FinalLists) (names : List ℕ) (new : FinalLists) → HaveSameLabels old.finals finals →
    old.queue ≡ waited → IsDistinct nat_eq names → QueuesNames old names new → AreQueued finals waited names new
names_queued finals waited old names new same waits once queues = more_queued finals waited [] names old new
    (record { defined = λ n. same n ∙ none_queued finals n; waits = waits ∙ sym (append-nil waited) })
    (λ n m. refl) once queues
