-- Kept names are present and unprotected.
use Rattle.std.proofs.Common.{ℕ, List, [], ◌∷◌, ◌++◌, sym, ap, ◌∙◌, ⊎_elim, Option}
use Rattle.std.specs.Ordering.{nat_cmp}
use Rattle.std.specs.FinMap.{FinMap, get, keys, insert}
use Rattle.std.proofs.lemmas.Bool.{and_parts, or_cases, not-true}
use Rattle.space_model.specs.declared.event.Kind.{Kind}
use Rattle.space_model.specs.declared.event.Kind.TheVariants.{Minor, Major, Full}
use Rattle.space_model.specs.Ages.{is_protected_guard}
use Rattle.space_model.specs.Graph.{Item}
use Rattle.space_model.specs.Kept.{unprotected_children, present_of, kept_after_verdict}
use Rattle.space_model.specs.Sound.{AreSlots, SoundKept}
use Rattle.space_model.proofs.MapLaws.{present-insert, some_get}
use Rattle.space_model.proofs.Members.{member_filter}
use Rattle.space_model.proofs.NotedLaws.{member-with_names}
use Rattle.space_model.proofs.ReachedLaws.{member-keys}
use Rattle.space_model.proofs.SlotLaws.{item_of-push}

unprotected_children-sound : (graph : List Item) (place : FinMap nat_cmp ℕ) (outlived : List ℕ) →
    SoundKept graph place (unprotected_children graph place outlived)
unfolding unprotected_children
unprotected_children-sound graph place outlived n m =
    let both = and_parts _ _ (sym (member_filter _ (keys place) n) ∙ m) in
    (sym (member-keys place n) ∙ both.0, not-true _ (and_parts _ _ both.1).0)

present_of-sound : (graph : List Item) (place now : FinMap nat_cmp ℕ) (kept : List ℕ) → SoundKept graph place kept → SoundKept graph now (present_of now kept)
present_of-sound graph place now kept h n m =
    let both = and_parts _ _ (sym (member_filter _ kept n) ∙ m) in
    (both.1, (h n both.0).1)

-- after a verdict of any kind, which left the names of the second map
pub SoundKept-verdict : (kind : Kind) (graph : List Item) (place now : FinMap nat_cmp ℕ) (outlived kept : List ℕ) → SoundKept graph place kept →
    SoundKept graph now (kept_after_verdict kind graph now outlived kept)
SoundKept-verdict Minor graph place now outlived kept h n m = ⊎_elim
    (λ child. unprotected_children-sound graph now outlived n child)
    (λ still. present_of-sound graph place now kept h n still)
    (or_cases _ _ (sym (member-with_names (unprotected_children graph now outlived) (present_of now kept) n) ∙ m))
SoundKept-verdict Major graph place now outlived kept h n m = present_of-sound graph place now kept h n m
SoundKept-verdict Full graph place now outlived kept h n m = unprotected_children-sound graph now outlived n m

-- after an object was allocated
pub SoundKept-born : (graph : List Item) (pages : List (Option ℕ)) (place : FinMap nat_cmp ℕ) (kept : List ℕ) (item : Item) (name address : ℕ) →
    AreSlots graph pages place → SoundKept graph place kept → SoundKept (graph ++ item ∷ []) (insert place name address) kept
SoundKept-born graph pages place kept item name address l h n m =
    let both = h n m in
    let at = some_get (get place n) both.0 in
    let b = l.allocated n at.0 at.1 in (
      present-insert place name address n both.0,
      ap (λ (item : Item). is_protected_guard item.guard) (item_of-push graph item n b.0 b.1) ∙ both.1,
    )
