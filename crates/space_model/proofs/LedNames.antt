-- The names that paths of children lead to from some names, as a list that has each once.
use Rattle.std.proofs.Common.{◌≡◌, ℕ, zero, suc, true, List, [], ◌∷◌, ◌++◌, length, nat_eq, get_or}
use Rattle.std.specs.Prelude.{◌↔◌}
use Rattle.std.specs.List.{flat_map, IsDistinct}
use Rattle.std.specs.Set.{is_member}
use Rattle.std.proofs.lemmas.Bool.{false≢true}
use Rattle.space_model.specs.Graph.{Item, no_item, names_of, children, IsChild}
use Rattle.space_model.specs.Reach.{IsReached}
use Rattle.space_model.specs.Reached.{grown_times, field_names}
use Rattle.space_model.proofs.Members.{member_left, member_right}
use Rattle.space_model.proofs.Reaching.{IsReached-start, IsReached-least, IsReached-mono}
use Rattle.space_model.proofs.Growing.{IsPart, grown_times-part, grown_times-whole, nothing-part}

field_at : (graph : List Item) (i n : ℕ) → is_member nat_eq (flat_map names_of (get_or graph i no_item).values) n ≡ true →
    is_member nat_eq (flat_map (λ item. flat_map names_of item.values) graph) n ≡ true
field_at [] i n m = absurd (false≢true m)
field_at (item ∷ graph) zero n m = member_left (flat_map names_of item.values) _ n m
field_at (item ∷ graph) (suc i) n m = member_right (flat_map names_of item.values) _ n (field_at graph i n m)

pub member-field_names : (graph : List Item) (parent n : ℕ) → IsChild graph parent n → is_member nat_eq (field_names graph) n ≡ true
unfolding field_names children
member-field_names graph zero n c = absurd (false≢true c)
member-field_names graph (suc index) n c = field_at graph index n c

module _ (graph : List Item) (starts : List ℕ) where
  abbrev Listed : ℕ → Type 0
  Listed n = is_member nat_eq starts n ≡ true

  -- as many steps as there are names that could come, so that none is left to add
  abbrev pub led_names : List ℕ
  led_names = grown_times starts (children graph) (length (starts ++ field_names graph)) []

  all_names : (n : ℕ) → IsReached (IsChild graph) Listed n → is_member nat_eq (starts ++ field_names graph) n ≡ true
  all_names = IsReached-least (IsChild graph) Listed (λ n. is_member nat_eq (starts ++ field_names graph) n ≡ true)
      (λ m n h c. member_right starts _ n (member-field_names graph m n c))
      (λ n h. member_left starts _ n h)

  part : IsPart starts (children graph) (grown_times starts (children graph) (length (starts ++ field_names graph)) [])
  part = grown_times-part starts (children graph) (length (starts ++ field_names graph)) [] (nothing-part starts (children graph))

  pub led_names-once : IsDistinct nat_eq (grown_times starts (children graph) (length (starts ++ field_names graph)) [])
  led_names-once = part.0

  -- each name of the list is led to, and each name that is led to is in the list
  module _ (IsBegin : ℕ → Type 0) (same : (n : ℕ) → (is_member nat_eq starts n ≡ true) ↔ IsBegin n) where
    pub member-led_names : (n : ℕ) →
        (is_member nat_eq (grown_times starts (children graph) (length (starts ++ field_names graph)) []) n ≡ true) ↔ IsReached (IsChild graph) IsBegin n
    member-led_names n = (
      (λ m. IsReached-mono (IsChild graph) (IsChild graph) Listed IsBegin (λ a b c. c)
          (λ a h. IsReached-start (IsChild graph) IsBegin a ((same a).0 h)) n (part.1 n m)),
      (λ r. grown_times-whole starts (children graph) (starts ++ field_names graph) all_names n
          (IsReached-mono (IsChild graph) (IsChild graph) IsBegin Listed (λ a b c. c)
          (λ a h. IsReached-start (IsChild graph) Listed a ((same a).1 h)) n r)),
    )
