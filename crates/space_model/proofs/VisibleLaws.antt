-- What a root that a line can name, or a stack word, leads to is what is reached.
use Rattle.std.proofs.Common.{ℕ, refl, ⊎_elim, inl, inr}
use Rattle.std.proofs.lemmas.Bool.{or_left, eq-eqb}
use Rattle.space_model.specs.declared.value.Value.TheVariants.{Name}
use Rattle.space_model.specs.Graph.{IsChild}
use Rattle.space_model.specs.Reach.{IsStart, Reach, IsVisibleStart, VisibleReach}
use Rattle.space_model.specs.Sound.{Sound}
use Rattle.space_model.specs.State.{State}
use Rattle.space_model.proofs.Reaching.{IsReached-start, IsReached-mono}
use Rattle.space_model.proofs.ValuesKept.{root_value-member, root_of_name}

visible_start : (s : State) (n : ℕ) → IsVisibleStart s n → IsStart s n
visible_start s n start = ⊎_elim
    (λ (root, ident, holds). inl (root_value-member s.roots root (Name n) n holds (or_left _ _ (eq-eqb n n refl))))
    (λ word. inr word)
    start

pub visible_reached : (s : State) (n : ℕ) → VisibleReach s n → Reach s n
visible_reached s = IsReached-mono (IsChild s.graph) (IsChild s.graph) (IsVisibleStart s) (IsStart s)
    (λ m n c. c)
    (λ n start. IsReached-start (IsChild s.graph) (IsStart s) n (visible_start s n start))

all_visible : (s : State) → Sound s → (n : ℕ) → IsStart s n → IsVisibleStart s n
all_visible s h n start = ⊎_elim (λ held. inl (root_of_name s.roots n h.roots held)) (λ word. inr word) start

pub reached_visible : (s : State) → Sound s → (n : ℕ) → Reach s n → VisibleReach s n
reached_visible s h = IsReached-mono (IsChild s.graph) (IsChild s.graph) (IsStart s) (IsVisibleStart s)
    (λ m n c. c)
    (λ n start. IsReached-start (IsChild s.graph) (IsVisibleStart s) n (all_visible s h n start))
