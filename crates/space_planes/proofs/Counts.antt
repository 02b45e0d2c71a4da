-- Planes without a bit that is 1, for the callers.
use Rattle.std.proofs.Common.{◌≡◌, ℕ, Bool, true, false, List, [], ◌∷◌, zero, suc, refl, arith}
use Rattle.space_planes.specs.Planes.{bit, IsClearFrom}

-- where not every bit is 0 some bit is 1
pub some_set : (plane : List Bool) → (IsClearFrom plane 0 → ⊥) → (k : ℕ) × (bit plane k ≡ true)
some_set [] never = absurd (never (λ k from. refl))
some_set (true ∷ plane) never = (0, refl)
some_set (false ∷ plane) never =
    let rest = some_set plane (λ clear. never (after clear)) in
    (suc rest.0, rest.1)
  where
    after : IsClearFrom plane 0 → IsClearFrom (false ∷ plane) 0
    after clear zero from = refl
    after clear (suc k) from = clear k (omega arith)
