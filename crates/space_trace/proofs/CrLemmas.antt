-- A CR at the end of a line.
use Rattle.std.proofs.Common.{◌≡◌, ℕ, List, [], ◌∷◌, ◌++◌, refl, ap, sym}
use Rattle.std.proofs.lemmas.Bool.{ne_eqb}
use Rattle.space_model.specs.Grammar.{without_cr}

without_cr-last : (rest : List ℕ) → without_cr (rest ++ 13 ∷ []) ≡ rest
without_cr-last [] = refl
without_cr-last (b ∷ []) = refl
without_cr-last (b ∷ c ∷ rest) = ap (λ (line : List ℕ). b ∷ line) (without_cr-last (c ∷ rest))

without_cr-none : (rest : List ℕ) (last : ℕ) → (last ≡ 13 → ⊥) → without_cr (rest ++ last ∷ []) ≡ rest ++ last ∷ []
without_cr-none [] last other = rw (ne_eqb last 13 other) refl
without_cr-none (b ∷ []) last other = ap (λ (line : List ℕ). b ∷ line) (without_cr-none [] last other)
without_cr-none (b ∷ c ∷ rest) last other = ap (λ (line : List ℕ). b ∷ line) (without_cr-none (c ∷ rest) last other)

pub drops_cr : (line rest : List ℕ) (last : ℕ) → line ≡ rest ++ last ∷ [] → last ≡ 13 → rest ≡ without_cr line
drops_cr line rest last e f = rw (e, f) (sym (without_cr-last rest))

pub keeps_line : (line rest : List ℕ) (last : ℕ) → line ≡ rest ++ last ∷ [] → (last ≡ 13 → ⊥) → line ≡ without_cr line
keeps_line line rest last e other = rw e (sym (without_cr-none rest last other))
