-- The digits of a number in base 16, the last one first.
use Rattle.std.proofs.Common.{◌≡◌, ℕ, zero, suc, ◌+◌, ◌/◌, ◌%◌, ◌^◌, ◌<◌, ◌≤◌, List, [], ◌∷◌, ◌++◌, map, length, ap, ◌∙◌, sym, subst, arith, lit≤, false}
use mathlib.Core.List.{append_assoc}
use Rattle.std.proofs.Math.Nat.{pow-suc}
use Rattle.std.proofs.lemmas.List.{map-append}
use Rattle.std.proofs.lemmas.Int.Digits.{digits_of_step, length-digits_of_step}
use Rattle.std.specs.Fmt.{digit_glyph}
use Rattle.std.specs.Int.Digits.{digits_of}
use Rattle.space_model.specs.Spelling.{hex_digits}

-- the digits of a number below 16 ^ k are k at most
pub count : (k n : ℕ) → n < 16 ^ k → length (digits_of 16 n) ≤ k
count zero n small = let none : n ≡ 0 = omega arith in subst (λ (m : ℕ). length (digits_of 16 m) ≤ 0) (sym none) (lit≤ tt)
count (suc k) zero small = omega arith
count (suc k) (suc m) small =
    let less : suc m / 16 < 16 ^ k = omega (arith, pow-suc 16 k) in
    omega (arith, length-digits_of_step 16 (suc m) (lit≤ tt) (omega arith), count k (suc m / 16) less)

-- one digit is taken from what is left, and stands before the bytes so far
pub record IsTaken (left byte : ℕ) (bytes more : List ℕ) : Type 0 where
  pub some : 0 < left
  pub is : byte ≡ digit_glyph false (left % 16)
  pub pushed : more ≡ byte ∷ bytes

pub fewer : (left : ℕ) → 0 < left → length (digits_of 16 left) ≡ length (digits_of 16 (left / 16)) + 1
fewer left some = length-digits_of_step 16 left (lit≤ tt) some

pub taken : (left byte : ℕ) (bytes more : List ℕ) → IsTaken left byte bytes more → hex_digits (left / 16) ++ more ≡ hex_digits left ++ bytes
taken left byte bytes more t =
    let step = ap (map (digit_glyph false)) (digits_of_step 16 left (lit≤ tt) t.some) ∙ map-append (digit_glyph false) (digits_of 16 (left / 16)) (left % 16 ∷ []) in
    ap (λ ds. hex_digits (left / 16) ++ ds) (t.pushed ∙ ap (λ d. d ∷ bytes) t.is)
    ∙ sym (append_assoc (hex_digits (left / 16)) (digit_glyph false (left % 16) ∷ []) bytes)
    ∙ ap (λ ds. ds ++ bytes) (sym step)
