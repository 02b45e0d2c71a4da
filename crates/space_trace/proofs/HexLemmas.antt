-- The digits of a number in base 16.
use Rattle.std.proofs.Common.{◌≡◌, ℕ, zero, suc, ◌+◌, ◌*◌, ◌/◌, ◌%◌, ◌^◌, ◌<◌, ◌≤◌, List, [], ◌∷◌, ◌++◌, map, length, drop, get_or, codes, IsTrue, true, false, refl, ap, ◌∙◌, sym, subst, arith, lit≤}
use mathlib.Core.List.{append_assoc}
use Rattle.std.proofs.Math.Nat.{pow-suc, pow-le-pow_right}
use Rattle.std.proofs.lemmas.List.{map-append, length-map, drop_more, drop_all}
use Rattle.std.proofs.lemmas.List.Elements.{All-nil, All-cons}
use Rattle.std.proofs.lemmas.Bool.Decides.{nat_tests}
use Rattle.std.proofs.lemmas.Int.Digits.{digits_of_step, length-digits_of_step, all_below_base_digits_of}
use Rattle.std.specs.Fmt.{digit_glyph}
use Rattle.std.specs.Int.Digits.{digits_of, AllBelowBase}
use Rattle.std.specs.Char.{digit_value}
use Rattle.std.specs.List.{All}
use Rattle.std.specs.Str.Parse.{digits_value, digits_value_after}
use Rattle.space_model.specs.Grammar.{IsHex, is_hex_digit}
use Rattle.space_model.specs.Spelling.{hex_digits, hex}
use Rattle.space_model.proofs.Cutting.{hex_digits-value, hex-suc}

pub length_step : (n : ℕ) → 0 < n → length (digits_of 16 n) ≡ length (digits_of 16 (n / 16)) + 1
length_step n some = length-digits_of_step 16 n (lit≤ tt) some

pub hex_digits-push : (n : ℕ) → 0 < n → hex_digits n ≡ hex_digits (n / 16) ++ digit_glyph false (n % 16) ∷ []
hex_digits-push n some = ap (map (digit_glyph false)) (digits_of_step 16 n (lit≤ tt) some)
    ∙ map-append (digit_glyph false) (digits_of 16 (n / 16)) (n % 16 ∷ [])

pub length_hex : (k n : ℕ) → n < 16 ^ k → length (digits_of 16 n) ≤ k
length_hex zero n h = let e : n ≡ 0 = omega arith in subst (λ (m : ℕ). length (digits_of 16 m) ≤ 0) (sym e) (lit≤ tt)
length_hex (suc k) zero h = omega arith
length_hex (suc k) (suc m) h =
    let less : suc m / 16 < 16 ^ k = omega (arith, pow-suc 16 k) in
    omega (arith, length_step (suc m) (omega arith), length_hex k (suc m / 16) less)

-- a digit more, put before those that follow it
pub put_before : (left : ℕ) (digit : ℕ) (line after whole : List ℕ) → 0 < left → digit ≡ digit_glyph false (left % 16) → after ≡ digit ∷ line →
    hex_digits left ++ line ≡ whole → hex_digits (left / 16) ++ after ≡ whole
put_before left digit line after whole some d put so_far =
    ap (λ ds. hex_digits (left / 16) ++ ds) (put ∙ ap (λ b. b ∷ line) d)
    ∙ sym (append_assoc (hex_digits (left / 16)) (digit_glyph false (left % 16) ∷ []) line)
    ∙ ap (λ ds. ds ++ line) (sym (hex_digits-push left some))
    ∙ so_far

-- the digits that a number is written with

glyph_is_digit : (d : ℕ) → d < 16 → is_hex_digit (digit_glyph false d) ≡ true
glyph_is_digit d h = grind (arith, nat_tests)

glyphs_are_digits : (ds : List ℕ) → AllBelowBase 16 ds → All (λ b. IsTrue (is_hex_digit b)) (map (digit_glyph false) ds)
glyphs_are_digits [] h = All-nil (λ b. IsTrue (is_hex_digit b))
glyphs_are_digits (d ∷ ds) h = All-cons (λ b. IsTrue (is_hex_digit b)) (digit_glyph false d) (map (digit_glyph false) ds) (glyph_is_digit d h.0)
    (glyphs_are_digits ds h.1)

pub IsHex-hex : (n : ℕ) → n < 2 ^ 64 → IsHex (hex n) n
IsHex-hex zero fits = record {
  digits = codes "0";
  is = refl;
  some = lit≤ tt;
  short = lit≤ tt;
  are_digits = All-cons (λ b. IsTrue (is_hex_digit b)) 48 [] refl (All-nil (λ b. IsTrue (is_hex_digit b)));
  value = refl;
}
IsHex-hex (suc n) fits =
    let long : length (hex_digits (suc n)) ≡ length (digits_of 16 (suc n)) = length-map (digits_of 16 (suc n)) (digit_glyph false) in
    record {
      digits = hex_digits (suc n);
      is = hex-suc n;
      some = omega (arith, long, length_step (suc n) (omega arith));
      short = omega (arith, long, length_hex 16 (suc n) (omega arith));
      are_digits = glyphs_are_digits (digits_of 16 (suc n)) (all_below_base_digits_of 16 (suc n) (lit≤ tt));
      value = sym (hex_digits-value (suc n));
    }

-- the digits up to i were read as this number
pub record IsHexTo (digits : List ℕ) (i number : ℕ) : Type 0 where
  pub value : digits_value_after 16 number (drop i digits) ≡ digits_value 16 digits
  pub below : number < 16 ^ i

pub hex_start : (digits : List ℕ) → IsHexTo digits 0 0
hex_start digits = record { value = refl; below = lit≤ tt }

pub hex_more : (digits : List ℕ) (i number digit next : ℕ) → i < length digits → digit ≡ digit_value (get_or digits i 0) → digit < 16 →
    next ≡ number * 16 + digit → IsHexTo digits i number → IsHexTo digits (i + 1) next
hex_more digits i number digit next lt d small e h =
    let split = drop_more digits i 0 lt in
    let here = rw split at h.value in
    let one : i + 1 ≡ suc i = omega arith in
    record {
      value = rw (e, d) here;
      below = rw one (omega (arith, h.below, pow-suc 16 i));
    }

-- one more digit leaves the number below 2 ^ 64
pub hex_room : (i number digit : ℕ) → i < 16 → number < 16 ^ i → digit < 16 → number * 16 + digit < 2 ^ 64
hex_room i number digit lt below small =
    let below_16 : i ≤ 15 = omega arith in
    let most : 16 ^ i ≤ 16 ^ 15 = pow-le-pow_right (lit≤ tt) below_16 in
    omega (arith, most)

pub hex_end : (digits : List ℕ) (i number : ℕ) → length digits ≤ i → IsHexTo digits i number → number ≡ digits_value 16 digits
hex_end digits i number ended h =
    let none : drop i digits ≡ [] = drop_all i digits ended in
    rw none at h.value
