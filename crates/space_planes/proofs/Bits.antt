-- The laws of the bits of a plane, for the callers.
use Rattle.std.proofs.Common.{◌≡◌, ◌≢◌, ℕ, ◌<◌, Bool, true, false, not, ◌&&◌, ◌||◌, List, [], ◌∷◌, length, replicate, slice_set, arith, refl, zero, suc, sym, ◌∙◌}
use Rattle.std.specs.Simd.Lanes.{zip2}
use Rattle.std.proofs.lemmas.List.{same_lists, get_or_default, get_or-set_same, get_or-set_other}
use Rattle.std.proofs.lemmas.Simd.{length-zip2}
use Rattle.space_planes.specs.Planes.{bit, set_in_both, set_in_either, set_in_first_only}

pub bit-set_same : (plane : List Bool) (i : ℕ) (value : Bool) → i < length plane → bit (slice_set plane i value) i ≡ value
bit-set_same plane i value within = get_or-set_same plane i value false within

pub bit-set_other : (plane : List Bool) (i j : ℕ) (value : Bool) → j ≢ i → bit (slice_set plane i value) j ≡ bit plane j
bit-set_other plane i j value differ = get_or-set_other plane i j value false differ

-- a plane without a bit that is 1
pub bit-replicate : (n i : ℕ) → bit (replicate n false) i ≡ false
bit-replicate zero i = refl
bit-replicate (suc n) zero = refl
bit-replicate (suc n) (suc i) = bit-replicate n i

bit-zip2 : (f : Bool → Bool → Bool) → f false false ≡ false → (left right : List Bool) (i : ℕ) → length left ≡ length right
    → bit (zip2 f left right) i ≡ f (bit left i) (bit right i)
bit-zip2 f clear [] [] i same = sym clear
bit-zip2 f clear [] (y ∷ right) i same = absurd (omega arith)
bit-zip2 f clear (x ∷ left) [] i same = absurd (omega arith)
bit-zip2 f clear (x ∷ left) (y ∷ right) zero same = refl
bit-zip2 f clear (x ∷ left) (y ∷ right) (suc i) same = bit-zip2 f clear left right i (omega arith)

pub bit-set_in_both : (left right : List Bool) (i : ℕ) → length left ≡ length right → bit (set_in_both left right) i ≡ (bit left i && bit right i)
bit-set_in_both left right i same = bit-zip2 (λ left right. left && right) refl left right i same

pub bit-set_in_either : (left right : List Bool) (i : ℕ) → length left ≡ length right → bit (set_in_either left right) i ≡ (bit left i || bit right i)
bit-set_in_either left right i same = bit-zip2 (λ left right. left || right) refl left right i same

pub bit-set_in_first_only : (left right : List Bool) (i : ℕ) → length left ≡ length right
    → bit (set_in_first_only left right) i ≡ (bit left i && not (bit right i))
bit-set_in_first_only left right i same = bit-zip2 (λ left right. left && not right) refl left right i same

pub length-set_in_both : (left right : List Bool) → length left ≡ length right → length (set_in_both left right) ≡ length left
length-set_in_both left right same = length-zip2 (λ left right. left && right) left right same

pub length-set_in_either : (left right : List Bool) → length left ≡ length right → length (set_in_either left right) ≡ length left
length-set_in_either left right same = length-zip2 (λ left right. left || right) left right same

pub length-set_in_first_only : (left right : List Bool) → length left ≡ length right → length (set_in_first_only left right) ≡ length left
length-set_in_first_only left right same = length-zip2 (λ left right. left && not right) left right same

-- planes with the same length and the same bits are the same
pub same_bits : (left right : List Bool) → length left ≡ length right → ((i : ℕ) → bit left i ≡ bit right i) → left ≡ right
same_bits left right same agree =
    same_lists left right same (λ k d h. get_or_default left k d false h ∙ agree k ∙ sym (get_or_default right k d false (omega arith)))

-- a bit that is 1 is within the plane
pub within_from_bit : (plane : List Bool) (i : ℕ) → bit plane i ≡ true → i < length plane
within_from_bit [] i set = cc
within_from_bit (x ∷ plane) zero set = omega arith
within_from_bit (x ∷ plane) (suc i) set = let rest = within_from_bit plane i set in omega arith
