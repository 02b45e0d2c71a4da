-- Where a search for LF ends.
use Rattle.std.proofs.Common.{ℕ, zero, suc, ◌+◌, ◌-◌, ◌≤◌, ◌<◌, ◌≡◌, ◌==◌, ◌++◌, List, [], ◌∷◌, Option, Some, None, true, false, length, take, drop, slice_index, arith, ap, ◌∙◌, sym, refl}
use Rattle.std.proofs.lemmas.Bool.{false_from_ne_true, eqb-true}
use Rattle.std.proofs.lemmas.List.{take-append-drop, length-drop}
use Rattle.memchr.specs.Find.{IsFirstByte, Nowhere, Passes, is_byte}
use Rattle.space_io.proofs.Pieces.{rest_is}
use Rattle.space_io.specs.Reading.{IsCut}
use Rattle.space_model.specs.Lines.{HasNoLf}
use Rattle.space_model.proofs.LineLemmas.{HasNoLf-append}

no_lf_in : (hay : List ℕ) → Nowhere (Passes (is_byte 10) hay) 0 (length hay) → HasNoLf hay
no_lf_in [] h = tt
no_lf_in (b ∷ hay) h = (false_from_ne_true (b == 10) (h 0 (omega arith) (omega arith)), no_lf_in hay (λ k low high. h (suc k) (omega arith) (omega arith)))

cut_at : (hay : List ℕ) (n : ℕ) → Nowhere (Passes (is_byte 10) hay) 0 n → n < length hay → Passes (is_byte 10) hay n →
    IsCut hay (take n hay) (drop (suc n) hay)
cut_at [] n before lt here = absurd (omega arith)
cut_at (b ∷ hay) zero before lt here = record { whole = ap (λ x. x ∷ hay) (eqb-true b 10 here); no_lf = tt }
cut_at (b ∷ hay) (suc n) before lt here =
    let rest = cut_at hay n (λ k low high. before (suc k) (omega arith) (omega arith)) (omega arith) here in
    record { whole = ap (λ xs. b ∷ xs) rest.whole; no_lf = (false_from_ne_true (b == 10) (before 0 (omega arith) (omega arith)), rest.no_lf) }

cut_after : (bytes : List ℕ) (searched n at : ℕ) → searched ≤ length bytes → at ≡ searched + n → HasNoLf (take searched bytes) →
    IsCut (drop searched bytes) (take n (drop searched bytes)) (drop (suc n) (drop searched bytes)) →
    IsCut bytes (take at bytes) (drop (suc at) bytes)
cut_after bytes zero n at within e before cut =
    let same : at ≡ n = omega arith in
    rw same cut
cut_after [] (suc s) n at within e before cut = absurd (omega arith)
cut_after (b ∷ bytes) (suc s) n zero within e before cut = absurd (omega arith)
cut_after (b ∷ bytes) (suc s) n (suc at) within e before cut =
    let rest = cut_after bytes s n at (omega arith) (omega arith) before.1 cut in
    record { whole = ap (λ xs. b ∷ xs) rest.whole; no_lf = (before.0, rest.no_lf) }

-- where no byte from a place on is LF, and none before it is
pub none_found : (bytes : List ℕ) (searched : ℕ) → HasNoLf (take searched bytes) →
    IsFirstByte (is_byte 10) (take (length bytes - searched) (drop searched bytes)) None → HasNoLf bytes
none_found bytes searched before none =
    let rest = no_lf_in (drop searched bytes) (rw (rest_is bytes searched) at none) in
    let whole = HasNoLf-append (take searched bytes) (drop searched bytes) before rest in
    rw (take-append-drop searched bytes) at whole

-- where the first LF from a place on is found, and none is before it
pub cut_found : (bytes : List ℕ) (searched n : ℕ) → searched ≤ length bytes → HasNoLf (take searched bytes) →
    IsFirstByte (is_byte 10) (take (length bytes - searched) (drop searched bytes)) (Some n) →
    IsCut bytes (take (searched + n) bytes) (drop (searched + n + 1) bytes) × (searched + n < length bytes)
cut_found bytes searched n within before found =
    let here = rw (rest_is bytes searched) at found in
    let place : searched + n + 1 ≡ suc (searched + n) = omega arith in (
      rw place (cut_after bytes searched n (searched + n) within refl before (cut_at (drop searched bytes) n here.0.before here.0.high here.1)),
      omega (arith, here.0.high, length-drop searched bytes),
    )
