-- Counts of two planes that are raised one after another.
use Rattle.std.proofs.Common.{◌≡◌, ⊎_elim, ℕ, ◌+◌, ◌<◌, ◌≤◌, Bool, false, not, ◌&&◌, List, length, set, sym, ap, ◌∙◌, arith}
use Rattle.std.proofs.lemmas.Bool.{cases_eq, cases_lt}
use Rattle.std.proofs.lemmas.List.{get_or_past, length-set}
use Rattle.space_planes.specs.Planes.{bit, low_counted, high_counted, IsCountedUp}
use Rattle.space_planes.proofs.Bits.{bit-set_same, bit-set_other}

-- the counts below i were raised, and the others stayed
pub record AreCounted (counted skipped low high new_low new_high : List Bool) (i : ℕ) : Type 0 where
  pub low_len : length new_low ≡ length low
  pub high_len : length new_high ≡ length high
  pub lows : (k : ℕ) → k < i → bit new_low k ≡ low_counted (bit counted k && not (bit skipped k)) (bit low k) (bit high k)
  pub highs : (k : ℕ) → k < i → bit new_high k ≡ high_counted (bit counted k && not (bit skipped k)) (bit low k) (bit high k)
  pub rest_low : (k : ℕ) → i ≤ k → bit new_low k ≡ bit low k
  pub rest_high : (k : ℕ) → i ≤ k → bit new_high k ≡ bit high k

module _ (counted skipped low high new_low new_high : List Bool) (i : ℕ) (h : AreCounted counted skipped low high new_low new_high i) where
  abbrev counts : Bool
  counts = bit counted i && not (bit skipped i)

  abbrev next_low : List Bool
  next_low = set new_low i (low_counted counts (bit new_low i) (bit new_high i))

  abbrev next_high : List Bool
  next_high = set new_high i (high_counted counts (bit new_low i) (bit new_high i))

  -- one more count
  pub counted_more : i < length new_low → i < length new_high → AreCounted counted skipped low high next_low next_high (i + 1)
  counted_more in_low in_high = record {
    low_len = length-set new_low i _ ∙ h.low_len;
    high_len = length-set new_high i _ ∙ h.high_len;
    lows = λ k below. ⊎_elim
        (λ same. ap (bit next_low) same ∙ bit-set_same new_low i _ in_low
        ∙ (λ j. low_counted counts (h.rest_low i (omega arith) j) (h.rest_high i (omega arith) j))
        ∙ ap (λ k. low_counted (bit counted k && not (bit skipped k)) (bit low k) (bit high k)) (sym same))
        (λ differ. bit-set_other new_low i k _ differ ∙ h.lows k (omega arith))
        (cases_eq k i);
    highs = λ k below. ⊎_elim
        (λ same. ap (bit next_high) same ∙ bit-set_same new_high i _ in_high
        ∙ (λ j. high_counted counts (h.rest_low i (omega arith) j) (h.rest_high i (omega arith) j))
        ∙ ap (λ k. high_counted (bit counted k && not (bit skipped k)) (bit low k) (bit high k)) (sym same))
        (λ differ. bit-set_other new_high i k _ differ ∙ h.highs k (omega arith))
        (cases_eq k i);
    rest_low = λ k above. bit-set_other new_low i k _ (λ same. omega arith) ∙ h.rest_low k (omega arith);
    rest_high = λ k above. bit-set_other new_high i k _ (λ same. omega arith) ∙ h.rest_high k (omega arith);
  }

  -- past the last one nothing is counted
  pub counted_all : length counted ≤ i → length low ≡ length counted → length high ≡ length counted → IsCountedUp counted skipped low high new_low new_high
  counted_all all low_long high_long =
      let none : (k : ℕ) → i ≤ k → bit counted k ≡ false = λ k above. get_or_past counted k false (omega arith) in
      let low_none : (k : ℕ) → i ≤ k → bit low k ≡ false = λ k above. get_or_past low k false (omega arith) in
      let high_none : (k : ℕ) → i ≤ k → bit high k ≡ false = λ k above. get_or_past high k false (omega arith) in
      record {
        low_len = h.low_len;
        high_len = h.high_len;
        lows = λ k. ⊎_elim
            (λ below. h.lows k below)
            (λ above. h.rest_low k above ∙ low_none k above
            ∙ sym (λ j. low_counted (none k above j && not (bit skipped k)) (low_none k above j) (high_none k above j)))
            (cases_lt k i);
        highs = λ k. ⊎_elim
            (λ below. h.highs k below)
            (λ above. h.rest_high k above ∙ high_none k above
            ∙ sym (λ j. high_counted (none k above j && not (bit skipped k)) (low_none k above j) (high_none k above j)))
            (cases_lt k i);
      }
