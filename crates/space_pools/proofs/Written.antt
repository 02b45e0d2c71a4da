-- A page after words were written from the start of a slot on.
use Rattle.std.proofs.Common.{◌≡◌, ◌⊎◌, inl, inr, ⊎_elim, ℕ, List, [], length, refl, sym, ap, ◌∙◌, Option, None, Some}
use Rattle.std.specs.Prelude.{is_none, option_map}
use Rattle.std.specs.Simd.Lanes.{put_chunk}
use Rattle.std.proofs.lemmas.Bool.{cases_eq, cases_lt}
use Rattle.std.proofs.lemmas.List.{get_or_default, get_or-set_same, get_or-set_other, set_past, length-set}
use Rattle.std.proofs.lemmas.Simd.{length-put_chunk}
use Rattle.space_pools.specs.PageSlots.{PageSlots, free_in, found_in, with_found_in, count_of, width_of, written_in}
use Rattle.space_pools.specs.Sound.{IsSoundPage}

abbrev pub over : List ℕ → Option (List ℕ) → Option (List ℕ)
over ws found = option_map (λ old. put_chunk 0 old ws) found

pub pool_written : (p : PageSlots) (slot : ℕ) (ws : List ℕ) → (written_in p slot ws).pool ≡ p.pool
unfolding written_in
pool_written p slot ws = refl

pub unswept_written : (p : PageSlots) (slot : ℕ) (ws : List ℕ) → (written_in p slot ws).unswept ≡ p.unswept
unfolding written_in
unswept_written p slot ws = refl

pub length-written_in : (p : PageSlots) (slot : ℕ) (ws : List ℕ) → length (written_in p slot ws).slots ≡ length p.slots
unfolding written_in
length-written_in p slot ws = length-set p.slots slot (over ws (found_in p slot))

-- each slot is as before, but for its own words
pub found_written : (p : PageSlots) (slot : ℕ) (ws : List ℕ) (k : ℕ)
    → (found_in (written_in p slot ws) k ≡ found_in p k) ⊎ (found_in (written_in p slot ws) k ≡ over ws (found_in p k))
unfolding written_in
found_written p slot ws k =
    let found : Option (List ℕ) = over ws (found_in p slot) in
    ⊎_elim
    (λ same. ⊎_elim
    (λ within. inr (ap (found_in (with_found_in p slot found)) same ∙ get_or-set_same p.slots slot found None within
    ∙ ap (λ k. over ws (found_in p k)) (sym same)))
    (λ past. inl (ap (λ slots. found_in (record p { slots = slots }) k) (set_past p.slots slot found past)))
    (cases_lt slot (length p.slots)))
    (λ other. inl (get_or-set_other p.slots slot k found None other))
    (cases_eq k slot)

none-over : (vs : List ℕ) (y : Option (List ℕ)) → is_none (over vs y) ≡ is_none y
none-over vs None = refl
none-over vs (Some old) = refl

pub free_written : (p : PageSlots) (slot : ℕ) (ws : List ℕ) (k : ℕ) → free_in (written_in p slot ws) k ≡ free_in p k
unfolding written_in
free_written p slot ws k =
    let found : Option (List ℕ) = over ws (found_in p slot) in
    ⊎_elim
    (λ same. ⊎_elim
    (λ within.
    ap (free_in (with_found_in p slot found)) same
    ∙ ap is_none (get_or-set_same p.slots slot found (Some []) within)
    ∙ none-over ws (found_in p slot)
    ∙ sym (ap is_none (get_or_default p.slots slot (Some []) None within))
    ∙ ap (free_in p) (sym same))
    (λ past. ap (λ slots. free_in (record p { slots = slots }) k) (set_past p.slots slot found past))
    (cases_lt slot (length p.slots)))
    (λ other. ap is_none (get_or-set_other p.slots slot k found (Some []) other))
    (cases_eq k slot)

over_wide : (y : Option (List ℕ)) (vs words : List ℕ) (n : ℕ) → ((old : List ℕ) → y ≡ Some old → length old ≡ n) → over vs y ≡ Some words → length words ≡ n
over_wide None vs words n wide e = cc
over_wide (Some old) vs words n wide e =
    let w : put_chunk 0 old vs ≡ words = cc in
    ap length (sym w) ∙ length-put_chunk 0 old vs ∙ wide old refl

pub sound_written : (p : PageSlots) (slot : ℕ) (ws : List ℕ) → IsSoundPage p → IsSoundPage (written_in p slot ws)
sound_written p slot ws h = record {
  known = λ pool e. h.known pool (sym (pool_written p slot ws) ∙ e);
  long = length-written_in p slot ws ∙ h.long ∙ ap count_of (sym (pool_written p slot ws));
  wide = λ k words e.
      ⊎_elim
      (λ same. h.wide k words (sym same ∙ e))
      (λ written. over_wide (found_in p k) ws words (width_of p.pool) (h.wide k) (sym written ∙ e))
      (found_written p slot ws k)
      ∙ ap width_of (sym (pool_written p slot ws));
  swept = λ e. unswept_written p slot ws ∙ h.swept (sym (pool_written p slot ws) ∙ e);
}
