-- A page after the slots of a plane became free.
use Rattle.std.proofs.Common.{◌≡◌, ⊎_elim, ℕ, ◌<◌, Bool, true, false, ◌||◌, cond, List, [], length, refl, sym, ap, ◌∙◌, arith, Option, None, Some}
use Rattle.std.specs.Prelude.{is_none}
use Rattle.std.proofs.lemmas.Bool.{cases_lt}
use Rattle.std.proofs.lemmas.List.{get_or_default, get_or_past}
use Rattle.std.proofs.lemmas.List.FromFn.{length-map-range_with_len, get_or-map-range_with_len}
use Rattle.space_planes.specs.Planes.{bit}
use Rattle.space_pools.specs.PageSlots.{PageSlots, free_in, found_in, freed_found, freed_in}

pub pool_freed : (p : PageSlots) (free : List Bool) → (freed_in p free).pool ≡ p.pool
unfolding freed_in
pool_freed p free = refl

pub swept_freed : (p : PageSlots) (free : List Bool) → (freed_in p free).unswept ≡ false
unfolding freed_in
swept_freed p free = refl

pub length-freed_in : (p : PageSlots) (free : List Bool) → length (freed_in p free).slots ≡ length p.slots
unfolding freed_in
length-freed_in p free = length-map-range_with_len (freed_found p free) 0 (length p.slots)

-- what is found in each slot
pub found_in-freed_in : (p : PageSlots) (free : List Bool) (slot : ℕ) → found_in (freed_in p free) slot ≡ cond (bit free slot) None (found_in p slot)
unfolding freed_in
found_in-freed_in p free slot = ⊎_elim
    (λ within. get_or-map-range_with_len (freed_found p free) 0 (length p.slots) slot slot None within (omega arith))
    (λ past. get_or_past (freed_in p free).slots slot None (let n = length-freed_in p free in omega arith)
    ∙ sym (nothing (bit free slot) (found_in p slot) (get_or_past p.slots slot None past)))
    (cases_lt slot (length p.slots))
  where
    nothing : (b : Bool) (found : Option (List ℕ)) → found ≡ None → cond b None found ≡ None
    nothing true found e = refl
    nothing false found e = e

-- a slot is free exactly where it was or is in the plane
pub free_in-freed_in : (p : PageSlots) (free : List Bool) (slot : ℕ) → slot < length p.slots
    → free_in (freed_in p free) slot ≡ (bit free slot || free_in p slot)
free_in-freed_in p free slot within =
    ap is_none (get_or_default (freed_in p free).slots slot (Some []) None (let n = length-freed_in p free in omega arith) ∙ found_in-freed_in p free slot)
    ∙ either (bit free slot) (found_in p slot)
    ∙ ap (λ b. bit free slot || b) (sym (ap is_none (get_or_default p.slots slot (Some []) None within)))
  where
    either : (b : Bool) (found : Option (List ℕ)) → is_none (cond b None found) ≡ (b || is_none found)
    either true found = refl
    either false found = refl

pub freed_words : (p : PageSlots) (free : List Bool) (slot : ℕ) (words : List ℕ) → found_in (freed_in p free) slot ≡ Some words → found_in p slot ≡ Some words
freed_words p free slot words e = kept (bit free slot) (found_in p slot) (sym (found_in-freed_in p free slot) ∙ e)
  where
    kept : (b : Bool) (found : Option (List ℕ)) → cond b None found ≡ Some words → found ≡ Some words
    kept true found e = cc
    kept false found e = e
