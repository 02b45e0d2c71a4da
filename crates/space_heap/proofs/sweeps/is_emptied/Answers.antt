use Rattle.std.proofs.Common.{◌≡◌, ℕ, Bool, true, false, true≢false, not, ◌&&◌, List, length, refl, sym, ap, ◌∙◌, arith, Option, None, Some}
use Rattle.std.specs.Prelude.{MatchOption, is_some}
use Rattle.std.proofs.lemmas.Bool.{or_left, or_right}
use Rattle.space_planes.specs.Planes.{bit, set_in_first_only, IsClearFrom, IsFirstSet}
use Rattle.space_planes.proofs.Bits.{same_bits, bit-set_in_first_only}
use Rattle.space_planes.proofs.Counts.{some_set}
use Rattle.space_heap.proofs.sweeps.is_emptied.Goals as goal

-- where a plane within another one differs from it, some bit of the other is in it alone
differs : (object gone : List Bool) → length object ≡ length gone → ((s : ℕ) → bit gone s ≡ true → bit object s ≡ true) → (object ≡ gone → ⊥)
    → (k : ℕ) × ((bit object k && not (bit gone k)) ≡ true)
differs object gone long within other =
    let only : List Bool = set_in_first_only object gone in
    let some = some_set only (λ empty. other (same_bits object gone long (λ s.
    same (bit object s) (bit gone s) (within s) (sym (bit-set_in_first_only object gone s long) ∙ empty s (omega arith))))) in
    (some.0, sym (bit-set_in_first_only object gone some.0 long) ∙ some.1)
  where
    same : (a b : Bool) → (b ≡ true → a ≡ true) → (a && not b) ≡ false → a ≡ b
    same true true h e = refl
    same true false h e = e
    same false true h e = h refl
    same false false h e = refl

pub returns-then-not-is_same-clause-used : goal.returns-then-not-is_same-clause-used
returns-then-not-is_same-clause-used c = λ e.
    let w = c.requires.wide in
    let some = differs c.args.marks.now.object c.args.marks.now.gone (sym w.gone) c.requires.gone
    (λ same. true≢false (sym (c.is_same.ensures.1 same) ∙ c.if-not-is_same.true)) in
    (some.0, or_left _ _ some.1)

-- a plane whose search found a bit has one
found_set : (plane : List Bool) (r : Option ℕ) → MatchOption r (IsClearFrom plane 0) (IsFirstSet plane 0) → is_some r ≡ true → (k : ℕ) × (bit plane k ≡ true)
found_set plane None h e = cc
found_set plane (Some k) h e = (k, h.is_set)

pub returns-clause-used : goal.returns-clause-used
returns-clause-used c = λ e.
    let some = found_set c.args.marks.now.moved c.first_set_from.result c.first_set_from.ensures (c.is_none.ensures ∙ ap not e) in
    (some.0, or_right _ _ some.1)
