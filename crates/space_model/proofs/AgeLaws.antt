-- How many verdicts each name outlived, after one more.
use Rattle.std.proofs.Common.{◌≡◌, ℕ, zero, suc, ◌+◌, ◌<◌, ◌≤◌, List, length, ap, ◌∙◌, arith, if◌then◌else◌}
use Rattle.std.specs.Prelude.{is_some, slice_index_or}
use Rattle.std.specs.Ordering.{nat_cmp}
use Rattle.std.specs.FinMap.{FinMap, get}
use Rattle.std.proofs.lemmas.List.FromFn.{length-map-range_with_len, get_or-map-range_with_len}
use Rattle.space_model.specs.Ages.{aged, outlived_by}

pub aged-length : (place : FinMap nat_cmp ℕ) (outlived : List ℕ) → length (aged place outlived) ≡ length outlived
unfolding aged
aged-length place outlived = length-map-range_with_len _ 0 (length outlived)

-- a present name outlived one more
pub aged-by : (place : FinMap nat_cmp ℕ) (outlived : List ℕ) (name : ℕ) → 0 < name → name ≤ length outlived →
    outlived_by (aged place outlived) name ≡ outlived_by outlived name + (if is_some (get place name) then 1 else 0)
unfolding aged
aged-by place outlived zero some born = absurd (omega arith)
aged-by place outlived (suc index) some born =
    get_or-map-range_with_len (λ index. slice_index_or outlived index 0 + (if is_some (get place (index + 1)) then 1 else 0)) 0
    (length outlived) index index 0 (omega arith) (omega arith)
    ∙ ap (λ n. slice_index_or outlived index 0 + (if is_some (get place n) then 1 else 0)) (let e : index + 1 ≡ suc index = omega arith in e)
