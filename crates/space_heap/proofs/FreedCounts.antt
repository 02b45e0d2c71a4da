-- How many slots a sweep frees at most.
use Rattle.std.proofs.Common.{◌≡◌, ℕ, ◌+◌, ◌≤◌, Bool, cond, List, [], ◌∷◌, length, refl, ap, arith, Option, None, Some}
use Rattle.std.specs.Prelude.{count_by}
use Rattle.std.proofs.lemmas.Bool.{cases_Bool}
use Rattle.std.proofs.lemmas.Grind.{common_steps}
use Rattle.std.proofs.lemmas.List.Sums.{sum_by-cons}
use Rattle.space_heap.specs.HeapView.{HeapView, Counters, page_at, pool_at}
use Rattle.space_heap.specs.SoundHeap.{IsSoundHeap}
use Rattle.space_heap.specs.Sweeping.{has_gone, swept}
use Rattle.space_heap.proofs.starts.Starts.{few_slots}
use Rattle.space_heap.proofs.SweptLaws.{counters-swept}

pub count_most : {X : Type 0} (p : X → Bool) (xs : List X) → count_by p xs ≤ length xs
count_most p [] = omega arith
count_most p (x ∷ xs) = let c = sum_by-cons (λ x. cond (p x) 1 0) x xs in let m = count_most p xs in grind (arith, common_steps, c, m, cases_Bool (p x))

pub slots_most : (v : HeapView) (page : ℕ) (own : Option ℕ) → pool_at v page ≡ own → IsSoundHeap v → length (page_at v page).slots ≤ 1638
slots_most v page None its sound = let none = sound.spare page its in omega arith
slots_most v page (Some own) its sound = let long = sound.long page own its in let few = few_slots own (sound.known page own its) in omega arith

-- a page has 1,638 gone objects at most
pub gone_most : (v : HeapView) (page : ℕ) → IsSoundHeap v → count_by has_gone (page_at v page).slots ≤ 1638
gone_most v page sound =
    let count = count_most has_gone (page_at v page).slots in
    let most = slots_most v page (pool_at v page) refl sound in
    omega arith

-- a sweep frees 1,638 slots at most
pub freed_most : (v : HeapView) (page : ℕ) → IsSoundHeap v → (swept v page).counters.freed ≤ v.counters.freed + 1638
freed_most v page sound =
    let most = gone_most v page sound in
    let freed = ap (λ (c : Counters). c.freed) (counters-swept v page) in
    omega (arith, freed, most)
