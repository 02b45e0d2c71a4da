-- A sound heap has no more objects than its pages have slots.
use Rattle.std.proofs.Common.{◌≡◌, ℕ, ◌*◌, ◌≤◌, length, refl, arith, Option, None, Some}
use Rattle.space_heap.specs.HeapView.{HeapView, page_at, pool_at}
use Rattle.space_heap.specs.Marking.{HasAtMost}
use Rattle.space_heap.specs.SoundHeap.{IsSoundHeap}
use Rattle.space_heap.proofs.fields.SlotCounts.{few_objects}
use Rattle.space_heap.proofs.starts.Starts.{few_slots}

-- and no heap has more pages than the most
pub few_in_sound : (v : HeapView) → IsSoundHeap v → HasAtMost v (1638 * 4096)
few_in_sound v sound = λ places once standing.
    let few = few_objects v narrow places once standing in
    let limited = sound.limited in
    let most = sound.most in
    omega arith
  where
    narrow_pool : (page : ℕ) (pool : Option ℕ) → pool_at v page ≡ pool → length (page_at v page).slots ≤ 1638
    narrow_pool page None e = let none = sound.spare page e in omega arith
    narrow_pool page (Some pool) e =
        let long = sound.long page pool e in
        let few = few_slots pool (sound.known page pool e) in
        omega arith

    narrow : (page : ℕ) → length (page_at v page).slots ≤ 1638
    narrow page = narrow_pool page (page_at v page).pool refl
