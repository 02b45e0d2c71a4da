-- Pages that were swept since no address was free.
use Rattle.std.proofs.Common.{◌≡◌, ◌≢◌, ℕ, zero, suc, ◌+◌, ◌<◌, ◌≤◌, Bool, true, false, true≢false, List, [], ◌∷◌, length, nat_lt, refl, sym, ◌∙◌, subst, arith}
use Rattle.std.specs.Prelude.{◌↔◌}
use Rattle.std.proofs.lemmas.Bool.Decides.{nat_tests}
use Rattle.space_finals.specs.FinalLists.{FinalLists}
use Rattle.space_heap.specs.FreeSlots.{HasNoFree}
use Rattle.space_heap.specs.HeapView.{HeapView}
use Rattle.space_heap.specs.SoundHeap.{IsSoundHeap}
use Rattle.space_collector.specs.PagesSwept.{SweepsPage, SweepsInNeed, SweepsUntilFree, LeavesRest}
use Rattle.space_collector.specs.Quiescent.{IsQuiescent, most_slots}
use Rattle.space_collector.proofs.HeapSweeps.{HeapSweeps, heap_pages, in_need_pages}
use Rattle.space_collector.proofs.AllSweeps.{run, began_sound, freed_most}

-- one page more, since still no address was free
pub sweeps_in_need_more : (pages : ℕ) (v : HeapView) (f : FinalLists) (pool : ℕ) (w : HeapView) (g : FinalLists) (z : HeapView) (h : FinalLists) →
    SweepsInNeed pages v f pool w g → HasNoFree w pool → SweepsPage w g z h → SweepsInNeed (pages + 1) v f pool z h
sweeps_in_need_more zero v f pool w g z h same none s = (
  subst (λ (w : HeapView). HasNoFree w pool) same.0 none,
  z,
  h,
  subst (λ (w : HeapView). SweepsPage w f z h) same.0 (subst (λ (g : FinalLists). SweepsPage w g z h) same.1 s),
  (refl, refl),
)
sweeps_in_need_more (suc pages) v f pool w g z h (needed, mid, between, first, then) none s =
    let n : suc pages + 1 ≡ suc (pages + 1) = omega arith in
    subst (λ k. SweepsInNeed k v f pool z h) (sym n)
    (needed, mid, between, first, sweeps_in_need_more pages mid between pool w g z h then none s)

-- the heap's part of them
heap_in_need : (pages : ℕ) (v : HeapView) (f : FinalLists) (pool : ℕ) (w : HeapView) (g : FinalLists) → SweepsInNeed pages v f pool w g → HeapSweeps pages v w
heap_in_need pages v f pool w g needed = heap_pages pages v f w g (in_need_pages pages v f pool w g needed)

-- some were swept in need, or none; a heap that a page is swept of is sound
abbrev pub SweepsSome : HeapView → FinalLists → ℕ → HeapView → FinalLists → Type 0
SweepsSome v f pool w g = (pages : ℕ) × SweepsInNeed pages v f pool w g × (0 < pages → IsSoundHeap v)

pub sweeps_some_more : (v : HeapView) (f : FinalLists) (pool : ℕ) (w : HeapView) (g : FinalLists) (z : HeapView) (h : FinalLists) →
    SweepsSome v f pool w g → HasNoFree w pool → IsSoundHeap w → SweepsPage w g z h → SweepsSome v f pool z h
sweeps_some_more v f pool w g z h (pages, needed, sound) none now s = (
  pages + 1,
  sweeps_in_need_more pages v f pool w g z h needed none s,
  λ more. began_sound pages v w sound (heap_in_need pages v f pool w g needed) now,
)

-- a heap that is sound after them was so before
pub sound_before : (v : HeapView) (f : FinalLists) (pool : ℕ) (w : HeapView) (g : FinalLists) → SweepsSome v f pool w g → IsSoundHeap w → IsSoundHeap v
sound_before v f pool w g (pages, needed, sound) now = began_sound pages v w sound (heap_in_need pages v f pool w g needed) now

-- what holds then
pub record IsNeededRun (v : HeapView) (f : FinalLists) (pool : ℕ) (w : HeapView) (g : FinalLists) : Type 0 where
  pub most : w.counters.freed ≤ v.counters.freed + most_slots
  pub rest : LeavesRest v w
  pub quiescent : IsQuiescent v → IsQuiescent w
  pub ended : (HasNoFree w pool → w.unswept ≡ []) → SweepsUntilFree v f w g pool

pub needed_run : (v : HeapView) (f : FinalLists) (pool : ℕ) (w : HeapView) (g : FinalLists) → SweepsSome v f pool w g → IsNeededRun v f pool w g
needed_run v f pool w g (pages, needed, sound) =
    let swept = heap_in_need pages v f pool w g needed in
    let all = run pages v w sound swept in
    record {
      most = freed_most pages v w sound swept;
      rest = all.rest;
      quiescent = all.quiescent;
      ended = λ ends. record { pages = pages; sweeps = needed; ends = ends };
    }

-- whether a list has anything, by its length
pub some_there : (xs : List ℕ) → (nat_lt 0 (length xs) ≡ true) ↔ (xs ≢ [])
some_there [] = ((λ e none. cc), (λ some. absurd (some refl)))
some_there (x ∷ xs) = ((λ e none. cc), (λ some. grind (arith, nat_tests)))

-- where no sweep is needed, and none is free, none waits
pub none_needed : (needs : Bool) (v : HeapView) (pool : ℕ) → (needs ≡ true) ↔ (HasNoFree v pool × (v.unswept ≢ [])) → needs ≡ false → HasNoFree v pool →
    v.unswept ≡ []
none_needed needs v pool same e none = by_list v.unswept refl
  where
    by_list : (xs : List ℕ) → v.unswept ≡ xs → v.unswept ≡ []
    by_list [] is = is
    by_list (x ∷ xs) is = absurd (true≢false (sym (same.1 (none, λ empty. cc)) ∙ e))
