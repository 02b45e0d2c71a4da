-- The pages of a heap after the moves of a compaction ended.
use Rattle.std.proofs.Common.{◌≡◌, ⊎_elim, ℕ, ◌+◌, ◌<◌, ◌≤◌, List, ◌++◌, length, map, set, take, drop, get_or, refl, sym, ap, ◌∙◌, arith, None}
use Rattle.std.specs.List.{range_with_len}
use Rattle.std.proofs.lemmas.Bool.{cases_lt}
use Rattle.std.proofs.lemmas.List.{set-get_or, take_all, drop_all, append-nil}
use Rattle.std.proofs.lemmas.List.FromFn.{get_or-map-range_with_len}
use Rattle.space_pools.specs.PageSlots.{PageSlots, count_of}
use Rattle.space_pools.specs.PoolsView.{PoolsView, page_at, pool_at, unswept_at}
use Rattle.space_pools.specs.Sound.{IsSoundPools}
use Rattle.space_heap.specs.declared.marks.Marks.{Marks}
use Rattle.space_heap.specs.HeapView.{PageView, no_page}
use Rattle.space_heap.specs.Relocation.{ended_page, ended}
use Rattle.space_heap.specs.planes.MovedMarks.{EndsPage, EndsPages}
use Rattle.space_heap.specs.planes.MarkPlanes.{marks_at}
use Rattle.space_heap.specs.Inside.{slot_in, page_from, page_in, pages_from, Rest, view_with, AreAllMarks}
use Rattle.space_heap.proofs.fields.Views.{page_read}
use Rattle.space_heap.proofs.fields.Unswept.{past_unswept}
use Rattle.space_heap.proofs.WaitingPages.{none_left}

-- a spare page stays
spare_page_from : (p : PageSlots) (m : Marks) → p.pool ≡ None → length p.slots ≡ 0 → page_from p m ≡ no_page
spare_page_from p m e l = λ i. record { pool = e i; slots = map (slot_in p m) (range_with_len 0 (l i)) }

-- so it is as after the end
pub ended_spare : (v : PoolsView) (ms : List Marks) (page : ℕ) → IsSoundPools v → pool_at v page ≡ None → AreAllMarks v ms
    → EndsPage v v ms ms page
ended_spare v ms page sound spare all =
    let long : length (page_at v page).slots ≡ 0 = (sound.sound page).long ∙ ap count_of spare in
    let empty : page_in v ms page ≡ no_page = spare_page_from (page_at v page) (marks_at ms page) spare long in
    let same : ended_page (page_in v ms page) ≡ page_in v ms page = ap ended_page empty ∙ sym empty in
    record {
      limit = refl;
      count = refl;
      pages = sym (ap (set (pages_from v ms) page) (same ∙ sym (page_read v ms page)) ∙ set-get_or (pages_from v ms) page no_page);
      swept = (sound.sound page).swept spare;
      others = λ k differ. refl;
      all = all;
    }

-- one more compaction was done
abbrev pub one_compaction : Rest → Rest
one_compaction rest = record rest { counters = record rest.counters { compactions = rest.counters.compactions + 1 } }

-- the view after the end
pub ended_view : (v w : PoolsView) (ms ns : List Marks) (rest : Rest) → EndsPages v w ms ns
    → view_with w ns (one_compaction rest) ≡ ended (view_with v ms rest)
unfolding ended
ended_view v w ms ns rest e = λ i. record (view_with v ms rest) {
  limit = e.limit i;
  pages = e.pages i;
  unswept = none_left (unswept_at w) (range_with_len 0 (length w.pages)) (λ k. ⊎_elim
      (λ within. e.swept k within)
      (λ past. past_unswept w k past)
      (cases_lt k (length w.pages))) i;
  counters = record rest.counters { compactions = rest.counters.compactions + 1 };
}

-- a page in the list of all
pub page_listed : (v : PoolsView) (ms : List Marks) (page : ℕ) (d : PageView) → page < length v.pages → page_in v ms page ≡ get_or (pages_from v ms) page d
page_listed v ms page d within = sym (get_or-map-range_with_len (page_in v ms) 0 (length v.pages) page page d within (omega arith))

-- a list of which all items were changed
pub mapped_all : {X : Type 0} (f : X → X) (xs : List X) (n : ℕ) → length xs ≤ n → map f (take n xs) ++ drop n xs ≡ map f xs
mapped_all f xs n past =
    ap (λ ys. map f ys ++ drop n xs) (take_all n xs past) ∙ ap (λ ys. map f xs ++ ys) (drop_all n xs past) ∙ append-nil (map f xs)
