use Rattle.std.proofs.Common.{◌≡◌, ◌++◌, ℕ, ◌<◌, false, length, map, take, drop}
use Rattle.std.specs.Prelude.{vec_capacity}
use Rattle.space_pools.specs.PoolsView.{unswept_at}
use Rattle.space_heap.specs.Relocation.{ended_page}
use Rattle.space_heap.specs.Inside.{pages_from, AreAllMarks}
use Rattle.space_heap.proofs.ended_moves.end_pages.Given as goal

-- the pages so far are as after the end
abbrev pub invariant-pages : goal.invariant-pages
invariant-pages l = record {
  limit : l.pools.limit ≡ l.fn.pools.limit;
  count : length l.pools.pages ≡ length l.fn.pools.pages;
  pages : pages_from l.pools l.marks.items
      ≡ map ended_page (take l.page (pages_from l.fn.pools l.fn.marks.items)) ++ drop l.page (pages_from l.fn.pools l.fn.marks.items);
  swept : (k : ℕ) → k < l.page → unswept_at l.pools k ≡ false;
  all : AreAllMarks l.pools l.marks.items;
  room : vec_capacity l.marks ≡ vec_capacity l.fn.marks;
}
