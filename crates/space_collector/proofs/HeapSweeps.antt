-- The heap's part of sweeps: the pages that were swept, whatever was queued.
use Rattle.std.proofs.Common.{◌≡◌, ℕ, zero, suc, ◌+◌, List, [], length, refl, sym, subst, ap, arith}
use Rattle.space_finals.specs.FinalLists.{FinalLists}
use Rattle.space_heap.specs.HeapView.{HeapView}
use Rattle.space_sweep.specs.Sweeps.{SweepsFirst}
use Rattle.space_collector.specs.PagesSwept.{SweepsPage, SweepsPages, SweepsAll, SweepsInNeed}

-- so many pages were swept, each time the lowest that waited
abbrev pub HeapSweeps : ℕ → HeapView → HeapView → Type 0
HeapSweeps zero v w = w ≡ v
HeapSweeps (suc pages) v w = (freed : ℕ) × (mid : HeapView) × SweepsFirst v mid freed × HeapSweeps pages mid w

pub heap_pages : (pages : ℕ) (v : HeapView) (f : FinalLists) (w : HeapView) (g : FinalLists) → SweepsPages pages v f w g → HeapSweeps pages v w
heap_pages zero v f w g (same, none) = same
heap_pages (suc pages) v f w g (mid, between, first, others) = (first.freed, mid, first.sweeps, heap_pages pages mid between w g others)

-- one page more
pub sweeps_more : (pages : ℕ) (v : HeapView) (f : FinalLists) (w : HeapView) (g : FinalLists) (z : HeapView) (h : FinalLists) →
    SweepsPages pages v f w g → SweepsPage w g z h → SweepsPages (pages + 1) v f z h
sweeps_more zero v f w g z h same s =
    (z, h, subst (λ (w : HeapView). SweepsPage w f z h) same.0 (subst (λ (g : FinalLists). SweepsPage w g z h) same.1 s), (refl, refl))
sweeps_more (suc pages) v f w g z h (mid, between, first, then) s =
    let n : suc pages + 1 ≡ suc (pages + 1) = omega arith in
    subst (λ k. SweepsPages k v f z h) (sym n) (mid, between, first, sweeps_more pages mid between w g z h then s)

-- they were swept, whether in need or not
pub in_need_pages : (pages : ℕ) (v : HeapView) (f : FinalLists) (pool : ℕ) (w : HeapView) (g : FinalLists) → SweepsInNeed pages v f pool w g →
    SweepsPages pages v f w g
in_need_pages zero v f pool w g same = same
in_need_pages (suc pages) v f pool w g (needed, mid, between, first, others) = (mid, between, first, in_need_pages pages mid between pool w g others)

-- where no page waited nothing changed
pub sweeps_none : (v : HeapView) (f : FinalLists) (w : HeapView) (g : FinalLists) → v.unswept ≡ [] → SweepsAll v f w g → (w ≡ v) × (g ≡ f)
sweeps_none v f w g none swept = subst (λ pages. SweepsPages pages v f w g) (ap length none) swept
