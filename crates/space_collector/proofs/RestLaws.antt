-- What sweeps leave as it was: after none, after one, and after some and then others.
use Rattle.std.proofs.Common.{ℕ, ◌∙◌, refl, sym, ap, inl, inr, ⊎_elim}
use Rattle.space_heap.specs.HeapView.{Counters, HeapView}
use Rattle.space_heap.specs.SoundHeap.{IsSoundHeap}
use Rattle.space_sweep.specs.Sweeps.{SweepsFirst}
use Rattle.space_collector.specs.PagesSwept.{LeavesRest}
use Rattle.space_collector.proofs.PageSweeps.{count-first, limit-first, counters-first, freed-first, phase_left-first}

-- a heap leaves itself as it was
pub leaves_rest_refl : (v : HeapView) → LeavesRest v v
leaves_rest_refl v = record { counters = refl; page_count = refl; limit = refl; phase = inl refl }

-- what two runs of sweeps leave, both together leave
pub leaves_rest_then : (v w z : HeapView) → LeavesRest v w → LeavesRest w z → LeavesRest v z
leaves_rest_then v w z first then = record {
  counters = then.counters ∙ ap (λ (c : Counters). record c { freed = z.counters.freed }) first.counters;
  page_count = then.page_count ∙ first.page_count;
  limit = then.limit ∙ first.limit;
  phase = ⊎_elim (λ stays. ⊎_elim (λ same. inl (stays ∙ same)) (λ idle. inr (stays ∙ idle)) first.phase) (λ idle. inr idle) then.phase;
}

-- one sweep leaves it
pub leaves_rest-first : (v z : HeapView) (freed : ℕ) → SweepsFirst v z freed → IsSoundHeap v → LeavesRest v z
leaves_rest-first v z freed s sound = record {
  counters = counters-first v z freed s sound ∙ ap (λ n. record v.counters { freed = n }) (sym (freed-first v z freed s sound));
  page_count = count-first v z freed s;
  limit = limit-first v z freed s;
  phase = phase_left-first v z freed s;
}
