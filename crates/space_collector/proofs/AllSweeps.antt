-- Page after page is swept: what holds after so many sweeps, and after all.
use Rattle.std.proofs.Common.{◌≡◌, ℕ, zero, suc, ◌+◌, ◌*◌, ◌<◌, ◌≤◌, ◌∙◌, List, [], ◌∷◌, length, map, refl, sym, ap, subst, arith}
use Rattle.std.specs.Prelude.{count_by}
use Rattle.std.specs.List.{range_with_len}
use Rattle.std.proofs.lemmas.List.FromFn.{length-range_with_len}
use Rattle.std.proofs.lemmas.List.Sums.{length-filter, count_by-le-length}
use Rattle.space_model.specs.Layout.{most_pages, most_page_slots}
use Rattle.space_heap.specs.HeapView.{HeapView, page_at, is_unswept}
use Rattle.space_heap.specs.SoundHeap.{IsSoundHeap}
use Rattle.space_heap.specs.Sweeping.{HasNoGone, has_gone, swept}
use Rattle.space_heap.proofs.GoneCounts.{gone_on_page}
use Rattle.space_sweep.specs.Sweeps.{SweepsFirst, phase_left}
use Rattle.space_sweep.proofs.GoneWaits.{none_gone_waiting}
use Rattle.space_collector.specs.GoneNames.{gone_names, name_at}
use Rattle.space_collector.specs.PagesSwept.{LeavesRest}
use Rattle.space_collector.proofs.HeapSweeps.{HeapSweeps}
use Rattle.space_collector.specs.Quiescent.{IsQuiescent, most_slots}
use Rattle.space_collector.proofs.GoneLists.{none_gone_below}
use Rattle.space_collector.proofs.PageSweeps.{unswept-first, fewer_wait, freed-first, freed_most-first, gone-first, quiescent-first}
use Rattle.space_collector.proofs.RestLaws.{leaves_rest_refl, leaves_rest_then, leaves_rest-first}
use Rattle.space_collector.proofs.SoundSweeps.{sound-first}

-- no more pages wait than there may be
pub unswept_most : (v : HeapView) → IsSoundHeap v → length v.unswept ≤ most_pages
unswept_most v sound =
    let many : length v.unswept ≡ count_by (is_unswept v) (range_with_len 0 (length v.pages)) =
    ap length sound.waiting ∙ length-filter (is_unswept v) (range_with_len 0 (length v.pages)) in
    let few = count_by-le-length (is_unswept v) (range_with_len 0 (length v.pages)) in
    let long = length-range_with_len 0 (length v.pages) in
    let limited = sound.limited in
    let most = sound.most in
    omega arith

-- what holds after so many sweeps
pub record IsRun (pages : ℕ) (v w : HeapView) : Type 0 where
  pub left : length w.unswept + pages ≡ length v.unswept
  pub counted : w.counters.freed + length (gone_names w) ≡ v.counters.freed + length (gone_names v)
  pub most : w.counters.freed ≤ v.counters.freed + most_page_slots * pages
  pub rest : LeavesRest v w
  pub sound : IsSoundHeap v → IsSoundHeap w
  pub quiescent : IsQuiescent v → IsQuiescent w

-- no sweep changes nothing
no_run : (v : HeapView) → IsRun 0 v v
no_run v = record {
  left = omega arith;
  counted = refl;
  most = omega arith;
  rest = leaves_rest_refl v;
  sound = λ sound. sound;
  quiescent = λ quiescent. quiescent;
}

-- one sweep, and then so many
run_after : (pages : ℕ) (v mid w : HeapView) (freed : ℕ) → SweepsFirst v mid freed → IsSoundHeap v → IsRun pages mid w → IsRun (suc pages) v w
run_after pages v mid w freed s sound then =
    let fewer = fewer_wait v mid freed s sound in
    let count = freed-first v mid freed s sound in
    let few = freed_most-first v mid freed s sound in
    let gone = gone-first v mid freed s in
    record {
      left = let left = then.left in omega arith;
      counted = let counted = then.counted in omega arith;
      most = let most = then.most in omega arith;
      rest = leaves_rest_then v mid w (leaves_rest-first v mid freed s sound) then.rest;
      sound = λ was. then.sound (sound-first v mid freed s was);
      quiescent = λ was. then.quiescent (quiescent-first v mid freed s sound was);
    }

-- it holds where every heap that a page is swept of is sound
pub run : (pages : ℕ) (v w : HeapView) → (0 < pages → IsSoundHeap v) → HeapSweeps pages v w → IsRun pages v w
run zero v w sound same = subst (λ (w : HeapView). IsRun 0 v w) (sym same) (no_run v)
run (suc pages) v w sound (freed, mid, first, others) =
    let began : IsSoundHeap v = sound (omega arith) in
    run_after pages v mid w freed first began (run pages mid w (λ more. sound-first v mid freed first began) others)

-- sweeps keep what holds of every heap
pub sound_pages : (pages : ℕ) (v w : HeapView) → IsSoundHeap v → HeapSweeps pages v w → IsSoundHeap w
sound_pages pages v w sound swept = (run pages v w (λ more. sound) swept).sound sound

-- and that what is left to do shows in the phase
pub quiescent_pages : (pages : ℕ) (v w : HeapView) → IsSoundHeap v → IsQuiescent v → HeapSweeps pages v w → IsQuiescent w
quiescent_pages pages v w sound quiescent swept = (run pages v w (λ more. sound) swept).quiescent quiescent

-- and leave the rest as it was
pub leaves_rest_pages : (pages : ℕ) (v w : HeapView) → IsSoundHeap v → HeapSweeps pages v w → LeavesRest v w
leaves_rest_pages pages v w sound swept = (run pages v w (λ more. sound) swept).rest

-- where the heap is sound after sweeps it was so before
pub began_sound : (pages : ℕ) (v w : HeapView) → (0 < pages → IsSoundHeap v) → HeapSweeps pages v w → IsSoundHeap w → IsSoundHeap v
began_sound zero v w sound same now = subst IsSoundHeap same now
began_sound (suc pages) v w sound swept now = sound (omega arith)

-- all sweeps free no more slots than a heap has
pub freed_most : (pages : ℕ) (v w : HeapView) → (0 < pages → IsSoundHeap v) → HeapSweeps pages v w → w.counters.freed ≤ v.counters.freed + most_slots
freed_most zero v w sound same = let kept = ap (λ (v : HeapView). v.counters.freed) same in omega arith
freed_most (suc pages) v w sound swept =
    let all = run (suc pages) v w sound swept in
    let most = all.most in
    let left = all.left in
    let few = unswept_most v (sound (omega arith)) in
    omega arith

-- where none is gone there are no names
pub no_names : (v : HeapView) → HasNoGone v → length (gone_names v) ≡ 0
no_names v none = ap (λ xs. length (map (name_at v) xs)) (none_gone_below v none)

-- no more objects are gone than the pages that wait have slots
gone_few : (waiting : List ℕ) (v : HeapView) → v.unswept ≡ waiting → IsSoundHeap v → IsQuiescent v → length (gone_names v) ≤ most_page_slots * length waiting
gone_few [] v e sound quiescent = let none = no_names v (none_gone_waiting v quiescent.gone_wait e) in omega arith
gone_few (page ∷ others) v e sound quiescent =
    let freed : ℕ = count_by has_gone (page_at v page).slots in
    let w : HeapView = record (swept v page) { phase = phase_left others v.phase } in
    let first : SweepsFirst v w freed = record { page = page; others = others; first = e; after = refl; count = gone_on_page v page sound } in
    let count = freed-first v w freed first sound in
    let few = freed_most-first v w freed first sound in
    let gone = gone-first v w freed first in
    let rest = gone_few others w (unswept-first v w freed first sound) (sound-first v w freed first sound) (quiescent-first v w freed first sound quiescent) in
    omega (arith, count, few, gone, rest)

-- no more objects are gone than a heap has slots
pub gone_most : (v : HeapView) → IsSoundHeap v → IsQuiescent v → length (gone_names v) ≤ most_slots
gone_most v sound quiescent =
    let gone = gone_few v.unswept v refl sound quiescent in
    let few = unswept_most v sound in
    omega arith

-- no counter but that of the freed slots changes
pub sweeps_counters : (pages : ℕ) (v w : HeapView) → IsSoundHeap v → HeapSweeps pages v w → w.counters ≡ record v.counters { freed = w.counters.freed }
sweeps_counters pages v w sound swept = (leaves_rest_pages pages v w sound swept).counters
