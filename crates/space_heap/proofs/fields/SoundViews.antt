-- What holds of every heap, by its fields, and what it tells of the pages that wait for a sweep.
use Rattle.std.proofs.Common.{◌≡◌, ℕ, ◌≤◌, true, true≢false, List, length, refl, sym, ap, ◌∙◌, subst, Option, None, Some}
use Rattle.std.specs.Prelude.{is_some}
use Rattle.std.specs.List.{range_with_len, filter}
use Rattle.space_pools.specs.PageSlots.{count_of}
use Rattle.space_pools.specs.PoolsView.{PoolsView, page_at as pools_page, pool_at as pools_pool, unswept_at}
use Rattle.space_pools.specs.Sound.{IsSoundPools}
use Rattle.space_heap.specs.declared.marks.Marks.{Marks}
use Rattle.space_heap.specs.planes.MarkPlanes.{marks_at}
use Rattle.space_heap.specs.HeapView.{PageView, HeapView, page_at, pool_at, is_unswept}
use Rattle.space_heap.specs.SoundHeap.{IsSoundHeap}
use Rattle.space_heap.specs.Inside.{Rest, view_with}
use Rattle.space_heap.proofs.fields.Views.{length-pages_from, page_read, pool_read, length-slots_from}
use Rattle.space_heap.proofs.fields.Unswept.{same_filter, unswept_read}

some_of : (pool : Option ℕ) → (pool ≡ None → ⊥) → is_some pool ≡ true
some_of None never = absurd (never refl)
some_of (Some pool) never = refl

pub sound_read : (v : PoolsView) (ms : List Marks) (rest : Rest) → IsSoundPools v → IsSoundHeap (view_with v ms rest)
sound_read v ms rest sound =
    let h : HeapView = view_with v ms rest in
    let long : (page : ℕ) → length (page_at h page).slots ≡ count_of (pool_at h page) = λ page.
    ap (λ (p : PageView). length p.slots) (page_read v ms page)
    ∙ length-slots_from (pools_page v page) (marks_at ms page)
    ∙ (sound.sound page).long
    ∙ ap count_of (sym (pool_read v ms page)) in
    record {
      most = sound.most;
      limited = subst (λ n. n ≤ v.limit) (sym (length-pages_from v ms)) sound.limited;
      known = λ page pool its. (sound.sound page).known pool (sym (pool_read v ms page) ∙ its);
      long = λ page pool its. long page ∙ ap count_of its;
      spare = λ page none. long page ∙ ap count_of none;
      waiting =
          same_filter (unswept_at v) (is_unswept h) (range_with_len 0 (length v.pages)) (λ k. sym (unswept_read v k))
          ∙ ap (λ n. filter (is_unswept h) (range_with_len 0 n)) (sym (length-pages_from v ms));
      have_pools = λ page e.
          ap is_some (pool_read v ms page)
          ∙ some_of (pools_pool v page) (λ none. true≢false (sym e ∙ unswept_read v page ∙ (sound.sound page).swept none));
    }
