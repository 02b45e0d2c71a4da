-- The heap after a pool got a page.
use Rattle.std.proofs.Common.{◌≡◌, ◌≢◌, ⊎_elim, ℕ, zero, suc, ◌+◌, ◌*◌, ◌<◌, ◌≤◌, Bool, true, false, true≢false, cond, List, [], ◌∷◌, ◌++◌, length, map, set, replicate, get_or, refl, sym, ap, ◌∙◌, subst, arith, nat_eq, Option, None, Some}
use Rattle.std.specs.Prelude.{is_none, count_by}
use Rattle.std.specs.List.{range_with_len}
use Rattle.std.proofs.lemmas.Bool.{cases_Bool, cases_eq, cases_lt, cond-true, cond-false}
use Rattle.std.proofs.lemmas.List.Sums.{sum_by-cons}
use Rattle.std.proofs.lemmas.Bool.Decides.{nat_tests}
use Rattle.std.proofs.lemmas.Grind.{common_steps}
use Rattle.std.proofs.lemmas.List.{get_or-replicate, length-replicate, length-append, length-set, get_or-set_same, get_or-set_other, get_or_past}
use Rattle.std.proofs.Math.ListN.{get_or-append}
use Rattle.std.proofs.Math.Seq.{get_or-append_seam}
use Rattle.std.proofs.lemmas.List.FromFn.{fill_by_all}
use Rattle.space_model.specs.Layout.{page_slots}
use Rattle.space_planes.proofs.Bits.{bit-replicate}
use Rattle.space_pools.specs.PageSlots.{PageSlots, spare_page, free_page as pools_free_page, count_of}
use Rattle.space_pools.specs.PoolsView.{PoolsView, unswept_at, page_at as pools_page, pool_at as pools_pool}
use Rattle.space_pools.specs.Spare as pools
use Rattle.space_pools.specs.Spare.{with_free_page}
use Rattle.space_pools.specs.Sound.{IsSoundPools}
use Rattle.space_pools.proofs.PoolLaws.{page_at-with_free_page, length-with_free_page, found_in-free_page}
use Rattle.space_heap.specs.declared.marks.Marks.{Marks}
use Rattle.space_heap.specs.Slots.{SlotView, Free}
use Rattle.space_heap.specs.HeapView.{HeapView, no_page, page_at, pool_at, free_page, with_page}
use Rattle.space_heap.specs.NewPages.{is_spare, spare_count, IsSpareAt, HasNoSpare, IsLeastSpare}
use Rattle.space_heap.specs.planes.MarkPlanes.{marks_at, clear_marks, AreWide, slot_from}
use Rattle.space_heap.specs.Inside.{slot_in, page_from, page_in, pages_from, view_with, FitsSlot, AreMarksOf, AreAllMarks, Rest}
use Rattle.space_heap.proofs.fields.Views.{length-pages_from, page_read, pool_read}
use Rattle.space_heap.proofs.fields.Unswept.{unswept_added}

pub page_at-with_page : (v : HeapView) (page pool k : ℕ) → page ≤ length v.pages
    → page_at (with_page v page pool) k ≡ cond (nat_eq k page) (free_page pool) (page_at v k)
unfolding with_page
page_at-with_page v page pool k h = grind (arith, nat_tests, common_steps)

pub length-with_page : (v : HeapView) (page pool : ℕ) → page ≤ length v.pages
    → length (with_page v page pool).pages ≡ cond (nat_eq page (length v.pages)) (length v.pages + 1) (length v.pages)
unfolding with_page
length-with_page v page pool h = grind (arith, nat_tests, common_steps)

-- a page whose slots are all free, by its planes
free_page_from : (pool : ℕ) → page_from (pools_free_page pool) (clear_marks (page_slots pool)) ≡ free_page pool
free_page_from pool =
    let n : ℕ = page_slots pool in
    let q : PageSlots = pools_free_page pool in
    let m : Marks = clear_marks n in
    let long : length q.slots ≡ n = length-replicate {A = Option (List ℕ)} n None in
    let e : replicate n Free ≡ map (slot_in q m) (range_with_len 0 (length q.slots)) =
    fill_by_all (slot_in q m) (replicate n Free) (length q.slots) Free (length-replicate {A = SlotView} n Free ∙ sym long)
    (λ s h. get_or-replicate n s Free Free (omega arith) ∙ sym (ap (λ f. slot_from f m s) (found_in-free_page pool s))) in
    λ i. record { pool = Some pool; slots = sym e i }

module _ (v : PoolsView) (ms ns : List Marks) (page pool : ℕ) (within : page ≤ length v.pages) (long : length ns ≡ length (with_free_page v page pool).pages)
    (here : marks_at ns page ≡ clear_marks (page_slots pool)) (other : (k : ℕ) → k ≢ page → marks_at ns k ≡ marks_at ms k) where
  abbrev w : PoolsView
  w = with_free_page v page pool

  w_here : pools_page w page ≡ pools_free_page pool
  w_here = page_at-with_free_page v page pool page within ∙ cond-true (nat_eq page page) (pools_free_page pool) (pools_page v page) (grind (arith, nat_tests))

  w_other : (k : ℕ) → k ≢ page → pools_page w k ≡ pools_page v k
  w_other k differ = page_at-with_free_page v page pool k within ∙ cond-false (nat_eq k page) (pools_free_page pool) (pools_page v k) (grind (arith, nat_tests))

  pub added_view : unswept_at v page ≡ false → (rest : Rest) → view_with w ns rest ≡ with_page (view_with v ms rest) page pool
  unfolding with_page with_free_page
  added_view swept rest =
      let h : HeapView = view_with v ms rest in
      let n = length-pages_from v ms in
      let at : page ≤ length h.pages = omega arith in
      let same : length (with_page h page pool).pages ≡ length w.pages =
      length-with_page h page pool at
      ∙ ap (λ n. cond (nat_eq page n) (n + 1) n) n
      ∙ sym (length-with_free_page v page pool within) in
      let e : (with_page h page pool).pages ≡ pages_from w ns =
      fill_by_all (page_in w ns) (with_page h page pool).pages (length w.pages) no_page same (λ k _. ⊎_elim
      (λ is.
      ap (page_at (with_page h page pool)) is
      ∙ page_at-with_page h page pool page at
      ∙ cond-true (nat_eq page page) (free_page pool) (page_at h page) (grind (arith, nat_tests))
      ∙ sym (free_page_from pool)
      ∙ ap (λ p. page_from p (clear_marks (page_slots pool))) (sym w_here)
      ∙ ap (page_from (pools_page w page)) (sym here)
      ∙ ap (page_in w ns) (sym is))
      (λ differ.
      page_at-with_page h page pool k at
      ∙ cond-false (nat_eq k page) (free_page pool) (page_at h k) (grind (arith, nat_tests))
      ∙ page_read v ms k
      ∙ ap (λ p. page_from p (marks_at ms k)) (sym (w_other k differ))
      ∙ ap (page_from (pools_page w k)) (sym (other k differ)))
      (cases_eq k page)) in
      λ i. record h { pages = sym e i; unswept = unswept_added v page pool within swept i }

  clear_wide : (n : ℕ) → AreWide (clear_marks n) n
  clear_wide n = let e : length (replicate n false) ≡ n = length-replicate n false in
      record { object = e; moved = e; guard = e; marked = e; black = e; age_low = e; age_high = e; remembered = e; kept = e; pinned = e; gone = e }

  clear_fits : (n s : ℕ) → FitsSlot None (clear_marks n) s
  clear_fits n s = record {
    object = bit-replicate n s;
    moved = λ e. absurd (true≢false (sym e ∙ bit-replicate n s));
    words = λ words e stays. cc;
    gone = λ e. absurd (true≢false (sym e ∙ bit-replicate n s));
  }

  clear_page : AreMarksOf (pools_free_page pool) (clear_marks (page_slots pool))
  clear_page = record {
    wide = subst (AreWide (clear_marks (page_slots pool))) (sym (length-replicate {A = Option (List ℕ)} (page_slots pool) None)) (clear_wide (page_slots pool));
    each = λ s. subst (λ f. FitsSlot f (clear_marks (page_slots pool)) s) (sym (found_in-free_page pool s)) (clear_fits (page_slots pool) s);
  }

  pub added_marks : AreAllMarks v ms → AreAllMarks w ns
  added_marks all = record {
    all = long;
    of_page = λ k. ⊎_elim
        (λ same. subst (λ k. AreMarksOf (pools_page w k) (marks_at ns k)) (sym same)
        (subst (λ p. AreMarksOf p (marks_at ns page)) (sym w_here) (subst (AreMarksOf (pools_free_page pool)) (sym here) clear_page)))
        (λ differ. subst (λ p. AreMarksOf p (marks_at ns k)) (sym (w_other k differ))
        (subst (AreMarksOf (pools_page v k)) (sym (other k differ)) (all.of_page k)))
        (cases_eq k page);
  }

-- a count of 0
none_counted : {X : Type 0} (p : X → Bool) (xs : List X) (k : ℕ) (d : X) → count_by p xs ≡ 0 → k < length xs → p (get_or xs k d) ≡ false
none_counted p [] k d e h = absurd (omega arith)
none_counted p (x ∷ xs) zero d e h = let c = sum_by-cons (λ x. cond (p x) 1 0) x xs in grind (arith, common_steps, e, c, cases_Bool (p x))
none_counted p (x ∷ xs) (suc k) d e h = let c = sum_by-cons (λ x. cond (p x) 1 0) x xs in none_counted p xs k d (omega (arith, e, c)) (omega arith)

counted_none : {X : Type 0} (p : X → Bool) (xs : List X) (d : X) → ((k : ℕ) → k < length xs → p (get_or xs k d) ≡ false) → count_by p xs ≡ 0
counted_none p [] d h = refl
counted_none p (x ∷ xs) d h =
    let first : p x ≡ false = h 0 (omega arith) in
    let rest : count_by p xs ≡ 0 = counted_none p xs d (λ k b. h (suc k) (omega arith)) in
    sum_by-cons (λ x. cond (p x) 1 0) x xs ∙ ap (λ b. cond b 1 0 + count_by p xs) first ∙ ap (λ n. 0 + n) rest

-- pages with the same tests have the same counts
pub same_counts : {X Y : Type 0} (p : X → Bool) (q : Y → Bool) (xs : List X) (ys : List Y) (d : X) (e : Y) → length xs ≡ length ys
    → ((k : ℕ) → k < length xs → p (get_or xs k d) ≡ q (get_or ys k e)) → count_by p xs ≡ count_by q ys
same_counts p q [] [] d e same each = refl
same_counts p q [] (y ∷ ys) d e same each = absurd (omega arith)
same_counts p q (x ∷ xs) [] d e same each = absurd (omega arith)
same_counts p q (x ∷ xs) (y ∷ ys) d e same each =
    let first : p x ≡ q y = each 0 (omega arith) in
    let rest : count_by p xs ≡ count_by q ys = same_counts p q xs ys d e (omega arith) (λ k b. each (suc k) (omega arith)) in
    sum_by-cons (λ x. cond (p x) 1 0) x xs ∙ ap (λ b. cond b 1 0 + count_by p xs) first ∙ ap (λ n. cond (q y) 1 0 + n) rest
    ∙ sym (sum_by-cons (λ y. cond (q y) 1 0) y ys)

none_pool : (pool : Option ℕ) → is_none pool ≡ true → pool ≡ None
none_pool None e = refl
none_pool (Some pool) e = cc

pub none_spare : (v : HeapView) → spare_count v ≡ 0 → HasNoSpare v
none_spare v e page s = true≢false (sym (ap is_none s.1) ∙ none_counted is_spare v.pages page no_page e s.0)

not_none : (pool : Option ℕ) → (pool ≡ None → ⊥) → is_none pool ≡ false
not_none None h = absurd (h refl)
not_none (Some pool) h = refl

pub no_spare_count : (v : HeapView) → HasNoSpare v → spare_count v ≡ 0
no_spare_count v none = counted_none is_spare v.pages no_page (λ k h. not_none (pool_at v k) (λ e. none k (h, e)))

module _ (v : PoolsView) (ms : List Marks) (rest : Rest) where
  abbrev h : HeapView
  h = view_with v ms rest

  pub spare_count_read : pools.spare_count v ≡ spare_count h
  spare_count_read = same_counts pools.is_spare is_spare v.pages (pages_from v ms) spare_page no_page (sym (length-pages_from v ms))
      (λ k _. ap is_none (sym (pool_read v ms k)))

  pub spare_read : (k : ℕ) → pools.IsSpareAt v k → IsSpareAt h k
  spare_read k s = (let n = length-pages_from v ms in let b = s.0 in omega arith, pool_read v ms k ∙ s.1)

  pub spare_back : (k : ℕ) → IsSpareAt h k → pools.IsSpareAt v k
  spare_back k s = (let n = length-pages_from v ms in let b = s.0 in omega arith, sym (pool_read v ms k) ∙ s.1)

  pub no_spare_read : pools.HasNoSpare v → HasNoSpare h
  no_spare_read none k s = none k (spare_back k s)

  pub no_spare_back : HasNoSpare h → pools.HasNoSpare v
  no_spare_back none k s = none k (spare_read k s)

  pub least_spare_read : (k : ℕ) → pools.IsLeastSpare v k → IsLeastSpare h k
  least_spare_read k l = record { spare = spare_read k l.spare; least = λ other s. l.least other (spare_back other s) }

  -- a page without a pool has no slot
  pub empty_read : (k : ℕ) → IsSoundPools v → pools_pool v k ≡ None → page_at h k ≡ no_page
  empty_read k sound its =
      let e : length (pools_page v k).slots ≡ 0 = (sound.sound k).long ∙ ap count_of its in
      let p : PageSlots = pools_page v k in
      let m : Marks = marks_at ms k in
      page_read v ms k ∙ (λ i. record { pool = its i; slots = map (slot_in p m) (range_with_len 0 (e i)) })

-- the planes of all pages after the pool got this page
pub record PageAdded (v : PoolsView) (ms ns : List Marks) (page pool : ℕ) : Type 0 where
  pub within : page ≤ length v.pages
  pub long : length ns ≡ length (with_free_page v page pool).pages
  pub here : marks_at ns page ≡ clear_marks (page_slots pool)
  pub other : (k : ℕ) → k ≢ page → marks_at ns k ≡ marks_at ms k

seam : (ms : List Marks) (m : Marks) (k : ℕ) → k ≡ length ms → marks_at (ms ++ m ∷ []) k ≡ m
seam ms m k e = ap (marks_at (ms ++ m ∷ [])) e ∙ get_or-append_seam ms m [] (clear_marks 0)

aside : (ms : List Marks) (m : Marks) (k : ℕ) → k ≢ length ms → marks_at (ms ++ m ∷ []) k ≡ marks_at ms k
aside ms m k differ = ⊎_elim
    (λ below. get_or-append ms (m ∷ []) (clear_marks 0) k below)
    (λ past.
    let l : length (ms ++ m ∷ []) ≡ length ms + 1 = length-append ms (m ∷ []) in
    get_or_past (ms ++ m ∷ []) k (clear_marks 0) (omega arith) ∙ sym (get_or_past ms k (clear_marks 0) (omega arith)))
    (cases_lt k (length ms))

pub page_appended : (v : PoolsView) (ms ns : List Marks) (page pool : ℕ) → length ms ≡ length v.pages → page ≡ length v.pages
    → ns ≡ ms ++ clear_marks (page_slots pool) ∷ [] → PageAdded v ms ns page pool
page_appended v ms ns page pool all is e = record {
  within = omega arith;
  long =
      let l : length (ms ++ clear_marks (page_slots pool) ∷ []) ≡ length ms + 1 = length-append ms (clear_marks (page_slots pool) ∷ []) in
      ap length e ∙ l ∙ ap (λ n. n + 1) all
      ∙ sym (cond-true (nat_eq page (length v.pages)) (length v.pages + 1) (length v.pages) (grind (arith, nat_tests)))
      ∙ sym (length-with_free_page v page pool (omega arith));
  here = ap (λ ns. marks_at ns page) e ∙ seam ms (clear_marks (page_slots pool)) page (is ∙ sym all);
  other = λ k differ. ap (λ ns. marks_at ns k) e ∙ aside ms (clear_marks (page_slots pool)) k (λ same. differ (same ∙ all ∙ sym is));
}

pub page_reset : (v : PoolsView) (ms ns : List Marks) (page pool : ℕ) → length ms ≡ length v.pages → page < length v.pages
    → ns ≡ set ms page (clear_marks (page_slots pool)) → PageAdded v ms ns page pool
page_reset v ms ns page pool all below e = record {
  within = omega arith;
  long =
      ap length e ∙ length-set ms page (clear_marks (page_slots pool)) ∙ all
      ∙ sym (cond-false (nat_eq page (length v.pages)) (length v.pages + 1) (length v.pages) (grind (arith, nat_tests)))
      ∙ sym (length-with_free_page v page pool (omega arith));
  here = ap (λ ns. marks_at ns page) e ∙ get_or-set_same ms page (clear_marks (page_slots pool)) (clear_marks 0) (omega arith);
  other = λ k differ. ap (λ ns. marks_at ns k) e ∙ get_or-set_other ms page k (clear_marks (page_slots pool)) (clear_marks 0) differ;
}

-- the next page where none is spare, and where no new one may be made
pub next_last : (v : PoolsView) (page : ℕ) → pools.HasNoSpare v → pools.IsNextPage v page → page ≡ length v.pages
next_last v page none next = ⊎_elim (λ (l : pools.IsLeastSpare v page). absurd (none page l.spare)) (λ h. h.1) next

pub next_spare : (v : PoolsView) (page : ℕ) → (pools.HasNoSpare v → length v.pages ≡ v.limit) → pools.IsNextPage v page → pools.IsLeastSpare v page
next_spare v page full next = ⊎_elim (λ l. l) (λ h. let e = full h.0 in let b = h.2 in absurd (omega arith)) next

pub limit_with_free_page : (v : PoolsView) (page pool : ℕ) → (with_free_page v page pool).limit ≡ v.limit
unfolding with_free_page
limit_with_free_page v page pool = refl

-- there are as many pages as before, or one more
pub places_kept : (v : PoolsView) (page pool room : ℕ) → page < length v.pages → 1638 * length v.pages ≤ room
    → 1638 * length (with_free_page v page pool).pages ≤ room
places_kept v page pool room below h =
    let e : length (with_free_page v page pool).pages ≡ length v.pages = length-with_free_page v page pool (omega arith)
    ∙ cond-false (nat_eq page (length v.pages)) (length v.pages + 1) (length v.pages) (grind (arith, nat_tests)) in
    omega arith

pub places_made : (v : PoolsView) (page pool room : ℕ) → page ≡ length v.pages → 1638 * (length v.pages + 1) ≤ room
    → 1638 * length (with_free_page v page pool).pages ≤ room
places_made v page pool room last h =
    let e : length (with_free_page v page pool).pages ≡ length v.pages + 1 = length-with_free_page v page pool (omega arith)
    ∙ cond-true (nat_eq page (length v.pages)) (length v.pages + 1) (length v.pages) (grind (arith, nat_tests)) in
    omega arith
