-- When a page is spare after its sweep, and which pages wait then, for the callers.
use Rattle.std.proofs.Common.{◌≡◌, ⊎_elim, ℕ, zero, suc, ◌+◌, ◌*◌, ◌^◌, ◌<◌, Bool, true, false, true≢false, not, cond, List, [], ◌∷◌, length, map, get_or, nat_eq, refl, sym, ap, ◌∙◌, subst, arith, Option, None, Some}
use Rattle.std.specs.Prelude.{is_some}
use Rattle.std.specs.List.{range_with_len, filter, list_all}
use Rattle.std.proofs.Math.ListN.{get_or-map, length-map}
use Rattle.std.proofs.lemmas.Bool.{and_parts, cases_Bool, cond-true, cond-false}
use Rattle.std.proofs.lemmas.Bool.Decides.{nat_tests}
use Rattle.std.proofs.lemmas.List.Folds.{list_all_at}
use Rattle.space_model.specs.Layout.{page_of, page_slots, slot_address, slot_bytes}
use Rattle.space_heap.specs.Slots.{SlotView, Free, Moved, Object, has_present, has_moved, is_free}
use Rattle.space_heap.specs.HeapView.{PageView, HeapView, no_page, page_at, pool_at, page_with, slot_number, is_start, is_slot, is_unswept, slot_at}
use Rattle.space_heap.specs.Objects.{is_occupied, is_object, is_moved, HasNoMoved}
use Rattle.space_heap.specs.SoundHeap.{IsSoundHeap}
use Rattle.space_heap.specs.Sweeping.{is_gone, swept_slot, swept}
use Rattle.space_heap.proofs.starts.Starts.{address_start, start_from}
use Rattle.space_heap.proofs.Laws.{slot_at_some, start_of, page_in_heap}
use Rattle.space_heap.proofs.ObjectLaws.{slot_from_occupied, occupied_from_object}
use Rattle.space_heap.proofs.SweptLaws.{pool_at-swept_same, unswept-swept, object_swept}

-- a list whose slots are all free
all_free : (xs : List SlotView) → ((i : ℕ) → i < length xs → is_free (get_or xs i Free) ≡ true) → list_all is_free xs ≡ true
all_free [] h = refl
all_free (x ∷ xs) h = let first : is_free x ≡ true = h zero (omega arith) in let rest = all_free xs (λ i b. h (suc i) (omega arith)) in cc

-- a slot that holds no object that can be named, and none that was moved, is free after the sweep
free_swept : (s : SlotView) → has_present s ≡ false → has_moved s ≡ false → is_free (swept_slot s) ≡ true
free_swept Free e f = refl
free_swept (Moved to) e f = sym f
free_swept (Object o) e f = ap is_free (cond-true o.gone Free (Object o) (true_of o.gone e))
  where
    true_of : (b : Bool) → not b ≡ false → b ≡ true
    true_of true e = refl
    true_of false e = sym e

used_swept : (s : SlotView) → has_present s ≡ true → is_free (swept_slot s) ≡ false
used_swept Free e = cc
used_swept (Moved to) e = refl
used_swept (Object o) e = ap is_free (object_swept (Object o) e)

-- numbers above one are kept where that one is left out
keep_above : (test : ℕ → Bool) (b a n : ℕ) → b < a → filter (λ k. not (nat_eq k b)) (filter test (range_with_len a n)) ≡ filter test (range_with_len a n)
keep_above test b a zero above = refl
keep_above test b a (suc n) above =
    let rest = keep_above test b (a + 1) n (omega arith) in
    let apart : nat_eq a b ≡ false = grind (arith, nat_tests) in
    ⊎_elim
    (λ e.
    let here : filter test (range_with_len a (suc n)) ≡ a ∷ filter test (range_with_len (a + 1) n) =
    cond-true (test a) (a ∷ filter test (range_with_len (a + 1) n)) (filter test (range_with_len (a + 1) n)) e in
    ap (filter (λ k. not (nat_eq k b))) here
    ∙ cond-true (not (nat_eq a b)) (a ∷ filter (λ k. not (nat_eq k b)) (filter test (range_with_len (a + 1) n)))
    (filter (λ k. not (nat_eq k b)) (filter test (range_with_len (a + 1) n))) (ap not apart)
    ∙ ap (λ xs. a ∷ xs) rest
    ∙ sym here)
    (λ e.
    let here : filter test (range_with_len a (suc n)) ≡ filter test (range_with_len (a + 1) n) =
    cond-false (test a) (a ∷ filter test (range_with_len (a + 1) n)) (filter test (range_with_len (a + 1) n)) e in
    ap (filter (λ k. not (nat_eq k b))) here ∙ rest ∙ sym here)
    (cases_Bool (test a))

-- without the first one the others are left
others_left : (test : ℕ → Bool) (a n x : ℕ) (xs : List ℕ) → filter test (range_with_len a n) ≡ x ∷ xs → filter (λ k. not (nat_eq k x)) (x ∷ xs) ≡ xs
others_left test a zero x xs e = cc
others_left test a (suc n) x xs e = ⊎_elim
    (λ t.
    let ys : List ℕ = filter test (range_with_len (a + 1) n) in
    let same : a ∷ ys ≡ x ∷ xs = sym (cond-true (test a) (a ∷ ys) ys t) ∙ e in
    let first : a ≡ x = cc in
    let rest : ys ≡ xs = cc in
    let self : nat_eq x x ≡ true = grind (arith, nat_tests) in
    cond-false (not (nat_eq x x)) (x ∷ filter (λ k. not (nat_eq k x)) xs) (filter (λ k. not (nat_eq k x)) xs) (ap not self)
    ∙ ap (filter (λ k. not (nat_eq k x))) (sym rest)
    ∙ keep_above test x (a + 1) n (omega arith)
    ∙ rest)
    (λ f. others_left test (a + 1) n x xs (sym (cond-false (test a) (a ∷ filter test (range_with_len (a + 1) n)) (filter test (range_with_len (a + 1) n)) f)
    ∙ e))
    (cases_Bool (test a))

-- a page that has no pool, as one that a pool gets, doesn't wait for a sweep
pub swept_empty : (v : HeapView) (page : ℕ) → IsSoundHeap v → page_at v page ≡ no_page → is_unswept v page ≡ false
swept_empty v page sound empty = ⊎_elim
    (λ e. absurd (true≢false (sym (sound.have_pools page e) ∙ ap (λ (p : PageView). is_some p.pool) empty)))
    (λ e. e)
    (cases_Bool (is_unswept v page))

-- a gone object stands
pub occupied_from_gone : (v : HeapView) (a : ℕ) → is_gone v a ≡ true → is_occupied v a ≡ true
occupied_from_gone v a e = (and_parts _ _ e).0

-- an object stands on a page with a pool
pub occupied_pooled : (v : HeapView) (a : ℕ) → IsSoundHeap v → is_occupied v a ≡ true → is_some (pool_at v (page_of a)) ≡ true
occupied_pooled v a sound e = by_pool (pool_at v (page_of a)) refl
  where
    by_pool : (own : Option ℕ) → pool_at v (page_of a) ≡ own → is_some own ≡ true
    by_pool None none =
        let within = (start_of v a (slot_from_occupied v a e)).within in
        let long = sound.spare (page_of a) none in
        absurd (omega arith)
    by_pool (Some pool) its = refl

-- addresses of objects are small
pub standing_below : (v : HeapView) (a : ℕ) → IsSoundHeap v → is_occupied v a ≡ true → a < 2 ^ 29
unfolding page_of
standing_below v a sound e =
    let page = page_in_heap v a (slot_from_occupied v a e) in
    let limited = sound.limited in
    let most = sound.most in
    grind arith

module _ (v : HeapView) (page : ℕ) where
  abbrev slots : List SlotView
  slots = (page_at v page).slots

  -- the slot of a page by its address
  pub start_by_address : IsSoundHeap v → (pool slot : ℕ) → pool_at v page ≡ Some pool → slot < length slots → is_slot v (slot_address page pool slot) ≡ true
  unfolding is_slot
  start_by_address sound pool slot its within =
      let a : ℕ = slot_address page pool slot in
      let few : slot < page_slots pool = let l = sound.long page pool its in omega arith in
      let s = address_start pool page slot a (sound.known page pool its) few refl in
      ap (λ k. is_start (pool_at v k) (length (page_at v k).slots) a) s.1
      ∙ ap (λ o. is_start o (length slots) a) its
      ∙ start_from (Some pool) (length slots) a s.0 (subst (λ k. k < length slots) (sym s.2) within) (ap (λ k. slot_bytes pool * k) s.2 ∙ s.3)

  pub slot_by_address : IsSoundHeap v → (pool slot : ℕ) → pool_at v page ≡ Some pool → slot < length slots
      → slot_at v (slot_address page pool slot) ≡ get_or slots slot Free
  slot_by_address sound pool slot its within =
      let a : ℕ = slot_address page pool slot in
      let few : slot < page_slots pool = let l = sound.long page pool its in omega arith in
      let s = address_start pool page slot a (sound.known page pool its) few refl in
      let own : pool_at v (page_of a) ≡ Some pool = ap (pool_at v) s.1 ∙ its in
      slot_at_some v a (start_by_address sound pool slot its within)
      ∙ ap (λ o. get_or (page_with v a).slots (slot_number o a) Free) own
      ∙ ap (λ k. get_or (page_with v a).slots k Free) s.2
      ∙ ap (λ k. get_or (page_at v k).slots slot Free) s.1

  -- after each slot of the page changed, one isn't free
  pub some_used : (f : SlotView → SlotView) → f Free ≡ Free → (a : ℕ) → page_of a ≡ page → is_slot v a ≡ true → is_free (f (slot_at v a)) ≡ false
      → list_all is_free (map f slots) ≡ false
  some_used f free a on at used =
      let n : ℕ = slot_number (page_with v a).pool a in
      let within : n < length (page_with v a).slots = (start_of v a at).within in
      let xs : List SlotView = map f (page_with v a).slots in
      let its : is_free (get_or xs n Free) ≡ false = ap is_free (ap (get_or xs n) (sym free) ∙ get_or-map f (page_with v a).slots n Free)
      ∙ ap (λ s. is_free (f s)) (sym (slot_at_some v a at)) ∙ used in
      ap (λ k. list_all is_free (map f (page_at v k).slots)) (sym on)
      ∙ list_all_at is_free xs n Free (let l = length-map (page_with v a).slots f in omega arith) its

  -- or all of them are, and a page without a pool has none
  pub all_unused : (f : SlotView → SlotView) → f Free ≡ Free → IsSoundHeap v → ((a : ℕ) → page_of a ≡ page → is_free (f (slot_at v a)) ≡ true)
      → cond (list_all is_free (map f slots)) None (pool_at v page) ≡ None
  all_unused f free sound unused =
      let xs : List SlotView = map f slots in
      let each : (pool : ℕ) → pool_at v page ≡ Some pool → (i : ℕ) → i < length xs → is_free (get_or xs i Free) ≡ true = λ pool its i b.
      let within : i < length slots = let l = length-map slots f in omega arith in
      let few : i < page_slots pool = let l = sound.long page pool its in omega arith in
      let a : ℕ = slot_address page pool i in
      let on : page_of a ≡ page = (address_start pool page i a (sound.known page pool its) few refl).1 in
      ap is_free (ap (get_or xs i) (sym free) ∙ get_or-map f slots i Free)
      ∙ ap (λ s. is_free (f s)) (sym (slot_by_address sound pool i its within))
      ∙ unused a on in
      by_pool (pool_at v page) (list_all is_free xs) (λ pool its. all_free xs (each pool its))
    where
      by_pool : (own : Option ℕ) (b : Bool) → ((pool : ℕ) → own ≡ Some pool → b ≡ true) → cond b None own ≡ None
      by_pool None true h = refl
      by_pool None false h = refl
      by_pool (Some pool) b h = cond-true b None (Some pool) (h pool refl)

  -- a page on which an object can be named keeps its pool
  pub pool_at-swept_kept : (a : ℕ) → page_of a ≡ page → is_object v a ≡ true → pool_at (swept v page) page ≡ pool_at v page
  unfolding is_object
  pool_at-swept_kept a on is = pool_at-swept_same v page ∙ cond-false (list_all is_free (map swept_slot slots)) None (pool_at v page)
      (some_used swept_slot refl a on (slot_from_occupied v a (occupied_from_object v a is)) (used_swept (slot_at v a) is))

  -- and a page on which none can be named, and none was moved away, is spare
  pub pool_at-swept_spare : IsSoundHeap v → HasNoMoved v → ((a : ℕ) → page_of a ≡ page → is_object v a ≡ false) → pool_at (swept v page) page ≡ None
  unfolding is_object is_moved
  pool_at-swept_spare sound still none = pool_at-swept_same v page
      ∙ all_unused swept_slot refl sound (λ a on. free_swept (slot_at v a) (none a on) (still a))

  -- the pages that wait after the sweep of the first of them
  pub unswept-swept_first : IsSoundHeap v → (others : List ℕ) → v.unswept ≡ page ∷ others → (swept v page).unswept ≡ others
  unswept-swept_first sound others e = unswept-swept v page ∙ ap (filter (λ other. not (nat_eq other page))) e
      ∙ others_left (is_unswept v) 0 (length v.pages) page others (sym sound.waiting ∙ e)
