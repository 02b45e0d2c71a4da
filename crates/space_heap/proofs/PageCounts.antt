-- How many slots of a page pass a test, by the addresses at which they start.
use Rattle.std.proofs.Common.{◌&&◌, nat_le, nat_lt, ◌≡◌, ⊎_elim, ℕ, zero, suc, ◌+◌, ◌<◌, Bool, true, false, true≢false, List, [], ◌∷◌, length, map, get_or, nat_eq, refl, sym, ap, ◌∙◌, subst, arith, Option, None, Some}
use Rattle.std.specs.Prelude.{◌↔◌, count_by}
use Rattle.std.specs.List.{range_with_len, filter, IsDistinct}
use Rattle.std.specs.Set.{is_member}
use Rattle.std.proofs.Math.ListN.{length-map}
use Rattle.std.proofs.lemmas.Bool.{cases_Bool, and_parts, and_from, ltb-true, eqb-true, eq-eqb, or_cases, or_left, or_right, cond-true, cond-false}
use Rattle.std.proofs.lemmas.Bool.Decides.{nat_tests}
use Rattle.std.proofs.lemmas.List.Sums.{length-filter}
use Rattle.std.proofs.lemmas.List.FromFn.{length-range_with_len, get_or-range_with_len}
use Rattle.space_model.proofs.Members.{member_filter}
use Rattle.space_model.proofs.Growing.{IsDistinct-cons}
use Rattle.space_model.specs.Counts.{CountIs}
use Rattle.space_model.specs.Layout.{page_of, page_slots, slot_address}
use Rattle.space_pools.proofs.Places.{same_address}
use Rattle.space_heap.specs.Slots.{SlotView, Free}
use Rattle.space_heap.specs.HeapView.{HeapView, page_at, pool_at, page_with, slot_number, is_slot, slot_at}
use Rattle.space_heap.specs.SoundHeap.{IsSoundHeap}
use Rattle.space_heap.proofs.starts.Starts.{Start, address_start, start_address}
use Rattle.space_heap.proofs.Laws.{start_of}
use Rattle.space_heap.proofs.NumberLists.{IsDistinct-map, IsDistinct-none}
use Rattle.space_heap.proofs.NewPages.{same_counts}
use Rattle.space_heap.proofs.fields.Unswept.{member_range}
use Rattle.space_heap.proofs.SweptPages.{start_by_address, slot_by_address}

-- what of a range passes a test is there once
distinct_range : (test : ℕ → Bool) (a n : ℕ) → IsDistinct nat_eq (filter test (range_with_len a n))
distinct_range test a zero = IsDistinct-none
distinct_range test a (suc n) =
    let xs : List ℕ = filter test (range_with_len (a + 1) n) in
    let rest : IsDistinct nat_eq xs = distinct_range test (a + 1) n in
    let out : is_member nat_eq xs a ≡ false = grind (arith, nat_tests, member_filter test (range_with_len (a + 1) n) a, member_range (a + 1) n a) in
    ⊎_elim
    (λ e. subst (IsDistinct nat_eq) (sym (cond-true (test a) (a ∷ xs) xs e)) (IsDistinct-cons a xs rest out))
    (λ e. subst (IsDistinct nat_eq) (sym (cond-false (test a) (a ∷ xs) xs e)) rest)
    (cases_Bool (test a))

-- the members of a list of values
member_map : (f : ℕ → ℕ) (xs : List ℕ) (x : ℕ) → is_member nat_eq xs x ≡ true → is_member nat_eq (map f xs) (f x) ≡ true
member_map f [] x m = cc
member_map f (y ∷ ys) x m = ⊎_elim
    (λ e. or_left (nat_eq (f x) (f y)) _ (eq-eqb (f x) (f y) (ap f (eqb-true x y e))))
    (λ r. or_right (nat_eq (f x) (f y)) _ (member_map f ys x r))
    (or_cases _ _ m)

member_unmap : (f : ℕ → ℕ) (xs : List ℕ) (q : ℕ) → is_member nat_eq (map f xs) q ≡ true → (x : ℕ) × (is_member nat_eq xs x ≡ true) × (q ≡ f x)
member_unmap f [] q m = absurd (true≢false (sym m))
member_unmap f (y ∷ ys) q m = ⊎_elim
    (λ e. (y, or_left (nat_eq y y) _ (eq-eqb y y refl), eqb-true q (f y) e))
    (λ r. let u = member_unmap f ys q r in (u.0, or_right (nat_eq u.0 y) _ u.1, u.2))
    (or_cases _ _ m)

-- a slot starts at the address, and passes the test
abbrev pub IsTested : (SlotView → Bool) → HeapView → ℕ → Type 0
IsTested has v a = (is_slot v a && has (slot_at v a)) ≡ true

-- a property of addresses is that of the test
module _ (has : SlotView → Bool) (v : HeapView) (page : ℕ) (sound : IsSoundHeap v) (P : ℕ → Type 0) (is : (a : ℕ) → P a ↔ IsTested has v a) where
  -- the property holds of the address, which is on the page
  abbrev IsOn : ℕ → Type 0
  IsOn a = P a × (page_of a ≡ page)

  abbrev slots : List SlotView
  slots = (page_at v page).slots

  abbrev test : ℕ → Bool
  test slot = has (get_or slots slot Free)

  abbrev those : List ℕ
  those = filter test (range_with_len 0 (length slots))

  count_those : length those ≡ count_by has slots
  count_those =
      length-filter test (range_with_len 0 (length slots))
      ∙ same_counts test has (range_with_len 0 (length slots)) slots 0 Free (length-range_with_len 0 (length slots))
      (λ k b. ap test (get_or-range_with_len 0 (length slots) k 0 (let l = length-range_with_len 0 (length slots) in omega arith) ∙ omega arith))

  below_end : (slot : ℕ) → is_member nat_eq (range_with_len 0 (length slots)) slot ≡ true → slot < length slots
  below_end slot m =
      let below : slot < 0 + length slots = ltb-true slot (0 + length slots) (and_parts (nat_le 0 slot) (nat_lt slot (0 + length slots))
      (sym (member_range 0 (length slots) slot) ∙ m)).1 in
      omega arith

  within : (slot : ℕ) → is_member nat_eq those slot ≡ true → (slot < length slots) × (test slot ≡ true)
  within slot m =
      let p = and_parts _ _ (sym (member_filter test (range_with_len 0 (length slots)) slot) ∙ m) in
      (below_end slot p.0, p.1)

  member : (slot : ℕ) → slot < length slots → test slot ≡ true → is_member nat_eq those slot ≡ true
  member slot b t = grind (arith, nat_tests, member_filter test (range_with_len 0 (length slots)) slot, member_range 0 (length slots) slot)

  module _ (pool : ℕ) (its : pool_at v page ≡ Some pool) where
    abbrev address : ℕ → ℕ
    address slot = slot_address page pool slot

    few : (slot : ℕ) → slot < length slots → slot < page_slots pool
    few slot b = let l = sound.long page pool its in omega arith

    there : (a : ℕ) → is_member nat_eq (map address those) a ≡ true → IsOn a
    there a m =
        let u = member_unmap address those a m in
        let w = within u.0 u.1 in
        let on : page_of (address u.0) ≡ page = (address_start pool page u.0 (address u.0) (sound.known page pool its) (few u.0 w.0) refl).1 in
        let tested : IsTested has v (address u.0) = and_from _ _ (start_by_address v page sound pool u.0 its w.0)
        (ap has (slot_by_address v page sound pool u.0 its w.0) ∙ w.1) in
        (subst P (sym u.2) ((is (address u.0)).1 tested), ap page_of u.2 ∙ on)

    back : (a : ℕ) → IsOn a → is_member nat_eq (map address those) a ≡ true
    back a g =
        let tested = and_parts _ _ ((is a).0 g.0) in
        let own : (page_with v a).pool ≡ Some pool = ap (pool_at v) g.1 ∙ its in
        let start = start_of v a tested.0 in
        let slot : ℕ = slot_number (Some pool) a in
        let number : slot_number (page_with v a).pool a ≡ slot = ap (λ o. slot_number o a) own in
        let here : slot < length slots = subst (λ k. slot < length (page_at v k).slots) g.1
        (subst (λ k. k < length (page_with v a).slots) number start.within) in
        let at : a ≡ address slot = start_address pool (length (page_with v a).slots) a (subst (λ o. Start o (length (page_with v a).slots) a) own start)
        ∙ ap (λ k. slot_address k pool slot) g.1 in
        let t : test slot ≡ true = ap has (sym (slot_by_address v page sound pool slot its here) ∙ ap (slot_at v) (sym at)) ∙ tested.1 in
        subst (λ x. is_member nat_eq (map address those) x ≡ true) (sym at) (member_map address those slot (member slot here t))

    count_pool : CountIs IsOn (count_by has slots)
    count_pool = record {
      names = map address those;
      once = IsDistinct-map address those
          (λ x y m n same. (same_address pool page x page y (sound.known page pool its) (few x (within x m).0) (few y (within y n).0) same).1)
          (distinct_range test 0 (length slots));
      are = λ a. (there a, back a);
      long = length-map those address ∙ count_those;
    }

  -- a page without a pool has none
  count_spare : pool_at v page ≡ None → CountIs IsOn (count_by has slots)
  count_spare its =
      let none : length slots ≡ 0 = sound.spare page its in
      record {
        names = [];
        once = IsDistinct-none;
        are = λ a. (
          λ m. absurd (true≢false (sym m)),
          λ g.
              let w = (start_of v a (and_parts _ _ ((is a).0 g.0)).0).within in
              let l : length (page_with v a).slots ≡ 0 = ap (λ k. length (page_at v k).slots) g.1 ∙ none in
              absurd (omega arith),
        );
        long = sym (no_slots slots none);
      }
    where
      no_slots : (xs : List SlotView) → length xs ≡ 0 → count_by has xs ≡ 0
      no_slots [] e = refl
      no_slots (x ∷ xs) e = absurd (omega arith)

  -- so many addresses on the page have the property
  pub count_on_page : CountIs IsOn (count_by has slots)
  count_on_page = by_pool (pool_at v page) refl
    where
      by_pool : (own : Option ℕ) → pool_at v page ≡ own → CountIs IsOn (count_by has slots)
      by_pool None e = count_spare e
      by_pool (Some pool) e = count_pool pool e
