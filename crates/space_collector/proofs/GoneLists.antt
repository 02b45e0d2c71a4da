-- The list of the gone objects' addresses: what is in it, its order, and how it grows from one gone object to the next.
use Rattle.std.proofs.Common.{◌≡◌, ℕ, zero, suc, ◌+◌, ◌-◌, ◌*◌, ◌^◌, ◌<◌, ◌≤◌, Bool, true, false, true≢false, ◌&&◌, List, [], ◌∷◌, ◌++◌, length, map, get_or, nat_eq, nat_le, nat_lt, refl, sym, ap, ◌∙◌, subst, arith, ⊎_elim, append-nil}
use Rattle.std.specs.Prelude.{AllPairs, ◌↔◌}
use Rattle.std.specs.List.{range_with_len, filter, IsDistinct}
use Rattle.std.specs.Set.{is_member}
use Rattle.std.proofs.Math.ListN.{length-map, get_or-map}
use Rattle.std.proofs.lemmas.Bool.{cases_Bool, cases_lt, false_from_ne_true, cond-true, cond-false, or_cases, or_left, or_right, eqb-true, eq-eqb}
use Rattle.std.proofs.lemmas.Bool.Decides.{nat_tests}
use Rattle.std.proofs.lemmas.List.{get_or_default}
use Rattle.std.proofs.lemmas.List.Elements.{filter-append}
use Rattle.std.proofs.lemmas.List.FromFn.{length-range_with_len, get_or-range_with_len}
use Rattle.std.proofs.lemmas.List.Kept.{AllPairs-filter}
use Rattle.std.proofs.lemmas.Map.Keys.{IsDistinct-from_apart}
use Rattle.std.proofs.lemmas.Map.Steps.{length-le_from_distinct_below}
use Rattle.space_model.specs.Counts.{CountIs}
use Rattle.space_model.specs.Layout.{page_bytes, page_of}
use Rattle.space_model.proofs.Members.{member_filter}
use Rattle.space_model.proofs.VerdictLaws.{CountIs-unique}
use Rattle.space_heap.specs.HeapView.{HeapView}
use Rattle.space_heap.specs.SoundHeap.{IsSoundHeap}
use Rattle.space_heap.specs.Walks.{HasNoGoneFrom, IsNextGone}
use Rattle.space_heap.specs.Objects.{is_occupied, object_of}
use Rattle.space_heap.specs.Sweeping.{is_gone, HasNoGone}
use Rattle.space_heap.proofs.Laws.{page_in_heap}
use Rattle.space_heap.proofs.ObjectLaws.{slot_from_occupied}
use Rattle.space_heap.proofs.SweptPages.{occupied_from_gone}
use Rattle.space_collector.specs.GoneNames.{gone_below, gone_addresses, name_at, gone_names}

-- a range in two parts
pub range_split : (a m k : ℕ) → range_with_len a (m + k) ≡ range_with_len a m ++ range_with_len (a + m) k
range_split a zero k = let e : a ≡ a + 0 = omega arith in let n : 0 + k ≡ k = omega arith in ap (range_with_len a) n ∙ ap (λ b. range_with_len b k) e
range_split a (suc m) k =
    let n : suc m + k ≡ suc (m + k) = omega arith in
    let e : a + 1 + m ≡ a + suc m = omega arith in
    ap (range_with_len a) n ∙ ap (λ xs. a ∷ xs) (range_split (a + 1) m k ∙ ap (λ b. range_with_len (a + 1) m ++ range_with_len b k) e)

-- a range of which nothing passes
pub none_pass : (test : ℕ → Bool) (a n : ℕ) → ((b : ℕ) → a ≤ b → b < a + n → test b ≡ false) → filter test (range_with_len a n) ≡ []
none_pass test a zero h = refl
none_pass test a (suc n) h =
    cond-false (test a) (a ∷ filter test (range_with_len (a + 1) n)) (filter test (range_with_len (a + 1) n)) (h a (omega arith) (omega arith))
    ∙ none_pass test (a + 1) n (λ b there below. h b (omega arith) (omega arith))

pub member_range : (a n k : ℕ) → is_member nat_eq (range_with_len a n) k ≡ (nat_le a k && nat_lt k (a + n))
member_range a zero k = grind (arith, nat_tests)
member_range a (suc n) k = grind (arith, nat_tests, member_range (a + 1) n k)

-- a range ascends
pub rising_range : (a n : ℕ) → AllPairs (λ x y. x < y) (range_with_len a n)
rising_range a n i j d lt within =
    let long = length-range_with_len a n in
    let first : get_or (range_with_len a n) i d ≡ a + i = get_or-range_with_len a n i d (omega arith) in
    let second : get_or (range_with_len a n) j d ≡ a + j = get_or-range_with_len a n j d (omega arith) in
    omega arith

-- a gone object stands below the end of the last page
pub gone_small : (v : HeapView) (a : ℕ) → is_gone v a ≡ true → a < page_bytes * (length v.pages + 1)
unfolding page_of
gone_small v a e = let page = page_in_heap v a (slot_from_occupied v a (occupied_from_gone v a e)) in grind arith

-- the gone objects below an address, and those from there on
pub gone_split : (v : HeapView) (m k : ℕ) → gone_below v (m + k) ≡ gone_below v m ++ filter (is_gone v) (range_with_len m k)
unfolding gone_below
gone_split v m k =
    let e : 0 + m ≡ m = omega arith in
    ap (filter (is_gone v)) (range_split 0 m k ∙ ap (λ b. range_with_len 0 m ++ range_with_len b k) e)
    ∙ filter-append (is_gone v) (range_with_len 0 m) (range_with_len m k)

-- where none stands between two addresses
pub gone_same : (v : HeapView) (m n : ℕ) → m ≤ n → ((b : ℕ) → m ≤ b → b < n → is_gone v b ≡ false) → gone_below v n ≡ gone_below v m
gone_same v m n le none =
    let e : n ≡ m + (n - m) = omega arith in
    ap (gone_below v) e
    ∙ gone_split v m (n - m)
    ∙ ap (λ xs. gone_below v m ++ xs) (none_pass (is_gone v) m (n - m) (λ b there below. none b there (omega arith)))
    ∙ append-nil (gone_below v m)

-- the next gone object comes last
pub gone_next : (v : HeapView) (from a : ℕ) → IsNextGone v from a → gone_below v (a + 1) ≡ gone_below v from ++ a ∷ []
gone_next v from a n =
    gone_split v a 1
    ∙ ap (λ xs. gone_below v a ++ xs) (cond-true (is_gone v a) (a ∷ []) [] n.is)
    ∙ ap (λ xs. xs ++ a ∷ []) (gone_same v from a n.from_there n.before)

-- where none stands from an address on, those below it are all
pub gone_all : (v : HeapView) (from : ℕ) → HasNoGoneFrom v from → gone_below v from ≡ gone_addresses v
gone_all v from none =
    let end : ℕ = page_bytes * (length v.pages + 1) in
    ⊎_elim
    (λ below. sym (gone_same v from end (omega arith) (λ b there under. none b there)))
    (λ past. gone_same v end from past (λ b there under. false_from_ne_true _ (λ t. let s = gone_small v b t in absurd (omega arith))))
    (cases_lt from end)

-- all gone objects are those up to one of them, and those after it
pub gone_after : (v : HeapView) (a : ℕ) → is_gone v a ≡ true → (rest : List ℕ) × (gone_addresses v ≡ gone_below v (a + 1) ++ rest)
gone_after v a is =
    let end : ℕ = page_bytes * (length v.pages + 1) in
    let small = gone_small v a is in
    let e : end ≡ a + 1 + (end - (a + 1)) = omega arith in
    (filter (is_gone v) (range_with_len (a + 1) (end - (a + 1))), ap (gone_below v) e ∙ gone_split v (a + 1) (end - (a + 1)))

-- where none is gone the list is empty
pub none_gone_below : (v : HeapView) → HasNoGone v → gone_addresses v ≡ []
unfolding gone_below
none_gone_below v none = none_pass (is_gone v) 0 (page_bytes * (length v.pages + 1)) (λ a there below. ⊎_elim
    (λ standing. ap (λ b. b && (object_of v a).gone) standing ∙ none a standing)
    (λ nothing. ap (λ b. b && (object_of v a).gone) nothing)
    (cases_Bool (is_occupied v a)))

-- an address is in the list where a gone object stands there
pub member_gone : (v : HeapView) (a : ℕ) → is_member nat_eq (gone_addresses v) a ≡ is_gone v a
unfolding gone_below
member_gone v a =
    let end : ℕ = page_bytes * (length v.pages + 1) in
    let m = member_filter (is_gone v) (range_with_len 0 end) a in
    let r = member_range 0 end a in
    ⊎_elim
    (λ t. let s = gone_small v a t in grind (arith, nat_tests, m, r, t))
    (λ f. grind (arith, nat_tests, m, r, f))
    (cases_Bool (is_gone v a))

-- the addresses ascend
pub gone_rising : (v : HeapView) → AllPairs (λ x y. x < y) (gone_addresses v)
unfolding gone_below
gone_rising v = AllPairs-filter (λ x y. x < y) (is_gone v) (range_with_len 0 (page_bytes * (length v.pages + 1)))
    (rising_range 0 (page_bytes * (length v.pages + 1)))

-- each is there once
pub gone_distinct : (v : HeapView) → IsDistinct nat_eq (gone_addresses v)
gone_distinct v = IsDistinct-from_apart nat_eq (gone_addresses v) (λ i j d lt within. let rising = gone_rising v i j d lt within in grind (arith, nat_tests))

-- how many numbers pass a test, where none above a bound does
pub CountIs-passing : (test : ℕ → Bool) (bound : ℕ) → ((a : ℕ) → test a ≡ true → a < bound) →
    CountIs (λ a. test a ≡ true) (length (filter test (range_with_len 0 bound)))
CountIs-passing test bound small = record {
  names = filter test (range_with_len 0 bound);
  once = IsDistinct-from_apart nat_eq (filter test (range_with_len 0 bound)) (λ i j d lt within.
      let rising = AllPairs-filter (λ x y. x < y) test (range_with_len 0 bound) (rising_range 0 bound) i j d lt within in
      grind (arith, nat_tests));
  are = λ a.
      let m = member_filter test (range_with_len 0 bound) a in
      let r = member_range 0 bound a in (
        (λ t. ⊎_elim (λ passes. passes) (λ f. grind (arith, nat_tests, m, r, t, f)) (cases_Bool (test a))),
        (λ t. let below = small a t in grind (arith, nat_tests, m, r, t)),
      );
  long = refl;
}

-- so they are as many as the gone objects
pub CountIs-gone : (v : HeapView) → CountIs (λ a. is_gone v a ≡ true) (length (gone_addresses v))
CountIs-gone v = record {
  names = gone_addresses v;
  once = gone_distinct v;
  are = λ a. ((λ m. sym (member_gone v a) ∙ m), (λ g. member_gone v a ∙ g));
  long = refl;
}

-- and so are their names
pub gone_count : (v : HeapView) (k : ℕ) → CountIs (λ a. is_gone v a ≡ true) k → k ≡ length (gone_names v)
gone_count v k h = CountIs-unique (λ a. is_gone v a ≡ true) k (length (gone_addresses v)) h (CountIs-gone v) ∙ sym (length-map (gone_addresses v) (name_at v))

-- they are fewer than the addresses that there may be
pub gone_few : (v : HeapView) → IsSoundHeap v → length (gone_names v) < 2 ^ 29
gone_few v sound =
    let few = length-le_from_distinct_below (gone_addresses v) (page_bytes * (length v.pages + 1)) (gone_distinct v)
    (λ a m. gone_small v a (sym (member_gone v a) ∙ m)) in
    let limited = sound.limited in
    let most = sound.most in
    let long = length-map (gone_addresses v) (name_at v) in
    omega arith

member_map : (f : ℕ → ℕ) (xs : List ℕ) (x : ℕ) → is_member nat_eq xs x ≡ true → is_member nat_eq (map f xs) (f x) ≡ true
member_map f [] x m = cc
member_map f (y ∷ ys) x m = ⊎_elim
    (λ e. or_left (nat_eq (f x) (f y)) _ (eq-eqb (f x) (f y) (ap f (eqb-true x y e))))
    (λ r. or_right (nat_eq (f x) (f y)) _ (member_map f ys x r))
    (or_cases _ _ m)

member_unmap : (f : ℕ → ℕ) (xs : List ℕ) (q : ℕ) → is_member nat_eq (map f xs) q ≡ true → (x : ℕ) × (is_member nat_eq xs x ≡ true) × (q ≡ f x)
member_unmap f [] q m = absurd (true≢false (sym m))
member_unmap f (y ∷ ys) q m = ⊎_elim
    (λ e. (y, or_left (nat_eq y y) _ (eq-eqb y y refl), eqb-true q (f y) e))
    (λ r. let u = member_unmap f ys q r in (u.0, or_right (nat_eq u.0 y) _ u.1, u.2))
    (or_cases _ _ m)

-- a name is in the list where a gone object has it
pub member_gone_names : (v : HeapView) (name : ℕ) → (is_member nat_eq (gone_names v) name ≡ true) ↔ ((a : ℕ) × (is_gone v a ≡ true) × (name ≡ name_at v a))
member_gone_names v name = (
  (λ m. let u = member_unmap (name_at v) (gone_addresses v) name m in (u.0, sym (member_gone v u.0) ∙ u.1, u.2)),
  (λ u. subst (λ n. is_member nat_eq (gone_names v) n ≡ true) (sym u.2) (member_map (name_at v) (gone_addresses v) u.0 (member_gone v u.0 ∙ u.1))),
)

-- the names ascend by what gives each its address
pub gone_names_rising : (v : HeapView) (address : ℕ → ℕ) → ((a : ℕ) → is_gone v a ≡ true → address (name_at v a) ≡ a) →
    AllPairs (λ x y. address x < address y) (gone_names v)
gone_names_rising v address back i j d lt within =
    let xs : List ℕ = gone_addresses v in
    let long : length (gone_names v) ≡ length xs = length-map xs (name_at v) in
    let each : (k : ℕ) → k < length xs → address (get_or (gone_names v) k d) ≡ get_or xs k d = λ k b.
    ap address (get_or_default (gone_names v) k d (name_at v d) (omega arith) ∙ get_or-map (name_at v) xs k d)
    ∙ back (get_or xs k d) (sym (member_gone v (get_or xs k d)) ∙ member_at xs k d b) in
    let first = each i (omega arith) in
    let second = each j (omega arith) in
    let rising = gone_rising v i j d lt (omega arith) in
    omega arith
  where
    member_at : (xs : List ℕ) (k d : ℕ) → k < length xs → is_member nat_eq xs (get_or xs k d) ≡ true
    member_at [] k d b = absurd (omega arith)
    member_at (x ∷ xs) zero d b = or_left (nat_eq x x) _ (eq-eqb x x refl)
    member_at (x ∷ xs) (suc k) d b = or_right (nat_eq (get_or xs k d) x) _ (member_at xs k d (omega arith))
