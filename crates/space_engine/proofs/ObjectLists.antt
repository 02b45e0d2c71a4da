-- The list of the addresses that name objects: what is in it, its order, and how it grows from one object to the next.
use Rattle.std.proofs.Common.{◌≡◌, ℕ, zero, suc, ◌+◌, ◌-◌, ◌*◌, ◌<◌, ◌≤◌, true, false, ◌&&◌, cond, List, [], ◌∷◌, ◌++◌, length, get_or, nat_eq, nat_le, nat_lt, refl, sym, ap, ◌∙◌, arith, ⊎_elim, append-nil, append_assoc}
use Rattle.std.specs.Prelude.{AllPairs}
use Rattle.std.specs.List.{range_with_len, filter}
use Rattle.std.specs.Set.{is_member}
use Rattle.std.proofs.lemmas.Bool.{cases_Bool, cases_lt, false_from_ne_true, cond-true, cond-false}
use Rattle.std.proofs.lemmas.Bool.Decides.{nat_tests}
use Rattle.std.proofs.lemmas.List.{map-id}
use Rattle.std.proofs.lemmas.List.FromFn.{filter_of_map_range_with_len_more, length-range_with_len, get_or-range_with_len}
use Rattle.std.proofs.lemmas.List.Kept.{AllPairs-filter}
use Rattle.space_model.specs.Layout.{page_bytes, page_of}
use Rattle.space_model.proofs.Members.{member_filter}
use Rattle.space_heap.specs.HeapView.{HeapView}
use Rattle.space_heap.specs.Objects.{is_object}
use Rattle.space_heap.specs.SoundHeap.{IsSoundHeap}
use Rattle.space_heap.specs.Walks.{HasNoObjectFrom, IsNextObject}
use Rattle.space_heap.proofs.Laws.{page_in_heap}
use Rattle.space_heap.proofs.ObjectCounts.{few_in_sound}
use Rattle.space_heap.proofs.ObjectLaws.{occupied_from_object, slot_from_occupied}
use Rattle.space_collector.proofs.GoneLists.{CountIs-passing}
use Rattle.space_engine.specs.HeapDumps.{objects_below, object_addresses}

-- an object stands below the end of the last page
pub object_small : (v : HeapView) (a : ℕ) → is_object v a ≡ true → a < page_bytes * (length v.pages + 1)
unfolding page_of
object_small v a e = let page = page_in_heap v a (slot_from_occupied v a (occupied_from_object v a e)) in grind arith

-- one more address
objects_more : (v : HeapView) (n : ℕ) → objects_below v (n + 1) ≡ objects_below v n ++ cond (is_object v n) (n ∷ []) []
unfolding objects_below
objects_more v n =
    ap (filter (is_object v)) (sym (map-id (range_with_len 0 (n + 1))))
    ∙ filter_of_map_range_with_len_more (is_object v) (λ x. x) 0 n n (omega arith)
    ∙ ap (λ xs. filter (is_object v) xs ++ cond (is_object v n) (n ∷ []) []) (map-id (range_with_len 0 n))

-- the objects below a higher address begin with those below a lower one
objects_on : (v : HeapView) (m k : ℕ) → (rest : List ℕ) × (objects_below v (m + k) ≡ objects_below v m ++ rest)
objects_on v m zero = ([], ap (objects_below v) (omega arith) ∙ sym (append-nil (objects_below v m)))
objects_on v m (suc k) =
    let before = objects_on v m k in
    let last : List ℕ = cond (is_object v (m + k)) ((m + k) ∷ []) [] in
    let e : m + suc k ≡ m + k + 1 = omega arith in (
      before.0 ++ last,
      ap (objects_below v) e
          ∙ objects_more v (m + k)
          ∙ ap (λ xs. xs ++ last) before.1
          ∙ append_assoc (objects_below v m) before.0 last,
    )

-- and they are the same where none stands between the two
objects_still : (v : HeapView) (m k : ℕ) → ((b : ℕ) → m ≤ b → b < m + k → is_object v b ≡ false) → objects_below v (m + k) ≡ objects_below v m
objects_still v m zero none = ap (objects_below v) (omega arith)
objects_still v m (suc k) none =
    let e : m + suc k ≡ m + k + 1 = omega arith in
    ap (objects_below v) e
    ∙ objects_more v (m + k)
    ∙ ap (λ xs. objects_below v (m + k) ++ xs) (cond-false (is_object v (m + k)) ((m + k) ∷ []) [] (none (m + k) (omega arith) (omega arith)))
    ∙ append-nil (objects_below v (m + k))
    ∙ objects_still v m k (λ b there below. none b there (omega arith))

objects_same : (v : HeapView) (m n : ℕ) → m ≤ n → ((b : ℕ) → m ≤ b → b < n → is_object v b ≡ false) → objects_below v n ≡ objects_below v m
objects_same v m n le none =
    let e : n ≡ m + (n - m) = omega arith in
    ap (objects_below v) e ∙ objects_still v m (n - m) (λ b there below. none b there (omega arith))

pub none_below : (v : HeapView) → objects_below v 0 ≡ []
unfolding objects_below
none_below v = refl

-- the next object comes last
pub objects_next : (v : HeapView) (from a : ℕ) → IsNextObject v from a → objects_below v (a + 1) ≡ objects_below v from ++ a ∷ []
objects_next v from a n =
    objects_more v a
    ∙ ap (λ xs. objects_below v a ++ xs) (cond-true (is_object v a) (a ∷ []) [] n.is)
    ∙ ap (λ xs. xs ++ a ∷ []) (objects_same v from a n.from_there n.before)

-- where none stands from an address on, those below it are all
pub objects_all : (v : HeapView) (from : ℕ) → HasNoObjectFrom v from → objects_below v from ≡ object_addresses v
objects_all v from none =
    let end : ℕ = page_bytes * (length v.pages + 1) in
    ⊎_elim
    (λ below. sym (objects_same v from end (omega arith) (λ b there under. none b there)))
    (λ past. objects_same v end from past (λ b there under. false_from_ne_true _ (λ t. let s = object_small v b t in absurd (omega arith))))
    (cases_lt from end)

-- all objects are those up to one of them, and those after it
pub objects_after : (v : HeapView) (a : ℕ) → is_object v a ≡ true → (rest : List ℕ) × (object_addresses v ≡ objects_below v (a + 1) ++ rest)
objects_after v a is =
    let end : ℕ = page_bytes * (length v.pages + 1) in
    let small = object_small v a is in
    let e : end ≡ a + 1 + (end - (a + 1)) = omega arith in
    let on = objects_on v (a + 1) (end - (a + 1)) in
    (on.0, ap (objects_below v) e ∙ on.1)

-- there are no more than the heap has slots
pub few_listed : (v : HeapView) → IsSoundHeap v → length (object_addresses v) ≤ 1638 * 4096
unfolding objects_below
few_listed v sound =
    let count = CountIs-passing (is_object v) (page_bytes * (length v.pages + 1)) (object_small v) in
    let few = few_in_sound v sound count.names count.once (λ a m. occupied_from_object v a ((count.are a).0 m)) in
    let long = count.long in
    omega arith

member_range : (a n k : ℕ) → is_member nat_eq (range_with_len a n) k ≡ (nat_le a k && nat_lt k (a + n))
member_range a zero k = grind (arith, nat_tests)
member_range a (suc n) k = grind (arith, nat_tests, member_range (a + 1) n k)

-- an address is in the list where it names an object
pub member_object : (v : HeapView) (a : ℕ) → is_member nat_eq (object_addresses v) a ≡ is_object v a
unfolding objects_below
member_object v a =
    let end : ℕ = page_bytes * (length v.pages + 1) in
    let m = member_filter (is_object v) (range_with_len 0 end) a in
    let r = member_range 0 end a in
    ⊎_elim
    (λ t. let s = object_small v a t in grind (arith, nat_tests, m, r, t))
    (λ f. grind (arith, nat_tests, m, r, f))
    (cases_Bool (is_object v a))

rising_range : (a n : ℕ) → AllPairs (λ x y. x < y) (range_with_len a n)
rising_range a n i j d lt within =
    let long = length-range_with_len a n in
    let first : get_or (range_with_len a n) i d ≡ a + i = get_or-range_with_len a n i d (omega arith) in
    let second : get_or (range_with_len a n) j d ≡ a + j = get_or-range_with_len a n j d (omega arith) in
    omega arith

-- the addresses ascend
pub objects_rising : (v : HeapView) → AllPairs (λ x y. x < y) (object_addresses v)
unfolding objects_below
objects_rising v = AllPairs-filter (λ x y. x < y) (is_object v) (range_with_len 0 (page_bytes * (length v.pages + 1)))
    (rising_range 0 (page_bytes * (length v.pages + 1)))
