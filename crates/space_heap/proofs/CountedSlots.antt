-- How many slots of a page are counted, by its planes, and what is counted at an address.
use Rattle.std.proofs.Common.{◌≡◌, ℕ, zero, suc, ◌+◌, ◌<◌, ◌≤◌, Bool, true, false, not, ◌&&◌, cond, List, [], ◌∷◌, length, refl, sym, ap, ◌∙◌, arith, Option, None, Some}
use Rattle.std.specs.Prelude.{◌↔◌, count_by, is_none}
use Rattle.std.specs.List.{range_with_len}
use Rattle.std.proofs.lemmas.Bool.{and_parts, and_from}
use Rattle.std.proofs.lemmas.List.{get_or_default}
use Rattle.std.proofs.lemmas.List.Sums.{sum_by-cons}
use Rattle.std.proofs.lemmas.List.FromFn.{length-range_with_len, get_or-range_with_len}
use Rattle.space_model.specs.Layout.{page_of}
use Rattle.space_planes.specs.Planes.{bit, count_set}
use Rattle.space_pools.specs.PoolsView.{page_at as pools_page}
use Rattle.space_pools.specs.PageSlots.{PageSlots, free_in, found_in}
use Rattle.space_heap.specs.declared.heap.counting.Counted.{Counted}
use Rattle.space_heap.specs.declared.heap.counting.Counted.TheVariants.{Live, Vacant, Noted}
use Rattle.space_heap.specs.declared.marks.Marks.{Marks}
use Rattle.space_heap.specs.declared.slot_notes.Note.{Note}
use Rattle.space_heap.specs.declared.slot_notes.Note.TheVariants.{Old, Kept}
use Rattle.space_heap.specs.Slots.{SlotView, Free, Moved, Object, has_object, has_present, is_free}
use Rattle.space_heap.specs.HeapView.{PageView, HeapView, page_at, pool_at}
use Rattle.space_heap.specs.Objects.{is_object, object_of}
use Rattle.space_heap.specs.Sweeping.{has_gone}
use Rattle.space_heap.specs.planes.MarkPlanes.{marks_at, slot_from, used_from, traits_from}
use Rattle.space_heap.specs.declared.heap.Heap.TheInside.{Inside}
use Rattle.space_heap.specs.SoundHeap.{IsSoundHeap}
use Rattle.space_heap.specs.Inside.{view_from, page_from, FitsSlot, AreMarksOf}
use Rattle.space_heap.specs.SlotCounts.{is_vacant}
use Rattle.space_heap.specs.planes.CountedSlots.{has_noted, is_noted_in, has_counted, IsNoted, IsCounted}
use Rattle.space_heap.proofs.PageCounts.{IsTested}
use Rattle.space_heap.proofs.NewPages.{same_counts}
use Rattle.space_heap.proofs.FreedCounts.{count_most, slots_most}
use Rattle.space_heap.proofs.Laws.{page_in_heap}
use Rattle.space_heap.proofs.fields.Views.{length-pages_from, page_read, length-slots_from, slot_read}
use Rattle.space_heap.proofs.ObjectLaws.{occupied_from_object, slot_from_occupied}
use Rattle.space_heap.proofs.updates.OldMarkedSlots.{old_by}
use Rattle.space_heap.proofs.updates.SweptSlots.{gone_count}

-- 1 where the number passes the test
abbrev one_at : (ℕ → Bool) → ℕ → ℕ
one_at test k = cond (test k) 1 0

-- one more number of a range
count_more : (test : ℕ → Bool) (a n : ℕ) → count_by test (range_with_len a (n + 1)) ≡ count_by test (range_with_len a n) + one_at test (a + n)
count_more test a zero =
    let e : a + 0 ≡ a = omega arith in
    let first : count_by test (range_with_len a (zero + 1)) ≡ one_at test a + 0 = sum_by-cons (one_at test) a [] in
    let none : count_by test (range_with_len a zero) ≡ 0 = refl in
    let same : one_at test (a + 0) ≡ one_at test a = ap (one_at test) e in
    omega (arith, first, none, same)
count_more test a (suc n) =
    let next : suc n + 1 ≡ suc (n + 1) = omega arith in
    let longer : count_by test (range_with_len a (suc n + 1)) ≡ count_by test (range_with_len a (suc (n + 1))) =
    ap (λ k. count_by test (range_with_len a k)) next in
    let first : count_by test (range_with_len a (suc (n + 1))) ≡ one_at test a + count_by test (range_with_len (a + 1) (n + 1)) =
    sum_by-cons (one_at test) a (range_with_len (a + 1) (n + 1)) in
    let less : count_by test (range_with_len a (suc n)) ≡ one_at test a + count_by test (range_with_len (a + 1) n) =
    sum_by-cons (one_at test) a (range_with_len (a + 1) n) in
    let rest = count_more test (a + 1) n in
    let e : a + 1 + n ≡ a + suc n = omega arith in
    let same : one_at test (a + 1 + n) ≡ one_at test (a + suc n) = ap (one_at test) e in
    omega (arith, longer, first, less, rest, same)

pub count_next : (test : ℕ → Bool) (n : ℕ) → count_by test (range_with_len 0 (n + 1)) ≡ count_by test (range_with_len 0 n) + cond (test n) 1 0
count_next test n =
    let e : 0 + n ≡ n = omega arith in
    let same : one_at test (0 + n) ≡ one_at test n = ap (one_at test) e in
    let more = count_more test 0 n in
    omega (arith, same, more)

-- an object is gone, or can be named
count_parts : (xs : List SlotView) → count_by has_object xs ≡ count_by has_present xs + count_by has_gone xs
count_parts [] = refl
count_parts (x ∷ xs) =
    let objects = sum_by-cons (λ s. cond (has_object s) 1 0) x xs in
    let present = sum_by-cons (λ s. cond (has_present s) 1 0) x xs in
    let gone = sum_by-cons (λ s. cond (has_gone s) 1 0) x xs in
    let rest = count_parts xs in
    let here = parts x in
    omega (arith, objects, present, gone, rest, here)
  where
    split : (b : Bool) → 1 ≡ cond (not b) 1 0 + cond b 1 0
    split true = refl
    split false = refl

    parts : (s : SlotView) → cond (has_object s) 1 0 ≡ cond (has_present s) 1 0 + cond (has_gone s) 1 0
    parts Free = refl
    parts (Moved to) = refl
    parts (Object o) = split o.gone

-- the bit of an object
object_from_bit : (found : Option (List ℕ)) (m : Marks) (s : ℕ) → FitsSlot found m s → bit m.object s ≡ has_object (slot_from found m s)
object_from_bit None m s f = f.object
object_from_bit (Some words) m s f = f.object ∙ by_moved (bit m.moved s)
  where
    by_moved : (moved : Bool) → not moved ≡ has_object (used_from words moved (traits_from m s))
    by_moved true = refl
    by_moved false = refl

-- the bits of what is noted of an object
noted_from_bits : (note : Note) (found : Option (List ℕ)) (m : Marks) (s : ℕ) → FitsSlot found m s → is_noted_in note m s ≡ has_noted note (slot_from found m s)
noted_from_bits note None m s f = nothing note (bit m.object s) f.object
  where
    nothing : (note : Note) (object : Bool) → object ≡ false → is_noted_in note m s ≡ has_noted note Free
    nothing Old object e = grind (arith, e, f.object)
    nothing Kept object e = grind (arith, e, f.object)
noted_from_bits note (Some words) m s f = by_moved note (bit m.moved s) refl
  where
    by_moved : (note : Note) (moved : Bool) → bit m.moved s ≡ moved → is_noted_in note m s ≡ has_noted note (used_from words moved (traits_from m s))
    by_moved Old true e = let o = f.object in grind (arith, e, o)
    by_moved Kept true e = let o = f.object in grind (arith, e, o)
    by_moved Old false e =
        let o : bit m.object s ≡ true = f.object ∙ ap (λ b. true && not b) e in
        ap (λ b. (b && not (bit m.gone s)) && ((bit m.age_low s && bit m.age_high s) && not (bit m.guard s))) o
        ∙ ap (λ b. (true && not (bit m.gone s)) && b) (sym (old_by (bit m.guard s) (bit m.age_low s) (bit m.age_high s)))
    by_moved Kept false e =
        let o : bit m.object s ≡ true = f.object ∙ ap (λ b. true && not b) e in
        ap (λ b. (b && not (bit m.gone s)) && bit m.kept s) o

free_from_found : (found : Option (List ℕ)) (m : Marks) (s : ℕ) → is_none found ≡ is_free (slot_from found m s)
free_from_found None m s = refl
free_from_found (Some words) m s = used (bit m.moved s)
  where
    used : (moved : Bool) → false ≡ is_free (used_from words moved (traits_from m s))
    used true = refl
    used false = refl

module _ (p : PageSlots) (m : Marks) (h : AreMarksOf p m) where
  abbrev slots : List SlotView
  slots = (page_from p m).slots

  object_count : count_set m.object ≡ count_by has_object slots
  object_count = same_counts (λ b. b) has_object m.object slots false Free (h.wide.object ∙ sym (length-slots_from p m))
      (λ s _. object_from_bit (found_in p s) m s (h.each s) ∙ ap has_object (sym (slot_read p m s)))

  -- objects that aren't gone, and gone ones
  pub all_objects : count_set m.object ≡ count_by has_present slots + count_set m.gone
  all_objects = object_count ∙ count_parts slots ∙ ap (λ n. count_by has_present slots + n) (sym (gone_count p m h))

  pub noted_objects : (note : Note) → count_by (is_noted_in note m) (range_with_len 0 (length m.object)) ≡ count_by (has_noted note) slots
  noted_objects note =
      let n : ℕ = length m.object in
      same_counts (is_noted_in note m) (has_noted note) (range_with_len 0 n) slots 0 Free
      (length-range_with_len 0 n ∙ h.wide.object ∙ sym (length-slots_from p m))
      (λ s below. ap (is_noted_in note m) (get_or-range_with_len 0 n s 0 (let l = length-range_with_len 0 n in omega arith) ∙ omega arith)
      ∙ noted_from_bits note (found_in p s) m s (h.each s) ∙ ap (has_noted note) (sym (slot_read p m s)))

  pub free_count : (plane : List Bool) → length plane ≡ length p.slots → ((s : ℕ) → bit plane s ≡ free_in p s) → count_set plane ≡ count_by is_free slots
  free_count plane long bits = same_counts (λ b. b) is_free plane slots false Free (long ∙ sym (length-slots_from p m))
      (λ s below. bits s ∙ ap is_none (get_or_default p.slots s (Some []) None (omega arith)) ∙ free_from_found (found_in p s) m s
      ∙ ap is_free (sym (slot_read p m s)))

-- what is noted of an object at an address
noted_tested : (note : Note) (v : HeapView) (a : ℕ) → IsNoted note v a ↔ IsTested (has_noted note) v a
unfolding is_object object_of
noted_tested Old v a = (
  λ g. and_from _ _ (slot_from_occupied v a (occupied_from_object v a g.0)) (and_from _ _ g.0 g.1),
  λ t. and_parts _ _ (and_parts _ _ t).1,
)
noted_tested Kept v a = (
  λ g. and_from _ _ (slot_from_occupied v a (occupied_from_object v a g.0)) (and_from _ _ g.0 g.1),
  λ t. and_parts _ _ (and_parts _ _ t).1,
)

-- what is counted at an address
pub counted_tested : (counted : Counted) (v : HeapView) (a : ℕ) → IsCounted counted v a ↔ IsTested (has_counted counted) v a
unfolding is_object is_vacant
counted_tested Live v a = (λ g. and_from _ _ (slot_from_occupied v a (occupied_from_object v a g)) g, λ t. (and_parts _ _ t).1)
counted_tested Vacant v a = (λ g. g, λ t. t)
counted_tested (Noted note) v a = noted_tested note v a

-- what is counted starts on a page of the heap
pub counted_within : (counted : Counted) (v : HeapView) (a : ℕ) → IsCounted counted v a → page_of a < length v.pages
counted_within counted v a g = page_in_heap v a (and_parts _ _ ((counted_tested counted v a).0 g)).0

-- a page of the view, by the fields
pub counted_view : (has : SlotView → Bool) (h : Inside) (v : HeapView) (page : ℕ) → view_from h ≡ v
    → count_by has (page_from (pools_page h.pools page) (marks_at h.marks.items page)).slots ≡ count_by has (page_at v page).slots
counted_view has h v page view =
    ap (λ (p : PageView). count_by has p.slots) (sym (page_read h.pools h.marks.items page)) ∙ ap (λ (v : HeapView). count_by has (page_at v page).slots) view

pub page_inside : (h : Inside) (v : HeapView) (page : ℕ) → view_from h ≡ v → page < length v.pages → page < length h.pools.pages
page_inside h v page view within =
    let same : length (view_from h).pages ≡ length v.pages = ap (λ (v : HeapView). length v.pages) view in
    let long = length-pages_from h.pools h.marks.items in
    omega arith

-- a page has 1,638 slots at most
pub counted_most : (has : SlotView → Bool) (v : HeapView) (page : ℕ) → IsSoundHeap v → count_by has (page_at v page).slots ≤ 1638
counted_most has v page sound =
    let count = count_most has (page_at v page).slots in
    let most = slots_most v page (pool_at v page) refl sound in
    omega arith
