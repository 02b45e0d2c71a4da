-- The planes and the pools after the sweep of a page.
use Rattle.std.proofs.Common.{◌≡◌, ◌≢◌, ⊎_elim, ℕ, zero, suc, ◌+◌, ◌<◌, Bool, true, false, true≢false, not, ◌&&◌, ◌||◌, cond, List, [], ◌∷◌, length, map, set, get_or, replicate, nat_eq, refl, sym, ap, ◌∙◌, subst, arith, Option, None, Some}
use Rattle.std.specs.Prelude.{is_some, is_none, count_by}
use Rattle.std.specs.List.{range_with_len, filter, list_all}
use Rattle.std.proofs.Math.ListN.{get_or-map}
use Rattle.std.proofs.lemmas.Bool.{cases_Bool, cases_eq, cases_lt, cond-true, cond-false}
use Rattle.std.proofs.lemmas.Bool.Decides.{nat_tests}
use Rattle.std.proofs.lemmas.List.{get_or-set_same, get_or-set_other, get_or_past, length-set, length-replicate}
use Rattle.std.proofs.lemmas.List.FromFn.{fill_by_all}
use Rattle.std.proofs.lemmas.List.Folds.{list_all_at}
use Rattle.space_planes.specs.Planes.{bit, count_set}
use Rattle.space_planes.proofs.Bits.{bit-replicate, bit-set_in_first_only, length-set_in_first_only}
use Rattle.space_pools.specs.PageSlots.{PageSlots, spare_page, found_in, freed_in}
use Rattle.space_pools.specs.PoolsView.{PoolsView, page_at, unswept_at, free_at, with_page, with_freed_page, with_spare_page}
use Rattle.space_pools.proofs.PoolLaws.{page_at-with_page_same, page_at-with_page_other, used_from_found, not_free_from_used}
use Rattle.space_pools.proofs.Freed.{pool_freed, swept_freed, length-freed_in, found_in-freed_in}
use Rattle.space_heap.specs.declared.marks.Marks.{Marks}
use Rattle.space_heap.specs.Slots.{SlotView, Free, Object, is_free}
use Rattle.space_heap.specs.HeapView.{PageView, no_page}
use Rattle.space_heap.specs.planes.MarkPlanes.{marks_at, clear_marks, AreWide, slot_from, used_from, traits_from, object_from, is_present}
use Rattle.space_heap.specs.Sweeping.{has_gone, swept_slot, page_with_slots, swept_page, swept}
use Rattle.space_heap.specs.planes.SweptPlanes.{swept_marks, SweepsPage}
use Rattle.space_heap.specs.Inside.{slot_in, page_from, page_in, pages_from, unswept_in, Rest, view_with, FitsSlot, AreMarksOf, AreAllMarks}
use Rattle.space_heap.proofs.fields.Views.{length-pages_from, page_read, length-slots_from, slot_read}
use Rattle.space_heap.proofs.fields.Unswept.{same_filter}
use Rattle.space_heap.proofs.NewPages.{same_counts}
use Rattle.space_heap.proofs.updates.UnmarkedSlots.{map_each}
use Rattle.space_heap.proofs.SweptLaws.{page_empty, page_full}

-- a filter of a filter
filter_both : (p q : ℕ → Bool) (xs : List ℕ) → filter (λ k. p k && q k) xs ≡ filter q (filter p xs)
filter_both p q [] = refl
filter_both p q (x ∷ xs) = step (p x) (filter (λ k. p k && q k) xs) (filter p xs) (filter_both p q xs)
  where
    step : (a : Bool) (ys zs : List ℕ) → ys ≡ filter q zs → cond (a && q x) (x ∷ ys) ys ≡ filter q (cond a (x ∷ zs) zs)
    step true ys zs e = ap (λ l. cond (q x) (x ∷ l) l) e
    step false ys zs e = e

-- one page and its planes change
module _ (v : PoolsView) (ms : List Marks) (page : ℕ) (q : PageSlots) (n : Marks) (here : page < length v.pages) (all : AreAllMarks v ms) where
  abbrev w : PoolsView
  w = with_page v page q

  abbrev ns : List Marks
  ns = set ms page n

  marks_same : marks_at ns page ≡ n
  marks_same = let l = all.all in get_or-set_same ms page n (clear_marks 0) (omega arith)

  marks_other : (k : ℕ) → k ≢ page → marks_at ns k ≡ marks_at ms k
  marks_other k differ = get_or-set_other ms page k n (clear_marks 0) differ

  same_count : length w.pages ≡ length v.pages
  same_count = length-set v.pages page q

  pub pages_set : pages_from w ns ≡ set (pages_from v ms) page (page_from q n)
  pages_set =
      let p : PageView = page_from q n in
      let within : page < length (pages_from v ms) = let l = length-pages_from v ms in omega arith in
      sym (fill_by_all (page_in w ns) (set (pages_from v ms) page p) (length w.pages) no_page
      (length-set (pages_from v ms) page p ∙ length-pages_from v ms ∙ sym same_count) (λ k _. ⊎_elim
      (λ same.
      ap (λ k. get_or (set (pages_from v ms) page p) k no_page) same
      ∙ get_or-set_same (pages_from v ms) page p no_page within
      ∙ sym (ap (page_in w ns) same ∙ ap (λ x. page_from x (marks_at ns page)) (page_at-with_page_same v page q here) ∙ ap (page_from q) marks_same))
      (λ differ.
      get_or-set_other (pages_from v ms) page k p no_page differ
      ∙ page_read v ms k
      ∙ sym (ap (λ x. page_from x (marks_at ns k)) (page_at-with_page_other v page k q differ) ∙ ap (page_from (page_at v k)) (marks_other k differ)))
      (cases_eq k page)))

  pub all_set : AreMarksOf q n → AreAllMarks w ns
  all_set h = record {
    all = length-set ms page n ∙ all.all ∙ sym same_count;
    of_page = λ k. ⊎_elim
        (λ same. subst (λ k. AreMarksOf (page_at w k) (marks_at ns k)) (sym same)
        (subst (λ x. AreMarksOf x (marks_at ns page)) (sym (page_at-with_page_same v page q here)) (subst (AreMarksOf q) (sym marks_same) h)))
        (λ differ. subst (λ x. AreMarksOf x (marks_at ns k)) (sym (page_at-with_page_other v page k q differ))
        (subst (AreMarksOf (page_at v k)) (sym (marks_other k differ)) (all.of_page k)))
        (cases_eq k page);
  }

  pub unswept_set : q.unswept ≡ false → unswept_in w ≡ filter (λ other. not (nat_eq other page)) (unswept_in v)
  unswept_set swept =
      same_filter (unswept_at w) (λ k. unswept_at v k && not (nat_eq k page)) (range_with_len 0 (length w.pages)) (λ k. ⊎_elim
      (λ same.
      ap (unswept_at w) same ∙ ap (λ (p : PageSlots). p.unswept) (page_at-with_page_same v page q here) ∙ swept
      ∙ sym (never (unswept_at v k) (nat_eq k page) (grind (arith, nat_tests))))
      (λ differ.
      ap (λ (p : PageSlots). p.unswept) (page_at-with_page_other v page k q differ)
      ∙ sym (still (unswept_at v k) (nat_eq k page) (grind (arith, nat_tests))))
      (cases_eq k page))
      ∙ ap (λ n. filter (λ k. unswept_at v k && not (nat_eq k page)) (range_with_len 0 n)) same_count
      ∙ filter_both (unswept_at v) (λ k. not (nat_eq k page)) (range_with_len 0 (length v.pages))
    where
      never : (a b : Bool) → b ≡ true → (a && not b) ≡ false
      never true b e = ap not e
      never false b e = refl

      still : (a b : Bool) → b ≡ false → (a && not b) ≡ a
      still true b e = ap not e
      still false b e = refl

-- what is found in a slot after the gone objects left theirs
abbrev left : Option (List ℕ) → Marks → ℕ → Option (List ℕ)
left found m s = cond (bit m.gone s) None found

-- a slot without anything isn't that of a gone object, nor is one that an object left
not_gone : (found : Option (List ℕ)) (m : Marks) (s : ℕ) → FitsSlot found m s → (is_some found && not (bit m.moved s)) ≡ false → bit m.gone s ≡ false
not_gone found m s f e = ⊎_elim
    (λ gone. absurd (true≢false (sym (f.gone gone) ∙ f.object ∙ e)))
    (λ e. e)
    (cases_Bool (bit m.gone s))

none_left : (found : Option (List ℕ)) (m : Marks) (s : ℕ) → bit m.gone s ≡ false → left found m s ≡ found
none_left found m s e = cond-false (bit m.gone s) None found e

object_bit : (m : Marks) (s k : ℕ) → AreWide m k → bit (swept_marks m).object s ≡ (bit m.object s && not (bit m.gone s))
object_bit m s k wide = bit-set_in_first_only m.object m.gone s (wide.object ∙ sym wide.gone)

gone_bit : (m : Marks) (s : ℕ) → bit (swept_marks m).gone s ≡ false
gone_bit m s = bit-replicate (length m.gone) s

traits_swept_planes : (m : Marks) (s : ℕ) → bit m.gone s ≡ false → traits_from (swept_marks m) s ≡ traits_from m s
traits_swept_planes m s e = λ i. record (traits_from m s) { gone = (gone_bit m s ∙ sym e) i }

-- a slot after the sweep of its page
slot_swept_planes : (found : Option (List ℕ)) (m : Marks) (s : ℕ) → FitsSlot found m s
    → slot_from (left found m s) (swept_marks m) s ≡ swept_slot (slot_from found m s)
slot_swept_planes None m s f = ap (λ x. slot_from x (swept_marks m) s) (none_left None m s (not_gone None m s f refl))
slot_swept_planes (Some words) m s f = ⊎_elim
    (λ moved.
    let alive : bit m.gone s ≡ false = not_gone (Some words) m s f (ap (λ b. true && not b) moved) in
    ap (λ x. slot_from x (swept_marks m) s) (none_left (Some words) m s alive)
    ∙ ap (λ b. used_from words b (traits_from (swept_marks m) s)) moved
    ∙ sym (ap (λ b. swept_slot (used_from words b (traits_from m s))) moved))
    (λ stays. ⊎_elim
    (λ gone.
    ap (λ x. slot_from x (swept_marks m) s) (cond-true (bit m.gone s) None (Some words) gone)
    ∙ sym (ap (λ b. swept_slot (used_from words b (traits_from m s))) stays
    ∙ cond-true (bit m.gone s) Free (Object (object_from words (traits_from m s))) gone))
    (λ alive.
    ap (λ x. slot_from x (swept_marks m) s) (none_left (Some words) m s alive)
    ∙ ap (used_from words (bit m.moved s)) (traits_swept_planes m s alive)
    ∙ ap (λ b. used_from words b (traits_from m s)) stays
    ∙ sym (ap (λ b. swept_slot (used_from words b (traits_from m s))) stays
    ∙ cond-false (bit m.gone s) Free (Object (object_from words (traits_from m s))) alive))
    (cases_Bool (bit m.gone s)))
    (cases_Bool (bit m.moved s))

fits_swept_planes : (found : Option (List ℕ)) (m : Marks) (s k : ℕ) → AreWide m k → FitsSlot found m s → FitsSlot (left found m s) (swept_marks m) s
fits_swept_planes found m s k wide f = record {
  object = object_bit m s k wide ∙ ⊎_elim
      (λ gone. ap (λ b. bit m.object s && not b) gone ∙ nothing (bit m.object s)
      ∙ sym (ap (λ x. is_some x && not (bit m.moved s)) (cond-true (bit m.gone s) None found gone)))
      (λ alive. ap (λ b. bit m.object s && not b) alive ∙ all (bit m.object s) ∙ f.object
      ∙ sym (ap (λ x. is_some x && not (bit m.moved s)) (none_left found m s alive)))
      (cases_Bool (bit m.gone s));
  moved = λ moved. ap is_some (none_left found m s (not_gone found m s f (ap (λ b. is_some found && not b) moved ∙ nothing (is_some found)))) ∙ f.moved moved;
  words = λ words e stays. f.words words (kept (bit m.gone s) found words e) stays;
  gone = λ e. absurd (true≢false (sym e ∙ gone_bit m s));
}
  where
    nothing : (b : Bool) → (b && false) ≡ false
    nothing true = refl
    nothing false = refl

    all : (b : Bool) → (b && true) ≡ b
    all true = refl
    all false = refl

    kept : (b : Bool) (found : Option (List ℕ)) (words : List ℕ) → cond b None found ≡ Some words → found ≡ Some words
    kept true found words e = cc
    kept false found words e = e

pub wide_swept_planes : (m : Marks) (k : ℕ) → AreWide m k → AreWide (swept_marks m) k
wide_swept_planes m k w = record {
  object = length-set_in_first_only m.object m.gone (w.object ∙ sym w.gone) ∙ w.object;
  moved = w.moved;
  guard = w.guard;
  marked = w.marked;
  black = w.black;
  age_low = w.age_low;
  age_high = w.age_high;
  remembered = w.remembered;
  kept = w.kept;
  pinned = w.pinned;
  gone = length-replicate (length m.gone) false ∙ w.gone;
}

-- whether a slot is free, by what is found there
pub free_from : (found : Option (List ℕ)) (m : Marks) (s : ℕ) → is_free (slot_from found m s) ≡ is_none found
free_from None m s = refl
free_from (Some words) m s = used (bit m.moved s)
  where
    used : (moved : Bool) → is_free (used_from words moved (traits_from m s)) ≡ false
    used true = refl
    used false = refl

-- whether the slot of a gone object is
pub gone_from : (found : Option (List ℕ)) (m : Marks) (s : ℕ) → FitsSlot found m s → bit m.gone s ≡ has_gone (slot_from found m s)
gone_from None m s f = not_gone None m s f refl
gone_from (Some words) m s f = ⊎_elim
    (λ moved. not_gone (Some words) m s f (ap (λ b. true && not b) moved) ∙ sym (ap (λ b. has_gone (used_from words b (traits_from m s))) moved))
    (λ stays. sym (ap (λ b. has_gone (used_from words b (traits_from m s))) stays))
    (cases_Bool (bit m.moved s))

-- the gone objects of a page are as many as the bits of its plane
pub gone_count : (p : PageSlots) (m : Marks) → AreMarksOf p m → count_set m.gone ≡ count_by has_gone (page_from p m).slots
gone_count p m h = same_counts (λ b. b) has_gone m.gone (page_from p m).slots false Free (h.wide.gone ∙ sym (length-slots_from p m))
    (λ s _. gone_from (found_in p s) m s (h.each s) ∙ ap has_gone (sym (slot_read p m s)))

-- the planes of a spare page
pub spare_marks : AreMarksOf spare_page (clear_marks 0)
spare_marks = record {
  wide = let e : length (replicate 0 false) ≡ 0 = length-replicate 0 false in
      record { object = e; moved = e; guard = e; marked = e; black = e; age_low = e; age_high = e; remembered = e; kept = e; pinned = e; gone = e };
  each = λ s. record {
    object = bit-replicate 0 s;
    moved = λ e. absurd (true≢false (sym e ∙ bit-replicate 0 s));
    words = λ words e stays. cc;
    gone = λ e. absurd (true≢false (sym e ∙ bit-replicate 0 s));
  };
}

-- a list whose slots are all free
all_free : (xs : List SlotView) → ((i : ℕ) → is_free (get_or xs i Free) ≡ true) → list_all is_free xs ≡ true
all_free [] h = refl
all_free (x ∷ xs) h = let first : is_free x ≡ true = h zero in let rest = all_free xs (λ i. h (suc i)) in cc

-- a page is spare where all its slots are free after each changed
pub page_emptied : (f : SlotView → SlotView) → f Free ≡ Free → (p : PageView) → ((i : ℕ) → is_free (f (get_or p.slots i Free)) ≡ true)
    → page_with_slots p.pool (map f p.slots) ≡ no_page
page_emptied f free p each = page_empty p.pool (map f p.slots) (all_free (map f p.slots) (λ i.
    ap is_free (ap (get_or (map f p.slots) i) (sym free) ∙ get_or-map f p.slots i Free) ∙ each i))

-- a page with a slot that holds an object, or was left by one, has one that isn't free
pub page_used : (q : PageSlots) (n : Marks) → AreMarksOf q n → (s : ℕ) → (bit n.object s || bit n.moved s) ≡ true
    → list_all is_free (page_from q n).slots ≡ false
page_used q n marks s e =
    let slots : List SlotView = (page_from q n).slots in
    let used : is_none (found_in q s) ≡ false = something (found_in q s) (bit n.object s) (bit n.moved s) (marks.each s).object (marks.each s).moved e in
    let its : is_free (get_or slots s Free) ≡ false = ap is_free (slot_read q n s) ∙ free_from (found_in q s) n s ∙ used in
    list_all_at is_free slots s Free (⊎_elim (λ within. within) (λ past. absurd (true≢false (sym (ap is_free (get_or_past slots s Free past)) ∙ its)))
    (cases_lt s (length slots))) its
  where
    something : (found : Option (List ℕ)) (object moved : Bool) → object ≡ (is_some found && not moved) → (moved ≡ true → is_some found ≡ true)
        → (object || moved) ≡ true → is_none found ≡ false
    something None true moved f g e = cc
    something None false true f g e = let never : false ≡ true = g refl in cc
    something None false false f g e = cc
    something (Some words) object moved f g e = refl

-- what is found in a slot of a page after those of a plane became free
pub found_freed : (v : PoolsView) (page : ℕ) (free plane : List Bool) → ((s : ℕ) → bit free s ≡ (free_at v page s || bit plane s)) → (s : ℕ)
    → found_in (freed_in (page_at v page) free) s ≡ cond (bit plane s) None (found_in (page_at v page) s)
found_freed v page free plane bits s = found_in-freed_in p free s ∙ by_found (found_in p s) refl
  where
    p : PageSlots
    p = page_at v page

    same : (a b : Bool) (found : Option (List ℕ)) → a ≡ b → cond a None found ≡ cond b None found
    same a b found e = ap (λ x. cond x None found) e

    none : (a : Bool) (found : Option (List ℕ)) → found ≡ None → cond a None found ≡ None
    none true found e = refl
    none false found e = e

    by_found : (found : Option (List ℕ)) → found_in p s ≡ found → cond (bit free s) None (found_in p s) ≡ cond (bit plane s) None (found_in p s)
    by_found None e = none (bit free s) (found_in p s) e ∙ sym (none (bit plane s) (found_in p s) e)
    by_found (Some words) e = same (bit free s) (bit plane s) (found_in p s) (bits s
        ∙ ap (λ b. b || bit plane s) (not_free_from_used v page s (used_from_found v page s words e)))

-- a page whose objects are all gone, where no slot was left by one, is spare after its sweep
module _ (v : PoolsView) (ms : List Marks) (page : ℕ) (here : page < length v.pages) (all : AreAllMarks v ms)
    (none : (s : ℕ) → (is_present (marks_at ms page) s || bit (marks_at ms page).moved s) ≡ false) where
  abbrev was : PageSlots
  was = page_at v page

  abbrev its_marks : Marks
  its_marks = marks_at ms page

  slot_emptied : (s : ℕ) → is_free (swept_slot (slot_in was its_marks s)) ≡ true
  slot_emptied s =
      let its = all.of_page page in
      let found : Option (List ℕ) = left (found_in was s) its_marks s in
      let fits = fits_swept_planes (found_in was s) its_marks s (length was.slots) its.wide (its.each s) in
      ap is_free (sym (slot_swept_planes (found_in was s) its_marks s (its.each s)))
      ∙ free_from found (swept_marks its_marks) s
      ∙ nothing found (bit (swept_marks its_marks).object s) (bit its_marks.moved s) fits.object
      (ap (λ b. b || bit its_marks.moved s) (object_bit its_marks s (length was.slots) its.wide) ∙ none s)
    where
      nothing : (found : Option (List ℕ)) (object moved : Bool) → object ≡ (is_some found && not moved) → (object || moved) ≡ false → is_none found ≡ true
      nothing None object moved f e = refl
      nothing (Some words) true moved f e = cc
      nothing (Some words) false true f e = cc
      nothing (Some words) false false f e = cc

  emptied : swept_page (page_from was its_marks) ≡ no_page
  emptied = page_emptied swept_slot refl (page_from was its_marks) (λ i. ap (λ s. is_free (swept_slot s)) (slot_read was its_marks i) ∙ slot_emptied i)

  pub swept_empty : SweepsPage v (with_spare_page v page) ms (set ms page (clear_marks 0)) page
  swept_empty = record {
    limit = refl;
    count = length-set v.pages page spare_page;
    pages = pages_set v ms page spare_page (clear_marks 0) here all ∙ ap (set (pages_from v ms) page) (sym emptied);
    unswept = unswept_set v ms page spare_page (clear_marks 0) here all refl;
    all = all_set v ms page spare_page (clear_marks 0) here all spare_marks;
  }

module _ (v : PoolsView) (ms : List Marks) (page : ℕ) (free : List Bool) (here : page < length v.pages) (all : AreAllMarks v ms)
    (bits : (s : ℕ) → bit free s ≡ (free_at v page s || bit (marks_at ms page).gone s)) where
  abbrev p : PageSlots
  p = page_at v page

  abbrev m : Marks
  m = marks_at ms page

  abbrev q : PageSlots
  q = freed_in p free

  abbrev n : Marks
  n = swept_marks m

  abbrev its : AreMarksOf p m
  its = all.of_page page

  found_left : (s : ℕ) → found_in q s ≡ left (found_in p s) m s
  found_left s = found_freed v page free m.gone bits s

  marks_freed : AreMarksOf q n
  marks_freed = record {
    wide = subst (AreWide n) (sym (length-freed_in p free)) (wide_swept_planes m (length p.slots) its.wide);
    each = λ s. subst (λ f. FitsSlot f n s) (sym (found_left s)) (fits_swept_planes (found_in p s) m s (length p.slots) its.wide (its.each s));
  }

  slots_freed : (page_from q n).slots ≡ map swept_slot (page_from p m).slots
  slots_freed =
      map_each (slot_in p m) swept_slot (slot_in q n) (λ s. ap (λ f. slot_from f n s) (found_left s) ∙ slot_swept_planes (found_in p s) m s (its.each s))
      (range_with_len 0 (length q.slots))
      ∙ ap (λ k. map swept_slot (map (slot_in p m) (range_with_len 0 k))) (length-freed_in p free)

  -- a page that isn't spare after its sweep
  pub swept_full : (s : ℕ) → (is_present m s || bit m.moved s) ≡ true → SweepsPage v (with_freed_page v page free) ms (set ms page n) page
  swept_full s e = record {
    limit = refl;
    count = length-set v.pages page q;
    pages = pages_set v ms page q n here all ∙ ap (set (pages_from v ms) page) (sym full);
    unswept = unswept_set v ms page q n here all (swept_freed p free);
    all = all_set v ms page q n here all marks_freed;
  }
    where
      full : swept_page (page_from p m) ≡ page_from q n
      full =
          ap (page_with_slots p.pool) (sym slots_freed)
          ∙ page_full p.pool (page_from q n).slots (page_used q n marks_freed s (ap (λ b. b || bit m.moved s) (object_bit m s (length p.slots) its.wide) ∙ e))
          ∙ (λ i. record { pool = sym (pool_freed p free) i; slots = (page_from q n).slots })

-- the view after the sweep of a page
pub swept_view : (v w : PoolsView) (ms ns : List Marks) (page : ℕ) (rest : Rest) (gone : ℕ) → SweepsPage v w ms ns page
    → gone ≡ count_by has_gone (page_in v ms page).slots
    → view_with w ns (record rest { counters = record rest.counters { freed = rest.counters.freed + gone } }) ≡ swept (view_with v ms rest) page
unfolding swept
swept_view v w ms ns page rest gone s is =
    let read : get_or (pages_from v ms) page no_page ≡ page_in v ms page = page_read v ms page in
    let pages : pages_from w ns ≡ set (pages_from v ms) page (swept_page (get_or (pages_from v ms) page no_page)) = s.pages
    ∙ ap (λ p. set (pages_from v ms) page (swept_page p)) (sym read) in
    let count : gone ≡ count_by has_gone (get_or (pages_from v ms) page no_page).slots = is ∙ ap (λ (p : PageView). count_by has_gone p.slots) (sym read) in
    λ i. record (view_with v ms rest) {
      limit = s.limit i;
      pages = pages i;
      unswept = s.unswept i;
      counters = record rest.counters { freed = rest.counters.freed + count i };
    }
