-- The planes and the pools of a page after the moves of a compaction ended.
use Rattle.std.proofs.Common.{◌≡◌, ◌≢◌, ℕ, ◌<◌, Bool, true, false, true≢false, not, ◌&&◌, ◌||◌, cond, List, length, map, set, refl, sym, ap, ◌∙◌, subst, Option, None, Some}
use Rattle.std.specs.Prelude.{is_some}
use Rattle.std.specs.List.{range_with_len}
use Rattle.std.proofs.lemmas.List.{length-set, length-replicate}
use Rattle.space_planes.specs.Planes.{bit}
use Rattle.space_planes.proofs.Bits.{bit-replicate}
use Rattle.space_pools.specs.PageSlots.{PageSlots, spare_page, found_in, freed_in}
use Rattle.space_pools.specs.PoolsView.{PoolsView, page_at, free_at, with_freed_page, with_spare_page}
use Rattle.space_pools.proofs.PoolLaws.{page_at-with_page_same, page_at-with_page_other}
use Rattle.space_pools.proofs.Freed.{pool_freed, swept_freed, length-freed_in}
use Rattle.space_heap.specs.declared.marks.Marks.{Marks}
use Rattle.space_heap.specs.Slots.{Free, is_free}
use Rattle.space_heap.specs.HeapView.{no_page}
use Rattle.space_heap.specs.planes.MarkPlanes.{marks_at, clear_marks, AreWide, slot_from, used_from, traits_from}
use Rattle.space_heap.specs.Sweeping.{page_with_slots}
use Rattle.space_heap.specs.Relocation.{ended_slot, ended_page}
use Rattle.space_heap.specs.planes.MovedMarks.{ended_marks, EndsPage}
use Rattle.space_heap.specs.Inside.{slot_in, page_from, pages_from, FitsSlot, AreMarksOf, AreAllMarks}
use Rattle.space_heap.proofs.fields.Views.{slot_read}
use Rattle.space_heap.proofs.updates.UnmarkedSlots.{map_each}
use Rattle.space_heap.proofs.SweptLaws.{page_full}
use Rattle.space_heap.proofs.updates.SweptSlots.{pages_set, all_set, spare_marks, page_emptied, page_used, found_freed}

-- what is found in a slot after the slots that objects left are free
abbrev left : Option (List ℕ) → Marks → ℕ → Option (List ℕ)
left found m s = cond (bit m.moved s) None found

-- no slot is one that an object left
none_moved : (m : Marks) (s : ℕ) → bit (ended_marks m).moved s ≡ false
none_moved m s = bit-replicate (length m.moved) s

-- a slot after the moves ended
slot_ended : (found : Option (List ℕ)) (m : Marks) (s : ℕ) → slot_from (left found m s) (ended_marks m) s ≡ ended_slot (slot_from found m s)
slot_ended None m s = none (bit m.moved s)
  where
    none : (b : Bool) → slot_from (cond b None None) (ended_marks m) s ≡ Free
    none true = refl
    none false = refl
slot_ended (Some words) m s = by (bit m.moved s)
  where
    by : (b : Bool) → slot_from (cond b None (Some words)) (ended_marks m) s ≡ ended_slot (used_from words b (traits_from m s))
    by true = refl
    by false = ap (λ b. used_from words b (traits_from m s)) (none_moved m s)

fits_ended : (found : Option (List ℕ)) (m : Marks) (s : ℕ) → FitsSlot found m s → FitsSlot (left found m s) (ended_marks m) s
fits_ended found m s f = record {
  object = f.object ∙ by (bit m.moved s) ∙ ap (λ b. is_some (left found m s) && not b) (sym (none_moved m s));
  moved = λ e. absurd (true≢false (sym e ∙ none_moved m s));
  words = λ words e stays. let p = kept (bit m.moved s) found words e in f.words words p.1 p.0;
  gone = f.gone;
}
  where
    by : (b : Bool) → (is_some found && not b) ≡ (is_some (cond b None found) && not false)
    by true = nothing (is_some found)
      where
        nothing : (b : Bool) → (b && false) ≡ false
        nothing true = refl
        nothing false = refl
    by false = refl

    kept : (b : Bool) (found : Option (List ℕ)) (words : List ℕ) → cond b None found ≡ Some words → (b ≡ false) × (found ≡ Some words)
    kept true found words e = absurd (none_some words e)
      where
        none_some : (words : List ℕ) → None ≡ Some words → ⊥
        none_some words e = cc
    kept false found words e = (refl, e)

wide_ended : (m : Marks) (k : ℕ) → AreWide m k → AreWide (ended_marks m) k
wide_ended m k w = record {
  object = w.object;
  moved = length-replicate (length m.moved) false ∙ w.moved;
  guard = w.guard;
  marked = w.marked;
  black = w.black;
  age_low = w.age_low;
  age_high = w.age_high;
  remembered = w.remembered;
  kept = w.kept;
  pinned = w.pinned;
  gone = w.gone;
}

-- a page without an object is spare then
module _ (v : PoolsView) (ms : List Marks) (page : ℕ) (here : page < length v.pages) (all : AreAllMarks v ms)
    (none : (s : ℕ) → bit (marks_at ms page).object s ≡ false) where
  abbrev was : PageSlots
  was = page_at v page

  abbrev its_marks : Marks
  its_marks = marks_at ms page

  slot_emptied : (s : ℕ) → is_free (ended_slot (slot_in was its_marks s)) ≡ true
  slot_emptied s = nothing (found_in was s) (bit its_marks.moved s) (sym ((all.of_page page).each s).object ∙ none s) refl
    where
      nothing : (found : Option (List ℕ)) (moved : Bool) → (is_some found && not moved) ≡ false → bit its_marks.moved s ≡ moved
          → is_free (ended_slot (slot_from found its_marks s)) ≡ true
      nothing None moved e is = refl
      nothing (Some words) true e is = ap (λ b. is_free (ended_slot (used_from words b (traits_from its_marks s)))) is
      nothing (Some words) false e is = absurd (true≢false e)

  emptied : ended_page (page_from was its_marks) ≡ no_page
  emptied = page_emptied ended_slot refl (page_from was its_marks) (λ i. ap (λ s. is_free (ended_slot s)) (slot_read was its_marks i) ∙ slot_emptied i)

  pub ended_empty : EndsPage v (with_spare_page v page) ms (set ms page (clear_marks 0)) page
  ended_empty = record {
    limit = refl;
    count = length-set v.pages page spare_page;
    pages = pages_set v ms page spare_page (clear_marks 0) here all ∙ ap (set (pages_from v ms) page) (sym emptied);
    swept = ap (λ (x : PageSlots). x.unswept) (page_at-with_page_same v page spare_page here);
    others = λ k differ. ap (λ (x : PageSlots). x.unswept) (page_at-with_page_other v page k spare_page differ);
    all = all_set v ms page spare_page (clear_marks 0) here all spare_marks;
  }

-- and one with an object keeps its pool
module _ (v : PoolsView) (ms : List Marks) (page : ℕ) (free : List Bool) (here : page < length v.pages) (all : AreAllMarks v ms)
    (bits : (s : ℕ) → bit free s ≡ (free_at v page s || bit (marks_at ms page).moved s)) where
  abbrev p : PageSlots
  p = page_at v page

  abbrev m : Marks
  m = marks_at ms page

  abbrev q : PageSlots
  q = freed_in p free

  abbrev n : Marks
  n = ended_marks m

  abbrev its : AreMarksOf p m
  its = all.of_page page

  found_left : (s : ℕ) → found_in q s ≡ left (found_in p s) m s
  found_left s = found_freed v page free m.moved bits s

  marks_freed : AreMarksOf q n
  marks_freed = record {
    wide = subst (AreWide n) (sym (length-freed_in p free)) (wide_ended m (length p.slots) its.wide);
    each = λ s. subst (λ f. FitsSlot f n s) (sym (found_left s)) (fits_ended (found_in p s) m s (its.each s));
  }

  slots_freed : (page_from q n).slots ≡ map ended_slot (page_from p m).slots
  slots_freed =
      map_each (slot_in p m) ended_slot (slot_in q n) (λ s. ap (λ f. slot_from f n s) (found_left s) ∙ slot_ended (found_in p s) m s)
      (range_with_len 0 (length q.slots))
      ∙ ap (λ k. map ended_slot (map (slot_in p m) (range_with_len 0 k))) (length-freed_in p free)

  pub ended_full : (s : ℕ) → bit m.object s ≡ true → EndsPage v (with_freed_page v page free) ms (set ms page n) page
  ended_full s e = record {
    limit = refl;
    count = length-set v.pages page q;
    pages = pages_set v ms page q n here all ∙ ap (set (pages_from v ms) page) (sym full);
    swept = ap (λ (x : PageSlots). x.unswept) (page_at-with_page_same v page q here) ∙ swept_freed p free;
    others = λ k differ. ap (λ (x : PageSlots). x.unswept) (page_at-with_page_other v page k q differ);
    all = all_set v ms page q n here all marks_freed;
  }
    where
      full : ended_page (page_from p m) ≡ page_from q n
      full =
          ap (page_with_slots p.pool) (sym slots_freed)
          ∙ page_full p.pool (page_from q n).slots (page_used q n marks_freed s (ap (λ b. b || bit n.moved s) e))
          ∙ (λ i. record { pool = sym (pool_freed p free) i; slots = (page_from q n).slots })
