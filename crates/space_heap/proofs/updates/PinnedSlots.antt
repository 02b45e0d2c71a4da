-- The heap after an object was pinned, and after all pins were taken away.
use Rattle.std.proofs.Common.{◌≡◌, ℕ, ◌<◌, Bool, true, false, List, length, map, refl, sym, ap, ◌∙◌, subst, arith, Option, None, Some}
use Rattle.std.specs.List.{range_with_len}
use Rattle.std.proofs.Math.ListN.{get_or-map, length-map}
use Rattle.std.proofs.lemmas.List.{length-set, length-replicate}
use Rattle.space_planes.specs.Planes.{bit}
use Rattle.space_planes.proofs.Bits.{bit-set_same, bit-set_other, bit-replicate}
use Rattle.space_pools.specs.PageSlots.{PageSlots, found_in}
use Rattle.space_pools.specs.PoolsView.{PoolsView, page_at}
use Rattle.space_heap.specs.declared.marks.Marks.{Marks}
use Rattle.space_heap.specs.declared.marks.Traits.{Traits}
use Rattle.space_heap.specs.Slots.{map_slot}
use Rattle.space_heap.specs.HeapView.{map_page}
use Rattle.space_heap.specs.Relocation.{pinned_object, unpinned_object, unpinned}
use Rattle.space_heap.specs.planes.MarkPlanes.{marks_at, clear_marks, AreWide, slot_from, used_from, traits_from, object_from}
use Rattle.space_heap.specs.planes.PinnedMarks.{pinned_marks, unpinned_marks}
use Rattle.space_heap.specs.Inside.{slot_in, page_from, page_in, pages_from, Rest, view_with, AreMarksOf, AreAllMarks}
use Rattle.space_heap.proofs.updates.NotedSlots.{Notes}
use Rattle.space_heap.proofs.updates.UnmarkedSlots.{map_each}

pub notes_pinned : (m : Marks) (s : ℕ) → s < length m.object → AreWide m (length m.object) → Notes m (pinned_marks m s) s pinned_object
notes_pinned m s within w = record {
  wide = λ k h. record {
    object = h.object;
    moved = h.moved;
    guard = h.guard;
    marked = h.marked;
    black = h.black;
    age_low = h.age_low;
    age_high = h.age_high;
    remembered = h.remembered;
    kept = h.kept;
    pinned = length-set m.pinned s true ∙ h.pinned;
    gone = h.gone;
  };
  object = refl;
  moved = refl;
  gone = refl;
  others = λ t differ. λ i. record (traits_from m t) { pinned = bit-set_other m.pinned s t true differ i };
  here = λ words.
      let l = w.pinned in
      ap (λ b. object_from words (record (traits_from m s) { pinned = b })) (bit-set_same m.pinned s true (omega arith));
}

abbrev unpinned_traits : Traits → Traits
unpinned_traits t = record t { pinned = false }

traits_unpinned : (m : Marks) (s : ℕ) → traits_from (unpinned_marks m) s ≡ unpinned_traits (traits_from m s)
traits_unpinned m s = λ i. record (traits_from m s) { pinned = bit-replicate (length m.pinned) s i }

used_unpinned : (words : List ℕ) (moved : Bool) (t : Traits)
    → used_from words moved (unpinned_traits t) ≡ map_slot unpinned_object (used_from words moved t)
used_unpinned words true t = refl
used_unpinned words false t = refl

slot_unpinned : (found : Option (List ℕ)) (m : Marks) (s : ℕ) → slot_from found (unpinned_marks m) s ≡ map_slot unpinned_object (slot_from found m s)
slot_unpinned None m s = refl
slot_unpinned (Some words) m s = ap (used_from words (bit m.moved s)) (traits_unpinned m s) ∙ used_unpinned words (bit m.moved s) (traits_from m s)

page_unpinned : (p : PageSlots) (m : Marks) → page_from p (unpinned_marks m) ≡ map_page unpinned_object (page_from p m)
page_unpinned p m = ap (λ slots. record { pool = p.pool; slots = slots }) (map_each (slot_in p m) (map_slot unpinned_object) (slot_in p (unpinned_marks m))
    (λ s. slot_unpinned (found_in p s) m s) (range_with_len 0 (length p.slots)))

marks_unpinned : (ms : List Marks) (page : ℕ) → marks_at (map unpinned_marks ms) page ≡ unpinned_marks (marks_at ms page)
marks_unpinned ms page = get_or-map unpinned_marks ms page (clear_marks 0)

pages_unpinned : (v : PoolsView) (ms : List Marks) → pages_from v (map unpinned_marks ms) ≡ map (map_page unpinned_object) (pages_from v ms)
pages_unpinned v ms = map_each (page_in v ms) (map_page unpinned_object) (page_in v (map unpinned_marks ms))
    (λ k. ap (page_from (page_at v k)) (marks_unpinned ms k) ∙ page_unpinned (page_at v k) (marks_at ms k)) (range_with_len 0 (length v.pages))

pub unpinned_view : (v : PoolsView) (ms : List Marks) (rest : Rest) → view_with v (map unpinned_marks ms) rest ≡ unpinned (view_with v ms rest)
unfolding unpinned
unpinned_view v ms rest = λ i. record (view_with v ms rest) { pages = pages_unpinned v ms i }

unpinned_wide : (m : Marks) (n : ℕ) → AreWide m n → AreWide (unpinned_marks m) n
unpinned_wide m n h = record {
  object = h.object;
  moved = h.moved;
  guard = h.guard;
  marked = h.marked;
  black = h.black;
  age_low = h.age_low;
  age_high = h.age_high;
  remembered = h.remembered;
  kept = h.kept;
  pinned = length-replicate (length m.pinned) false ∙ h.pinned;
  gone = h.gone;
}

page_marks_unpinned : (p : PageSlots) (m : Marks) → AreMarksOf p m → AreMarksOf p (unpinned_marks m)
page_marks_unpinned p m h = record {
  wide = unpinned_wide m (length p.slots) h.wide;
  each = λ s. let f = h.each s in record { object = f.object; moved = f.moved; words = f.words; gone = f.gone };
}

pub unpinned_all : (v : PoolsView) (ms : List Marks) → AreAllMarks v ms → AreAllMarks v (map unpinned_marks ms)
unpinned_all v ms all = record {
  all = length-map ms unpinned_marks ∙ all.all;
  of_page = λ page. subst (AreMarksOf (page_at v page)) (sym (marks_unpinned ms page))
      (page_marks_unpinned (page_at v page) (marks_at ms page) (all.of_page page));
}
