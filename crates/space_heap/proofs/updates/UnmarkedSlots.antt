-- The heap after all marks were taken away.
use Rattle.std.proofs.Common.{◌≡◌, ℕ, Bool, true, false, List, [], ◌∷◌, length, map, replicate, refl, sym, ap, ◌∙◌, subst, Option, None, Some}
use Rattle.std.specs.List.{range_with_len}
use Rattle.std.proofs.Math.ListN.{get_or-map, length-map}
use Rattle.std.proofs.lemmas.List.{length-replicate}
use Rattle.space_planes.specs.Planes.{bit}
use Rattle.space_planes.proofs.Bits.{bit-replicate}
use Rattle.space_pools.specs.PageSlots.{PageSlots, found_in}
use Rattle.space_pools.specs.PoolsView.{PoolsView, page_at}
use Rattle.space_heap.specs.declared.marks.Marks.{Marks}
use Rattle.space_heap.specs.declared.marks.Traits.{Traits}
use Rattle.space_heap.specs.declared.colour.Colour.TheVariants.{White}
use Rattle.space_heap.specs.Marking.{whitened, unmarked}
use Rattle.space_heap.specs.Slots.{map_slot}
use Rattle.space_heap.specs.HeapView.{map_page}
use Rattle.space_heap.specs.planes.RecolouredMarks.{unmarked_marks}
use Rattle.space_heap.specs.planes.MarkPlanes.{marks_at, clear_marks, AreWide, slot_from, used_from, traits_from, colour_from}
use Rattle.space_heap.specs.Inside.{slot_in, page_from, page_in, pages_from, Rest, view_with, AreMarksOf, AreAllMarks}

abbrev unmarked_traits : Traits → Traits
unmarked_traits t = record t { colour = White; remembered = false; kept = false }

traits_unmarked : (m : Marks) (s : ℕ) → traits_from (unmarked_marks m) s ≡ unmarked_traits (traits_from m s)
traits_unmarked m s = λ i. record (traits_from m s) {
  colour = colour_from (bit-replicate (length m.marked) s i) (bit (replicate (length m.black) false) s);
  remembered = bit-replicate (length m.remembered) s i;
  kept = bit-replicate (length m.kept) s i;
}

used_unmarked : (words : List ℕ) (moved : Bool) (t : Traits) → used_from words moved (unmarked_traits t) ≡ map_slot whitened (used_from words moved t)
used_unmarked words true t = refl
used_unmarked words false t = refl

slot_unmarked : (found : Option (List ℕ)) (m : Marks) (s : ℕ) → slot_from found (unmarked_marks m) s ≡ map_slot whitened (slot_from found m s)
slot_unmarked None m s = refl
slot_unmarked (Some words) m s = ap (used_from words (bit m.moved s)) (traits_unmarked m s) ∙ used_unmarked words (bit m.moved s) (traits_from m s)

-- a list of what each place gives, changed, is the list of what each place gives then
pub map_each : {X Y : Type 0} (f : ℕ → X) (g : X → Y) (h : ℕ → Y) → ((k : ℕ) → h k ≡ g (f k)) → (ks : List ℕ) → map h ks ≡ map g (map f ks)
map_each f g h each [] = refl
map_each f g h each (k ∷ ks) = λ i. each k i ∷ map_each f g h each ks i

page_unmarked : (p : PageSlots) (m : Marks) → page_from p (unmarked_marks m) ≡ map_page whitened (page_from p m)
page_unmarked p m = ap (λ slots. record { pool = p.pool; slots = slots }) (map_each (slot_in p m) (map_slot whitened) (slot_in p (unmarked_marks m))
    (λ s. slot_unmarked (found_in p s) m s) (range_with_len 0 (length p.slots)))

marks_unmarked : (ms : List Marks) (page : ℕ) → marks_at (map unmarked_marks ms) page ≡ unmarked_marks (marks_at ms page)
marks_unmarked ms page = get_or-map unmarked_marks ms page (clear_marks 0)

pages_unmarked : (v : PoolsView) (ms : List Marks) → pages_from v (map unmarked_marks ms) ≡ map (map_page whitened) (pages_from v ms)
pages_unmarked v ms = map_each (page_in v ms) (map_page whitened) (page_in v (map unmarked_marks ms))
    (λ k. ap (page_from (page_at v k)) (marks_unmarked ms k) ∙ page_unmarked (page_at v k) (marks_at ms k)) (range_with_len 0 (length v.pages))

pub unmarked_view : (v : PoolsView) (ms : List Marks) (rest : Rest)
    → view_with v (map unmarked_marks ms) (record rest { grey = [] }) ≡ unmarked (view_with v ms rest)
unfolding unmarked
unmarked_view v ms rest = λ i. record (view_with v ms rest) { pages = pages_unmarked v ms i; grey = [] }

unmarked_wide : (m : Marks) (n : ℕ) → AreWide m n → AreWide (unmarked_marks m) n
unmarked_wide m n h = record {
  object = h.object;
  moved = h.moved;
  guard = h.guard;
  marked = length-replicate (length m.marked) false ∙ h.marked;
  black = length-replicate (length m.black) false ∙ h.black;
  age_low = h.age_low;
  age_high = h.age_high;
  remembered = length-replicate (length m.remembered) false ∙ h.remembered;
  kept = length-replicate (length m.kept) false ∙ h.kept;
  pinned = h.pinned;
  gone = h.gone;
}

page_marks_unmarked : (p : PageSlots) (m : Marks) → AreMarksOf p m → AreMarksOf p (unmarked_marks m)
page_marks_unmarked p m h = record {
  wide = unmarked_wide m (length p.slots) h.wide;
  each = λ s. let f = h.each s in record { object = f.object; moved = f.moved; words = f.words; gone = f.gone };
}

pub unmarked_all : (v : PoolsView) (ms : List Marks) → AreAllMarks v ms → AreAllMarks v (map unmarked_marks ms)
unmarked_all v ms all = record {
  all = length-map ms unmarked_marks ∙ all.all;
  of_page = λ page. subst (AreMarksOf (page_at v page)) (sym (marks_unmarked ms page))
      (page_marks_unmarked (page_at v page) (marks_at ms page) (all.of_page page));
}
