-- The heap as a minor marking begins.
use Rattle.std.proofs.Common.{◌≡◌, ℕ, Bool, true, false, not, ◌&&◌, ◌||◌, nat_le, List, [], length, map, refl, sym, ap, ◌∙◌, subst, if◌then◌else◌, Option, None, Some}
use Rattle.std.specs.List.{range_with_len}
use Rattle.space_model.specs.Ages.{is_protected_guard}
use Rattle.space_planes.specs.Planes.{bit, set_in_both, set_in_first_only}
use Rattle.space_planes.proofs.Bits.{bit-set_in_both, bit-set_in_either, bit-set_in_first_only, length-set_in_both, length-set_in_either, length-set_in_first_only}
use Rattle.space_pools.specs.PageSlots.{PageSlots, found_in}
use Rattle.space_pools.specs.PoolsView.{PoolsView, page_at}
use Rattle.space_heap.specs.declared.marks.Marks.{Marks}
use Rattle.space_heap.specs.declared.marks.Traits.{Traits}
use Rattle.space_heap.specs.declared.colour.Colour.TheVariants.{White, Black}
use Rattle.space_heap.specs.Generations.{old_marked_object, old_marked}
use Rattle.space_heap.specs.Slots.{map_slot}
use Rattle.space_heap.specs.HeapView.{map_page}
use Rattle.space_heap.specs.planes.RecolouredMarks.{old_or_kept, old_marked_marks}
use Rattle.space_heap.specs.planes.MarkPlanes.{marks_at, AreWide, slot_from, used_from, traits_from, colour_from, guard_from, age_from}
use Rattle.space_heap.specs.Inside.{slot_in, page_from, page_in, pages_from, Rest, view_with, AreMarksOf, AreAllMarks}
use Rattle.space_heap.proofs.updates.UnmarkedSlots.{map_each}

abbrev old_marked_traits : Traits → Traits
old_marked_traits t = record t { colour = if (is_protected_guard t.guard && nat_le 3 t.age) || t.kept then Black else White }

pub old_by : (unprotected low high : Bool) → (is_protected_guard (guard_from unprotected) && nat_le 3 (age_from low high)) ≡ ((low && high) && not unprotected)
old_by true true true = refl
old_by true true false = refl
old_by true false high = refl
old_by false true true = refl
old_by false true false = refl
old_by false false true = refl
old_by false false false = refl

colour_by : (b : Bool) → colour_from b b ≡ (if b then Black else White)
colour_by true = refl
colour_by false = refl

-- the planes that it is made of have the same length
module _ (m : Marks) (k : ℕ) (w : AreWide m k) where
  long_aged : length (set_in_both m.age_low m.age_high) ≡ k
  long_aged = length-set_in_both m.age_low m.age_high (w.age_low ∙ sym w.age_high) ∙ w.age_low

  long_old : length (set_in_first_only (set_in_both m.age_low m.age_high) m.guard) ≡ k
  long_old = length-set_in_first_only (set_in_both m.age_low m.age_high) m.guard (long_aged ∙ sym w.guard) ∙ long_aged

  long_old_or_kept : length (old_or_kept m) ≡ k
  long_old_or_kept = length-set_in_either (set_in_first_only (set_in_both m.age_low m.age_high) m.guard) m.kept (long_old ∙ sym w.kept) ∙ long_old

  bit_old_or_kept : (s : ℕ) → bit (old_or_kept m) s
      ≡ ((is_protected_guard (guard_from (bit m.guard s)) && nat_le 3 (age_from (bit m.age_low s) (bit m.age_high s))) || bit m.kept s)
  bit_old_or_kept s =
      bit-set_in_either (set_in_first_only (set_in_both m.age_low m.age_high) m.guard) m.kept s (long_old ∙ sym w.kept)
      ∙ ap (λ b. b || bit m.kept s) (bit-set_in_first_only (set_in_both m.age_low m.age_high) m.guard s (long_aged ∙ sym w.guard)
      ∙ ap (λ b. b && not (bit m.guard s)) (bit-set_in_both m.age_low m.age_high s (w.age_low ∙ sym w.age_high))
      ∙ sym (old_by (bit m.guard s) (bit m.age_low s) (bit m.age_high s)))

traits_old_marked : (m : Marks) (s k : ℕ) → AreWide m k → traits_from (old_marked_marks m) s ≡ old_marked_traits (traits_from m s)
traits_old_marked m s k w = ap (λ c. record (traits_from m s) { colour = c }) (colour_by (bit (old_or_kept m) s)
    ∙ ap (λ b. if b then Black else White) (bit_old_or_kept m k w s))

used_old_marked : (words : List ℕ) (moved : Bool) (t : Traits) → used_from words moved (old_marked_traits t) ≡ map_slot old_marked_object (used_from words moved t)
used_old_marked words true t = refl
used_old_marked words false t = refl

slot_old_marked : (found : Option (List ℕ)) (m : Marks) (s k : ℕ) → AreWide m k
    → slot_from found (old_marked_marks m) s ≡ map_slot old_marked_object (slot_from found m s)
slot_old_marked None m s k w = refl
slot_old_marked (Some words) m s k w = ap (used_from words (bit m.moved s)) (traits_old_marked m s k w)
    ∙ used_old_marked words (bit m.moved s) (traits_from m s)

page_old_marked : (p : PageSlots) (m : Marks) → AreMarksOf p m → page_from p (old_marked_marks m) ≡ map_page old_marked_object (page_from p m)
page_old_marked p m h = ap (λ slots. record { pool = p.pool; slots = slots }) (map_each (slot_in p m) (map_slot old_marked_object)
    (slot_in p (old_marked_marks m)) (λ s. slot_old_marked (found_in p s) m s (length p.slots) h.wide) (range_with_len 0 (length p.slots)))

page_marks_old_marked : (p : PageSlots) (m : Marks) → AreMarksOf p m → AreMarksOf p (old_marked_marks m)
page_marks_old_marked p m h =
    let w = h.wide in
    let long = long_old_or_kept m (length p.slots) w in
    record {
      wide = record {
        object = w.object;
        moved = w.moved;
        guard = w.guard;
        marked = long;
        black = long;
        age_low = w.age_low;
        age_high = w.age_high;
        remembered = w.remembered;
        kept = w.kept;
        pinned = w.pinned;
        gone = w.gone;
      };
      each = λ s. let f = h.each s in record { object = f.object; moved = f.moved; words = f.words; gone = f.gone };
    }

module _ (v : PoolsView) (ms ns : List Marks) (long : length ns ≡ length ms) (each : (k : ℕ) → marks_at ns k ≡ old_marked_marks (marks_at ms k))
    (all : AreAllMarks v ms) where
  pub old_marked_all : AreAllMarks v ns
  old_marked_all = record {
    all = long ∙ all.all;
    of_page = λ k. subst (AreMarksOf (page_at v k)) (sym (each k)) (page_marks_old_marked (page_at v k) (marks_at ms k) (all.of_page k));
  }

  old_marked_pages : pages_from v ns ≡ map (map_page old_marked_object) (pages_from v ms)
  old_marked_pages = map_each (page_in v ms) (map_page old_marked_object) (page_in v ns)
      (λ k. ap (page_from (page_at v k)) (each k) ∙ page_old_marked (page_at v k) (marks_at ms k) (all.of_page k)) (range_with_len 0 (length v.pages))

  pub old_marked_view : (rest : Rest) → view_with v ns (record rest { grey = [] }) ≡ old_marked (view_with v ms rest)
  unfolding old_marked
  old_marked_view rest = λ i. record (view_with v ms rest) { pages = old_marked_pages i; grey = [] }
