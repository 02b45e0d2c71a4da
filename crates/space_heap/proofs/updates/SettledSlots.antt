-- The heap after a verdict, and in another phase.
use Rattle.std.proofs.Common.{◌≡◌, ℕ, Bool, true, false, not, ◌&&◌, List, [], ◌∷◌, length, map, refl, sym, ap, ◌∙◌, subst, nat_eq, if◌then◌else◌, Option, None, Some}
use Rattle.std.specs.Prelude.{is_some}
use Rattle.std.specs.List.{range_with_len, filter}
use Rattle.std.specs.Set.{is_member}
use Rattle.space_model.specs.declared.event.Kind.{Kind}
use Rattle.space_model.specs.declared.phase.Phase.{Phase}
use Rattle.space_model.specs.declared.phase.Phase.TheVariants.{Idle, Sweeping}
use Rattle.space_planes.specs.Planes.{bit, set_in_first_only}
use Rattle.space_planes.proofs.Bits.{bit-set_in_first_only, length-set_in_first_only}
use Rattle.space_pools.specs.PageSlots.{PageSlots, found_in}
use Rattle.space_pools.specs.PoolsView.{PoolsView, page_at, pool_at, unswept_at}
use Rattle.space_heap.specs.declared.marks.Marks.{Marks}
use Rattle.space_heap.specs.Slots.{map_slot}
use Rattle.space_heap.specs.HeapView.{HeapView, pool_at as view_pool, slot_at, is_slot, map_page}
use Rattle.space_heap.specs.Objects.{object_of, is_object}
use Rattle.space_heap.specs.planes.MarkPlanes.{marks_at, AreWide, slot_from, used_from, traits_from, colour_from, guard_from, age_from}
use Rattle.space_heap.specs.Marking.{IsCoherent}
use Rattle.space_heap.specs.Generations.{raised_age}
use Rattle.space_heap.specs.Sweeping.{is_white, settled_object, pooled_pages, phase_with, minors_after, others_after, settled}
use Rattle.space_heap.specs.planes.SweptPlanes.{IsSettled, HoldsPages, HasNoPooled}
use Rattle.space_heap.specs.Inside.{slot_in, page_from, page_in, pages_from, unswept_in, Rest, view_with, FitsSlot, AreMarksOf, AreAllMarks}
use Rattle.space_heap.proofs.fields.Views.{length-pages_from, pool_read}
use Rattle.space_heap.proofs.fields.Unswept.{same_filter}
use Rattle.std.proofs.lemmas.Bool.{cond-false}
use Rattle.space_heap.proofs.SettledLaws.{pooled_read}
use Rattle.space_heap.proofs.Coherence.{coherent_same}
use Rattle.space_heap.proofs.updates.UnmarkedSlots.{map_each}

-- another phase changes no object
pub coherent_phase : (v : HeapView) (phase : Phase) → IsCoherent v → IsCoherent (record v { phase = phase })
unfolding object_of is_object slot_at is_slot
coherent_phase v phase c = coherent_same v (record v { phase = phase }) refl (λ a. refl) (λ a is. is) c

pub ruleset phases = (coherent_phase)

abbrev white_by : Bool → Bool → Bool
white_by marked black = is_white (colour_from marked black)

white_not : (marked black : Bool) → white_by marked black ≡ not marked
white_not true true = refl
white_not true false = refl
white_not false black = refl

by_colour : (marked black : Bool) (stays raised : ℕ) → (if marked then raised else stays) ≡ (if white_by marked black then stays else raised)
by_colour true true stays raised = refl
by_colour true false stays raised = refl
by_colour false black stays raised = refl

-- a slot with the planes of a verdict
slot_settled : (found : Option (List ℕ)) (m n : Marks) (s k : ℕ) → AreWide m k → FitsSlot found m s → IsSettled m n
    → slot_from found n s ≡ map_slot settled_object (slot_from found m s)
slot_settled None m n s k wide f h = refl
slot_settled (Some words) m n s k wide f h = ap (λ n. slot_from (Some words) n s) h.others ∙ by_moved (bit m.moved s) f.object
  where
    gone_is : bit m.object s ≡ true → bit (set_in_first_only m.object m.marked) s ≡ white_by (bit m.marked s) (bit m.black s)
    gone_is object =
        bit-set_in_first_only m.object m.marked s (wide.object ∙ sym wide.marked)
        ∙ ap (λ b. b && not (bit m.marked s)) object
        ∙ sym (white_not (bit m.marked s) (bit m.black s))

    age_is : age_from (bit n.age_low s) (bit n.age_high s) ≡ (if white_by (bit m.marked s) (bit m.black s)
        then age_from (bit m.age_low s) (bit m.age_high s)
        else raised_age (guard_from (bit m.guard s)) (age_from (bit m.age_low s) (bit m.age_high s)))
    age_is = h.ages s ∙ by_colour (bit m.marked s) (bit m.black s) _ _

    by_moved : (moved : Bool) → bit m.object s ≡ (true && not moved)
        → used_from words moved (record (traits_from m s) {
          age = age_from (bit n.age_low s) (bit n.age_high s);
          gone = bit (set_in_first_only m.object m.marked) s;
        }) ≡ map_slot settled_object (used_from words moved (traits_from m s))
    by_moved true object = refl
    by_moved false object = λ i. used_from words false (record (traits_from m s) { age = age_is i; gone = gone_is object i })

page_settled : (p : PageSlots) (m n : Marks) → AreMarksOf p m → IsSettled m n → page_from p n ≡ map_page settled_object (page_from p m)
page_settled p m n h i = ap (λ slots. record { pool = p.pool; slots = slots }) (map_each (slot_in p m) (map_slot settled_object) (slot_in p n)
    (λ s. slot_settled (found_in p s) m n s (length p.slots) h.wide (h.each s) i) (range_with_len 0 (length p.slots)))

abbrev settled_marks : Marks → Marks → Marks
settled_marks m n = record m { age_low = n.age_low; age_high = n.age_high; gone = set_in_first_only m.object m.marked }

page_marks_settled : (p : PageSlots) (m n : Marks) → AreMarksOf p m → IsSettled m n → AreMarksOf p n
page_marks_settled p m n h i = subst (AreMarksOf p) (sym i.others) settles
  where
    first_of : (a b : Bool) → (a && b) ≡ true → a ≡ true
    first_of true b e = refl
    first_of false b e = e

    settles : AreMarksOf p (settled_marks m n)
    settles = record {
      wide =
          let w = h.wide in
          record {
            object = w.object;
            moved = w.moved;
            guard = w.guard;
            marked = w.marked;
            black = w.black;
            age_low = i.low ∙ w.age_low;
            age_high = i.high ∙ w.age_high;
            remembered = w.remembered;
            kept = w.kept;
            pinned = w.pinned;
            gone = length-set_in_first_only m.object m.marked (w.object ∙ sym w.marked) ∙ w.object;
          };
      each = λ s.
          let f = h.each s in
          record {
            object = f.object;
            moved = f.moved;
            words = f.words;
            gone = λ e. first_of (bit m.object s) (not (bit m.marked s)) (sym (bit-set_in_first_only m.object m.marked s (h.wide.object ∙ sym h.wide.marked)) ∙ e);
          };
    }

not_none : (xs : List ℕ) (k : ℕ) → is_member nat_eq xs k ≡ true → Sweeping ≡ phase_with xs
not_none [] k m = cc
not_none (x ∷ xs) k m = refl

-- a test that leaves all out leaves nothing
none_left : (test : ℕ → Bool) (xs : List ℕ) → ((k : ℕ) → test k ≡ false) → filter test xs ≡ []
none_left test [] out = refl
none_left test (x ∷ xs) out = cond-false (test x) (x ∷ filter test xs) (filter test xs) (out x) ∙ none_left test xs out

module _ (v w : PoolsView) (ms ns : List Marks) (held : HoldsPages v w) (long : length ns ≡ length ms)
    (each : (k : ℕ) → IsSettled (marks_at ms k) (marks_at ns k)) (all : AreAllMarks v ms) where
  pub settled_all : AreAllMarks w ns
  settled_all = record {
    all = long ∙ all.all ∙ sym held.count;
    of_page = λ k. subst (λ p. AreMarksOf p (marks_at ns k)) (sym (held.each k))
        (let h = page_marks_settled (page_at v k) (marks_at ms k) (marks_at ns k) (all.of_page k) (each k) in record { wide = h.wide; each = h.each });
  }

  settled_pages : pages_from w ns ≡ map (map_page settled_object) (pages_from v ms)
  settled_pages =
      map_each (page_in v ms) (map_page settled_object) (page_in w ns)
      (λ k. ap (λ p. page_from p (marks_at ns k)) (held.each k)
      ∙ page_settled (page_at v k) (marks_at ms k) (marks_at ns k) (all.of_page k) (each k))
      (range_with_len 0 (length w.pages))
      ∙ ap (λ n. map (map_page settled_object) (map (page_in v ms) (range_with_len 0 n))) held.count

  module _ (rest : Rest) (kind : Kind) where
    abbrev h : HeapView
    h = view_with v ms rest

    waiting : unswept_in w ≡ pooled_pages h
    waiting =
        same_filter (unswept_at w) (λ k. is_some (view_pool h k)) (range_with_len 0 (length w.pages))
        (λ k. ap (λ (p : PageSlots). p.unswept) (held.each k) ∙ ap is_some (sym (pool_read v ms k)))
        ∙ ap (λ n. filter (λ k. is_some (view_pool h k)) (range_with_len 0 n)) (held.count ∙ sym (length-pages_from v ms))

    abbrev rest_after : Phase → Rest
    rest_after phase = record rest {
      phase = phase;
      counters = record rest.counters {
        minor_verdicts = minors_after kind rest.counters.minor_verdicts;
        other_verdicts =
            others_after kind rest.counters.other_verdicts;
      };
    }

    pub settled_view : (phase : Phase) → phase ≡ phase_with (pooled_pages h) → view_with w ns (rest_after phase) ≡ settled h kind
    unfolding settled
    settled_view phase is = λ i. record (view_with v ms (rest_after (is i))) { limit = held.limit i; pages = settled_pages i; unswept = waiting i }

    -- the phase by whether a page has a pool
    pub some_phase : (k : ℕ) → is_some (pool_at v k) ≡ true → Sweeping ≡ phase_with (pooled_pages h)
    some_phase k has = not_none (pooled_pages h) k (pooled_read h k ∙ ap is_some (pool_read v ms k) ∙ has)

    pub none_phase : HasNoPooled v → Idle ≡ phase_with (pooled_pages h)
    none_phase none = ap phase_with (sym (none_left (λ k. is_some (view_pool h k)) (range_with_len 0 (length h.pages))
        (λ k. ap is_some (pool_read v ms k) ∙ none k)))
