-- Moves one after another: what they leave as it was, and that each leaves a slot of its own.
use Rattle.std.proofs.Common.{◌≡◌, ⊎_elim, ℕ, zero, suc, ◌+◌, ◌*◌, ◌%◌, ◌<◌, ◌≤◌, true, false, true≢false, List, [], ◌∷◌, ◌++◌, length, nat_eq, refl, sym, ap, ◌∙◌, subst, arith, Option, None, Some}
use Rattle.std.specs.List.{IsDistinct}
use Rattle.std.specs.Set.{is_member}
use Rattle.std.specs.Cmp.{nat_eq_equiv}
use Rattle.std.proofs.lemmas.Bool.{cases_Bool, cases_eq}
use Rattle.std.proofs.lemmas.Bool.Decides.{nat_tests}
use Rattle.std.proofs.lemmas.List.{length_push}
use Rattle.std.proofs.lemmas.Map.Keys.{IsDistinct-push}
use Rattle.space_model.specs.declared.event.Event.{Event}
use Rattle.space_model.specs.declared.event.Event.TheVariants.{Moved as MovedEvent}
use Rattle.space_model.specs.Layout.{slot_bytes, page_slots, page_of}
use Rattle.space_heap.specs.Slots.{SlotView, Free, Moved as MovedSlot, Object, has_present, has_moved}
use Rattle.space_heap.specs.HeapView.{Counters, HeapView, page_at, pool_at, bytes_of, page_with, slot_number, is_slot, slot_at}
use Rattle.space_heap.specs.Objects.{is_object, is_moved}
use Rattle.space_heap.specs.FreeSlots.{IsFreeAt}
use Rattle.space_heap.specs.SoundHeap.{IsSoundHeap}
use Rattle.space_heap.specs.Relocation.{relocated}
use Rattle.space_heap.proofs.Laws.{start_of, page_in_heap, slot_at_none}
use Rattle.space_heap.proofs.NumberLists.{is_member-push, few_places}
use Rattle.space_heap.proofs.ObjectLaws.{free_parts}
use Rattle.space_heap.proofs.RelocationLaws as laws
use Rattle.space_compact.specs.declared.moving.Moved.{Moved}
use Rattle.space_compact.specs.Moves.{Moves}
use Rattle.space_compact.proofs.Movable.{movable_parts}
use Rattle.space_collector.specs.HeapMoves.{MovesTold, KeepsBut}

-- one move
module _ (v w : HeapView) (m : Moved) (h : Moves v w m) where
  pub moving_object : is_object v m.from ≡ true
  moving_object = (movable_parts v h.pool m.from h.next.its.is).object

  pub target_free : IsFreeAt v h.pool m.to
  target_free = h.next.its.least.free

  pub keeps_one : KeepsBut v w 1
  keeps_one = record {
    counters = ap (λ (u : HeapView). u.counters) h.becomes ∙ laws.counters-relocated v h.pool m.from m.to moving_object target_free;
    phase = ap (λ (u : HeapView). u.phase) h.becomes ∙ laws.phase-relocated v h.pool m.from m.to moving_object target_free;
    cursor = ap (λ (u : HeapView). u.cursor) h.becomes ∙ laws.cursor-relocated v h.pool m.from m.to moving_object target_free;
    limit = ap (λ (u : HeapView). u.limit) h.becomes ∙ laws.limit-relocated v h.pool m.from m.to moving_object target_free;
    unswept = ap (λ (u : HeapView). u.unswept) h.becomes ∙ laws.unswept-relocated v h.pool m.from m.to moving_object target_free;
    grey = ap (λ (u : HeapView). u.grey) h.becomes ∙ laws.grey-relocated v h.pool m.from m.to moving_object target_free;
    page_count = ap (λ (u : HeapView). length u.pages) h.becomes ∙ laws.count-relocated v h.pool m.from m.to moving_object target_free;
  }

  pub sound_one : IsSoundHeap v → IsSoundHeap w
  sound_one sound = subst IsSoundHeap (sym h.becomes) (laws.sound_relocated v h.pool m.from m.to moving_object target_free sound)

  -- nothing had left the slot that the object leaves, and none had left the one that it comes to
  pub source_fresh : is_moved v m.from ≡ false
  unfolding is_object is_moved
  source_fresh = it (slot_at v m.from) moving_object
    where
      it : (s : SlotView) → has_present s ≡ true → has_moved s ≡ false
      it Free e = refl
      it (MovedSlot to) e = cc
      it (Object o) e = refl

  target_fresh : is_moved v m.to ≡ false
  unfolding is_moved
  target_fresh = ap has_moved (free_parts v h.pool m.to target_free).free

  pub source_left : is_moved w m.from ≡ true
  source_left = ap (λ (u : HeapView). is_moved u m.from) h.becomes ∙ laws.is_moved-relocated_from v h.pool m.from m.to moving_object target_free

  -- a slot that was left stays so
  pub left_stays : (a : ℕ) → is_moved v a ≡ true → is_moved w a ≡ true
  left_stays a e =
      let now : is_moved w a ≡ is_moved (relocated v m.from m.to) a = ap (λ (u : HeapView). is_moved u a) h.becomes in
      ⊎_elim
      (λ same. ap (is_moved w) same ∙ source_left)
      (λ apart. ⊎_elim
      (λ there. absurd (true≢false (sym e ∙ ap (is_moved v) there ∙ target_fresh)))
      (λ other. now ∙ laws.is_moved-relocated_other v h.pool m.from m.to moving_object target_free a apart other ∙ e)
      (cases_eq a m.to))
      (cases_eq a m.from)

pub keeps_none : (v : HeapView) → KeepsBut v v 0
keeps_none v = record {
  counters = let e : v.counters.moves ≡ v.counters.moves + 0 = omega arith in ap (λ n. record v.counters { moves = n }) e;
  phase = refl;
  cursor = refl;
  limit = refl;
  unswept = refl;
  grey = refl;
  page_count = refl;
}

pub keeps_both : (u v w : HeapView) (m n : ℕ) → KeepsBut u v m → KeepsBut v w n → KeepsBut u w (m + n)
keeps_both u v w m n p q = record {
  counters =
      let e : u.counters.moves + m + n ≡ u.counters.moves + (m + n) = omega arith in
      q.counters
      ∙ ap (λ (c : Counters). record c { moves = c.moves + n }) p.counters
      ∙ ap (λ k. record u.counters { moves = k }) e;
  phase = q.phase ∙ p.phase;
  cursor = q.cursor ∙ p.cursor;
  limit = q.limit ∙ p.limit;
  unswept = q.unswept ∙ p.unswept;
  grey = q.grey ∙ p.grey;
  page_count = q.page_count ∙ p.page_count;
}

-- moves leave all but slots, and are counted
pub keeps_moves : (count : ℕ) (v : HeapView) (events : List Event) (w : HeapView) → MovesTold count v events w → KeepsBut v w count
keeps_moves zero v events w h = subst (λ u. KeepsBut v u 0) (sym h.1) (keeps_none v)
keeps_moves (suc count) v events w h =
    let e : 1 + count ≡ suc count = omega arith in
    subst (KeepsBut v w) e (keeps_both v h.2 w 1 count (keeps_one v h.2 h.0 h.4) (keeps_moves count h.2 h.1 w h.5))

-- what stays by each move stays by all
pub stays_by_moves : (P : HeapView → Type 0) → ((v w : HeapView) (m : Moved) → Moves v w m → P v → P w)
    → (count : ℕ) (v : HeapView) (events : List Event) (w : HeapView) → MovesTold count v events w → P v → P w
stays_by_moves P one zero v events w h p = subst P (sym h.1) p
stays_by_moves P one (suc count) v events w h p = stays_by_moves P one count h.2 h.1 w h.5 (one v h.2 h.0 h.4 p)

pub sound_moves : (count : ℕ) (v : HeapView) (events : List Event) (w : HeapView) → MovesTold count v events w → IsSoundHeap v → IsSoundHeap w
sound_moves count v events w h sound = stays_by_moves IsSoundHeap sound_one count v events w h sound

-- the event that tells of a move
abbrev pub event_of : Moved → Event
event_of m = MovedEvent m.name m.from m.to

-- one move more, after the others
pub moves_more : (count : ℕ) (v : HeapView) (events : List Event) (u w : HeapView) (m : Moved) → MovesTold count v events u → Moves u w m
    → MovesTold (suc count) v (events ++ event_of m ∷ []) w
moves_more zero v events u w m h one =
    let none : events ++ event_of m ∷ [] ≡ event_of m ∷ [] = ap (λ (es : List Event). es ++ event_of m ∷ []) h.0 in
    (m, [], w, none, subst (λ x. Moves x w m) h.1 one, (refl, refl))
moves_more (suc count) v events u w m h one =
    (h.0, h.1 ++ event_of m ∷ [], h.2, ap (λ (es : List Event). es ++ event_of m ∷ []) h.3, h.4, moves_more count h.2 h.1 u w m h.5 one)

-- slots that objects left by moves from one heap to another, so many
pub record AreLeft (v w : HeapView) (count : ℕ) : Type 0 where
  pub places : List ℕ
  pub once : IsDistinct nat_eq places
  pub left : (a : ℕ) → is_member nat_eq places a ≡ true → is_moved w a ≡ true
  pub fresh : (a : ℕ) → is_member nat_eq places a ≡ true → is_moved v a ≡ false
  pub long : length places ≡ count

left_first : (v u w : HeapView) (m : Moved) (count : ℕ) → Moves v u m → (is_moved u m.from ≡ true → is_moved w m.from ≡ true)
    → AreLeft u w count → AreLeft v w (suc count)
left_first v u w m count one stays rest =
    let apart : is_member nat_eq rest.places m.from ≡ false = ⊎_elim
    (λ there. absurd (true≢false (sym (source_left v u m one) ∙ rest.fresh m.from there)))
    (λ apart. apart)
    (cases_Bool (is_member nat_eq rest.places m.from)) in
    record {
      places = rest.places ++ m.from ∷ [];
      once = IsDistinct-push nat_eq_equiv rest.places m.from rest.once apart;
      left = λ a e. ⊎_elim
          (λ same. ap (is_moved w) same ∙ stays (source_left v u m one))
          (λ other. rest.left a (grind (arith, nat_tests, other, e, is_member-push rest.places m.from a)))
          (cases_eq a m.from);
      fresh = λ a e. ⊎_elim
          (λ same. ap (is_moved v) same ∙ source_fresh v u m one)
          (λ other. ⊎_elim
          (λ was.
          let there : is_member nat_eq rest.places a ≡ true = grind (arith, nat_tests, other, e, is_member-push rest.places m.from a) in
          absurd (true≢false (sym (left_stays v u m one a was) ∙ rest.fresh a there)))
          (λ was. was)
          (cases_Bool (is_moved v a)))
          (cases_eq a m.from);
      long = let l = length_push rest.places m.from in let k = rest.long in omega (arith, l, k);
    }

-- each move leaves a slot of its own
pub left_by_moves : (count : ℕ) (v : HeapView) (events : List Event) (w : HeapView) → MovesTold count v events w → AreLeft v w count
unfolding IsDistinct
left_by_moves zero v events w h = record { places = []; once = tt; left = λ a m. cc; fresh = λ a m. cc; long = refl }
left_by_moves (suc count) v events w h =
    left_first v h.2 w h.0 count h.4 (stays_by_moves (λ u. is_moved u h.0.from ≡ true) (λ x y m one. left_stays x y m one h.0.from) count h.2 h.1 w h.5)
    (left_by_moves count h.2 h.1 w h.5)

-- a slot starts where an object left one
slot_from_moved : (v : HeapView) (a : ℕ) → is_moved v a ≡ true → is_slot v a ≡ true
unfolding is_moved
slot_from_moved v a e = ⊎_elim
    (λ some. some)
    (λ none. absurd (true≢false (sym e ∙ ap has_moved (slot_at_none v a none))))
    (cases_Bool (is_slot v a))

-- the place of the slot that starts at an address among 1,638 places a page
abbrev place_of : HeapView → ℕ → ℕ
place_of v a = 1638 * page_of a + slot_number (page_with v a).pool a

-- two starts on one page in one slot are one
same_start : (pool pool' : Option ℕ) (a b : ℕ) → 65536 ≤ a → 65536 ≤ b → bytes_of pool * slot_number pool a ≡ a % 65536
    → bytes_of pool' * slot_number pool' b ≡ b % 65536 → pool ≡ pool' → page_of a ≡ page_of b → slot_number pool a ≡ slot_number pool' b → a ≡ b
unfolding page_of
same_start pool pool' a b past past' exact exact' same page slot =
    let r : a % 65536 ≡ b % 65536 = sym exact ∙ ap (λ k. bytes_of k * slot_number pool a) same ∙ ap (λ k. bytes_of pool' * k) slot ∙ exact' in
    grind (arith, r, page)

few_slots : (pool : ℕ) → pool < 5 → page_slots pool ≤ 1638
unfolding page_slots slot_bytes
few_slots zero known = omega arith
few_slots (suc zero) known = omega arith
few_slots (suc (suc zero)) known = omega arith
few_slots (suc (suc (suc zero))) known = omega arith
few_slots (suc (suc (suc (suc zero)))) known = omega arith
few_slots (suc (suc (suc (suc (suc pool))))) known = absurd (omega arith)

module _ (v : HeapView) (sound : IsSoundHeap v) where
  narrow_pool : (page : ℕ) (pool : Option ℕ) → pool_at v page ≡ pool → length (page_at v page).slots ≤ 1638
  narrow_pool page None e = let none = sound.spare page e in omega arith
  narrow_pool page (Some pool) e =
      let long = sound.long page pool e in
      let few = few_slots pool (sound.known page pool e) in
      omega arith

  slot_below : (a : ℕ) → is_slot v a ≡ true → slot_number (page_with v a).pool a < 1638
  slot_below a e =
      let within = (start_of v a e).within in
      let few = narrow_pool (page_of a) (page_with v a).pool refl in
      omega arith

  place_below : (a : ℕ) → is_slot v a ≡ true → place_of v a < 1638 * 4096
  place_below a e =
      let slot = slot_below a e in
      let page = page_in_heap v a e in
      let limited = sound.limited in
      let most = sound.most in
      omega arith

  one_place : (a b : ℕ) → is_slot v a ≡ true → is_slot v b ≡ true → place_of v a ≡ place_of v b → a ≡ b
  one_place a b e f same =
      let slot = slot_below a e in
      let slot' = slot_below b f in
      let page : page_of a ≡ page_of b = omega arith in
      let number : slot_number (page_with v a).pool a ≡ slot_number (page_with v b).pool b = omega arith in
      same_start (page_with v a).pool (page_with v b).pool a b (start_of v a e).past (start_of v b f).past (start_of v a e).exact (start_of v b f).exact
      (ap (λ k. (page_at v k).pool) page) page number

  -- a heap has no more slots than this, so no more were left
  few_left : (places : List ℕ) → IsDistinct nat_eq places → ((a : ℕ) → is_member nat_eq places a ≡ true → is_moved v a ≡ true) → length places ≤ 1638 * 4096
  few_left places once left = few_places (place_of v) (1638 * 4096) places once
      (λ a m. place_below a (slot_from_moved v a (left a m)))
      (λ a b m n same. one_place a b (slot_from_moved v a (left a m)) (slot_from_moved v b (left b n)) same)

-- so no more moves are made than a heap has slots
pub few_moves : (count : ℕ) (v : HeapView) (events : List Event) (w : HeapView) → MovesTold count v events w → IsSoundHeap w → count ≤ 1638 * 4096
few_moves count v events w h sound =
    let left = left_by_moves count v events w h in
    let few = few_left w sound left.places left.once left.left in
    let long = left.long in
    omega (arith, few, long)
