-- The laws of the slots of a heap's view: what each slot is after one changed.
use Rattle.std.proofs.Common.{◌≡◌, ◌≢◌, ◌⊎◌, inl, inr, ⊎_elim, ℕ, ◌<◌, true, false, length, set, refl, sym, ap, ◌∙◌, subst, arith, get_or}
use Rattle.std.proofs.lemmas.Bool.{cases_Bool, cases_eq, cases_lt, cond-true, cond-false}
use Rattle.std.proofs.lemmas.List.{get_or-set_same, get_or-set_other, length-set, get_or_past, set_past}
use Rattle.space_model.specs.Layout.{page_of}
use Rattle.space_heap.specs.Slots.{SlotView, Free}
use Rattle.space_heap.specs.HeapView.{PageView, HeapView, no_page, page_at, pool_at, page_with, pool_with, slot_number, is_start, is_slot, slot_at, with_slot_in, with_slot}
use Rattle.space_heap.proofs.starts.Starts.{Start, start_parts, same_start}

-- the heap after a slot of a page of its own changed
abbrev changed : HeapView → ℕ → SlotView → HeapView
changed v a s = record v { pages = set v.pages (page_of a) (with_slot_in (page_with v a) (slot_number (page_with v a).pool a) s) }

pub with_slot_none : (v : HeapView) (a : ℕ) (s : SlotView) → is_slot v a ≡ false → with_slot v a s ≡ v
unfolding with_slot
with_slot_none v a s none = cond-false (is_slot v a) (changed v a s) v none

with_slot_some : (v : HeapView) (a : ℕ) (s : SlotView) → is_slot v a ≡ true → with_slot v a s ≡ changed v a s
unfolding with_slot
with_slot_some v a s some = cond-true (is_slot v a) (changed v a s) v some

pub start_of : (v : HeapView) (a : ℕ) → is_slot v a ≡ true → Start (page_with v a).pool (length (page_with v a).slots) a
unfolding is_slot
start_of v a e = start_parts (page_with v a).pool (length (page_with v a).slots) a e

pub page_in_heap : (v : HeapView) (a : ℕ) → is_slot v a ≡ true → page_of a < length v.pages
page_in_heap v a e = ⊎_elim
    (λ within. within)
    (λ past. let n : length (page_with v a).slots ≡ 0 = ap (λ (p : PageView). length p.slots) (get_or_past v.pages (page_of a) no_page past) in
    let w = (start_of v a e).within in absurd (omega arith))
    (cases_lt (page_of a) (length v.pages))

-- a page after one slot changed
page_at-changed : (v : HeapView) (a : ℕ) (s : SlotView) (k : ℕ)
    → (page_at (changed v a s) k ≡ page_at v k) ⊎ ((k ≡ page_of a)
    × (page_at (changed v a s) k ≡ with_slot_in (page_at v k) (slot_number (page_at v k).pool a) s))
page_at-changed v a s k = ⊎_elim
    (λ same. ⊎_elim
    (λ within. inr (
      same,
      ap (page_at (changed v a s)) same
          ∙ get_or-set_same v.pages (page_of a) (with_slot_in (page_with v a) (slot_number (page_with v a).pool a) s) no_page within
          ∙ ap (λ k. with_slot_in (page_at v k) (slot_number (page_at v k).pool a) s) (sym same),
    ))
    (λ past. inl (ap (λ pages. get_or pages k no_page) (set_past v.pages (page_of a) (with_slot_in (page_with v a) (slot_number (page_with v a).pool a) s)
    past)))
    (cases_lt (page_of a) (length v.pages)))
    (λ other. inl (get_or-set_other v.pages (page_of a) k (with_slot_in (page_with v a) (slot_number (page_with v a).pool a) s) no_page other))
    (cases_eq k (page_of a))

pool_at-changed : (v : HeapView) (a : ℕ) (s : SlotView) (k : ℕ) → pool_at (changed v a s) k ≡ pool_at v k
pool_at-changed v a s k = ⊎_elim (λ e. ap (λ (p : PageView). p.pool) e) (λ h. ap (λ (p : PageView). p.pool) h.1) (page_at-changed v a s k)

slots-changed : (v : HeapView) (a : ℕ) (s : SlotView) (k : ℕ) → length (page_at (changed v a s) k).slots ≡ length (page_at v k).slots
slots-changed v a s k = ⊎_elim
    (λ e. ap (λ (p : PageView). length p.slots) e)
    (λ h. ap (λ (p : PageView). length p.slots) h.1 ∙ length-set (page_at v k).slots (slot_number (page_at v k).pool a) s)
    (page_at-changed v a s k)

is_slot-changed : (v : HeapView) (a : ℕ) (s : SlotView) (b : ℕ) → is_slot (changed v a s) b ≡ is_slot v b
unfolding is_slot
is_slot-changed v a s b =
    ap (λ pool. is_start pool (length (page_with (changed v a s) b).slots) b) (pool_at-changed v a s (page_of b))
    ∙ ap (λ n. is_start (page_with v b).pool n b) (slots-changed v a s (page_of b))

-- a statement of every heap with one slot changed follows from both cases
by_cases : (v : HeapView) (a : ℕ) (s : SlotView) (P : HeapView → Type 0) → (is_slot v a ≡ false → P v) → (is_slot v a ≡ true → P (changed v a s))
    → P (with_slot v a s)
by_cases v a s P none some = ⊎_elim
    (λ e. subst P (sym (with_slot_some v a s e)) (some e))
    (λ e. subst P (sym (with_slot_none v a s e)) (none e))
    (cases_Bool (is_slot v a))

-- each page keeps its pool
pub pool_at-with_slot : (v : HeapView) (a : ℕ) (s : SlotView) (k : ℕ) → pool_at (with_slot v a s) k ≡ pool_at v k
pool_at-with_slot v a s k = by_cases v a s (λ w. pool_at w k ≡ pool_at v k) (λ _. refl) (λ _. pool_at-changed v a s k)

pub pool_with-with_slot : (v : HeapView) (a : ℕ) (s : SlotView) (b : ℕ) → pool_with (with_slot v a s) b ≡ pool_with v b
unfolding pool_with
pool_with-with_slot v a s b = pool_at-with_slot v a s (page_of b)

pub count-with_slot : (v : HeapView) (a : ℕ) (s : SlotView) → length (with_slot v a s).pages ≡ length v.pages
count-with_slot v a s = by_cases v a s (λ w. length w.pages ≡ length v.pages) (λ _. refl)
    (λ _. length-set v.pages (page_of a) (with_slot_in (page_with v a) (slot_number (page_with v a).pool a) s))

-- and as many slots
pub slots-with_slot : (v : HeapView) (a : ℕ) (s : SlotView) (k : ℕ) → length (page_at (with_slot v a s) k).slots ≡ length (page_at v k).slots
slots-with_slot v a s k = by_cases v a s (λ w. length (page_at w k).slots ≡ length (page_at v k).slots) (λ _. refl) (λ _. slots-changed v a s k)

-- slots start where they did
pub is_slot-with_slot : (v : HeapView) (a : ℕ) (s : SlotView) (b : ℕ) → is_slot (with_slot v a s) b ≡ is_slot v b
is_slot-with_slot v a s b = by_cases v a s (λ w. is_slot w b ≡ is_slot v b) (λ _. refl) (λ _. is_slot-changed v a s b)

-- where no slot starts it is as a free one
pub slot_at_none : (v : HeapView) (a : ℕ) → is_slot v a ≡ false → slot_at v a ≡ Free
unfolding slot_at
slot_at_none v a none = cond-false (is_slot v a) _ Free none

pub slot_at_some : (v : HeapView) (a : ℕ) → is_slot v a ≡ true → slot_at v a ≡ get_or (page_with v a).slots (slot_number (page_with v a).pool a) Free
unfolding slot_at
slot_at_some v a some = cond-true (is_slot v a) _ Free some

-- the slot that was changed
same_changed : (v : HeapView) (a : ℕ) (s : SlotView) → is_slot v a ≡ true → slot_at (changed v a s) a ≡ s
same_changed v a s e =
    let within = (start_of v a e).within in
    let page : page_with (changed v a s) a ≡ with_slot_in (page_with v a) (slot_number (page_with v a).pool a) s =
    get_or-set_same v.pages (page_of a) (with_slot_in (page_with v a) (slot_number (page_with v a).pool a) s) no_page (page_in_heap v a e) in
    slot_at_some (changed v a s) a (is_slot-changed v a s a ∙ e)
    ∙ ap (λ (p : PageView). get_or p.slots (slot_number p.pool a) Free) page
    ∙ get_or-set_same (page_with v a).slots (slot_number (page_with v a).pool a) s Free within

pub slot_at-with_slot_same : (v : HeapView) (a : ℕ) (s : SlotView) → is_slot v a ≡ true → slot_at (with_slot v a s) a ≡ s
slot_at-with_slot_same v a s e = ap (λ w. slot_at w a) (with_slot_some v a s e) ∙ same_changed v a s e

-- the other slots stay
other_read : (v : HeapView) (a : ℕ) (s : SlotView) (b : ℕ) → is_slot v a ≡ true → is_slot v b ≡ true → b ≢ a
    → get_or (page_with (changed v a s) b).slots (slot_number (page_with (changed v a s) b).pool b) Free ≡ get_or (page_with v b).slots
    (slot_number (page_with v b).pool b) Free
other_read v a s b e f differ = ⊎_elim
    (λ same. ap (λ (p : PageView). get_or p.slots (slot_number p.pool b) Free) same)
    (λ h.
    let pool : (page_with v b).pool ≡ (page_with v a).pool = ap (λ k. (page_at v k).pool) h.0 in
    let apart : slot_number (page_with v b).pool b ≢ slot_number (page_with v b).pool a = λ same.
    differ (same_start (page_with v b).pool (page_with v a).pool (length (page_with v b).slots) (length (page_with v a).slots) b a (start_of v b f)
    (start_of v a e) pool h.0 (same ∙ ap (λ p. slot_number p a) pool)) in
    ap (λ (p : PageView). get_or p.slots (slot_number p.pool b) Free) h.1
    ∙ get_or-set_other (page_with v b).slots (slot_number (page_with v b).pool a) (slot_number (page_with v b).pool b) s Free apart)
    (page_at-changed v a s (page_of b))

other_changed : (v : HeapView) (a : ℕ) (s : SlotView) (b : ℕ) → is_slot v a ≡ true → b ≢ a → slot_at (changed v a s) b ≡ slot_at v b
other_changed v a s b e differ = ⊎_elim
    (λ some. slot_at_some (changed v a s) b (is_slot-changed v a s b ∙ some) ∙ other_read v a s b e some differ ∙ sym (slot_at_some v b some))
    (λ none. slot_at_none (changed v a s) b (is_slot-changed v a s b ∙ none) ∙ sym (slot_at_none v b none))
    (cases_Bool (is_slot v b))

pub slot_at-with_slot_other : (v : HeapView) (a : ℕ) (s : SlotView) (b : ℕ) → b ≢ a → slot_at (with_slot v a s) b ≡ slot_at v b
slot_at-with_slot_other v a s b differ = by_cases v a s (λ w. slot_at w b ≡ slot_at v b) (λ _. refl) (λ e. other_changed v a s b e differ)

-- what no slot changes
pub record SameRest (v w : HeapView) : Type 0 where
  pub limit : w.limit ≡ v.limit
  pub unswept : w.unswept ≡ v.unswept
  pub grey : w.grey ≡ v.grey
  pub phase : w.phase ≡ v.phase
  pub cursor : w.cursor ≡ v.cursor
  pub counters : w.counters ≡ v.counters

pub rest-with_slot : (v : HeapView) (a : ℕ) (s : SlotView) → SameRest v (with_slot v a s)
rest-with_slot v a s = by_cases v a s (SameRest v) (λ _. record { limit = refl; unswept = refl; grey = refl; phase = refl; cursor = refl; counters = refl })
    (λ _. record { limit = refl; unswept = refl; grey = refl; phase = refl; cursor = refl; counters = refl })
