-- Each sound state has counts, and no others where it is certain what is kept.
use Rattle.std.proofs.Common.{◌≡◌, ◌⊎◌, ℕ, zero, suc, ◌+◌, ◌-◌, ◌*◌, ◌/◌, ◌<◌, ◌≤◌, true, Bool, List, [], ◌∷◌, length, nat_eq, refl, sym, ap, ◌∙◌, subst, arith, Option, None, Some, ⊎_elim, inl, inr}
use Rattle.std.specs.Prelude.{is_some, ◌^◌}
use Rattle.std.specs.Cmp.{nat_eq_equiv}
use Rattle.std.specs.List.{IsDistinct}
use Rattle.std.specs.Set.{is_member}
use Rattle.std.specs.FinMap.{get}
use Rattle.std.proofs.Math.Nat.{mul-div_cancel_left, div-lt_iff_lt-mul}
use Rattle.std.proofs.lemmas.Bool.{cases_Bool, cases_eq, cases_lt, false≢true, false_from_ne_true, and_parts, or_cases, or_left, or_right, eqb-true, eq-eqb}
use Rattle.std.proofs.lemmas.Map.Made.{length-le_from_is_member}
use Rattle.std.proofs.lemmas.Nat.{pow_pos}
use Rattle.space_model.specs.declared.stat.Stat.{Stat}
use Rattle.space_model.specs.Ages.{is_protected, is_old_in, is_old}
use Rattle.space_model.specs.Counts.{CountIs}
use Rattle.space_model.specs.Layout.{page_bytes, page_of, page_slots, slot_address, slot_bytes}
use Rattle.space_model.specs.Pages.{pool_at}
use Rattle.space_model.specs.Places.{IsSlot}
use Rattle.space_model.specs.Sound.{Sound}
use Rattle.space_model.specs.Stat.{IsVacant, IsKept, IsUnprotected, IsKeptCount, AreCounts}
use Rattle.space_model.specs.State.{State, is_present}
use Rattle.space_model.proofs.FullLaws.{standing}
use Rattle.space_model.proofs.Growing.{IsDistinct-cons}
use Rattle.space_model.proofs.MapLaws.{some_get}
use Rattle.space_model.proofs.PageLaws.{page_of-slot_address, page_within}
use Rattle.space_model.proofs.VerdictLaws.{CountIs-unique}
use Rattle.space_model.proofs.WholeLaws.{counted_also}

-- what a test decides, and is below a bound, can be counted
module _ (P : ℕ → Type 0) (decide : (n : ℕ) → P n ⊎ (P n → ⊥)) where
  below_counted : (bound : ℕ) → (count : ℕ) × CountIs (λ n. (n < bound) × P n) count
  unfolding IsDistinct
  below_counted zero = (
    0,
    record {
      names = [];
      once = tt;
      are = λ n. ((λ m. absurd (false≢true m)), (λ c. absurd (let b = c.0 in omega arith)));
      long = refl;
    },
  )
  below_counted (suc bound) =
      let (count, rest) = below_counted bound in
      ⊎_elim
      (λ holds. (
        suc count,
        record {
          names = bound ∷ rest.names;
          once = IsDistinct-cons bound rest.names rest.once (false_from_ne_true _ (λ m. let b = ((rest.are bound).0 m).0 in omega arith));
          are = λ n. (
            (λ m. ⊎_elim
                (λ same. let e = eqb-true n bound same in (omega arith, subst P (sym e) holds))
                (λ among. let c = (rest.are n).0 among in ((let b = c.0 in omega arith), c.1))
                (or_cases _ _ m)),
            (λ c. ⊎_elim
                (λ same. or_left _ _ (eq-eqb n bound same))
                (λ other. or_right (nat_eq n bound) _ ((rest.are n).1 ((let b = c.0 in omega arith), c.1)))
                (cases_eq n bound)),
          );
          long = ap suc rest.long;
        },
      ))
      (λ fails. (
        count,
        record {
          names = rest.names;
          once = rest.once;
          are = λ n. (
            (λ m. let c = (rest.are n).0 m in ((let b = c.0 in omega arith), c.1)),
            (λ c. (rest.are n).1
                (⊎_elim (λ same. absurd (fails (subst P same c.1))) (λ other. (let b = c.0 in omega arith)) (cases_eq n bound), c.1)),
          );
          long = rest.long;
        },
      ))
      (decide bound)

  counted : (bound : ℕ) → ((n : ℕ) → P n → n < bound) → (count : ℕ) × CountIs P count
  counted bound within =
      let (count, are) = below_counted bound in
      (count, counted_also (λ n. (n < bound) × P n) P count (λ n. ((λ c. c.1), (λ p. (within n p, p)))) are)

-- what implies another is no more often so
count_le : (P Q : ℕ → Type 0) (i j : ℕ) → ((n : ℕ) → P n → Q n) → CountIs P i → CountIs Q j → i ≤ j
count_le P Q i j more a b =
    let le = length-le_from_is_member nat_eq_equiv a.names b.names a.once (λ n m. (b.are n).1 (more n ((a.are n).0 m))) in
    let p = a.long in let q = b.long in omega arith

-- slots

-- the slot of an address on the page, if it is one
abbrev slot_of : ℕ → ℕ → ℕ → ℕ
slot_of page pool address = (address - page_bytes * (page + 1)) / (40 * 2 ^ pool)

slot_of-address : (page pool slot : ℕ) → slot_of page pool (slot_address page pool slot) ≡ slot
unfolding slot_address slot_bytes
slot_of-address page pool slot =
    let some : 0 < 40 * 2 ^ pool = (let p = pow_pos pool in omega arith) in
    let e : page_bytes * (page + 1) + 40 * 2 ^ pool * slot - page_bytes * (page + 1) ≡ 40 * 2 ^ pool * slot = omega arith in
    ap (λ x. x / (40 * 2 ^ pool)) e ∙ mul-div_cancel_left slot some

slot_page : (pages : List (Option ℕ)) (pool address : ℕ) (at : IsSlot pages pool address) → page_of address ≡ at.page
slot_page pages pool address at = ap page_of at.is ∙ page_of-slot_address at.page pool at.slot at.on_page

-- whether the address is a slot of a page whose pool this is
slot_on : (pages : List (Option ℕ)) (address pool : ℕ) → pool_at pages (page_of address) ≡ Some pool →
    IsSlot pages pool address ⊎ ((other : ℕ) → IsSlot pages other address → ⊥)
slot_on pages address pool has =
    let slot = slot_of (page_of address) pool address in
    let the_slot : (other : ℕ) (at : IsSlot pages other address) → (other ≡ pool) × (at.slot ≡ slot) × (address ≡ slot_address (page_of address) pool at.slot) =
    λ other at.
    let on = slot_page pages other address at in
    let both : Some other ≡ Some pool = sym at.has_pool ∙ ap (pool_at pages) (sym on) ∙ has in
    let same : other ≡ pool = cc in
    let is : address ≡ slot_address (page_of address) pool at.slot =
    at.is ∙ ap (λ p. slot_address p other at.slot) (sym on) ∙ ap (λ q. slot_address (page_of address) q at.slot) same in
    (same, sym (ap (slot_of (page_of address) pool) is ∙ slot_of-address (page_of address) pool at.slot), is) in
    ⊎_elim
    (λ on_page. ⊎_elim
    (λ is. inl (record { page = page_of address; slot = slot; has_pool = has; on_page = on_page; is = is }))
    (λ not_at. inr (λ other at. let k = the_slot other at in not_at (k.2 ∙ ap (slot_address (page_of address) pool) k.1)))
    (cases_eq address (slot_address (page_of address) pool slot)))
    (λ past. inr (λ other at. let k = the_slot other at in
    let on : at.slot < page_slots pool = subst (λ q. at.slot < page_slots q) k.0 at.on_page in
    let same = k.1 in omega arith))
    (cases_lt slot (page_slots pool))

slot_or_none : (pages : List (Option ℕ)) (address : ℕ) → ((pool : ℕ) × IsSlot pages pool address) ⊎ ((pool : ℕ) → IsSlot pages pool address → ⊥)
slot_or_none pages address = decided (pool_at pages (page_of address)) refl
  where
    decided : (o : Option ℕ) → pool_at pages (page_of address) ≡ o → ((pool : ℕ) × IsSlot pages pool address) ⊎ ((pool : ℕ) → IsSlot pages pool address → ⊥)
    decided None none = inr (λ pool at.
        let f : None ≡ Some pool = sym none ∙ ap (pool_at pages) (slot_page pages pool address at) ∙ at.has_pool in cc)
    decided (Some pool) has = ⊎_elim (λ at. inl (pool, at)) (λ none. inr none) (slot_on pages address pool has)

vacant_or_not : (s : State) (address : ℕ) → IsVacant s address ⊎ (IsVacant s address → ⊥)
vacant_or_not s address = ⊎_elim
    (λ (pool, at). ⊎_elim
    (λ (n, e). inr (λ v. v.no_place n e))
    (λ no_place. ⊎_elim
    (λ (n, e). inr (λ v. v.no_corpse n e))
    (λ no_corpse. ⊎_elim
    (λ (n, e). inr (λ v. v.not_left n e))
    (λ not_left. inl (record { pool = pool; at = at; no_place = no_place; no_corpse = no_corpse; not_left = not_left }))
    (standing s.heap.left address))
    (standing s.heap.corpses address))
    (standing s.heap.place address))
    (λ none. inr (λ v. none v.pool v.at))
    (slot_or_none s.heap.pages address)

vacant_below : (s : State) (address : ℕ) → IsVacant s address → address < (length s.heap.pages + 1) * page_bytes
unfolding page_of
vacant_below s address v =
    let on = slot_page s.heap.pages v.pool address v.at in
    let within = page_within s.heap.pages v.at.page (ap is_some v.at.has_pool) in
    (div-lt_iff_lt-mul {k = page_bytes} {x = address} {y = length s.heap.pages + 1} (omega arith)).0 (omega arith)

-- the counts of a sound state

module _ (s : State) (h : Sound s) where
  present_below : (n : ℕ) → is_present s n ≡ true → n < length s.graph + 1
  present_below n p = let at = some_get (get s.heap.place n) p in let b = (h.layout.placed.allocated n at.0 at.1).1 in omega arith

  old_below : (n : ℕ) → is_old s n ≡ true → n < length s.graph + 1
  unfolding is_old_in
  old_below n e = present_below n (and_parts _ _ e).0

  unprotected_or_not : (n : ℕ) → IsUnprotected s n ⊎ (IsUnprotected s n → ⊥)
  unprotected_or_not n = ⊎_elim
      (λ p. ⊎_elim (λ guarded. inr (λ u. false≢true (sym u.1 ∙ guarded))) (λ out. inl (p, out)) (cases_Bool (is_protected s.graph n)))
      (λ gone. inr (λ u. false≢true (sym gone ∙ u.0)))
      (cases_Bool (is_present s n))

  true_or_not : (test : ℕ → Bool) (n : ℕ) → (test n ≡ true) ⊎ (test n ≡ true → ⊥)
  true_or_not test n = ⊎_elim (λ t. inl t) (λ f. inr (λ t. false≢true (sym f ∙ t))) (cases_Bool (test n))

  kept_counted : (kept : ℕ) × IsKeptCount s kept
  kept_counted =
      let (certain, are) = counted (IsKept s) (true_or_not (is_member nat_eq s.collector.kept)) (length s.graph + 1) (λ n m. present_below n (h.kept n m).0) in
      let (most, unprotected) = counted (IsUnprotected s) unprotected_or_not (length s.graph + 1) (λ n u. present_below n u.0) in (
        certain,
        record {
          certain = certain;
          certain_are = are;
          unprotected = most;
          unprotected_are = unprotected;
          exact = λ e. refl;
          at_least = omega arith;
          at_most = count_le (IsKept s) (IsUnprotected s) certain most (λ n m. h.kept n m) are unprotected;
        },
      )

  pub counts_there : (stat : Stat) × AreCounts s stat
  counts_there =
      let (live, live_are) = counted (λ n. is_present s n ≡ true) (true_or_not (is_present s)) (length s.graph + 1) present_below in
      let (free, free_are) = counted (IsVacant s) (vacant_or_not s) ((length s.heap.pages + 1) * page_bytes) (vacant_below s) in
      let (old, old_are) = counted (λ n. is_old s n ≡ true) (true_or_not (is_old s)) (length s.graph + 1) old_below in
      let (kept, kept_are) = kept_counted in
      let stat : Stat = record {
        count = s.counters.minor_verdicts + s.counters.other_verdicts;
        minor_gc_count = s.counters.minor_verdicts;
        major_gc_count = s.counters.other_verdicts;
        heap_allocated_pages = length s.heap.pages;
        heap_live_slots = live;
        heap_free_slots = free;
        total_allocated_objects = length s.graph;
        total_freed_objects = s.counters.freed;
        old_objects = old;
        remembered_wb_unprotected_objects = kept;
        compact_count = s.counters.compactions;
        total_moved_objects = s.counters.moves;
      } in (
        stat,
        record {
          count = refl;
          minor_verdicts = refl;
          other_verdicts = refl;
          pages = refl;
          live = live_are;
          free = free_are;
          allocated = refl;
          freed = refl;
          old = old_are;
          kept = kept_are;
          compactions = refl;
          moves = refl;
        },
      )

-- there is one number of kept objects where it is certain which are kept
kept_same : (s : State) (i j : ℕ) → s.collector.vague ≡ 0 → IsKeptCount s i → IsKeptCount s j → i ≡ j
kept_same s i j certain a b = a.exact certain ∙ CountIs-unique (IsKept s) a.certain b.certain a.certain_are b.certain_are ∙ sym (b.exact certain)

-- the same counts, written out
abbrev rebuilt : Stat → Stat
rebuilt stat = record {
  count = stat.count;
  minor_gc_count = stat.minor_gc_count;
  major_gc_count = stat.major_gc_count;
  heap_allocated_pages = stat.heap_allocated_pages;
  heap_live_slots = stat.heap_live_slots;
  heap_free_slots = stat.heap_free_slots;
  total_allocated_objects = stat.total_allocated_objects;
  total_freed_objects = stat.total_freed_objects;
  old_objects = stat.old_objects;
  remembered_wb_unprotected_objects = stat.remembered_wb_unprotected_objects;
  compact_count = stat.compact_count;
  total_moved_objects = stat.total_moved_objects;
}

pub counts_same : (s : State) (a b : Stat) → s.collector.vague ≡ 0 → AreCounts s a → AreCounts s b → a ≡ b
counts_same s a b certain h k =
    let minor : a.minor_gc_count ≡ b.minor_gc_count = h.minor_verdicts ∙ sym k.minor_verdicts in
    let major : a.major_gc_count ≡ b.major_gc_count = h.other_verdicts ∙ sym k.other_verdicts in
    let count : a.count ≡ b.count = (let p = h.count in let q = k.count in omega arith) in
    let pages : a.heap_allocated_pages ≡ b.heap_allocated_pages = h.pages ∙ sym k.pages in
    let live : a.heap_live_slots ≡ b.heap_live_slots = CountIs-unique _ a.heap_live_slots b.heap_live_slots h.live k.live in
    let free : a.heap_free_slots ≡ b.heap_free_slots = CountIs-unique (IsVacant s) a.heap_free_slots b.heap_free_slots h.free k.free in
    let allocated : a.total_allocated_objects ≡ b.total_allocated_objects = h.allocated ∙ sym k.allocated in
    let freed : a.total_freed_objects ≡ b.total_freed_objects = h.freed ∙ sym k.freed in
    let old : a.old_objects ≡ b.old_objects = CountIs-unique _ a.old_objects b.old_objects h.old k.old in
    let kept : a.remembered_wb_unprotected_objects ≡ b.remembered_wb_unprotected_objects = kept_same s _ _ certain h.kept k.kept in
    let compactions : a.compact_count ≡ b.compact_count = h.compactions ∙ sym k.compactions in
    let moves : a.total_moved_objects ≡ b.total_moved_objects = h.moves ∙ sym k.moves in
    let same : rebuilt a ≡ rebuilt b = cc in same
