-- What the fields of a page tell of its slots.
use Rattle.std.proofs.Common.{◌≡◌, ◌≢◌, ⊎_elim, ℕ, zero, suc, ◌<◌, ◌≤◌, Bool, true, false, cond, List, [], length, map, replicate, get_or, set, refl, sym, ap, ◌∙◌, subst, arith, true≢false, Option, None, Some}
use Rattle.std.specs.Prelude.{is_none, is_some}
use Rattle.std.specs.Simd.Lanes.{put_chunk}
use Rattle.std.specs.List.{range_with_len}
use Rattle.std.proofs.lemmas.Bool.{cases_eq, cases_lt, cases_Bool, cond-true, cond-false}
use Rattle.std.proofs.lemmas.List.{get_or-set_same, get_or-set_other, length-set, length-replicate, get_or-replicate, get_or_past}
use Rattle.std.proofs.lemmas.List.FromFn.{length-map-range_with_len, get_or-map-range_with_len, fill_by_all}
use Rattle.space_model.specs.Layout.{page_slots, slot_bytes}
use Rattle.space_planes.specs.Planes.{bit}
use Rattle.space_pages.specs.Slots.{words_of, slots_end, slot_words}
use Rattle.space_pages.proofs.SlotLaws.{length-slot_words, slot_words-with_slot_same, slot_words-with_slot_other, get_or-with_slot_past}
use Rattle.std.proofs.lemmas.Simd.{length-put_chunk}
use Rattle.space_pools.proofs.Written.{over}
use Rattle.space_pools.proofs.Linked.{clear_on, clear_after}
use Rattle.space_pools.specs.PageLending.{written_within}
use Rattle.space_pools.specs.declared.pool_page.PoolPage.TheInside.{Inside}
use Rattle.space_pools.specs.PageSlots.{PageSlots, HoldsSlots, HasEachFree, freed_found, freed_in, width_of, written_in, free_page, count_of, free_in, used_in, found_in, with_found_in}
use Rattle.space_planes.proofs.Bits.{within_from_bit}
use Rattle.space_pools.specs.Links.{slot_on, IsLinked, AreLinked, IsClearPast}
use Rattle.space_pools.specs.Inside.{IsPoolPage, found_from, page_from}

pub length-slots : (p : Inside) → length (page_from p).slots ≡ length p.free
length-slots p = length-map-range_with_len (found_from p) 0 (length p.free)

pub slot_is : (p : Inside) (slot : ℕ) (d : Option (List ℕ)) → slot < length p.free → get_or (page_from p).slots slot d ≡ found_from p slot
slot_is p slot d within = get_or-map-range_with_len (found_from p) 0 (length p.free) slot slot d within (omega arith)

pub slot_past : (p : Inside) (slot : ℕ) (d : Option (List ℕ)) → length p.free ≤ slot → get_or (page_from p).slots slot d ≡ d
slot_past p slot d past = get_or_past (page_from p).slots slot d (let n = length-slots p in omega arith)

from_bit : (b : Bool) (words : List ℕ) → is_none (cond b None (Some words)) ≡ b
from_bit true words = refl
from_bit false words = refl

-- a slot is free exactly where its bit is 1
pub free_is : (p : Inside) (slot : ℕ) → free_in (page_from p) slot ≡ bit p.free slot
free_is p slot = ⊎_elim
    (λ within. ap is_none (slot_is p slot (Some []) within) ∙ from_bit (bit p.free slot) (slot_on p.pool p.words slot))
    (λ past. ap is_none (slot_past p slot (Some []) past) ∙ sym (get_or_past p.free slot false past))
    (cases_lt slot (length p.free))

pub most_slots : (pool : ℕ) → pool < 5 → page_slots pool ≤ 1638
unfolding page_slots slot_bytes
most_slots zero known = omega arith
most_slots (suc zero) known = omega arith
most_slots (suc (suc zero)) known = omega arith
most_slots (suc (suc (suc zero))) known = omega arith
most_slots (suc (suc (suc (suc zero)))) known = omega arith
most_slots (suc (suc (suc (suc (suc pool))))) known = absurd (omega arith)

few_of : (pool : Option ℕ) → ((k : ℕ) → pool ≡ Some k → k < 5) → count_of pool ≤ 1638
few_of None known = omega arith
few_of (Some pool) known = most_slots pool (known pool refl)

-- a page has at most 1,638 slots
pub few_slots : (p : Inside) → IsPoolPage p → length p.free ≤ 1638
few_slots p h = let few = few_of p.pool h.known in let l = h.long in omega arith

-- a slot whose bit is 0 has its words
pub found_is : (p : Inside) (slot : ℕ) → slot < length p.free → bit p.free slot ≡ false → found_in (page_from p) slot ≡ Some (slot_on p.pool p.words slot)
found_is p slot within clear = slot_is p slot None within ∙ cond-false (bit p.free slot) None _ clear

from_some : (b : Bool) (words : List ℕ) → is_some (cond b None (Some words)) ≡ true → b ≡ false
from_some true words h = sym h
from_some false words h = refl

-- a slot that isn't free is within the page, and its bit is 0
pub used_is : (p : Inside) (slot : ℕ) → used_in (page_from p) slot ≡ true → (slot < length p.free) × (bit p.free slot ≡ false)
used_is p slot used = ⊎_elim
    (λ within. (within, from_some (bit p.free slot) _ (sym (ap is_some (slot_is p slot None within)) ∙ used)))
    (λ past. absurd (true≢false (sym used ∙ ap is_some (slot_past p slot None past))))
    (cases_lt slot (length p.free))

pub used_from : (p : PageSlots) (slot : ℕ) (found : List ℕ) → found_in p slot ≡ Some found → used_in p slot ≡ true
used_from p slot found e = ap is_some e

-- a page with a slot has a pool
pub has_pool : (pool : Option ℕ) (slot : ℕ) → slot < count_of pool → is_some pool ≡ true
has_pool None slot h = absurd (omega arith)
has_pool (Some pool) slot h = refl

-- one slot changes
pub one_slot : (p q : Inside) (slot : ℕ) (found : Option (List ℕ)) → q.pool ≡ p.pool → q.unswept ≡ p.unswept → length q.free ≡ length p.free
    → slot < length p.free → found_from q slot ≡ found → ((k : ℕ) → k < length p.free → k ≢ slot → found_from q k ≡ found_from p k)
    → page_from q ≡ with_found_in (page_from p) slot found
one_slot p q slot found pool unswept long within here other =
    let xs : List (Option (List ℕ)) = set (page_from p).slots slot found in
    let all : length xs ≡ length q.free = length-set (page_from p).slots slot found ∙ length-slots p ∙ sym long in
    let each : (k : ℕ) → k < length q.free → get_or xs k None ≡ found_from q k = λ k m. ⊎_elim
    (λ e. subst (λ x. get_or xs x None ≡ found_from q x) (sym e) (get_or-set_same (page_from p).slots slot found None (let n = length-slots p in omega arith)
    ∙ sym here))
    (λ d. get_or-set_other (page_from p).slots slot k found None d ∙ slot_is p k None (omega arith) ∙ sym (other k (omega arith) d))
    (cases_eq k slot) in
    let e : xs ≡ map (found_from q) (range_with_len 0 (length q.free)) = fill_by_all (found_from q) xs (length q.free) None all each in
    λ i. record { pool = pool i; slots = sym e i; unswept = unswept i }

-- every slot is free
pub all_free : (q : Inside) (pool : ℕ) → q.pool ≡ Some pool → q.unswept ≡ false → q.free ≡ replicate (page_slots pool) true → page_from q ≡ free_page pool
all_free q pool its swept free =
    let xs : List (Option (List ℕ)) = replicate (page_slots pool) None in
    let long : length q.free ≡ page_slots pool = ap length free ∙ length-replicate (page_slots pool) true in
    let all : length xs ≡ length q.free = length-replicate (page_slots pool) None ∙ sym long in
    let each : (k : ℕ) → k < length q.free → get_or xs k None ≡ found_from q k = λ k m.
    let one : bit q.free k ≡ true = ap (λ plane. bit plane k) free ∙ get_or-replicate (page_slots pool) k true false (omega arith) in
    get_or-replicate (page_slots pool) k None None (omega arith) ∙ sym (cond-true (bit q.free k) None (Some (slot_on q.pool q.words k)) one) in
    let e : xs ≡ map (found_from q) (range_with_len 0 (length q.free)) = fill_by_all (found_from q) xs (length q.free) None all each in
    λ i. record { pool = its i; slots = sym e i; unswept = swept i }

-- what holds of the fields of a page of the pool whose slots are all free
pub fresh : (q : Inside) (pool : ℕ) → q.pool ≡ Some pool → pool < 5 → q.free ≡ replicate (page_slots pool) true → q.lowest ≡ 0 → length q.words ≡ 8192
    → AreLinked (Some pool) q.words q.free → ((k : ℕ) → slots_end pool ≤ k → get_or q.words k 0 ≡ 0) → IsPoolPage q
fresh q pool its known free first whole linked clear =
    let long : length q.free ≡ page_slots pool = ap length free ∙ length-replicate (page_slots pool) true in record {
      whole = whole;
      known = λ other e. let same : other ≡ pool = cc in omega arith;
      long = long ∙ ap count_of (sym its);
      within = omega arith;
      clear_below = λ k h. absurd (omega arith);
      set_at = λ h. ap (λ plane. bit plane q.lowest) free ∙ get_or-replicate (page_slots pool) q.lowest true false (omega arith);
      linked = subst (λ o. AreLinked o q.words q.free) (sym its) linked;
      clear_past = clear_on q.pool pool q.words its clear;
    }

-- the slots of a plane become free, and the words of the others stay
pub freed : (p : Inside) (words : List ℕ) (free : List Bool) (low : ℕ) → length free ≡ length p.free → HasEachFree (page_from p) free
    → ((k : ℕ) → k < length free → bit free k ≡ false → slot_on p.pool words k ≡ slot_on p.pool p.words k)
    → page_from (record p { words = words; free = free; lowest = low; unswept = false }) ≡ freed_in (page_from p) free
unfolding freed_in
freed p words free low long each same =
    let q : Inside = record p { words = words; free = free; lowest = low; unswept = false } in
    let xs : List (Option (List ℕ)) = (page_from q).slots in
    let n : ℕ = length (page_from p).slots in
    let all : length xs ≡ n = length-slots q ∙ long ∙ sym (length-slots p) in
    let one : (k : ℕ) → k < n → get_or xs k None ≡ freed_found (page_from p) free k = λ k h.
    let l = length-slots p in
    slot_is q k None (omega arith) ∙ ⊎_elim
    (λ set. cond-true (bit free k) None (Some (slot_on p.pool words k)) set ∙ sym (cond-true (bit free k) None (found_in (page_from p) k) set))
    (λ clear.
    cond-false (bit free k) None (Some (slot_on p.pool words k)) clear
    ∙ ap Some (same k (omega arith) clear)
    ∙ sym (found_is p k (omega arith) (still p free k each clear))
    ∙ sym (cond-false (bit free k) None (found_in (page_from p) k) clear))
    (cases_Bool (bit free k)) in
    let e : xs ≡ map (freed_found (page_from p) free) (range_with_len 0 n) = fill_by_all (freed_found (page_from p) free) xs n None all one in
    λ i. record { pool = p.pool; slots = e i; unswept = false }
  where
    -- a slot that isn't in the plane wasn't free
    still : (p : Inside) (free : List Bool) (k : ℕ) → HasEachFree (page_from p) free → bit free k ≡ false → bit p.free k ≡ false
    still p free k each clear = ⊎_elim
        (λ set. absurd (true≢false (sym (each k (free_is p k ∙ set)) ∙ clear)))
        (λ e. e)
        (cases_Bool (bit p.free k))

-- a page with no free slot from its start on
pub full_from : (p : Inside) (slot : ℕ) → IsPoolPage p → length p.free ≤ p.lowest → bit p.free slot ≡ false
full_from p slot h past = ⊎_elim
    (λ below. h.clear_below slot below)
    (λ above. get_or_past p.free slot false (omega arith))
    (cases_lt slot p.lowest)

long_on : (pool : Option ℕ) (words : List ℕ) (slot : ℕ) → length words ≡ 8192 → ((k : ℕ) → pool ≡ Some k → k < 5) → slot < count_of pool
    → length (slot_on pool words slot) ≡ width_of pool
long_on None words slot whole known within = absurd (omega arith)
long_on (Some pool) words slot whole known within = length-slot_words words pool slot whole (known pool refl) within

pub long_slot : (p : Inside) (slot : ℕ) → IsPoolPage p → slot < length p.free → length (slot_on p.pool p.words slot) ≡ width_of p.pool
long_slot p slot h within = long_on p.pool p.words slot h.whole h.known (let l = h.long in omega arith)

pub holds : (p : Inside) → HoldsSlots (page_from p) p.words
holds p pool slot found its e =
    let t = used_is p slot (ap is_some e) in
    let f = found_is p slot t.0 t.1 in
    let on : slot_on p.pool p.words slot ≡ slot_words p.words pool slot = ap (λ o. slot_on o p.words slot) its in
    cc

-- the words that a slot is found with, on a page of this pool
pub found_on : (p : Inside) (pool slot : ℕ) → p.pool ≡ Some pool → used_in (page_from p) slot ≡ true
    → found_in (page_from p) slot ≡ Some (slot_words p.words pool slot)
found_on p pool slot its used =
    let t = used_is p slot used in
    found_is p slot t.0 t.1 ∙ ap Some (ap (λ o. slot_on o p.words slot) its)

pub slot_within : (p : Inside) (pool slot : ℕ) → IsPoolPage p → p.pool ≡ Some pool → used_in (page_from p) slot ≡ true → slot < page_slots pool
slot_within p pool slot h its used =
    let t = (used_is p slot used).0 in
    let l = h.long in
    let e : count_of p.pool ≡ page_slots pool = ap count_of its in
    omega arith

-- the page after a slot of it was lent
module _ (p : Inside) (pool slot : ℕ) (ws : List ℕ) (h : IsPoolPage p) (its : p.pool ≡ Some pool) (used : used_in (page_from p) slot ≡ true) where
  abbrev old : List ℕ
  old = slot_words p.words pool slot

  abbrev after : Inside
  after = record p { words = written_within p.words pool slot ws }

  known : pool < 5
  known = h.known pool its

  count : length p.free ≡ page_slots pool
  count = h.long ∙ ap count_of its

  within : slot < page_slots pool
  within = slot_within p pool slot h its used

  wide : length (put_chunk 0 old ws) ≡ words_of pool
  wide = length-put_chunk 0 old ws ∙ length-slot_words p.words pool slot h.whole known within

  found_after : (k : ℕ) (words : List ℕ) → slot_words (written_within p.words pool slot ws) pool k ≡ words
      → found_from after k ≡ cond (bit p.free k) None (Some words)
  found_after k words e = ap (λ o. cond (bit p.free k) None (Some (slot_on o (written_within p.words pool slot ws) k))) its
      ∙ ap (λ found. cond (bit p.free k) None (Some found)) e

  pub same : slot_words (written_within p.words pool slot ws) pool slot ≡ put_chunk 0 old ws
  same = slot_words-with_slot_same p.words pool slot (put_chunk 0 old ws) h.whole known within wide

  pub other : (k : ℕ) → k < length p.free → k ≢ slot → slot_words (written_within p.words pool slot ws) pool k ≡ slot_words p.words pool k
  other k inside differ = slot_words-with_slot_other p.words pool slot (put_chunk 0 old ws) k h.whole known (let n = count in omega arith) wide differ

  pub lent : page_from after ≡ written_in (page_from p) slot ws
  unfolding written_in
  lent =
      let t = used_is p slot used in
      one_slot p after slot (over ws (found_in (page_from p) slot)) refl refl refl t.0
      (found_after slot (put_chunk 0 old ws) same ∙ cond-false (bit p.free slot) None _ t.1 ∙ sym (ap (over ws) (found_on p pool slot its used)))
      (λ k inside differ. found_after k (slot_words p.words pool k) (other k inside differ)
      ∙ sym (ap (λ o. cond (bit p.free k) None (Some (slot_on o p.words k))) its))

  pub linked_after_loan : AreLinked p.pool (written_within p.words pool slot ws) p.free
  linked_after_loan k b =
      let t = used_is p slot used in
      let e : slot_on p.pool (written_within p.words pool slot ws) k ≡ slot_on p.pool p.words k =
      ap (λ o. slot_on o (written_within p.words pool slot ws) k) its
      ∙ other k (within_from_bit p.free k b) (λ same. true≢false (sym b ∙ ap (bit p.free) same ∙ t.1))
      ∙ sym (ap (λ o. slot_on o p.words k) its) in
      subst (IsLinked p.free k) (sym e) (h.linked k b)

  pub clear_after_loan : IsClearPast p.pool (written_within p.words pool slot ws)
  clear_after_loan = clear_after p.pool pool p.words (written_within p.words pool slot ws) its
      (λ k past. get_or-with_slot_past p.words pool slot (put_chunk 0 old ws) k 0 within wide past) h.clear_past
