-- Where the slots of a page start, for the callers: at the addresses that the definitions give.
use Rattle.std.proofs.Common.{◌≡◌, ℕ, ◌*◌, ◌<◌, true, refl, sym, ap, ◌∙◌, arith, Option, None, Some}
use Rattle.std.proofs.lemmas.Bool.{and_parts, and_from, eqb-true}
use Rattle.std.proofs.lemmas.Bool.Decides.{nat_tests}
use Rattle.space_model.specs.Layout.{page_of, page_slots, slot_address}
use Rattle.space_heap.specs.HeapView.{bytes_of, slot_number, is_start}
use Rattle.space_heap.specs.FreeSlots.{is_slot_in}
use Rattle.space_heap.proofs.starts.Starts.{start_parts, start_from, address_start, start_address}

-- the address of a slot of a page of the pool is a start
pub slot_in-address : (page pool slot : ℕ) → pool < 5 → slot < page_slots pool → is_slot_in (Some pool) pool (slot_address page pool slot) ≡ true
slot_in-address page pool slot known low =
    let a : ℕ = slot_address page pool slot in
    let s = address_start pool page slot a known low refl in
    let start : is_start (Some pool) (page_slots pool) a ≡ true =
    start_from (Some pool) (page_slots pool) a s.0 (let n = s.2 in omega arith) (ap (λ k. bytes_of (Some pool) * k) s.2 ∙ s.3) in
    and_from _ _ (grind (arith, nat_tests)) start

-- what it tells that a slot of the pool starts at the address
pub record IsSlotAddress (own : Option ℕ) (pool a : ℕ) : Type 0 where
  pub its : own ≡ Some pool
  pub slot : ℕ
  pub on_page : slot < page_slots pool
  pub is : a ≡ slot_address (page_of a) pool slot

pub slot_in_parts : (own : Option ℕ) (pool a : ℕ) → is_slot_in own pool a ≡ true → IsSlotAddress own pool a
slot_in_parts None pool a e = cc
slot_in_parts (Some own) pool a e =
    let p = and_parts _ _ e in
    let same : own ≡ pool = eqb-true _ _ p.0 in
    let start = start_parts (Some own) (page_slots own) a p.1 in
    rw (sym same) (record { its = refl; slot = slot_number (Some own) a; on_page = start.within; is = start_address own (page_slots own) a start })
