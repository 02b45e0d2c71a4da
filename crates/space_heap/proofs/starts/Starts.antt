-- An address has one page and one slot.
use Rattle.std.proofs.Common.{◌≡◌, ◌≢◌, ℕ, zero, suc, ◌*◌, ◌%◌, ◌<◌, ◌≤◌, true, false, sym, ap, ◌∙◌, arith, Option, Some}
use Rattle.std.proofs.lemmas.Bool.{and_parts, ltb-true, leb-true, eqb-true}
use Rattle.std.proofs.lemmas.Bool.Decides.{nat_tests}
use Rattle.space_model.specs.Layout.{slot_bytes, page_slots, slot_address, page_of}
use Rattle.space_heap.specs.HeapView.{bytes_of, slot_number, is_start}

-- what it tells that an address is the start of a slot
pub record Start (pool : Option ℕ) (count a : ℕ) : Type 0 where
  pub past : 65536 ≤ a
  pub within : slot_number pool a < count
  pub exact : bytes_of pool * slot_number pool a ≡ a % 65536

pub start_parts : (pool : Option ℕ) (count a : ℕ) → is_start pool count a ≡ true → Start pool count a
start_parts pool count a e =
    let p = and_parts _ _ e in
    let q = and_parts _ _ p.1 in
    record { past = leb-true _ _ p.0; within = ltb-true _ _ q.0; exact = eqb-true _ _ q.1 }

pub start_from : (pool : Option ℕ) (count a : ℕ) → 65536 ≤ a → slot_number pool a < count → bytes_of pool * slot_number pool a ≡ a % 65536
    → is_start pool count a ≡ true
start_from pool count a past within exact = grind (arith, nat_tests)

-- two starts on one page in one slot are one
pub same_start : (pool pool' : Option ℕ) (count count' a b : ℕ) → Start pool count a → Start pool' count' b → pool ≡ pool' → page_of a ≡ page_of b
    → slot_number pool a ≡ slot_number pool' b → a ≡ b
unfolding page_of
same_start pool pool' count count' a b p q same page slot =
    let r : a % 65536 ≡ b % 65536 = sym p.exact ∙ ap (λ k. bytes_of k * slot_number pool a) same ∙ ap (λ k. bytes_of pool' * k) slot ∙ q.exact in
    let past = p.past in
    let past' = q.past in
    grind (arith, r, page)

-- the address of a slot is its start
pub address_start : (pool page slot a : ℕ) → pool < 5 → slot < page_slots pool → a ≡ slot_address page pool slot
    → (65536 ≤ a) × (page_of a ≡ page) × (slot_number (Some pool) a ≡ slot) × (slot_bytes pool * slot ≡ a % 65536)
unfolding slot_bytes page_slots slot_address page_of
address_start zero page slot a known within is = (omega arith, grind arith, grind arith, grind arith)
address_start (suc zero) page slot a known within is = (omega arith, grind arith, grind arith, grind arith)
address_start (suc (suc zero)) page slot a known within is = (omega arith, grind arith, grind arith, grind arith)
address_start (suc (suc (suc zero))) page slot a known within is = (omega arith, grind arith, grind arith, grind arith)
address_start (suc (suc (suc (suc zero)))) page slot a known within is = (omega arith, grind arith, grind arith, grind arith)
address_start (suc (suc (suc (suc (suc pool))))) page slot a known within is = absurd (omega arith)

-- a start is the address of its slot
pub start_address : (pool count a : ℕ) → Start (Some pool) count a → a ≡ slot_address (page_of a) pool (slot_number (Some pool) a)
unfolding slot_address page_of
start_address pool count a h =
    let past = h.past in
    let exact = h.exact in
    grind (arith, exact)

pub some_bytes : (pool : ℕ) → pool < 5 → 0 < slot_bytes pool
unfolding slot_bytes
some_bytes zero known = omega arith
some_bytes (suc zero) known = omega arith
some_bytes (suc (suc zero)) known = omega arith
some_bytes (suc (suc (suc zero))) known = omega arith
some_bytes (suc (suc (suc (suc zero)))) known = omega arith
some_bytes (suc (suc (suc (suc (suc pool))))) known = absurd (omega arith)

pub few_bytes : (pool : ℕ) → pool < 5 → slot_bytes pool ≤ 640
unfolding slot_bytes
few_bytes zero known = omega arith
few_bytes (suc zero) known = omega arith
few_bytes (suc (suc zero)) known = omega arith
few_bytes (suc (suc (suc zero))) known = omega arith
few_bytes (suc (suc (suc (suc zero)))) known = omega arith
few_bytes (suc (suc (suc (suc (suc pool))))) known = absurd (omega arith)

pub few_slots : (pool : ℕ) → pool < 5 → page_slots pool ≤ 1638
unfolding page_slots slot_bytes
few_slots zero known = omega arith
few_slots (suc zero) known = omega arith
few_slots (suc (suc zero)) known = omega arith
few_slots (suc (suc (suc zero))) known = omega arith
few_slots (suc (suc (suc (suc zero)))) known = omega arith
few_slots (suc (suc (suc (suc (suc pool))))) known = absurd (omega arith)

-- no address below the first page is a start
pub no_start_below : (pool : Option ℕ) (count a : ℕ) → a < 65536 → is_start pool count a ≡ false
no_start_below pool count a below = grind (arith, nat_tests)

pub no_start_past : (pool : Option ℕ) (count a : ℕ) → count ≤ slot_number pool a → is_start pool count a ≡ false
no_start_past pool count a past = grind (arith, nat_tests)

pub no_start_inside : (pool : Option ℕ) (count a : ℕ) → bytes_of pool * slot_number pool a ≢ a % 65536 → is_start pool count a ≡ false
no_start_inside pool count a inside = grind (arith, nat_tests)
