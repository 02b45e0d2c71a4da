-- The first slot of a page whose address isn't below another address.
use Rattle.std.proofs.Common.{◌≡◌, ℕ, zero, suc, ◌+◌, ◌-◌, ◌/◌, ◌<◌, ◌≤◌, ◌↔◌, arith}
use Rattle.space_model.specs.Layout.{slot_bytes, page_slots, slot_address}

pub some_slots : (pool : ℕ) → pool < 5 → 0 < page_slots pool
unfolding page_slots slot_bytes
some_slots zero known = omega arith
some_slots (suc zero) known = omega arith
some_slots (suc (suc zero)) known = omega arith
some_slots (suc (suc (suc zero))) known = omega arith
some_slots (suc (suc (suc (suc zero)))) known = omega arith
some_slots (suc (suc (suc (suc (suc pool))))) known = absurd (omega arith)

pub near : (page pool from start k : ℕ) → start ≡ slot_address page pool 0 → from ≤ start → (0 ≤ k) ↔ (from ≤ slot_address page pool k)
unfolding slot_address
near page pool from start k is h = (λ _. omega arith, λ _. omega arith)

pub far : (page pool from start k : ℕ) → pool < 5 → k < page_slots pool → start ≡ slot_address page pool 0 → 65536 < from - start
    → (1638 ≤ k) ↔ (from ≤ slot_address page pool k)
unfolding slot_address slot_bytes page_slots
far page zero from start k known within is h = (λ e. absurd (omega arith), λ e. absurd (omega arith))
far page (suc zero) from start k known within is h = (λ e. absurd (omega arith), λ e. absurd (omega arith))
far page (suc (suc zero)) from start k known within is h = (λ e. absurd (omega arith), λ e. absurd (omega arith))
far page (suc (suc (suc zero))) from start k known within is h = (λ e. absurd (omega arith), λ e. absurd (omega arith))
far page (suc (suc (suc (suc zero)))) from start k known within is h = (λ e. absurd (omega arith), λ e. absurd (omega arith))
far page (suc (suc (suc (suc (suc pool))))) from start k known within is h = absurd (omega arith)

pub ceiling : (page pool from start bytes k : ℕ) → pool < 5 → bytes ≡ slot_bytes pool → start ≡ slot_address page pool 0 → start < from
    → ((from - start + bytes - 1) / bytes ≤ k) ↔ (from ≤ slot_address page pool k)
unfolding slot_address slot_bytes
ceiling page zero from start bytes k known e is h = let b : bytes ≡ 40 = e in rw b ((λ g. grind (arith, g, is, h), λ g. grind (arith, g, is, h)))
ceiling page (suc zero) from start bytes k known e is h = let b : bytes ≡ 80 = e in rw b ((λ g. grind (arith, g, is, h), λ g. grind (arith, g, is, h)))
ceiling page (suc (suc zero)) from start bytes k known e is h = let b : bytes ≡ 160 = e in rw b ((λ g. grind (arith, g, is, h), λ g. grind (arith, g, is, h)))
ceiling page (suc (suc (suc zero))) from start bytes k known e is h = let b : bytes ≡ 320 = e in
    rw b ((λ g. grind (arith, g, is, h), λ g. grind (arith, g, is, h)))
ceiling page (suc (suc (suc (suc zero)))) from start bytes k known e is h = let b : bytes ≡ 640 = e in
    rw b ((λ g. grind (arith, g, is, h), λ g. grind (arith, g, is, h)))
ceiling page (suc (suc (suc (suc (suc pool))))) from start bytes k known e is h = absurd (omega arith)
