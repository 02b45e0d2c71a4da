-- The first free slot of the lowest page of a pool is at the pool's least free address.
use Rattle.std.proofs.Common.{◌≡◌, ◌⊎◌, inl, inr, ⊎_elim, ℕ, zero, suc, ◌+◌, ◌-◌, ◌*◌, ◌/◌, ◌<◌, ◌≤◌, true, false, true≢false, [], length, refl, sym, ap, ◌∙◌, arith, None, Some}
use Rattle.std.specs.Prelude.{is_none, is_some}
use Rattle.std.proofs.Math.Nat.{mul-le-mul_left}
use Rattle.std.proofs.lemmas.Bool.{cases_lt, cases_eq}
use Rattle.std.proofs.lemmas.List.{get_or_past}
use Rattle.space_model.specs.Layout.{slot_bytes, page_slots, slot_address, page_of}
use Rattle.space_pools.specs.PageSlots.{PageSlots, spare_page, free_in, used_in, count_of}
use Rattle.space_pools.specs.PoolsView.{PoolsView, page_at, pool_at, free_at, unswept_at}
use Rattle.space_pools.specs.Free.{IsFreeAt, IsLeastFree, IsLowestFreeSlot, TakesFreeSlot, TakesLeast}
use Rattle.space_pools.specs.Sound.{IsSoundPools}

pub free_within : (p : PageSlots) (slot : ℕ) → free_in p slot ≡ true → slot < length p.slots
free_within p slot free = ⊎_elim
    (λ within. within)
    (λ past. absurd (true≢false (sym free ∙ ap is_none (get_or_past p.slots slot (Some []) past))))
    (cases_lt slot (length p.slots))

pub used_within : (p : PageSlots) (slot : ℕ) → used_in p slot ≡ true → slot < length p.slots
used_within p slot used = ⊎_elim
    (λ within. within)
    (λ past. absurd (true≢false (sym used ∙ ap is_some (get_or_past p.slots slot None past))))
    (cases_lt slot (length p.slots))

-- a page with a slot is one of the pages
pub page_within : (v : PoolsView) (page slot : ℕ) → slot < length (page_at v page).slots → page < length v.pages
page_within v page slot here = ⊎_elim
    (λ within. within)
    (λ past. let e : length (page_at v page).slots ≡ 0 = ap (λ (p : PageSlots). length p.slots) (get_or_past v.pages page spare_page past) in
    absurd (omega arith))
    (cases_lt page (length v.pages))

pub slot_within : (v : PoolsView) (pool page slot : ℕ) → IsSoundPools v → pool_at v page ≡ Some pool → slot < length (page_at v page).slots
    → slot < page_slots pool
slot_within v pool page slot sound its here =
    let long = (sound.sound page).long in
    let e : count_of (page_at v page).pool ≡ page_slots pool = ap count_of its in
    omega arith

offset_within : (pool slot : ℕ) → pool < 5 → slot < page_slots pool → slot_bytes pool * slot < 65536
unfolding slot_bytes page_slots
offset_within zero slot known within = omega arith
offset_within (suc zero) slot known within = omega arith
offset_within (suc (suc zero)) slot known within = omega arith
offset_within (suc (suc (suc zero))) slot known within = omega arith
offset_within (suc (suc (suc (suc zero)))) slot known within = omega arith
offset_within (suc (suc (suc (suc (suc pool))))) slot known within = absurd (omega arith)

-- addresses are in the order of pages, and on a page in the order of slots
pub address_order : (pool page slot page' slot' : ℕ) → pool < 5 → slot < page_slots pool → (page < page') ⊎ ((page ≡ page') × (slot ≤ slot'))
    → slot_address page pool slot ≤ slot_address page' pool slot'
unfolding slot_address
address_order pool page slot page' slot' known within (inl below) = let o = offset_within pool slot known within in omega arith
address_order pool page slot page' slot' known within (inr (same, below)) = let o = mul-le-mul_left {m = slot} {n = slot'} (slot_bytes pool) below in
    omega arith

some_bytes : (pool : ℕ) → pool < 5 → 0 < slot_bytes pool
unfolding slot_bytes
some_bytes zero known = omega arith
some_bytes (suc zero) known = omega arith
some_bytes (suc (suc zero)) known = omega arith
some_bytes (suc (suc (suc zero))) known = omega arith
some_bytes (suc (suc (suc (suc zero)))) known = omega arith
some_bytes (suc (suc (suc (suc (suc pool))))) known = absurd (omega arith)

same_slot : (n slot slot' : ℕ) → 0 < n → n * slot ≡ n * slot' → slot ≡ slot'
same_slot n slot slot' some e = ⊎_elim
    (λ below. let o = mul-le-mul_left {m = slot + 1} {n = slot'} n (omega arith) in absurd (omega arith))
    (λ at. ⊎_elim
    (λ above. let o = mul-le-mul_left {m = slot' + 1} {n = slot} n (omega arith) in absurd (omega arith))
    (λ past. omega arith)
    (cases_lt slot' slot))
    (cases_lt slot slot')

-- an address has one page and one slot
pub same_address : (pool page slot page' slot' : ℕ) → pool < 5 → slot < page_slots pool → slot' < page_slots pool
    → slot_address page pool slot ≡ slot_address page' pool slot' → (page ≡ page') × (slot ≡ slot')
unfolding slot_address
same_address pool page slot page' slot' known within within' e =
    let o = offset_within pool slot known within in
    let o' = offset_within pool slot' known within' in
    let p : page ≡ page' = omega arith in
    (p, same_slot (slot_bytes pool) slot slot' (some_bytes pool known) (omega arith))

module _ (v : PoolsView) (pool page slot : ℕ) (sound : IsSoundPools v) (known : pool < 5) (h : IsLowestFreeSlot v pool page slot) where
  here : slot < length (page_at v page).slots
  here = free_within (page_at v page) slot h.first.is_free

  pub place_limited : page < 4096
  place_limited = let l = sound.limited in let m = sound.most in let w = page_within v page slot here in omega arith

  pub place_within : slot < page_slots pool
  place_within = slot_within v pool page slot sound h.has_pool here

  before : (f-page f-slot : ℕ) → pool_at v f-page ≡ Some pool → free_at v f-page f-slot ≡ true → unswept_at v f-page ≡ false
      → (page < f-page) ⊎ ((page ≡ f-page) × (slot ≤ f-slot))
  before f-page f-slot its free swept = ⊎_elim
      (λ lower. absurd (true≢false (sym free ∙ h.below f-page lower its f-slot swept)))
      (λ upper. ⊎_elim
      (λ same. inr (
        same,
        ⊎_elim
            (λ first. absurd (true≢false (sym free ∙ ap (λ k. free_at v k f-slot) (sym same) ∙ h.first.below f-slot first)))
            (λ later. later)
            (cases_lt f-slot slot),
      ))
      (λ differ. inl (omega arith))
      (cases_eq page f-page))
      (cases_lt f-page page)

  least : (address : ℕ) → address ≡ slot_address page pool slot → (other : ℕ) → IsFreeAt v pool other → address ≤ other
  least address is other f =
      let o = address_order pool page slot f.page f.slot known place_within (before f.page f.slot f.has_pool f.is_free f.is_swept) in
      let e = f.is in
      omega arith

  pub least_place : (address : ℕ) → address ≡ slot_address page pool slot → IsLeastFree v pool address
  least_place address is = record {
    free = record { page = page; slot = slot; has_pool = h.has_pool; is_free = h.first.is_free; is_swept = h.first.is_swept; is = is };
    least = least address is;
  }

  pub takes_least : (w : PoolsView) (address : ℕ) → address ≡ slot_address page pool slot → TakesFreeSlot v w pool page slot → TakesLeast v w pool address
  takes_least w address is t = record {
    found = record {
      free = record { page = page; slot = slot; has_pool = h.has_pool; is_free = h.first.is_free; is_swept = h.first.is_swept; is = is };
      least = least address is;
    };
    words = t.words;
    long = t.long;
    becomes = t.becomes;
  }

pub page_is : (a : ℕ) → a / 65536 - 1 ≡ page_of a
unfolding page_of
page_is a = refl
