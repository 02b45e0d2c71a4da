-- A new object keeps the layout.
use Rattle.std.proofs.Common.{◌≡◌, ◌≢◌, ◌⊎◌, ℕ, ◌+◌, ◌<◌, ◌≤◌, List, [], ◌∷◌, ◌++◌, length, ap, ◌∙◌, sym, subst, arith, Option, None, Some, ⊎_elim, inl, inr}
use Rattle.std.specs.Ordering.{nat_cmp}
use Rattle.std.specs.FinMap.{FinMap, get, insert}
use Rattle.std.proofs.lemmas.Bool.{cases_eq}
use Rattle.std.proofs.lemmas.Bool.Decides.{nat_tests}
use Rattle.std.proofs.lemmas.Grind.{common_steps}
use Rattle.std.proofs.lemmas.List.{length-replicate, length-append}
use Rattle.space_model.specs.declared.event.Event.{Event}
use Rattle.space_model.specs.declared.object.Guard.{Guard}
use Rattle.space_model.specs.declared.object.Style.{Style}
use Rattle.space_model.specs.declared.value.Value.TheVariants.{Nil}
use Rattle.space_model.specs.Graph.{Item}
use Rattle.space_model.specs.Layout.{page_of, pool_for, slot_address, page_slots, slot_bytes}
use Rattle.space_model.specs.NewCommand.{Stage, FreeAddress, WaitingPages, CompletedCompaction, FreshPage, Collection, Finds}
use Rattle.space_model.specs.Pages.{pool_at, with_pool}
use Rattle.space_model.specs.Pieces.{new_item}
use Rattle.space_model.specs.Places.{pool_of, IsSlot, IsNewAt, IsFreshPage}
use Rattle.space_model.specs.Sound.{AreSlots, SoundLayout}
use Rattle.space_model.specs.State.{State}
use Rattle.space_model.proofs.PageLaws.{pool_at-with_pool, length-with_pool, page_of-slot_address}
use Rattle.space_model.proofs.SlotLaws.{item_of-push, item_of-new, held_pool, AreSlots-same, AreSlots-insert}

-- an address where an object may be allocated
pub record IsFreshSlot (s : State) (pool address : ℕ) : Type 0 where
  pub slot : ℕ
  pub below : page_of address ≤ length s.heap.pages
  pub limited : page_of address < s.heap.limit
  pub fits : (pool_at s.heap.pages (page_of address) ≡ Some pool) ⊎ (pool_at s.heap.pages (page_of address) ≡ None)
  pub on_page : slot < page_slots pool
  pub is : address ≡ slot_address (page_of address) pool slot
  pub no_place : (name : ℕ) → get s.heap.place name ≢ Some address

has_slot : (fields : ℕ) → 0 < page_slots (pool_for fields)
unfolding page_slots pool_for slot_bytes
has_slot fields = grind (arith, nat_tests)

within : (pages : List (Option ℕ)) (page pool : ℕ) → pool_at pages page ≡ Some pool → page < length pages
within pages page pool e = grind (arith, common_steps)

past : (pages : List (Option ℕ)) → pool_at pages (length pages) ≡ None
past pages = grind (arith, common_steps)

-- the first slot of a page without a pool
on_page : (s : State) (pool page address : ℕ) → 0 < page_slots pool → page ≤ length s.heap.pages → page < s.heap.limit → pool_at s.heap.pages page ≡ None →
    address ≡ slot_address page pool 0 → AreSlots s.graph s.heap.pages s.heap.place → IsFreshSlot s pool address
on_page s pool page address has below limited none is placed =
    let on : page_of address ≡ page = ap page_of is ∙ page_of-slot_address page pool 0 has in
    record {
      slot = 0;
      below = omega arith;
      limited = omega arith;
      fits = inr (ap (pool_at s.heap.pages) on ∙ none);
      on_page = has;
      is = is ∙ ap (λ page. slot_address page pool 0) (sym on);
      no_place = λ name e.
          let slot = placed.at name address e in
          let where_it_is : page_of address ≡ slot.page = ap page_of slot.is ∙ page_of-slot_address slot.page _ slot.slot slot.on_page in
          let taken : pool_at s.heap.pages page ≡ Some (pool_of s.graph name) = ap (pool_at s.heap.pages) (sym on ∙ where_it_is) ∙ slot.has_pool in
          let f : None ≡ Some (pool_of s.graph name) = sym none ∙ taken in cc;
    }

-- the first slot of a page that gets the pool
abbrev pub IsFirstOfFresh : State → ℕ → ℕ → Type 0
IsFirstOfFresh s pool address = (page : ℕ) × IsFreshPage s page × (address ≡ slot_address page pool 0)

-- the least address that is free for the pool, or the first of a page that gets it
abbrev pub IsFoundAt : State → ℕ → ℕ → Type 0
IsFoundAt s pool address = IsNewAt s pool address ⊎ IsFirstOfFresh s pool address

-- so is the address that a stage finds, in the state that it leaves
pub found_at : (stage : Stage) (s : State) (pool : ℕ) (events : List Event) (t : State) (address : ℕ) → Finds stage s pool events t address →
    IsFoundAt t pool address
found_at FreeAddress s pool events t address (none, same, new) = inl new
found_at WaitingPages s pool events t address (none, pages, sweeps, new) = inl new
found_at CompletedCompaction s pool events t address (compacting, completes, new) = inl new
found_at FreshPage s pool events t address (none, same, page, fresh, is) = inr (page, fresh, is)
found_at Collection s pool events t address found = absurd found

free_slot : (s : State) (fields address : ℕ) → SoundLayout s.graph s.heap.place s.heap.pages s.heap.limit → IsNewAt s (pool_for fields) address →
    IsFreshSlot s (pool_for fields) address
free_slot s fields address h new =
    let at = new.free.at in
    let on : page_of address ≡ at.page = ap page_of at.is ∙ page_of-slot_address at.page (pool_for fields) at.slot at.on_page in
    let here = within s.heap.pages at.page (pool_for fields) at.has_pool in
    let limited = h.limited in
    record {
      slot = at.slot;
      below = omega arith;
      limited = omega arith;
      fits = inl (ap (pool_at s.heap.pages) on ∙ at.has_pool);
      on_page = at.on_page;
      is = at.is ∙ ap (λ page. slot_address page (pool_for fields) at.slot) (sym on);
      no_place = new.free.no_place;
    }

page_slot : (s : State) (fields address : ℕ) → SoundLayout s.graph s.heap.place s.heap.pages s.heap.limit → IsFirstOfFresh s (pool_for fields) address →
    IsFreshSlot s (pool_for fields) address
page_slot s fields address h (page, fresh, is) = ⊎_elim
    (λ (spare, least). let limited = h.limited in let below = spare.0 in
    on_page s (pool_for fields) page address (has_slot fields) (omega arith) (omega arith) spare.1 is h.placed)
    (λ (none, next, below). on_page s (pool_for fields) page address (has_slot fields) (omega arith) below
    (ap (pool_at s.heap.pages) next ∙ past s.heap.pages) is h.placed)
    fresh

-- an address that was found is fresh
pub fresh_slot : (s : State) (fields address : ℕ) → SoundLayout s.graph s.heap.place s.heap.pages s.heap.limit → IsFoundAt s (pool_for fields) address →
    IsFreshSlot s (pool_for fields) address
fresh_slot s fields address h found = ⊎_elim (λ new. free_slot s fields address h new) (λ first. page_slot s fields address h first) found

-- a page that gets a pool has none before
no_pool : (s : State) (page : ℕ) → IsFreshPage s page → pool_at s.heap.pages page ≡ None
no_pool s page fresh = ⊎_elim
    (λ (spare, least). spare.1)
    (λ (none, next, below). ap (pool_at s.heap.pages) next ∙ past s.heap.pages)
    fresh

-- the address of a slot of a page without a pool is that of no name
pub none_on_fresh : (s : State) (map : FinMap nat_cmp ℕ) (fields page address : ℕ) → AreSlots s.graph s.heap.pages map → IsFreshPage s page →
    address ≡ slot_address page (pool_for fields) 0 → (name : ℕ) → get map name ≢ Some address
none_on_fresh s map fields page address slots fresh is name e =
    let on : page_of address ≡ page = ap page_of is ∙ page_of-slot_address page (pool_for fields) 0 (has_slot fields) in
    let has : pool_at s.heap.pages page ≡ Some (pool_of s.graph name) =
    ap (pool_at s.heap.pages) (sym on) ∙ held_pool s.graph s.heap.pages name address (slots.at name address e) in
    let f : None ≡ Some (pool_of s.graph name) = sym (no_pool s page fresh) ∙ has in cc

-- no corpse lies at an address that was found
pub fresh_corpse : (s : State) (fields address : ℕ) → AreSlots s.graph s.heap.pages s.heap.corpses → IsFoundAt s (pool_for fields) address →
    (name : ℕ) → get s.heap.corpses name ≢ Some address
fresh_corpse s fields address slots found name e = ⊎_elim
    (λ new. new.free.no_corpse name e)
    (λ (page, fresh, is). none_on_fresh s s.heap.corpses fields page address slots fresh is name e)
    found

-- and no object left it
pub fresh_left : (s : State) (fields address : ℕ) → AreSlots s.graph s.heap.pages s.heap.left → IsFoundAt s (pool_for fields) address →
    (name : ℕ) → get s.heap.left name ≢ Some address
fresh_left s fields address slots found name e = ⊎_elim
    (λ new. new.free.not_left name e)
    (λ (page, fresh, is). none_on_fresh s s.heap.left fields page address slots fresh is name e)
    found

module _ (s : State) (root : List ℕ) (fields : ℕ) (guard : Guard) (style : Style) (address : ℕ)
    (h : SoundLayout s.graph s.heap.place s.heap.pages s.heap.limit) (f : IsFreshSlot s (pool_for fields) address) where
  abbrev graph' : List Item
  graph' = s.graph ++ new_item guard style fields ∷ []

  abbrev pages' : List (Option ℕ)
  pages' = with_pool s.heap.pages (page_of address) (pool_for fields)

  longer : length s.graph + 1 ≤ length graph'
  longer = let l = length-append s.graph (new_item guard style fields ∷ []) in omega arith

  pools : (map : FinMap nat_cmp ℕ) → AreSlots s.graph s.heap.pages map → (n a : ℕ) → get map n ≡ Some a →
      pool_at pages' (page_of a) ≡ pool_at s.heap.pages (page_of a)
  pools map m n a e =
      let p = pool_at-with_pool s.heap.pages (page_of address) (pool_for fields) (page_of a) f.below in
      let k = held_pool s.graph s.heap.pages n a (m.at n a e) in
      ⊎_elim
      (λ same. let q : pool_at s.heap.pages (page_of a) ≡ pool_at s.heap.pages (page_of address) = ap (pool_at s.heap.pages) same in
      ⊎_elim (λ x. grind (arith, nat_tests, p, same, q, x)) (λ x. absurd (grind (arith, k, q, x))) f.fits)
      (λ other. grind (arith, nat_tests, p, other))
      (cases_eq (page_of a) (page_of address))

  -- a map stays one of slots
  pub slots_stay : (map : FinMap nat_cmp ℕ) → AreSlots s.graph s.heap.pages map → AreSlots graph' pages' map
  slots_stay map m = AreSlots-same s.graph graph' s.heap.pages pages' map (let l = longer in omega arith)
      (λ n a b. ap (λ (item : Item). pool_for (length item.values)) (item_of-push s.graph (new_item guard style fields) n a b)) (pools map m) m

  new_slot : IsSlot pages' (pool_of graph' (length s.graph + 1)) address
  new_slot =
      let e : pool_of graph' (length s.graph + 1) ≡ pool_for fields =
      ap (λ (item : Item). pool_for (length item.values)) (item_of-new s.graph (new_item guard style fields)) ∙ ap pool_for (length-replicate fields Nil) in
      let p = pool_at-with_pool s.heap.pages (page_of address) (pool_for fields) (page_of address) f.below in
      let here : pool_at pages' (page_of address) ≡ Some (pool_for fields) = grind (arith, nat_tests, p) in
      record {
        page = page_of address;
        slot = f.slot;
        has_pool = here ∙ ap Some (sym e);
        on_page = subst (λ q. f.slot < page_slots q) (sym e) f.on_page;
        is = f.is ∙ ap (λ q. slot_address (page_of address) q f.slot) (sym e);
      }

  pub SoundLayout-born : SoundLayout graph' (insert s.heap.place (length s.graph + 1) address) pages' s.heap.limit
  SoundLayout-born = record {
    placed = AreSlots-insert graph' pages' s.heap.place (length s.graph + 1) address (omega arith) longer new_slot f.no_place
        (slots_stay s.heap.place h.placed);
    limited = length-with_pool s.heap.pages (page_of address) (pool_for fields) s.heap.limit f.limited h.limited f.below;
  }
