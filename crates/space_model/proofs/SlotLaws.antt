-- Maps whose names stand at slots of their own.
use Rattle.std.proofs.Common.{◌≡◌, ◌≢◌, ℕ, zero, suc, ◌+◌, ◌-◌, ◌<◌, ◌≤◌, true, nat_eq, List, [], ◌∷◌, ◌++◌, length, get_or, set, refl, sym, ap, ◌∙◌, subst, arith, Option, Some, ⊎_elim}
use Rattle.std.specs.Prelude.{is_some}
use Rattle.std.specs.Set.{is_member}
use Rattle.std.specs.Ordering.{nat_cmp}
use Rattle.std.specs.FinMap.{FinMap, get, insert}
use Rattle.std.proofs.lemmas.Bool.{cases_eq}
use Rattle.std.proofs.lemmas.Bool.Decides.{nat_tests}
use Rattle.std.proofs.lemmas.List.{length-set}
use Rattle.std.proofs.Math.ListN.{get_or-append}
use Rattle.std.proofs.Math.Seq.{get_or-append_seam}
use Rattle.space_model.specs.Layout.{page_of, slot_address, page_slots}
use Rattle.space_model.specs.Graph.{Item, no_item, item_of, with_item}
use Rattle.space_model.specs.Pages.{pool_at}
use Rattle.space_model.specs.Places.{pool_of, IsSlot}
use Rattle.space_model.specs.Sound.{AreSlots}
use Rattle.space_model.specs.Maps.{carried_over}
use Rattle.space_model.proofs.MapLaws.{get-insert_name, held_over}
use Rattle.space_model.proofs.PageLaws.{page_of-slot_address}

-- the item of a name is the one at the place before its number
pub item_of-at : (graph : List Item) (name : ℕ) → 0 < name → item_of graph name ≡ get_or graph (name - 1) no_item
item_of-at graph zero some = absurd (omega arith)
item_of-at graph (suc index) some = ap (λ i. get_or graph i no_item) (let e : index ≡ suc index - 1 = omega arith in e)

-- an item is put there too
pub with_item-at : (graph : List Item) (name : ℕ) (item : Item) → 0 < name → with_item graph name item ≡ set graph (name - 1) item
with_item-at graph zero item some = absurd (omega arith)
with_item-at graph (suc index) item some = ap (λ i. set graph i item) (let e : index ≡ suc index - 1 = omega arith in e)

pub length-with_item : (graph : List Item) (name : ℕ) (item : Item) → length (with_item graph name item) ≡ length graph
length-with_item graph zero item = refl
length-with_item graph (suc index) item = length-set graph index item

pub item_of-push : (graph : List Item) (item : Item) (name : ℕ) → 0 < name → name ≤ length graph → item_of (graph ++ item ∷ []) name ≡ item_of graph name
item_of-push graph item name some born =
    item_of-at (graph ++ item ∷ []) name some
    ∙ get_or-append graph (item ∷ []) no_item (name - 1) (omega arith)
    ∙ sym (item_of-at graph name some)

pub item_of-new : (graph : List Item) (item : Item) → item_of (graph ++ item ∷ []) (length graph + 1) ≡ item
item_of-new graph item =
    let e : (length graph + 1) - 1 ≡ length graph = omega arith in
    item_of-at (graph ++ item ∷ []) (length graph + 1) (omega arith)
    ∙ ap (λ i. get_or (graph ++ item ∷ []) i no_item) e
    ∙ get_or-append_seam graph item [] no_item

pub IsSlot-same : (graph graph' : List Item) (pages pages' : List (Option ℕ)) (name address : ℕ) → pool_of graph' name ≡ pool_of graph name →
    pool_at pages' (page_of address) ≡ pool_at pages (page_of address) → IsSlot pages (pool_of graph name) address → IsSlot pages' (pool_of graph' name) address
IsSlot-same graph graph' pages pages' name address pool p h =
    let on : page_of address ≡ h.page = ap page_of h.is ∙ page_of-slot_address h.page (pool_of graph name) h.slot h.on_page in
    let has : pool_at pages' h.page ≡ Some (pool_of graph name) = rw on at p ∙ h.has_pool in
    record {
      page = h.page;
      slot = h.slot;
      has_pool = has ∙ ap Some (sym pool);
      on_page = subst (λ q. h.slot < page_slots q) (sym pool) h.on_page;
      is = h.is ∙ ap (λ q. slot_address h.page q h.slot) (sym pool);
    }

-- the page of a slot that is held has its pool
pub held_pool : (graph : List Item) (pages : List (Option ℕ)) (name address : ℕ) → IsSlot pages (pool_of graph name) address →
    pool_at pages (page_of address) ≡ Some (pool_of graph name)
held_pool graph pages name address h = ap (pool_at pages) (ap page_of h.is ∙ page_of-slot_address h.page (pool_of graph name) h.slot h.on_page) ∙ h.has_pool

-- the pools of pages that are used stay, and the names stay as they were
pub AreSlots-same : (graph graph' : List Item) (pages pages' : List (Option ℕ)) (map : FinMap nat_cmp ℕ) → length graph ≤ length graph' →
    ((name : ℕ) → 0 < name → name ≤ length graph → pool_of graph' name ≡ pool_of graph name) →
    ((name address : ℕ) → get map name ≡ Some address → pool_at pages' (page_of address) ≡ pool_at pages (page_of address)) → AreSlots graph pages map →
    AreSlots graph' pages' map
AreSlots-same graph graph' pages pages' map long same pools h = record {
  allocated = λ n a e. let b = h.allocated n a e in (b.0, omega arith);
  at = λ n a e. let b = h.allocated n a e in IsSlot-same graph graph' pages pages' n a (same n b.0 b.1) (pools n a e) (h.at n a e);
  once = h.once;
}

-- fewer names
pub AreSlots-part : (graph : List Item) (pages : List (Option ℕ)) (map part : FinMap nat_cmp ℕ) →
    ((name address : ℕ) → get part name ≡ Some address → get map name ≡ Some address) → AreSlots graph pages map → AreSlots graph pages part
AreSlots-part graph pages map part sub h = record {
  allocated = λ n a e. h.allocated n a (sub n a e);
  at = λ n a e. h.at n a (sub n a e);
  once = λ n k a e f. h.once n k a (sub n a e) (sub k a f);
}

-- names of one map join another, from which it is apart
pub AreSlots-over : (graph : List Item) (pages : List (Option ℕ)) (from to : FinMap nat_cmp ℕ) (names : List ℕ) →
    ((name : ℕ) → is_member nat_eq names name ≡ true → is_some (get from name) ≡ true) →
    ((name other address : ℕ) → get from name ≡ Some address → get to other ≡ Some address → ⊥) → AreSlots graph pages from → AreSlots graph pages to →
    AreSlots graph pages (carried_over from to names)
AreSlots-over graph pages from to names present apart h k = record {
  allocated = λ n a e. ⊎_elim (λ c. h.allocated n a c.0) (λ c. k.allocated n a c.0) (held_over from to names n a present e);
  at = λ n a e. ⊎_elim (λ c. h.at n a c.0) (λ c. k.at n a c.0) (held_over from to names n a present e);
  once = λ n q a e f. ⊎_elim
      (λ c. ⊎_elim (λ d. h.once n q a c.0 d.0) (λ d. absurd (apart n q a c.0 d.0)) (held_over from to names q a present f))
      (λ c. ⊎_elim (λ d. absurd (apart q n a d.0 c.0)) (λ d. k.once n q a c.0 d.0) (held_over from to names q a present f))
      (held_over from to names n a present e);
}

-- one more name, at an address of its own
pub AreSlots-insert : (graph : List Item) (pages : List (Option ℕ)) (map : FinMap nat_cmp ℕ) (name address : ℕ) → 0 < name → name ≤ length graph →
    IsSlot pages (pool_of graph name) address → ((other : ℕ) → get map other ≢ Some address) → AreSlots graph pages map →
    AreSlots graph pages (insert map name address)
AreSlots-insert graph pages map name address some born slot free h = record {
  allocated = λ n a e. let g = get-insert_name map name address n in let b = h.allocated n a in grind (arith, nat_tests, g, e, b, cases_eq n name);
  at = λ n a e. ⊎_elim
      (λ same. let g = get-insert_name map name address n in let q : a ≡ address = grind (arith, nat_tests, g, e, same) in
      subst (λ x. IsSlot pages (pool_of graph x) a) (sym same) (subst (λ x. IsSlot pages (pool_of graph name) x) (sym q) slot))
      (λ other. let g = get-insert_name map name address n in h.at n a (grind (arith, nat_tests, g, e, other)))
      (cases_eq n name);
  once = λ n k a e f. grind (
    arith,
    nat_tests,
    get-insert_name map name address n,
    get-insert_name map name address k,
    e,
    f,
    h.once n k a,
    free n,
    free k,
    cases_eq n name,
    cases_eq k name,
  );
}
