use Rattle.std.proofs.Common.{◌≡◌, ◌≢◌, ◌≤◌, ◌<◌, ◌↔◌, ℕ, length, ap, sym, ◌∙◌, subst, arith, Option, Some, None}
use Rattle.space_model.specs.Layout.{page_slots, slot_address}
use Rattle.space_pools.specs.PoolsView.{pool_at}
use Rattle.space_heap.specs.HeapView.{HeapView}
use Rattle.space_heap.proofs.fields.Views.{length-pages_from}
use Rattle.space_heap.proofs.walks.LastSlots.{none_of_other, found_none, found_last}
use Rattle.space_heap.proofs.heap.Heap.last_on.Goals as goal

pub page_pool-requires : goal.page_pool-requires
page_pool-requires c =
    let n = length-pages_from c.self.inside.pools c.self.inside.marks.items in
    let e = ap (λ (v : HeapView). length v.pages) c.self.view_is in
    let r = c.requires in
    omega arith

-- the page is spare
never : (r of : Option ℕ) (pool : ℕ) → r ≡ of → r ≡ None → of ≡ Some pool → ⊥
never r of pool e none its = cc

pub returns-in_default : goal.returns-in_default
returns-in_default c = none_of_other c.self.inside _ c.self.view_is c.self.invariant c.page_pool.ensures.sound c.args.page c.args.pool c.args.below
    (never c.page_pool.result (pool_at c.self.inside.pools c.args.page) c.args.pool c.page_pool.ensures.pool c.in_default.is)

-- the page is one of another pool
apart : (of : Option ℕ) (own pool : ℕ) → Some own ≡ of → own ≢ pool → of ≡ Some pool → ⊥
apart of own pool e differ its = let p : Some own ≡ Some pool = e ∙ its in differ cc

pub returns-then-own-pool : goal.returns-then-own-pool
returns-then-own-pool c = none_of_other c.self.inside _ c.self.view_is c.self.invariant c.page_pool.ensures.sound c.args.page c.args.pool c.args.below
    (apart (pool_at c.self.inside.pools c.args.page) c.in-Some.own c.args.pool c.in-Some.ensures.pool c.if-own-pool.true)

pub returns-in-Some-last_movable : goal.returns-in-Some-last_movable
returns-in-Some-last_movable c =
    let own : c.in-Some.own ≡ c.args.pool = c.if-own-pool.false in
    found_last c.self.inside _ c.self.view_is c.self.invariant c.page_pool.ensures.sound c.args.page c.args.pool c.args.below
    (sym c.in-Some.ensures.pool ∙ ap Some own) c.first_slot-end.result
    (subst (λ p. (k : ℕ) → k < page_slots p → (c.first_slot-end.result ≤ k) ↔ (c.args.below ≤ slot_address c.args.page p k)) own c.first_slot-end.ensures)
    _ c.marks_of.ensures c.in-Some-last_movable.slot c.address_of.result
    (c.address_of.ensures ∙ ap (λ p. slot_address c.args.page p c.in-Some-last_movable.slot) own) c.in-Some-last_movable.ensures

pub returns-in-None : goal.returns-in-None
returns-in-None c =
    let own : c.in-Some.own ≡ c.args.pool = c.if-own-pool.false in
    found_none c.self.inside _ c.self.view_is c.self.invariant c.page_pool.ensures.sound c.args.page c.args.pool c.args.below
    (sym c.in-Some.ensures.pool ∙ ap Some own) c.first_slot-end.result
    (subst (λ p. (k : ℕ) → k < page_slots p → (c.first_slot-end.result ≤ k) ↔ (c.args.below ≤ slot_address c.args.page p k)) own c.first_slot-end.ensures)
    _ c.marks_of.ensures c.in-None.ensures
