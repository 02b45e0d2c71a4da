use Rattle.std.proofs.Common.{◌≡◌, ℕ, ◌<◌, ◌≤◌, ◌↔◌, length, ap, sym, subst, arith, Some}
use Rattle.space_model.specs.Layout.{page_slots, slot_address}
use Rattle.space_pools.specs.PoolsView.{pool_at}
use Rattle.space_heap.specs.declared.marks.Marks.{Marks}
use Rattle.space_heap.specs.HeapView.{HeapView}
use Rattle.space_heap.specs.Walks.{HasNoneFrom, HasNoneOn, is_sought_in, is_sought}
use Rattle.space_heap.specs.Inside.{rest_of}
use Rattle.space_heap.proofs.fields.Views.{length-pages_from}
use Rattle.space_heap.proofs.starts.PoolStarts.{wide_slot}
use Rattle.space_heap.proofs.walks.SlotWalks.{none_on_spare, none_on_page, found_next, found_used, found_name, found_few}
use Rattle.space_heap.proofs.walks.WalkPlaces.{in_order, pool_seen, goes_on}
use Rattle.space_heap.proofs.heap.Heap.first_on.Goals as goal

pub page_pool-requires : goal.page_pool-requires
page_pool-requires c =
    let n = length-pages_from c.self.inside.pools c.self.inside.marks.items in
    let e = ap (λ (v : HeapView). length v.pages) c.self.view_is in
    let r = c.requires in
    omega arith

pub slot-requires : goal.slot-requires
slot-requires c =
    let known = (c.page_pool.ensures.sound.sound c.args.page).known c.in-Some.pool (sym c.in-Some.ensures.pool) in
    found_used c.self.inside _ c.self.view_is c.self.invariant c.page_pool.ensures.sound c.args.sought c.args.page c.in-Some.pool
    c.args.start (slot_address c.args.page c.in-Some.pool c.args.start) c.in-Some-first.slot c.address_of-address.result (sym c.in-Some.ensures.pool)
    (λ k within. in_order c.args.page c.in-Some.pool c.args.start k known)
    c.address_of-address.ensures _ c.marks_of.ensures c.in-Some-first.ensures

pub bounds-slot-1 : goal.bounds-slot-1
bounds-slot-1 c =
    let known = (c.page_pool.ensures.sound.sound c.args.page).known c.in-Some.pool (sym c.in-Some.ensures.pool) in
    let used = found_used c.self.inside _ c.self.view_is c.self.invariant c.page_pool.ensures.sound c.args.sought c.args.page c.in-Some.pool
    c.args.start (slot_address c.args.page c.in-Some.pool c.args.start) c.in-Some-first.slot c.address_of-address.result (sym c.in-Some.ensures.pool)
    (λ k within. in_order c.args.page c.in-Some.pool c.args.start k known)
    c.address_of-address.ensures _ c.marks_of.ensures c.in-Some-first.ensures in
    let wide = wide_slot c.self.inside.pools c.args.page c.in-Some-first.slot c.page_pool.ensures.sound used in
    let long = c.slot.ensures.len in
    omega arith

pub returns-in-Some-first-clause-found : goal.returns-in-Some-first-clause-found
returns-in-Some-first-clause-found c = λ from starts.
    let first : (k : ℕ) → k < page_slots c.in-Some.pool → (c.args.start ≤ k) ↔ (from ≤ slot_address c.args.page c.in-Some.pool k) =
    λ k within. starts c.in-Some.pool k (pool_seen c.self.inside _ c.self.view_is c.args.page c.in-Some.pool (sym c.in-Some.ensures.pool)) within in (
      found_next c.self.inside _ c.self.view_is c.self.invariant c.page_pool.ensures.sound c.args.sought c.args.page c.in-Some.pool
          c.args.start from c.in-Some-first.slot c.address_of-address.result (sym c.in-Some.ensures.pool) first
          c.address_of-address.ensures _ c.marks_of.ensures c.in-Some-first.ensures,
      found_name c.self.inside _ c.self.view_is c.self.invariant c.page_pool.ensures.sound c.args.sought c.args.page c.in-Some.pool
          c.args.start from c.in-Some-first.slot c.address_of-address.result (sym c.in-Some.ensures.pool) first
          c.address_of-address.ensures _ c.marks_of.ensures c.in-Some-first.ensures
          c.slot.result.now c.slot.ensures.words,
    )

pub returns-in-Some-first-clause-on : goal.returns-in-Some-first-clause-on
returns-in-Some-first-clause-on c =
    let known = (c.page_pool.ensures.sound.sound c.args.page).known c.in-Some.pool (sym c.in-Some.ensures.pool) in
    (found_next c.self.inside _ c.self.view_is c.self.invariant c.page_pool.ensures.sound c.args.sought c.args.page c.in-Some.pool
    c.args.start (slot_address c.args.page c.in-Some.pool c.args.start) c.in-Some-first.slot c.address_of-address.result (sym c.in-Some.ensures.pool)
    (λ k within. in_order c.args.page c.in-Some.pool c.args.start k known)
    c.address_of-address.ensures _ c.marks_of.ensures c.in-Some-first.ensures).on

pub returns-in-Some-first-clause-start : goal.returns-in-Some-first-clause-start
returns-in-Some-first-clause-start c = c.in-Some-first.ensures.from_there

pub returns-in-Some-first-clause-few : goal.returns-in-Some-first-clause-few
returns-in-Some-first-clause-few c =
    let known = (c.page_pool.ensures.sound.sound c.args.page).known c.in-Some.pool (sym c.in-Some.ensures.pool) in
    found_few c.self.inside _ c.self.view_is c.self.invariant c.page_pool.ensures.sound c.args.sought c.args.page c.in-Some.pool
    c.args.start (slot_address c.args.page c.in-Some.pool c.args.start) c.in-Some-first.slot c.address_of-address.result (sym c.in-Some.ensures.pool)
    (λ k within. in_order c.args.page c.in-Some.pool c.args.start k known)
    c.address_of-address.ensures _ c.marks_of.ensures c.in-Some-first.ensures

pub returns-in-Some-first-clause-next : goal.returns-in-Some-first-clause-next
returns-in-Some-first-clause-next c =
    let known = (c.page_pool.ensures.sound.sound c.args.page).known c.in-Some.pool (sym c.in-Some.ensures.pool) in
    goes_on c.self.inside _ c.self.view_is c.args.page c.in-Some.pool (sym c.in-Some.ensures.pool) c.in-Some-first.slot c.address_of-address.result known
    c.address_of-address.ensures

pub returns-in-None-first-clause-found : goal.returns-in-None-first-clause-found
returns-in-None-first-clause-found c = λ from starts.
    let h = c.self.inside in
    let its : pool_at h.pools c.args.page ≡ Some c.in-Some.pool = sym c.in-Some.ensures.pool in
    let first : (k : ℕ) → k < page_slots c.in-Some.pool → (c.args.start ≤ k) ↔ (from ≤ slot_address c.args.page c.in-Some.pool k) =
    λ k within. starts c.in-Some.pool k (pool_seen h _ c.self.view_is c.args.page c.in-Some.pool its) within in
    let f = subst (λ (m : Marks). HasNoneFrom (is_sought_in c.args.sought m) c.args.start) c.marks_of.ensures c.in-None-first.ensures in
    let known = (c.page_pool.ensures.sound.sound c.args.page).known c.in-Some.pool its in
    subst (λ v. HasNoneOn (is_sought c.args.sought v) c.args.page from) c.self.view_is
    (none_on_page h.pools h.marks.items (rest_of h) c.args.page c.self.invariant.marks c.page_pool.ensures.sound c.args.sought c.in-Some.pool
    c.args.start from its known first f)

pub returns-in-None-clause-found : goal.returns-in-None-clause-found
returns-in-None-clause-found c = λ from starts.
    let h = c.self.inside in
    subst (λ v. HasNoneOn (is_sought c.args.sought v) c.args.page from) c.self.view_is
    (none_on_spare h.pools h.marks.items (rest_of h) c.args.page c.self.invariant.marks c.page_pool.ensures.sound c.args.sought from
    (sym c.in-None.ensures.pool))
