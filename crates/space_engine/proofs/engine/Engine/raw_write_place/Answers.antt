-- The same address and word as for a store, where the write barrier doesn't protect the object.
use Rattle.std.proofs.Common.{◌≡◌, ◌∙◌, ap, sym, true, false, rules}
use Rattle.std.proofs.lemmas.Result.{err_from_is_err_and}
use Rattle.space_model.specs.Ages.{is_protected_guard}
use Rattle.space_heap.specs.HeapView.{HeapView}
use Rattle.space_heap.specs.Objects.{is_object, object_of}
use Rattle.space_heap.proofs.ObjectLaws.{occupied_from_object}
use Rattle.space_heap.specs.Generations.{is_protected_at}
use Rattle.space_engine.proofs.ObjectCommands.{raw_write_free, raw_write_guarded, raw_write_lost}
use Rattle.space_engine.proofs.engine.Engine.raw_write_place.Goals as goal

pub guard-requires : goal.guard-requires
guard-requires c =
    let heap : c.self.inside.heap ≡ c.args.self.now.heap = search rules in
    occupied_from_object c.self.inside.heap c.in_ok-address.address
    (ap (λ (heap : HeapView). is_object heap c.in_ok-address.address) heap ∙ c.in_ok-address.ensures.there)

pub returns-in_err-address-clause-written : goal.returns-in_err-address-clause-written
returns-in_err-address-clause-written c = λ s h.
    let p = err_from_is_err_and c.from_residual.result c.from_residual.ensures.1 in
    rw (p.1, p.2) (raw_write_lost c.args.self.now s h c.args.object.now c.args.index c.args.value.now _ (c.in_err-address.ensures.written s h))

pub returns-in-Protected-clause-written : goal.returns-in-Protected-clause-written
returns-in-Protected-clause-written c = λ s h.
    let heap : c.self.inside.heap ≡ c.args.self.now.heap = search rules in
    let guarded : is_protected_at c.args.self.now.heap c.in_ok-address.address ≡ true =
    ap (λ (heap : HeapView). is_protected_guard (object_of heap c.in_ok-address.address).guard) (sym heap)
    ∙ ap is_protected_guard (sym c.guard.ensures ∙ c.in-Protected.is) in
    raw_write_guarded c.args.self.now s h c.args.object.now c.args.index c.args.value.now c.in_ok-address.address c.in_ok-address.word c.requires
    (c.in_ok-address.ensures.written s h) guarded

pub returns-in-Unprotected-clause-written : goal.returns-in-Unprotected-clause-written
returns-in-Unprotected-clause-written c = λ s h.
    let heap : c.self.inside.heap ≡ c.args.self.now.heap = search rules in
    let free : is_protected_at c.args.self.now.heap c.in_ok-address.address ≡ false =
    ap (λ (heap : HeapView). is_protected_guard (object_of heap c.in_ok-address.address).guard) (sym heap)
    ∙ ap is_protected_guard (sym c.guard.ensures ∙ c.in-Unprotected.is) in
    raw_write_free c.args.self.now s h c.args.object.now c.args.index c.args.value.now c.in_ok-address.address c.in_ok-address.word c.requires
    (c.in_ok-address.ensures.written s h) free
