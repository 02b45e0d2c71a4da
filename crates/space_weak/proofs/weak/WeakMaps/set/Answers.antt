use Rattle.std.proofs.Common.{◌∙◌, refl, sym}
use Rattle.std.proofs.lemmas.Result.{err_from_is_err_and}
use Rattle.std.specs.Str.{bytes_eq}
use Rattle.indexmap.proofs.CallerLemmas.{insert_entry-new}
use Rattle.space_weak.proofs.EntryLemmas.{entry_of-entries_in, entry_of-absent}
use Rattle.space_weak.proofs.SetLemmas.{set-entries_in, set-push, entries_in-set_value, AreStored-written, AreStored-push}
use Rattle.space_weak.proofs.weak.WeakMaps.set.Goals as goal

pub invariant_of-self : goal.invariant_of-self
invariant_of-self c =
    let written = c.get_mut.follows.holds c.insert.new.self in
    AreStored-written _ c.self.inside.maps.entries _ _ c.insert.new.self c.self.invariant written.0 written.4 c.insert.ensures.unique

pub returns-in_err-insert-clause-err : goal.returns-in_err-insert-clause-err
returns-in_err-insert-clause-err c =
    let written = c.get_mut.follows.holds c.insert.new.self in
    let p = err_from_is_err_and c.from_residual.result c.from_residual.ensures.1 in
    let same = entries_in-set_value (λ links. links.entries) c.self.inside.maps.entries _ c.in-Some.links.now c.insert.new.self
    (sym c.in-Some.ensures.value) c.in_err-insert.ensures.err in
    rw (p.1, ← c.self.view_is) (rw written.0 same)

pub returns-in_err-insert-clause-absent : goal.returns-in_err-insert-clause-absent
returns-in_err-insert-clause-absent c =
    let p = err_from_is_err_and c.from_residual.result c.from_residual.ensures.1 in
    rw (p.1, ← c.self.view_is) (rw (entry_of-entries_in _ _ c.args.weak c.args.key c.self.invariant.distinct)
    (rw (← c.in-Some.ensures.value) (rw c.in_err-insert.ensures.absent refl)))

pub invariant_of-self-in-Some : goal.invariant_of-self-in-Some
invariant_of-self-in-Some c =
    let written = c.get_mut.follows.holds c.insert.new.self in
    AreStored-written _ c.self.inside.maps.entries _ _ c.insert.new.self c.self.invariant written.0 written.4 c.insert.ensures.unique

pub returns-in-Some-clause-ok : goal.returns-in-Some-clause-ok
returns-in-Some-clause-ok c =
    let written = c.get_mut.follows.holds c.insert.new.self in
    rw (← c.self.view_is)
    (rw written.0 (set-entries_in (λ links. links.entries) c.self.inside.maps.entries c.args.weak c.args.key _ c.in-Some.links.now c.insert.new.self
    c.self.invariant.distinct (sym c.in-Some.ensures.value) c.in_ok-insert.ensures.entries))

pub returns-in_err-links-clause-absent : goal.returns-in_err-links-clause-absent
returns-in_err-links-clause-absent c =
    let none = entry_of-absent (λ links. links.entries) c.self.inside.maps.entries c.args.weak c.args.key (sym c.in_default.ensures.value) in
    let p = err_from_is_err_and c.from_residual-in_err-links.result c.from_residual-in_err-links.ensures.1 in
    rw (p.1, ← c.self.view_is) none

pub returns-in_err-insert-2-clause-absent : goal.returns-in_err-insert-2-clause-absent
returns-in_err-insert-2-clause-absent c =
    let none = entry_of-absent (λ links. links.entries) c.self.inside.maps.entries c.args.weak c.args.key (sym c.in_default.ensures.value) in
    let p = err_from_is_err_and c.from_residual-in_err-insert-2.result c.from_residual-in_err-insert-2.ensures.1 in
    rw (p.1, ← c.self.view_is) none

pub invariant_of-self-2 : goal.invariant_of-self-2
invariant_of-self-2 c =
    let old = c.self.inside.maps in
    let is = rw c.get_mut.follows.holds-at-none at c.in_ok-insert-2.ensures.entries in
    AreStored-push _ old.entries _ c.args.weak c.in_ok-links.links c.self.invariant
    (is ∙ insert_entry-new bytes_eq old c.args.weak c.in_ok-links.links
    (sym c.in_default.ensures.value)) c.insert-2.ensures.unique c.in_ok-links.ensures.own

pub returns-clause-ok : goal.returns-clause-ok
returns-clause-ok c =
    let old = c.self.inside.maps in
    let none = sym c.in_default.ensures.value in
    let is = rw c.get_mut.follows.holds-at-none at c.in_ok-insert-2.ensures.entries in
    rw (← c.self.view_is) (set-push (λ links. links.entries) old.entries _ c.args.weak c.args.key _ c.in_ok-links.links none c.in_ok-links.ensures.one
    (is ∙ insert_entry-new bytes_eq old c.args.weak c.in_ok-links.links none))
