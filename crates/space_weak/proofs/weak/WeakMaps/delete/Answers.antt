use Rattle.std.proofs.Common.{◌∙◌, sym, ap, refl, is_some}
use Rattle.std.proofs.lemmas.List.Sorted.{IsPermutation-refl}
use Rattle.space_weak.proofs.EntryLemmas.{entry_of-entries_in, entry_of-absent}
use Rattle.space_weak.proofs.SetLemmas.{without_entry-absent, delete-entries_in, removed_key, still_some, AreStored-written, HaveOwnKeys-found}
use Rattle.space_weak.proofs.weak.WeakMaps.delete.Goals as goal

pub returns-in_default-clause-answer : goal.returns-in_default-clause-answer
returns-in_default-clause-answer c = rw (← c.self.view_is) (rw (entry_of-absent _ _ c.args.weak c.args.key (sym c.in_default.ensures.value)) refl)

pub returns-in_default-clause-rest : goal.returns-in_default-clause-rest
returns-in_default-clause-rest c =
    let none = entry_of-absent (λ links. links.entries) c.self.inside.maps.entries c.args.weak c.args.key (sym c.in_default.ensures.value) in
    rw (← c.self.view_is) (rw (without_entry-absent _ c.args.weak c.args.key none, c.get_mut.follows.holds-at-none) (IsPermutation-refl _))

pub invariant_of-self-2 : goal.invariant_of-self-2
invariant_of-self-2 c =
    let written = c.get_mut.follows.holds c.swap_remove.new.self in
    AreStored-written _ c.self.inside.maps.entries _ _ c.swap_remove.new.self c.self.invariant written.0 written.4 c.swap_remove.ensures.unique

pub returns-clause-answer : goal.returns-clause-answer
returns-clause-answer c =
    let v = c.in-Some.ensures.value in
    rw (← c.self.view_is) (rw (entry_of-entries_in _ _ c.args.weak c.args.key c.self.invariant.distinct)
    (rw (← v) (c.is_some.ensures ∙ ap is_some c.swap_remove.ensures.value ∙ still_some _ _)))

pub returns-clause-rest : goal.returns-clause-rest
returns-clause-rest c =
    let written = c.get_mut.follows.holds c.swap_remove.new.self in
    let found = sym c.in-Some.ensures.value in
    let own = HaveOwnKeys-found _ c.self.inside.maps.entries _ c.in-Some.links.now c.self.invariant.own_keys found in
    let left = removed_key c.in-Some.links.now c.swap_remove.new.self c.args.key own c.swap_remove.ensures.unique c.swap_remove.ensures.updates.0 in
    rw (← c.self.view_is)
    (rw written.0 (delete-entries_in _ c.self.inside.maps.entries c.args.weak c.args.key c.in-Some.links.now c.swap_remove.new.self
    c.self.invariant.distinct found left))
