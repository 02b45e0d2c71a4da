use Rattle.std.proofs.Common.{◌≡◌, ◌∙◌, length, rules, sym, refl, arith}
use Rattle.space_finals.proofs.FinalsLemmas.{HaveSameLabels-removed, labels_of-pairs_in, length-taken}
use Rattle.space_finals.proofs.finals.Finals.undefine.Goals as goal

pub returns-in_default-clause-count : goal.returns-in_default-clause-count
returns-in_default-clause-count c =
    rw (← c.self.view_is) (rw (labels_of-pairs_in _ _ c.args.name c.self.invariant.stored.distinct, sym c.swap_remove.ensures.value ∙ c.in_default.is) refl)

pub returns-in_default-clause-finals : goal.returns-in_default-clause-finals
returns-in_default-clause-finals c =
    rw (← c.self.view_is)
    (HaveSameLabels-removed _ _ _ c.args.name c.self.invariant.stored.distinct c.swap_remove.ensures.unique c.swap_remove.ensures.updates.0)

pub returns-clause-count : goal.returns-clause-count
returns-clause-count c =
    let count : c.len-count.result ≡ length c.in-Some.labels.items = search rules in
    rw (← c.self.view_is)
    (rw (labels_of-pairs_in _ _ c.args.name c.self.invariant.stored.distinct, count, sym c.swap_remove.ensures.value ∙ c.in-Some.is) refl)

pub returns-clause-finals : goal.returns-clause-finals
returns-clause-finals c =
    rw (← c.self.view_is)
    (HaveSameLabels-removed _ _ _ c.args.name c.self.invariant.stored.distinct c.swap_remove.ensures.unique c.swap_remove.ensures.updates.0)

pub overflow_sub-self : goal.overflow_sub-self
overflow_sub-self c =
    let stored = c.self.invariant.stored in
    let count : c.len-count.result ≡ length c.in-Some.labels.items = search rules in
    let taken = length-taken (λ labels. labels.items) _ _ c.args.name c.in-Some.labels stored.distinct c.swap_remove.ensures.unique
    c.swap_remove.ensures.updates.0 (sym c.swap_remove.ensures.value ∙ c.in-Some.is) in
    let counted = c.self.invariant.counted in
    omega (arith, count, taken, counted)

pub invariant_of-self-2 : goal.invariant_of-self-2
invariant_of-self-2 c =
    let stored = c.self.invariant.stored in
    let count : c.len-count.result ≡ length c.in-Some.labels.items = search rules in
    let taken = length-taken (λ labels. labels.items) _ _ c.args.name c.in-Some.labels stored.distinct c.swap_remove.ensures.unique
    c.swap_remove.ensures.updates.0 (sym c.swap_remove.ensures.value ∙ c.in-Some.is) in
    let counted = c.self.invariant.counted in
    record { stored = search rules; counted = omega (arith, count, taken, counted) }
