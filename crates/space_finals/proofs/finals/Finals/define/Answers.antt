use Rattle.std.proofs.Common.{◌≡◌, ◌∙◌, rules, ap, sym, refl, arith}
use Rattle.std.proofs.lemmas.Result.{err_from_is_err_and}
use Rattle.space_finals.specs.StoredFinals.{pairs_in}
use Rattle.space_finals.proofs.FinalsLemmas.{HaveSameLabels-added, pairs_in-set_value, length-pushed}
use Rattle.space_finals.proofs.finals.Finals.define.Goals as goal

pub returns-in_err-push-clause-err : goal.returns-in_err-push-clause-err
returns-in_err-push-clause-err c =
    let written = (c.get_mut.follows.holds c.push.new.self).0 in
    let replaced =
    pairs_in-set_value (λ labels. labels.items) _ c.self.inside.defined.entries c.in-Some.labels.now c.push.new.self
    (sym c.in-Some.ensures.value) c.in_err-push.ensures.items in
    let same : pairs_in (λ labels. labels.items) (c.get_mut.follows.lender c.push.new.self).entries
    ≡ pairs_in (λ labels. labels.items) c.self.inside.defined.entries =
    ap (pairs_in (λ labels. labels.items)) written ∙ replaced in
    let p = err_from_is_err_and c.from_residual.result c.from_residual.ensures.1 in
    rw (p.1, ← c.self.view_is) (rw same refl)

pub returns-in-Some-clause-finals : goal.returns-in-Some-clause-finals
returns-in-Some-clause-finals c =
    let h = c.get_mut.follows.holds c.push.new.self in
    let v = c.in-Some.ensures.value in
    rw (← c.self.view_is)
    (HaveSameLabels-added _ _ _ c.args.name c.args.label c.push.new.self c.self.invariant.stored.distinct h.4 (h.3 (rw (← v) refl)).0
    (c.in_ok-push.ensures.items ∙ rw (← v) refl))

pub returns-clause-finals : goal.returns-clause-finals
returns-clause-finals c =
    let same = c.get_mut.follows.holds-at-none in
    let updates = rw same at c.in_ok-insert.ensures.updates.0 in
    let v = c.in_default.ensures.value in
    rw (← c.self.view_is)
    (HaveSameLabels-added _ _ _ c.args.name c.args.label c.in_ok-labels.labels c.self.invariant.stored.distinct c.insert.ensures.unique updates
    (c.in_ok-labels.ensures.items ∙ rw (← v) refl))

pub invariant_of-self : goal.invariant_of-self
invariant_of-self c =
    let written = (c.get_mut.follows.holds c.push.new.self).0 in
    let replaced =
    pairs_in-set_value (λ labels. labels.items) _ c.self.inside.defined.entries c.in-Some.labels.now c.push.new.self
    (sym c.in-Some.ensures.value) c.in_err-push.ensures.items in
    let same : pairs_in (λ labels. labels.items) (c.get_mut.follows.lender c.push.new.self).entries
    ≡ pairs_in (λ labels. labels.items) c.self.inside.defined.entries =
    ap (pairs_in (λ labels. labels.items)) written ∙ replaced in
    record { stored = search rules; counted = rw same c.self.invariant.counted }

pub invariant_of-self-in-Some : goal.invariant_of-self-in-Some
invariant_of-self-in-Some c =
    let h = c.get_mut.follows.holds c.push.new.self in
    let v = c.in-Some.ensures.value in
    let longer = length-pushed (pairs_in (λ labels. labels.items) (c.get_mut.follows.lender c.push.new.self).entries)
    (pairs_in (λ labels. labels.items) c.self.inside.defined.entries) (c.args.name, c.args.label)
    (HaveSameLabels-added _ _ _ c.args.name c.args.label c.push.new.self c.self.invariant.stored.distinct h.4 (h.3 (rw (← v) refl)).0
    (c.in_ok-push.ensures.items ∙ rw (← v) refl)) in
    let counted = c.self.invariant.counted in
    record { stored = search rules; counted = omega (arith, longer, counted) }

pub invariant_of-self-2 : goal.invariant_of-self-2
invariant_of-self-2 c =
    let same = c.get_mut.follows.holds-at-none in
    let updates = rw same at c.in_ok-insert.ensures.updates.0 in
    let v = c.in_default.ensures.value in
    let longer = length-pushed (pairs_in (λ labels. labels.items) c.insert.new.self.entries)
    (pairs_in (λ labels. labels.items) c.self.inside.defined.entries) (c.args.name, c.args.label)
    (HaveSameLabels-added _ _ _ c.args.name c.args.label c.in_ok-labels.labels c.self.invariant.stored.distinct c.insert.ensures.unique updates
    (c.in_ok-labels.ensures.items ∙ rw (← v) refl)) in
    let counted = c.self.invariant.counted in
    record { stored = search rules; counted = rw c.reserve.ensures.items (omega (arith, longer, counted)) }
