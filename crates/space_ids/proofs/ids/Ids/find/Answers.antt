use Rattle.std.proofs.Common.{◌/◌, ◌-◌, Some, arith, sym, ap, ◌∙◌}
use Rattle.space_ids.proofs.IdsLemmas.{kept_at}
use Rattle.space_ids.proofs.ids.Ids.find.Goals as goal

pub returns-in-Some-default-None : goal.returns-in-Some-default-None
returns-in-Some-default-None c =
    let k = c.args.id / 8 - 1 in
    let name = c.in-Some-default-None._name.now in
    let at = ap (λ kept. Some (name, kept)) (sym c.in-Some-default-None.field-0-1-is) ∙ c.in-Some-default-None.ensures.entry in
    rw (← c.self.view_is) (k, kept_at c.self.inside.given.entries k name _ at, omega arith)

pub returns-in-Some-default-Some : goal.returns-in-Some-default-Some
returns-in-Some-default-Some c =
    let k = c.args.id / 8 - 1 in
    let name = c.in-Some-default-Some._name.now in
    let at = ap (λ kept. Some (name, kept)) (sym c.in-Some-default-Some.field-0-1-is) ∙ c.in-Some-default-Some.ensures.entry in
    rw (← c.self.view_is) (k, kept_at c.self.inside.given.entries k name _ at, omega arith)
