use Rattle.std.proofs.Common.{◌∙◌, ap, sym, refl, false, true, is_some, nat_eq, length, Some}
use Rattle.std.proofs.lemmas.Result.{err_from_is_err_and}
use Rattle.indexmap.proofs.CallerLemmas.{insert_entry-new}
use Rattle.space_ids.proofs.IdsLemmas.{name_found, has_id, name_last, none_found}
use Rattle.space_ids.proofs.ids.Ids.id_of.Goals as goal

pub returns-in-Some-clause-id : goal.returns-in-Some-clause-id
returns-in-Some-clause-id c =
    rw (← c.self.view_is) (c.in-Some.k, name_found c.self.inside.given.entries c.args.name c.in-Some.k (sym c.in-Some.ensures.index), refl)

pub returns-in-Some-clause-given : goal.returns-in-Some-clause-given
returns-in-Some-clause-given c = rw (← c.self.view_is) (rw (has_id c.self.inside.given.entries c.args.name true (sym c.in-Some.ensures.found)) refl)

pub returns-then-count-ge-MOST_IDS-clause-absent : goal.returns-then-count-ge-MOST_IDS-clause-absent
returns-then-count-ge-MOST_IDS-clause-absent c = rw (← c.self.view_is) (has_id c.self.inside.given.entries c.args.name false (sym c.in_default.ensures.found))

pub returns-in_err-insert-clause-absent : goal.returns-in_err-insert-clause-absent
returns-in_err-insert-clause-absent c =
    let p = err_from_is_err_and c.from_residual.result c.from_residual.ensures.1 in
    rw (p.1, ← c.self.view_is) (has_id c.self.inside.given.entries c.args.name false (ap is_some c.in_err-insert.ensures.absent))

pub returns-clause-id : goal.returns-clause-id
returns-clause-id c =
    let ids = c.self.inside.given.entries in
    let absent = none_found _ (sym c.in_default.ensures.found) in
    let written = c.in_ok-insert.ensures.entries ∙ insert_entry-new nat_eq c.self.inside.given c.args.name (Some c.args.address) absent in
    (length ids, rw written (name_last ids c.args.name (Some c.args.address)), rw c.len-count.ensures.len refl)

pub returns-clause-given : goal.returns-clause-given
returns-clause-given c =
    let absent = none_found _ (sym c.in_default.ensures.found) in
    let written = c.in_ok-insert.ensures.entries ∙ insert_entry-new nat_eq c.self.inside.given c.args.name (Some c.args.address) absent in
    rw (← c.self.view_is) (written ∙ rw (has_id c.self.inside.given.entries c.args.name false (sym c.in_default.ensures.found)) refl)
