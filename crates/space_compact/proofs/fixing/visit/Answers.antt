use Rattle.std.proofs.Common.{◌∙◌}
use Rattle.space_compact.proofs.Visiting.{visited_is}
use Rattle.space_compact.proofs.fixing.visit.Goals as goal

pub returns-clause-visited : goal.returns-clause-visited
returns-clause-visited g c = c.set_cursor.ensures ∙ visited_is c.args.heap.now c.args.address c.fix_fields.new.heap c.fix_fields.ensures.fixed
