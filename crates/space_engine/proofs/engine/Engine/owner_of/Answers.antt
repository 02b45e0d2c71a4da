use Rattle.std.proofs.Common.{rules}
use Rattle.space_engine.proofs.HeapReads.{there}
use Rattle.space_engine.proofs.engine.Engine.owner_of.Goals as goal

pub field_count-requires : goal.field_count-requires
field_count-requires c = (there c.self.inside.heap c.args.word c.in-Some.address (search rules)).stands

pub returns-then-index-field_count-clause-there : goal.returns-then-index-field_count-clause-there
returns-then-index-field_count-clause-there c = (there c.args.self.now.heap c.args.word c.in-Some.address (search rules)).stands
