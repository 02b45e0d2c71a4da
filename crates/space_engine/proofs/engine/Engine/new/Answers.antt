use Rattle.space_engine.proofs.Openings.{opening_held}
use Rattle.space_engine.proofs.engine.Engine.new.Goals as goal

pub returns-in_err-new-clause-holds : goal.returns-in_err-new-clause-holds
returns-in_err-new-clause-holds c = opening_held c.args.limit

pub returns-clause-holds : goal.returns-clause-holds
returns-clause-holds c = opening_held c.args.limit
