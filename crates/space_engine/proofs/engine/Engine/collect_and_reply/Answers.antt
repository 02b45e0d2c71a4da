-- A command that collects from its collection, written whole or in part.
use Rattle.space_engine.proofs.CollectionCommands.{collection_answered, collection_cut_off}
use Rattle.space_engine.proofs.Outcomes.{on_err}
use Rattle.space_engine.proofs.engine.Engine.collect_and_reply.Goals as goal

pub returns-in_err-scans-clause-fault : goal.returns-in_err-scans-clause-fault
returns-in_err-scans-clause-fault g c = λ command by.
    on_err c.from_residual.result _
    (collection_cut_off c.args.self.now c.collect_and_tell.new.self c.requires.able command c.args.kind c.requires.other
    by _ _ c.in_err-scans.ensures.fault)

pub returns-clause-done : goal.returns-clause-done
returns-clause-done g c = λ command by.
    collection_answered c.args.self.now c.collect_and_tell.new.self c.requires.able command c.args.kind c.requires.other
    by c.in_ok-scans.field-0.scans c.in_ok-scans.field-0.gone c.in_ok-scans.field-0.moves _ _ _ _ c.in_ok-scans.ensures.done
