-- A root that is there stays where a compaction is completed.
use Rattle.std.proofs.Common.{ℕ, List}
use Rattle.space_model.specs.declared.event.Event.{Event}
use Rattle.space_engine.specs.HeapCollections.{IsCompletion}
use Rattle.space_engine.proofs.Creations.{either_way}
use Rattle.space_engine.proofs.ReservedRoots.{completion_there}
use Rattle.space_engine.proofs.engine.Engine.complete_in_need.Goals as goal

pub returns-then-needs_completion-clause-there : goal.returns-then-needs_completion-clause-there
returns-then-needs_completion-clause-there g c = λ root there.
    let old = c.args.self.now in
    let done = c.complete_compaction in
    let needs = c.needs_completion.ensures.needs.0 c.if-needs_completion.true in
    let (events, its) =
    either_way done.result
    (λ (moves : ℕ) events. (scans : ℕ) × IsCompletion old done.new.self scans events)
    (λ (events : List Event). (scans : ℕ) × IsCompletion old done.new.self scans events)
    (λ moves. 0) (λ moves. moves) _ _ (λ moves events its. its) done.ensures.done done.ensures.fault in
    completion_there old done.new.self its.0 events needs.0 its.1 root there
