-- Scans of the marking that is under way are ones of each state that the space stands for.
use Rattle.std.proofs.Common.{◌≡◌, ◌≢◌, rules}
use Rattle.space_model.specs.declared.phase.Phase.TheVariants.{Marking}
use Rattle.space_engine.specs.Inside.{view_of}
use Rattle.space_engine.proofs.MarkCommand.{mark_done, mark_refused, turn_marked}
use Rattle.space_engine.proofs.engine.Engine.mark.Goals as goal

pub returns-then-ne-clause-answers : goal.returns-then-ne-clause-answers
returns-then-ne-clause-answers g c = λ s h.
    let rests : c.args.self.now.heap.phase ≢ Marking = search rules in
    mark_refused c.args.self.now s h rests c.args.count

pub returns-clause-answers : goal.returns-clause-answers
returns-clause-answers g c =
    let marking : c.self.inside.heap.phase ≡ Marking = search rules in
    rw (← c.self.view_is)
    (λ s h. mark_done (view_of c.self.inside) s h marking c.mark-marked.new.heap
    c.mark-marked.result.scanned c.mark-marked.ensures.goes_on c.mark-marked.ensures.coherent c.args.count c.mark-marked.result.grey
    c.mark-marked.ensures.few c.mark-marked.ensures.all c.mark-marked.ensures.grey)

pub returns-clause-turn : goal.returns-clause-turn
returns-clause-turn g c =
    let marking : c.self.inside.heap.phase ≡ Marking = search rules in
    rw (← c.self.view_is)
    (turn_marked c.self.inside.heap c.mark-marked.new.heap c.mark-marked.result.scanned marking c.mark-marked.ensures.goes_on)
