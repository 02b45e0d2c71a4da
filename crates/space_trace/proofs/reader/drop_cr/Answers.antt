use Rattle.space_trace.proofs.CrLemmas.{drops_cr, keeps_line}
use Rattle.space_trace.proofs.reader.drop_cr.Goals as goal

pub returns-then-last-eq-CR : goal.returns-then-last-eq-CR
returns-then-last-eq-CR c = drops_cr c.args.line.now c.in-Some.rest.now c.in-Some.last.now c.in-Some.ensures.cases.0 c.if-last-eq-CR.true

pub returns-else-last-eq-CR : goal.returns-else-last-eq-CR
returns-else-last-eq-CR c = keeps_line c.args.line.now c.in-Some.rest.now c.in-Some.last.now c.in-Some.ensures.cases.0 c.if-last-eq-CR.false
