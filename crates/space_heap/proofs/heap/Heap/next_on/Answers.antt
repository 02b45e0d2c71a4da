use Rattle.space_heap.proofs.heap.Heap.next_on.Goals as goal

pub returns-in-Some : goal.returns-in-Some
returns-in-Some c = c.in-Some.ensures.found c.args.from c.start_on-start.ensures

pub returns-in-None : goal.returns-in-None
returns-in-None c = c.in-None.ensures.found c.args.from c.start_on-start.ensures
