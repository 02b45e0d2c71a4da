use Rattle.std.proofs.Common.{arith}
use Rattle.space_heap.proofs.NewPages.{no_spare_count}
use Rattle.space_heap.proofs.heap.Heap.may_grow.Goals as goal

pub returns-then-spare_pages-gt0-clause-full : goal.returns-then-spare_pages-gt0-clause-full
returns-then-spare_pages-gt0-clause-full c = λ e none. let z = no_spare_count c.args.self.now none in let s = c.spare_pages.ensures in absurd (omega arith)
