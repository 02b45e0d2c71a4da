use Rattle.std.proofs.Common.{◌∙◌}
use Rattle.space_planes.specs.Planes.{bit}
use Rattle.space_heap.specs.planes.MarkPlanes.{age_from}
use Rattle.space_heap.proofs.RaisedAges.{raised_by}
use Rattle.space_heap.proofs.sweeps.raise_ages.Goals as goal

pub returns-clause-ages : goal.returns-clause-ages
returns-clause-ages c = λ s. (λ i. age_from (c.count_up.ensures.lows s i) (c.count_up.ensures.highs s i))
    ∙ raised_by (bit c.args.marked.now s) (bit c.args.guard.now s) (bit c.args.low.now s) (bit c.args.high.now s)
