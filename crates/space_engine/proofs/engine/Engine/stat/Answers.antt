-- The counts of the heap are those of each state that the space stands for.
use Rattle.space_engine.proofs.StatCommand.{stat_answered}
use Rattle.space_engine.proofs.engine.Engine.stat.Goals as goal

pub returns : goal.returns
returns c =
    rw (← c.self.view_is)
    (record {
      answers = λ s h.
          stat_answered (record {
            heap = c.self.inside.heap;
            roots = c.self.inside.roots;
            stack = c.self.inside.stack;
            ids = c.self.inside.ids;
            weak = c.self.inside.weak;
            finals = c.self.inside.finals;
          }) s h c.counts_of-stat.ensures.sound
          c.counts_of-stat.result c.counts_of-stat.ensures.counts;
    })
