-- Pages are swept from each state that the space stands for.
use Rattle.space_engine.proofs.SweepCommand.{sweep_answered}
use Rattle.space_engine.proofs.engine.Engine.sweep.Goals as goal

pub returns-clause-answers : goal.returns-clause-answers
returns-clause-answers c =
    rw (← c.self.view_is)
    (sweep_answered (record {
      heap = c.self.inside.heap;
      roots = c.self.inside.roots;
      stack = c.self.inside.stack;
      ids = c.self.inside.ids;
      weak = c.self.inside.weak;
      finals = c.self.inside.finals;
    }) c.sweep_pages-freed.new.heap c.sweep_pages-freed.new.finals
    c.sweep_pages-freed.ensures.sound_before c.args.count c.sweep_pages-freed.result c.sweep_pages-freed.ensures.swept c.sweep_pages-freed.ensures.freed
    c.unswept-left.result c.unswept-left.ensures.count)
