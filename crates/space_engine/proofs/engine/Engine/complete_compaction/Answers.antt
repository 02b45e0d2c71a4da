-- References that were corrected complete a compaction, and nothing is told of them.
use Rattle.std.proofs.Common.{◌≡◌, [], refl, rules}
use Rattle.std.proofs.KnownBytes.{Appends-nil}
use Rattle.space_model.specs.declared.phase.Phase.TheVariants.{Fixing}
use Rattle.space_engine.proofs.Completing.{fixes_complete}
use Rattle.space_engine.proofs.engine.Engine.complete_compaction.Goals as goal

pub returns-clause-done : goal.returns-clause-done
returns-clause-done g c =
    let old = c.args.self.now in
    let done = c.complete_fixes in
    let fixing : old.heap.phase ≡ Fixing = search rules in
    record {
      events = [];
      are = (0, fixes_complete old done.new.self 0 fixing done.ensures.idle done.ensures.fixes);
      counted = refl;
      written = Appends-nil (g.K.Sink.written c.args.sink.now);
    }
