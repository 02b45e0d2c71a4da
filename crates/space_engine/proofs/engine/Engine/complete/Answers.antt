-- By the phase: moves and corrections, corrections alone, or what completes outside a compaction.
use Rattle.std.proofs.Common.{rules, ◌≡◌}
use Rattle.space_model.specs.declared.phase.Phase.TheVariants.{Moving, Fixing}
use Rattle.space_engine.proofs.PhaseCompletions.{moves_done, fixes_done}
use Rattle.space_engine.proofs.engine.Engine.complete.Goals as goal

pub returns-in_ok-moves-in-Moving-clause-done : goal.returns-in_ok-moves-in-Moving-clause-done
returns-in_ok-moves-in-Moving-clause-done g c =
    let moving : c.args.self.now.heap.phase ≡ Moving = search rules in
    moves_done c.args.self.now c.complete_moves.new.self c.complete_moves.ensures.idle moving _ _ c.in_ok-moves-in-Moving.moves _ _
    c.complete_moves.ensures.steps.0 c.in_ok-moves-in-Moving.ensures.done

pub returns-in-Fixing-clause-done : goal.returns-in-Fixing-clause-done
returns-in-Fixing-clause-done g c =
    let fixing : c.args.self.now.heap.phase ≡ Fixing = search rules in
    fixes_done c.args.self.now c.complete_fixes.new.self c.complete_fixes.ensures.idle fixing c.complete_fixes.ensures.fixes _ _ _
    c.complete_fixes.ensures.steps.0
