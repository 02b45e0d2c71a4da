use Rattle.std.proofs.Common.{◌↔◌, ℕ, sym, subst}
use Rattle.space_heap.specs.HeapView.{HeapView}
use Rattle.space_heap.specs.Sweeping.{IsGone}
use Rattle.space_sweep.specs.Gone.{IsUnmarked}
use Rattle.space_sweep.proofs.VerdictLaws.{taken}
use Rattle.space_sweep.proofs.verdicts.verdict.Goals as goal

pub returns-clause-taken : goal.returns-clause-taken
returns-clause-taken c = subst (λ (w : HeapView). (a : ℕ) → IsGone w a ↔ IsUnmarked c.args.heap.now a) (sym c.settle.ensures)
    (taken c.args.heap.now c.args.kind c.requires.none_gone)
