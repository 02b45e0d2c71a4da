use Rattle.std.proofs.Common.{◌≡◌, ℕ, List, [], ◌∷◌, sym, ap, ◌∙◌, subst, get_or, refl}
use Rattle.space_collector.specs.GoneNames.{AreGoneOn}
use Rattle.space_collector.proofs.GoneOnPages.{waits_within}
use Rattle.space_collector.proofs.sweeping.sweep_page.Goals as goal

pub queue_gone-requires : goal.queue_gone-requires
queue_gone-requires c = waits_within c.args.heap.now c.in-Some.page c.in-Some.ensures.first.0 c.in-Some.ensures.sound c.in-Some.ensures.first.1

pub returns-clause-swept : goal.returns-clause-swept
returns-clause-swept c =
    let queued = c.queue_gone.ensures in
    let swept = c.sweep.ensures.swept in
    let same = ap (λ (pages : List ℕ). get_or pages 0 0) (sym c.in-Some.ensures.first.1 ∙ swept.first) in (
      record {
        freed = c.sweep.result;
        sweeps = swept;
        names = queued.0;
        gone = subst (λ page. AreGoneOn c.args.heap.now page queued.0) same queued.1;
        queues = queued.2;
      },
      refl,
    )
