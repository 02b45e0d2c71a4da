use Rattle.std.proofs.Common.{◌≡◌, ◌+◌, ◌-◌, ℕ, sym, ap, ◌∙◌, subst, arith}
use Rattle.std.specs.Prelude.{count_by}
use Rattle.space_model.specs.Counts.{CountIs}
use Rattle.space_heap.specs.HeapView.{HeapView, Counters, page_at}
use Rattle.space_heap.specs.Sweeping.{has_gone, IsGoneOn, swept}
use Rattle.space_heap.proofs.SweptLaws.{phase-swept, counters-swept}
use Rattle.space_heap.proofs.SweptPages.{unswept-swept_first}
use Rattle.space_heap.proofs.GoneCounts.{gone_on_page}
use Rattle.space_sweep.specs.Sweeps.{phase_left}
use Rattle.space_sweep.proofs.FirstPages.{first_waits}
use Rattle.space_sweep.proofs.verdicts.sweep.Goals as goal

pub sweep_page-requires-clause-unswept : goal.sweep_page-requires-clause-unswept
sweep_page-requires-clause-unswept c = first_waits c.args.heap.now c.in-Some.page c.in-Some.ensures.first

-- the counter after the sweep
counter : (c : goal.After-freed-after) → c.freed-after.result ≡ c.freed-before.result + count_by has_gone (page_at c.args.heap.now c.in-Some.page).slots
counter c =
    c.freed-after.ensures
    ∙ ap (λ (v : HeapView). v.counters.freed) (c.set_phase.ensures)
    ∙ ap (λ (v : HeapView). v.counters.freed) (c.sweep_page.ensures.swept)
    ∙ ap (λ (n : Counters). n.freed) (counters-swept c.args.heap.now c.in-Some.page)
    ∙ ap (λ n. n + count_by has_gone (page_at c.args.heap.now c.in-Some.page).slots) (sym c.freed-before.ensures)

pub overflow_sub-result : goal.overflow_sub-result
overflow_sub-result c = let e = counter c in omega arith

pub returns-clause-swept : goal.returns-clause-swept
returns-clause-swept c =
    let v = c.args.heap.now in
    let page = c.in-Some.page in
    let first = c.in-Some.ensures.first in
    let n : ℕ = count_by has_gone (page_at v page).slots in
    let e = counter c in
    let same : n ≡ c.freed-after.result - c.freed-before.result = omega arith in
    record {
      page = page;
      others = first.0;
      first = first.1;
      after =
          c.set_phase.ensures
          ∙ ap (λ p. record c.sweep_page.new.self { phase = p }) c.next_phase-phase.ensures
          ∙ ap (λ (u : HeapView). record u { phase = phase_left u.unswept u.phase }) c.sweep_page.ensures.swept
          ∙ (λ i. record (swept v page) {
            phase = phase_left (unswept-swept_first v page c.sweep_page.ensures.sound first.0 first.1 i) (phase-swept v page i);
          });
      count = subst (CountIs (IsGoneOn v page)) same (gone_on_page v page c.sweep_page.ensures.sound);
    }
