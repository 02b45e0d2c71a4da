use Rattle.std.proofs.Common.{length, min, refl}
use Rattle.std.proofs.Math.Nat.{min-le_right}
use Rattle.space_model.proofs.CollectionsKept.{Sound-start, Sound-took, Sound-swept, Sound-sweeps}
use Rattle.space_model.proofs.CorpseNames.{freed_pages, swept_pages, SweepAll-there, Sweeps-some}
use Rattle.space_model.proofs.SweptLaws.{SweepAll-swept, Sweeps-counted}
use Rattle.space_model.proofs.WholeLaws.{Sound-completed}
use Rattle.space_model.proofs.laws.collections_are_sound.Goals as goal

pub returns-clause-start : goal.returns-clause-start
returns-clause-start c = Sound-start

pub returns-clause-took : goal.returns-clause-took
returns-clause-took c = Sound-took

pub returns-clause-completed : goal.returns-clause-completed
returns-clause-completed c = Sound-completed

pub returns-clause-swept : goal.returns-clause-swept
returns-clause-swept c = Sound-swept

pub returns-clause-sweeps : goal.returns-clause-sweeps
returns-clause-sweeps c = Sound-sweeps

pub returns-clause-ends : goal.returns-clause-ends
returns-clause-ends c = λ s h.
    let sweep = SweepAll-there s h in (
      freed_pages s.heap.unswept s,
      swept_pages s.heap.unswept s,
      sweep,
      (SweepAll-swept s (swept_pages s.heap.unswept s) (freed_pages s.heap.unswept s) sweep).none_waits,
    )

pub returns-clause-counted : goal.returns-clause-counted
returns-clause-counted c = Sweeps-counted

pub returns-clause-possible : goal.returns-clause-possible
returns-clause-possible c = λ s count h.
    let (names, t, sweeps) = Sweeps-some (min count (length s.heap.unswept)) s.heap.unswept s refl (min-le_right count (length s.heap.unswept)) h in
    (length names, length t.heap.unswept, t, (names, sweeps, refl, refl))
