use Rattle.std.proofs.Common.{◌++◌, length, refl, ap}
use Rattle.space_model.specs.declared.event.Kind.TheVariants.{Minor, Full}
use Rattle.space_model.specs.Reached.{reached_names}
use Rattle.space_model.specs.Roots.{root_value}
use Rattle.space_model.specs.Verdicts.{verdict_events}
use Rattle.space_model.proofs.Leaving.{leaves_reach, leaves_swept}
use Rattle.space_model.proofs.MinorLaws.{minor_taken, young_names, minor_there}
use Rattle.space_model.proofs.SweptLaws.{Sweeps-place}
use Rattle.space_model.proofs.WholeLaws.{completed_reach, completed_present, collection_scans, collection_leaves, leaves_collection, unreached_names, collected_state, collects_there}
use Rattle.space_model.proofs.laws.collections_leave_what_is_reached.Goals as goal

pub returns-clause-places : goal.returns-clause-places
returns-clause-places c = Sweeps-place

pub returns-clause-swept : goal.returns-clause-swept
returns-clause-swept c = λ pages s t freed sweeps name. leaves_reach s _ t (leaves_swept pages s t freed sweeps) refl name

pub returns-clause-completed : goal.returns-clause-completed
returns-clause-completed c = λ s t events moves completes name reached. (completed_reach s t events completes moves name).0 reached

pub returns-clause-outlives : goal.returns-clause-outlives
returns-clause-outlives c = completed_present

pub returns-clause-scans : goal.returns-clause-scans
returns-clause-scans c = collection_scans

pub returns-clause-leaves : goal.returns-clause-leaves
returns-clause-leaves c = collection_leaves

pub returns-clause-same : goal.returns-clause-same
returns-clause-same c = λ s t kind events scans collection.
    let left = leaves_collection s t kind events scans collection in
    (left.graph, left.stack, λ root ident. ap (λ roots. root_value roots root) left.roots)

pub returns-clause-possible : goal.returns-clause-possible
returns-clause-possible c = λ s idle completion completes h. (
  completion ++ verdict_events Full (unreached_names idle),
  length (reached_names idle),
  collected_state idle Full (unreached_names idle),
  collects_there s idle completion completes h,
)

pub returns-clause-minor_possible : goal.returns-clause-minor_possible
returns-clause-minor_possible c = λ s idle completion completes h. (
  completion ++ verdict_events Minor (minor_taken idle),
  length (young_names idle),
  collected_state idle Minor (minor_taken idle),
  minor_there s idle completion completes h,
)
