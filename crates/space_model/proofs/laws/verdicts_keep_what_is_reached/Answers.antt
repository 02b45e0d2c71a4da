use Rattle.space_model.proofs.VerdictLaws.{scans_are_reached, reach_no_more, reached_outlive, full_leaves_reached}
use Rattle.space_model.proofs.laws.verdicts_keep_what_is_reached.Goals as goal

pub returns-clause-seen : goal.returns-clause-seen
returns-clause-seen c = scans_are_reached

pub returns-clause-no_more : goal.returns-clause-no_more
returns-clause-no_more c = reach_no_more

pub returns-clause-outlives : goal.returns-clause-outlives
returns-clause-outlives c = reached_outlive

pub returns-clause-exact : goal.returns-clause-exact
returns-clause-exact c = full_leaves_reached
