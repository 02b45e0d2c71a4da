use Rattle.space_model.proofs.StackWords.{pushed_is_top}
use Rattle.space_model.proofs.laws.pushed_is_top.Goals as goal

pub returns : goal.returns
returns c = pushed_is_top
