use Rattle.space_model.proofs.StackWords.{named_is_told}
use Rattle.space_model.proofs.laws.named_is_told.Goals as goal

pub returns : goal.returns
returns c = named_is_told
