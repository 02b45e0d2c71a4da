use Rattle.space_model.proofs.Apart.{texts_apart}
use Rattle.space_model.proofs.laws.texts_differ.Goals as goal

pub returns : goal.returns
returns c = record { differ = texts_apart }
