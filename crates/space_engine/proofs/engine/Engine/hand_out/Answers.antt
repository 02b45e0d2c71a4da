use Rattle.std.proofs.Common.{◌∙◌, ap, Option}
use Rattle.std.specs.Option.{unwrap_or}
use Rattle.space_model.specs.declared.value.Value.{Value}
use Rattle.space_model.specs.declared.value.Value.TheVariants.{Nil}
use Rattle.space_engine.proofs.RootCommands.{handed_out, not_handed_out}
use Rattle.space_engine.proofs.engine.Engine.hand_out.Goals as goal

pub returns-in-Ok-clause-written : goal.returns-in-Ok-clause-written
returns-in-Ok-clause-written c = λ s value h e.
    rw (c.in-Ok.ensures.ok, c.unwrap_or-value.ensures ∙ ap (λ (found : Option Value). unwrap_or found Nil) (c.value_of_word.ensures s h ∙ e))
    (handed_out c.args.self.now s h c.args.root.now c.args.word value e)

pub returns-in-Err-clause-written : goal.returns-in-Err-clause-written
returns-in-Err-clause-written c = λ s value h e.
    rw c.in-Err.ensures.err (not_handed_out c.args.self.now s h c.args.root.now value c.in-Err.ensures.absent)
