-- The place of the name that an operand's word names.
use Rattle.std.proofs.Common.{◌≡◌, ◌∙◌, ap, rules, ℕ, cond, Option, None, Some}
use Rattle.std.specs.Option.{ok_or}
use Rattle.space_model.specs.declared.reply.Refusal.TheVariants.{NotObject}
use Rattle.space_heap.specs.Objects.{is_object}
use Rattle.space_engine.proofs.ObjectCommands.{named_found}
use Rattle.space_engine.proofs.engine.Engine.address_of.Goals as goal

pub returns-clause-address : goal.returns-clause-address
returns-clause-address c = λ s h.
    let found : c.object_at.result ≡ cond (is_object c.args.self.now.heap c.in_ok-word.word) (Some c.in_ok-word.word) None = search rules in
    c.ok_or.ensures.value ∙ ap (λ (found : Option ℕ). ok_or found NotObject) found
    ∙ named_found c.args.self.now s h c.args.object.now c.in_ok-word.word (c.in_ok-word.ensures s h)
