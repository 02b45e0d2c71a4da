-- The address and the word, or the refusal that comes first.
use Rattle.std.proofs.Common.{ℕ, ◌∙◌, ap, Result, Ok}
use Rattle.std.proofs.lemmas.Result.{err_from_is_err_and}
use Rattle.space_model.specs.declared.reply.Refusal.{Refusal}
use Rattle.space_model.specs.Refusals.{and_then}
use Rattle.space_engine.proofs.FieldWords.{write_found, write_lost, operand_present}
use Rattle.space_engine.proofs.WordResults.{same_both}
use Rattle.space_engine.proofs.engine.Engine.write_place.Goals as goal

pub returns-clause-written : goal.returns-clause-written
returns-clause-written c = λ s h.
    ap (λ (r : Result ℕ Refusal). and_then r (λ a. Ok (a, c.in_ok-object.word))) (c.in_ok-address.ensures.owner)
    ∙ write_found c.args.self.now s h _ _ c.in_ok-object.object c.in_ok-object.word c.args.index (operand_present c.args.self.now s h c.args.object.now)
    (c.in_ok-object.ensures ∙ same_both _ _ _ _ (c.word_of.ensures s h) (c.input_word.ensures s h))

pub returns-in_err-address-clause-written : goal.returns-in_err-address-clause-written
returns-in_err-address-clause-written c = λ s h.
    let p = err_from_is_err_and c.from_residual-in_err-address.result c.from_residual-in_err-address.ensures.1 in
    rw (p.1, p.2) (
    ap (λ (r : Result ℕ Refusal). and_then r (λ a. Ok (a, c.in_ok-object.word))) (c.in_err-address.ensures.owner)
    ∙ write_found c.args.self.now s h _ _ c.in_ok-object.object c.in_ok-object.word c.args.index (operand_present c.args.self.now s h c.args.object.now)
    (c.in_ok-object.ensures ∙ same_both _ _ _ _ (c.word_of.ensures s h) (c.input_word.ensures s h))
    )

pub returns-in_err-object-clause-written : goal.returns-in_err-object-clause-written
returns-in_err-object-clause-written c = λ s h.
    let p = err_from_is_err_and c.from_residual.result c.from_residual.ensures.1 in
    rw (p.1, p.2) (write_lost c.args.self.now s h _ _ _ c.args.index
    (c.in_err-object.ensures ∙ same_both _ _ _ _ (c.word_of.ensures s h) (c.input_word.ensures s h)))
