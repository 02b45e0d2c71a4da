use Rattle.std.proofs.Common.{◌∙◌, sym, ap, rules}
use Rattle.std.specs.Option.{option_map}
use Rattle.space_model.specs.declared.value.Value.TheVariants.{Name}
use Rattle.space_engine.proofs.Reading.{word_value-named}
use Rattle.space_engine.proofs.engine.Engine.value_of_word.Goals as goal

pub returns-in_err-name : goal.returns-in_err-name
returns-in_err-name c =
    λ s h. c.from_residual.ensures
    ∙ sym (word_value-named s.heap.place c.args.word (λ e. search (rules, e)) (search rules) ∙ ap (option_map Name) (sym (c.in_err-name.ensures s h)))

pub returns : goal.returns
returns c = λ s h.
    sym (word_value-named s.heap.place c.args.word (λ e. search (rules, e)) (search rules) ∙ ap (option_map Name) (sym (c.in_ok-name.ensures s h)))
