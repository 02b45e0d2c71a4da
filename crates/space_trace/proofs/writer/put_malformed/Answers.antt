use Rattle.std.proofs.Common.{◌++◌, [], ◌∷◌, codes, sym, ap, ◌∙◌, append_assoc}
use Rattle.std.specs.Fmt.{decimal}
use Rattle.space_trace.proofs.writer.put_malformed.Goals as goal

pub returns : goal.returns
returns c =
    c.put-2.ensures
    ∙ ap (λ xs. codes "line " ++ xs) (c.put_decimal.ensures.items
    ∙ ap (λ xs. decimal c.args.number ++ xs) (c.put.ensures ∙ ap (λ xs. codes ": malformed" ++ xs) c.requires)
    ∙ sym (append_assoc (decimal c.args.number) (codes ": malformed") (10 ∷ [])))
