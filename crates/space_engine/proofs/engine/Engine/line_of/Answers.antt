use Rattle.std.proofs.Common.{◌++◌, ◌∷◌, [], List, ℕ, ap, ◌∙◌}
use Rattle.space_model.specs.Texts.{dump_pieces, line_of_pieces}
use Rattle.space_dump.specs.HeapLines.{line_at}
use Rattle.space_engine.specs.Views.{View}
use Rattle.space_engine.proofs.engine.Engine.line_of.Goals as goal

-- the LF comes last
pub returns-clause-line : goal.returns-clause-line
returns-clause-line g c =
    c.in_ok-push.ensures.items
    ∙ ap (λ (line : List ℕ). line ++ 10 ∷ []) c.in_ok-line.ensures.line
    ∙ ap (λ (v : View). line_of_pieces (dump_pieces (line_at v.heap c.args.address))) c.self.view_is
