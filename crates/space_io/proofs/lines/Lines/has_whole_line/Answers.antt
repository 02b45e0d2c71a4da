use Rattle.space_io.proofs.Cuts.{seen_has_lf}
use Rattle.space_io.proofs.lines.Lines.has_whole_line.Goals as goal

pub returns-in-Some-clause-some : goal.returns-in-Some-clause-some
returns-in-Some-clause-some c =
    λ _. rw (← c.self.view_is) (seen_has_lf c.self.inside.bytes.items c.deref.result.now _ _ c.self.inside.start c.deref.ensures.value c.in-Some.ensures.0)
