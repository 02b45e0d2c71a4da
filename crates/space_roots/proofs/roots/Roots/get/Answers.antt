use Rattle.std.proofs.Common.{◌∙◌, sym}
use Rattle.space_roots.proofs.RootLemmas.{root_word-lookup}
use Rattle.space_roots.proofs.roots.Roots.get.Goals as goal

pub returns : goal.returns
returns c = rw (← c.self.view_is) (c.copied.ensures ∙ c.get.ensures.value ∙ sym (root_word-lookup c.self.inside.map.entries c.args.name))
