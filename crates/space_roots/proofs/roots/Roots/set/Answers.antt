use Rattle.std.proofs.Common.{◌∙◌, sym}
use Rattle.space_roots.proofs.RootLemmas.{root_word-lookup, with_root_word-insert_entry}
use Rattle.space_roots.proofs.roots.Roots.set.Goals as goal

pub returns-in_default-clause-absent : goal.returns-in_default-clause-absent
returns-in_default-clause-absent c = rw (← c.self.view_is) (root_word-lookup c.self.inside.map.entries c.args.name ∙ c.in_default.ensures.absent)

pub returns-clause-ok : goal.returns-clause-ok
returns-clause-ok c = rw (← c.self.view_is) (c.in-Ok.ensures.entries ∙ sym (with_root_word-insert_entry c.self.inside.map.entries c.args.name c.args.word))
