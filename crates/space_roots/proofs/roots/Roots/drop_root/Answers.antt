use Rattle.std.proofs.Common.{◌∙◌, ap, sym, is_some}
use Rattle.space_roots.proofs.RootLemmas.{root_word-lookup, without_root-shift_remove_entry}
use Rattle.space_roots.proofs.roots.Roots.drop_root.Goals as goal

pub returns-clause-answer : goal.returns-clause-answer
returns-clause-answer c = rw (← c.self.view_is) (c.is_some.ensures ∙ ap is_some (c.shift_remove.ensures.value ∙ sym (root_word-lookup c.self.inside.map.entries c.args.name)))

pub returns-clause-rest : goal.returns-clause-rest
returns-clause-rest c = rw (← c.self.view_is) (c.shift_remove.ensures.entries ∙ sym (without_root-shift_remove_entry c.self.inside.map.entries c.args.name))

pub returns-clause-gone : goal.returns-clause-gone
returns-clause-gone c = root_word-lookup c.shift_remove.new.self.entries c.args.name ∙ c.shift_remove.ensures.updates.1
