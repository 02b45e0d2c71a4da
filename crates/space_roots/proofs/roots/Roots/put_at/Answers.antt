use Rattle.std.proofs.Common.{◌∙◌, sym, ap, length}
use Rattle.space_roots.specs.WordRoots.{root_idents}
use Rattle.space_roots.proofs.RootLemmas.{with_word_at-set_value_at, root_idents-with_word_at, length-with_word_at}
use Rattle.space_roots.proofs.roots.Roots.put_at.Goals as goal

pub returns-clause-written : goal.returns-clause-written
returns-clause-written c = rw (← c.self.view_is) (sym (with_word_at-set_value_at c.self.inside.map.entries c.args.k c.args.word))

pub returns-clause-names : goal.returns-clause-names
returns-clause-names c =
    let roots = c.self.inside.map.entries in
    rw (← c.self.view_is) (ap root_idents (sym (with_word_at-set_value_at roots c.args.k c.args.word)) ∙ root_idents-with_word_at roots c.args.k c.args.word)

pub returns-clause-len : goal.returns-clause-len
returns-clause-len c =
    let roots = c.self.inside.map.entries in
    rw (← c.self.view_is) (ap length (sym (with_word_at-set_value_at roots c.args.k c.args.word)) ∙ length-with_word_at roots c.args.k c.args.word)
