use Rattle.std.proofs.Common.{◌≡◌, ◌∙◌, sym, ap, refl, false, true≢false, Option, None, Some, is_some}
use Rattle.space_roots.proofs.RootLemmas.{with_root_word-absent, root_word-with_root_word}
use Rattle.space_roots.proofs.roots.Roots.reserve_for.Goals as goal

none_from : {X : Type 0} (o : Option X) → is_some o ≡ false → o ≡ None
none_from None e = refl
none_from (Some x) e = absurd (true≢false e)

pub returns-clause-added : goal.returns-clause-added
returns-clause-added c =
    let absent = none_from _ (ap is_some (sym c.get.ensures) ∙ sym c.is_some.ensures ∙ c.if-is_some.false) in
    λ _. c.in_ok-set.ensures.ok ∙ with_root_word-absent c.args.self.now c.args.name 0 absent

pub returns-clause-there : goal.returns-clause-there
returns-clause-there c = rw c.in_ok-set.ensures.ok (ap is_some (root_word-with_root_word c.args.self.now c.args.name 0))
