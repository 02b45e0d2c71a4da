use Rattle.std.proofs.Common.{◌≡◌, ◌++◌, ◌∷◌, [], length, sym, ap, ◌∙◌, subst, rules, arith}
use Rattle.space_pools.specs.PageSlots.{free_page}
use Rattle.space_pools.specs.Spare.{with_free_page}
use Rattle.space_pools.specs.InsidePools.{view_from}
use Rattle.space_pools.specs.Unswept.{AreUnswept}
use Rattle.space_pools.proofs.Kept.{next_page}
use Rattle.space_pools.proofs.Waiting.{waiting_pushed}
use Rattle.std.proofs.lemmas.Grind.{common_steps}
use Rattle.space_pools.proofs.pools.Pools.make_page.Goals as goal

pub returns-clause-made : goal.returns-clause-made
returns-clause-made c =
    let v = view_from c.self.inside in
    let pushed : c.push_reserved.new.self.items ≡ v.pages ++ free_page c.args.pool ∷ [] = search rules in
    ap (λ pages. record v { pages = pages }) pushed
    ∙ sym (next_page v c.args.pool)
    ∙ ap (λ v. with_free_page v (length v.pages) c.args.pool) c.self.view_is

pub invariant_of-self : goal.invariant_of-self
invariant_of-self c =
    let v = view_from c.self.inside in
    let known = c.self.invariant in
    let pushed : c.push_reserved.new.self.items ≡ v.pages ++ free_page c.args.pool ∷ [] = search rules in
    record {
      sound = grind (arith, common_steps);
      room = grind (arith, common_steps);
      spares = grind (arith, common_steps);
      waiting = subst (λ pages. AreUnswept (record v { pages = pages }) c.self.inside.first_unswept c.self.inside.unswept) (sym pushed)
          (waiting_pushed v c.args.pool c.self.inside.first_unswept c.self.inside.unswept known.waiting);
      full = grind (arith, common_steps);
    }
