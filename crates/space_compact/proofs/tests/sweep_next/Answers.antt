use Rattle.std.proofs.Common.{◌≡◌, ℕ, true, List, ◌∷◌, nat_eq, ap, ◌∙◌, arith}
use Rattle.std.specs.Set.{is_member}
use Rattle.std.proofs.lemmas.Bool.Decides.{nat_tests}
use Rattle.space_compact.proofs.tests.sweep_next.Goals as goal

pub sweep_page-requires-clause-unswept : goal.sweep_page-requires-clause-unswept
sweep_page-requires-clause-unswept c =
    let first = c.in-Some.ensures.first in
    ap (λ pages. is_member nat_eq pages c.in-Some.page) first.1 ∙ head first.0 c.in-Some.page
  where
    head : (others : List ℕ) (page : ℕ) → is_member nat_eq (page ∷ others) page ≡ true
    head others page = grind (arith, nat_tests)
