use Rattle.std.proofs.Common.{◌≡◌, ◌<◌, nat_lt, true, arith}
use Rattle.std.proofs.lemmas.Bool.Decides.{nat_tests}
use Rattle.space_finals.proofs.FinalsLemmas.{some_pair}
use Rattle.space_finals.proofs.finals.Finals.any_defined.Goals as goal

pub returns-clause-some : goal.returns-clause-some
returns-clause-some c =
    rw (← c.self.view_is)
    (λ (some : nat_lt 0 c.len.result ≡ true). let more : 0 < c.len.result = grind (arith, nat_tests, some) in
    some_pair (λ labels. labels.items) c.self.inside.defined.entries c.self.invariant.stored.labelled (omega (arith, more, c.len.ensures.len)))
