use Rattle.std.proofs.Common.{◌≤◌, ◌++◌, length, ap, ◌∙◌, length-append, arith}
use Rattle.std.specs.Fmt.{decimal}
use Rattle.std.proofs.lemmas.List.{length-drop}
use Rattle.std.proofs.lemmas.Fmt.{length-decimal-le}
use Rattle.space_trace.proofs.line_end.LineEnd.put_decimal.Goals as goal

few : (c : goal.After-write_digits-arg-1) → length (decimal c.args.number) ≤ 20
few c = length-decimal-le 20 c.args.number (omega arith) (omega arith) (omega arith)

pub write_digits-self-inside-requires : goal.write_digits-self-inside-requires
write_digits-self-inside-requires c =
    let long = ap length c.self.view_is in
    let rest = length-drop c.self.inside.start c.self.inside.bytes in
    let short = few c in
    let known = c.self.told in
    let within = c.self.invariant.0 in
    let room = c.requires in
    (omega arith, omega arith)

pub returns-clause-len : goal.returns-clause-len
returns-clause-len c =
    let short : length (decimal c.args.number) ≤ 20 = length-decimal-le 20 c.args.number (omega arith) (omega arith) (omega arith) in
    let long = ap length (c.write_digits-self-inside.ensures.written ∙ ap (λ xs. decimal c.args.number ++ xs) c.self.view_is) in
    let parts = length-append (decimal c.args.number) c.args.self.now in
    omega arith
