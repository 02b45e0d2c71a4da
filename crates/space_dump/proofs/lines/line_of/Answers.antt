use Rattle.std.proofs.Common.{ℕ, ◌<◌, ◌^◌, List, length, ap, ◌∙◌, subst, arith}
use Rattle.space_model.specs.Layout.{slot_bytes, pool_for}
use Rattle.space_dump.specs.HeapLines.{line_at}
use Rattle.space_dump.proofs.LineTexts.{line_spelled}
use Rattle.space_dump.proofs.lines.line_of.Goals as goal

pub returns-clause-spelled : goal.returns-clause-spelled
returns-clause-spelled c =
    let size = c.slot_size.ensures ∙ ap (λ (words : List ℕ). slot_bytes (pool_for (length words))) c.requires.words in
    line_spelled (line_at c.args.heap.now c.args.address) (omega (arith, ap length c.requires.words, c.requires.few))
    (subst (λ (n : ℕ). n < 2 ^ 64) c.name.ensures c.name.type_inv) (subst (λ (n : ℕ). n < 2 ^ 64) size c.slot_size.type_inv)
