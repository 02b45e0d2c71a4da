use Rattle.std.proofs.Common.{◌≡◌, ℕ, cond, Bool, length, ap, ◌∙◌, arith}
use Rattle.std.specs.Prelude.{count_by}
use Rattle.std.specs.List.{range_with_len}
use Rattle.space_heap.specs.planes.CountedSlots.{is_noted_in}
use Rattle.space_heap.proofs.CountedSlots.{count_next}
use Rattle.space_heap.proofs.marks.Marks.noted_count.Goals as goal

pub slots-preserved : goal.slots-preserved
slots-preserved c =
    let test : ℕ → Bool = is_noted_in c.args.note c.args.self.now in
    let more = count_next test c.slots.s in
    let one : c.one_if-count.result ≡ cond (test c.slots.s) 1 0 = c.one_if-count.ensures.one ∙ ap (λ b. cond {A = ℕ} b 1 0) c.is_noted.ensures in
    let most = c.one_if-count.ensures.few in
    let counted = c.slots.invariant.counted in
    let few = c.slots.invariant.few in
    record { counted = omega (arith, more, one, counted); few = omega (arith, most, few) }

pub returns : goal.returns
returns c =
    let end : c.slots.s ≡ length c.args.self.now.object = omega arith in
    c.slots.invariant.counted ∙ ap (λ n. count_by (is_noted_in c.args.note c.args.self.now) (range_with_len 0 n)) end
