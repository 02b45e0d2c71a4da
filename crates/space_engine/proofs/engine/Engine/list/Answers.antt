use Rattle.std.proofs.Common.{ℕ, ◌+◌, ◌∙◌, refl, sym, ap, subst, length, arith}
use Rattle.space_heap.specs.Walks.{HasNoObjectFrom}
use Rattle.space_engine.specs.Views.{View}
use Rattle.space_engine.proofs.ObjectLists.{object_small, none_below}
use Rattle.space_engine.proofs.DumpLists.{listed_none, next_in_view, one_more, few_before, few_rise, all_rise, goes_on, stops, lacks, ends}
use Rattle.space_engine.proofs.engine.Engine.list.Goals as goal

pub objects-init : goal.objects-init
objects-init g c =
    let none = ap length (none_below c.args.self.now.heap) in
    record {
      written = listed_none c.args.self.now.heap (g.K.Sink.written c.args.sink.now);
      calm = refl;
      counted = sym none;
      ticked = omega arith;
    }

pub line_of-requires-clause-steps : goal.line_of-requires-clause-steps
line_of-requires-clause-steps g c =
    let next = next_in_view _ _ _ _ c.self.view_is c.in-Some.ensures in
    let few = few_before c.args.self.now.heap _ _ c.requires.sound next in
    let rose = c.objects.invariant.ticked in
    let low = c.requires.steps in
    omega arith

pub returns-in_default-line_of-clause-done : goal.returns-in_default-line_of-clause-done
returns-in_default-line_of-clause-done g c =
    lacks c.args.self.now.heap _ _ _ c.objects.invariant.written c.in-Some.address _ _
    (next_in_view _ _ _ _ c.self.view_is c.in-Some.ensures)
    (c.line_of.ensures.ticked ∙ ap (λ (n : ℕ). n + 1) c.objects.invariant.ticked)

pub returns-in_default-line_of-clause-steps : goal.returns-in_default-line_of-clause-steps
returns-in_default-line_of-clause-steps g c =
    few_rise c.args.self.now.heap _ c.in-Some.address _ _ c.requires.sound
    (next_in_view _ _ _ _ c.self.view_is c.in-Some.ensures)
    (c.line_of.ensures.ticked ∙ ap (λ (n : ℕ). n + 1) c.objects.invariant.ticked)

pub returns-in_err-write_all-clause-fault : goal.returns-in_err-write_all-clause-fault
returns-in_err-write_all-clause-fault g c =
    stops c.args.self.now.heap _ _ _ c.objects.invariant.written _ c.from_residual.result c.in-Some.address c.as_slice.result.now
    (next_in_view _ _ _ _ c.self.view_is c.in-Some.ensures)
    (c.as_slice.ensures.value ∙ c.in-Ok.ensures.line) c.write_all.ensures.prefix

pub returns-in_err-write_all-clause-steps : goal.returns-in_err-write_all-clause-steps
returns-in_err-write_all-clause-steps g c =
    few_rise c.args.self.now.heap _ c.in-Some.address _ _ c.requires.sound
    (next_in_view _ _ _ _ c.self.view_is c.in-Some.ensures)
    (c.line_of.ensures.ticked ∙ ap (λ (n : ℕ). n + 1) c.objects.invariant.ticked)

pub overflow_add-count : goal.overflow_add-count
overflow_add-count g c =
    let next = next_in_view _ _ _ _ c.self.view_is c.in-Some.ensures in
    let few = few_before c.args.self.now.heap _ _ c.requires.sound next in
    let counted = c.objects.invariant.counted in
    omega arith

pub overflow_add-from : goal.overflow_add-from
overflow_add-from g c =
    let next = next_in_view _ _ _ _ c.self.view_is c.in-Some.ensures in
    let small = object_small c.args.self.now.heap _ next.is in
    let limited = c.requires.sound.limited in
    let most = c.requires.sound.most in
    omega arith

pub objects-smaller : goal.objects-smaller
objects-smaller g c =
    let next = next_in_view _ _ _ _ c.self.view_is c.in-Some.ensures in
    let small = object_small c.args.self.now.heap _ next.is in
    let there = next.from_there in
    let limited = c.requires.sound.limited in
    let most = c.requires.sound.most in
    omega arith

pub objects-preserved : goal.objects-preserved
objects-preserved g c =
    let next = next_in_view _ _ _ _ c.self.view_is c.in-Some.ensures in
    let one = one_more c.args.self.now.heap _ _ next in
    record {
      written = goes_on c.args.self.now.heap _ _ _ c.objects.invariant.written _ c.in-Some.address c.as_slice.result.now next
          (c.as_slice.ensures.value ∙ c.in-Ok.ensures.line) c.in_ok-write_all.ensures.bytes;
      calm = c.in_ok-write_all.ensures.cause.calm ∙ c.objects.invariant.calm;
      counted = ap (λ (n : ℕ). n + 1) c.objects.invariant.counted ∙ sym one;
      ticked = (let rose = c.line_of.ensures.ticked in let before = c.objects.invariant.ticked in omega arith);
    }

pub returns-clause-done : goal.returns-clause-done
returns-clause-done g c =
    ends c.args.self.now.heap _ _ _ c.objects.invariant.written _ _ _
    (subst (λ (v : View). HasNoObjectFrom v.heap c.objects.from) c.self.view_is c.in_default.ensures)
    c.objects.invariant.counted c.objects.invariant.ticked

pub returns-clause-steps : goal.returns-clause-steps
returns-clause-steps g c =
    all_rise c.args.self.now.heap c.objects.from _ _ c.requires.sound
    (subst (λ (v : View). HasNoObjectFrom v.heap c.objects.from) c.self.view_is c.in_default.ensures)
    c.objects.invariant.ticked
