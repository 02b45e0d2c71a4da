use Rattle.std.proofs.Common.{refl, sym, ap, ◌∙◌, subst, arith}
use Rattle.space_heap.specs.HeapView.{Counters}
use Rattle.space_collector.specs.MovesWritten.{AreMovesMade}
use Rattle.space_collector.proofs.MoveLaws.{keeps_moves, sound_moves, few_moves}
use Rattle.space_collector.proofs.MoveLines.{none_made, one_made}
use Rattle.space_collector.proofs.moving.make_moves.Goals as goal

pub moves-init : goal.moves-init
moves-init g c = record {
  made = none_made c.args.heap.now _ (g.K.Sink.written c.args.sink.now);
  cause = record { later = omega arith; calm = refl; failed = tt };
  fingers = c.requires.fingers;
  at_most = omega arith;
}

pub move_one-requires-clause-fingers : goal.move_one-requires-clause-fingers
move_one-requires-clause-fingers g c = c.moves.invariant.fingers

pub move_one-requires-clause-none_grey : goal.move_one-requires-clause-none_grey
move_one-requires-clause-none_grey g c =
    (keeps_moves c.moves.moved c.args.heap.now _ c.moves.heap c.moves.invariant.made.makes).grey ∙ c.requires.none_grey

pub move_one-requires-clause-few : goal.move_one-requires-clause-few
move_one-requires-clause-few g c =
    let makes = c.moves.invariant.made.makes in
    let kept = keeps_moves c.moves.moved c.args.heap.now _ c.moves.heap makes in
    let few = few_moves c.moves.moved c.args.heap.now _ c.moves.heap makes
    (sound_moves c.moves.moved c.args.heap.now _ c.moves.heap makes c.requires.sound) in
    let counted = ap (λ (x : Counters). x.moves) kept.counters in
    let before = c.requires.few in
    omega (arith, few, counted, before)

pub returns-in_default-clause-made : goal.returns-in_default-clause-made
returns-in_default-clause-made g c =
    subst (λ v. AreMovesMade c.args.heap.now v c.moves.moved c.moves.told (g.K.Sink.written c.args.sink.now) (g.K.Sink.written c.moves.sink))
    (sym c.in_default.ensures.lower) c.moves.invariant.made

pub returns-in_default-clause-cause : goal.returns-in_default-clause-cause
returns-in_default-clause-cause g c = c.moves.invariant.cause

pub moves-preserved : goal.moves-preserved
moves-preserved g c = record {
  made = one_made c.args.heap.now c.moves.heap c.move_one.new.heap c.in-Some.made c.moves.moved c.moves.told c.tell_move-told.result
      (g.K.Sink.written c.args.sink.now) (g.K.Sink.written c.moves.sink) (g.K.Sink.written c.tell_move-told.new.sink)
      c.moves.invariant.made c.in-Some.ensures.moves (c.tell_move-told.ensures.written (g.K.Sink.written c.args.sink.now));
  cause = c.tell_move-told.ensures.cause (g.K.Sink.faults c.args.sink.now) c.moves.invariant.cause;
  fingers = c.in-Some.ensures.fingers;
  at_most = let under = c.moves-test.true in omega arith;
}

pub returns-clause-made : goal.returns-clause-made
returns-clause-made g c = c.moves.invariant.made

pub returns-clause-at_most : goal.returns-clause-at_most
returns-clause-at_most g c = c.moves.invariant.at_most

pub returns-clause-cause : goal.returns-clause-cause
returns-clause-cause g c = c.moves.invariant.cause

pub returns-clause-fingers : goal.returns-clause-fingers
returns-clause-fingers g c = c.moves.invariant.fingers
