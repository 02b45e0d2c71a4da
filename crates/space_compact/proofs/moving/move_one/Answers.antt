use Rattle.std.proofs.Common.{sym, subst}
use Rattle.space_heap.proofs.ObjectLaws.{occupied_from_object}
use Rattle.space_compact.specs.Moves.{AreFingers}
use Rattle.space_compact.proofs.Movable.{movable_parts, fingers_still}
use Rattle.space_compact.proofs.moving.move_one.Goals as goal

pub name-name-requires : goal.name-name-requires
name-name-requires c = occupied_from_object _ _ (movable_parts c.args.heap.now c.in-Some.next.pool c.in-Some.next.from c.in-Some.ensures.next.its.is).object

pub returns-in-Some-clause-fingers : goal.returns-in-Some-clause-fingers
returns-in-Some-clause-fingers c =
    subst (λ v. AreFingers v (record c.next_move.new.fingers { high = c.in-Some.next.from })) (sym c.relocate.ensures)
    (fingers_still c.args.heap.now c.in-Some.next.pool c.in-Some.next.from c.in-Some.next.to c.in-Some.ensures.next.its
    c.next_move.new.fingers c.in-Some.ensures.above.0 c.in-Some.ensures.fingers)
