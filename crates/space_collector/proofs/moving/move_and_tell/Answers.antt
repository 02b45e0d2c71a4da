use Rattle.std.proofs.Common.{⊎_elim, arith}
use Rattle.std.proofs.lemmas.Bool.{cases_Bool}
use Rattle.space_collector.proofs.MoveLaws.{sound_moves, few_moves}
use Rattle.space_collector.proofs.MovingLaws.{keeps_all, quiescent_moves}
use Rattle.space_collector.proofs.moving.move_and_tell.Goals as goal

pub returns-clause-told : goal.returns-clause-told
returns-clause-told g c =
    let pinned = c.pin_and_begin-fingers.new.heap in
    let new = c.make_moves-moved.new.heap in
    let made = c.make_moves-moved.ensures.made in
    let sound = sound_moves _ pinned made.events new made.makes c.pin_and_begin-fingers.ensures.sound in
    let few = few_moves _ pinned made.events new made.makes sound in
    record {
      events = made.events;
      moving = record {
        pinned = pinned;
        pins = c.pin_and_begin-fingers.ensures.pins;
        pinned_sound = c.pin_and_begin-fingers.ensures.sound;
        makes = made.makes;
        at_most = c.make_moves-moved.ensures.at_most;
        all = c.make_moves-moved.ensures.all;
        done_is = (
          c.packed-done.ensures.packed,
          λ packed. ⊎_elim (λ done. done) (λ more. absurd (c.packed-done.ensures.not_packed more packed)) (cases_Bool c.packed-done.result),
        );
        few = omega (arith, few);
        sound = sound;
      };
      written = made.written.all;
      prefix = made.written.prefix;
    }

pub returns-clause-keeps : goal.returns-clause-keeps
returns-clause-keeps g c =
    let made = c.make_moves-moved.ensures.made in
    keeps_all c.args.heap.now c.pin_and_begin-fingers.new.heap c.make_moves-moved.new.heap c.args.stack.now _ made.events
    c.pin_and_begin-fingers.ensures.pins made.makes

pub returns-clause-quiescent : goal.returns-clause-quiescent
returns-clause-quiescent g c =
    let made = c.make_moves-moved.ensures.made in
    quiescent_moves c.args.heap.now c.pin_and_begin-fingers.new.heap c.make_moves-moved.new.heap c.args.stack.now _ made.events
    c.pin_and_begin-fingers.ensures.pins made.makes
