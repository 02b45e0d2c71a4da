use Rattle.std.proofs.Common.{ap, ◌∙◌, subst}
use Rattle.space_compact.specs.Pins.{pinned_words, PinsKept}
use Rattle.space_compact.proofs.PinMarks.{pins_now}
use Rattle.space_compact.proofs.pinning.pin_now.Goals as goal

pub returns-clause-pins : goal.returns-clause-pins
returns-clause-pins g c = pins_now c.args.heap.now c.pin_kept.new.heap c.args.stack.now
    (subst (λ v. PinsKept v c.pin_kept.new.heap) (c.pin_stack.ensures ∙ ap (λ u. pinned_words u c.args.stack.now) c.unpin.ensures) c.pin_kept.ensures.pins)
