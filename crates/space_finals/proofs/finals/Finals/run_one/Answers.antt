use Rattle.std.proofs.Common.{◌≡◌, ◌∙◌, ◌+◌, ◌∷◌, length, rules, ap}
use Rattle.space_finals.proofs.FinalsLemmas.{to_run-oldest, to_run-next}
use Rattle.space_finals.proofs.finals.Finals.run_one.Goals.{then-self-len, in-Some-1, in-None-1, else-self-len}
use Rattle.space_finals.proofs.finals.Finals.run_one.Goals as goal

pub returns-clause-oldest : goal.returns-clause-oldest
returns-clause-oldest c =
    let first = c.in_ok-name.ensures in
    let some = first.item.3.0 in
    let items = c.self.inside.queue.items in
    let entry = c.in_ok-name.field-0.now in
    let oldest = to_run-oldest
    (λ labels. labels.items) c.self.inside.ran items entry c.index.result.now c.self.invariant.stored.to_run some first.lookup c.index.ensures in
    rw (← c.self.view_is) (elim c.if-self-len.branch [
      | then-self-len w ↦
          let all : c.self.inside.ran + 1 ≡ length entry.1.items = search rules in
          rw (w.self-is, w.pop_front.ensures.rest) (oldest
          ∙ ap (λ rest. (entry.0, c.index.result.now) ∷ rest)
          (to_run-next (λ labels. labels.items) (c.self.inside.ran + 1) items entry some first.lookup all))
      | else-self-len w ↦ rw w.self-is oldest
    ])
