use Rattle.std.proofs.Common.{◌∙◌, ◌+◌, ◌≤◌, length, sym, append-nil, arith}
use Rattle.std.specs.VecDeque.{deque_len, deque_capacity}
use Rattle.space_finals.proofs.FinalsLemmas.{HaveSameLabels-removed, labels_of-pairs_in, AreStored-moved, to_run-push, length-taken, length-queued}
use Rattle.space_finals.proofs.finals.Finals.queue.Goals as goal

pub returns-in_default : goal.returns-in_default
returns-in_default c =
    let stored = c.self.invariant.stored in
    rw (← c.self.view_is) (record {
      finals = HaveSameLabels-removed _ _ _ c.args.name stored.distinct c.swap_remove.ensures.unique c.swap_remove.ensures.updates.0;
      queue = rw (labels_of-pairs_in _ _ c.args.name stored.distinct) (rw (sym c.swap_remove.ensures.value ∙ c.in_default.is) (sym (append-nil _)));
    })

pub invariant_of-self-2 : goal.invariant_of-self-2
invariant_of-self-2 c =
    let stored = c.self.invariant.stored in
    let room : deque_len c.push_back.new.self + length c.swap_remove.new.self.entries ≤ deque_capacity c.push_back.new.self =
    omega (arith, c.in-Some.ensures.len, c.in-Ok.ensures.len, c.in-Ok.ensures.capacity) in
    let found = sym c.swap_remove.ensures.value ∙ c.in-Some.is in
    let taken = length-taken (λ labels. labels.items) _ _ c.args.name c.in-Some.labels stored.distinct c.swap_remove.ensures.unique
    c.swap_remove.ensures.updates.0 found in
    let queued = length-queued (λ labels. labels.items) c.self.inside.ran c.self.inside.queue.items c.args.name c.in-Some.labels stored.to_run in
    let counted = c.self.invariant.counted in
    record {
      stored = AreStored-moved _ _ _ _ _ _ _ _ _ _ c.args.name c.in-Some.labels stored c.swap_remove.ensures.unique
          c.swap_remove.ensures.updates.0 found c.in-Ok.ensures.items room;
      counted = rw c.in-Ok.ensures.items (omega (arith, taken, queued, counted));
    }

pub returns : goal.returns
returns c =
    let stored = c.self.invariant.stored in
    let moved = to_run-push _ c.self.inside.ran c.self.inside.queue.items c.args.name c.in-Some.labels stored.to_run in
    rw (← c.self.view_is) (record {
      finals = HaveSameLabels-removed _ _ _ c.args.name stored.distinct c.swap_remove.ensures.unique c.swap_remove.ensures.updates.0;
      queue = rw (labels_of-pairs_in _ _ c.args.name stored.distinct)
          (rw (sym c.swap_remove.ensures.value ∙ c.in-Some.is, c.in-Ok.ensures.items) moved);
    })
