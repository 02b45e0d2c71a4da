-- What the fields of `Finals` stand for, and what holds of them.
use Rattle.std.specs.Prelude.{◌≡◌, ◌+◌, length, drop}
use Rattle.std.specs.VecDeque.{deque_len, deque_capacity}
use Rattle.space_finals.specs.declared.finals.Finals.TheInside.{Inside}
use Rattle.space_finals.specs.FinalLists.{FinalLists}
use Rattle.space_finals.specs.StoredFinals.{pairs_in, AreStored}

-- the pairs of the names that have a finalizer, and those in the queue that are still to run
abbrev pub view_from : Inside → FinalLists
view_from f = record {
  finals = pairs_in (λ labels. labels.items) f.defined.entries;
  queue = drop f.ran (pairs_in (λ labels. labels.items) f.queue.items);
}

-- what holds of all fields together
pub record AreFinals (f : Inside) : Type 0 where
  pub stored : AreStored (λ labels. labels.items) f.defined.entries f.queue.items f.ran (deque_len f.queue) (deque_capacity f.queue)
  pub counted : f.count ≡ length (view_from f).finals + length (view_from f).queue
