use Rattle.std.proofs.Common.{◌≡◌, ℕ, ◌≤◌, Bool, true, false, ◌&&◌, sym, ap, ◌∙◌, arith}
use Rattle.space_heap.specs.declared.heap.walking.Walk.{Walk}
use Rattle.space_heap.specs.HeapView.{HeapView}
use Rattle.space_heap.specs.Objects.{object_of}
use Rattle.space_heap.specs.Sweeping.{HasNoGone}
use Rattle.space_heap.specs.Walks.{IsWalkFrom, HasNoGoneFrom}
use Rattle.space_compact.proofs.tests.is_settled.Goals as goal

-- a walk from the start that finds none
none_gone : (v : HeapView) (walk : Walk) → ((w : HeapView) → IsWalkFrom w walk 0) → ((from : ℕ) → IsWalkFrom v walk from → HasNoGoneFrom v from) → HasNoGone v
none_gone v walk begun none a e = sym (ap (λ b. b && (object_of v a).gone) e) ∙ none 0 (begun v) a (omega arith)

pub settle-requires-clause-none_gone : goal.settle-requires-clause-none_gone
settle-requires-clause-none_gone c = none_gone c.args.heap.now c.new.result c.new.ensures c.in-None-next_gone.ensures.next
