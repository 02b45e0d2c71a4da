use Rattle.std.proofs.Common.{◌≡◌, ℕ, ◌<◌, ◌≤◌, ◌-◌, false, length}
use Rattle.space_model.specs.Layout.{page_of}
use Rattle.space_heap.specs.Walks.{is_sought}
use Rattle.space_heap.proofs.heap.Heap.next_of.Given as goal

abbrev pub invariant-pages : goal.invariant-pages
invariant-pages l = (b : ℕ) → l.from ≤ b → page_of b < l.page → is_sought l.sought l.self b ≡ false

abbrev pub decreases-pages : goal.decreases-pages
decreases-pages l = length l.self.pages - l.page
