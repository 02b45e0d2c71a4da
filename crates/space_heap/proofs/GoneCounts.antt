-- How many gone objects stand on a page, for the callers.
use Rattle.std.proofs.Common.{ℕ}
use Rattle.std.specs.Prelude.{◌↔◌, count_by}
use Rattle.std.proofs.lemmas.Bool.{and_parts, and_from}
use Rattle.space_model.specs.Counts.{CountIs}
use Rattle.space_heap.specs.HeapView.{HeapView, page_at}
use Rattle.space_heap.specs.Objects.{is_occupied, object_of}
use Rattle.space_heap.specs.SoundHeap.{IsSoundHeap}
use Rattle.space_heap.specs.Sweeping.{has_gone, IsGone, IsGoneOn}
use Rattle.space_heap.proofs.ObjectLaws.{slot_from_occupied}
use Rattle.space_heap.proofs.PageCounts.{IsTested, count_on_page}

-- a gone object stands in a slot
gone_tested : (v : HeapView) (a : ℕ) → IsGone v a ↔ IsTested has_gone v a
unfolding is_occupied object_of
gone_tested v a = (λ g. and_from _ _ (slot_from_occupied v a (and_parts _ _ g).0) g, λ t. (and_parts _ _ t).1)

-- the freed slots of a sweep are so many
pub gone_on_page : (v : HeapView) (page : ℕ) → IsSoundHeap v → CountIs (IsGoneOn v page) (count_by has_gone (page_at v page).slots)
gone_on_page v page sound = count_on_page has_gone v page sound (IsGone v) (gone_tested v)
