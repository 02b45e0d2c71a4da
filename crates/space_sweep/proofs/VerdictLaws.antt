-- What a verdict takes.
use Rattle.std.proofs.Common.{◌↔◌, ℕ, ◌&&◌, sym, ap, ◌∙◌, arith}
use Rattle.std.proofs.lemmas.Bool.{and_parts}
use Rattle.space_model.specs.declared.event.Kind.{Kind}
use Rattle.space_heap.specs.HeapView.{HeapView}
use Rattle.space_heap.specs.Objects.{object_of}
use Rattle.space_heap.specs.Marking.{colour_of, is_white}
use Rattle.space_heap.specs.Sweeping.{IsGone, settled, HasNoGone}
use Rattle.space_heap.specs.declared.heap.walking.Walk.{Walk}
use Rattle.space_heap.specs.Walks.{HasNoGoneFrom, IsWalkFrom}
use Rattle.space_heap.proofs.MarkingLaws.{White-from_is_white}
use Rattle.space_heap.proofs.SettledLaws.{is_gone-settled, none_gone}
use Rattle.space_sweep.specs.Gone.{IsUnmarked}

-- a verdict takes what isn't marked
pub taken : (v : HeapView) (kind : Kind) → HasNoGone v → (a : ℕ) → IsGone (settled v kind) a ↔ IsUnmarked v a
taken v kind none a =
    let is = is_gone-settled v kind a in (
      λ g. let p = and_parts _ _ (sym is ∙ g) in (sym (none_gone v a none) ∙ p.0, White-from_is_white (colour_of v a) p.1),
      λ u. is ∙ ap (λ b. b && is_white (colour_of v a)) (none_gone v a none ∙ u.0) ∙ ap is_white u.1,
    )

-- where a walk finds none from the start none is gone
pub none_gone_walked : (v : HeapView) (walk : Walk) → ((w : HeapView) → IsWalkFrom w walk 0) → ((from : ℕ) → IsWalkFrom v walk from → HasNoGoneFrom v from) →
    HasNoGone v
none_gone_walked v walk begun none a e = sym (ap (λ b. b && (object_of v a).gone) e) ∙ none 0 (begun v) a (omega arith)
