-- Where no gone object is counted there is none, for the tests.
use Rattle.std.proofs.Common.{◌≡◌, ⊎_elim, ℕ, true, true≢false, List, [], ◌∷◌, length, nat_eq, sym, ◌∙◌, arith}
use Rattle.std.specs.Set.{is_member}
use Rattle.std.proofs.lemmas.Bool.{cases_Bool, and_from}
use Rattle.space_model.specs.Counts.{CountIs}
use Rattle.space_heap.specs.HeapView.{HeapView}
use Rattle.space_heap.specs.Objects.{object_of}
use Rattle.space_heap.specs.Sweeping.{IsGone, HasNoGone}

no_member : (xs : List ℕ) (a : ℕ) → length xs ≡ 0 → is_member nat_eq xs a ≡ true → ⊥
no_member [] a none m = true≢false (sym m)
no_member (x ∷ xs) a none m = absurd (omega arith)

pub none_gone_counted : (v : HeapView) (count : ℕ) → CountIs (IsGone v) count → count ≡ 0 → HasNoGone v
none_gone_counted v count c none a standing = ⊎_elim
    (λ gone. absurd (no_member c.names a (c.long ∙ none) ((c.are a).1 (and_from _ _ standing gone))))
    (λ alive. alive)
    (cases_Bool (object_of v a).gone)
