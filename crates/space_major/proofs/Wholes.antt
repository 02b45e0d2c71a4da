-- What a whole marking comes to.
use Rattle.std.proofs.Common.{◌≡◌, ◌≢◌, ◌↔◌, inl, inr, ⊎_elim, ℕ, true, List, [], ◌++◌, length, nat_eq, sym, ◌∙◌}
use Rattle.std.specs.Set.{is_member}
use Rattle.std.proofs.lemmas.List.Folds.{list_any-append}
use Rattle.std.proofs.lemmas.Bool.{or_cases, or_left, or_right}
use Rattle.space_model.specs.Counts.{CountIs}
use Rattle.space_model.proofs.Reaching.{IsReached-start, IsReached-mono}
use Rattle.space_heap.specs.declared.colour.Colour.TheVariants.{Grey, Black}
use Rattle.space_heap.specs.HeapView.{HeapView}
use Rattle.space_heap.specs.Marking.{colour_of, unmarked}
use Rattle.space_heap.proofs.MarkingLaws.{is_object-unmarked, colour_of-unmarked}
use Rattle.space_tracing.specs.Scans.{visited_all}
use Rattle.space_tracing.specs.Graph.{IsChild, IsStart, IsLive}
use Rattle.space_tracing.specs.Marking.{IsMarked, Marking, Marks, Notes, IsNoted, is_read}
use Rattle.space_tracing.proofs.Same.{SameGraph-unmarked, is_child-same}
use Rattle.space_tracing.proofs.Steps.{From}
use Rattle.space_tracing.proofs.Bundles.{marks_none, marks_words, colours}
use Rattle.space_tracing.proofs.Noted.{noted_by}
use Rattle.space_tracing.proofs.Ends.{marked_exactly, count_done, count_same}

-- the start of a whole marking
pub marks_opened : (old : HeapView) (roots stack : List ℕ) → Marks (unmarked old) (visited_all (visited_all (unmarked old) roots) stack) (roots ++ stack) [] []
marks_opened old roots stack =
    marks_words (unmarked old) (visited_all (unmarked old) roots) roots stack [] []
    (marks_words (unmarked old) (unmarked old) [] roots [] [] (marks_none (unmarked old)))

start_from : (old : HeapView) (roots stack : List ℕ) (n : ℕ) → From (unmarked old) (roots ++ stack) n → IsStart old roots stack n
start_from old roots stack n f = ⊎_elim
    (λ m. absurd (m (colour_of-unmarked old n)))
    (λ k. let o = sym (is_object-unmarked old n) ∙ k.0 in
    ⊎_elim (λ l. inl (o, l)) (λ r. inr (o, r)) (or_cases _ _ (sym (list_any-append (nat_eq n) roots stack) ∙ k.1)))
    f

from_start : (old : HeapView) (roots stack : List ℕ) (n : ℕ) → IsStart old roots stack n → From (unmarked old) (roots ++ stack) n
from_start old roots stack n f = ⊎_elim
    (λ k. inr (is_object-unmarked old n ∙ k.0, list_any-append (nat_eq n) roots stack ∙ or_left _ _ k.1))
    (λ k. inr (is_object-unmarked old n ∙ k.0, list_any-append (nat_eq n) roots stack ∙ or_right _ _ k.1))
    f

-- exactly the live ones are marked
pub marked_whole : (old new : HeapView) (roots stack done : List ℕ) → Marking (unmarked old) new (roots ++ stack) [] done
    → ((n : ℕ) → colour_of new n ≢ Grey) → (n : ℕ) → IsMarked new n ↔ IsLive old roots stack n
marked_whole old new roots stack done p none n =
    let v : HeapView = unmarked old in
    let s = SameGraph-unmarked old in
    let e = marked_exactly v new (roots ++ stack) [] done p none (λ m q b a c. let w = colour_of-unmarked old m in cc) n in (
      (λ m. IsReached-mono (IsChild v) (IsChild old) (From v (roots ++ stack)) (IsStart old roots stack) (λ x y c. sym (is_child-same old v x y s) ∙ c)
          (λ x f. IsReached-start (IsChild old) (IsStart old roots stack) x (start_from old roots stack x f)) n (e.0 m)),
      (λ r. e.1 (IsReached-mono (IsChild old) (IsChild v) (IsStart old roots stack) (From v (roots ++ stack)) (λ x y c. is_child-same old v x y s ∙ c)
          (λ x f. IsReached-start (IsChild v) (From v (roots ++ stack)) x (from_start old roots stack x f)) n r)),
    )

pub count_whole : (old new : HeapView) (roots stack done : List ℕ) → Marking (unmarked old) new (roots ++ stack) [] done → ((n : ℕ) → colour_of new n ≢ Grey)
    → CountIs (IsLive old roots stack) (length done)
count_whole old new roots stack done p none =
    count_same (λ n. IsMarked new n × (colour_of (unmarked old) n ≢ Black)) (IsLive old roots stack) (length done)
    (λ n h. (marked_whole old new roots stack done p none n).0 h.0)
    (λ n r. ((marked_whole old new roots stack done p none n).1 r, (λ b. let w = colour_of-unmarked old n in cc)))
    (count_done (unmarked old) new (roots ++ stack) [] done p none)

-- what was scanned is what is live
done_whole : (old new : HeapView) (roots stack done : List ℕ) → Marking (unmarked old) new (roots ++ stack) [] done
    → ((n : ℕ) → colour_of new n ≢ Grey) → (n : ℕ) → (is_member nat_eq done n ≡ true) ↔ IsLive old roots stack n
done_whole old new roots stack done p none n =
    let e = marked_whole old new roots stack done p none n in (
      (λ d. e.0 (let b = p.done_black n d in λ w. cc)),
      (λ r. ⊎_elim
          (λ w. absurd (e.1 r w))
          (λ q. ⊎_elim (λ g. absurd (none n g)) (λ b. p.black_done n b (λ o. let w = colour_of-unmarked old n in cc)) q)
          (colours (colour_of new n))),
    )

pub noted_whole : (old new : HeapView) (roots stack done : List ℕ) → Marking (unmarked old) new (roots ++ stack) [] done
    → ((n : ℕ) → colour_of new n ≢ Grey) → Notes (unmarked old) new [] done → IsNoted (unmarked old) new (IsLive old roots stack)
noted_whole old new roots stack done p none h = noted_by (unmarked old) new (λ n. is_read [] done n ≡ true) (IsLive old roots stack)
    (λ n r. (done_whole old new roots stack done p none n).0 r) (λ n q. (done_whole old new roots stack done p none n).1 q) h
