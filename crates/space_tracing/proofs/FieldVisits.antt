-- Visits of the fields of an object, one after another.
use Rattle.std.proofs.Common.{◌≡◌, ℕ, ◌+◌, ◌<◌, true, List, [], length, take, get_or, refl, sym, ap, ◌∙◌, subst, arith}
use Rattle.std.proofs.lemmas.List.{take_all}
use Rattle.space_heap.specs.HeapView.{HeapView}
use Rattle.space_heap.specs.Objects.{is_occupied}
use Rattle.space_heap.specs.Readings.{Reading, reading_of, IsNextField, IsReadWhole}
use Rattle.space_tracing.specs.Graph.{SameGraph}
use Rattle.space_tracing.specs.Scans.{fields_of}
use Rattle.space_tracing.proofs.Same.{fields-same}

-- a visit of one word, of words in their order, and that a visit leaves the graph
module _ (one : HeapView → ℕ → HeapView) (all : HeapView → List ℕ → HeapView) where
  -- from v to u the fields that were read were visited
  pub record AreVisited (v u : HeapView) (a : ℕ) (r : Reading) : Type 0 where
    pub visited : u ≡ all v (take r.done (fields_of v a))
    pub reading : r ≡ record (reading_of v a) { done = r.done }

  module _ (graph : (v : HeapView) (words : List ℕ) → SameGraph v (all v words)) (v u : HeapView) (a : ℕ) (r : Reading) (p : AreVisited v u a r) where
    pub same : SameGraph v u
    same = subst (SameGraph v) (sym p.visited) (graph v (take r.done (fields_of v a)))

    pub at : r.address ≡ a
    at = ap (λ (r : Reading). r.address) p.reading

    pub still_occupied : is_occupied v a ≡ true → is_occupied u r.address ≡ true
    still_occupied e = ap (is_occupied u) at ∙ same.standing a ∙ e

    fields_stay : fields_of u r.address ≡ fields_of v a
    fields_stay = ap (fields_of u) at ∙ fields-same v u a same

    pub count_stays : length (fields_of u r.address) ≡ r.count
    count_stays = ap length fields_stay ∙ sym (ap (λ (r : Reading). r.count) p.reading)

    pub next_within : (after : Reading) (word : ℕ) → IsNextField u r after word → r.done < length (fields_of v a)
    next_within after word next = let w = next.within in let n = ap (λ (r : Reading). r.count) p.reading in omega arith

    pub next_word : (after : Reading) (word : ℕ) → IsNextField u r after word → word ≡ get_or (fields_of v a) r.done 0
    next_word after word next = next.is ∙ ap (λ xs. get_or xs r.done 0) fields_stay

    pub one_more : ((words : List ℕ) (i : ℕ) → i < length words → all v (take (i + 1) words) ≡ one (all v (take i words)) (get_or words i 0))
        → (after : Reading) (word : ℕ) → IsNextField u r after word → AreVisited v (one u word) a after
    one_more more after word next =
        let within = next_within after word next in
        let done : after.done ≡ r.done + 1 = ap (λ (r : Reading). r.done) next.after_it in
        record {
          visited =
              ap (λ u. one u word) p.visited
              ∙ ap (one _) (next_word after word next)
              ∙ sym (more (fields_of v a) r.done within)
              ∙ ap (λ n. all v (take n (fields_of v a))) (sym done);
          reading = next.after_it ∙ ap (λ (r : Reading). record r { done = r.done + 1 }) p.reading
              ∙ ap (λ n. record (reading_of v a) { done = n }) (sym done);
        }

    -- each was
    pub all_read : (after : Reading) → IsReadWhole r after → take r.done (fields_of v a) ≡ fields_of v a
    all_read after whole = let w = whole.whole in let n = ap (λ (r : Reading). r.count) p.reading in take_all r.done (fields_of v a) (omega arith)

  pub none_yet : (v : HeapView) (a : ℕ) → all v [] ≡ v → AreVisited v v a (reading_of v a)
  none_yet v a none = record { visited = sym none; reading = refl }
