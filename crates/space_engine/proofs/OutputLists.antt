-- One list of outputs after another: what is counted of both, and that both can be written.
use Rattle.std.proofs.Common.{◌≡◌, List, [], ◌∷◌, ◌++◌, length, map, ℕ, zero, suc, ◌+◌, refl, sym, ap, ◌∙◌, subst, arith}
use Rattle.std.proofs.lemmas.List.{map-append}
use Rattle.space_model.specs.declared.event.Event.{Event}
use Rattle.space_model.specs.declared.event.Event.TheVariants.{Gone, Verdict}
use Rattle.space_model.specs.declared.event.Kind.{Kind}
use Rattle.space_model.specs.Outputs.{Output, Told}
use Rattle.space_model.specs.Texts.{AreSpelled}
use Rattle.space_engine.specs.declared.counts.Counts.{Counts}
use Rattle.space_heap.specs.HeapView.{HeapView}
use Rattle.space_collector.specs.HeapMoves.{MovesTold}
use Rattle.space_engine.specs.Counting.{no_counts, output_counts, sum_of_counts, counts_of}

plus_none : (a : ℕ) → 0 + a ≡ a
plus_none a = omega arith

none_after : (a : ℕ) → a + 0 ≡ a
none_after a = omega arith

plus_assoc : (a b c : ℕ) → a + b + c ≡ a + (b + c)
plus_assoc a b c = omega arith

sum_none : (a : Counts) → sum_of_counts no_counts a ≡ a
sum_none a = λ i. record {
  objects = plus_none a.objects i;
  gone = plus_none a.gone i;
  moves = plus_none a.moves i;
  finals = plus_none a.finals i;
  full = plus_none a.full i;
  errors = plus_none a.errors i;
  no_memory = plus_none a.no_memory i;
}

sum_assoc : (a b c : Counts) → sum_of_counts (sum_of_counts a b) c ≡ sum_of_counts a (sum_of_counts b c)
sum_assoc a b c = λ i. record {
  objects = plus_assoc a.objects b.objects c.objects i;
  gone = plus_assoc a.gone b.gone c.gone i;
  moves = plus_assoc a.moves b.moves c.moves i;
  finals = plus_assoc a.finals b.finals c.finals i;
  full = plus_assoc a.full b.full c.full i;
  errors = plus_assoc a.errors b.errors c.errors i;
  no_memory = plus_assoc a.no_memory b.no_memory c.no_memory i;
}

pub counts_of-append : (xs ys : List Output) → counts_of (xs ++ ys) ≡ sum_of_counts (counts_of xs) (counts_of ys)
counts_of-append [] ys = sym (sum_none (counts_of ys))
counts_of-append (x ∷ xs) ys = ap (sum_of_counts (output_counts x)) (counts_of-append xs ys) ∙ sym (sum_assoc (output_counts x) (counts_of xs) (counts_of ys))

pub AreSpelled-append : (xs ys : List Output) → AreSpelled xs → AreSpelled ys → AreSpelled (xs ++ ys)
AreSpelled-append [] ys first second = second
AreSpelled-append (x ∷ xs) ys first second = (first.0, AreSpelled-append xs ys first.1 second)

-- the lines of a verdict tell of as many gone objects as it takes
pub counted_names : (kind : Kind) (names : List ℕ) (k : ℕ) →
    counts_of (map Told (map Gone names ++ Verdict kind k ∷ [])) ≡ record no_counts { gone = length names }
counted_names kind [] k = refl
counted_names kind (name ∷ names) k = ap (sum_of_counts (record no_counts { gone = 1 })) (counted_names kind names k) ∙ one_more (length names)
  where
    one_more : (n : ℕ) → sum_of_counts (record no_counts { gone = 1 }) (record no_counts { gone = n }) ≡ record no_counts { gone = suc n }
    one_more n = ap (λ k. record no_counts { gone = k }) (omega arith)

-- events, and then others, tell of as many gone objects as both
pub counted_both : (xs ys : List Event) (some moves others : ℕ) → counts_of (map Told xs) ≡ record no_counts { gone = some; moves = moves } →
    counts_of (map Told ys) ≡ record no_counts { gone = others } →
    counts_of (map Told (xs ++ ys)) ≡ record no_counts { gone = some + others; moves = moves }
counted_both xs ys some moves others first second =
    ap counts_of (map-append Told xs ys)
    ∙ counts_of-append (map Told xs) (map Told ys)
    ∙ ap (λ c. sum_of_counts c (counts_of (map Told ys))) first
    ∙ ap (sum_of_counts (record no_counts { gone = some; moves = moves })) second
    ∙ ap (λ n. record no_counts { gone = some + others; moves = n }) (none_after moves)

-- both can be written
pub spelled_both : (xs ys : List Event) → AreSpelled (map Told xs) → AreSpelled (map Told ys) → AreSpelled (map Told (xs ++ ys))
spelled_both xs ys first second =
    subst AreSpelled (sym (map-append Told xs ys)) (AreSpelled-append (map Told xs) (map Told ys) first second)

-- the lines of moves tell of as many moves
pub moves_counted : (count : ℕ) (v : HeapView) (events : List Event) (w : HeapView) → MovesTold count v events w →
    counts_of (map Told events) ≡ record no_counts { moves = count }
moves_counted zero v events w (none, same) = ap (λ events. counts_of (map Told events)) none
moves_counted (suc count) v events w (made, later, mid, both, first, others) =
    ap (λ events. counts_of (map Told events)) both
    ∙ ap (sum_of_counts (record no_counts { moves = 1 })) (moves_counted count mid later w others)
    ∙ one_more count
  where
    one_more : (n : ℕ) → sum_of_counts (record no_counts { moves = 1 }) (record no_counts { moves = n }) ≡ record no_counts { moves = suc n }
    one_more n = ap (λ k. record no_counts { moves = k }) (omega arith)
