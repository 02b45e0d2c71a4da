use Rattle.std.proofs.Common.{◌≡◌, ◌++◌, ◌+◌, [], ℕ, List, length, nat_eq, sym, ap, ◌∙◌, subst, arith}
use Rattle.std.specs.Set.{is_member}
use Rattle.space_roots.specs.WordRoots.{root_words}
use Rattle.space_heap.specs.Generations.{is_minor_scan, old_marked}
use Rattle.space_tracing.specs.Scans.{visited_all}
use Rattle.space_tracing.specs.Marking.{Marks}
use Rattle.space_tracing.proofs.Same.{SameGraph-then, SameGraph-old_marked}
use Rattle.space_tracing.proofs.Bundles.{marks_none, marks_words}
use Rattle.space_tracing.proofs.Rescanned.{few_again}
use Rattle.space_minor.proofs.MinorMarks.{held_old_marked, spared, counts, noted}
use Rattle.space_minor.proofs.marking.minor.Given as given
use Rattle.space_minor.proofs.marking.minor.Goals as goal

-- what was scanned from the start
abbrev First : (g : given.Over) (c : goal.After-drain g) → Type 0
First g c = (again : List ℕ) × Marks (old_marked c.args.heap.now) c.scan_listed-first.new.heap [] again []
    × ((a : ℕ) → is_member nat_eq again a ≡ is_minor_scan (old_marked c.args.heap.now) a) × (length again ≡ c.scan_listed-first.result)

first : (g : given.Over) (c : goal.After-drain g) → First g c
first g c = c.scan_listed-first.ensures.listed (old_marked c.args.heap.now) []
    (subst (λ v. Marks (old_marked c.args.heap.now) v [] [] []) (sym c.mark_old.ensures) (marks_none (old_marked c.args.heap.now)))
    (held_old_marked c.args.heap.now)

-- and then all
abbrev All : (g : given.Over) (c : goal.After-drain g) → Type 0
All g c = (done : List ℕ) × Marks (old_marked c.args.heap.now) c.drain.new.heap (root_words c.args.roots.now ++ c.args.stack.now) (first g c).0 done
    × (length done ≡ c.drain.result)

all : (g : given.Over) (c : goal.After-drain g) → All g c
all g c =
    let s = old_marked c.args.heap.now in
    let words : List ℕ = root_words c.args.roots.now in
    let t = first g c in
    let visits = c.visit_all.ensures ∙ ap (visited_all c.visit_roots.new.heap) c.words.ensures ∙ ap (λ v. visited_all v c.args.stack.now) c.visit_roots.ensures in
    c.drain.ensures.goes_on s (words ++ c.args.stack.now) t.0 []
    (subst (λ v. Marks s v (words ++ c.args.stack.now) t.0 []) (sym visits)
    (marks_words s _ words c.args.stack.now t.0 [] (marks_words s c.scan_listed-first.new.heap [] words t.0 [] t.1)))

pub returns-clause-marked : goal.returns-clause-marked
returns-clause-marked g c = spared c.args.heap.now c.drain.new.heap (root_words c.args.roots.now) c.args.stack.now (first g c).0 (all g c).0
    c.requires.none_gone (all g c).1.marking c.drain.ensures.none_grey (first g c).2

pub returns-clause-counted : goal.returns-clause-counted
returns-clause-counted g c = counts c.args.heap.now c.drain.new.heap (root_words c.args.roots.now) c.args.stack.now (first g c).0 (all g c).0
    c.requires.none_gone (all g c).1.marking c.drain.ensures.none_grey (first g c).2 _
    (ap (λ k. k + length (all g c).0) (first g c).3 ∙ ap (λ k. c.scan_listed-first.result + k) (all g c).2)

pub returns-clause-noted : goal.returns-clause-noted
returns-clause-noted g c = noted c.args.heap.now c.drain.new.heap (root_words c.args.roots.now) c.args.stack.now (first g c).0 (all g c).0
    c.requires.none_gone (all g c).1.marking c.drain.ensures.none_grey (first g c).2 (all g c).1.notes

pub returns-clause-few : goal.returns-clause-few
returns-clause-few g c =
    let t = first g c in
    let some = few_again (old_marked c.args.heap.now) c.scan_listed-first.new.heap [] t.0 [] t.1 c.scan_listed-first.ensures.sound in
    let long = t.3 in
    let more = c.drain.ensures.few in
    omega (arith, some, long, more)

pub returns-clause-same : goal.returns-clause-same
returns-clause-same g c = SameGraph-then _ _ _ (SameGraph-old_marked c.args.heap.now) (all g c).1.same
