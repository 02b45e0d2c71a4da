use Rattle.std.proofs.Common.{◌≡◌, ◌++◌, [], ℕ, List, length, sym, ap, ◌∙◌, subst}
use Rattle.space_model.specs.Counts.{CountIs}
use Rattle.space_roots.specs.WordRoots.{root_words}
use Rattle.space_heap.specs.Marking.{unmarked}
use Rattle.space_tracing.specs.Scans.{visited_all}
use Rattle.space_tracing.specs.Graph.{IsLive}
use Rattle.space_tracing.specs.Marking.{Marks}
use Rattle.space_tracing.proofs.Same.{SameGraph-then, SameGraph-unmarked}
use Rattle.space_major.proofs.Wholes.{marks_opened, marked_whole, count_whole, noted_whole}
use Rattle.space_major.proofs.marking.whole.Given as given
use Rattle.space_major.proofs.marking.whole.Goals as goal

-- what was done from the moment without marks on
marks : (g : given.Over) (c : goal.After-drain g) → (done : List ℕ)
    × Marks (unmarked c.args.heap.now) c.drain.new.heap (root_words c.args.roots.now ++ c.args.stack.now) [] done × (length done ≡ c.drain.result)
marks g c =
    let words : List ℕ = root_words c.args.roots.now in
    let visits = c.visit_starts.ensures ∙ ap (λ v. visited_all (visited_all v words) c.args.stack.now) c.unmark.ensures in
    c.drain.ensures.goes_on (unmarked c.args.heap.now) (words ++ c.args.stack.now) [] []
    (subst (λ s. Marks (unmarked c.args.heap.now) s (words ++ c.args.stack.now) [] []) (sym visits) (marks_opened c.args.heap.now words c.args.stack.now))

pub returns-clause-marked : goal.returns-clause-marked
returns-clause-marked g c = marked_whole c.args.heap.now c.drain.new.heap (root_words c.args.roots.now) c.args.stack.now (marks g c).0 (marks g c).1.marking
    c.drain.ensures.none_grey

pub returns-clause-counted : goal.returns-clause-counted
returns-clause-counted g c =
    subst (λ k. CountIs (IsLive c.args.heap.now (root_words c.args.roots.now) c.args.stack.now) k) (marks g c).2
    (count_whole c.args.heap.now c.drain.new.heap (root_words c.args.roots.now) c.args.stack.now (marks g c).0 (marks g c).1.marking c.drain.ensures.none_grey)

pub returns-clause-noted : goal.returns-clause-noted
returns-clause-noted g c = noted_whole c.args.heap.now c.drain.new.heap (root_words c.args.roots.now) c.args.stack.now (marks g c).0 (marks g c).1.marking
    c.drain.ensures.none_grey (marks g c).1.notes

pub returns-clause-same : goal.returns-clause-same
returns-clause-same g c = SameGraph-then _ _ _ (SameGraph-unmarked c.args.heap.now) (marks g c).1.same
