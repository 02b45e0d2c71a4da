use Rattle.std.proofs.Common.{◌≡◌, ◌++◌, ◌+◌, [], ℕ, List, length, nat_eq, sym, ap, ◌∙◌, subst, arith}
use Rattle.std.specs.Set.{is_member}
use Rattle.space_roots.specs.WordRoots.{root_words}
use Rattle.space_heap.specs.HeapView.{HeapView}
use Rattle.space_heap.specs.Generations.{is_finish_scan}
use Rattle.space_tracing.specs.Scans.{visited_all}
use Rattle.space_tracing.specs.Marking.{Marks, GoesOn}
use Rattle.space_tracing.proofs.Bundles.{marks_none, marks_words}
use Rattle.space_tracing.proofs.Rescanned.{few_again}
use Rattle.space_major.specs.Incremental.{ScansUnprotected}
use Rattle.space_major.proofs.Finishes.{marked, counts, noted}
use Rattle.space_major.proofs.incremental.finish.Goals as goal

-- what was scanned again, after roots and stack were read, and then what was scanned for the first time
finished : (v u w x : HeapView) (roots stack : List ℕ) (k m : ℕ) → u ≡ visited_all (visited_all v roots) stack → ScansUnprotected u w k → GoesOn w x m
    → (again : List ℕ) × (done : List ℕ) × Marks v w (roots ++ stack) again [] × Marks v x (roots ++ stack) again done
    × ((a : ℕ) → is_member nat_eq again a ≡ is_finish_scan v a) × (length again ≡ k) × (length done ≡ m)
finished v u w x roots stack k m visits scans more =
    let t = scans v (roots ++ stack)
    (subst (λ u. Marks v u (roots ++ stack) [] []) (sym visits)
    (marks_words v (visited_all v roots) roots stack [] [] (marks_words v v [] roots [] [] (marks_none v)))) in
    let d = more v (roots ++ stack) t.0 [] t.1 in
    (t.0, d.0, t.1, d.1, t.2, t.3, d.2)

pub returns-clause-marked : goal.returns-clause-marked
returns-clause-marked g c =
    let t = finished c.args.heap.now c.visit_starts.new.heap c.scan_unprotected-again.new.heap c.drain.new.heap (root_words c.args.roots.now) c.args.stack.now
    c.scan_unprotected-again.result c.drain.result c.visit_starts.ensures c.scan_unprotected-again.ensures.listed c.drain.ensures.goes_on in
    marked c.args.heap.now c.drain.new.heap (root_words c.args.roots.now) c.args.stack.now t.0 t.1 t.3.marking c.drain.ensures.none_grey t.4

pub returns-clause-counted : goal.returns-clause-counted
returns-clause-counted g c =
    let t = finished c.args.heap.now c.visit_starts.new.heap c.scan_unprotected-again.new.heap c.drain.new.heap (root_words c.args.roots.now) c.args.stack.now
    c.scan_unprotected-again.result c.drain.result c.visit_starts.ensures c.scan_unprotected-again.ensures.listed c.drain.ensures.goes_on in
    counts c.args.heap.now c.drain.new.heap (root_words c.args.roots.now) c.args.stack.now t.0 t.1 t.3.marking c.drain.ensures.none_grey t.4 _ (ap (λ k. k + length t.1) t.5 ∙ ap (λ k. c.scan_unprotected-again.result + k) t.6)

pub returns-clause-noted : goal.returns-clause-noted
returns-clause-noted g c =
    let t = finished c.args.heap.now c.visit_starts.new.heap c.scan_unprotected-again.new.heap c.drain.new.heap (root_words c.args.roots.now) c.args.stack.now
    c.scan_unprotected-again.result c.drain.result c.visit_starts.ensures c.scan_unprotected-again.ensures.listed c.drain.ensures.goes_on in
    noted c.args.heap.now c.drain.new.heap (root_words c.args.roots.now) c.args.stack.now t.0 t.1 t.3.marking c.drain.ensures.none_grey t.4 t.3.notes

pub returns-clause-few : goal.returns-clause-few
returns-clause-few g c =
    let t = finished c.args.heap.now c.visit_starts.new.heap c.scan_unprotected-again.new.heap c.drain.new.heap (root_words c.args.roots.now) c.args.stack.now
    c.scan_unprotected-again.result c.drain.result c.visit_starts.ensures c.scan_unprotected-again.ensures.listed c.drain.ensures.goes_on in
    let some = few_again c.args.heap.now c.scan_unprotected-again.new.heap _ t.0 [] t.2 c.scan_unprotected-again.ensures.sound in
    let long = t.5 in
    let more = c.drain.ensures.few in
    omega (arith, some, long, more)

pub returns-clause-same : goal.returns-clause-same
returns-clause-same g c =
    let t = finished c.args.heap.now c.visit_starts.new.heap c.scan_unprotected-again.new.heap c.drain.new.heap (root_words c.args.roots.now) c.args.stack.now
    c.scan_unprotected-again.result c.drain.result c.visit_starts.ensures c.scan_unprotected-again.ensures.listed c.drain.ensures.goes_on in
    t.3.same
