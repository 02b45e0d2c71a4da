-- All is emptied by a completion, a verdict and sweeps, with the lines of the first two.
use Rattle.std.proofs.Common.{◌≡◌, [], ap, ◌∙◌, subst, arith}
use Rattle.space_model.specs.declared.event.Kind.TheVariants.{Full}
use Rattle.space_roots.specs.WordRoots.{root_words}
use Rattle.space_engine.specs.declared.engine.completion.Completed.{Completed}
use Rattle.space_collector.specs.HeapVerdicts.{IsHeapVerdict}
use Rattle.space_collector.specs.PagesSwept.{SweepsAll}
use Rattle.space_engine.specs.Inside.{view_of}
use Rattle.space_engine.specs.Views.{View, with_judged, with_swept, without_starts}
use Rattle.space_engine.proofs.CollectionCounts.{collection_judged, exit_judged}
use Rattle.space_engine.proofs.ExitLines.{emptied_done, emptied_cut, cause_after}
use Rattle.space_engine.proofs.engine.Engine.empty_and_tell.Goals as goal
use Rattle.space_engine.proofs.engine.Engine.empty_and_tell.Given as given

-- the space without roots and stack words, and then after the verdict
bare : (g : given.Over) (c : goal.After-sweep_all g) → view_of c.self.inside ≡ without_starts c.complete-ended.new.self
bare g c = c.self.view_is ∙ c.drop_starts.ensures

purged : (g : given.Over) (c : goal.After-sweep_all g) →
    view_of c.self-2.inside ≡ with_judged (without_starts c.complete-ended.new.self) c.collect-collected.new.heap
purged g c = c.self-2.view_is ∙ c.purge.ensures ∙ ap (λ (v : View). with_judged v c.collect-collected.new.heap) (bare g c)

verdict : (g : given.Over) (c : goal.After-sweep_all g) →
    IsHeapVerdict c.complete-ended.new.self.heap c.collect-collected.new.heap Full (root_words []) [] c.collect-collected.result.scans
verdict g c =
    let done = c.collect-collected in
    subst (λ (u : View). IsHeapVerdict u.heap done.new.heap Full (root_words u.roots) u.stack done.result.scans) (bare g c) done.ensures.verdict

swept : (g : given.Over) (c : goal.After-sweep_all g) →
    SweepsAll c.collect-collected.new.heap c.complete-ended.new.self.finals c.sweep_all.new.heap c.sweep_all.new.finals
swept g c = subst (λ (u : View). SweepsAll u.heap u.finals c.sweep_all.new.heap c.sweep_all.new.finals) (purged g c) c.sweep_all.ensures.swept

-- and after the sweeps
abbrev after : (g : given.Over) (c : goal.After-sweep_all g) → View
after g c = with_swept (view_of c.self-2.inside) c.sweep_all.new.heap c.sweep_all.new.finals

becomes : (g : given.Over) (c : goal.After-sweep_all g) →
    after g c ≡ with_swept (with_judged (without_starts c.complete-ended.new.self) c.collect-collected.new.heap) c.sweep_all.new.heap c.sweep_all.new.finals
becomes g c = ap (λ (v : View). with_swept v c.sweep_all.new.heap c.sweep_all.new.finals) (purged g c)

pub sweep_all-requires-clause-few : goal.sweep_all-requires-clause-few
sweep_all-requires-clause-few g c =
    let mid = c.complete-ended in
    let done = c.collect-collected in
    let given = subst (λ (u : View). IsHeapVerdict u.heap done.new.heap Full (root_words u.roots) u.stack done.result.scans)
    (c.self.view_is ∙ c.drop_starts.ensures) done.ensures.verdict in
    let most =
    (collection_judged mid.new.self.heap done.new.heap Full _ _ _ given done.ensures.quiescent c.args.self.now.heap mid.ensures.judged).freed in
    let few = c.requires.able.freed in
    let heap = ap (λ (v : View). v.heap) (c.self-2.view_is ∙ c.purge.ensures) in
    rw heap (omega (arith, most, few))

pub returns-clause-done : goal.returns-clause-done
returns-clause-done g c =
    let old = c.args.self.now in
    let mid = c.complete-ended in
    let done = c.collect-collected in
    let told = ap (λ (v : View). v.heap) c.purge.ensures in
    emptied_done old mid.new.self done.new.heap (after g c)
    done.result.scans (verdict g c) done.ensures.few (swept g c) (becomes g c) (λ (e : Completed). e.gone) (λ (e : Completed). e.moves) _ _ _ _ _ mid.result
    c.tell_after-told.result done.result.gone _ mid.ensures.done done.ensures.gone done.ensures.ticked
    c.tell_after-told.ensures.told (rw told at c.tell_after-told.ensures.done)

pub returns-clause-fault : goal.returns-clause-fault
returns-clause-fault g c =
    let old = c.args.self.now in
    let mid = c.complete-ended in
    let done = c.collect-collected in
    let told = ap (λ (v : View). v.heap) c.purge.ensures in
    emptied_cut old mid.new.self done.new.heap (after g c)
    done.result.scans (verdict g c) done.ensures.few (swept g c) (becomes g c) (λ (e : Completed). e.gone) (λ (e : Completed). e.moves) _ _ _ _ _ mid.result
    c.tell_after-told.result mid.ensures.done mid.ensures.fault (rw told at c.tell_after-told.ensures.fault)

pub returns-clause-cause : goal.returns-clause-cause
returns-clause-cause g c =
    cause_after _ _ _ c.complete-ended.result c.tell_after-told.result c.complete-ended.ensures.cause c.tell_after-told.ensures.cause
    c.tell_after-told.ensures.calm c.tell_after-told.ensures.told

pub returns-clause-judged : goal.returns-clause-judged
returns-clause-judged g c =
    let mid = c.complete-ended in
    let done = c.collect-collected in
    let last = c.sweep_all in
    let heap = ap (λ (v : View). v.heap) (purged g c) in
    exit_judged c.args.self.now.heap mid.new.self.heap done.new.heap last.new.heap _ _ _ mid.ensures.judged (verdict g c) done.ensures.quiescent
    (rw heap at last.ensures.rest) (rw heap at last.ensures.most) last.ensures.quiescent
