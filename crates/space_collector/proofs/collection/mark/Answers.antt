use Rattle.std.proofs.Common.{sym, subst, arith}
use Rattle.space_model.specs.declared.event.Kind.{Kind}
use Rattle.space_collector.specs.HeapVerdicts.{IsKindMarking}
use Rattle.space_roots.specs.WordRoots.{root_words}
use Rattle.space_collector.proofs.KindMarkings.{minor_marking, end_marking, whole_marking}
use Rattle.space_collector.proofs.collection.mark.Goals as goal

pub returns-in-Minor-clause-marking : goal.returns-in-Minor-clause-marking
returns-in-Minor-clause-marking g c =
    let m = c.minor.ensures in
    subst (λ (kind : Kind). IsKindMarking c.args.heap.now c.minor.new.heap kind (root_words c.args.roots.now) c.args.stack.now c.minor.result) (sym c.in-Minor.is)
    (minor_marking c.args.heap.now c.minor.new.heap (root_words c.args.roots.now) c.args.stack.now c.minor.result m.same
    (record { listed = m.no_list; objects = m.none_grey }) m.marked m.noted m.counted)

pub returns-in-Major-clause-marking : goal.returns-in-Major-clause-marking
returns-in-Major-clause-marking g c =
    let m = c.finish.ensures in
    subst (λ (kind : Kind). IsKindMarking c.args.heap.now c.finish.new.heap kind (root_words c.args.roots.now) c.args.stack.now c.finish.result) (sym c.in-Major.is)
    (end_marking c.args.heap.now c.finish.new.heap (root_words c.args.roots.now) c.args.stack.now c.finish.result m.same
    (record { listed = m.no_list; objects = m.none_grey }) (m.marked c.requires.none_gone) m.noted m.counted)

pub returns-in-Full : goal.returns-in-Full
returns-in-Full g c =
    let m = c.whole.ensures in
    record {
      marking = subst (λ (kind : Kind). IsKindMarking c.args.heap.now c.whole.new.heap kind (root_words c.args.roots.now) c.args.stack.now c.whole.result)
          (sym c.in-Full.is)
          (whole_marking c.args.heap.now c.whole.new.heap (root_words c.args.roots.now) c.args.stack.now c.whole.result m.same
          (record { listed = m.no_list; objects = m.none_grey }) m.marked m.noted m.counted);
      few = let few = m.few in omega arith;
      ticked = m.ticks;
    }
