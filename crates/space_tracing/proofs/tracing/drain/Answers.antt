use Rattle.std.proofs.Common.{◌+◌, ◌*◌, sym, subst, arith}
use Rattle.space_heap.proofs.ObjectLaws.{occupied_from_object}
use Rattle.space_heap.proofs.Coherence.{last_is_object, last_is_grey}
use Rattle.space_tracing.specs.Marking.{GoesOn}
use Rattle.space_tracing.proofs.Bundles.{goes_on_scan, goes_on_most, goes_on_fewer}
use Rattle.space_tracing.proofs.tracing.drain.Goals as goal

pub scan-requires-clause-object : goal.scan-requires-clause-object
scan-requires-clause-object g c =
    let e = c.in-Some.ensures in
    occupied_from_object c.scans.heap c.in-Some.address (last_is_object c.scans.heap c.in-Some.address e.coherent e.some.0 e.some.1)

pub scan-requires-clause-ticks : goal.scan-requires-clause-ticks
scan-requires-clause-ticks g c =
    let e = c.in-Some.ensures in
    let b = goes_on_fewer c.args.heap.now c.scans.heap c.scans.scans c.in-Some.address (1638 * 4096) c.scans.invariant.goes_on
    (last_is_grey c.scans.heap c.in-Some.address e.coherent e.some.0 e.some.1) e.most in
    let t = c.scans.invariant.ticks in
    let r = c.requires in
    omega arith

pub overflow_add-scans : goal.overflow_add-scans
overflow_add-scans g c =
    let e = c.in-Some.ensures in
    let b = goes_on_fewer c.args.heap.now c.scans.heap c.scans.scans c.in-Some.address (1638 * 4096) c.scans.invariant.goes_on
    (last_is_grey c.scans.heap c.in-Some.address e.coherent e.some.0 e.some.1) e.most in
    record { fits = omega arith }

pub scans-smaller : goal.scans-smaller
scans-smaller g c =
    let e = c.in-Some.ensures in
    let b = goes_on_fewer c.args.heap.now c.scans.heap c.scans.scans c.in-Some.address (1638 * 4096) c.scans.invariant.goes_on
    (last_is_grey c.scans.heap c.in-Some.address e.coherent e.some.0 e.some.1) e.most in
    omega arith

pub scans-preserved : goal.scans-preserved
scans-preserved g c =
    let e = c.in-Some.ensures in
    let a = c.in-Some.address in
    record {
      goes_on = subst (λ v. GoesOn c.args.heap.now v (c.scans.scans + 1)) (sym c.scan.ensures.scanned)
          (goes_on_scan c.args.heap.now c.scans.heap c.scans.scans a (last_is_grey c.scans.heap a e.coherent e.some.0 e.some.1) c.scans.invariant.goes_on);
      ticks = let t = c.scan.ensures.ticks in let k = c.scans.invariant.ticks in omega arith;
    }

pub returns-clause-few : goal.returns-clause-few
returns-clause-few g c = let m = goes_on_most c.args.heap.now c.scans.heap c.scans.scans (1638 * 4096) c.scans.invariant.goes_on c.last_grey.ensures.most in
    omega arith
