use Rattle.std.proofs.Common.{◌+◌, ◌*◌, sym, ◌∙◌, subst, arith}
use Rattle.space_heap.proofs.ObjectLaws.{occupied_from_object}
use Rattle.space_heap.proofs.Coherence.{last_is_object, last_is_grey}
use Rattle.space_tracing.specs.Marking.{GoesOn}
use Rattle.space_tracing.proofs.Scans.{scans-none, scans-more}
use Rattle.space_tracing.proofs.Bundles.{goes_on_none, goes_on_scan, goes_on_fewer}
use Rattle.space_tracing.proofs.tracing.scan_some.Goals as goal

pub scans-init : goal.scans-init
scans-init g c = record {
  few = omega arith;
  small = omega arith;
  so_far = sym (scans-none c.args.heap.now);
  goes_on = goes_on_none c.args.heap.now;
  ticks = omega arith;
}

pub scan-requires-clause-object : goal.scan-requires-clause-object
scan-requires-clause-object g c =
    let e = c.in-Some.ensures in
    occupied_from_object c.scans.heap c.in-Some.address (last_is_object c.scans.heap c.in-Some.address e.coherent e.some.0 e.some.1)

pub scans-preserved : goal.scans-preserved
scans-preserved g c =
    let e = c.in-Some.ensures in
    let a = c.in-Some.address in
    let grey = last_is_grey c.scans.heap a e.coherent e.some.0 e.some.1 in
    let i = c.scans.invariant in
    let fewer = goes_on_fewer c.args.heap.now c.scans.heap c.scans.made a (1638 * 4096) i.goes_on grey e.most in
    record {
      few = omega arith;
      small = omega arith;
      so_far = c.scan.ensures.scanned ∙ scans-more c.args.heap.now c.scans.heap c.scans.made a i.so_far e.some.1;
      goes_on = subst (λ v. GoesOn c.args.heap.now v (c.scans.made + 1)) (sym c.scan.ensures.scanned)
          (goes_on_scan c.args.heap.now c.scans.heap c.scans.made a grey i.goes_on);
      ticks = let t = c.scan.ensures.ticks in let k = i.ticks in omega arith;
    }
