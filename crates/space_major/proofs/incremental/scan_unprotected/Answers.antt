use Rattle.std.proofs.Common.{◌+◌, ◌∷◌, ◌++◌, [], refl, sym, subst, arith}
use Rattle.std.proofs.lemmas.Bool.{and_parts}
use Rattle.std.proofs.lemmas.List.{length-append}
use Rattle.space_heap.specs.Objects.{is_object}
use Rattle.space_heap.proofs.ObjectLaws.{occupied_from_object}
use Rattle.space_heap.specs.Generations.{is_finish_scan}
use Rattle.space_tracing.specs.Rescans.{ScansBelow}
use Rattle.space_tracing.proofs.Rescanned.{small_object, below_none}
use Rattle.space_major.proofs.UnprotectedScans.{unprotected_scan, unprotected_all}
use Rattle.space_major.proofs.incremental.scan_unprotected.Goals as goal

pub scans-init : goal.scans-init
scans-init g c = record {
  few = omega arith;
  within = omega arith;
  ticks = omega arith;
  so_far = λ old words m. ([], below_none (is_finish_scan old) old c.args.heap.now words m, refl);
}

pub scan_again-requires-clause-object : goal.scan_again-requires-clause-object
scan_again-requires-clause-object g c = occupied_from_object c.scans.heap c.in-Some.address (and_parts (is_object c.scans.heap c.in-Some.address) _ c.in-Some.ensures.next.is).0

pub scan_again-requires-clause-ticks : goal.scan_again-requires-clause-ticks
scan_again-requires-clause-ticks g c =
    let t = c.scans.invariant.ticks in
    let few = c.scans.invariant.few in
    let within = c.scans.invariant.within in
    let r = c.requires in
    omega arith

pub scans-smaller : goal.scans-smaller
scans-smaller g c =
    let small = small_object c.scans.heap c.in-Some.address c.next_finish_scan.ensures.sound (and_parts (is_object c.scans.heap c.in-Some.address) _ c.in-Some.ensures.next.is).0 in
    let there = c.in-Some.ensures.next.from_there in
    omega arith

pub scans-preserved : goal.scans-preserved
scans-preserved g c =
    let i = c.scans.invariant in
    let next = c.in-Some.ensures.next in
    let small = small_object c.scans.heap c.in-Some.address c.next_finish_scan.ensures.sound (and_parts (is_object c.scans.heap c.in-Some.address) _ next.is).0 in
    let there = next.from_there in
    record {
      few = let few = i.few in omega arith;
      within = omega arith;
      ticks = let k = i.ticks in let t = c.scan_again.ensures.ticks in omega arith;
      so_far = λ old words m.
          let t = i.so_far old words m in (
            t.0 ++ c.in-Some.address ∷ [],
            subst (λ v. ScansBelow (is_finish_scan old) old v words (t.0 ++ c.in-Some.address ∷ []) (c.in-Some.address + 1)) (sym c.scan_again.ensures.read)
                (unprotected_scan old c.scans.heap words t.0 c.scans.from c.in-Some.address t.1 next),
            omega (arith, length-append t.0 (c.in-Some.address ∷ []), t.2),
          );
    }

pub returns-clause-listed : goal.returns-clause-listed
returns-clause-listed g c = λ old words m.
    let t = c.scans.invariant.so_far old words m in
    (t.0, t.1.marks, unprotected_all old c.scans.heap words t.0 c.scans.from t.1 c.in_default.ensures.next, t.2)

pub overflow_add-from : goal.overflow_add-from
overflow_add-from g c =
    let small = small_object c.scans.heap c.in-Some.address c.next_finish_scan.ensures.sound (and_parts (is_object c.scans.heap c.in-Some.address) _ c.in-Some.ensures.next.is).0 in
    record { fits = omega arith }
