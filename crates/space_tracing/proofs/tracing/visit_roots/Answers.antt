use Rattle.std.proofs.Common.{◌≡◌, ℕ, ◌<◌, List, length, get_or, sym, ap, ◌∙◌, arith, Some}
use Rattle.std.proofs.Math.ListN.{length-map}
use Rattle.std.proofs.lemmas.Option.{slice_get-get_or}
use Rattle.space_roots.specs.WordRoots.{root_words}
use Rattle.space_heap.specs.Marking.{visited}
use Rattle.space_tracing.proofs.Visits.{visited_all-more}
use Rattle.space_tracing.proofs.tracing.visit_roots.Goals as goal

pub loop-k-preserved : goal.loop-k-preserved
loop-k-preserved c =
    let words : List ℕ = root_words c.args.roots.now in
    let n = length-map c.args.roots.now (λ root. root.1) in
    let within : c.loop-k.k < length words = omega arith in
    let got : Some c.at.result ≡ Some (get_or words c.loop-k.k 0) = sym c.at.ensures ∙ slice_get-get_or words c.loop-k.k 0 within in
    let word : c.at.result ≡ get_or words c.loop-k.k 0 = cc in
    c.grey_if_white.ensures ∙ ap (λ v. visited v c.at.result) c.loop-k.invariant ∙ ap (visited _) word
    ∙ sym (visited_all-more c.args.heap.now words c.loop-k.k within)
