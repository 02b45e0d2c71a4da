use Rattle.std.proofs.Common.{ap, ◌∙◌}
use Rattle.space_heap.specs.declared.colour.Colour.TheVariants.{Black}
use Rattle.space_heap.specs.Objects.{is_occupied}
use Rattle.space_heap.proofs.MarkingLaws.{is_occupied-recoloured}
use Rattle.space_tracing.specs.Scans.{read_object}
use Rattle.space_tracing.proofs.tracing.scan.Goals as goal

pub scan_again-requires-clause-object : goal.scan_again-requires-clause-object
scan_again-requires-clause-object g c = ap (λ v. is_occupied v c.args.address) c.blacken.ensures
    ∙ is_occupied-recoloured c.args.heap.now c.args.address Black _ c.args.address ∙ c.requires.object

pub returns-clause-scanned : goal.returns-clause-scanned
returns-clause-scanned g c = c.scan_again.ensures.read ∙ ap (λ v. read_object v c.args.address) c.blacken.ensures
