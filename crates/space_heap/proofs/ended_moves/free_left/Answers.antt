use Rattle.std.proofs.Common.{◌||◌, sym, ap, ◌∙◌}
use Rattle.space_planes.specs.Planes.{bit}
use Rattle.space_planes.proofs.Bits.{bit-set_in_either}
use Rattle.space_heap.proofs.ended_moves.free_left.Goals as goal

pub free_page-requires-clause-each : goal.free_page-requires-clause-each
free_page-requires-clause-each c slot free =
    ap (λ plane. bit plane slot) c.or_into.ensures.bits
    ∙ bit-set_in_either c.free_plane.result.now c.args.marks.now.moved slot (c.free_plane.ensures.len ∙ sym c.requires.wide)
    ∙ ap (λ b. b || bit c.args.marks.now.moved slot) (c.free_plane.ensures.bits slot ∙ free)
