use Rattle.std.proofs.Common.{sym, ◌∙◌}
use Rattle.std.specs.Cmp.{booleans_Decides}
use Rattle.std.proofs.lemmas.Slice.Eq.{slice_eq-Decides}
use Rattle.space_planes.proofs.plane.Plane.is_same.Goals as goal

pub returns : goal.returns
returns c =
    let left = c.as_slice.ensures.value ∙ c.self.view_is in
    let right = c.as_slice-2.ensures.value ∙ c.other.view_is in
    let same = slice_eq-Decides booleans_Decides c.as_slice.result.now c.as_slice-2.result.now c.eq.result c.eq.ensures in
    (λ e. sym left ∙ same.0 e ∙ right, λ e. same.1 (left ∙ e ∙ sym right))
