use Rattle.std.proofs.Common.{arith, refl, ◌∙◌}
use Rattle.space_pages.proofs.Writes.{lent, range_is}
use Rattle.space_pages.proofs.page.SlotPage.slot_mut.Goals as goal

pub returns : goal.returns
returns c =
    let old = c.self.inside.words in
    let start = c.slot_start-start.ensures.start in (
      (refl, λ w. rw (← c.self.view_is, ← start) (lent old.len c.slot_start-start.result old.items w old.ok.0)),
      record {
        writes_back = tt;
        words = rw (← c.self.view_is, ← start, ← c.slot_len.ensures, c.slice_mut.ensures.value)
            (range_is old.items c.slot_start-start.result c.slot_len.result _ refl);
        len = c.slice_mut.ensures.len ∙ omega arith;
      },
    )
