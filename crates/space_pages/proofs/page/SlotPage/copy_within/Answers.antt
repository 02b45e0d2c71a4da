use Rattle.std.proofs.Common.{◌≡◌, ◌∙◌, arith, rules, refl, length}
use Rattle.space_pages.proofs.Writes.{copied}
use Rattle.space_pages.proofs.page.SlotPage.copy_within.Goals as goal

pub returns : goal.returns
returns c =
    let words = c.self.inside.words.items in
    let long : length words ≡ 8192 = search rules in
    let same = copied words c.slot_start-start.result c.slot_start-target.result c.slot_len.result _ refl (omega arith) (omega arith) in
    rw (← c.self.view_is, ← c.slot_start-start.ensures.start, ← c.slot_start-target.ensures.start, ← c.slot_len.ensures) (c.copy_within.ensures.items ∙ same)
