use Rattle.std.proofs.Common.{◌≡◌, ℕ, true, false, ◌||◌, length, sym, ap, ◌∙◌, subst}
use Rattle.space_planes.specs.Planes.{bit, count_set}
use Rattle.space_pools.specs.PoolsView.{page_at, free_at, with_freed_page, with_spare_page}
use Rattle.space_heap.specs.declared.marks.Marks.{Marks}
use Rattle.space_heap.specs.planes.MarkPlanes.{marks_at, AreWide, is_present}
use Rattle.space_heap.specs.planes.SweptPlanes.{swept_marks, SweepsPage}
use Rattle.space_heap.proofs.fields.Readers.{wide_own}
use Rattle.space_heap.proofs.updates.SweptSlots.{gone_count, swept_full, swept_empty}
use Rattle.space_heap.proofs.sweeps.sweep_one.Goals as goal

pub is_emptied-requires-clause-wide : goal.is_emptied-requires-clause-wide
is_emptied-requires-clause-wide c = subst (λ (m : Marks). AreWide m (length m.object)) (sym c.marks_of-2.ensures)
    (wide_own (marks_at c.args.marks.now.items c.args.page) _ (c.requires.all.of_page c.args.page).wide)

pub is_emptied-requires-clause-gone : goal.is_emptied-requires-clause-gone
is_emptied-requires-clause-gone c = subst (λ (m : Marks). (s : ℕ) → bit m.gone s ≡ true → bit m.object s ≡ true) (sym c.marks_of-2.ensures)
    (λ s. ((c.requires.all.of_page c.args.page).each s).gone)

pub returns-then-is_emptied-clause-swept : goal.returns-then-is_emptied-clause-swept
returns-then-is_emptied-clause-swept c =
    let v = c.args.pools.now in
    let ms = c.args.marks.now.items in
    let page = c.args.page in
    let none : (s : ℕ) → (is_present (marks_at ms page) s || bit (marks_at ms page).moved s) ≡ false = λ s.
    sym (ap (λ (m : Marks). is_present m s || bit m.moved s) c.marks_of-2.ensures) ∙ c.is_emptied.ensures.empty c.if-is_emptied.true s in
    subst (λ w. SweepsPage v w ms c.reset_page.new.marks.items page) (sym c.release_page.ensures.spare)
    (subst (λ ns. SweepsPage v (with_spare_page v page) ms ns page) (sym c.reset_page.ensures.items)
    (swept_empty v ms page c.requires.there c.requires.all none))

pub returns-then-is_emptied-clause-gone : goal.returns-then-is_emptied-clause-gone
returns-then-is_emptied-clause-gone c = c.count-gone.ensures ∙ ap (λ (m : Marks). count_set m.gone) c.marks_of.ensures
    ∙ gone_count (page_at c.args.pools.now c.args.page) (marks_at c.args.marks.now.items c.args.page) (c.requires.all.of_page c.args.page)

pub returns-clause-swept : goal.returns-clause-swept
returns-clause-swept c =
    let v = c.args.pools.now in
    let ms = c.args.marks.now.items in
    let page = c.args.page in
    let free = c.free_gone.new.working in
    let n = swept_marks (marks_at ms page) in
    let bits : (s : ℕ) → bit free s ≡ (free_at v page s || bit (marks_at ms page).gone s) = λ s. c.free_gone.ensures.bits s
    ∙ ap (λ (m : Marks). free_at v page s || bit m.gone s) c.marks_of-3.ensures in
    let used = c.is_emptied.ensures.used c.if-is_emptied.false in
    let s = used.0 in
    subst (λ w. SweepsPage v w ms c.clear_gone_on.new.marks.items page) (sym c.free_gone.ensures.page)
    (subst (λ ns. SweepsPage v (with_freed_page v page free) ms ns page) (sym c.clear_gone_on.ensures.items)
    (swept_full v ms page free c.requires.there c.requires.all bits s
    (sym (ap (λ (m : Marks). is_present m s || bit m.moved s) c.marks_of-2.ensures) ∙ used.1)))

pub returns-clause-gone : goal.returns-clause-gone
returns-clause-gone c = c.count-gone.ensures ∙ ap (λ (m : Marks). count_set m.gone) c.marks_of.ensures
    ∙ gone_count (page_at c.args.pools.now c.args.page) (marks_at c.args.marks.now.items c.args.page) (c.requires.all.of_page c.args.page)
