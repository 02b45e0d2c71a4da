use Rattle.std.proofs.Common.{◌≡◌, ℕ, Bool, true, false, ◌||◌, List, sym, ap, ◌∙◌, subst, arith, Option, None, Some}
use Rattle.std.specs.Prelude.{is_some, MatchOption}
use Rattle.space_planes.specs.Planes.{bit, IsClearFrom, IsFirstSet}
use Rattle.space_pools.specs.PoolsView.{free_at, with_freed_page, with_spare_page}
use Rattle.space_heap.specs.declared.marks.Marks.{Marks}
use Rattle.space_heap.specs.planes.MarkPlanes.{marks_at}
use Rattle.space_heap.specs.planes.MovedMarks.{ended_marks, EndsPage}
use Rattle.space_heap.proofs.updates.EndedSlots.{ended_full, ended_empty}
use Rattle.space_heap.proofs.ended_moves.end_pooled.Goals as goal

-- what the search for a set bit tells of a plane
none_set : (plane : List Bool) (r : Option ℕ) → MatchOption r (IsClearFrom plane 0) (IsFirstSet plane 0) → is_some r ≡ false → (s : ℕ) → bit plane s ≡ false
none_set plane None h e s = h s (omega arith)
none_set plane (Some k) h e s = cc

some_set : (plane : List Bool) (r : Option ℕ) → MatchOption r (IsClearFrom plane 0) (IsFirstSet plane 0) → is_some r ≡ true
    → (s : ℕ) × (bit plane s ≡ true)
some_set plane None h e = cc
some_set plane (Some k) h e = (k, h.is_set)

pub returns-then-is_none-clause-ended : goal.returns-then-is_none-clause-ended
returns-then-is_none-clause-ended c =
    let v = c.args.pools.now in
    let ms = c.args.marks.now.items in
    let page = c.args.page in
    let none = none_set c.marks_of.result.now.object c.first_set_from.result c.first_set_from.ensures c.if-is_none.ensures in
    subst (λ w. EndsPage v w ms c.reset_page.new.marks.items page) (sym c.release_page.ensures.spare)
    (subst (λ ns. EndsPage v (with_spare_page v page) ms ns page) (sym c.reset_page.ensures.items)
    (ended_empty v ms page c.requires.there c.requires.all (λ s. sym (ap (λ (m : Marks). bit m.object s) c.marks_of.ensures) ∙ none s)))

pub returns-clause-ended : goal.returns-clause-ended
returns-clause-ended c =
    let v = c.args.pools.now in
    let ms = c.args.marks.now.items in
    let page = c.args.page in
    let free = c.free_left.new.working in
    let n = ended_marks (marks_at ms page) in
    let bits : (s : ℕ) → bit free s ≡ (free_at v page s || bit (marks_at ms page).moved s) = λ s. c.free_left.ensures.bits s
    ∙ ap (λ (m : Marks). free_at v page s || bit m.moved s) c.marks_of-2.ensures in
    let some = some_set c.marks_of.result.now.object c.first_set_from.result c.first_set_from.ensures c.if-is_none.ensures in
    subst (λ w. EndsPage v w ms c.forget_left.new.marks.items page) (sym c.free_left.ensures.page)
    (subst (λ ns. EndsPage v (with_freed_page v page free) ms ns page) (sym c.forget_left.ensures.items)
    (ended_full v ms page free c.requires.there c.requires.all bits some.0
    (sym (ap (λ (m : Marks). bit m.object some.0) c.marks_of.ensures) ∙ some.1)))
