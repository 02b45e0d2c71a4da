use Rattle.std.proofs.Common.{◌≡◌, ◌≤◌, ◌*◌, [], sym, ap, ◌∙◌, subst, ⊎_elim}
use Rattle.std.specs.Prelude.{vec_capacity}
use Rattle.std.proofs.lemmas.Bool.{cases_Bool, cond-true, cond-false}
use Rattle.space_model.specs.declared.phase.Phase.TheVariants.{Idle, Sweeping}
use Rattle.space_heap.specs.declared.heap.Heap.TheInside.{Inside}
use Rattle.space_heap.specs.HeapView.{HeapView}
use Rattle.space_heap.specs.Marking.{IsCoherent}
use Rattle.space_heap.specs.Sweeping.{settled, phase_with, pooled_pages}
use Rattle.space_heap.specs.Inside.{view_with, view_from, rest_of}
use Rattle.space_heap.proofs.SettledLaws.{coherent_settled}
use Rattle.space_heap.proofs.updates.SettledSlots.{settled_all, settled_view, some_phase, none_phase}
use Rattle.space_heap.proofs.heap.Heap.settle.Goals as goal

-- the fields after the verdict
abbrev after : goal.After-self-3-1 → Inside
after c = record c.self.inside {
  pools = c.hold_pages-some.new.pools;
  marks = c.settle_pages.new.marks;
  minor_verdicts = c.count_minor-self-inside.result;
  other_verdicts = c.count_other-self-inside.result;
  phase = c.phase_after-self-inside.result;
}

phase : (c : goal.After-self-3-1) → c.phase_after-self-inside.result ≡ phase_with (pooled_pages (view_from c.self.inside))
phase c =
    let h = c.self.inside in
    let some = c.hold_pages-some.result in
    c.phase_after-self-inside.ensures ∙ ⊎_elim
    (λ e. let k = c.hold_pages-some.ensures.some e in cond-true some Sweeping Idle e
    ∙ some_phase h.pools c.hold_pages-some.new.pools h.marks.items c.settle_pages.new.marks.items c.hold_pages-some.ensures.held
    c.settle_pages.ensures.len c.settle_pages.ensures.each c.self.invariant.marks (rest_of h) c.args.kind k.0 k.1)
    (λ e. cond-false some Sweeping Idle e ∙ none_phase h.pools c.hold_pages-some.new.pools h.marks.items c.settle_pages.new.marks.items
    c.hold_pages-some.ensures.held c.settle_pages.ensures.len c.settle_pages.ensures.each c.self.invariant.marks (rest_of h) c.args.kind
    (c.hold_pages-some.ensures.none e))
    (cases_Bool some)

view : (c : goal.After-self-3-1) → view_from (after c) ≡ settled (view_from c.self.inside) c.args.kind
view c =
    let h = c.self.inside in
    let rest = rest_of h in
    (λ i. view_with c.hold_pages-some.new.pools c.settle_pages.new.marks.items (record rest {
      phase = c.phase_after-self-inside.result;
      counters = record rest.counters { minor_verdicts = c.count_minor-self-inside.ensures i; other_verdicts = c.count_other-self-inside.ensures i };
    }))
    ∙ settled_view h.pools c.hold_pages-some.new.pools h.marks.items c.settle_pages.new.marks.items c.hold_pages-some.ensures.held c.settle_pages.ensures.len
    c.settle_pages.ensures.each c.self.invariant.marks rest c.args.kind c.phase_after-self-inside.result (phase c)

pub invariant_of-self : goal.invariant_of-self
invariant_of-self c =
    let h = c.self.inside in
    let held = c.hold_pages-some.ensures.held in
    let none : (view_from h).grey ≡ [] = ap (λ (v : HeapView). v.grey) c.self.view_is ∙ c.requires.none_grey in
    record {
      marks = settled_all h.pools c.hold_pages-some.new.pools h.marks.items c.settle_pages.new.marks.items held c.settle_pages.ensures.len
          c.settle_pages.ensures.each c.self.invariant.marks;
      room = subst (λ n. n ≤ vec_capacity c.settle_pages.new.marks) (sym held.limit)
          (subst (λ n. h.pools.limit ≤ n) (sym c.settle_pages.ensures.room) c.self.invariant.room);
      places = subst (λ n. 1638 * n ≤ vec_capacity h.grey) (sym held.count) c.self.invariant.places;
      coherent = subst IsCoherent (sym (view c)) (coherent_settled (view_from h) c.args.kind none c.self.invariant.coherent);
    }

pub returns : goal.returns
returns c = view c ∙ ap (λ v. settled v c.args.kind) c.self.view_is
