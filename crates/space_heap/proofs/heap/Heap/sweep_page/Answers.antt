use Rattle.std.proofs.Common.{◌≡◌, ◌+◌, ◌*◌, ◌≤◌, true, true≢false, length, sym, ap, ◌∙◌, subst, ⊎_elim, ℕ}
use Rattle.std.specs.Prelude.{vec_capacity}
use Rattle.std.proofs.lemmas.Bool.{cases_lt}
use Rattle.space_pools.specs.PoolsView.{unswept_at}
use Rattle.space_heap.specs.declared.heap.Heap.TheInside.{Inside}
use Rattle.space_heap.specs.HeapView.{HeapView, is_unswept}
use Rattle.space_heap.specs.Marking.{IsCoherent}
use Rattle.space_heap.specs.SoundHeap.{IsSoundHeap}
use Rattle.space_heap.proofs.fields.SoundViews.{sound_read}
use Rattle.space_heap.specs.Sweeping.{swept}
use Rattle.space_heap.specs.Inside.{view_with, view_from, rest_of}
use Rattle.space_heap.proofs.fields.Unswept.{past_unswept, unswept_read}
use Rattle.space_heap.proofs.SweptLaws.{coherent_swept}
use Rattle.space_heap.proofs.updates.SweptSlots.{swept_view}
use Rattle.space_heap.proofs.heap.Heap.sweep_page.Goals as goal

-- the page waits for a sweep in the pools
waits : (h : Inside) (now : HeapView) (page : ℕ) → view_from h ≡ now → is_unswept now page ≡ true → unswept_at h.pools page ≡ true
waits h now page is e = sym (unswept_read h.pools page) ∙ ap (λ v. is_unswept v page) is ∙ e

pub sweep_one-gone-requires-clause-there : goal.sweep_one-gone-requires-clause-there
sweep_one-gone-requires-clause-there c =
    let h = c.self.inside in
    ⊎_elim
    (λ within. within)
    (λ past. absurd (true≢false (sym (waits h _ c.args.page c.self.view_is c.requires.unswept) ∙ past_unswept h.pools c.args.page past)))
    (cases_lt c.args.page (length h.pools.pages))

pub sweep_one-gone-requires-clause-unswept : goal.sweep_one-gone-requires-clause-unswept
sweep_one-gone-requires-clause-unswept c = waits c.self.inside _ c.args.page c.self.view_is c.requires.unswept

-- the view after the sweep
view : (c : goal.After-self-1) → view_with c.sweep_one-gone.new.pools c.sweep_one-gone.new.marks.items
    (rest_of (record c.self.inside { freed = c.self.inside.freed + c.from.result })) ≡ swept (view_from c.self.inside) c.args.page
view c =
    let h = c.self.inside in
    swept_view h.pools c.sweep_one-gone.new.pools h.marks.items c.sweep_one-gone.new.marks.items c.args.page (rest_of h) c.from.result
    c.sweep_one-gone.ensures.swept (c.from.ensures ∙ c.sweep_one-gone.ensures.gone)

pub invariant_of-self : goal.invariant_of-self
invariant_of-self c =
    let h = c.self.inside in
    let s = c.sweep_one-gone.ensures.swept in
    record {
      marks = s.all;
      room = subst (λ n. n ≤ vec_capacity c.sweep_one-gone.new.marks) (sym s.limit)
          (subst (λ n. h.pools.limit ≤ n) (sym c.sweep_one-gone.ensures.room) c.self.invariant.room);
      places = subst (λ n. 1638 * n ≤ vec_capacity h.grey) (sym s.count) c.self.invariant.places;
      coherent = subst IsCoherent (sym (view c)) (coherent_swept (view_from h) c.args.page c.self.invariant.coherent);
    }

pub returns-clause-swept : goal.returns-clause-swept
returns-clause-swept c = view c ∙ ap (λ v. swept v c.args.page) c.self.view_is

pub returns-clause-sound : goal.returns-clause-sound
returns-clause-sound c = let h = c.self.inside in subst IsSoundHeap c.self.view_is (sound_read h.pools h.marks.items (rest_of h) c.sweep_one-gone.ensures.sound)
