-- The command that sweeps pages, from the sweeps of the heap.
use Rattle.std.proofs.Common.{◌≡◌, ℕ, ◌+◌, length, sym, ap, ◌∙◌, subst, arith}
use Rattle.std.specs.Prelude.{min}
use Rattle.space_model.specs.declared.command.Command.TheVariants.{Sweep}
use Rattle.space_model.specs.declared.reply.Reply.TheVariants.{SweepCount}
use Rattle.space_model.specs.State.{State}
use Rattle.space_model.specs.Sweeps.{Sweeps}
use Rattle.space_model.proofs.SweptLaws.{Sweeps-counted}
use Rattle.space_finals.specs.FinalLists.{FinalLists}
use Rattle.space_heap.specs.HeapView.{HeapView}
use Rattle.space_heap.specs.SoundHeap.{IsSoundHeap}
use Rattle.space_collector.specs.PagesSwept.{SweepsPages}
use Rattle.space_engine.specs.Stands.{Holds}
use Rattle.space_engine.specs.Steps.{Answers}
use Rattle.space_engine.specs.Views.{View, with_swept}
use Rattle.space_engine.proofs.SweptPages.{SweepsTo, swept_pages_hold}

-- so many pages were swept, which freed so many slots
module _ (v : View) (z : HeapView) (g : FinalLists) (sound : IsSoundHeap v.heap) (count freed : ℕ)
    (swept : SweepsPages (min count (length v.heap.unswept)) v.heap v.finals z g) (rose : z.counters.freed ≡ v.heap.counters.freed + freed) where
  pub sweep_answered : (left : ℕ) → left ≡ length z.unswept → (s : State) → Holds v s → Answers s (with_swept v z g) (Sweep count) (SweepCount freed left)
  sweep_answered left waits s h =
      let to : SweepsTo v s z g (min count (length v.heap.unswept)) = swept_pages_hold (min count (length v.heap.unswept)) v s z g h sound swept in
      let sweeps : Sweeps (min count (length s.heap.unswept)) s to.freed to.state =
      subst (λ pages. Sweeps (min count pages) s to.freed to.state) (ap length (sym h.represents.heap.pages.waiting)) to.sweeps in
      let counted = (Sweeps-counted (min count (length s.heap.unswept)) s to.state to.freed sweeps).1 in
      let before = h.represents.heap.counted.freed in
      let after = to.holds.represents.heap.counted.freed in
      record {
        state = to.state;
        represents = to.holds.represents;
        replies = (to.freed, sweeps, omega (arith, rose, counted, before, after), waits ∙ ap length (sym to.holds.represents.heap.pages.waiting));
      }
