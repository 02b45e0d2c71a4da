-- After pages were swept in need of a free address, the heap has what the state has after it.
use Rattle.std.proofs.Common.{arith, [], ◌≡◌, ◌+◌, length, ap, subst, ℕ, zero, suc, true≢false, refl, sym, ◌∙◌}
use Rattle.space_model.specs.declared.phase.Phase.TheVariants.{Sweeping}
use Rattle.space_model.specs.Completions.{CompletesIn, Completes}
use Rattle.space_model.specs.Sound.{Sound, SoundSweep}
use Rattle.space_model.specs.Sweeps.{Sweeps}
use Rattle.space_model.proofs.SweepKept.{sweeping}
use Rattle.space_model.proofs.SweptLaws.{Sweeps-counted}
use Rattle.space_model.specs.NewCommand.{SweepsInNeed as ModelSweepsInNeed}
use Rattle.space_model.specs.Places.{HasNoFreeAddress}
use Rattle.space_model.specs.State.{State}
use Rattle.space_model.proofs.Stages.{IsSweptInVain, in_need_sweeps}
use Rattle.space_finals.specs.FinalLists.{FinalLists}
use Rattle.space_heap.specs.FreeSlots.{HasNoFree}
use Rattle.space_heap.specs.HeapView.{HeapView}
use Rattle.space_heap.specs.SoundHeap.{IsSoundHeap}
use Rattle.space_collector.specs.PagesSwept.{SweepsInNeed, SweepsUntilFree}
use Rattle.space_collector.proofs.SoundSweeps.{sound-first}
use Rattle.space_engine.specs.Stands.{Represents, Holds}
use Rattle.space_engine.specs.Views.{View, with_swept}
use Rattle.space_engine.proofs.FreeAddresses.{free_agrees}
use Rattle.space_engine.proofs.SweptPages.{t as swept_state, sweep_is, swept_holds, holds_unswept}

-- where no address is free in the heap, none is in the state
pub none_free_there : (v : View) (s : State) (pool : ℕ) → Represents v s → IsSoundHeap v.heap → HasNoFree v.heap pool → HasNoFreeAddress s pool
none_free_there v s pool h sound none = λ a f. true≢false (sym ((free_agrees s v.heap h.heap sound pool a).0 f) ∙ none a)

-- what the space stands for after so many pages were swept in need
pub record SweepsInNeedTo (v : View) (s : State) (z : HeapView) (g : FinalLists) (pool pages : ℕ) : Type 0 where
  pub state : State
  pub sweeps : ModelSweepsInNeed pages s pool state
  pub holds : Holds (with_swept v z g) state

pub in_need_hold : (pages : ℕ) (v : View) (s : State) (z : HeapView) (g : FinalLists) (pool : ℕ) → Holds v s → IsSoundHeap v.heap →
    SweepsInNeed pages v.heap v.finals pool z g → SweepsInNeedTo v s z g pool pages
in_need_hold zero v s z g pool h sound same = record { state = s; sweeps = refl; holds = holds_unswept v s z g h same }
in_need_hold (suc pages) v s z g pool h sound (none, mid, between, first, others) =
    let now = swept_holds v s h sound mid between first in
    let later = in_need_hold pages (with_swept v mid between) (swept_state v s h sound mid between first) z g pool now
    (sound-first v.heap mid first.freed first.sweeps sound) others in
    record {
      state = later.state;
      sweeps = (
        none_free_there v s pool h.represents sound none,
        first.names,
        swept_state v s h sound mid between first,
        sweep_is v s h sound mid between first,
        later.sweeps,
      );
      holds = later.holds;
    }

-- what the space stands for after pages were swept until an address was free, or none waited
pub record SweepsUntilFreeTo (v : View) (s : State) (z : HeapView) (g : FinalLists) (pool : ℕ) : Type 0 where
  pub pages : ℕ
  pub state : State
  pub sweeps : ModelSweepsInNeed pages s pool state
  pub holds : Holds (with_swept v z g) state
  -- where no address is free then, they were swept in vain
  pub vain : HasNoFree z pool → IsSweptInVain s pool state

pub until_free_holds : (v : View) (s : State) (z : HeapView) (g : FinalLists) (pool : ℕ) → Holds v s → IsSoundHeap v.heap → IsSoundHeap z →
    SweepsUntilFree v.heap v.finals z g pool → SweepsUntilFreeTo v s z g pool
until_free_holds v s z g pool h sound sound_after swept =
    let to = in_need_hold swept.pages v s z g pool h sound swept.sweeps in
    record {
      pages = swept.pages;
      state = to.state;
      sweeps = to.sweeps;
      holds = to.holds;
      vain = λ none. record {
        pages = swept.pages;
        sweeps = to.sweeps;
        none_free = none_free_there (with_swept v z g) to.state pool to.holds.represents sound_after none;
        none_waits = to.holds.represents.heap.pages.waiting ∙ swept.ends none;
      };
    }

-- sweeps in vain are a completion, where pages waited
pub completes_in_vain : (pages : ℕ) (s : State) (pool : ℕ) (t : State) → Sound s → t.heap.unswept ≡ [] → ModelSweepsInNeed (suc pages) s pool t →
    (s.collector.phase ≡ Sweeping) × Completes s [] t
completes_in_vain pages s pool t h none (full, freed, mid, step, more) =
    let all = in_need_sweeps (suc pages) s pool t (full, freed, mid, step, more) in
    let at : s.collector.phase ≡ Sweeping =
    sweeping s.collector.phase s.heap.pages step.page step.others (subst (SoundSweep s.collector.phase s.heap.pages) step.first h.sweep) in
    let left : length t.heap.unswept + suc pages ≡ length s.heap.unswept = (Sweeps-counted (suc pages) s t all.0 all.1).0 in
    let waits : length t.heap.unswept ≡ 0 = ap length none in
    let long : suc pages ≡ length s.heap.unswept = omega (arith, left, waits) in (
      at,
      subst (λ phase. CompletesIn phase s [] t) (sym at) (all.0, refl, subst (λ pages. Sweeps pages s all.0 t) long all.1),
    )
