-- How far an allocation, and what comes before it, change a heap's counts, and that they leave a quiescent heap so.
use Rattle.std.proofs.Common.{◌<◌, ◌^◌, ◌≡◌, ◌≢◌, ℕ, zero, suc, ◌+◌, ◌≤◌, Bool, List, [], length, refl, sym, ap, ◌∙◌, subst, arith, ⊎_elim, inl, inr}
use Rattle.std.proofs.lemmas.Bool.{cases_eq}
use Rattle.space_model.specs.declared.object.Guard.{Guard}
use Rattle.space_model.specs.declared.object.Style.{Style}
use Rattle.space_model.specs.declared.reply.Reply.{Reply}
use Rattle.space_model.specs.declared.reply.Reply.TheVariants.{Made, Full, NoMemory}
use Rattle.space_model.specs.declared.phase.Phase.TheVariants.{Idle}
use Rattle.space_model.specs.Layout.{pool_for}
use Rattle.space_model.specs.Spelling.{IsSpelled}
use Rattle.space_model.specs.Texts.{reply_pieces}
use Rattle.space_finals.specs.FinalLists.{FinalLists}
use Rattle.space_heap.specs.declared.colour.Colour.TheVariants.{White, Grey}
use Rattle.space_heap.specs.Allocations.{IsAllocation}
use Rattle.space_heap.specs.FreeSlots.{HasNoFree}
use Rattle.space_heap.specs.HeapView.{Counters, HeapView}
use Rattle.space_heap.specs.Marking.{colour_of}
use Rattle.space_heap.specs.NewPages.{IsLeastSpare}
use Rattle.space_heap.specs.Objects.{placed}
use Rattle.space_heap.specs.Slots.{ObjectView, new_object}
use Rattle.space_heap.specs.SoundHeap.{IsSoundHeap}
use Rattle.space_heap.proofs.FreeLaws.{is_moved-placed, is_moved-with_page}
use Rattle.space_heap.proofs.GoneLaws.{is_gone-placed, is_gone-with_page}
use Rattle.space_heap.proofs.NewPageLaws.{object_of-with_page}
use Rattle.space_heap.proofs.NewPageSlots.{rest-with_page}
use Rattle.space_heap.proofs.ObjectLaws.{counters-placed, grey-placed, phase-placed, unswept-placed, object_of-placed_same, object_of-placed_other}
use Rattle.space_collector.specs.PagesSwept.{SweepsInNeed, SweepsUntilFree, LeavesRest}
use Rattle.space_collector.specs.Quiescent.{IsQuiescent, most_slots}
use Rattle.space_collector.proofs.AllSweeps.{leaves_rest_pages}
use Rattle.space_collector.proofs.HeapSweeps.{heap_pages, in_need_pages}
use Rattle.space_engine.specs.Allocations.{IsFirstReply, IsLastReply, IsSwept, NeedsCompletion}
use Rattle.space_engine.specs.HeapCollections.{HasJudged}
use Rattle.space_engine.specs.Turns.{CanAnswer, CanCompleteAndCollect, IsAtRest, IsCompacting, IsWork, IsQuietWork, IsOneTurn}
use Rattle.space_engine.specs.Views.{View}
use Rattle.space_engine.proofs.TurnLaws.{IsAlike, quiescent_alike, rests_left, work_swept, work_then, work_born}

-- sweeps allocate nothing and do no verdict
quiet_left : (v w : HeapView) → LeavesRest v w → IsWork 1 0 v w → IsQuietWork 1 0 v w
quiet_left v w rest work =
    let born = ap (λ (c : Counters). c.born) rest.counters in
    let minors = ap (λ (c : Counters). c.minor_verdicts) rest.counters in
    let others = ap (λ (c : Counters). c.other_verdicts) rest.counters in
    record { work = work; born = omega arith; minor_verdicts = omega arith; other_verdicts = omega arith }

-- an object was allocated

module _ (v w : HeapView) (fields : ℕ) (guard : Guard) (style : Style) (name a : ℕ) (all : IsAllocation v w fields guard style name a) where
  abbrev new : ObjectView
  new = new_object name fields guard style

  abbrev u : HeapView
  u = all.prepared

  prepared_alike : IsAlike v u × (u.counters ≡ v.counters)
  prepared_alike = ⊎_elim
      (λ same. subst (λ u. IsAlike v u × (u.counters ≡ v.counters)) (sym same)
      (record { phase = refl; unswept = refl; grey = λ rests. refl; gone = λ b. refl; moved = λ b. refl; grey_was = λ rests b e. e }, refl))
      (λ (page, g).
      let within : page ≤ length v.pages = ⊎_elim (λ (x : IsLeastSpare v page). let lt = x.spare.0 in omega arith) (λ (none, is, below). omega arith) g.next in
      let others = rest-with_page v page (pool_for fields) in
      subst (λ u. IsAlike v u × (u.counters ≡ v.counters)) (sym g.becomes) (
        record {
          phase = others.phase;
          unswept = others.unswept;
          grey = λ rests. others.grey;
          gone = is_gone-with_page v page (pool_for fields) within g.empty;
          moved = is_moved-with_page v page (pool_for fields) within g.empty;
          grey_was = λ rests b e. sym (ap (λ (o : ObjectView). o.colour) (object_of-with_page v page (pool_for fields) within g.empty b)) ∙ e;
        },
        others.counters,
      ))
      all.room

  placed_alike : IsAlike u w
  placed_alike = subst (IsAlike u) (sym all.becomes) (record {
    phase = phase-placed u a new;
    unswept = unswept-placed u a new;
    grey = λ rests. grey-placed u a new;
    gone = λ b. is_gone-placed u (pool_for fields) a new b all.least.free refl;
    moved = λ b. is_moved-placed u (pool_for fields) a new b all.least.free;
    grey_was = λ rests b e. ⊎_elim
        (λ same. absurd (white_grey
        (sym (ap (λ (o : ObjectView). o.colour) (object_of-placed_same u (pool_for fields) a new all.least.free))
        ∙ ap (λ b. colour_of (placed u a new) b) (sym same) ∙ e)))
        (λ other. sym (ap (λ (o : ObjectView). o.colour) (object_of-placed_other u a new b other)) ∙ e)
        (cases_eq b a);
  })
    where
      white_grey : White ≢ Grey
      white_grey e = cc

  counters_allocated : w.counters ≡ record v.counters { born = v.counters.born + 1 }
  counters_allocated =
      ap (λ (w : HeapView). w.counters) all.becomes ∙ counters-placed u a new ∙ ap (λ (c : Counters). record c { born = c.born + 1 }) prepared_alike.1

  quiescent_allocated : IsQuiescent v → IsQuiescent w
  quiescent_allocated q = quiescent_alike u w placed_alike (quiescent_alike v u prepared_alike.0 q)

  -- nothing was swept
  work_allocated : IsWork 0 0 v w
  work_allocated = work_born 0 0 v w (v.counters.born + 1) counters_allocated (omega arith) quiescent_allocated

  -- and before that pages were swept
  pub work_made : (before : HeapView) → LeavesRest before v → v.counters.freed ≤ before.counters.freed + most_slots → IsQuiescent v → IsWork 1 0 before w
  work_made before rest most q = work_then 1 0 0 0 before v w (quiet_left before v rest (work_swept before v rest most q)) work_allocated

  -- the name is the last
  pub named_last : name ≡ w.counters.born
  named_last = all.named ∙ sym (ap (λ (c : Counters). c.born) counters_allocated)

-- what sweeps in need leave as it was
pub rest_swept : (v : HeapView) (f : FinalLists) (w : HeapView) (g : FinalLists) (pool : ℕ) → IsSoundHeap v → SweepsUntilFree v f w g pool → LeavesRest v w
rest_swept v f w g pool sound swept =
    leaves_rest_pages swept.pages v w sound (heap_pages swept.pages v f w g (in_need_pages swept.pages v f pool w g swept.sweeps))

-- no object is allocated in them
pub born_swept : (v : HeapView) (f : FinalLists) (w : HeapView) (g : FinalLists) (pool : ℕ) → IsSoundHeap v → SweepsUntilFree v f w g pool →
    w.counters.born ≡ v.counters.born
born_swept v f w g pool sound swept = ap (λ (c : Counters). c.born) (rest_swept v f w g pool sound swept).counters

-- the counts of verdicts stayed
pub record KeepsVerdicts (v w : HeapView) : Type 0 where
  pub minor_verdicts : w.counters.minor_verdicts ≡ v.counters.minor_verdicts
  pub other_verdicts : w.counters.other_verdicts ≡ v.counters.other_verdicts

keeps_swept : (v : HeapView) (f : FinalLists) (w : HeapView) (g : FinalLists) (pool : ℕ) → IsSoundHeap v → SweepsUntilFree v f w g pool → KeepsVerdicts v w
keeps_swept v f w g pool sound swept =
    let same = (rest_swept v f w g pool sound swept).counters in
    record { minor_verdicts = ap (λ (c : Counters). c.minor_verdicts) same; other_verdicts = ap (λ (c : Counters). c.other_verdicts) same }

-- they stay in an allocation that is the last
keeps_last : (v w : View) (root : List ℕ) (is_new : Bool) (fields : ℕ) (guard : Guard) (style : Style) (reply : Reply) →
    IsLastReply v w root is_new fields guard style reply → KeepsVerdicts v.heap w.heap
keeps_last v w root is_new fields guard style (Made name address) last =
    let first = keeps_swept v.heap v.finals last.swept w.finals (pool_for fields) last.was_sound last.sweeps in
    let same = counters_allocated last.swept w.heap fields guard style name address last.allocation in
    record {
      minor_verdicts = ap (λ (c : Counters). c.minor_verdicts) same ∙ first.minor_verdicts;
      other_verdicts = ap (λ (c : Counters). c.other_verdicts) same ∙ first.other_verdicts;
    }
keeps_last v w root is_new fields guard style Full last =
    keeps_swept v.heap v.finals w.heap w.finals (pool_for fields) last.1.was_sound last.1.sweeps
keeps_last v w root is_new fields guard style _ last = absurd last

-- a collection, and then the last allocation or none
pub work_late : (before : HeapView) (v w : View) (root : List ℕ) (is_new : Bool) (fields : ℕ) (guard : Guard) (style : Style) (reply : Reply) →
    HasJudged 1 2 most_slots 1 before v.heap → IsLastReply v w root is_new fields guard style reply → IsWork 1 0 v.heap w.heap →
    IsWork 2 1 before w.heap
work_late before v w root is_new fields guard style reply judged last later =
    let keeps = keeps_last v w root is_new fields guard style reply last in
    let minors = keeps.minor_verdicts in
    let others = keeps.other_verdicts in
    let was_born = judged.born in
    let was_minors = judged.minor_verdicts in
    let was_others = judged.other_verdicts in
    let was_freed = judged.freed in
    let was_compactions = judged.compactions in
    let was_moves = judged.moves in
    let born = later.born in
    let freed = later.freed in
    let compactions = later.compactions in
    let moves = later.moves in
    record {
      born = omega arith;
      minor_verdicts = omega (arith, minors, was_minors);
      other_verdicts = omega (arith, others, was_others);
      freed = omega (arith, was_freed, freed);
      compactions = omega arith;
      moves = omega arith;
      quiescent = λ q. later.quiescent judged.quiescent;
    }

-- a name is the last that was given, so the reply can be written
pub last_spelled : (v w : View) (root : List ℕ) (is_new : Bool) (fields : ℕ) (guard : Guard) (style : Style) (reply : Reply) →
    IsLastReply v w root is_new fields guard style reply → w.heap.counters.born ≤ 2 ^ 62 → IsSpelled (reply_pieces reply)
last_spelled v w root is_new fields guard style (Made name address) last few =
    (let is = named_last last.swept w.heap fields guard style name address last.allocation in omega (arith, is, few), tt)
last_spelled v w root is_new fields guard style Full last few = tt
last_spelled v w root is_new fields guard style _ last few = absurd last

pub first_spelled : (v w : View) (root : List ℕ) (is_new : Bool) (fields : ℕ) (guard : Guard) (style : Style) (reply : Reply) →
    IsFirstReply v w root is_new fields guard style reply → w.heap.counters.born ≤ 2 ^ 62 → IsSpelled (reply_pieces reply)
first_spelled v w root is_new fields guard style (Made name address) first few =
    (let is = named_last first.swept w.heap fields guard style name address first.allocation in omega (arith, is, few), tt)
first_spelled v w root is_new fields guard style NoMemory first few = tt
first_spelled v w root is_new fields guard style _ first few = absurd first

-- where no page waits none is swept
none_swept : (pages : ℕ) (v : HeapView) (f : FinalLists) (w : HeapView) (g : FinalLists) (pool : ℕ) → v.unswept ≡ [] → SweepsInNeed pages v f pool w g →
    w ≡ v
none_swept zero v f w g pool none swept = swept.0
none_swept (suc pages) v f w g pool none (full, mid, between, first, others) = (let some = sym none ∙ first.sweeps.first in absurd (cc))

-- an allocation found no room, and pages were swept
module _ (r u : View) (pool : ℕ) (swept : IsSwept r u pool) (work : IsWork 1 0 r.heap u.heap) where
  abbrev rest : LeavesRest r.heap u.heap
  rest = rest_swept r.heap r.finals u.heap u.finals pool swept.was_sound swept.sweeps

  -- no page came or went
  pub limit_after : length r.heap.pages ≡ r.heap.limit → length u.heap.pages ≡ u.heap.limit
  limit_after limit = rest.page_count ∙ limit ∙ sym rest.limit

  -- a collection can be done still
  pub able_after : CanCompleteAndCollect r.heap → r.heap.counters.freed < 2 ^ 60 → CanCompleteAndCollect u.heap
  able_after able few =
      let minors = ap (λ (c : Counters). c.minor_verdicts) rest.counters in
      let others = ap (λ (c : Counters). c.other_verdicts) rest.counters in
      let compactions = ap (λ (c : Counters). c.compactions) rest.counters in
      let moves = ap (λ (c : Counters). c.moves) rest.counters in
      let few_minors = able.minor_verdicts in
      let few_others = able.other_verdicts in
      let few_compactions = able.compactions in
      let few_moves = able.moves in
      let freed = work.freed in
      record {
        quiescent = work.quiescent able.quiescent;
        minor_verdicts = omega arith;
        other_verdicts = omega arith;
        freed = omega (arith, freed, few);
        compactions = omega arith;
        moves = omega arith;
      }

  pub names_after : r.heap.counters.born < 2 ^ 62 → u.heap.counters.born < 2 ^ 62
  names_after few = let born = ap (λ (c : Counters). c.born) rest.counters in omega arith

  -- nothing came to be under way
  pub idle_after : r.heap.phase ≡ Idle → u.heap.phase ≡ Idle
  idle_after idle = ⊎_elim (λ same. same ∙ idle) (λ e. e) rest.phase

  -- where a compaction that was needed would have been completed, none is under way
  pub rests_after : IsQuiescent r.heap → (NeedsCompletion r.heap pool → ⊥) → HasNoFree u.heap pool → IsAtRest u.heap
  rests_after q ready none = rests_left r.heap u.heap rest (λ moving. still (inl moving), λ fixing. still (inr fixing))
    where
      still : IsCompacting r.heap → ⊥
      still compacting =
          let waits : r.heap.unswept ≡ [] = q.none_waits (λ sweeping. ⊎_elim (λ moving. cc) (λ fixing. cc) compacting) in
          let same : u.heap ≡ r.heap = none_swept swept.sweeps.pages r.heap r.finals u.heap u.finals pool waits swept.sweeps.sweeps in
          ready (compacting, subst (λ heap. HasNoFree heap pool) same none)

  -- a collection comes then, and the last allocation or none
  pub work_later : (z : HeapView) → IsWork 2 1 u.heap z → IsWork 3 1 r.heap z
  work_later z later = work_then 1 2 0 1 r.heap u.heap z (quiet_left r.heap u.heap rest work) later

-- a compaction was completed in need, or not

pub quiet_completed : (v w : HeapView) → HasJudged 0 0 0 1 v w → IsQuietWork 0 1 v w
quiet_completed v w judged =
    let born = judged.born in
    let minors = judged.minor_verdicts in
    let others = judged.other_verdicts in
    let freed = judged.freed in
    let compactions = judged.compactions in
    let moves = judged.moves in
    record {
      work = record {
        born = omega arith;
        minor_verdicts = omega arith;
        other_verdicts = omega arith;
        freed = omega arith;
        compactions = compactions;
        moves = moves;
        quiescent = λ q. judged.quiescent;
      };
      born = omega arith;
      minor_verdicts = omega arith;
      other_verdicts = omega arith;
    }

pub quiet_same : (v : HeapView) → IsQuietWork 0 1 v v
quiet_same v = record {
  work = record {
    born = omega arith;
    minor_verdicts = omega arith;
    other_verdicts = omega arith;
    freed = omega arith;
    compactions = omega arith;
    moves = omega arith;
    quiescent = λ q. q;
  };
  born = omega arith;
  minor_verdicts = omega arith;
  other_verdicts = omega arith;
}

-- after it the rest can be done
module _ (v u : HeapView) (work : IsQuietWork 0 1 v u) where
  module _ (able : CanAnswer v) where
    pub able_completed : CanCompleteAndCollect u
    able_completed =
        let few = able.collect in
        let minors = work.minor_verdicts in
        let others = work.other_verdicts in
        let freed = work.work.freed in
        let compactions = work.work.compactions in
        let moves = work.work.moves in
        let few_minors = few.minor_verdicts in
        let few_others = few.other_verdicts in
        let few_freed = able.freed in
        let few_compactions = able.compactions in
        let few_moves = able.moves in
        record {
          quiescent = work.work.quiescent few.quiescent;
          minor_verdicts = omega arith;
          other_verdicts = omega arith;
          freed = omega arith;
          compactions = omega arith;
          moves = omega arith;
        }

    pub names_completed : u.counters.born < 2 ^ 62
    names_completed = let born = work.born in let few = able.born in omega arith

    pub freed_completed : u.counters.freed < 2 ^ 60
    freed_completed = let freed = work.work.freed in let few = able.freed in omega arith

  pub turn_completed : (w : HeapView) → IsWork 3 1 u w → IsOneTurn v w
  turn_completed w later = work_then 0 3 1 1 v u w work later
