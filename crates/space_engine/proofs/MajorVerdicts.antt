-- The end of a major marking and its verdict on the heap are a major verdict of the state.
use Rattle.std.proofs.Common.{◌≡◌, ◌⊎◌, ℕ, true, false, true≢false, List, [], sym, ap, ◌∙◌, subst, nat_eq, Some, ⊎_elim, inr}
use Rattle.std.specs.Prelude.{◌↔◌, is_some}
use Rattle.std.specs.Set.{is_member}
use Rattle.std.specs.FinMap.{get, empty}
use Rattle.space_model.specs.declared.event.Kind.TheVariants.{Major}
use Rattle.space_model.specs.declared.phase.Phase.TheVariants.{Marking}
use Rattle.space_model.specs.Graph.{IsChild}
use Rattle.space_model.specs.Reach.{IsStart}
use Rattle.space_model.specs.State.{State}
use Rattle.space_model.specs.Verdicts.{IsVerdict}
use Rattle.space_model.proofs.MapLaws.{some_get}
use Rattle.space_model.proofs.Reaching.{IsReached-start, IsReached-closed, IsReached-mono, IsReached-least}
use Rattle.space_heap.specs.HeapView.{HeapView}
use Rattle.space_heap.specs.Objects.{object_of}
use Rattle.space_heap.specs.Sweeping.{HasNoGone}
use Rattle.space_roots.specs.WordRoots.{root_words}
use Rattle.space_tracing.specs.Graph.{IsLive, SameGraph}
use Rattle.space_tracing.specs.Graph as heap
use Rattle.space_tracing.specs.Marking.{IsMarked}
use Rattle.space_major.specs.Incremental.{IsMarkedAtEnd}
use Rattle.space_collector.specs.GoneNames.{gone_names}
use Rattle.space_engine.specs.Stands.{Holds}
use Rattle.space_engine.specs.Views.{View}
use Rattle.space_engine.proofs.AfterVerdicts.{w, taken_there, taken_rising, marked_stays, stays_marked}
use Rattle.space_engine.proofs.GenerationNames.{marked_named}
use Rattle.space_engine.proofs.Reaching.{child_live, child_reached, start_reached, live_from_reached}

module _ (v : View) (s : State) (h : Holds v s) (marking : s.collector.phase ≡ Marking) (clean : HasNoGone v.heap) (unmoved : s.heap.left ≡ empty)
    (fresh : s.collector.stale ≡ []) (marked : HeapView) (same : SameGraph v.heap marked)
    (marks : (a : ℕ) → IsMarked marked a ↔ IsMarkedAtEnd v.heap (root_words v.roots) v.stack a) where
  abbrev taken : List ℕ
  taken = gone_names (w v s h.represents clean marked same Major)

  abbrev IsSparedHere : ℕ → Type 0
  IsSparedHere a = IsMarkedAtEnd v.heap (root_words v.roots) v.stack a

  abbrev Begins : ℕ → Type 0
  Begins a = IsMarked v.heap a ⊎ heap.IsStart v.heap (root_words v.roots) v.stack a

  -- a name stays where its object is spared

  spared_stays : (name address : ℕ) → get s.heap.place name ≡ Some address → IsSparedHere address → is_member nat_eq taken name ≡ false
  spared_stays name address at spared = marked_stays v s h.represents clean marked same Major name address at ((marks address).1 spared)

  stays_spared : (name address : ℕ) → get s.heap.place name ≡ Some address → is_member nat_eq taken name ≡ false → IsSparedHere address
  stays_spared name address at out = (marks address).0 (stays_marked v s h.represents clean marked same Major name address at out)

  live_spared : (a : ℕ) → IsLive v.heap (root_words v.roots) v.stack a → IsSparedHere a
  live_spared = IsReached-mono (heap.IsChild v.heap) (heap.IsChild v.heap) (heap.IsStart v.heap (root_words v.roots) v.stack) Begins
      (λ m n c. c) (λ n start. IsReached-start (heap.IsChild v.heap) Begins n (inr start))

  -- what is spared was seen since the marking began

  abbrev IsSeen : ℕ → Type 0
  IsSeen name = is_member nat_eq s.history.seen name ≡ true

  abbrev IsSeenObject : ℕ → Type 0
  IsSeenObject a = (name : ℕ) × (get s.heap.place name ≡ Some a) × IsSeen name

  begins_seen : (a : ℕ) → Begins a → IsSeenObject a
  begins_seen a begins = ⊎_elim
      (λ m.
      let at = marked_named v s h unmoved fresh clean a m in
      ((object_of v.heap a).name, at, (h.represents.colours marking).seen (object_of v.heap a).name a at m))
      (λ start.
      let r = start_reached v s h unmoved fresh a start in
      (r.0, r.1, h.sound.moments.seen r.0 (IsReached-start (IsChild s.graph) (IsStart s) r.0 r.2)))
      begins

  spared_seen : (a : ℕ) → IsSparedHere a → IsSeenObject a
  spared_seen = IsReached-least (heap.IsChild v.heap) Begins IsSeenObject
      (λ a c (name, at, seen) child.
      let r = child_reached v s h unmoved fresh a c name at child in
      (r.0, r.1, (h.sound.marking marking).seen_closed name r.0 seen r.2))
      begins_seen

  -- two names don't stand at one address
  seen_name : (name address : ℕ) → get s.heap.place name ≡ Some address → IsSparedHere address → IsSeen name
  seen_name name address at spared =
      let seen = spared_seen address spared in
      subst IsSeen (h.sound.layout.placed.once seen.0 name address seen.1 at) seen.2

  pub ended_verdict : IsVerdict s Major taken
  ended_verdict = record {
    present = λ name m. ap is_some (taken_there v s h.represents clean marked same Major name m).1;
    rising = taken_rising v s h.represents clean marked same Major;
    unreached = λ name m reached.
        let at = taken_there v s h.represents clean marked same Major name m in
        true≢false (sym m ∙ spared_stays name at.0 at.1 (live_spared at.0 (live_from_reached v s h unmoved fresh name at.0 at.1 reached)));
    closed = λ parent name present out child.
        let from = some_get (get s.heap.place parent) present in
        let to = child_live v s h unmoved fresh parent name from.0 from.1 child in
        spared_stays name to.0 to.1
        (IsReached-closed (heap.IsChild v.heap) Begins from.0 to.0 (stays_spared parent from.0 from.1 out) to.2);
    by_kind = λ name present out.
        let at = some_get (get s.heap.place name) present in
        seen_name name at.0 at.1 (stays_spared name at.0 at.1 out);
  }
