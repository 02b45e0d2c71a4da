-- A minor marking and its verdict on the heap are a minor verdict of the state.
use Rattle.std.proofs.Common.{◌≡◌, ◌≢◌, ◌⊎◌, ℕ, ◌&&◌, false, true≢false, List, [], sym, ap, ◌∙◌, subst, nat_eq, Some, ⊎_elim, inl, inr}
use Rattle.std.specs.Prelude.{◌↔◌, is_some}
use Rattle.std.specs.Set.{is_member}
use Rattle.std.specs.FinMap.{get, empty}
use Rattle.std.proofs.lemmas.Bool.{cases_Bool, and_from, or_left, or_right}
use Rattle.space_model.specs.declared.event.Kind.TheVariants.{Minor}
use Rattle.space_model.specs.declared.phase.Phase.TheVariants.{Marking}
use Rattle.space_model.specs.Graph.{IsChild}
use Rattle.space_model.specs.Reach.{IsReached}
use Rattle.space_model.specs.State.{State}
use Rattle.space_model.specs.Verdicts.{IsMinorStart, IsVerdict, TakesYoung}
use Rattle.space_model.proofs.MapLaws.{some_get}
use Rattle.space_model.proofs.Reaching.{IsReached-start, IsReached-closed, IsReached-mono, IsReached-least}
use Rattle.space_heap.specs.HeapView.{HeapView}
use Rattle.space_heap.specs.Objects.{object_of}
use Rattle.space_heap.specs.Generations.{is_old}
use Rattle.space_heap.specs.Sweeping.{HasNoGone}
use Rattle.space_roots.specs.WordRoots.{root_words}
use Rattle.space_tracing.specs.Graph.{IsLive, SameGraph}
use Rattle.space_tracing.specs.Graph as heap
use Rattle.space_tracing.specs.Marking.{IsMarked}
use Rattle.space_minor.specs.Minors.{IsOldOrKept, IsMinorScan, IsSpared}
use Rattle.space_collector.specs.GoneNames.{gone_names}
use Rattle.space_engine.specs.Stands.{Holds}
use Rattle.space_engine.specs.Views.{View}
use Rattle.space_engine.proofs.AfterVerdicts.{w, taken_there, taken_rising, marked_stays, stays_marked}
use Rattle.space_engine.proofs.GenerationLists.{is_old_in-present}
use Rattle.space_engine.proofs.GenerationNames.{old_at, held_named, generational}
use Rattle.space_engine.proofs.KindNotes.{minor_scan_held}
use Rattle.space_engine.proofs.Reaching.{child_live, child_reached, start_reached, live_from_reached}

module _ (v : View) (s : State) (h : Holds v s) (rests : s.collector.phase ≢ Marking) (clean : HasNoGone v.heap) (unmoved : s.heap.left ≡ empty)
    (fresh : s.collector.stale ≡ []) (marked : HeapView) (same : SameGraph v.heap marked)
    (marks : (a : ℕ) → IsMarked marked a ↔ IsSpared v.heap (root_words v.roots) v.stack a) where
  abbrev taken : List ℕ
  taken = gone_names (w v s h.represents clean marked same Minor)

  abbrev IsSparedHere : ℕ → Type 0
  IsSparedHere a = IsSpared v.heap (root_words v.roots) v.stack a

  abbrev Begins : ℕ → Type 0
  Begins a = IsMinorScan v.heap a ⊎ heap.IsStart v.heap (root_words v.roots) v.stack a

  -- a name stays where its object is spared

  spared_stays : (name address : ℕ) → get s.heap.place name ≡ Some address → IsSparedHere address → is_member nat_eq taken name ≡ false
  spared_stays name address at spared = marked_stays v s h.represents clean marked same Minor name address at ((marks address).1 spared)

  stays_spared : (name address : ℕ) → get s.heap.place name ≡ Some address → is_member nat_eq taken name ≡ false → IsSparedHere address
  stays_spared name address at out = (marks address).0 (stays_marked v s h.represents clean marked same Minor name address at out)

  -- what is spared

  live_spared : (a : ℕ) → IsLive v.heap (root_words v.roots) v.stack a → IsSparedHere a
  live_spared a live = inr (IsReached-mono (heap.IsChild v.heap) (heap.IsChild v.heap) (heap.IsStart v.heap (root_words v.roots) v.stack) Begins
      (λ m n c. c) (λ n start. IsReached-start (heap.IsChild v.heap) Begins n (inr start)) a live)

  -- the children of an old or a kept object
  held_child : (a c : ℕ) → IsOldOrKept v.heap a → heap.IsChild v.heap a c → IsSparedHere c
  held_child a c held child =
      let scans : IsMinorScan v.heap a → IsSparedHere c = λ scan.
      inr (IsReached-closed (heap.IsChild v.heap) Begins a c (IsReached-start (heap.IsChild v.heap) Begins a (inl scan)) child) in
      ⊎_elim
      (λ old. ⊎_elim
      (λ r. scans (or_left (is_old (object_of v.heap a) && (object_of v.heap a).remembered) _ (and_from _ _ old r)))
      (λ forgotten. inl (generational v s h unmoved fresh clean rests a c old forgotten child))
      (cases_Bool (object_of v.heap a).remembered))
      (λ kept. scans (or_right (is_old (object_of v.heap a) && (object_of v.heap a).remembered) _ kept))
      held

  spared_child : (a c : ℕ) → IsSparedHere a → heap.IsChild v.heap a c → IsSparedHere c
  spared_child a c spared child = ⊎_elim
      (λ held. held_child a c held child)
      (λ reached. inr (IsReached-closed (heap.IsChild v.heap) Begins a c reached child))
      spared

  -- a path leads to what is spared from where a minor marking may begin

  abbrev IsLed : ℕ → Type 0
  IsLed name = IsReached (IsChild s.graph) (IsMinorStart s) name

  held_start : (a : ℕ) → IsOldOrKept v.heap a → IsMinorStart s (object_of v.heap a).name
  held_start a held =
      let at = held_named v s h unmoved fresh clean a held in
      inr (⊎_elim
      (λ old. inl (sym (old_at v s h unmoved fresh (object_of v.heap a).name a at) ∙ old))
      (λ kept. inr (
        ap is_some at,
        h.represents.generations.kept.unprotected (object_of v.heap a).name a at kept,
        h.represents.generations.kept.outlived rests (object_of v.heap a).name a at kept,
      ))
      held)

  abbrev IsLedObject : ℕ → Type 0
  IsLedObject a = (name : ℕ) × (get s.heap.place name ≡ Some a) × IsLed name

  held_led : (a : ℕ) → IsOldOrKept v.heap a → IsLedObject a
  held_led a held = (
    (object_of v.heap a).name,
    held_named v s h unmoved fresh clean a held,
    IsReached-start (IsChild s.graph) (IsMinorStart s) (object_of v.heap a).name (held_start a held),
  )

  reached_led : (a : ℕ) → IsReached (heap.IsChild v.heap) Begins a → IsLedObject a
  reached_led = IsReached-least (heap.IsChild v.heap) Begins IsLedObject
      (λ a c (name, at, led) child.
      let r = child_reached v s h unmoved fresh a c name at child in
      (r.0, r.1, IsReached-closed (IsChild s.graph) (IsMinorStart s) name r.0 led r.2))
      (λ a begins. ⊎_elim
      (λ scan. held_led a (minor_scan_held v.heap a scan))
      (λ start.
      let r = start_reached v s h unmoved fresh a start in
      (r.0, r.1, IsReached-start (IsChild s.graph) (IsMinorStart s) r.0 (inl r.2)))
      begins)

  spared_led : (a : ℕ) → IsSparedHere a → IsLedObject a
  spared_led a spared = ⊎_elim (λ held. held_led a held) (λ reached. reached_led a reached) spared

  -- two names don't stand at one address
  led_name : (name address : ℕ) → get s.heap.place name ≡ Some address → IsSparedHere address → IsLed name
  led_name name address at spared =
      let led = spared_led address spared in
      subst IsLed (h.sound.layout.placed.once led.0 name address led.1 at) led.2

  takes_young : TakesYoung s taken
  takes_young = record {
    old_stay = λ name old.
        let at = some_get (get s.heap.place name) (is_old_in-present s.graph s.heap.place s.collector.outlived name old) in
        spared_stays name at.0 at.1 (inl (inl (old_at v s h unmoved fresh name at.0 at.1 ∙ old)));
    led_to = λ name present out.
        let at = some_get (get s.heap.place name) present in
        led_name name at.0 at.1 (stays_spared name at.0 at.1 out);
  }

  pub young_verdict : IsVerdict s Minor taken
  young_verdict = record {
    present = λ name m. ap is_some (taken_there v s h.represents clean marked same Minor name m).1;
    rising = taken_rising v s h.represents clean marked same Minor;
    unreached = λ name m reached.
        let at = taken_there v s h.represents clean marked same Minor name m in
        true≢false (sym m ∙ spared_stays name at.0 at.1 (live_spared at.0 (live_from_reached v s h unmoved fresh name at.0 at.1 reached)));
    closed = λ parent name present out child.
        let from = some_get (get s.heap.place parent) present in
        let to = child_live v s h unmoved fresh parent name from.0 from.1 child in
        spared_stays name to.0 to.1 (spared_child from.0 to.0 (stays_spared parent from.0 from.1 out) to.2);
    by_kind = takes_young;
  }
