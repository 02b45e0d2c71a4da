-- A whole marking and its verdict on the heap are a full verdict of the state.
use Rattle.std.proofs.Common.{◌≡◌, ◌≢◌, ◌&&◌, not, ℕ, Bool, true, false, true≢false, List, [], refl, sym, ap, ◌∙◌, subst, nat_eq, Some, ⊎_elim}
use Rattle.std.specs.Prelude.{◌↔◌, is_some}
use Rattle.std.specs.Set.{is_member}
use Rattle.std.specs.FinMap.{get, empty}
use Rattle.std.proofs.lemmas.Bool.{cases_Bool}
use Rattle.space_model.specs.declared.event.Kind.TheVariants.{Full}
use Rattle.space_model.specs.declared.phase.Phase.TheVariants.{Sweeping}
use Rattle.space_model.specs.Reach.{Reach}
use Rattle.space_model.specs.State.{State, is_present}
use Rattle.space_model.specs.Verdicts.{IsVerdict}
use Rattle.space_model.proofs.MapLaws.{some_get}
use Rattle.space_model.proofs.SweepKept.{no_corpse}
use Rattle.space_model.proofs.VerdictLaws.{full_verdict}
use Rattle.space_heap.specs.HeapView.{HeapView}
use Rattle.space_heap.specs.Objects.{is_occupied, object_of}
use Rattle.space_heap.specs.Sweeping.{HasNoGone}
use Rattle.space_heap.proofs.ObjectLaws.{is_object_is}
use Rattle.space_roots.specs.WordRoots.{root_words}
use Rattle.space_tracing.specs.Graph.{IsLive, SameGraph}
use Rattle.space_tracing.specs.Marking.{IsMarked}
use Rattle.space_collector.specs.GoneNames.{gone_names}
use Rattle.space_engine.specs.Stands.{Holds}
use Rattle.space_engine.specs.Views.{View}
use Rattle.space_engine.proofs.AfterVerdicts.{w, taken_there, taken_rising, marked_stays, stays_marked}
use Rattle.space_engine.proofs.Reaching.{live_from_reached, reached_from_live}

gone_is_no_object : (is_occupied gone : Bool) → gone ≡ true → (is_occupied && not gone) ≡ false
gone_is_no_object true gone e = ap not e
gone_is_no_object false gone e = refl

-- outside Sweeping no object is gone
pub none_gone_in : (v : View) (s : State) → Holds v s → s.collector.phase ≢ Sweeping → HasNoGone v.heap
none_gone_in v s h other a standing = ⊎_elim
    (λ gone.
    let lies = h.represents.heap.corpses.only a standing (is_object_is v.heap a ∙ gone_is_no_object (is_occupied v.heap a) (object_of v.heap a).gone gone) in
    absurd (no_corpse s.graph s.heap.place s.heap.corpses s.collector.phase s.heap.pages s.heap.unswept h.sound.corpses h.sound.sweep other
    (object_of v.heap a).name a lies))
    (λ present. present)
    (cases_Bool (object_of v.heap a).gone)

module _ (v : View) (s : State) (h : Holds v s) (clean : HasNoGone v.heap) (unmoved : s.heap.left ≡ empty) (fresh : s.collector.stale ≡ []) (marked : HeapView)
    (same : SameGraph v.heap marked) (marks : (a : ℕ) → IsMarked marked a ↔ IsLive v.heap (root_words v.roots) v.stack a) where
  abbrev taken : List ℕ
  taken = gone_names (w v s h.represents clean marked same Full)

  -- the names that stay are the reached ones
  reached_stays : (name address : ℕ) → get s.heap.place name ≡ Some address → Reach s name → is_member nat_eq taken name ≡ false
  reached_stays name address e r =
      marked_stays v s h.represents clean marked same Full name address e ((marks address).1 (live_from_reached v s h unmoved fresh name address e r))

  stays_reached : (name address : ℕ) → get s.heap.place name ≡ Some address → is_member nat_eq taken name ≡ false → Reach s name
  stays_reached name address e out =
      let m = stays_marked v s h.represents clean marked same Full name address e out in
      let r = reached_from_live v s h unmoved fresh address ((marks address).0 m) in
      subst (Reach s) (h.represents.heap.objects.is name address e).named r.1

  -- so the names that the verdict takes are the present ones that aren't reached
  taken_is : (name : ℕ) → (is_member nat_eq taken name ≡ true) ↔ ((is_present s name ≡ true) × (Reach s name → ⊥))
  taken_is name = (
    λ m.
        let at = taken_there v s h.represents clean marked same Full name m in (
          ap is_some at.1,
          λ r. true≢false (sym m ∙ reached_stays name at.0 at.1 r),
        ),
    λ (present, lost).
        let at = some_get (get s.heap.place name) present in
        ⊎_elim (λ t. t) (λ f. absurd (lost (stays_reached name at.0 at.1 f))) (cases_Bool (is_member nat_eq taken name)),
  )

  pub settled_verdict : IsVerdict s Full taken
  settled_verdict = full_verdict s taken taken_is (taken_rising v s h.represents clean marked same Full)
