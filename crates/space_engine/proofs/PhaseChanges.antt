-- Where only the phase and the cursor change, the space stands for the state with the same change.
use Rattle.std.proofs.Common.{◌≡◌, ◌≢◌, ℕ, refl, sym, ap, ◌∙◌, subst, Some}
use Rattle.std.specs.FinMap.{get}
use Rattle.space_model.specs.declared.phase.Phase.{Phase}
use Rattle.space_model.specs.declared.phase.Phase.TheVariants.{Idle, Marking, Moving, Fixing}
use Rattle.space_model.specs.CompactCommands.{moving_begun as state_moving}
use Rattle.space_model.specs.Compaction.{fixing_begun as state_fixing}
use Rattle.space_model.specs.Graph.{item_of}
use Rattle.space_model.specs.State.{State}
use Rattle.space_model.proofs.CompactionKept.{Sound-moving_begun, Sound-fixing_begun}
use Rattle.space_heap.specs.HeapView.{HeapView}
use Rattle.space_heap.specs.Objects.{object_of}
use Rattle.space_heap.proofs.CursorLaws.{is_occupied-at_cursor, is_object-at_cursor, object_of-at_cursor, resolved-at_cursor, is_moved-at_cursor}
use Rattle.space_heap.proofs.PhaseLaws.{in_phase, is_occupied-in_phase, is_object-in_phase, object_of-in_phase, resolved-in_phase, is_moved-in_phase}
use Rattle.space_engine.specs.Stands.{IsObjectOf, Holds, Represents}
use Rattle.space_engine.specs.Views.{View, moving_begun, fixing_begun}
use Rattle.space_engine.proofs.CollectorSteps.{without_words, SameButWords, represents_then}

-- a heap in another phase and at another cursor has the same objects
module _ (w : HeapView) (phase : Phase) (cursor : ℕ) where
  abbrev then_at : HeapView
  then_at = record w { phase = phase; cursor = cursor }

  object_same : (a : ℕ) → object_of then_at a ≡ object_of w a
  object_same a = object_of-at_cursor (in_phase w phase) cursor a ∙ object_of-in_phase w phase a

  all_same : SameButWords w then_at
  all_same = record {
    standing = λ a. is_occupied-at_cursor (in_phase w phase) cursor a ∙ is_occupied-in_phase w phase a;
    present = λ a. is_object-at_cursor (in_phase w phase) cursor a ∙ is_object-in_phase w phase a;
    objects = λ a. ap without_words (object_same a);
    away = λ a. is_moved-at_cursor (in_phase w phase) cursor a ∙ is_moved-in_phase w phase a;
    leads = λ word. resolved-at_cursor (in_phase w phase) cursor word ∙ resolved-in_phase w phase word;
    pools = λ page. refl;
    count = refl;
    limit = refl;
    unswept = refl;
    grey = refl;
    counters = refl;
  }

not_marking : (phase other : Phase) → phase ≡ other → other ≢ Marking → phase ≢ Marking
not_marking phase other is differ marking = differ (sym is ∙ marking)

-- a state with this phase and this cursor, where no field became stale
module _ (v : View) (s : State) (h : Holds v s) where
  object_is : (phase : Phase) (cursor : ℕ) (name address : ℕ) → get s.heap.place name ≡ Some address →
      IsObjectOf s.heap.place s.heap.left s.collector.stale name (item_of s.graph name) (object_of (then_at v.heap phase cursor) address)
  object_is phase cursor name address at = subst (IsObjectOf s.heap.place s.heap.left s.collector.stale name (item_of s.graph name))
      (sym (object_same v.heap phase cursor address))
      (h.represents.heap.objects.is name address at)

  moving_represents : s.collector.phase ≡ Idle → Represents (moving_begun v) (state_moving s)
  moving_represents idle = represents_then v s h.represents (then_at v.heap Moving v.heap.cursor) (all_same v.heap Moving v.heap.cursor) Moving
      s.collector.cursor s.collector.stale refl h.represents.heap.progress.until (not_marking s.collector.phase Idle idle (λ e. cc)) (λ e. cc)
      (object_is Moving v.heap.cursor)

  fixing_represents : s.collector.phase ≡ Moving → Represents (fixing_begun v) (state_fixing s)
  fixing_represents moving = represents_then v s h.represents (then_at v.heap Fixing 0) (all_same v.heap Fixing 0) Fixing 0 s.collector.stale refl refl
      (not_marking s.collector.phase Moving moving (λ e. cc))
      (λ e. cc)
      (object_is Fixing 0)

pub moving_begun_held : (v : View) (s : State) → Holds v s → s.collector.phase ≡ Idle → Holds (moving_begun v) (state_moving s)
moving_begun_held v s h idle = record { represents = moving_represents v s h idle; sound = Sound-moving_begun s idle h.sound }

pub fixing_begun_held : (v : View) (s : State) → Holds v s → s.collector.phase ≡ Moving → Holds (fixing_begun v) (state_fixing s)
fixing_begun_held v s h moving = record { represents = fixing_represents v s h moving; sound = Sound-fixing_begun s moving h.sound }
