-- A store and an unprotected object change no count, and leave a heap quiescent.
use Rattle.std.proofs.Common.{◌≡◌, ◌≢◌, ◌&&◌, ℕ, true, refl, sym, ◌∙◌}
use Rattle.space_model.specs.declared.phase.Phase.TheVariants.{Marking}
use Rattle.space_heap.specs.Slots.{ObjectView}
use Rattle.space_heap.specs.HeapView.{HeapView}
use Rattle.space_heap.specs.Objects.{is_object, object_of, written}
use Rattle.space_heap.specs.Sweeping.{is_gone}
use Rattle.space_heap.proofs.FreeLaws.{is_moved-with_object}
use Rattle.space_heap.proofs.GoneLaws.{is_gone-with_object}
use Rattle.space_heap.proofs.ObjectLaws.{occupied_from_object, stays, rest-with_object}
use Rattle.space_barrier.specs.Barrier.{stored, unprotected}
use Rattle.space_tracing.proofs.Same.{same_part}
use Rattle.space_engine.specs.Turns.{IsOneTurn}
use Rattle.space_engine.proofs.BarredStores.{IsBarred, stored_is}
use Rattle.space_engine.proofs.TurnLaws.{IsAlike, turn_alike}
use Rattle.space_engine.proofs.UnprotectedObjects.{OneChanged, unprotected_object, unprotected_keeps, unprotected_is, part_stays}

-- a field of an object was written by the rules of the write barrier
module _ (v : HeapView) (address index word : ℕ) (there : is_object v address ≡ true) where
  abbrev w : HeapView
  w = written v address index word

  abbrev z : HeapView
  z = stored v address index word

  barrier : IsBarred w z address word
  barrier = stored_is v address index word (occupied_from_object v address there)

  phase_same : z.phase ≡ v.phase
  phase_same = barrier.same.phase ∙ (rest-with_object v address _).phase

  not_marking : v.phase ≢ Marking → w.phase ≢ Marking
  not_marking rests e = rests (sym (rest-with_object v address _).phase ∙ e)

  gone_same : (a : ℕ) → is_gone z a ≡ is_gone w a
  gone_same a = λ i. barrier.same.standing a i && same_part (λ (o : ObjectView). o.gone) w z a barrier.same i

  alike : IsAlike v z
  alike = record {
    phase = phase_same;
    unswept = barrier.same.unswept ∙ (rest-with_object v address _).unswept;
    grey = λ rests. barrier.grey (not_marking rests) ∙ (rest-with_object v address _).grey;
    gone = λ a. gone_same a ∙ is_gone-with_object v address _ a refl;
    moved = λ a. barrier.same.away a ∙ is_moved-with_object v address _ a;
    grey_was = λ rests a e. sym (barrier.colours (not_marking rests) a ∙ stays (λ (o : ObjectView). o.colour) v address _ a refl) ∙ e;
  }

  pub turn_stored : IsOneTurn v z
  turn_stored = turn_alike 3 2 v z alike (barrier.same.counters ∙ (rest-with_object v address _).counters)

-- the write barrier stopped protecting an object
module _ (v : HeapView) (address : ℕ) (there : is_object v address ≡ true) where
  abbrev u : HeapView
  u = unprotected v address

  abbrev before : ObjectView
  before = object_of v address

  changed : OneChanged v u address (unprotected_object before)
  changed = unprotected_is v address (occupied_from_object v address there)

  gone_stays : (a : ℕ) → (object_of u a).gone ≡ (object_of v a).gone
  gone_stays = part_stays (λ (o : ObjectView). o.gone) v u address (unprotected_object before) changed
      (unprotected_keeps (λ (o : ObjectView). o.gone) before refl refl)

  colour_stays : (a : ℕ) → (object_of u a).colour ≡ (object_of v a).colour
  colour_stays = part_stays (λ (o : ObjectView). o.colour) v u address (unprotected_object before) changed
      (unprotected_keeps (λ (o : ObjectView). o.colour) before refl refl)

  pub turn_unprotected : IsOneTurn v u
  turn_unprotected = turn_alike 3 2 v u (record {
    phase = changed.rest.phase;
    unswept = changed.rest.unswept;
    grey = λ rests. changed.rest.grey;
    gone = λ a. λ i. changed.standing a i && gone_stays a i;
    moved = changed.moved;
    grey_was = λ rests a e. sym (colour_stays a) ∙ e;
  }) changed.rest.counters
