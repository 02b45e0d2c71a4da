-- What pins and moves leave of a heap that is moving, and the whole of it.
use Rattle.std.proofs.Common.{◌≡◌, ⊎_elim, ℕ, ◌+◌, ◌&&◌, List, sym, ap, ◌∙◌, subst, arith}
use Rattle.std.proofs.lemmas.Bool.{cases_eq}
use Rattle.space_model.specs.declared.event.Event.{Event}
use Rattle.space_model.specs.declared.phase.Phase.TheVariants.{Moving}
use Rattle.space_model.specs.Layout.{page_of}
use Rattle.space_heap.specs.declared.colour.Colour.TheVariants.{White, Grey}
use Rattle.space_heap.specs.Slots.{ObjectView}
use Rattle.space_heap.specs.HeapView.{HeapView, is_unswept}
use Rattle.space_heap.specs.Marking.{colour_of}
use Rattle.space_heap.specs.Sweeping.{is_gone}
use Rattle.space_heap.specs.Relocation.{relocated}
use Rattle.space_heap.proofs.RelocationLaws as laws
use Rattle.space_sweep.proofs.GoneWaits.{GoneWait}
use Rattle.space_compact.specs.declared.moving.Moved.{Moved}
use Rattle.space_compact.specs.Moves.{Moves}
use Rattle.space_compact.specs.Pins.{SameButPins, PinsNow}
use Rattle.space_collector.specs.HeapMoves.{MovesTold, KeepsBut}
use Rattle.space_collector.specs.Quiescent.{HasNoGrey, IsQuiescent}
use Rattle.space_collector.proofs.MoveLaws.{moving_object, target_free, keeps_one, keeps_both, keeps_moves, stays_by_moves}

-- pins leave all but the pins
module _ (old new : HeapView) (same : SameButPins old new) where
  pub keeps_pins : KeepsBut old new 0
  keeps_pins = record {
    counters =
        let e : old.counters.moves ≡ old.counters.moves + 0 = omega arith in
        same.counters_are ∙ ap (λ n. record old.counters { moves = n }) e;
    phase = same.phase_is;
    cursor = same.cursor_is;
    limit = same.limit;
    unswept = same.unswept;
    grey = same.grey;
    page_count = same.count;
  }

  none_grey_pinned : HasNoGrey old → HasNoGrey new
  none_grey_pinned none = record {
    listed = same.grey ∙ none.listed;
    objects = λ a grey. none.objects a (sym (ap (λ (o : ObjectView). o.colour) (same.objects a)) ∙ grey);
  }

  gone_wait_pinned : GoneWait old → GoneWait new
  gone_wait_pinned wait a e =
      let gone : is_gone old a ≡ is_gone new a = (λ i. sym (same.standing a) i && sym (ap (λ (o : ObjectView). o.gone) (same.objects a)) i) in
      ap (λ pages. is_unswept (record old { unswept = pages }) (page_of a)) same.unswept ∙ wait a (gone ∙ e)

none_grey_one : (v w : HeapView) (m : Moved) → Moves v w m → HasNoGrey v → HasNoGrey w
none_grey_one v w m one none = record {
  listed = (keeps_one v w m one).grey ∙ none.listed;
  objects = λ a grey.
      let e = moving_object v w m one in
      let free = target_free v w m one in
      let now : colour_of (relocated v m.from m.to) a ≡ Grey = ap (λ (u : HeapView). colour_of u a) (sym one.becomes) ∙ grey in
      ⊎_elim
      (λ same.
      let white : Grey ≡ White = sym now ∙ ap (colour_of (relocated v m.from m.to)) same
      ∙ ap (λ (o : ObjectView). o.colour) (laws.object_of-relocated_from v one.pool m.from m.to e free) in
      cc)
      (λ apart. ⊎_elim
      (λ there. none.objects m.from (sym (ap (colour_of (relocated v m.from m.to)) there
      ∙ ap (λ (o : ObjectView). o.colour) (laws.object_of-relocated_to v one.pool m.from m.to e free)) ∙ now))
      (λ other. none.objects a (sym (ap (λ (o : ObjectView). o.colour) (laws.object_of-relocated_other v one.pool m.from m.to e free a apart other)) ∙ now))
      (cases_eq a m.to))
      (cases_eq a m.from);
}

gone_wait_one : (v w : HeapView) (m : Moved) → Moves v w m → GoneWait v → GoneWait w
gone_wait_one v w m one wait a gone =
    let was : is_gone w a ≡ is_gone v a = ap (λ (u : HeapView). is_gone u a) one.becomes
    ∙ laws.is_gone-relocated v one.pool m.from m.to (moving_object v w m one) (target_free v w m one) a in
    ap (λ pages. is_unswept (record v { unswept = pages }) (page_of a)) (keeps_one v w m one).unswept ∙ wait a (sym was ∙ gone)

module _ (old pinned new : HeapView) (stack : List ℕ) (moves : ℕ) (events : List Event) (pins : PinsNow old pinned stack)
    (makes : MovesTold moves pinned events new) where
  pub keeps_all : KeepsBut old new moves
  keeps_all =
      let e : 0 + moves ≡ moves = omega arith in
      subst (KeepsBut old new) e (keeps_both old pinned new 0 moves (keeps_pins old pinned pins.same) (keeps_moves moves pinned events new makes))

  none_grey_all : HasNoGrey old → HasNoGrey new
  none_grey_all none = stays_by_moves HasNoGrey none_grey_one moves pinned events new makes (none_grey_pinned old pinned pins.same none)

  gone_wait_all : GoneWait old → GoneWait new
  gone_wait_all wait = stays_by_moves GoneWait gone_wait_one moves pinned events new makes (gone_wait_pinned old pinned pins.same wait)

  -- a quiescent heap that is moving stays quiescent
  pub quiescent_moves : old.phase ≡ Moving → IsQuiescent old → IsQuiescent new
  quiescent_moves moving quiet =
      let phase = keeps_all.phase in
      record {
        gone_wait = gone_wait_all quiet.gone_wait;
        none_waits = λ other. keeps_all.unswept ∙ quiet.none_waits (λ at. other (phase ∙ at));
        some_wait = λ at none. quiet.some_wait (sym phase ∙ at) (sym keeps_all.unswept ∙ none);
        none_moved = λ other fixing. absurd (other (phase ∙ moving));
        none_grey = λ other. none_grey_all (quiet.none_grey (λ at. other (phase ∙ at)));
      }
