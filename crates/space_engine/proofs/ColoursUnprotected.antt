-- The colours in a marking after the write barrier stopped protecting a name: they stay, and its children aren't spoken of any more.
use Rattle.std.proofs.Common.{◌≡◌, ℕ, true, true≢false, nat_eq, refl, sym, ap, ◌∙◌, Some, ⊎_elim, inl}
use Rattle.std.specs.List.{flat_map}
use Rattle.std.specs.Set.{is_member}
use Rattle.std.specs.FinMap.{get}
use Rattle.space_model.specs.Ages.{is_protected_guard, is_protected}
use Rattle.space_model.specs.Graph.{Item, names_of, children, IsChild}
use Rattle.space_model.specs.Moments.{mixed_names, with_names, noted}
use Rattle.space_model.specs.Pieces.{unprotected as unprotected_state}
use Rattle.space_model.specs.Reached.{reached_names}
use Rattle.space_model.specs.State.{State}
use Rattle.space_heap.specs.Slots.{ObjectView}
use Rattle.space_heap.specs.HeapView.{HeapView}
use Rattle.space_heap.specs.Marking.{colour_of}
use Rattle.space_heap.specs.Objects.{object_of}
use Rattle.space_heap.proofs.ObjectLaws.{occupied_from_object}
use Rattle.space_barrier.specs.Barrier.{unprotected}
use Rattle.space_engine.specs.Colours.{HasColours}
use Rattle.space_engine.specs.Stands.{Holds}
use Rattle.space_engine.specs.Views.{View}
use Rattle.space_engine.proofs.ColoursKept.{colours_kept}
use Rattle.space_engine.proofs.GenerationsByName.{noted_more}
use Rattle.space_engine.proofs.UnprotectedObjects.{OneChanged, unprotected_object, unprotected_is, unprotected_keeps, part_stays, item_cases}

module _ (v : View) (s : State) (h : Holds v s) (name address : ℕ) (at : get s.heap.place name ≡ Some address) where
  abbrev t : State
  t = unprotected_state s name

  abbrev z : HeapView
  z = unprotected v.heap address

  abbrev before : ObjectView
  before = object_of v.heap address

  changed : OneChanged v.heap z address (unprotected_object before)
  changed = unprotected_is v.heap address (occupied_from_object v.heap address (h.represents.heap.objects.stands name address at))

  colour_stays : (a : ℕ) → colour_of z a ≡ colour_of v.heap a
  colour_stays =
      part_stays (λ (o : ObjectView). o.colour) v.heap z address (unprotected_object before) changed
      (unprotected_keeps (λ (o : ObjectView). o.colour) before refl refl)

  -- a parent that is protected still is another one, and as it was
  parent_was : (parent child a : ℕ) → get s.heap.place parent ≡ Some a → IsChild t.graph parent child → is_protected t.graph parent ≡ true →
      IsChild s.graph parent child × (is_protected s.graph parent ≡ true)
  unfolding children
  parent_was parent child a e is protected = ⊎_elim
      (λ (same, item). absurd (true≢false (sym protected ∙ ap (λ (item : Item). is_protected_guard item.guard) item)))
      (λ (other, item). (
        sym (ap (λ (item : Item). is_member nat_eq (flat_map names_of item.values) child) item) ∙ is,
        sym (ap (λ (item : Item). is_protected_guard item.guard) item) ∙ protected,
      ))
      (item_cases s v.heap h.represents.heap h.sound name address at parent a e)

  pub colours_unprotected : HasColours (noted t).graph s.heap.place (noted t).history s.collector.phase z
  colours_unprotected phase =
      colours_kept s.graph t.graph s.heap.place s.history (with_names (reached_names t) s.history.seen) (with_names (mixed_names t) s.history.mixed)
      v.heap z (h.represents.colours phase) (noted_more (reached_names t) s.history.seen)
      (record { still = λ a e. colour_stays a ∙ e; only = λ a e. sym (colour_stays a) ∙ e }) (λ a m e. m (sym (colour_stays a) ∙ e))
      (λ n a e m. inl (λ white. m (colour_stays a ∙ white)))
      (λ parent child a c pat cat is protected black. inl (parent_was parent child a pat is protected))
