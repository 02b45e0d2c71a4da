-- The heap's next move is the state's, and so are moves one after another: what the space stands for and the pins are kept by each, and the heap is
-- packed exactly where the state is.
use Rattle.std.proofs.Common.{◌≡◌, ◌≢◌, ℕ, zero, suc, ◌<◌, ◌≤◌, nat_lt, true, false, true≢false, List, length, refl, sym, ap, ◌∙◌, subst, arith, ⊎_elim, inl, inr, Some}
use Rattle.std.specs.FinMap.{get}
use Rattle.std.proofs.lemmas.Bool.{cases_Bool}
use Rattle.std.proofs.lemmas.Bool.Decides.{nat_tests}
use Rattle.space_model.specs.declared.event.Event.{Event}
use Rattle.space_model.specs.declared.phase.Phase.TheVariants.{Moving}
use Rattle.space_model.specs.Compaction.{IsPinned, IsMovable, IsPackedIn, IsPacked, IsNextMove, moved, Moves1, Moves}
use Rattle.space_model.specs.Graph.{item_of}
use Rattle.space_model.specs.Layout.{page_of}
use Rattle.space_model.specs.Moments.{noted}
use Rattle.space_model.specs.Pages.{pool_at as pool_of_page}
use Rattle.space_model.specs.Places.{pool_of, IsFree}
use Rattle.space_model.specs.State.{State}
use Rattle.space_model.proofs.CompactionNames.{move_phase}
use Rattle.space_model.proofs.MapLaws.{present-insert, present-new}
use Rattle.space_model.proofs.MovesSound.{placed_at, present-moved, Sound-moved}
use Rattle.space_model.proofs.PageLaws.{page_of-slot_address}
use Rattle.space_heap.specs.FreeSlots.{IsFreeAt}
use Rattle.space_heap.specs.HeapView.{HeapView, pool_at}
use Rattle.space_heap.specs.LastMovable.{is_movable_in}
use Rattle.space_heap.specs.Objects.{is_object, object_of}
use Rattle.space_heap.specs.Relocation.{relocated}
use Rattle.space_heap.specs.Slots.{ObjectView}
use Rattle.space_heap.specs.SoundHeap.{IsSoundHeap}
use Rattle.space_heap.proofs.RelocationLaws.{object_of-relocated_to, object_of-relocated_other}
use Rattle.space_compact.specs.Moves as heap
use Rattle.space_compact.proofs.Movable.{movable_parts, movable_from}
use Rattle.space_collector.specs.HeapMoves.{MovesTold}
use Rattle.space_collector.proofs.MoveLaws.{sound_one}
use Rattle.space_engine.specs.Stands.{Holds}
use Rattle.space_engine.specs.Views.{View, with_heap}
use Rattle.space_engine.proofs.Addresses.{known_pool}
use Rattle.space_engine.proofs.FreeAddresses.{free_agrees}
use Rattle.space_engine.proofs.MovedFields.{place_other}
use Rattle.space_engine.proofs.MovedHeaps.{moved_represents}
use Rattle.space_engine.proofs.Outcomes.{some_same}
use Rattle.space_engine.proofs.PinnedNames.{ArePins}

-- a heap whose pins are those of the state
module _ (v : View) (s : State) (h : Holds v s) (moving : s.collector.phase ≡ Moving) (sound : IsSoundHeap v.heap) (pins : ArePins v.heap s) where
  to_heap : (pool a : ℕ) → IsFree s pool a → IsFreeAt v.heap pool a
  to_heap pool a = (free_agrees s v.heap h.represents.heap sound pool a).0

  to_state : (pool a : ℕ) → IsFreeAt v.heap pool a → IsFree s pool a
  to_state pool a = (free_agrees s v.heap h.represents.heap sound pool a).1

  -- a name stands on a page of its pool
  its_pool : (name address : ℕ) → get s.heap.place name ≡ Some address → pool_at v.heap (page_of address) ≡ Some (pool_of s.graph name)
  its_pool name address at =
      let slot = h.sound.layout.placed.at name address at in
      let page : page_of address ≡ slot.page = ap page_of slot.is ∙ page_of-slot_address slot.page (pool_of s.graph name) slot.slot slot.on_page in
      sym (h.represents.heap.pages.pools (page_of address)) ∙ ap (pool_of_page s.heap.pages) page ∙ slot.has_pool

  -- the object of a name that can be moved can be moved
  movable_object : (pool name address : ℕ) → IsMovable s pool name address → is_movable_in v.heap pool address ≡ true
  movable_object pool name address m =
      let unpinned : (object_of v.heap address).pinned ≡ false = ⊎_elim
      (λ e. absurd (m.loose (pins.pinned_is name address m.at e)))
      (λ f. f)
      (cases_Bool (object_of v.heap address).pinned) in
      movable_from v.heap pool address (h.represents.heap.objects.stands name address m.at) unpinned (its_pool name address m.at ∙ ap Some m.its)

  -- and so can the name of an object that stands above a free address of its pool: it hasn't moved before
  movable_name : (pool a b : ℕ) → is_movable_in v.heap pool a ≡ true → IsFreeAt v.heap pool b → b < a → IsMovable s pool (object_of v.heap a).name a
  movable_name pool a b e free below =
      let parts = movable_parts v.heap pool a e in
      let name : ℕ = (object_of v.heap a).name in
      let at : get s.heap.place name ≡ Some a = h.represents.heap.objects.only a parts.object in
      let its : pool_of s.graph name ≡ pool = some_same (pool_of s.graph name) pool (sym (its_pool name a at) ∙ parts.its) in
      record {
        at = at;
        its = its;
        loose = λ pinned. ⊎_elim
            (λ pin. true≢false (sym pin ∙ parts.unpinned))
            (λ left.
            let under : a ≤ b = h.sound.moves moving name a b left at (subst (λ (q : ℕ). IsFree s q b) (sym its) (to_state pool b free)) in
            omega arith)
            (pins.is_pinned name a at pinned);
      }

  packed_pool : (pool : ℕ) → heap.IsPackedIn v.heap pool → IsPackedIn s pool
  packed_pool pool packed name address free m f = packed address free (movable_object pool name address m) (to_heap pool free f)

  -- the state is packed where the heap is: no name has another pool than the heap's five
  pub packed_state : heap.IsPacked v.heap → IsPacked s
  packed_state packed pool name address free m f =
      let known : pool < 5 = subst (λ (q : ℕ). q < 5) m.its (known_pool (length (item_of s.graph name).values)) in
      packed_pool pool (packed pool known) name address free m f

  pub packed_heap : IsPacked s → heap.IsPacked v.heap
  packed_heap packed pool known a b e f = ⊎_elim
      (λ t.
      let below : b < a = grind (arith, nat_tests, t) in
      packed pool (object_of v.heap a).name a b (movable_name pool a b e f below) (to_state pool b f))
      (λ n. grind (arith, nat_tests, n))
      (cases_Bool (nat_lt b a))

  -- the heap's next move is the state's
  pub next_name : (pool from to : ℕ) → heap.IsNextMove v.heap pool from to → IsNextMove s (object_of v.heap from).name from to
  next_name pool from to n = record {
    pool = pool;
    first = λ lower less. packed_pool lower (n.first lower less);
    movable = movable_name pool from to n.its.is n.its.least.free n.its.lower;
    highest = λ other address m. n.its.highest address (movable_object pool other address m);
    least = record { free = to_state pool to n.its.least.free; least = λ other f. n.its.least.least other (to_heap pool other f) };
    above = n.its.lower;
  }

  -- the move of a name, which was made in the heap
  module _ (pool name from to : ℕ) (n : heap.IsNextMove v.heap pool from to) (m : IsNextMove s name from to) where
    abbrev w : HeapView
    w = relocated v.heap from to

    abbrev t : State
    t = noted (moved s name from to)

    object : is_object v.heap from ≡ true
    object = (movable_parts v.heap pool from n.its.is).object

    -- the other names are pinned as before
    pinned_after : (other : ℕ) → other ≢ name → IsPinned s other → IsPinned t other
    pinned_after other apart = ⊎_elim
        (λ (word, among, named). inl (word, among, place_other s name from to m moving h.sound other apart ∙ named))
        (λ held. inr (record {
          parent = held.parent;
          present = present-moved s name from to m held.parent ∙ held.present;
          keeping = held.keeping;
          holds = held.holds;
        }))

    pinned_before : (other : ℕ) → other ≢ name → IsPinned t other → IsPinned s other
    pinned_before other apart = ⊎_elim
        (λ (word, among, named). inl (word, among, sym (place_other s name from to m moving h.sound other apart) ∙ named))
        (λ held. inr (record {
          parent = held.parent;
          present = sym (present-moved s name from to m held.parent) ∙ held.present;
          keeping = held.keeping;
          holds = held.holds;
        }))

    -- and so are their objects, which stand at neither of the two addresses
    pin_other : (other a : ℕ) → other ≢ name → get s.heap.place other ≡ Some a → (object_of w a).pinned ≡ (object_of v.heap a).pinned
    pin_other other a apart at =
        let f : a ≢ from = λ same. apart (h.sound.layout.placed.once other name a at (m.movable.at ∙ ap Some (sym same))) in
        let g : a ≢ to = λ same. m.least.free.no_place other (at ∙ ap Some same) in
        ap (λ (o : ObjectView). o.pinned) (object_of-relocated_other v.heap pool from to object n.its.least.free a f g)

    pub pins_moved : ArePins w t
    pins_moved = record {
      pinned_is = λ other a e pin. ⊎_elim
          (λ (same, there).
          let is : (object_of w a).pinned ≡ (object_of v.heap from).pinned =
          ap (λ (b : ℕ). (object_of w b).pinned) there
          ∙ ap (λ (o : ObjectView). o.pinned) (object_of-relocated_to v.heap pool from to object n.its.least.free) in
          absurd (true≢false (sym pin ∙ is ∙ (movable_parts v.heap pool from n.its.is).unpinned)))
          (λ (apart, at). pinned_after other apart (pins.pinned_is other a at (sym (pin_other other a apart at) ∙ pin)))
          (placed_at s name from to m other a e);
      is_pinned = λ other a e pinned. ⊎_elim
          (λ (same, there). inr (present-new s.heap.left name from other same))
          (λ (apart, at). ⊎_elim
          (λ pin. inl (pin_other other a apart at ∙ pin))
          (λ left. inr (present-insert s.heap.left name from other left))
          (pins.is_pinned other a at (pinned_before other apart pinned)))
          (placed_at s name from to m other a e);
    }

    pub holds_moved : name ≡ (object_of v.heap from).name → Holds (with_heap v w) t
    holds_moved named =
        let step : Moves1 s name from to t = record { next = m; after = refl } in
        record {
          represents = moved_represents v s h moving sound pool name from to n.its named t step;
          sound = Sound-moved s t name from to moving step h.sound;
        }

-- a state after moves that were made in the heap too
pub record MovesBoth (v : View) (s : State) (w : HeapView) (count : ℕ) (events : List Event) : Type 0 where
  pub state : State
  pub makes : Moves count s events state
  pub holds : Holds (with_heap v w) state
  pub pins : ArePins w state

-- the moves of a heap are made in the state
pub moves_both : (count : ℕ) (v : View) (s : State) → Holds v s → s.collector.phase ≡ Moving → IsSoundHeap v.heap → ArePins v.heap s →
    (events : List Event) (w : HeapView) → MovesTold count v.heap events w → MovesBoth v s w count events
moves_both zero v s h moving sound pins events w told = record {
  state = s;
  makes = (told.0, refl);
  holds = subst (λ (u : HeapView). Holds (with_heap v u) s) (sym told.1) h;
  pins = subst (λ (u : HeapView). ArePins u s) (sym told.1) pins;
}
moves_both (suc count) v s h moving sound pins events w (one, later, mid, both, step, rest) =
    let m : IsNextMove s one.name one.from one.to =
    subst (λ (name : ℕ). IsNextMove s name one.from one.to) (sym step.named) (next_name v s h moving sound pins step.pool one.from one.to step.next) in
    let t : State = noted (moved s one.name one.from one.to) in
    let first : Moves1 s one.name one.from one.to t = record { next = m; after = refl } in
    let held : Holds (with_heap v mid) t = subst (λ (u : HeapView). Holds (with_heap v u) t) (sym step.becomes)
    (holds_moved v s h moving sound pins step.pool one.name one.from one.to step.next m step.named) in
    let kept : ArePins mid t = subst (λ (u : HeapView). ArePins u t) (sym step.becomes)
    (pins_moved v s h moving sound pins step.pool one.name one.from one.to step.next m) in
    let last = moves_both count (with_heap v mid) t held (move_phase s t one.name one.from one.to first ∙ moving)
    (sound_one v.heap mid one step sound) kept later w rest in
    record {
      state = last.state;
      makes = (one.name, one.from, one.to, later, t, both, first, last.makes);
      holds = last.holds;
      pins = last.pins;
    }
