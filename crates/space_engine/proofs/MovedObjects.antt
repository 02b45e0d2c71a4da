-- What an object's move changes in the heap is what it changes in the state: objects and corpses stand where their names say, and the slot that
-- the object left leads to its name's place.
use Rattle.std.proofs.Common.{◌≡◌, ◌≢◌, ℕ, ◌+◌, true, false, true≢false, List, sym, ap, ◌∙◌, subst, Some, ⊎_elim}
use Rattle.std.specs.Prelude.{is_some}
use Rattle.std.specs.Ordering.{nat_cmp}
use Rattle.std.specs.FinMap.{FinMap, get}
use Rattle.std.proofs.lemmas.Bool.{cases_eq}
use Rattle.space_model.specs.declared.phase.Phase.TheVariants.{Moving}
use Rattle.space_model.specs.Compaction.{IsNextMove, moved}
use Rattle.space_model.specs.Graph.{item_of}
use Rattle.space_model.specs.Sound.{Sound}
use Rattle.space_model.specs.State.{State}
use Rattle.space_heap.specs.Slots.{ObjectView, has_moved}
use Rattle.space_heap.specs.HeapView.{Counters, HeapView}
use Rattle.space_heap.specs.Objects.{is_occupied, is_object, object_of, is_moved, resolved}
use Rattle.space_heap.specs.FreeSlots.{IsFreeAt}
use Rattle.space_heap.specs.Relocation.{relocated}
use Rattle.space_heap.proofs.ObjectLaws.{occupied_from_object, none_occupied_free, free_parts}
use Rattle.space_heap.proofs.RelocationLaws.{is_occupied-relocated_from, is_occupied-relocated_other, is_object-relocated_from, is_object-relocated_to, is_object-relocated_other, object_of-relocated_to, object_of-relocated_other, is_moved-relocated_from, is_moved-relocated_to, is_moved-relocated_other, resolved-relocated_from, resolved-relocated_other, pool_at-relocated, count-relocated, limit-relocated, unswept-relocated, phase-relocated, cursor-relocated, grey-relocated, counters-relocated}
use Rattle.space_heap.proofs.TakenLaws.{object_unmoved}
use Rattle.space_engine.specs.Stands.{IsObjectOf, HasObjects, HasCorpses, HasLeft, HeapRepresents}
use Rattle.space_engine.proofs.Outcomes.{some_same}
use Rattle.space_engine.proofs.MovedFields.{place', left', stale', place_same, place_other, left_same, left_other, left_none, words_moved}

-- a free slot isn't one that an object left
free_unmoved : (heap : HeapView) (pool a : ℕ) → IsFreeAt heap pool a → is_moved heap a ≡ false
unfolding is_moved
free_unmoved heap pool a e = ap has_moved (free_parts heap pool a e).free

-- an object isn't where a slot is free
none_free : (heap : HeapView) (pool a b : ℕ) → IsFreeAt heap pool a → is_occupied heap b ≡ true → b ≢ a
none_free heap pool a b free e same = true≢false (sym e ∙ ap (is_occupied heap) same ∙ none_occupied_free heap pool a free)

-- the name that stands at `from` moves to `to`, which is free
module _ (s : State) (name from to : ℕ) (m : IsNextMove s name from to) (moving : s.collector.phase ≡ Moving) (sound : Sound s) (heap : HeapView)
    (had : HeapRepresents s.graph s.heap s.collector s.counters heap) (pool : ℕ) (free : IsFreeAt heap pool to) where
  abbrev w : HeapView
  w = relocated heap from to

  abbrev place_after : FinMap nat_cmp ℕ
  place_after = place' s name from to m moving sound

  abbrev left_after : FinMap nat_cmp ℕ
  left_after = left' s name from to m moving sound

  abbrev stale_after : List (ℕ × ℕ)
  stale_after = stale' s name from to m moving sound

  placed_same : get place_after name ≡ Some to
  placed_same = place_same s name from to m moving sound

  placed_other : (n : ℕ) → n ≢ name → get place_after n ≡ get s.heap.place n
  placed_other = place_other s name from to m moving sound

  gone_from : get left_after name ≡ Some from
  gone_from = left_same s name from to m moving sound

  gone_other : (n : ℕ) → n ≢ name → get left_after n ≡ get s.heap.left n
  gone_other = left_other s name from to m moving sound

  here : is_object heap from ≡ true
  here = had.objects.stands name from m.movable.at

  -- only this name stood at the address
  alone : (n : ℕ) → get s.heap.place n ≡ Some from → n ≡ name
  alone n e = sound.layout.placed.once n name from e m.movable.at

  -- the address of another name is neither of the two
  elsewhere : (n b : ℕ) → n ≢ name → get s.heap.place n ≡ Some b → (b ≢ from) × (b ≢ to)
  elsewhere n b other e = (
    λ same. other (alone n (e ∙ ap Some same)),
    none_free heap pool to b free (occupied_from_object heap b (had.objects.stands n b e)),
  )

  abbrev Is : ℕ → ObjectView → Type 0
  Is n = IsObjectOf place_after left_after stale_after n (item_of s.graph n)

  -- what stands at an address is the same name's object after the move
  object_is : (n b : ℕ) → get s.heap.place n ≡ Some b → Is n (object_of heap b)
  object_is n b e =
      let was = had.objects.is n b e in
      record { named = was.named; guard = was.guard; style = was.style; fields = was.fields ∙ words_moved s name from to m moving sound n (ap is_some e) }

  pub objects_moved : HasObjects s.graph place_after left_after stale_after w
  objects_moved = record {
    stands = λ n b e. ⊎_elim
        (λ same.
        let at : to ≡ b = some_same to b (sym placed_same ∙ ap (get place_after) (sym same) ∙ e) in
        subst (λ (b : ℕ). is_object w b ≡ true) at (is_object-relocated_to heap pool from to here free))
        (λ other.
        let old : get s.heap.place n ≡ Some b = sym (placed_other n other) ∙ e in
        let apart = elsewhere n b other old in
        is_object-relocated_other heap pool from to here free b apart.0 apart.1 ∙ had.objects.stands n b old)
        (cases_eq n name);
    is = λ n b e. ⊎_elim
        (λ same.
        let at : to ≡ b = some_same to b (sym placed_same ∙ ap (get place_after) (sym same) ∙ e) in
        subst (λ (n : ℕ). Is n (object_of w b)) (sym same)
        (subst (λ (b : ℕ). Is name (object_of w b)) at
        (subst (Is name) (sym (object_of-relocated_to heap pool from to here free)) (object_is name from m.movable.at))))
        (λ other.
        let old : get s.heap.place n ≡ Some b = sym (placed_other n other) ∙ e in
        let apart = elsewhere n b other old in
        subst (Is n) (sym (object_of-relocated_other heap pool from to here free b apart.0 apart.1)) (object_is n b old))
        (cases_eq n name);
    only = λ b e. ⊎_elim
        (λ same. absurd (true≢false (sym e ∙ ap (is_object w) same ∙ is_object-relocated_from heap pool from to here free)))
        (λ f. ⊎_elim
        (λ there. ap (λ (b : ℕ). get place_after (object_of w b).name) there
        ∙ ap (λ (o : ObjectView). get place_after o.name) (object_of-relocated_to heap pool from to here free)
        ∙ ap (get place_after) (had.objects.is name from m.movable.at).named ∙ placed_same ∙ ap Some (sym there))
        (λ t.
        let old = had.objects.only b (sym (is_object-relocated_other heap pool from to here free b f t) ∙ e) in
        let differ : (object_of heap b).name ≢ name = λ same. f (some_same b from (sym old ∙ ap (get s.heap.place) same ∙ m.movable.at)) in
        ap (λ (o : ObjectView). get place_after o.name) (object_of-relocated_other heap pool from to here free b f t)
        ∙ placed_other (object_of heap b).name differ
        ∙ old)
        (cases_eq b to))
        (cases_eq b from);
  }

  -- a corpse lies at neither of the two addresses
  corpse_apart : (b : ℕ) → is_occupied heap b ≡ true → is_object heap b ≡ false → (b ≢ from) × (b ≢ to)
  corpse_apart b lies gone = (λ same. true≢false (sym here ∙ ap (is_object heap) (sym same) ∙ gone), none_free heap pool to b free lies)

  pub corpses_moved : HasCorpses s.heap.corpses w
  corpses_moved = record {
    lies = λ n b e.
        let lies = had.corpses.lies n b e in
        let apart = corpse_apart b lies (had.corpses.gone n b e) in
        is_occupied-relocated_other heap pool from to here free b apart.0 apart.1 ∙ lies;
    gone = λ n b e.
        let gone = had.corpses.gone n b e in
        let apart = corpse_apart b (had.corpses.lies n b e) gone in
        is_object-relocated_other heap pool from to here free b apart.0 apart.1 ∙ gone;
    named = λ n b e.
        let apart = corpse_apart b (had.corpses.lies n b e) (had.corpses.gone n b e) in
        ap (λ (o : ObjectView). o.name) (object_of-relocated_other heap pool from to here free b apart.0 apart.1) ∙ had.corpses.named n b e;
    only = λ b lies gone. ⊎_elim
        (λ same. absurd (true≢false (sym lies ∙ ap (is_occupied w) same ∙ is_occupied-relocated_from heap pool from to here free)))
        (λ f. ⊎_elim
        (λ there. absurd (true≢false (sym (is_object-relocated_to heap pool from to here free) ∙ ap (is_object w) (sym there) ∙ gone)))
        (λ t. ap (λ (o : ObjectView). get s.heap.corpses o.name) (object_of-relocated_other heap pool from to here free b f t)
        ∙ had.corpses.only b (sym (is_occupied-relocated_other heap pool from to here free b f t) ∙ lies)
        (sym (is_object-relocated_other heap pool from to here free b f t) ∙ gone))
        (cases_eq b to))
        (cases_eq b from);
  }

  -- a slot that an object left before isn't one of the two
  left_elsewhere : (b : ℕ) → is_moved heap b ≡ true → (b ≢ from) × (b ≢ to)
  left_elsewhere b e = (
    λ same. true≢false (sym e ∙ ap (is_moved heap) same ∙ object_unmoved heap from here),
    λ same. true≢false (sym e ∙ ap (is_moved heap) same ∙ free_unmoved heap pool to free),
  )

  -- a name that left an address before isn't this one
  left_apart : (n b : ℕ) → get s.heap.left n ≡ Some b → n ≢ name
  left_apart n b e same =
      left_none s name from to m moving sound (ap (λ (n : ℕ). is_some (get s.heap.left n)) (sym same) ∙ ap is_some e)

  pub left_moved : HasLeft place_after left_after w
  left_moved = record {
    lies = λ n b e. ⊎_elim
        (λ same.
        let at : from ≡ b = some_same from b (sym gone_from ∙ ap (get left_after) (sym same) ∙ e) in
        subst (λ (b : ℕ). is_moved w b ≡ true) at (is_moved-relocated_from heap pool from to here free))
        (λ other.
        let lies = had.left.lies n b (sym (gone_other n other) ∙ e) in
        let apart = left_elsewhere b lies in
        is_moved-relocated_other heap pool from to here free b apart.0 apart.1 ∙ lies)
        (cases_eq n name);
    leads = λ n b e. ⊎_elim
        (λ same.
        let at : from ≡ b = some_same from b (sym gone_from ∙ ap (get left_after) (sym same) ∙ e) in
        ap (get place_after) same ∙ placed_same
        ∙ ap Some (sym (ap (resolved w) (sym at) ∙ resolved-relocated_from heap pool from to here free)))
        (λ other.
        let old : get s.heap.left n ≡ Some b = sym (gone_other n other) ∙ e in
        let apart = left_elsewhere b (had.left.lies n b old) in
        placed_other n other ∙ had.left.leads n b old ∙ ap Some (sym (resolved-relocated_other heap pool from to here free b apart.0)))
        (cases_eq n name);
    only = λ b e. ⊎_elim
        (λ same. (name, gone_from ∙ ap Some (sym same)))
        (λ f. ⊎_elim
        (λ there. absurd (true≢false (sym e ∙ ap (is_moved w) there ∙ is_moved-relocated_to heap pool from to here free)))
        (λ t.
        let l = had.left.only b (sym (is_moved-relocated_other heap pool from to here free b f t) ∙ e) in
        (l.0, gone_other l.0 (left_apart l.0 b l.1) ∙ l.1))
        (cases_eq b to))
        (cases_eq b from);
  }

  -- all else of the heap stays, and one move more was counted
  pub rest_moved : HeapRepresents (moved s name from to).graph (moved s name from to).heap (moved s name from to).collector (moved s name from to).counters w
  rest_moved =
      let counts = counters-relocated heap pool from to here free in
      record {
        objects = objects_moved;
        corpses = corpses_moved;
        left = left_moved;
        pages = record {
          count = had.pages.count ∙ sym (count-relocated heap pool from to here free);
          pools = λ page. had.pages.pools page ∙ sym (pool_at-relocated heap pool from to here free page);
          limited = had.pages.limited ∙ sym (limit-relocated heap pool from to here free);
          waiting = had.pages.waiting ∙ sym (unswept-relocated heap pool from to here free);
        };
        progress = record {
          at = phase-relocated heap pool from to here free ∙ had.progress.at;
          until = cursor-relocated heap pool from to here free ∙ had.progress.until;
          none_grey = λ e. grey-relocated heap pool from to here free ∙ had.progress.none_grey e;
        };
        counted = record {
          allocated = ap (λ (c : Counters). c.born) counts ∙ had.counted.allocated;
          minor_verdicts = ap (λ (c : Counters). c.minor_verdicts) counts ∙ had.counted.minor_verdicts;
          other_verdicts = ap (λ (c : Counters). c.other_verdicts) counts ∙ had.counted.other_verdicts;
          freed = ap (λ (c : Counters). c.freed) counts ∙ had.counted.freed;
          compactions = ap (λ (c : Counters). c.compactions) counts ∙ had.counted.compactions;
          moves = ap (λ (c : Counters). c.moves) counts ∙ ap (λ (n : ℕ). n + 1) had.counted.moves;
        };
      }
