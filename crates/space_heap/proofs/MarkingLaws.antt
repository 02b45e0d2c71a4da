-- The laws of a marking, for the callers: what stands where after an object was recoloured, and after all marks were taken away.
use Rattle.std.proofs.Common.{◌≡◌, ◌≢◌, ℕ, true, false, ◌&&◌, List, [], length, map, refl, ap}
use Rattle.std.proofs.lemmas.Bool.{cond-true, cond-false}
use Rattle.space_heap.specs.declared.colour.Colour.{Colour}
use Rattle.space_heap.specs.declared.colour.Colour.TheVariants.{White, Grey, Black}
use Rattle.space_heap.specs.Slots.{ObjectView, SlotView, Free, Moved, Object, has_present, object_in, map_slot}
use Rattle.space_heap.specs.HeapView.{HeapView, pool_at, pool_with, is_slot, slot_at, map_page}
use Rattle.space_heap.specs.Objects.{is_occupied, is_object, is_moved, object_of, resolved, with_object}
use Rattle.space_heap.specs.FreeSlots.{is_free_at}
use Rattle.space_heap.specs.Marking.{colour_of, is_white, visited, greyed, with_colour, recoloured, whitened, unmarked}
use Rattle.space_heap.proofs.MappedLaws.{pool_at-mapped, count-mapped, pool_with-mapped, is_slot-mapped, test-mapped, is_occupied-mapped, resolved-mapped, is_moved-mapped, slot_free-mapped}
use Rattle.space_heap.proofs.ObjectLaws.{is_occupied-with_object, is_object-with_object, object_of-with_object_same, object_of-with_object_other, stays, resolved-with_object, is_slot-with_object, pool_at-with_object, count-with_object, is_free_at-with_object, free_by, rest-with_object}

-- what a marking doesn't change besides the slots
pub record SameState (v w : HeapView) : Type 0 where
  pub limit : w.limit ≡ v.limit
  pub unswept : w.unswept ≡ v.unswept
  pub phase : w.phase ≡ v.phase
  pub cursor : w.cursor ≡ v.cursor
  pub counters : w.counters ≡ v.counters

module _ (v : HeapView) (a : ℕ) (c : Colour) (grey : List ℕ) where
  abbrev o : ObjectView
  o = with_colour (object_of v a) c

  abbrev w : HeapView
  w = with_object v a o

  pub is_slot-recoloured : (b : ℕ) → is_slot (recoloured v a c grey) b ≡ is_slot v b
  unfolding recoloured is_slot
  is_slot-recoloured b = is_slot-with_object v a o b

  pub is_occupied-recoloured : (b : ℕ) → is_occupied (recoloured v a c grey) b ≡ is_occupied v b
  unfolding recoloured is_occupied slot_at is_slot
  is_occupied-recoloured b = is_occupied-with_object v a o b

  pub is_object-recoloured : (b : ℕ) → is_object (recoloured v a c grey) b ≡ is_object v b
  unfolding recoloured is_object slot_at is_slot
  is_object-recoloured b = is_object-with_object v a o b refl

  pub object_of-recoloured_same : is_occupied v a ≡ true → object_of (recoloured v a c grey) a ≡ with_colour (object_of v a) c
  unfolding recoloured object_of slot_at is_slot
  object_of-recoloured_same e = object_of-with_object_same v a o e

  pub object_of-recoloured_other : (b : ℕ) → b ≢ a → object_of (recoloured v a c grey) b ≡ object_of v b
  unfolding recoloured object_of slot_at is_slot
  object_of-recoloured_other b differ = object_of-with_object_other v a o b differ

  pub colour_of-recoloured_same : is_occupied v a ≡ true → colour_of (recoloured v a c grey) a ≡ c
  colour_of-recoloured_same e = ap (λ (o : ObjectView). o.colour) (object_of-recoloured_same e)

  pub colour_of-recoloured_other : (b : ℕ) → b ≢ a → colour_of (recoloured v a c grey) b ≡ colour_of v b
  colour_of-recoloured_other b differ = ap (λ (o : ObjectView). o.colour) (object_of-recoloured_other b differ)

  -- a part of an object that isn't its colour stays everywhere
  pub stays-recoloured : {X : Type 0} (f : ObjectView → X) (b : ℕ) → f (with_colour (object_of v a) c) ≡ f (object_of v a)
      → f (object_of (recoloured v a c grey) b) ≡ f (object_of v b)
  unfolding recoloured object_of slot_at is_slot
  stays-recoloured f b same = stays f v a o b same

  pub resolved-recoloured : (word : ℕ) → resolved (recoloured v a c grey) word ≡ resolved v word
  unfolding recoloured resolved slot_at is_slot
  resolved-recoloured word = resolved-with_object v a o word

  pub is_free_at-recoloured : (pool b : ℕ) → is_free_at (recoloured v a c grey) pool b ≡ is_free_at v pool b
  unfolding recoloured is_free_at slot_at is_slot pool_with
  is_free_at-recoloured pool b = is_free_at-with_object v a o pool b

  pub pool_at-recoloured : (page : ℕ) → pool_at (recoloured v a c grey) page ≡ pool_at v page
  unfolding recoloured
  pool_at-recoloured page = pool_at-with_object v a o page

  pub count-recoloured : length (recoloured v a c grey).pages ≡ length v.pages
  unfolding recoloured
  count-recoloured = count-with_object v a o

  pub grey-recoloured : (recoloured v a c grey).grey ≡ grey
  unfolding recoloured
  grey-recoloured = refl

  pub state-recoloured : SameState v (recoloured v a c grey)
  unfolding recoloured
  state-recoloured = let r = rest-with_object v a o in
      record { limit = r.limit; unswept = r.unswept; phase = r.phase; cursor = r.cursor; counters = r.counters }

module _ (v : HeapView) where
  pages-unmarked : (unmarked v).pages ≡ map (map_page whitened) v.pages
  unfolding unmarked
  pages-unmarked = refl

  unswept-unmarked : (unmarked v).unswept ≡ v.unswept
  unfolding unmarked
  unswept-unmarked = refl

  pub pool_at-unmarked : (page : ℕ) → pool_at (unmarked v) page ≡ pool_at v page
  pool_at-unmarked = pool_at-mapped whitened v (unmarked v) pages-unmarked

  pub count-unmarked : length (unmarked v).pages ≡ length v.pages
  count-unmarked = count-mapped whitened v (unmarked v) pages-unmarked

  pub is_occupied-unmarked : (a : ℕ) → is_occupied (unmarked v) a ≡ is_occupied v a
  is_occupied-unmarked = is_occupied-mapped whitened v (unmarked v) pages-unmarked

  pub is_object-unmarked : (a : ℕ) → is_object (unmarked v) a ≡ is_object v a
  unfolding is_object
  is_object-unmarked a = test-mapped whitened v (unmarked v) pages-unmarked has_present has_present a same
    where
      same : (s : SlotView) → has_present (map_slot whitened s) ≡ has_present s
      same Free = refl
      same (Moved to) = refl
      same (Object o) = refl

  -- what is read where there is no object is white too
  pub object_of-unmarked : (a : ℕ) → object_of (unmarked v) a ≡ whitened (object_of v a)
  unfolding object_of
  object_of-unmarked a = test-mapped whitened v (unmarked v) pages-unmarked object_in (λ s. whitened (object_in s)) a same
    where
      same : (s : SlotView) → object_in (map_slot whitened s) ≡ whitened (object_in s)
      same Free = refl
      same (Moved to) = refl
      same (Object o) = refl

  pub colour_of-unmarked : (a : ℕ) → colour_of (unmarked v) a ≡ White
  colour_of-unmarked a = ap (λ (o : ObjectView). o.colour) (object_of-unmarked a)

  pub resolved-unmarked : (word : ℕ) → resolved (unmarked v) word ≡ resolved v word
  resolved-unmarked = resolved-mapped whitened v (unmarked v) pages-unmarked

  pub is_moved-unmarked : (a : ℕ) → is_moved (unmarked v) a ≡ is_moved v a
  is_moved-unmarked = is_moved-mapped whitened v (unmarked v) pages-unmarked

  pub is_free_at-unmarked : (pool a : ℕ) → is_free_at (unmarked v) pool a ≡ is_free_at v pool a
  is_free_at-unmarked pool a = free_by v (unmarked v) pool a (is_slot-mapped whitened v (unmarked v) pages-unmarked a)
      (pool_with-mapped whitened v (unmarked v) pages-unmarked a) (slot_free-mapped whitened v (unmarked v) pages-unmarked a) unswept-unmarked

pub grey-unmarked : (v : HeapView) → (unmarked v).grey ≡ []
unfolding unmarked
grey-unmarked v = refl

pub state-unmarked : (v : HeapView) → SameState v (unmarked v)
unfolding unmarked
state-unmarked v = record { limit = refl; unswept = refl; phase = refl; cursor = refl; counters = refl }

pub White-from_is_white : (c : Colour) → is_white c ≡ true → c ≡ White
White-from_is_white White e = refl
White-from_is_white Grey e = cc
White-from_is_white Black e = cc

-- a visit of a word that names a white object, and of any other
pub visited_grey : (v : HeapView) (word : ℕ) → (is_object v word && is_white (colour_of v word)) ≡ true → visited v word ≡ greyed v word
visited_grey v word e = cond-true (is_object v word && is_white (colour_of v word)) (greyed v word) v e

pub visited_same : (v : HeapView) (word : ℕ) → (is_object v word && is_white (colour_of v word)) ≡ false → visited v word ≡ v
visited_same v word e = cond-false (is_object v word && is_white (colour_of v word)) (greyed v word) v e
