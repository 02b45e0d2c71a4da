-- Which objects are pinned: those that no move may take.
use Rattle.std.specs.Prelude.{◌≡◌, ◌⊎◌, ◌↔◌, ℕ, Bool, true, false, List, length, map, nat_eq, if◌then◌else◌}
use Rattle.std.specs.List.{fold}
use Rattle.std.specs.Set.{is_member}
use Rattle.space_model.specs.declared.object.Style.{Style}
use Rattle.space_model.specs.declared.object.Style.TheVariants.{Movable, Keeping}
use Rattle.space_heap.specs.HeapView.{HeapView, pool_at}
use Rattle.space_heap.specs.Objects.{is_occupied, is_object, object_of, resolved, is_moved}
use Rattle.space_heap.specs.FreeSlots.{is_free_at}
use Rattle.space_heap.specs.Relocation.{pinned_at, unpinned_object}

-- the object that the word names was pinned; nothing changes where it names none
abbrev pub pinned_word : HeapView → ℕ → HeapView
pinned_word v word = if is_object v word then pinned_at v word else v

-- the objects that the words name were pinned
unfoldable pub pinned_words : HeapView → List ℕ → HeapView
pinned_words v words = fold pinned_word v words

-- the words of the fields of an object, resolved
abbrev pub child_words : HeapView → ℕ → List ℕ
child_words v m = map (resolved v) (object_of v m).fields

-- whether it is the style of an object that pins its children
abbrev pub is_keeping : Style → Bool
is_keeping Movable = false
is_keeping Keeping = true

-- an object of style K, of which a field holds the object at a, stands at m
abbrev pub IsKeptBy : HeapView → ℕ → ℕ → Type 0
IsKeptBy v m a = (is_object v m ≡ true) × (is_keeping (object_of v m).style ≡ true) × (is_member nat_eq (child_words v m) a ≡ true)

-- a word of the stack names the object, or an object of style K holds it in a field
abbrev pub IsPinned : HeapView → List ℕ → ℕ → Type 0
IsPinned v stack a = (is_member nat_eq stack a ≡ true) ⊎ ((m : ℕ) × IsKeptBy v m a)

-- nothing changed but pins
pub record SameButPins (old new : HeapView) : Type 0 where
  pub objects : (a : ℕ) → unpinned_object (object_of new a) ≡ unpinned_object (object_of old a)
  pub standing : (a : ℕ) → is_occupied new a ≡ is_occupied old a
  pub present : (a : ℕ) → is_object new a ≡ is_object old a
  pub moves : (word : ℕ) → resolved new word ≡ resolved old word
  pub away : (a : ℕ) → is_moved new a ≡ is_moved old a
  pub free : (pool a : ℕ) → is_free_at new pool a ≡ is_free_at old pool a
  pub pools : (page : ℕ) → pool_at new page ≡ pool_at old page
  pub count : length new.pages ≡ length old.pages
  pub limit : new.limit ≡ old.limit
  pub unswept : new.unswept ≡ old.unswept
  pub grey : new.grey ≡ old.grey
  pub phase_is : new.phase ≡ old.phase
  pub cursor_is : new.cursor ≡ old.cursor
  pub counters_are : new.counters ≡ old.counters

-- nothing changed but pins, and exactly those objects are pinned that a stack word names or an object of style K holds; none that is gone is
pub record PinsNow (old new : HeapView) (stack : List ℕ) : Type 0 where
  pub same : SameButPins old new
  pub pinned : (a : ℕ) → is_object old a ≡ true → ((object_of new a).pinned ≡ true) ↔ IsPinned old stack a
  pub others : (a : ℕ) → is_object old a ≡ false → (object_of new a).pinned ≡ false

-- nothing changed but pins, and those came to them that objects of style K hold in a field
pub record PinsKept (old new : HeapView) : Type 0 where
  pub same : SameButPins old new
  pub pinned : (a : ℕ) → is_object old a ≡ true → ((object_of new a).pinned ≡ true) ↔ (((object_of old a).pinned ≡ true) ⊎ ((m : ℕ) × IsKeptBy old m a))
  pub others : (a : ℕ) → is_object old a ≡ false → (object_of new a).pinned ≡ (object_of old a).pinned
