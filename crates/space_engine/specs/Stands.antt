-- Which states a space stands for, in every phase: also while pages wait for a sweep, and while objects move.
use Rattle.std.specs.Prelude.{◌≡◌, ◌≢◌, ℕ, true, false, List, [], ◌∷◌, length, Option, None, Some}
use Rattle.std.specs.Option.{option_map}
use Rattle.std.specs.FinMap.{FinMap, get}
use Rattle.std.specs.Ordering.{nat_cmp}
use Rattle.space_model.specs.declared.phase.Phase.{Phase}
use Rattle.space_model.specs.declared.phase.Phase.TheVariants.{Marking}
use Rattle.space_model.specs.Graph.{Item, item_of}
use Rattle.space_model.specs.Pages.{pool_at as pool_of_page}
use Rattle.space_model.specs.Sound.{Sound}
use Rattle.space_model.specs.State.{Heap, Collector, Counters, WeakEntry, State}
use Rattle.space_heap.specs.Slots.{ObjectView}
use Rattle.space_heap.specs.HeapView.{HeapView, Counters as HeapCounters, pool_at}
use Rattle.space_heap.specs.Objects.{is_occupied, is_object, object_of, is_moved, resolved}
use Rattle.space_model.specs.StoredWords.{stored_words}
use Rattle.space_model.specs.WeakMaps.{weak_value}
use Rattle.space_ids.specs.GivenIds.{GivenIds, names_in}
use Rattle.space_weak.specs.WeakEntries.{Entry, entry_of, AreApart}
use Rattle.space_finals.specs.FinalLists.{FinalLists, HaveSameLabels}
use Rattle.space_engine.specs.Generations.{HasGenerations}
use Rattle.space_engine.specs.Colours.{HasColours}
use Rattle.space_engine.specs.Views.{View, SpaceView}
use Rattle.space_engine.specs.Words.{word_roots, resolved_roots}

-- the object has this name, the item's guard and style, and the stored words of its values
pub record IsObjectOf (place left : FinMap nat_cmp ℕ) (stale : List (ℕ × ℕ)) (name : ℕ) (item : Item) (object : ObjectView) : Type 0 where
  pub named : object.name ≡ name
  pub guard : object.guard ≡ item.guard
  pub style : object.style ≡ item.style
  pub fields : object.fields ≡ stored_words place left stale name item.values

-- the objects that aren't gone are the present names, each at its place
pub record HasObjects (graph : List Item) (place left : FinMap nat_cmp ℕ) (stale : List (ℕ × ℕ)) (heap : HeapView) : Type 0 where
  pub stands : (name address : ℕ) → get place name ≡ Some address → is_object heap address ≡ true
  pub is : (name address : ℕ) → get place name ≡ Some address → IsObjectOf place left stale name (item_of graph name) (object_of heap address)
  pub only : (address : ℕ) → is_object heap address ≡ true → get place (object_of heap address).name ≡ Some address

-- the objects that are gone and not swept are the corpses, each at its last address
pub record HasCorpses (corpses : FinMap nat_cmp ℕ) (heap : HeapView) : Type 0 where
  pub lies : (name address : ℕ) → get corpses name ≡ Some address → is_occupied heap address ≡ true
  pub gone : (name address : ℕ) → get corpses name ≡ Some address → is_object heap address ≡ false
  pub named : (name address : ℕ) → get corpses name ≡ Some address → (object_of heap address).name ≡ name
  pub only : (address : ℕ) → is_occupied heap address ≡ true → is_object heap address ≡ false → get corpses (object_of heap address).name ≡ Some address

-- the slots from which objects were moved are those that names left, and each leads to the place of its name
pub record HasLeft (place left : FinMap nat_cmp ℕ) (heap : HeapView) : Type 0 where
  pub lies : (name address : ℕ) → get left name ≡ Some address → is_moved heap address ≡ true
  pub leads : (name address : ℕ) → get left name ≡ Some address → get place name ≡ Some (resolved heap address)
  pub only : (address : ℕ) → is_moved heap address ≡ true → (name : ℕ) × (get left name ≡ Some address)

-- the heap has these pages, and the same of them wait for a sweep. Which addresses are free follows from what stands, lies or was left there
pub record HasPages (pages : List (Option ℕ)) (limit : ℕ) (unswept : List ℕ) (heap : HeapView) : Type 0 where
  pub count : length pages ≡ length heap.pages
  pub pools : (page : ℕ) → pool_of_page pages page ≡ pool_at heap page
  pub limited : limit ≡ heap.limit
  pub waiting : unswept ≡ heap.unswept

-- the heap is at what the collector is at, and nothing is grey but in a marking
pub record HasProgress (phase : Phase) (cursor : ℕ) (heap : HeapView) : Type 0 where
  pub at : heap.phase ≡ phase
  pub until : heap.cursor ≡ cursor
  pub none_grey : phase ≢ Marking → heap.grey ≡ []

-- the heap counted the same, and so many objects were allocated
pub record HasCounted (born : ℕ) (counters : Counters) (counted : HeapCounters) : Type 0 where
  pub allocated : counted.born ≡ born
  pub minor_verdicts : counted.minor_verdicts ≡ counters.minor_verdicts
  pub other_verdicts : counted.other_verdicts ≡ counters.other_verdicts
  pub freed : counted.freed ≡ counters.freed
  pub compactions : counted.compactions ≡ counters.compactions
  pub moves : counted.moves ≡ counters.moves

-- the heap's half: it has what these parts of a state have, whatever roots and stack hold
pub record HeapRepresents (graph : List Item) (own : Heap) (collector : Collector) (counters : Counters) (heap : HeapView) : Type 0 where
  pub objects : HasObjects graph own.place own.left collector.stale heap
  pub corpses : HasCorpses own.corpses heap
  pub left : HasLeft own.place own.left heap
  pub pages : HasPages own.pages own.limit own.unswept heap
  pub progress : HasProgress collector.phase collector.cursor heap
  pub counted : HasCounted (length graph) counters heap.counters

-- what is kept of a name with an id: the address at which it stands, once that is resolved, and none where it isn't present
abbrev pub IsKeptOf : FinMap nat_cmp ℕ → HeapView → ℕ × Option ℕ → Type 0
IsKeptOf place heap (name, None) = get place name ≡ None
IsKeptOf place heap (name, Some address) = get place name ≡ Some (resolved heap address)

-- the same of each name
abbrev pub AreKept : FinMap nat_cmp ℕ → HeapView → GivenIds → Type 0
AreKept place heap [] = Unit {0}
AreKept place heap (entry ∷ ids) = IsKeptOf place heap entry × AreKept place heap ids

-- the ids are those of the state's names, in their order
pub record HasIds (place : FinMap nat_cmp ℕ) (ids : List ℕ) (given : GivenIds) (heap : HeapView) : Type 0 where
  pub names : names_in given ≡ ids
  pub kept : AreKept place heap given

-- the key and the value of an entry stand at the addresses that are kept of them, once these are resolved
pub record IsEntryAt (place : FinMap nat_cmp ℕ) (heap : HeapView) (entry : Entry) : Type 0 where
  pub key : get place entry.key_name ≡ Some (resolved heap entry.key_address)
  pub value : get place entry.value_name ≡ Some (resolved heap entry.value_address)

-- each key has the value in each weak map that it has in the state; the order of entries means nothing
pub record HasWeakEntries (place : FinMap nat_cmp ℕ) (weak : List WeakEntry) (entries : List Entry) (heap : HeapView) : Type 0 where
  pub apart : AreApart entries
  pub values : (map_name : List ℕ) (key : ℕ) → weak_value weak map_name key ≡ option_map (λ entry. entry.value_name) (entry_of entries map_name key)
  pub at : (map_name : List ℕ) (key : ℕ) (entry : Entry) → entry_of entries map_name key ≡ Some entry → IsEntryAt place heap entry

-- each name has the same finalizers, and the same wait to run, in the same order
pub record HasFinals (finals queue : List (ℕ × List ℕ)) (lists : FinalLists) : Type 0 where
  pub defined : HaveSameLabels lists.finals finals
  pub waiting : lists.queue ≡ queue

-- the view has what the state has: the words of roots are those of their values, once they are resolved, and the stack's are the same
pub record Represents (v : View) (s : State) : Type 0 where
  pub heap : HeapRepresents s.graph s.heap s.collector s.counters v.heap
  pub generations : HasGenerations s.graph s.heap.place s.collector s.history.mixed v.heap
  pub colours : HasColours s.graph s.heap.place s.history s.collector.phase v.heap
  pub roots : resolved_roots v.heap v.roots ≡ word_roots s.heap.place s.roots
  pub stack : s.stack ≡ v.stack
  pub ids : HasIds s.heap.place s.tables.ids v.ids v.heap
  pub weak : HasWeakEntries s.heap.place s.tables.weak v.weak v.heap
  pub finals : HasFinals s.tables.finals s.tables.queue v.finals

-- the view has what a sound state has
pub record Holds (v : View) (s : State) : Type 0 where
  pub represents : Represents v s
  pub sound : Sound s

-- the space stands for the state
abbrev pub Stands : SpaceView → State → Type 0
Stands space s = Holds space.parts s
