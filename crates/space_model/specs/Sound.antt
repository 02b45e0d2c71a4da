-- What holds of every state that a trace leads to, in each phase: the opening is sound, and each lawful command that a line can give
-- keeps it so.
use Rattle.std.specs.Prelude.{◌≡◌, ◌≢◌, ◌⊎◌, ℕ, ◌<◌, ◌≤◌, true, false, List, [], ◌∷◌, length, nat_eq, None, Some, Option, is_some, slice_get}
use Rattle.std.specs.List.{AllPairs, IsDistinct}
use Rattle.std.specs.Ordering.{nat_cmp}
use Rattle.std.specs.Set.{is_member}
use Rattle.std.specs.FinMap.{FinMap, get, empty}
use Rattle.space_model.specs.declared.phase.Phase.{Phase}
use Rattle.space_model.specs.declared.phase.Phase.TheVariants.{Marking, Sweeping, Moving, Fixing}
use Rattle.space_model.specs.declared.value.Value.{Value}
use Rattle.space_model.specs.declared.value.Value.TheVariants.{Nil, Small, Name}
use Rattle.space_model.specs.Ages.{is_protected}
use Rattle.space_model.specs.Finalizers.{pair_names}
use Rattle.space_model.specs.Graph.{Item, item_of, IsChild}
use Rattle.space_model.specs.Idents.{IsIdent}
use Rattle.space_model.specs.Layout.{most_fields, page_of}
use Rattle.space_model.specs.Moments.{mixed_names}
use Rattle.space_model.specs.Pages.{pool_at, is_used}
use Rattle.space_model.specs.Places.{pool_of, IsSlot, IsFree}
use Rattle.space_model.specs.Reach.{Reach}
use Rattle.space_model.specs.Roots.{Root, root_value, root_names}
use Rattle.space_model.specs.State.{State, WeakEntry}
use Rattle.space_model.specs.StoredWords.{is_stale}
use Rattle.space_model.specs.WeakMaps.{weak_value}
use Rattle.space_model.specs.Words.{IsSmallInteger}

-- the map has names that were allocated, each at a slot of its own
pub record AreSlots (graph : List Item) (pages : List (Option ℕ)) (map : FinMap nat_cmp ℕ) : Type 0 where
  pub allocated : (name address : ℕ) → get map name ≡ Some address → (0 < name) × (name ≤ length graph)
  pub at : (name address : ℕ) → get map name ≡ Some address → IsSlot pages (pool_of graph name) address
  pub once : (name other address : ℕ) → get map name ≡ Some address → get map other ≡ Some address → name ≡ other

-- objects stand at slots, and there are no more pages than may be
pub record SoundLayout (graph : List Item) (place : FinMap nat_cmp ℕ) (pages : List (Option ℕ)) (limit : ℕ) : Type 0 where
  pub placed : AreSlots graph pages place
  pub limited : length pages ≤ limit

-- corpses are names that were allocated and aren't present. They lie at slots of their own where nothing stands, on pages that wait for a sweep
pub record SoundCorpses (graph : List Item) (place corpses : FinMap nat_cmp ℕ) (pages : List (Option ℕ)) (unswept : List ℕ) : Type 0 where
  pub slots : AreSlots graph pages corpses
  pub gone : (name address : ℕ) → get corpses name ≡ Some address → get place name ≡ None
  pub apart : (name other address : ℕ) → get place name ≡ Some address → get corpses other ≡ Some address → ⊥
  pub on_unswept : (name address : ℕ) → get corpses name ≡ Some address → is_member nat_eq unswept (page_of address) ≡ true

-- the pages that wait for a sweep are ascending and have pools; in Sweeping there are some, and else there is none
pub record SoundSweep (phase : Phase) (pages : List (Option ℕ)) (unswept : List ℕ) : Type 0 where
  pub rising : AllPairs (λ page other. page < other) unswept
  pub have_pools : (page : ℕ) → is_member nat_eq unswept page ≡ true → is_some (pool_at pages page) ≡ true
  pub some : phase ≡ Sweeping → unswept ≢ []
  pub none : phase ≢ Sweeping → unswept ≡ []

-- outside a compaction an object stands on each page that has a pool and doesn't wait for a sweep
abbrev pub SoundUsed : Phase → List (Option ℕ) → List ℕ → FinMap nat_cmp ℕ → Type 0
SoundUsed phase pages unswept place =
    phase ≢ Moving → phase ≢ Fixing → (page : ℕ) → is_some (pool_at pages page) ≡ true → is_member nat_eq unswept page ≡ false →
    is_used place page ≡ true

-- outside a compaction no address is left behind and no field is stale
abbrev pub SoundResting : Phase → FinMap nat_cmp ℕ → List (ℕ × ℕ) → Type 0
SoundResting phase left stale = phase ≢ Moving → phase ≢ Fixing → (left ≡ empty) × (stale ≡ [])

-- the cursor is 0 outside Fixing
abbrev pub SoundCursor : Phase → ℕ → Type 0
SoundCursor phase cursor = phase ≢ Fixing → cursor ≡ 0

-- names that left an address are present. The addresses that they left are slots of their own, where nothing stands and nothing lies
pub record SoundLeft (graph : List Item) (place corpses left : FinMap nat_cmp ℕ) (pages : List (Option ℕ)) : Type 0 where
  pub slots : AreSlots graph pages left
  pub present : (name : ℕ) → is_some (get left name) ≡ true → is_some (get place name) ≡ true
  pub apart : (name other address : ℕ) → get place name ≡ Some address → get left other ≡ Some address → ⊥
  pub apart_corpses : (name other address : ℕ) → get corpses name ≡ Some address → get left other ≡ Some address → ⊥

-- the field of a present name holds a name that left its address
pub record IsStaleField (graph : List Item) (place left : FinMap nat_cmp ℕ) (name index : ℕ) : Type 0 where
  pub present : is_some (get place name) ≡ true
  pub child : ℕ
  pub holds : slice_get (item_of graph name).values index ≡ Some (Name child)
  pub was_left : is_some (get left child) ≡ true

-- each stale pair is such a field, and no object with a stale field stands below the cursor
pub record SoundStale (graph : List Item) (place left : FinMap nat_cmp ℕ) (stale : List (ℕ × ℕ)) (cursor : ℕ) : Type 0 where
  pub fields : (name index : ℕ) → is_stale stale name index ≡ true → IsStaleField graph place left name index
  pub unvisited : (name index address : ℕ) → is_stale stale name index ≡ true → get place name ≡ Some address → cursor ≤ address

-- while objects may move, no address that is free for the pool of a name that left its address lies below the place of the name: so it moves
-- once in a compaction
abbrev pub SoundMoves : State → Type 0
SoundMoves s =
    s.collector.phase ≡ Moving → (name address free : ℕ) → is_some (get s.heap.left name) ≡ true → get s.heap.place name ≡ Some address →
    IsFree s (pool_of s.graph name) free → address ≤ free

-- what is present has present children, and roots hold what is present
pub record SoundNames (graph : List Item) (roots : List Root) (place : FinMap nat_cmp ℕ) : Type 0 where
  pub children_present : (parent name : ℕ) → is_some (get place parent) ≡ true → IsChild graph parent name →
      is_some (get place name) ≡ true
  pub roots_present : (name : ℕ) → is_member nat_eq (root_names roots) name ≡ true → is_some (get place name) ≡ true

-- kept names are present and unprotected
abbrev pub SoundKept : List Item → FinMap nat_cmp ℕ → List ℕ → Type 0
SoundKept graph place kept =
    (name : ℕ) → is_member nat_eq kept name ≡ true → (is_some (get place name) ≡ true) × (is_protected graph name ≡ false)

-- names with an id were allocated, and each has one
pub record SoundIds (graph : List Item) (ids : List ℕ) : Type 0 where
  pub allocated : (name : ℕ) → is_member nat_eq ids name ≡ true → (0 < name) × (name ≤ length graph)
  pub once : IsDistinct nat_eq ids

-- a name with finalizers is present, or its corpse isn't swept yet
abbrev pub SoundFinals : FinMap nat_cmp ℕ → FinMap nat_cmp ℕ → List (ℕ × List ℕ) → Type 0
SoundFinals place corpses finals =
    (name : ℕ) → is_member nat_eq (pair_names finals) name ≡ true → (is_some (get place name) ≡ true) ⊎ (is_some (get corpses name) ≡ true)

-- the name was allocated, and is gone and swept
pub record IsSweptName (graph : List Item) (place corpses : FinMap nat_cmp ℕ) (name : ℕ) : Type 0 where
  pub allocated : (0 < name) × (name ≤ length graph)
  pub gone : get place name ≡ None
  pub freed : get corpses name ≡ None

-- names whose finalizers wait to run are gone and swept
abbrev pub SoundQueue : List Item → FinMap nat_cmp ℕ → FinMap nat_cmp ℕ → List (ℕ × List ℕ) → Type 0
SoundQueue graph place corpses queue = (name : ℕ) → is_member nat_eq (pair_names queue) name ≡ true → IsSweptName graph place corpses name

-- the key and the value of each entry are present, and no two entries belong to the same map and key
abbrev pub AreSoundEntries : FinMap nat_cmp ℕ → List WeakEntry → Type 0
AreSoundEntries place [] = Unit {0}
AreSoundEntries place (entry ∷ entries) =
    (is_some (get place entry.key_name) ≡ true) × (is_some (get place entry.value_name) ≡ true)
    × (weak_value entries entry.map_name entry.key_name ≡ None) × AreSoundEntries place entries

-- while a marking goes on: it began with names that were seen; what was seen is present, and so are its children, which were seen; other names
-- may be kept than those that are for certain; and no more scans were told than names were seen
pub record SoundMarking (graph : List Item) (place : FinMap nat_cmp ℕ) (seen began : List ℕ) (scanned vague : ℕ) : Type 0 where
  pub began_seen : (name : ℕ) → is_member nat_eq began name ≡ true → is_member nat_eq seen name ≡ true
  pub seen_present : (name : ℕ) → is_member nat_eq seen name ≡ true → is_some (get place name) ≡ true
  pub seen_closed : (parent name : ℕ) → is_member nat_eq seen parent ≡ true → IsChild graph parent name → is_member nat_eq seen name ≡ true
  pub open_kept : vague ≡ 1
  pub few_scans : scanned ≤ length seen

-- the reached names are in `seen`, each once, and the names with a child that isn't old are in `mixed`
pub record SoundMoments (s : State) : Type 0 where
  pub seen : (name : ℕ) → Reach s name → is_member nat_eq s.history.seen name ≡ true
  pub once : IsDistinct nat_eq s.history.seen
  pub mixed : (name : ℕ) → is_member nat_eq (mixed_names s) name ≡ true → is_member nat_eq s.history.mixed name ≡ true

-- a small integer has a word
abbrev pub IsSmall : Value → Type 0
IsSmall Nil = Unit {0}
IsSmall (Small number) = IsSmallInteger number
IsSmall (Name name) = Unit {0}

-- each small integer of the values has a word
abbrev pub AreSmall : List Value → Type 0
AreSmall [] = Unit {0}
AreSmall (value ∷ values) = IsSmall value × AreSmall values

-- an object has no more fields than the last pool's slots have room for, and each small integer that they hold has a word
abbrev pub AreSoundItems : List Item → Type 0
AreSoundItems [] = Unit {0}
AreSoundItems (item ∷ items) = (length item.values ≤ most_fields) × AreSmall item.values × AreSoundItems items

-- each root's ident is one that a line can name, no two roots have the same, and each small integer that they hold has a word
abbrev pub AreSoundRoots : List Root → Type 0
AreSoundRoots [] = Unit {0}
AreSoundRoots (root ∷ roots) = IsIdent root.0 × (root_value roots root.0 ≡ None) × IsSmall root.1 × AreSoundRoots roots

-- what holds of the state, part by part
pub record Sound (s : State) : Type 0 where
  pub layout : SoundLayout s.graph s.heap.place s.heap.pages s.heap.limit
  pub corpses : SoundCorpses s.graph s.heap.place s.heap.corpses s.heap.pages s.heap.unswept
  pub sweep : SoundSweep s.collector.phase s.heap.pages s.heap.unswept
  pub used : SoundUsed s.collector.phase s.heap.pages s.heap.unswept s.heap.place
  pub resting : SoundResting s.collector.phase s.heap.left s.collector.stale
  pub cursor : SoundCursor s.collector.phase s.collector.cursor
  pub left : SoundLeft s.graph s.heap.place s.heap.corpses s.heap.left s.heap.pages
  pub stale : SoundStale s.graph s.heap.place s.heap.left s.collector.stale s.collector.cursor
  pub moves : SoundMoves s
  pub names : SoundNames s.graph s.roots s.heap.place
  pub kept : SoundKept s.graph s.heap.place s.collector.kept
  pub ids : SoundIds s.graph s.tables.ids
  pub weak : AreSoundEntries s.heap.place s.tables.weak
  pub finals : SoundFinals s.heap.place s.heap.corpses s.tables.finals
  pub queue : SoundQueue s.graph s.heap.place s.heap.corpses s.tables.queue
  pub items : AreSoundItems s.graph
  pub roots : AreSoundRoots s.roots
  pub outlived : length s.collector.outlived ≡ length s.graph
  pub moments : SoundMoments s
  pub marking : s.collector.phase ≡ Marking →
      SoundMarking s.graph s.heap.place s.history.seen s.history.began s.history.scanned s.collector.vague
