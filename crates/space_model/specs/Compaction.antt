-- Compaction: which objects are pinned, which one moves next, the visits that correct references, and the end. That objects move from the
-- highest address of their pool to the lowest free one, and that a conservative reference pins, is CRuby's (3.3). Which pool comes first, and
-- that other commands may cut a compaction anywhere, is this project's own.
use Rattle.std.specs.Prelude.{◌≡◌, ◌⊎◌, ℕ, zero, suc, ◌+◌, ◌<◌, ◌≤◌, Bool, true, false, not, List, [], ◌∷◌, ◌++◌, nat_eq, Option, None, Some, if◌then◌else◌}
use Rattle.std.specs.List.{filter, flat_map}
use Rattle.std.specs.Ordering.{nat_cmp}
use Rattle.std.specs.Set.{is_member}
use Rattle.std.specs.FinMap.{FinMap, get, insert, keys, empty}
use Rattle.space_model.specs.declared.event.Event.{Event}
use Rattle.space_model.specs.declared.event.Event.TheVariants.{Moved}
use Rattle.space_model.specs.declared.object.Style.TheVariants.{Keeping}
use Rattle.space_model.specs.declared.phase.Phase.TheVariants.{Idle, Moving, Fixing}
use Rattle.space_model.specs.declared.value.Value.{Value}
use Rattle.space_model.specs.declared.value.Value.TheVariants.{Nil, Small, Name}
use Rattle.space_model.specs.Graph.{Item, item_of, IsChild}
use Rattle.space_model.specs.Moments.{noted}
use Rattle.space_model.specs.Pages.{is_used}
use Rattle.space_model.specs.Places.{pool_of, IsFree, IsNewAt}
use Rattle.space_model.specs.Reach.{Named}
use Rattle.space_model.specs.State.{State, is_present}

-- a stack word names the name
abbrev pub IsNamedByStack : State → ℕ → Type 0
IsNamedByStack s name = (word : ℕ) × (is_member nat_eq s.stack word ≡ true) × Named s word name

-- a field of a present name of style K holds the name
pub record IsHeldByKeeping (s : State) (name : ℕ) : Type 0 where
  pub parent : ℕ
  pub present : is_present s parent ≡ true
  pub keeping : (item_of s.graph parent).style ≡ Keeping
  pub holds : IsChild s.graph parent name

-- the name is pinned: one of these holds
abbrev pub IsPinned : State → ℕ → Type 0
IsPinned s name = IsNamedByStack s name ⊎ IsHeldByKeeping s name

-- a name of the pool that isn't pinned stands at the address
pub record IsMovable (s : State) (pool name address : ℕ) : Type 0 where
  pub at : get s.heap.place name ≡ Some address
  pub its : pool_of s.graph name ≡ pool
  pub loose : IsPinned s name → ⊥

-- no name of the pool that isn't pinned stands above an address that is free for the pool
abbrev pub IsPackedIn : State → ℕ → Type 0
IsPackedIn s pool = (name address free : ℕ) → IsMovable s pool name address → IsFree s pool free → address ≤ free

-- the space is packed: each pool is
abbrev pub IsPacked : State → Type 0
IsPacked s = (pool : ℕ) → IsPackedIn s pool

-- the next move: of the first pool that isn't packed the name that stands highest of those that aren't pinned, where it stands, and the least
-- address that is free for the pool
pub record IsNextMove (s : State) (name from to : ℕ) : Type 0 where
  pub pool : ℕ
  pub first : (lower : ℕ) → lower < pool → IsPackedIn s lower
  pub movable : IsMovable s pool name from
  pub highest : (other address : ℕ) → IsMovable s pool other address → address ≤ from
  pub least : IsNewAt s pool to
  pub above : to < from

-- whether the value is the name
abbrev pub is_name : ℕ → Value → Bool
is_name name Nil = false
is_name name (Small number) = false
is_name name (Name other) = nat_eq other name

-- the fields of the parent that hold the name, each as a pair of the parent and its number; the first of the values has this number
abbrev pub fields_holding : ℕ → ℕ → ℕ → List Value → List (ℕ × ℕ)
fields_holding name parent index [] = []
fields_holding name parent index (value ∷ values) =
    if is_name name value then (parent, index) ∷ fields_holding name parent (index + 1) values else fields_holding name parent (index + 1) values

-- the fields of present names that hold the name
unfoldable pub pairs_holding : List Item → FinMap nat_cmp ℕ → ℕ → List (ℕ × ℕ)
pairs_holding graph place name = flat_map (λ parent. fields_holding name parent 0 (item_of graph parent).values) (keys place)

-- the name was moved: it stands at the new address and left the old one, and each field that holds it is stale
abbrev pub moved : State → ℕ → ℕ → ℕ → State
moved s name from to = record s {
  heap = record s.heap { place = insert s.heap.place name to; left = insert s.heap.left name from };
  collector = record s.collector { stale = pairs_holding s.graph s.heap.place name ++ s.collector.stale };
  counters = record s.counters { moves = s.counters.moves + 1 };
}

-- the next move is made, and what is reached is noted: a stack word may name the new address
pub record Moves1 (s : State) (name from to : ℕ) (t : State) : Type 0 where
  pub next : IsNextMove s name from to
  pub after : t ≡ noted (moved s name from to)

-- so many moves, one after another, each told by an event
abbrev pub Moves : ℕ → State → List Event → State → Type 0
Moves zero s events t = (events ≡ []) × (t ≡ s)
Moves (suc count) s events t =
    (name from to : ℕ) × (later : List Event) × (mid : State) × (events ≡ Moved name from to ∷ later) × Moves1 s name from to mid × Moves count mid later t

-- the correction of references begins
abbrev pub fixing_begun : State → State
fixing_begun s = record s { collector = record s.collector { phase = Fixing; cursor = 0 } }

-- the name stands at the address, which is the least that isn't below the cursor
pub record IsNextVisit (s : State) (name address : ℕ) : Type 0 where
  pub at : get s.heap.place name ≡ Some address
  pub not_below : s.collector.cursor ≤ address
  pub least : (other place : ℕ) → get s.heap.place other ≡ Some place → s.collector.cursor ≤ place → address ≤ place

-- the pairs without those of the name
abbrev pub without_pairs : List (ℕ × ℕ) → ℕ → List (ℕ × ℕ)
without_pairs stale name = filter (λ (pair : ℕ × ℕ). not (nat_eq pair.0 name)) stale

-- the name at the address was visited: no field of it is stale, and the cursor is past it
abbrev pub visited : State → ℕ → ℕ → State
visited s name address =
    record s { collector = record s.collector { stale = without_pairs s.collector.stale name; cursor = address + 1 } }

-- the next name is visited. Nothing changes on which rests what is reached
pub record Visits1 (s t : State) : Type 0 where
  pub name : ℕ
  pub address : ℕ
  pub next : IsNextVisit s name address
  pub after : t ≡ visited s name address

-- so many names are visited, one after another
abbrev pub Visits : ℕ → State → State → Type 0
Visits zero s t = t ≡ s
Visits (suc count) s t = (mid : State) × Visits1 s mid × Visits count mid t

-- each name was visited: none stands at the cursor or above it
abbrev pub HasNoVisit : State → Type 0
HasNoVisit s = (name address : ℕ) → get s.heap.place name ≡ Some address → address < s.collector.cursor

-- the pages, the first of which has this number, each spare where nothing stands on it
abbrev pub all_spared : FinMap nat_cmp ℕ → ℕ → List (Option ℕ) → List (Option ℕ)
all_spared place page [] = []
all_spared place page (pool ∷ pages) = (if is_used place page then pool else None) ∷ all_spared place (page + 1) pages

-- the compaction ended: the addresses that were left are free, each page without an object is spare, and the compaction is counted
abbrev pub compaction_ended : State → State
compaction_ended s = record s {
  heap = record s.heap { left = empty; pages = all_spared s.heap.place 0 s.heap.pages };
  collector = record s.collector { phase = Idle; cursor = 0; stale = [] };
  counters = record s.counters { compactions = s.counters.compactions + 1 };
}

-- each name that wasn't yet is visited, and the compaction ends
pub record FixesAll (s t : State) : Type 0 where
  pub visits : ℕ
  pub last : State
  pub visits_are : Visits visits s last
  pub all : HasNoVisit last
  pub after : t ≡ compaction_ended last

-- moves are made until the space is packed, and then all references are corrected
pub record MovesAll (s : State) (events : List Event) (t : State) : Type 0 where
  pub moves : ℕ
  pub last : State
  pub makes : Moves moves s events last
  pub packed : IsPacked last
  pub fixes : FixesAll (fixing_begun last) t
