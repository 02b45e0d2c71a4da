-- The state of a space: plain numbers, lists and finite maps, with nothing of the collector's own data.
use Rattle.std.specs.Prelude.{ℕ, Bool, List, [], Option, is_some}
use Rattle.std.specs.Ordering.{nat_cmp}
use Rattle.std.specs.FinMap.{FinMap, get, empty}
use Rattle.space_model.specs.declared.phase.Phase.{Phase}
use Rattle.space_model.specs.declared.phase.Phase.TheVariants.{Idle}
use Rattle.space_model.specs.Graph.{Item}
use Rattle.space_model.specs.Roots.{Root}

-- where objects stand
pub record Heap : Type 0 where
  -- the addresses of the present names: a name that was allocated and isn't present is gone
  pub place : FinMap nat_cmp ℕ
  -- the last addresses of the names that are gone and not swept yet
  pub corpses : FinMap nat_cmp ℕ
  -- the addresses that present names left in this compaction
  pub left : FinMap nat_cmp ℕ
  -- the pool of each page; None is a spare page
  pub pages : List (Option ℕ)
  -- the most pages
  pub limit : ℕ
  -- the pages that wait for a sweep, ascending
  pub unswept : List ℕ

-- what the collector is at, and what it has to remember of names
pub record Collector : Type 0 where
  pub phase : Phase
  -- in Fixing, no field of an object below this address is in `stale`; outside Fixing it is 0
  pub cursor : ℕ
  -- for each item of the graph, the verdicts that it outlived
  pub outlived : List ℕ
  -- names and fields whose words are still addresses in `left`
  pub stale : List (ℕ × ℕ)
  -- the names that are kept for certain; other unprotected names may be kept only where `vague` is 1
  pub kept : List ℕ
  pub vague : ℕ

-- a weak map's name, a key and its value
pub record WeakEntry : Type 0 where
  pub map_name : List ℕ
  pub key_name : ℕ
  pub value_name : ℕ

-- what commands keep of names besides roots and the stack
pub record Tables : Type 0 where
  -- the names with an id, in the order in which the ids were given
  pub ids : List ℕ
  pub weak : List WeakEntry
  -- the finalizers that were defined, and those that wait to run: names and labels
  pub finals : List (ℕ × List ℕ)
  pub queue : List (ℕ × List ℕ)

-- what was noted since the last marking began
pub record History : Type 0 where
  -- the names that were reached at some moment
  pub seen : List ℕ
  -- the names that had a child that wasn't old at some moment
  pub mixed : List ℕ
  -- the names that roots held or stack words named when the marking began
  pub began : List ℕ
  -- the scans that were told since
  pub scanned : ℕ

-- how many minor verdicts, major and full verdicts, freed objects, compactions and moves there were
pub record Counters : Type 0 where
  pub minor_verdicts : ℕ
  pub other_verdicts : ℕ
  pub freed : ℕ
  pub compactions : ℕ
  pub moves : ℕ

-- the whole state
pub record State : Type 0 where
  -- the n-th item belongs to the name n, from 1
  pub graph : List Item
  pub roots : List Root
  -- the words of the stack, from the bottom to the top
  pub stack : List ℕ
  pub heap : Heap
  pub collector : Collector
  pub tables : Tables
  pub history : History
  pub counters : Counters

-- before the first command: everything is empty, and the number of pages is limited
abbrev pub opening : ℕ → State
opening limit = record {
  graph = [];
  roots = [];
  stack = [];
  heap = record { place = empty; corpses = empty; left = empty; pages = []; limit = limit; unswept = [] };
  collector = record { phase = Idle; cursor = 0; outlived = []; stale = []; kept = []; vague = 0 };
  tables = record { ids = []; weak = []; finals = []; queue = [] };
  history = record { seen = []; mixed = []; began = []; scanned = 0 };
  counters = record { minor_verdicts = 0; other_verdicts = 0; freed = 0; compactions = 0; moves = 0 };
}

-- whether the name is present: it was allocated and isn't gone
abbrev pub is_present : State → ℕ → Bool
is_present s name = is_some (get s.heap.place name)
