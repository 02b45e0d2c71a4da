-- The start of a marking, and the verdict that ends it.
use Rattle.std.specs.Prelude.{◌≡◌, ℕ, ◌+◌, List}
use Rattle.space_model.specs.declared.event.Event.{Event}
use Rattle.space_model.specs.declared.event.Kind.{Kind}
use Rattle.space_model.specs.declared.event.Kind.TheVariants.{Minor}
use Rattle.space_model.specs.Ages.{aged}
use Rattle.space_model.specs.Kept.{kept_after_verdict, vague_after_verdict}
use Rattle.space_model.specs.Maps.{without, carried_over}
use Rattle.space_model.specs.Moments.{noted, mixed_names}
use Rattle.space_model.specs.Pages.{pool_pages}
use Rattle.space_model.specs.Reached.{start_names, reached_names}
use Rattle.space_model.specs.State.{State, Counters}
use Rattle.space_model.specs.Sweeps.{sweep_phase}
use Rattle.space_model.specs.WeakMaps.{entries_left}
use Rattle.space_model.specs.Verdicts.{IsVerdict, verdict_events}

-- a marking starts: what is reached now, and who has a child now that isn't old, is all that was noted since. It begins with what roots hold
-- and stack words name, and no scan was told yet
abbrev pub mark_started : State → State
mark_started s = record s {
  history = record s.history { seen = reached_names s; mixed = mixed_names s; began = start_names s.roots s.stack s.heap.place; scanned = 0 };
}

-- the state after the start of a marking
abbrev pub StartMark : State → State → Type 0
StartMark s t = t ≡ mark_started s

-- one more verdict: minor ones are counted apart
abbrev pub counted : Kind → Counters → Counters
counted Minor counters = record counters { minor_verdicts = counters.minor_verdicts + 1 }
counted _ counters = record counters { other_verdicts = counters.other_verdicts + 1 }

-- a verdict was carried out: what it takes are corpses, each name that it left outlived one verdict more, entries of weak maps go with their
-- key or their value, and every page with a pool waits for a sweep
abbrev pub took : State → Kind → List ℕ → State
took s kind taken = record s {
  heap = record s.heap {
    place = without s.heap.place taken;
    corpses = carried_over s.heap.place s.heap.corpses taken;
    unswept = pool_pages s.heap.pages;
  };
  collector = record s.collector {
    phase = sweep_phase (pool_pages s.heap.pages);
    outlived = aged (without s.heap.place taken) s.collector.outlived;
    kept = kept_after_verdict kind s.graph (without s.heap.place taken) (aged (without s.heap.place taken) s.collector.outlived) s.collector.kept;
    vague = vague_after_verdict kind s.collector.vague;
  };
  tables = record s.tables { weak = entries_left taken s.tables.weak };
  counters = counted kind s.counters;
}

-- the state after a verdict
abbrev pub Took : State → Kind → List ℕ → State → Type 0
Took s kind taken t = t ≡ noted (took s kind taken)

-- a verdict takes these names: it is told, and carried out
pub record GivesVerdict (marked : State) (kind : Kind) (taken : List ℕ) (events : List Event) (t : State) : Type 0 where
  pub verdict : IsVerdict marked kind taken
  pub takes : Took marked kind taken t
  pub events_are : events ≡ verdict_events kind taken
