-- `exit`, up to the finalizers that run, is that of each state that the space stands for.
use Rattle.std.proofs.Common.{◌≡◌, ◌<◌, ◌^◌, ℕ, List, [], ◌++◌, length, map, refl, sym, ap, ◌∙◌, subst, arith}
use Rattle.space_model.specs.declared.event.Event.{Event}
use Rattle.space_model.specs.declared.event.Kind.TheVariants.{Full}
use Rattle.space_model.specs.Collections.{IsCollection}
use Rattle.space_model.specs.Exit.{starts_dropped, Exits}
use Rattle.space_model.specs.FinalCommands.{ran_events, queue_replaced}
use Rattle.space_model.specs.Graph.{Item}
use Rattle.space_model.specs.Markings.{mark_started}
use Rattle.space_model.specs.Moments.{noted}
use Rattle.space_model.specs.Outputs.{Told}
use Rattle.space_model.specs.State.{State}
use Rattle.space_model.specs.Texts.{AreSpelled}
use Rattle.space_model.proofs.CollectionsKept.{Sound-mark_started}
use Rattle.space_model.proofs.WholeLaws.{leaves_completed, collected_state, collects_after, Sound-collection}
use Rattle.space_heap.specs.Sweeping.{HasNoGone}
use Rattle.space_collector.specs.GoneNames.{gone_names}
use Rattle.space_engine.specs.HeapCollections.{IsEmptied}
use Rattle.space_engine.specs.Stands.{Represents, Holds}
use Rattle.space_engine.specs.Ticks.{AreCompletionScans}
use Rattle.space_engine.specs.Views.{View, with_judged, with_queue, with_swept, without_starts}
use Rattle.space_engine.proofs.CollectionVerdicts.{VerdictOf, collection_verdict}
use Rattle.space_engine.proofs.Collecting.{CompletesTo, completes_to, completion_spelled, SweepsAllTo, swept_all_hold}
use Rattle.space_engine.proofs.Ending.{telling_spelled}
use Rattle.space_engine.proofs.ExitStarts.{none_reached_names, completes_none, starts_dropped_sound, after_starts_dropped}
use Rattle.space_engine.proofs.OutputLists.{spelled_both}
use Rattle.space_engine.proofs.WholeVerdicts.{none_gone_in}

-- the state after `exit`, and that it is what the space stands for once no finalizer waits
pub record ExitsTo (new : View) (s : State) (ended scans : ℕ) (events : List Event) : Type 0 where
  pub state : State
  pub exits : Exits s (events ++ ran_events new.finals.queue) (length new.finals.queue) state
  pub ended_are : AreCompletionScans s ended
  pub no_scans : scans ≡ 0
  pub represents : Represents (with_queue new []) state

module _ (v : View) (s : State) (h : Holds v s) (new : View) (ended : ℕ) (events : List Event)
    (e : IsEmptied v new ended events) where
  abbrev queue : List (ℕ × List ℕ)
  queue = new.finals.queue

  completed : CompletesTo e.idle s ended e.completion
  completed = completes_to v s h e.idle ended e.completion e.completes

  -- the space and the state without roots and stack words
  abbrev bare : View
  bare = without_starts e.idle

  abbrev left : State
  left = noted (starts_dropped completed.state)

  bare_holds : Holds bare left
  bare_holds = record {
    represents = after_starts_dropped e.idle completed.state completed.holds.represents;
    sound = starts_dropped_sound completed.state completed.at_idle completed.holds.sound;
  }

  clean : HasNoGone e.idle.heap
  clean = none_gone_in bare left bare_holds (λ sweeps. let at = completed.at_idle in cc)

  given : VerdictOf bare left e.judged Full e.scans
  given =
      let at = completed.at_idle in
      let rest = bare_holds.sound.resting (λ moves. cc) (λ fixes. cc) in
      collection_verdict bare left e.judged Full e.scans bare_holds clean rest.0 rest.1 (λ major. cc) (λ marks. cc) e.tells.verdict

  -- the state after the verdict
  abbrev collected : State
  collected = collected_state left Full (gone_names e.judged)

  collects : IsCollection left Full e.told e.scans collected
  collects = subst (λ told. IsCollection left Full told e.scans collected) (sym e.tells.events_are)
      (collects_after left Full (gone_names e.judged) given.verdict left [] e.scans
      (completes_none left completed.at_idle) given.scans_are)

  collected_holds : Holds (with_judged bare e.judged) collected
  collected_holds = record {
    represents = given.represents;
    sound = Sound-collection left collected Full e.told e.scans collects bare_holds.sound;
  }

  swept : SweepsAllTo (with_judged bare e.judged) collected new.heap new.finals
  swept = swept_all_hold (with_judged bare e.judged) collected new.heap new.finals collected_holds e.tells.verdict.sound e.sweeps

  waits : queue ≡ swept.state.tables.queue
  waits = swept.holds.represents.finals.waiting

  exits : Exits s (events ++ ran_events queue) (length queue) (queue_replaced swept.state [])
  exits = record {
    idle = completed.state;
    completion = e.completion;
    completes = completed.completes;
    dropped = left;
    drops = refl;
    collected = collected;
    told = e.told;
    scans = e.scans;
    collects = collects;
    swept = swept.state;
    freed = swept.freed;
    sweeps = swept.sweeps;
    events_are =
        ap (λ events. events ++ ran_events queue) e.events_are
        ∙ ap (λ queue. e.completion ++ e.told ++ ran_events queue) waits;
    ran_are = ap length waits;
    after = refl;
  }

  emptied : Represents (with_queue (with_swept (with_judged bare e.judged) new.heap new.finals) []) (queue_replaced swept.state [])
  emptied =
      let r = swept.holds.represents in
      record {
        heap = r.heap;
        generations = r.generations;
        colours = r.colours;
        roots = r.roots;
        stack = r.stack;
        ids = r.ids;
        weak = r.weak;
        finals = record { defined = r.finals.defined; waiting = refl };
      }

  pub exits_to : ExitsTo new s ended e.scans events
  exits_to = record {
    state = queue_replaced swept.state [];
    exits = exits;
    ended_are = completed.scans_are;
    no_scans = given.scans_are ∙ none_reached_names completed.state;
    represents = subst (λ (w : View). Represents (with_queue w []) (queue_replaced swept.state [])) (sym e.swept) emptied;
  }

  -- its lines can be written: a completion allocates nothing
  pub exit_spelled : v.heap.counters.born < 2 ^ 62 → AreSpelled (map Told events)
  exit_spelled few =
      let many = h.represents.heap.counted.allocated in
      let same = ap (λ (graph : List Item). length graph) (leaves_completed s completed.state e.completion completed.completes).graph in
      subst (λ events. AreSpelled (map Told events)) (sym e.events_are)
      (spelled_both e.completion e.told
      (completion_spelled v s h e.idle ended e.completion e.completes few)
      (telling_spelled e.idle.heap e.judged Full [] [] e.scans e.told e.tells (mark_started left)
      (Sound-mark_started left bare_holds.sound) given.verdict (omega (arith, many, same, few))))
