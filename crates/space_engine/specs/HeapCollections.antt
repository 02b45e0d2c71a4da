-- What verdicts, completions and collections do to a heap and to finalizers, and which of their lines were written.
use Rattle.std.specs.Prelude.{◌≡◌, ◌≢◌, ◌<◌, ◌≤◌, ◌+◌, ◌*◌, ◌^◌, ℕ, Bool, List, [], ◌++◌, length, map, Option}
use Rattle.std.specs.Io.KnownBytes.{Appends}
use Rattle.space_io.specs.Sinks.{AppendsPrefix}
use Rattle.space_model.specs.declared.command.Command.{Command}
use Rattle.space_model.specs.declared.command.Command.TheVariants.{Minor as MinorCommand, Gc}
use Rattle.space_model.specs.declared.event.Event.{Event}
use Rattle.space_model.specs.declared.event.Kind.{Kind}
use Rattle.space_model.specs.declared.event.Kind.TheVariants.{Minor, Major, Full}
use Rattle.space_model.specs.declared.phase.Phase.TheVariants.{Idle, Marking, Moving, Fixing}
use Rattle.space_model.specs.Outputs.{Told}
use Rattle.space_model.specs.Texts.{text_of}
use Rattle.space_model.specs.Verdicts.{verdict_events}
use Rattle.space_finals.specs.FinalLists.{FinalLists}
use Rattle.space_heap.specs.HeapView.{HeapView}
use Rattle.space_heap.specs.SoundHeap.{IsSoundHeap}
use Rattle.space_heap.specs.Walks.{HasNoObjectFrom}
use Rattle.space_compact.specs.Moves.{IsPacked}
use Rattle.space_compact.specs.Visits.{Visits}
use Rattle.space_roots.specs.WordRoots.{root_words}
use Rattle.space_collector.specs.GoneNames.{gone_names}
use Rattle.space_collector.specs.HeapVerdicts.{IsHeapVerdict}
use Rattle.space_collector.specs.PagesSwept.{SweepsAll}
use Rattle.space_collector.specs.Quiescent.{IsQuiescent, most_slots}
use Rattle.space_collector.specs.HeapMoves.{IsMoving}
use Rattle.space_engine.specs.Counting.{no_counts, counts_of}
use Rattle.space_engine.specs.Turns.{IsAtRest}
use Rattle.space_engine.specs.Views.{View, with_heap, with_completed, with_judged, with_swept, without_starts, fixing_begun, compaction_ended}

-- a marking of the kind, with so many scans, and its verdict, of which these events tell. What it took waits for a sweep
pub record IsTelling (old new : HeapView) (kind : Kind) (roots stack : List ℕ) (scans : ℕ) (events : List Event) : Type 0 where
  pub verdict : IsHeapVerdict old new kind roots stack scans
  pub few : scans < 2 ^ 24
  pub events_are : events ≡ verdict_events kind (gone_names new)

-- the marking that was under way was ended by a major verdict, and then every page was swept
pub record EndsAndSweeps (old : HeapView) (f : FinalLists) (idle : HeapView) (g : FinalLists) (roots stack : List ℕ) (scans : ℕ) (events : List Event) : Type 0 where
  -- the heap after the verdict
  pub judged : HeapView
  pub tells : IsTelling old judged Major roots stack scans events
  pub sweeps : SweepsAll judged f idle g

-- every page that waited was swept, and nothing else was done
pub record OnlySweeps (old : HeapView) (f : FinalLists) (idle : HeapView) (g : FinalLists) (scans : ℕ) (events : List Event) : Type 0 where
  -- of every heap this holds
  pub sound : IsSoundHeap old
  pub sweeps : SweepsAll old f idle g
  pub no_scans : scans ≡ 0
  pub no_events : events ≡ []

-- what was under way was completed, with so many scans: a marking that was is ended first
pub record IsHeapCompletion (old : HeapView) (f : FinalLists) (idle : HeapView) (g : FinalLists) (roots stack : List ℕ) (scans : ℕ) (events : List Event) : Type 0 where
  pub marking : old.phase ≡ Marking → EndsAndSweeps old f idle g roots stack scans events
  pub others : old.phase ≢ Marking → OnlySweeps old f idle g scans events

-- outside a compaction: what was under way was completed so, and all else of the space is as that leaves it
pub record CompletesAtRest (old new : View) (scans : ℕ) (events : List Event) : Type 0 where
  pub heap : IsHeapCompletion old.heap old.finals new.heap new.finals (root_words old.roots) old.stack scans events
  pub rest : new ≡ with_completed old new.heap new.finals

-- each object that wasn't yet was visited, and the compaction ended
pub record CompletesFixes (old new : View) : Type 0 where
  pub visits : ℕ
  -- the heap after the visits
  pub fixed : HeapView
  pub makes : Visits visits old.heap fixed
  -- of every heap this holds
  pub sound : IsSoundHeap fixed
  pub all : HasNoObjectFrom fixed fixed.cursor
  pub ends : new ≡ compaction_ended (with_heap old fixed)

-- moves were made until the heap was packed, and then all references were corrected
pub record CompletesMoves (old new : View) (events : List Event) : Type 0 where
  -- the heap after the moves
  pub packed : HeapView
  pub count : ℕ
  pub moves : ℕ
  pub done : Bool
  pub makes : IsMoving old.heap packed old.stack count moves done events
  pub all : IsPacked packed
  pub fixes : CompletesFixes (fixing_begun (with_heap old packed)) new

-- what was under way was completed; a marking that was, with so many scans
pub record IsCompletion (old new : View) (scans : ℕ) (events : List Event) : Type 0 where
  pub rests : IsAtRest old.heap → CompletesAtRest old new scans events
  pub moving : old.heap.phase ≡ Moving → CompletesMoves old new events
  pub fixing : old.heap.phase ≡ Fixing → (events ≡ []) × CompletesFixes old new
  pub idle : new.heap.phase ≡ Idle

-- the same, and the ledger's count rose by so many
pub record IsTickedCompletion (old new : View) (ticks ticked : ℕ) (events : List Event) : Type 0 where
  pub scans : ℕ
  pub completes : IsCompletion old new scans events
  pub rose : ticked ≡ ticks + scans

-- a collection: what was under way was completed, with scans of its own, and then came a marking of the kind and its verdict
pub record IsCollected (old new : View) (kind : Kind) (ended scans : ℕ) (events : List Event) : Type 0 where
  -- the space after the completion
  pub idle : View
  pub completion : List Event
  pub completes : IsCompletion old idle ended completion
  pub told : List Event
  pub tells : IsTelling idle.heap new.heap kind (root_words idle.roots) idle.stack scans told
  pub judged : new ≡ with_judged idle new.heap
  pub events_are : events ≡ completion ++ told

-- the same, and the ledger's count rose by the scans of both
pub record IsTickedCollection (old new : View) (kind : Kind) (scans ticks ticked : ℕ) (events : List Event) : Type 0 where
  pub ended : ℕ
  pub collects : IsCollected old new kind ended scans events
  pub rose : ticked ≡ ticks + ended + scans

-- `exit` up to the finalizers that run: what was under way was completed, with scans of its own, and then came a whole marking without roots and
-- stack words, its verdict, and sweeps of all pages
pub record IsEmptied (old new : View) (ended : ℕ) (events : List Event) : Type 0 where
  -- the space after the completion
  pub idle : View
  pub completion : List Event
  pub completes : IsCompletion old idle ended completion
  -- the heap after the verdict
  pub judged : HeapView
  pub scans : ℕ
  pub told : List Event
  pub tells : IsTelling idle.heap judged Full [] [] scans told
  pub sweeps : SweepsAll judged idle.finals new.heap new.finals
  pub swept : new ≡ with_swept (with_judged (without_starts idle) judged) new.heap new.finals
  pub events_are : events ≡ completion ++ told

-- the same, and the ledger's count rose by the scans of both
pub record IsTickedExit (old new : View) (ticks ticked : ℕ) (events : List Event) : Type 0 where
  pub ended : ℕ
  pub exits : IsEmptied old new ended events
  pub rose : ticked ≡ ticks + ended + exits.scans

-- events of which this holds were written, and they tell of so many gone objects and moves
pub record AreTold (Are : List Event → Type 0) (gone moves : ℕ) (before after : Option (List ℕ)) : Type 0 where
  pub events : List Event
  pub are : Are events
  pub counted : counts_of (map Told events) ≡ record no_counts { gone = gone; moves = moves }
  pub written : Appends before after (text_of (map Told events))

-- a prefix of the text of events of which this holds was written
pub record AreCut (Are : List Event → Type 0) (before after : Option (List ℕ)) : Type 0 where
  pub events : List Event
  pub are : Are events
  pub prefix : AppendsPrefix before after (text_of (map Told events))

-- no object was allocated, no more verdicts of either count were done, no more slots freed and no more compactions ended than this, no page came
-- or went, and the heap is quiescent, with no compaction under way
pub record HasJudged (minors others slots ended : ℕ) (old new : HeapView) : Type 0 where
  pub born : new.counters.born ≡ old.counters.born
  pub minor_verdicts : new.counters.minor_verdicts ≤ old.counters.minor_verdicts + minors
  pub other_verdicts : new.counters.other_verdicts ≤ old.counters.other_verdicts + others
  pub freed : new.counters.freed ≤ old.counters.freed + slots
  pub compactions : new.counters.compactions ≤ old.counters.compactions + ended
  pub moves : new.counters.moves ≤ old.counters.moves + ended * most_slots
  pub page_count : length new.pages ≡ length old.pages
  pub limit : new.limit ≡ old.limit
  pub quiescent : IsQuiescent new
  pub rests : IsAtRest new

-- the command is one that collects by this kind
abbrev pub IsCollecting : Command → Kind → Type 0
IsCollecting MinorCommand Minor = Unit {0}
IsCollecting Gc Full = Unit {0}
IsCollecting _ _ = ⊥
