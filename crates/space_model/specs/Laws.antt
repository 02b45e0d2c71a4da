-- The laws of the definitions, which functions of this crate promise.
use Rattle.std.specs.Prelude.{◌≡◌, ◌≢◌, ◌↔◌, ℕ, ◌+◌, ◌≤◌, Bool, true, false, List, [], length, Option, Some, nat_eq}
use Rattle.std.specs.List.{IsDistinct}
use Rattle.std.specs.Set.{is_member}
use Rattle.std.specs.FinMap.{get}
use Rattle.space_model.specs.declared.command.Command.{Command}
use Rattle.space_model.specs.declared.command.Command.TheVariants.{Exit}
use Rattle.space_model.specs.declared.command.Input.{Input}
use Rattle.space_model.specs.declared.command.Operand.TheVariants.{Word}
use Rattle.space_model.specs.declared.event.Event.{Event}
use Rattle.space_model.specs.declared.event.Kind.{Kind}
use Rattle.space_model.specs.declared.event.Kind.TheVariants.{Minor, Full}
use Rattle.space_model.specs.declared.object.Guard.{Guard}
use Rattle.space_model.specs.declared.object.Style.{Style}
use Rattle.space_model.specs.declared.phase.Phase.TheVariants.{Idle, Moving, Fixing}
use Rattle.space_model.specs.declared.reply.Reply.{Reply}
use Rattle.space_model.specs.declared.reply.Reply.TheVariants.{Made, Done, Pushed, Scanned, SweepCount, StatLine, Full as FullReply}
use Rattle.space_model.specs.declared.stat.Stat.{Stat}
use Rattle.space_model.specs.declared.value.Value.{Value}
use Rattle.space_model.specs.Collections.{IsCollection, Collects}
use Rattle.space_model.specs.Compaction.{IsPinned, Moves1, fixing_begun, Visits1, compaction_ended, HasNoVisit}
use Rattle.space_model.specs.CompactCommands.{moving_begun}
use Rattle.space_model.specs.Completions.{Completes}
use Rattle.space_model.specs.Counts.{CountIs}
use Rattle.space_model.specs.Given.{IsGiven, AreGiven}
use Rattle.space_model.specs.CommandTexts.{IsWritableInput}
use Rattle.space_model.specs.Grammar.{Commands}
use Rattle.space_model.specs.FullHeap.{FullAt}
use Rattle.space_model.specs.Graph.{IsChild}
use Rattle.space_model.specs.Idents.{IsIdent}
use Rattle.space_model.specs.Lawful.{Lawful, LawfulAll}
use Rattle.space_model.specs.Layout.{pool_for}
use Rattle.space_model.specs.MajorMarking.{AnswersMajor, AnswersMark, AnswersFinish}
use Rattle.space_model.specs.Markings.{StartMark, Took}
use Rattle.space_model.specs.Moments.{noted, SameMoments}
use Rattle.space_model.specs.NewCommand.{AnswersNew}
use Rattle.space_model.specs.Operands.{operand_value, input_value, named_by, word_value}
use Rattle.space_model.specs.Outputs.{Output, gone_in, moved_in}
use Rattle.space_model.specs.Reach.{Reach, IsStart, Named, VisibleReach}
use Rattle.space_model.specs.Reached.{reached_names}
use Rattle.space_model.specs.Roots.{root_value}
use Rattle.space_model.specs.Sound.{Sound, SoundMoments}
use Rattle.space_model.specs.StackCommands.{Pushes}
use Rattle.space_model.specs.Stat.{AreCounts, AnswersStat}
use Rattle.space_model.specs.State.{State, is_present, opening}
use Rattle.space_model.specs.Sweeps.{Sweep1, Sweeps, SweepAll, AnswersSweep}
use Rattle.space_model.specs.Texts.{text_of, AreSpelled}
use Rattle.space_model.specs.ToldInOrder.{AreToldInOrder}
use Rattle.space_model.specs.Verdicts.{IsVerdict}

-- what roots hold and stack words name is reached
abbrev pub ReachHasStarts : Type 0
ReachHasStarts = (s : State) (name : ℕ) → IsStart s name → Reach s name

-- a child of what is reached is reached
abbrev pub ReachIsClosed : Type 0
ReachIsClosed = (s : State) (parent name : ℕ) → Reach s parent → IsChild s.graph parent name → Reach s name

-- a set that a test decides and that has the starts, and with each name its children, has all that is reached
abbrev pub ReachIsLeast : Type 0
ReachIsLeast =
    (s : State) (test : ℕ → Bool) → ((name : ℕ) → IsStart s name → test name ≡ true) →
    ((parent name : ℕ) → test parent ≡ true → IsChild s.graph parent name → test name ≡ true) →
    (name : ℕ) → Reach s name → test name ≡ true

-- the list of the reached names has these and no others
abbrev pub ReachIsListed : Type 0
ReachIsListed = (s : State) (name : ℕ) → (is_member nat_eq (reached_names s) name ≡ true) ↔ Reach s name

-- each name is in that list once
abbrev pub ReachIsListedOnce : Type 0
ReachIsListedOnce = (s : State) → IsDistinct nat_eq (reached_names s)

-- to note what is reached in a sound state changes nothing
abbrev pub NotingIsDone : Type 0
NotingIsDone = (s : State) → Sound s → noted s ≡ s

-- to note what is reached changes nothing after a change that touches nothing on which what is noted rests
abbrev pub NotingStays : Type 0
NotingStays = (s t : State) → SameMoments s t → SoundMoments s → noted t ≡ t

-- the opening is sound, with any limit
abbrev pub OpeningIsSound : Type 0
OpeningIsSound = (limit : ℕ) → Sound (opening limit)

-- a lawful command, given what a line can give, leads from a sound state to a sound state
abbrev pub LawfulIsSound : Type 0
LawfulIsSound =
    (s t : State) (command : Command) (outputs : List Output) → IsGiven command → Lawful s command outputs t → Sound s → Sound t

-- a list of lawful commands, given what lines can give, leads from a sound state to a sound state
abbrev pub LawfulAllIsSound : Type 0
LawfulAllIsSound =
    (s t : State) (commands : List Command) (outputs : List Output) → AreGiven commands → LawfulAll s commands outputs t → Sound s → Sound t

-- the commands of an input are given what lines can give
abbrev pub InputsAreGiven : Type 0
InputsAreGiven = (bytes : List ℕ) (commands : List Command) → Commands bytes commands → AreGiven commands

-- the start of a marking leads from a sound state to a sound state
abbrev pub StartMarkIsSound : Type 0
StartMarkIsSound = (s t : State) → StartMark s t → Sound s → Sound t

-- a verdict of any kind leads from a sound state outside a compaction to a sound state
abbrev pub TookIsSound : Type 0
TookIsSound =
    (s t : State) (kind : Kind) (taken : List ℕ) → s.collector.phase ≢ Moving → s.collector.phase ≢ Fixing →
    IsVerdict s kind taken → Took s kind taken t → Sound s → Sound t

-- the sweep of a page leads from a sound state to a sound state
abbrev pub Sweep1IsSound : Type 0
Sweep1IsSound = (s t : State) (freed : List ℕ) → Sweep1 s freed t → Sound s → Sound t

-- sweeps lead from a sound state to a sound state
abbrev pub SweepsAreSound : Type 0
SweepsAreSound = (pages : ℕ) (s t : State) (freed : List ℕ) → Sweeps pages s freed t → Sound s → Sound t

-- in a sound state all pages can be swept, and nothing waits for a sweep after it
abbrev pub SweepAllEnds : Type 0
SweepAllEnds = (s : State) → Sound s → (freed : List ℕ) × (t : State) × SweepAll s freed t × (t.heap.unswept ≡ [])

-- each page that is swept waits no more, and each corpse that is freed is counted
abbrev pub SweepsAreCounted : Type 0
SweepsAreCounted =
    (pages : ℕ) (s t : State) (freed : List ℕ) → Sweeps pages s freed t →
    (length t.heap.unswept + pages ≡ length s.heap.unswept) × (t.counters.freed ≡ s.counters.freed + length freed)

-- a sound state has a `sweep` of any count
abbrev pub SweepIsThere : Type 0
SweepIsThere = (s : State) (count : ℕ) → Sound s → (freed left : ℕ) × (t : State) × AnswersSweep s count (SweepCount freed left) t

-- a sound state has a `stat`
abbrev pub StatIsThere : Type 0
StatIsThere = (s : State) → Sound s → (stat : Stat) × AnswersStat s (StatLine stat) s

-- and one alone, where no other names may be kept than those that are for certain
abbrev pub CountsAreOne : Type 0
CountsAreOne = (s : State) (stat other : Stat) → s.collector.vague ≡ 0 → AreCounts s stat → AreCounts s other → stat ≡ other

-- the beginning of the moves leads from a sound state in which nothing is under way to a sound state
abbrev pub MovingIsSound : Type 0
MovingIsSound = (s : State) → s.collector.phase ≡ Idle → Sound s → Sound (moving_begun s)

-- a move leads from a sound state in Moving to a sound state
abbrev pub MoveIsSound : Type 0
MoveIsSound = (s t : State) (name from to : ℕ) → s.collector.phase ≡ Moving → Moves1 s name from to t → Sound s → Sound t

-- the beginning of the correction of references leads from a sound state in Moving to a sound state
abbrev pub FixingIsSound : Type 0
FixingIsSound = (s : State) → s.collector.phase ≡ Moving → Sound s → Sound (fixing_begun s)

-- a visit leads from a sound state in Fixing to a sound state
abbrev pub VisitIsSound : Type 0
VisitIsSound = (s t : State) → s.collector.phase ≡ Fixing → Visits1 s t → Sound s → Sound t

-- the end of a compaction in which each name was visited leads from a sound state in Fixing to a sound state
abbrev pub CompactionEndIsSound : Type 0
CompactionEndIsSound = (s : State) → s.collector.phase ≡ Fixing → HasNoVisit s → Sound s → Sound (compaction_ended s)

-- what completes the work under way leads from a sound state to a sound state
abbrev pub CompletesIsSound : Type 0
CompletesIsSound = (s t : State) (events : List Event) → Completes s events t → Sound s → Sound t

-- what was seen when a marking started are the reached names, each once, so the length of that list is their number
abbrev pub SeenAreReached : Type 0
SeenAreReached = (s t : State) → StartMark s t → CountIs (Reach s) (length t.history.seen)

-- what is reached after a verdict of any kind was reached before it
abbrev pub VerdictsReachNoMore : Type 0
VerdictsReachNoMore =
    (s t : State) (kind : Kind) (taken : List ℕ) → IsVerdict s kind taken → Took s kind taken t → (name : ℕ) → Reach t name → Reach s name

-- what is reached in a sound state is present after a verdict of any kind
abbrev pub ReachedOutliveVerdicts : Type 0
ReachedOutliveVerdicts =
    (s t : State) (kind : Kind) (taken : List ℕ) → IsVerdict s kind taken → Took s kind taken t → Sound s →
    (name : ℕ) → Reach s name → is_present t name ≡ true

-- after a full verdict in a sound state the present names are exactly those that were reached before it
abbrev pub FullLeavesReached : Type 0
FullLeavesReached =
    (s t : State) (taken : List ℕ) → IsVerdict s Full taken → Took s Full taken t → Sound s →
    (name : ℕ) → (is_present t name ≡ true) ↔ Reach s name

-- sweeps move and take no object
abbrev pub SweepsKeepPlaces : Type 0
SweepsKeepPlaces = (pages : ℕ) (s t : State) (freed : List ℕ) → Sweeps pages s freed t → t.heap.place ≡ s.heap.place

-- sweeps change nothing of what is reached
abbrev pub SweepsKeepReach : Type 0
SweepsKeepReach = (pages : ℕ) (s t : State) (freed : List ℕ) → Sweeps pages s freed t → (name : ℕ) → Reach t name ↔ Reach s name

-- where no objects are being moved, what is reached after the work under way is completed was reached before it
abbrev pub CompletesReachNoMore : Type 0
CompletesReachNoMore =
    (s t : State) (events : List Event) → s.collector.phase ≢ Moving → Completes s events t → (name : ℕ) → Reach t name → Reach s name

-- what is reached in a sound state is present after what was under way is completed
abbrev pub ReachedOutliveCompletions : Type 0
ReachedOutliveCompletions =
    (s t : State) (events : List Event) → Completes s events t → Sound s → (name : ℕ) → Reach s name → is_present t name ≡ true

-- the number of scans of a whole collection is that of the names that were reached after what was under way was completed
abbrev pub CollectionScansReached : Type 0
CollectionScansReached =
    (s t : State) (events : List Event) (scans : ℕ) (collection : IsCollection s Full events scans t) → CountIs (Reach collection.idle) scans

-- after a whole collection in a sound state the present names are exactly those that were reached after what was under way was completed
abbrev pub FullCollectionLeavesReached : Type 0
FullCollectionLeavesReached =
    (s t : State) (events : List Event) (scans : ℕ) (collection : IsCollection s Full events scans t) → Sound s →
    (name : ℕ) → (is_present t name ≡ true) ↔ Reach collection.idle name

-- a collection of any kind changes no item of the graph, no stack word, and no root that a line can name
abbrev pub CollectionsKeepGraph : Type 0
CollectionsKeepGraph =
    (s t : State) (kind : Kind) (events : List Event) (scans : ℕ) → IsCollection s kind events scans t →
    (t.graph ≡ s.graph) × (t.stack ≡ s.stack) × ((root : List ℕ) → IsIdent root → root_value t.roots root ≡ root_value s.roots root)

-- where what is under way can be completed, a sound state has a `gc`
abbrev pub GcIsThere : Type 0
GcIsThere =
    (s idle : State) (completion : List Event) → Completes s completion idle → Sound s →
    (events : List Event) × (scans : ℕ) × (t : State) × Collects s Full events (Scanned scans) t

-- and it has a `minor`
abbrev pub MinorIsThere : Type 0
MinorIsThere =
    (s idle : State) (completion : List Event) → Completes s completion idle → Sound s →
    (events : List Event) × (scans : ℕ) × (t : State) × Collects s Minor events (Scanned scans) t

-- in a sound state in which no objects are being moved, what is under way can be completed
abbrev pub CompletionIsThere : Type 0
CompletionIsThere =
    (s : State) → s.collector.phase ≢ Moving → s.collector.phase ≢ Fixing → Sound s →
    (events : List Event) × (idle : State) × Completes s events idle

-- and it has a `major`
abbrev pub MajorIsThere : Type 0
MajorIsThere =
    (s : State) → s.collector.phase ≢ Moving → s.collector.phase ≢ Fixing → Sound s →
    (events : List Event) × (t : State) × AnswersMajor s events Done t

-- a sound state has a `mark` of any count
abbrev pub MarkIsThere : Type 0
MarkIsThere = (s : State) (count : ℕ) → Sound s → (reply : Reply) × (t : State) × AnswersMark s count reply t

-- and it has a `finish`
abbrev pub FinishIsThere : Type 0
FinishIsThere = (s : State) → Sound s → (events : List Event) × (reply : Reply) × (t : State) × AnswersFinish s events reply t

-- where `new` answers `full` in a sound state, the heap is really full for the pool of the object
abbrev pub FullIsFullAt : Type 0
FullIsFullAt =
    (s t : State) (root : List ℕ) (fields : ℕ) (guard : Guard) (style : Style) (events : List Event) →
    AnswersNew s root fields guard style events FullReply t → Sound s → FullAt t (pool_for fields)

-- where `new` answers `full` in a sound state in which no objects are being moved, nothing is present after it but what was reached before
abbrev pub FullLeavesReachedBefore : Type 0
FullLeavesReachedBefore =
    (s t : State) (root : List ℕ) (fields : ℕ) (guard : Guard) (style : Style) (events : List Event) →
    AnswersNew s root fields guard style events FullReply t → Sound s → s.collector.phase ≢ Moving →
    (name : ℕ) → is_present t name ≡ true → Reach s name

-- where `new` makes no object, no item, no stack word, and no root that a line can name is changed
abbrev pub NewMakesNone : Type 0
NewMakesNone =
    (s t : State) (root : List ℕ) (fields : ℕ) (guard : Guard) (style : Style) (events : List Event) (reply : Reply) →
    AnswersNew s root fields guard style events reply t → ((name address : ℕ) → reply ≢ Made name address) →
    (t.graph ≡ s.graph) × (t.stack ≡ s.stack) × ((other : List ℕ) → IsIdent other → root_value t.roots other ≡ root_value s.roots other)

-- what is reached in a sound state is present
abbrev pub ReachedArePresent : Type 0
ReachedArePresent = (s : State) → Sound s → (name : ℕ) → Reach s name → is_present s name ≡ true

-- what a path leads to from a root that a line can name, or from a stack word, is reached
abbrev pub VisibleIsReached : Type 0
VisibleIsReached = (s : State) (name : ℕ) → VisibleReach s name → Reach s name

-- in a sound state a path leads to what is reached from a root that a line can name, or from a stack word: weak maps keep nothing
abbrev pub ReachedIsVisible : Type 0
ReachedIsVisible = (s : State) → Sound s → (name : ℕ) → Reach s name → VisibleReach s name

-- what a path leads to from a root that a line can name, or from a stack word, in a sound state, is present after any lawful command but
-- `exit`
abbrev pub ReachedStay : Type 0
ReachedStay =
    (s t : State) (command : Command) (outputs : List Output) → command ≢ Exit → Lawful s command outputs t → Sound s →
    (name : ℕ) → VisibleReach s name → is_present t name ≡ true

-- what is present before and after a lawful command, in a sound state, stands where it stood, unless an event tells that it was moved
abbrev pub PlacesStay : Type 0
PlacesStay =
    (s t : State) (command : Command) (outputs : List Output) → Lawful s command outputs t → Sound s →
    (name : ℕ) → is_present s name ≡ true → is_present t name ≡ true → is_member nat_eq (moved_in outputs) name ≡ false →
    get t.heap.place name ≡ get s.heap.place name

-- no event of a lawful command tells that a name was moved that is pinned, in a sound state, before the command
abbrev pub PinnedStay : Type 0
PinnedStay =
    (s t : State) (command : Command) (outputs : List Output) → Lawful s command outputs t → Sound s →
    (name : ℕ) → IsPinned s name → is_member nat_eq (moved_in outputs) name ≡ false

-- no lawful command changes how many pages there may be
abbrev pub LimitStays : Type 0
LimitStays = (s t : State) (command : Command) (outputs : List Output) → Lawful s command outputs t → t.heap.limit ≡ s.heap.limit

-- a word that is on the stack before and after a lawful command, and has a value, in a sound state, has it after the command too
abbrev pub WordsKeepValues : Type 0
WordsKeepValues =
    (s t : State) (command : Command) (outputs : List Output) → IsGiven command → Lawful s command outputs t → Sound s →
    (word : ℕ) (value : Value) → is_member nat_eq s.stack word ≡ true → is_member nat_eq t.stack word ≡ true →
    word_value s.heap.place word ≡ Some value → word_value t.heap.place word ≡ Some value

-- a name that was allocated and isn't present before a lawful command isn't present after it
abbrev pub GoneStayGone : Type 0
GoneStayGone =
    (s t : State) (command : Command) (outputs : List Output) → Lawful s command outputs t →
    (name : ℕ) → name ≤ length s.graph → is_present s name ≡ false → is_present t name ≡ false

-- the objects that a lawful command tells to be gone are exactly those that are present before it and not after it
abbrev pub GoneAreTold : Type 0
GoneAreTold =
    (s t : State) (command : Command) (outputs : List Output) → Lawful s command outputs t → Sound s →
    (name : ℕ) → (is_member nat_eq (gone_in outputs) name ≡ true) ↔ ((is_present s name ≡ true) × (is_present t name ≡ false))

-- each verdict tells its names in ascending order of the addresses at which they stood, and then how many they are
abbrev pub GoneAreToldInOrder : Type 0
GoneAreToldInOrder =
    (s t : State) (command : Command) (outputs : List Output) → Lawful s command outputs t → Sound s → AreToldInOrder s.heap.place [] outputs

-- no command tells a name twice to be gone
abbrev pub GoneAreToldOnce : Type 0
GoneAreToldOnce =
    (s t : State) (command : Command) (outputs : List Output) → Lawful s command outputs t → Sound s → IsDistinct nat_eq (gone_in outputs)

-- after a push in a sound state the top of the stack has the value that was pushed
abbrev pub PushedIsTop : Type 0
PushedIsTop =
    (s t : State) (input : Input) (word : ℕ) (names : Option ℕ) → IsWritableInput input → Sound s → Pushes s input (Pushed word names) t →
    operand_value t (Word 0) ≡ input_value s input

-- in a sound state the name that is told of a word, and is its value, is the one that stands at that address
abbrev pub NamedIsTold : Type 0
NamedIsTold = (s : State) (word name : ℕ) → Sound s → (named_by s.heap.place word ≡ Some name) ↔ Named s word name

-- different outputs, whose numbers in base 10 are below 2 ^ 64, have different texts
abbrev pub TextsDiffer : Type 0
TextsDiffer = (outputs others : List Output) → AreSpelled outputs → AreSpelled others → text_of outputs ≡ text_of others → outputs ≡ others
