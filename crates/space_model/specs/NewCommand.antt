-- What `new` tries, one stage after another, and what it replies. The stages and their order are this project's own.
use Rattle.std.specs.Prelude.{◌≡◌, ◌≢◌, ◌⊎◌, ℕ, ◌+◌, ◌≤◌, ◌<◌, zero, suc, List, [], ◌∷◌, ◌++◌, length, None}
use Rattle.space_model.specs.declared.event.Event.{Event}
use Rattle.space_model.specs.declared.event.Kind.TheVariants.{Full as FullKind}
use Rattle.space_model.specs.declared.object.Guard.{Guard}
use Rattle.space_model.specs.declared.object.Style.{Style}
use Rattle.space_model.specs.declared.reply.Refusal.TheVariants.{TooLarge}
use Rattle.space_model.specs.declared.reply.Reply.{Reply}
use Rattle.space_model.specs.declared.reply.Reply.TheVariants.{Made, Full, NoMemory, Refused}
use Rattle.space_model.specs.declared.phase.Phase.TheVariants.{Moving, Fixing}
use Rattle.space_model.specs.Collections.{IsCollection}
use Rattle.space_model.specs.Completions.{Completes}
use Rattle.space_model.specs.Layout.{most_fields, pool_for, slot_address}
use Rattle.space_model.specs.Pieces.{Born}
use Rattle.space_model.specs.Places.{IsNewAt, HasNoFreeAddress, HasNoSpare, IsFreshPage}
use Rattle.space_model.specs.Roots.{root_value}
use Rattle.space_model.specs.State.{State}
use Rattle.space_model.specs.Sweeps.{Sweep1}

-- a stage: either it finds an address for the object, or it leaves a state from which the next stage goes on
pub data Stage : Type 0 where
  -- the least address that is free for the pool
  FreeAddress : Stage
  -- the same, after pages that wait were swept, one after another, until one has a free slot
  WaitingPages : Stage
  -- the same, after a compaction that was under way was completed: until then no page is taken
  CompletedCompaction : Stage
  -- the first address of the lowest spare page, or of a new page where none is spare
  FreshPage : Stage
  -- a whole collection, while the root still holds what it held
  Collection : Stage

-- the stages before a page is taken
abbrev pub stages_before_page : List Stage
stages_before_page = FreeAddress ∷ WaitingPages ∷ CompletedCompaction ∷ []

-- all stages, in their order: after the collection the others are tried again
abbrev pub all_stages : List Stage
all_stages = stages_before_page ++ FreshPage ∷ Collection ∷ FreeAddress ∷ WaitingPages ∷ FreshPage ∷ []

-- so many pages that wait were swept, each since no address was free for the pool
abbrev pub SweepsInNeed : ℕ → State → ℕ → State → Type 0
SweepsInNeed zero s pool t = t ≡ s
SweepsInNeed (suc pages) s pool t =
    HasNoFreeAddress s pool × (freed : List ℕ) × (mid : State) × Sweep1 s freed mid × SweepsInNeed pages mid pool t

-- a compaction is under way
abbrev pub IsCompacting : State → Type 0
IsCompacting s = (s.collector.phase ≡ Moving) ⊎ (s.collector.phase ≡ Fixing)

-- the stage finds this address for an object of the pool; its events, and the state that it leaves
abbrev pub Finds : Stage → State → ℕ → List Event → State → ℕ → Type 0
Finds FreeAddress s pool events t address = (events ≡ []) × (t ≡ s) × IsNewAt t pool address
Finds WaitingPages s pool events t address = (events ≡ []) × (pages : ℕ) × SweepsInNeed pages s pool t × IsNewAt t pool address
Finds CompletedCompaction s pool events t address = IsCompacting s × Completes s events t × IsNewAt t pool address
Finds FreshPage s pool events t address = (events ≡ []) × (t ≡ s) × (page : ℕ) × IsFreshPage t page × (address ≡ slot_address page pool 0)
Finds Collection s pool events t address = ⊥

-- where a compaction is under way it is completed; else nothing changes
abbrev pub CompletesCompaction : State → List Event → State → Type 0
CompletesCompaction s events t = (IsCompacting s × Completes s events t) ⊎ ((IsCompacting s → ⊥) × (events ≡ []) × (t ≡ s))

-- the stage finds none; its events, and the state that it leaves
abbrev pub Passes : Stage → State → ℕ → List Event → State → Type 0
Passes FreeAddress s pool events t = HasNoFreeAddress s pool × (events ≡ []) × (t ≡ s)
Passes WaitingPages s pool events t =
    (pages : ℕ) × SweepsInNeed pages s pool t × HasNoFreeAddress t pool × (t.heap.unswept ≡ []) × (events ≡ [])
Passes CompletedCompaction s pool events t = CompletesCompaction s events t × HasNoFreeAddress t pool
Passes FreshPage s pool events t = HasNoSpare s × (length s.heap.pages ≡ s.heap.limit) × (events ≡ []) × (t ≡ s)
Passes Collection s pool events t = (scans : ℕ) × IsCollection s FullKind events scans t

-- the stages follow one another, and none finds an address
abbrev pub PassesAll : List Stage → State → ℕ → List Event → State → Type 0
PassesAll [] s pool events t = (events ≡ []) × (t ≡ s)
PassesAll (stage ∷ stages) s pool events t =
    (now : List Event) × (later : List Event) × (mid : State) × (events ≡ now ++ later) × Passes stage s pool now mid × PassesAll stages mid pool later t

-- some stage finds the address, and leaves the state `ready`
pub record FindsPlace (s : State) (pool : ℕ) (events : List Event) (ready : State) (address : ℕ) : Type 0 where
  pub before : List Stage
  pub stage : Stage
  pub after : List Stage
  pub order : all_stages ≡ before ++ stage ∷ after
  -- the state that the stages before it left, and their events
  pub tried : State
  pub told : List Event
  pub passed : PassesAll before s pool told tried
  pub finding : List Event
  pub found : Finds stage tried pool finding ready address
  pub events_are : events ≡ told ++ finding

-- an object was made, and stands at the address
pub record Makes (s : State) (root : List ℕ) (fields : ℕ) (guard : Guard) (style : Style) (events : List Event) (name address : ℕ) (t : State) : Type 0 where
  pub few : fields ≤ most_fields
  pub next : name ≡ length s.graph + 1
  pub ready : State
  pub place : FindsPlace s (pool_for fields) events ready address
  pub made : Born ready root fields guard style address t

-- no stage found an address, and there are as many pages as may be: no object was made
pub record MakesNone (s : State) (fields : ℕ) (events : List Event) (t : State) : Type 0 where
  pub few : fields ≤ most_fields
  pub passed : PassesAll all_stages s (pool_for fields) events t
  pub limit : length t.heap.pages ≡ t.heap.limit

-- a new page is needed: no page is spare, and there are fewer pages than may be
pub record NeedsPage (s : State) : Type 0 where
  pub none_spare : HasNoSpare s
  pub below : length s.heap.pages < s.heap.limit

-- memory was lacking for the root, which is new. Nothing was done before
pub record LacksRoot (s : State) (root : List ℕ) (events : List Event) (t : State) : Type 0 where
  pub absent : root_value s.roots root ≡ None
  pub silent : events ≡ []
  pub unchanged : t ≡ s

-- memory was lacking for a new page. The stages before it were done, and nothing else: a collection comes only where no page may be added
pub record LacksPage (s : State) (fields : ℕ) (events : List Event) (t : State) : Type 0 where
  pub passed : PassesAll stages_before_page s (pool_for fields) events t
  pub needs : NeedsPage t

-- the events and the reply of `new`. A refusal leaves the state as it was
abbrev pub AnswersNew : State → List ℕ → ℕ → Guard → Style → List Event → Reply → State → Type 0
AnswersNew s root fields guard style events (Made name address) t = Makes s root fields guard style events name address t
AnswersNew s root fields guard style events Full t = MakesNone s fields events t
AnswersNew s root fields guard style events NoMemory t = (fields ≤ most_fields) × (LacksRoot s root events t ⊎ LacksPage s fields events t)
AnswersNew s root fields guard style events (Refused why) t = (most_fields < fields) × (why ≡ TooLarge) × (events ≡ []) × (t ≡ s)
AnswersNew s root fields guard style events _ t = ⊥
