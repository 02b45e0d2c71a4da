-- The commands of a compaction: `compact` begins it after a whole collection, `move` makes some of its moves, and `fix` corrects some of the
-- references, or ends it. That a compaction is preceded by a collection is CRuby's (`GC.compact`, 3.3); that it goes on over commands, and how
-- these tell that nothing is left to do, is this project's own.
use Rattle.std.specs.Prelude.{◌≡◌, ◌≢◌, ◌⊎◌, ◌↔◌, ℕ, ◌≤◌, ◌<◌, Bool, true, false, List, []}
use Rattle.space_model.specs.declared.event.Event.{Event}
use Rattle.space_model.specs.declared.event.Kind.TheVariants.{Full}
use Rattle.space_model.specs.declared.phase.Phase.TheVariants.{Moving, Fixing}
use Rattle.space_model.specs.declared.reply.Refusal.TheVariants.{NotCompacting}
use Rattle.space_model.specs.declared.reply.Reply.{Reply}
use Rattle.space_model.specs.declared.reply.Reply.TheVariants.{Scanned, MoveCount, FixCount, Refused}
use Rattle.space_model.specs.Collections.{IsCollection}
use Rattle.space_model.specs.Compaction.{Moves, IsPacked, fixing_begun, Visits, HasNoVisit, compaction_ended}
use Rattle.space_model.specs.State.{State}
use Rattle.space_model.specs.Sweeps.{SweepAll}

-- objects may move from now on
abbrev pub moving_begun : State → State
moving_begun s = record s { collector = record s.collector { phase = Moving } }

-- a whole collection, the sweep of all pages, and then objects may move
pub record BeginsCompaction (s : State) (events : List Event) (scans : ℕ) (t : State) : Type 0 where
  pub collected : State
  pub collects : IsCollection s Full events scans collected
  pub swept : State
  pub freed : List ℕ
  pub sweeps : SweepAll collected freed swept
  pub begins : t ≡ moving_begun swept

-- `compact`: it tells how many scans its marking did
abbrev pub AnswersCompact : State → List Event → Reply → State → Type 0
AnswersCompact s events (Scanned scans) t = BeginsCompaction s events scans t
AnswersCompact s events _ t = ⊥

-- so many moves are made, or fewer where the space is packed before; and it is told whether the space is packed then
pub record MakesMoves (s : State) (count : ℕ) (events : List Event) (moves : ℕ) (done : Bool) (t : State) : Type 0 where
  pub moving : s.collector.phase ≡ Moving
  pub makes : Moves moves s events t
  pub at_most : moves ≤ count
  pub all : moves < count → IsPacked t
  pub done_is : (done ≡ true) ↔ IsPacked t

-- `move`: some moves of the compaction that is under way; where no objects may move, a refusal, and nothing changes
abbrev pub AnswersMove : State → ℕ → List Event → Reply → State → Type 0
AnswersMove s count events (MoveCount moves done) t = MakesMoves s count events moves done t
AnswersMove s count events (Refused why) t = (s.collector.phase ≢ Moving) × (why ≡ NotCompacting) × (events ≡ []) × (t ≡ s)
AnswersMove s count events _ t = ⊥

-- the state from which references are corrected: where objects may still move the correction begins first
abbrev pub BeginsFixing : State → State → Type 0
BeginsFixing s begun = ((s.collector.phase ≡ Moving) × (begun ≡ fixing_begun s)) ⊎ ((s.collector.phase ≡ Fixing) × (begun ≡ s))

-- the compaction ends exactly where each name was visited
abbrev pub EndsWhereDone : Bool → State → State → Type 0
EndsWhereDone true last t = HasNoVisit last × (t ≡ compaction_ended last)
EndsWhereDone false last t = (HasNoVisit last → ⊥) × (t ≡ last)

-- so many names are visited, or fewer where none is left before; and where none is left then, the compaction ends
pub record MakesVisits (s : State) (count visits : ℕ) (done : Bool) (t : State) : Type 0 where
  pub begun : State
  pub begins : BeginsFixing s begun
  pub last : State
  pub makes : Visits visits begun last
  pub at_most : visits ≤ count
  pub all : visits < count → HasNoVisit last
  pub ends : EndsWhereDone done last t

-- `fix`: some visits of the compaction that is under way; where none is, a refusal, and nothing changes
abbrev pub AnswersFix : State → ℕ → Reply → State → Type 0
AnswersFix s count (FixCount visits done) t = MakesVisits s count visits done t
AnswersFix s count (Refused why) t = (s.collector.phase ≢ Moving) × (s.collector.phase ≢ Fixing) × (why ≡ NotCompacting) × (t ≡ s)
AnswersFix s count _ t = ⊥
