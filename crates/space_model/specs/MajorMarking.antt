-- A major marking, which goes on over commands: `major` begins it, `mark` makes some of its scans, and `finish` ends it. Incremental marking
-- is CRuby's (3.3; Sasada 2019); that `finish` is one command, and what the numbers of scans are bounded by, is this project's own.
use Rattle.std.specs.Prelude.{◌≡◌, ◌≢◌, ℕ, ◌+◌, ◌≤◌, ◌<◌, true, false, List, [], length, nat_eq}
use Rattle.std.specs.Set.{is_member}
use Rattle.space_model.specs.declared.event.Event.{Event}
use Rattle.space_model.specs.declared.event.Kind.TheVariants.{Major}
use Rattle.space_model.specs.declared.phase.Phase.TheVariants.{Marking}
use Rattle.space_model.specs.declared.reply.Refusal.TheVariants.{NotMarking}
use Rattle.space_model.specs.declared.reply.Reply.{Reply}
use Rattle.space_model.specs.declared.reply.Reply.TheVariants.{Done, Scanned, Marked, Refused}
use Rattle.space_model.specs.Ages.{is_protected}
use Rattle.space_model.specs.Completions.{Completes}
use Rattle.space_model.specs.Counts.{CountIs}
use Rattle.space_model.specs.Graph.{IsChild}
use Rattle.space_model.specs.Markings.{StartMark, GivesVerdict}
use Rattle.space_model.specs.Reach.{IsReached}
use Rattle.space_model.specs.State.{State, is_present}

-- a marking that was started goes on over commands. Until its verdict no name is kept for certain, and others may be kept
abbrev pub marking_begun : State → State
marking_begun s = record s { collector = record s.collector { phase = Marking; kept = []; vague = 1 } }

-- what was under way is completed, and a major marking begins
pub record BeginsMarking (s : State) (events : List Event) (t : State) : Type 0 where
  pub idle : State
  pub completes : Completes s events idle
  pub started : State
  pub starts : StartMark idle started
  pub begins : t ≡ marking_begun started

-- `major`: a major marking begins; the events are those of what is completed first
abbrev pub AnswersMajor : State → List Event → Reply → State → Type 0
AnswersMajor s events Done t = BeginsMarking s events t
AnswersMajor s events _ t = ⊥

-- a field of the first name, which is present and which the write barrier protects, holds the second
abbrev pub IsFirmLink : State → ℕ → ℕ → Type 0
IsFirmLink s parent name = (is_present s parent ≡ true) × (is_protected s.graph parent ≡ true) × IsChild s.graph parent name

-- a path of children leads to the name from what the last marking began with, on which each name but the last is present and protected
abbrev pub IsFirm : State → ℕ → Type 0
IsFirm s name = IsReached (IsFirmLink s) (λ first. is_member nat_eq s.history.began first ≡ true) name

-- so many scans more were told
abbrev pub scans_told : State → ℕ → State
scans_told s scans = record s { history = record s.history { scanned = s.history.scanned + scans } }

-- some scans of the marking that is under way were made, and so many names are grey: they are marked and wait for their scan
pub record MakesScans (s : State) (count scans grey : ℕ) (t : State) : Type 0 where
  pub marking : s.collector.phase ≡ Marking
  -- no more than were asked for; and fewer only where none is left
  pub at_most : scans ≤ count
  pub all : scans < count → grey ≡ 0
  pub after : t ≡ scans_told s scans
  -- what was scanned and what waits was reached at some moment since the marking began
  pub within : t.history.scanned + grey ≤ length s.history.seen
  -- and each firm name was scanned where none waits
  pub firm : ℕ
  pub firm_are : CountIs (IsFirm s) firm
  pub at_least : grey ≡ 0 → firm ≤ t.history.scanned

-- `mark`: some scans of the major marking that is under way, at most so many; where none is, a refusal, and nothing changes
abbrev pub AnswersMark : State → ℕ → Reply → State → Type 0
AnswersMark s count (Marked scans grey) t = MakesScans s count scans grey t
AnswersMark s count (Refused why) t = (s.collector.phase ≢ Marking) × (why ≡ NotMarking) × (t ≡ s)
AnswersMark s count _ t = ⊥

-- the name is present, and the verdict doesn't take it
abbrev pub IsSurvivor : State → List ℕ → ℕ → Type 0
IsSurvivor s taken name = (is_present s name ≡ true) × (is_member nat_eq taken name ≡ false)

-- the survivor may be scanned again: the write barrier doesn't protect it, so it may have got children unnoticed
abbrev pub IsScannedAgain : State → List ℕ → ℕ → Type 0
IsScannedAgain s taken name = IsSurvivor s taken name × (is_protected s.graph name ≡ false)

-- the number of scans that end a marking: with those that were told since it began each survivor is scanned, and besides them only unprotected
-- survivors are scanned again. `s` is the state before the verdict, which takes these names
pub record AreLastScans (s : State) (taken : List ℕ) (scans : ℕ) : Type 0 where
  pub survivors : ℕ
  pub survivors_are : CountIs (IsSurvivor s taken) survivors
  pub again : ℕ
  pub again_are : CountIs (IsScannedAgain s taken) again
  pub at_least : survivors ≤ scans + s.history.scanned
  pub at_most : scans + s.history.scanned ≤ survivors + again

-- a major verdict ends the marking that is under way
pub record EndsMarking (s : State) (events : List Event) (scans : ℕ) (t : State) : Type 0 where
  pub marking : s.collector.phase ≡ Marking
  pub taken : List ℕ
  pub verdict : GivesVerdict s Major taken events t
  pub scans_are : AreLastScans s taken scans

-- `finish`: the major marking that is under way ends by its verdict; where none is, a refusal, and nothing changes
abbrev pub AnswersFinish : State → List Event → Reply → State → Type 0
AnswersFinish s events (Scanned scans) t = EndsMarking s events scans t
AnswersFinish s events (Refused why) t = (s.collector.phase ≢ Marking) × (why ≡ NotMarking) × (events ≡ []) × (t ≡ s)
AnswersFinish s events _ t = ⊥
