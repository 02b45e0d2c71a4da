-- What a replay has done, by how it ends.
use Rattle.std.specs.Prelude.{◌≡◌, ◌⊎◌, ◌+◌, ◌<◌, ◌≤◌, ◌^◌, ℕ, Bool, false, List, [], ◌∷◌, ◌++◌, length, map, codes, Option, Some, IsTrue, String}
use Rattle.std.specs.String.{string_bytes}
use Rattle.std.specs.declared.alloc.Global.{Global}
use Rattle.std.specs.Io.KnownBytes.{Appends, Consumes, IsAtEnd}
use Rattle.space_io.specs.Causes.{Rose, TellsEnd}
use Rattle.space_io.specs.Reading.{IsWholeLine}
use Rattle.space_io.specs.Sinks.{AppendsPrefix}
use Rattle.space_model.specs.declared.command.Command.{Command}
use Rattle.space_model.specs.Grammar.{Commands, AreCommands, IsReading, IsNumber}
use Rattle.space_model.specs.Lawful.{LawfulAll}
use Rattle.space_model.specs.Lines.{lines_of, HasNoLf, StartsTooLong, most_line_bytes}
use Rattle.space_model.specs.Outputs.{Output}
use Rattle.space_model.specs.State.{State, opening}
use Rattle.space_model.specs.Texts.{text_of, AreSpelled, line_of_pieces, malformed_pieces}

-- the texts of the words are those of a replay with at most so many pages: 256, or the number behind `--pages`
abbrev pub IsReplayText : List (List ℕ) → ℕ → Type 0
IsReplayText texts limit =
    ((texts ≡ codes "replay" ∷ []) × (limit ≡ 256))
    ⊎ ((digits : List ℕ) × (texts ≡ codes "replay" ∷ codes "--pages" ∷ digits ∷ []) × IsNumber digits limit × (1 ≤ limit) × (limit ≤ 4096))

-- the same of the words themselves
abbrev pub IsReplay : List (String Global) → ℕ → Type 0
IsReplay words limit = IsReplayText (map string_bytes words) limit

-- each of the lines is a command or blank, and the outputs are lawful for exactly these commands, from the opening on
pub record AreAnswered (limit : ℕ) (lines : List (List ℕ)) (outputs : List Output) : Type 0 where
  pub commands : List Command
  pub read : AreCommands lines commands
  pub state : State
  pub lawful : LawfulAll (opening limit) commands outputs state
  -- so the text of the outputs is that of these and no others
  pub spelled : AreSpelled outputs

-- The source was read to its end, before as many bytes were taken as may be. Each line of these bytes is answered, and the bytes
-- written are the text of the answers.
pub record Replays (limit : ℕ) (rest_before rest_after written_before written_after : Option (List ℕ)) : Type 0 where
  pub bytes : List ℕ
  pub taken : Consumes rest_before rest_after bytes
  pub few : length bytes < 2 ^ 32
  pub at_end : IsAtEnd rest_after
  pub outputs : List Output
  pub answered : AreAnswered limit (lines_of bytes) outputs
  pub written : Appends written_before written_after (text_of outputs)

-- the line is in no form
abbrev pub IsMalformed : List ℕ → Type 0
IsMalformed line = (found : Option Command) → IsReading line found → ⊥

-- the line is malformed or too long
abbrev pub IsBad : List ℕ → Type 0
IsBad line = IsMalformed line ⊎ (most_line_bytes < length line)

-- whatever comes after the bytes, or nothing where the source told its end, their first lines are these, and then come those of the rest
abbrev pub AreFirstLines : Bool → List ℕ → List (List ℕ) → List ℕ → Type 0
AreFirstLines ended bytes lines rest = (more : List ℕ) → (IsTrue ended → more ≡ []) → lines_of (bytes ++ more) ≡ lines ++ lines_of (rest ++ more)

-- a malformed line was taken whole, its LF too or the end behind it, and stands at the front of the bytes
pub record StartsMalformed (ended : Bool) (bytes : List ℕ) : Type 0 where
  pub line : List ℕ
  pub rest : List ℕ
  pub whole : IsWholeLine ended bytes line rest
  pub malformed : IsMalformed line

-- at the front of the bytes stands a malformed line that was taken whole, or more of a line than it may have
abbrev pub StartsBad : Bool → List ℕ → Type 0
StartsBad ended bytes = StartsMalformed ended bytes ⊎ StartsTooLong bytes

-- these lines are answered, and then it was written that the next one is malformed
pub record TellsMalformed (limit : ℕ) (lines : List (List ℕ)) (written_before written_after : Option (List ℕ)) : Type 0 where
  pub outputs : List Output
  pub answered : AreAnswered limit lines outputs
  pub written : Appends written_before written_after (text_of outputs ++ line_of_pieces (malformed_pieces (length lines + 1)))

-- Of the bytes taken the next line is malformed or too long. All lines before it are answered, and that it is malformed is written last. The
-- counts are those of the ends that the source told.
pub record StopsAtLine (limit : ℕ) (rest_before rest_after : Option (List ℕ)) (ends_before ends_after : ℕ)
    (written_before written_after : Option (List ℕ)) : Type 0 where
  pub bytes : List ℕ
  pub taken : Consumes rest_before rest_after bytes
  pub few : length bytes ≤ 2 ^ 32
  pub ended : Bool
  pub at_end : IsTrue ended → IsAtEnd rest_after
  pub told : TellsEnd ends_before ends_after false ended
  pub lines : List (List ℕ)
  pub next : List ℕ
  pub first : AreFirstLines ended bytes lines next
  pub bad : StartsBad ended next
  pub tells : TellsMalformed limit lines written_before written_after

-- the bytes taken are whole lines, each of which is answered, and then the start of a line, without an LF and not too long
pub record IsCutOff (limit : ℕ) (rest_before rest_after written_before written_after : Option (List ℕ)) (bytes : List ℕ) : Type 0 where
  pub taken : Consumes rest_before rest_after bytes
  pub lines : List (List ℕ)
  pub begun : List ℕ
  pub first : AreFirstLines false bytes lines begun
  pub no_lf : HasNoLf begun
  pub short : length begun ≤ most_line_bytes
  pub outputs : List Output
  pub answered : AreAnswered limit lines outputs
  pub written : Appends written_before written_after (text_of outputs)

-- a read failed before as many bytes were taken as may be
pub record HasFailedRead (limit : ℕ) (rest_before rest_after written_before written_after : Option (List ℕ)) : Type 0 where
  pub bytes : List ℕ
  pub few : length bytes < 2 ^ 32
  pub cut_off : IsCutOff limit rest_before rest_after written_before written_after bytes

-- as many bytes were taken as may be
pub record HasReachedLimit (limit : ℕ) (rest_before rest_after written_before written_after : Option (List ℕ)) : Type 0 where
  pub bytes : List ℕ
  pub many : length bytes ≡ 2 ^ 32
  pub cut_off : IsCutOff limit rest_before rest_after written_before written_after bytes

-- what is written after the answers: nothing more; or that the next line is malformed, where it is so or is too long
abbrev pub IsEnding : List (List ℕ) → Bool → List ℕ → List ℕ → Type 0
IsEnding lines ended next ending =
    (ending ≡ [])
    ⊎ ((ending ≡ line_of_pieces (malformed_pieces (length lines + 1))) × StartsBad ended next)

-- A write failed. The first lines of the bytes taken are answered, and a prefix was written of the text of the answers and of the ending.
pub record HasFailedWrite (limit : ℕ) (rest_before rest_after : Option (List ℕ)) (ends_before ends_after : ℕ)
    (written_before written_after : Option (List ℕ)) : Type 0 where
  pub bytes : List ℕ
  pub taken : Consumes rest_before rest_after bytes
  pub few : length bytes ≤ 2 ^ 32
  pub ended : Bool
  pub at_end : IsTrue ended → IsAtEnd rest_after
  pub told : TellsEnd ends_before ends_after false ended
  pub lines : List (List ℕ)
  pub next : List ℕ
  pub first : AreFirstLines ended bytes lines next
  pub outputs : List Output
  pub answered : AreAnswered limit lines outputs
  pub ending : List ℕ
  pub ending_is : IsEnding lines ended next ending
  pub prefix : AppendsPrefix written_before written_after (text_of outputs ++ ending)

-- the source tells its bytes, each line of which is a command or blank, and they are fewer than may be taken
pub record IsWholeInput (rest_before : Option (List ℕ)) : Type 0 where
  pub bytes : List ℕ
  pub told : rest_before ≡ Some bytes
  pub commands : List Command
  pub read : Commands bytes commands
  pub few : length bytes < 2 ^ 32

-- the source tells its bytes, which are fewer than may be taken; the lines come first, each a command or blank, and then one that is malformed or too long
pub record IsBadInput (rest_before : Option (List ℕ)) (lines : List (List ℕ)) : Type 0 where
  pub bytes : List ℕ
  pub told : rest_before ≡ Some bytes
  pub few : length bytes < 2 ^ 32
  pub commands : List Command
  pub read : AreCommands lines commands
  pub line : List ℕ
  pub others : List (List ℕ)
  pub cut : lines_of bytes ≡ lines ++ line ∷ others
  pub bad : IsBad line

-- neither count of faults rose, or stands at its last value
pub record IsCalm (source_before source_after sink_before sink_after : ℕ) : Type 0 where
  pub source : Rose source_before source_after → ⊥
  pub sink : Rose sink_before sink_after → ⊥
