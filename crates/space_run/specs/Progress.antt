-- How far a replay has come.
use Rattle.std.specs.Prelude.{◌≡◌, ℕ, List, length, Option, IsTrue, false}
use Rattle.std.specs.Io.KnownBytes.{Appends, Consumes, IsAtEnd}
use Rattle.space_io.specs.Causes.{TellsEnd}
use Rattle.space_io.specs.Reading.{Reading}
use Rattle.space_model.specs.Outputs.{Output}
use Rattle.space_model.specs.Texts.{text_of}
use Rattle.space_engine.specs.Stands.{Stands}
use Rattle.space_engine.specs.Views.{SpaceView}
use Rattle.space_run.specs.Replays.{AreAnswered, AreFirstLines}

-- each line given so far is answered, the answers were written, and the space stands for the state after them
pub record HasReplayed (limit : ℕ) (rest_before rest_after : Option (List ℕ)) (ends_before ends_after : ℕ) (written_before written_after : Option (List ℕ))
    (reading : Reading) (view : SpaceView) : Type 0 where
  pub bytes : List ℕ
  pub taken : Consumes rest_before rest_after bytes
  pub lines : List (List ℕ)
  pub first : AreFirstLines reading.ended bytes lines reading.pending
  pub numbered : reading.number ≡ length lines
  pub at_end : IsTrue reading.ended → IsAtEnd rest_after
  pub told : TellsEnd ends_before ends_after false reading.ended
  pub counted : reading.taken ≡ length bytes
  pub outputs : List Output
  pub answered : AreAnswered limit lines outputs
  pub stands : Stands view answered.state
  pub written : Appends written_before written_after (text_of outputs)
