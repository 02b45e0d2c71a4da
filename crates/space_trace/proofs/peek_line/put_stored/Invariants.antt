use Rattle.std.proofs.Common.{◌≡◌, ◌≤◌, ◌+◌, ◌*◌, ◌++◌, take}
use Rattle.arrayvec.specs.ArrayVec.{array_vec_len}
use Rattle.space_model.specs.Spelling.{text_of_pieces}
use Rattle.space_model.specs.Texts.{stored_pieces}
use Rattle.space_trace.proofs.peek_line.put_stored.Given as goal

-- the words so far
abbrev pub invariant-loop-word : goal.invariant-loop-word
invariant-loop-word l = record {
  items : l.line.items ≡ l.fn.line.items ++ text_of_pieces (stored_pieces (take l.word-index l.words));
  len : array_vec_len l.line ≤ array_vec_len l.fn.line + 19 * l.word-index;
}
