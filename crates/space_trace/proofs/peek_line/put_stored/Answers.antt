use Rattle.std.proofs.Common.{arith}
use Rattle.space_trace.proofs.StoredLemmas.{stored_more}
use Rattle.space_trace.proofs.peek_line.put_stored.Goals as goal

pub loop-word-preserved : goal.loop-word-preserved
loop-word-preserved c = record {
  items = stored_more c.args.words.now c.loop-word.word-index _ _ _ _ c.loop-word-test.true c.loop-word.invariant.items c.put.ensures.items
      c.put_hex.ensures.items;
  len = omega (arith, c.loop-word.invariant.len, c.put.ensures.len, c.put_hex.ensures.len);
}
