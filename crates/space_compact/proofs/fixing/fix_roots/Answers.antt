use Rattle.std.proofs.Common.{ap, ◌∙◌, arith}
use Rattle.space_roots.specs.WordRoots.{with_word_at}
use Rattle.space_compact.proofs.Visiting.{roots_more}
use Rattle.space_compact.proofs.fixing.fix_roots.Goals as goal

pub roots-preserved : goal.roots-preserved
roots-preserved c =
    let v = c.args.heap.now in
    record {
      words = c.put_at.ensures.written
          ∙ ap (with_word_at c.roots.roots c.roots.k) c.resolve-word.ensures
          ∙ roots_more v c.args.roots.now c.roots.roots c.roots.k c.at.result
          (let t = c.roots-test.true in let n = c.len-k-end.ensures.len in omega arith)
          c.roots.invariant.words c.at.ensures;
      len = c.put_at.ensures.len ∙ c.roots.invariant.len;
    }
