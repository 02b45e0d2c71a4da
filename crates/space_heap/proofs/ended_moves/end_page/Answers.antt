use Rattle.std.proofs.Common.{◌≡◌, ℕ, false, ◌∙◌, sym, Option, None, Some, refl}
use Rattle.std.specs.Prelude.{is_some}
use Rattle.space_heap.proofs.updates.EndedPages.{ended_spare}
use Rattle.space_heap.proofs.ended_moves.end_page.Goals as goal

none_of : (o : Option ℕ) → is_some o ≡ false → o ≡ None
none_of None e = refl
none_of (Some pool) e = cc

pub returns-then-is_none-clause-ended : goal.returns-then-is_none-clause-ended
returns-then-is_none-clause-ended c = ended_spare c.args.pools.now c.args.marks.now.items c.args.page c.page_pool.ensures.sound
    (sym c.page_pool.ensures.pool ∙ none_of c.page_pool.result c.if-is_none.ensures) c.requires.all
