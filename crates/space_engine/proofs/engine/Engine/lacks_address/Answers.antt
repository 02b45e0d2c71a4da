-- The pool for so many fields is one of a heap's.
use Rattle.std.proofs.Common.{arith}
use Rattle.space_engine.proofs.Addresses.{known_pool}
use Rattle.space_engine.proofs.engine.Engine.lacks_address.Goals as goal

pub lowest_free-requires : goal.lowest_free-requires
lowest_free-requires c =
    let known = known_pool c.args.fields in
    let its = c.in-Some.ensures.0 in
    omega arith
