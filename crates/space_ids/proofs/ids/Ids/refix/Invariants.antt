use Rattle.std.proofs.Common.{◌≡◌, ◌++◌, take, drop}
use Rattle.space_ids.specs.GivenIds.{refixed}
use Rattle.space_ids.specs.Inside.{AreIds}
use Rattle.space_ids.proofs.ids.Ids.refix.Given as goal

abbrev pub invariant-loop-k : goal.invariant-loop-k
invariant-loop-k l = record {
  written : l.self-inside.given.entries ≡ refixed l.heap (take l.k l.fn.self) ++ drop l.k l.fn.self;
  ids : AreIds l.self-inside.given.entries;
}
