use Rattle.std.proofs.Common.{◌≡◌, ◌++◌, take, drop, length}
use Rattle.space_compact.specs.Visits.{resolved_roots}
use Rattle.space_compact.proofs.fixing.fix_roots.Given as goal

-- the roots so far are resolved
abbrev pub invariant-roots : goal.invariant-roots
invariant-roots l = record {
  words : l.roots ≡ resolved_roots l.heap (take l.k l.fn.roots) ++ drop l.k l.fn.roots;
  len : length l.roots ≡ length l.fn.roots;
}
