use Rattle.std.proofs.Common.{◌-◌, ◌≤◌}
use Rattle.space_compact.specs.Moves.{AreFingers, room_of}
use Rattle.space_compact.proofs.moving.next_move.Given as goal

abbrev pub invariant-pools : goal.invariant-pools
invariant-pools l = record { fingers : AreFingers l.heap l.fingers; room : room_of l.fingers ≤ room_of l.fn.fingers }

abbrev pub decreases-pools : goal.decreases-pools
decreases-pools l = 5 - l.fingers.pool
