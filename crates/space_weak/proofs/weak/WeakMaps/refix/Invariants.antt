use Rattle.std.proofs.Common.{◌≡◌, ◌++◌, take, drop}
use Rattle.space_weak.proofs.WalkLemmas.{changed, refixed_map}
use Rattle.space_weak.proofs.weak.WeakMaps.refix.Given as goal

abbrev pub invariant-loop-k : goal.invariant-loop-k
invariant-loop-k l =
    let old = l.initial.self-inside.maps.entries in
    l.self-inside.maps.entries ≡ changed (refixed_map l.heap) (take l.k old) ++ drop l.k old
