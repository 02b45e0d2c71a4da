-- Ages after a verdict, slot by slot.
use Rattle.std.proofs.Common.{◌≡◌, Bool, true, false, not, ◌&&◌, refl}
use Rattle.space_planes.specs.Planes.{low_counted, high_counted}
use Rattle.space_heap.specs.planes.MarkPlanes.{age_from}
use Rattle.space_heap.specs.planes.SweptPlanes.{settled_age}

-- an age by its two bits, which were counted up where the slot is marked and protected
pub raised_by : (marked unprotected low high : Bool)
    → age_from (low_counted (marked && not unprotected) low high) (high_counted (marked && not unprotected) low high) ≡ settled_age marked unprotected low high
raised_by true true low high = refl
raised_by true false true true = refl
raised_by true false true false = refl
raised_by true false false true = refl
raised_by true false false false = refl
raised_by false unprotected low high = refl
