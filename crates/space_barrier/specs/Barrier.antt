-- What a store into an object leaves, and what it leaves that the write barrier stops protecting an object.
use Rattle.std.specs.Prelude.{ℕ, Bool, true, false, not, ◌&&◌, if◌then◌else◌}
use Rattle.space_model.specs.declared.phase.Phase.{Phase}
use Rattle.space_model.specs.declared.phase.Phase.TheVariants.{Idle, Marking, Sweeping, Moving, Fixing}
use Rattle.space_heap.specs.HeapView.{HeapView}
use Rattle.space_heap.specs.Objects.{is_object, object_of, written}
use Rattle.space_heap.specs.Marking.{colour_of, is_white, greyed}
use Rattle.space_heap.specs.planes.RecolouredMarks.{is_black}
use Rattle.space_heap.specs.Generations.{is_old, is_aged, is_protected_at, remembered_as, kept_at, unprotected_at}

-- whether a marking is under way
abbrev pub is_marking : Phase → Bool
is_marking Idle = false
is_marking Marking = true
is_marking Sweeping = false
is_marking Moving = false
is_marking Fixing = false

-- an object of age 2 or more is remembered where the child that it gets isn't old
abbrev pub remembered_for : HeapView → ℕ → ℕ → HeapView
remembered_for v a child = if is_aged (object_of v a) && not (is_old (object_of v child)) then remembered_as v a true else v

-- in a marking a white child that a black object gets is grey
abbrev pub greyed_for : HeapView → ℕ → ℕ → HeapView
greyed_for v a child = if is_marking v.phase && (is_black (colour_of v a) && is_white (colour_of v child)) then greyed v child else v

-- a protected object got a child
abbrev pub barred : HeapView → ℕ → ℕ → HeapView
barred v a child = greyed_for (remembered_for v a child) a child

-- a field got this word: where it names an object, and the write barrier protects the one that has the field, the rules above apply
unfoldable pub stored : HeapView → ℕ → ℕ → ℕ → HeapView
stored v a i word =
    let w : HeapView = written v a i word in
    if is_object w word && is_protected_at w a then barred w a word else w

-- the write barrier stops protecting the object: it has age 0 and isn't remembered, and one that had age 2 or more is kept; an unprotected
-- one stays as it is
unfoldable pub unprotected : HeapView → ℕ → HeapView
unprotected v a =
    let w : HeapView = unprotected_at v a in
    if is_protected_at v a then (if is_aged (object_of v a) then kept_at w a else w) else v
