-- What the fields of a space stand for.
use Rattle.space_engine.specs.declared.engine.Engine.TheInside.{Inside as EngineInside}
use Rattle.space_engine.specs.declared.space.Space.TheInside.{Inside as SpaceInside}
use Rattle.space_engine.specs.Turns.{IsWithinTurns}
use Rattle.space_engine.specs.Views.{View, SpaceView}

-- the parts of an engine
abbrev pub view_of : EngineInside → View
view_of a = record { heap = a.heap; roots = a.roots; stack = a.stack; ids = a.ids; weak = a.weak; finals = a.finals }

-- the whole space
abbrev pub space_of : SpaceInside → SpaceView
space_of a = record { parts = a.engine; turns = a.turns; is_spent = a.is_spent }

-- the heap is as it may be after so many commands
abbrev pub IsWithin : SpaceInside → Type 0
IsWithin a = IsWithinTurns a.engine.heap a.turns
