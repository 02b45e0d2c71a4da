-- What the fields of `WeakMaps` stand for, and what holds of them.
use Rattle.std.specs.Prelude.{List}
use Rattle.space_weak.specs.declared.weak.WeakMaps.TheInside.{Inside}
use Rattle.space_weak.specs.WeakEntries.{Entry}
use Rattle.space_weak.specs.StoredEntries.{entries_in, AreStored}

-- the entries of all maps
abbrev pub view_from : Inside → List Entry
view_from f = entries_in (λ links. links.entries) f.maps.entries

-- what holds of the field
abbrev pub AreMaps : Inside → Type 0
AreMaps f = AreStored (λ links. links.entries) f.maps.entries
