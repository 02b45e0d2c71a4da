-- What holds of the fields of `Ids`.
use Rattle.std.specs.Prelude.{◌≤◌, ◌^◌, nat_eq, length}
use Rattle.std.specs.List.{IsDistinct}
use Rattle.space_ids.specs.declared.ids.Ids.TheInside.{Inside}
use Rattle.space_ids.specs.GivenIds.{GivenIds, names_in}

-- the names with an id, in order
abbrev pub view_from : Inside → GivenIds
view_from f = f.given.entries

-- no name has two ids, and each id is below 2^64
pub record AreIds (ids : GivenIds) : Type 0 where
  pub distinct : IsDistinct nat_eq (names_in ids)
  pub few : length ids ≤ 2 ^ 60

-- what holds of the field
abbrev pub IsInside : Inside → Type 0
IsInside f = AreIds f.given.entries
