-- Maps from names to addresses: the names at an address, names in ascending order, a map without some names, and names that are carried
-- over to another map.
use Rattle.std.specs.Prelude.{ℕ, ◌<◌, ◌==◌, not, Bool, false, List, [], ◌∷◌, nat_eq, Option, None, Some, unwrap_or}
use Rattle.std.specs.List.{AllPairs, filter}
use Rattle.std.specs.Ordering.{nat_cmp}
use Rattle.std.specs.Set.{is_member}
use Rattle.std.specs.FinMap.{FinMap, get, insert, keys, retain_keys}

-- whether there is a place, and it is this address
abbrev pub is_at : ℕ → Option ℕ → Bool
is_at address None = false
is_at address (Some place) = place == address

-- the names that stand at the address
unfoldable pub names_at : FinMap nat_cmp ℕ → ℕ → List ℕ
names_at place address = filter (λ name. is_at address (get place name)) (keys place)

-- the address of a name of the map; 0 where it has none
abbrev pub address_in : FinMap nat_cmp ℕ → ℕ → ℕ
address_in map name = unwrap_or (get map name) 0

-- the names are in ascending order of their addresses, so each is there once
abbrev pub IsRising : FinMap nat_cmp ℕ → List ℕ → Type 0
IsRising map names = AllPairs (λ first second. address_in map first < address_in map second) names

-- the map without the names
abbrev pub without : FinMap nat_cmp ℕ → List ℕ → FinMap nat_cmp ℕ
without map names = retain_keys map (λ name. not (is_member nat_eq names name))

-- the second map, and the names with their addresses in the first
unfoldable pub carried_over : FinMap nat_cmp ℕ → FinMap nat_cmp ℕ → List ℕ → FinMap nat_cmp ℕ
carried_over from to [] = to
carried_over from to (name ∷ names) = insert (carried_over from to names) name (address_in from name)
