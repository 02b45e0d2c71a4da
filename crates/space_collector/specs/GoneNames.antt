-- The objects that a verdict found to be gone, in ascending order of address, and their names.
use Rattle.std.specs.Prelude.{◌≡◌, ◌↔◌, ℕ, ◌+◌, ◌*◌, ◌<◌, true, List, length, map, nat_eq}
use Rattle.std.specs.List.{AllPairs, range_with_len, filter}
use Rattle.std.specs.Set.{is_member}
use Rattle.space_model.specs.Layout.{page_bytes}
use Rattle.space_heap.specs.HeapView.{HeapView}
use Rattle.space_heap.specs.Objects.{object_of}
use Rattle.space_heap.specs.Sweeping.{is_gone, IsGoneOn}

-- the gone objects below an address
unfoldable pub gone_below : HeapView → ℕ → List ℕ
gone_below v bound = filter (is_gone v) (range_with_len 0 bound)

-- all of them: none stands past the last page
abbrev pub gone_addresses : HeapView → List ℕ
gone_addresses v = gone_below v (page_bytes * (length v.pages + 1))

-- the name of the object at an address
abbrev pub name_at : HeapView → ℕ → ℕ
name_at v a = (object_of v a).name

-- the names of all gone objects, in the order of their addresses
abbrev pub gone_names : HeapView → List ℕ
gone_names v = map (name_at v) (gone_addresses v)

-- the names of the gone objects on a page, in ascending order of address
pub record AreGoneOn (v : HeapView) (page : ℕ) (names : List ℕ) : Type 0 where
  pub addresses : List ℕ
  pub are : (a : ℕ) → (is_member nat_eq addresses a ≡ true) ↔ IsGoneOn v page a
  pub rising : AllPairs (λ a b. a < b) addresses
  pub names_are : names ≡ map (name_at v) addresses
