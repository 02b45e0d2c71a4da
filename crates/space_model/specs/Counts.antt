-- How many names have a property.
use Rattle.std.specs.Prelude.{◌≡◌, ◌↔◌, ℕ, true, List, length, nat_eq}
use Rattle.std.specs.List.{IsDistinct}
use Rattle.std.specs.Set.{is_member}

-- so many names have the property: some list has these and no others, each once
pub record CountIs (P : ℕ → Type 0) (count : ℕ) : Type 0 where
  pub names : List ℕ
  pub once : IsDistinct nat_eq names
  pub are : (name : ℕ) → (is_member nat_eq names name ≡ true) ↔ P name
  pub long : length names ≡ count
