-- In which order outputs tell which objects are gone.
use Rattle.std.specs.Prelude.{◌≡◌, ℕ, List, [], ◌∷◌, ◌++◌, length}
use Rattle.std.specs.Ordering.{nat_cmp}
use Rattle.std.specs.FinMap.{FinMap, insert}
use Rattle.space_model.specs.declared.event.Event.TheVariants.{Gone, Verdict, Moved}
use Rattle.space_model.specs.Maps.{IsRising}
use Rattle.space_model.specs.Outputs.{Output, Told}

-- each verdict comes after the names that it takes, in ascending order of the addresses that they have then, and tells how many they are.
-- The map has the addresses before the outputs, and each move that is told changes it; `names` were told since the verdict before
abbrev pub AreToldInOrder : FinMap nat_cmp ℕ → List ℕ → List Output → Type 0
AreToldInOrder place names [] = names ≡ []
AreToldInOrder place names (Told (Gone name) ∷ outputs) = AreToldInOrder place (names ++ name ∷ []) outputs
AreToldInOrder place names (Told (Verdict kind gone) ∷ outputs) = IsRising place names × (gone ≡ length names) × AreToldInOrder place [] outputs
AreToldInOrder place names (Told (Moved name from to) ∷ outputs) = AreToldInOrder (insert place name to) names outputs
AreToldInOrder place names (_ ∷ outputs) = AreToldInOrder place names outputs
