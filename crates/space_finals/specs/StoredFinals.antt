-- How finalizers are stored: a list of labels for each name, defined or queued, and how many labels of the oldest queued name ran.
use Rattle.std.specs.Prelude.{⊤, ◌≡◌, ℕ, ◌+◌, ◌<◌, ◌≤◌, nat_eq, List, [], ◌∷◌, ◌++◌, length, Option, None, Some}
use Rattle.std.specs.List.{IsDistinct}
use Rattle.std.specs.Map.{lookup, keys_of}
use Rattle.space_model.specs.Finalizers.{pairs_of}

module _ {X : Type 0} (labels : X → List (List ℕ)) where
  -- the pairs of all names, one name after another
  abbrev pub pairs_in : List (ℕ × X) → List (ℕ × List ℕ)
  pairs_in [] = []
  pairs_in (entry ∷ entries) = pairs_of entry.0 (labels entry.1) ++ pairs_in entries

  -- each name has a label
  abbrev pub HaveLabels : List (ℕ × X) → Type 0
  HaveLabels [] = ⊤
  HaveLabels (entry ∷ entries) = (0 < length (labels entry.1)) × HaveLabels entries

  -- each name has a label, and the first has one that is still to run
  abbrev pub AreToRun : ℕ → List (ℕ × X) → Type 0
  AreToRun ran [] = ran ≡ 0
  AreToRun ran (entry ∷ entries) = (ran < length (labels entry.1)) × HaveLabels entries

  -- what a look-up finds has a label
  abbrev pub HasLabel : Option X → Type 0
  HasLabel None = ⊤
  HasLabel (Some x) = 0 < length (labels x)

  -- the labels that a look-up finds
  abbrev pub labels_found : Option X → List (List ℕ)
  labels_found None = []
  labels_found (Some x) = labels x

  -- what holds of the stored lists, where the queue has `waiting` names and room for `room`
  pub record AreStored (defined queue : List (ℕ × X)) (ran waiting room : ℕ) : Type 0 where
    pub distinct : IsDistinct nat_eq (keys_of defined)
    pub labelled : (name : ℕ) → HasLabel (lookup (nat_eq name) defined)
    pub to_run : AreToRun ran queue
    -- each name that has a finalizer has its place in the queue
    pub fits : waiting + length defined ≤ room
