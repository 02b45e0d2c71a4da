-- What is seen of the finalizers: those that are defined and those that are queued, as the model's lists of pairs of a name and a label.
use Rattle.std.specs.Prelude.{◌≡◌, ℕ, List, [], ◌∷◌, ◌++◌}
use Rattle.space_model.specs.Finalizers.{labels_of, pairs_of, without_name}

-- both lists: `finals` in order of definition for each name, `queue` from the oldest to the newest
pub record FinalLists : Type 0 where
  pub finals : List (ℕ × List ℕ)
  pub queue : List (ℕ × List ℕ)

-- each name has the same labels in both, in the same order; how the pairs of different names are mixed shows nowhere
abbrev pub HaveSameLabels : List (ℕ × List ℕ) → List (ℕ × List ℕ) → Type 0
HaveSameLabels xs ys = (name : ℕ) → labels_of xs name ≡ labels_of ys name

-- the finalizers of a name were queued: they wait after what waited, in order of definition, and are defined no more
pub record QueuesName (old : FinalLists) (name : ℕ) (new : FinalLists) : Type 0 where
  pub finals : HaveSameLabels new.finals (without_name old.finals name)
  pub queue : new.queue ≡ old.queue ++ pairs_of name (labels_of old.finals name)

-- those of some names were queued, one name after another
abbrev pub QueuesNames : FinalLists → List ℕ → FinalLists → Type 0
QueuesNames old [] new = new ≡ old
QueuesNames old (name ∷ names) new = (mid : FinalLists) × QueuesName old name mid × QueuesNames mid names new
