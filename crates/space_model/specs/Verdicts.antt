-- Which names a verdict may take, and how it is told. That marking decides is CRuby's; the order of the names is this project's own.
use Rattle.std.specs.Prelude.{◌≡◌, ◌⊎◌, ℕ, ◌≤◌, true, false, List, [], ◌∷◌, ◌++◌, length, map, nat_eq}
use Rattle.std.specs.Set.{is_member}
use Rattle.space_model.specs.declared.event.Event.{Event}
use Rattle.space_model.specs.declared.event.Event.TheVariants.{Gone, Verdict}
use Rattle.space_model.specs.declared.event.Kind.{Kind}
use Rattle.space_model.specs.declared.event.Kind.TheVariants.{Minor, Major, Full}
use Rattle.space_model.specs.Ages.{is_protected, outlived_by, is_old}
use Rattle.space_model.specs.Graph.{IsChild}
use Rattle.space_model.specs.Maps.{IsRising}
use Rattle.space_model.specs.Reach.{IsReached, IsStart, Reach}
use Rattle.space_model.specs.State.{State, is_present}

-- the name is present and unprotected, and outlived a verdict
abbrev pub IsUnprotectedSurvivor : State → ℕ → Type 0
IsUnprotectedSurvivor s name = (is_present s name ≡ true) × (is_protected s.graph name ≡ false) × (1 ≤ outlived_by s.collector.outlived name)

-- a minor marking may begin at the name: a root holds it, a stack word names it, it is old, or it is an unprotected survivor
abbrev pub IsMinorStart : State → ℕ → Type 0
IsMinorStart s name = IsStart s name ⊎ ((is_old s name ≡ true) ⊎ IsUnprotectedSurvivor s name)

-- a minor verdict takes no old name, and leaves only names to which a path of children leads from where a minor marking may begin
pub record TakesYoung (s : State) (taken : List ℕ) : Type 0 where
  pub old_stay : (name : ℕ) → is_old s name ≡ true → is_member nat_eq taken name ≡ false
  pub led_to : (name : ℕ) → is_present s name ≡ true → is_member nat_eq taken name ≡ false → IsReached (IsChild s.graph) (IsMinorStart s) name

-- what each kind asks besides: a major verdict leaves only names that were reached at some moment since its marking began; a full one takes
-- every present name that isn't reached
abbrev pub TakesBy : Kind → State → List ℕ → Type 0
TakesBy Minor s taken = TakesYoung s taken
TakesBy Major s taken = (name : ℕ) → is_present s name ≡ true → is_member nat_eq taken name ≡ false → is_member nat_eq s.history.seen name ≡ true
TakesBy Full s taken = (name : ℕ) → is_present s name ≡ true → (Reach s name → ⊥) → is_member nat_eq taken name ≡ true

-- the names that a verdict takes are present, in ascending order of place and each once; none of them is reached, and no present
-- name that stays has one of them as a child
pub record IsVerdict (s : State) (kind : Kind) (taken : List ℕ) : Type 0 where
  pub present : (name : ℕ) → is_member nat_eq taken name ≡ true → is_present s name ≡ true
  pub rising : IsRising s.heap.place taken
  pub unreached : (name : ℕ) → is_member nat_eq taken name ≡ true → Reach s name → ⊥
  pub closed : (parent name : ℕ) → is_present s parent ≡ true → is_member nat_eq taken parent ≡ false → IsChild s.graph parent name →
      is_member nat_eq taken name ≡ false
  pub by_kind : TakesBy kind s taken

-- the events of a verdict: each name that it takes, in ascending order of place, and then how many they are
abbrev pub verdict_events : Kind → List ℕ → List Event
verdict_events kind taken = map Gone taken ++ Verdict kind (length taken) ∷ []
