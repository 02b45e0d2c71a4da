-- The commands on object ids: `id` and `byid`. That an object gets its id when it is first asked for, and keeps it, is CRuby's (3.3,
-- `object_id`); that ids are 8, 16, 24 and so on is this project's own.
use Rattle.std.specs.Prelude.{◌≡◌, ◌⊎◌, ℕ, ◌+◌, ◌*◌, Bool, true, false, if◌then◌else◌, List, [], ◌∷◌, ◌++◌, nat_eq, Result, Ok, Err, Some, slice_get}
use Rattle.std.specs.Set.{is_member}
use Rattle.space_model.specs.declared.command.Operand.{Operand}
use Rattle.space_model.specs.declared.reply.Refusal.{Refusal}
use Rattle.space_model.specs.declared.reply.Refusal.TheVariants.{NoId}
use Rattle.space_model.specs.declared.reply.Reply.{Reply}
use Rattle.space_model.specs.declared.reply.Reply.TheVariants.{NoMemory, Read, Number, GoneId}
use Rattle.space_model.specs.declared.value.Value.TheVariants.{Name}
use Rattle.space_model.specs.Operands.{object_of}
use Rattle.space_model.specs.Refusals.{Refuses}
use Rattle.space_model.specs.RootCommands.{WritesRoot}
use Rattle.space_model.specs.State.{State, is_present}

-- the name has this id: by 8 for each name that was given one, in the order in which they were
abbrev pub IsIdOf : List ℕ → ℕ → ℕ → Type 0
IsIdOf ids name id = (k : ℕ) × (slice_get ids k ≡ Some name) × (id ≡ 8 * (k + 1))

-- the names with an id after one is asked for: a name that has none comes last
abbrev pub with_id : List ℕ → ℕ → List ℕ
with_id ids name = if is_member nat_eq ids name then ids else ids ++ name ∷ []

-- the name has an id
abbrev pub id_given : State → ℕ → State
id_given s name = record s { tables = record s.tables { ids = with_id s.tables.ids name } }

-- the id of the name is told, which it had or gets now
pub record TellsId (s : State) (name : ℕ) (reply : Reply) (t : State) : Type 0 where
  pub id : ℕ
  pub id_is : IsIdOf t.tables.ids name id
  pub reply_is : reply ≡ Number id
  pub after : t ≡ id_given s name

-- what `id` answers to the name, or to the refusal that was found instead. Where the name has no id there may be no memory for one, and then
-- nothing is changed
abbrev pub IdReply : State → Result ℕ Refusal → Reply → State → Type 0
IdReply s (Ok name) reply t = TellsId s name reply t ⊎ ((reply ≡ NoMemory) × (is_member nat_eq s.tables.ids name ≡ false) × (t ≡ s))
IdReply s (Err why) reply t = Refuses s why reply t

-- `id`: the id of the object
abbrev pub TellsIdOf : State → Operand → Reply → State → Type 0
TellsIdOf s object reply t = IdReply s (object_of s object) reply t

-- what `byid` answers to a name, by whether it is present: the root holds it; or it is gone, and no root is written
abbrev pub NameReply : State → List ℕ → ℕ → Bool → Reply → State → Type 0
NameReply s root name true reply t = WritesRoot s root (Name name) (Read (Name name)) reply t
NameReply s root name false reply t = (reply ≡ GoneId) × (t ≡ s)

-- the name that has the id was found, and this is the answer
pub record FindsName (s : State) (root : List ℕ) (id : ℕ) (reply : Reply) (t : State) : Type 0 where
  pub name : ℕ
  pub id_is : IsIdOf s.tables.ids name id
  pub answer : NameReply s root name (is_present s name) reply t

-- `byid`: the root holds the object that has the id, unless it is gone or the id was never given
abbrev pub FindsById : State → List ℕ → ℕ → Reply → State → Type 0
FindsById s root id reply t = FindsName s root id reply t ⊎ (((name : ℕ) → IsIdOf s.tables.ids name id → ⊥) × Refuses s NoId reply t)
