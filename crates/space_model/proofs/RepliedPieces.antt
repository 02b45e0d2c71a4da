-- What a command without events does to a state: nothing, or one piece of work.
use Rattle.std.proofs.Common.{◌≡◌, ℕ, zero, suc, ◌+◌, ◌≤◌, ◌&&◌, ap, ◌∙◌, sym, arith, Bool, true, false, nat_eq, if◌then◌else◌, List, [], ◌∷◌, ◌++◌, length, min, refl, ⊎_elim, Option, None, Some, Result, Ok, Err}
use Rattle.std.specs.Prelude.{slice_get}
use Rattle.std.specs.Set.{is_member}
use Rattle.std.specs.Str.{bytes_eq}
use Rattle.std.proofs.lemmas.Bool.{cases_Bool, false≢true, false_from_ne_true}
use Rattle.std.proofs.lemmas.Slice.Eq.{bytes_eq-Decides}
use Rattle.space_model.specs.declared.command.Command.{Command}
use Rattle.space_model.specs.declared.command.Command.TheVariants.{New, Set, DropRoot, Push, Raw, Pop, Store, RawStore, Load, Same, Unprotect}
use Rattle.space_model.specs.declared.command.Command.TheVariants.{Id, ById, WeakSet, WeakGet, WeakKey, WeakSize, WeakDelete}
use Rattle.space_model.specs.declared.command.Command.TheVariants.{Final, Unfinal, Run, Minor, Gc, Major, Mark, Finish, Sweep, Compact, Move, Fix, Stat, Dump, Peek, Exit}
use Rattle.space_model.specs.declared.command.Input.{Input}
use Rattle.space_model.specs.declared.command.Operand.{Operand}
use Rattle.space_model.specs.declared.reply.Refusal.{Refusal}
use Rattle.space_model.specs.declared.reply.Refusal.TheVariants.{Protected}
use Rattle.space_model.specs.declared.reply.Reply.{Reply}
use Rattle.space_model.specs.declared.reply.Reply.TheVariants.{Done, Read, Marked, SweepCount, StatLine, Refused}
use Rattle.space_model.specs.declared.value.Value.{Value}
use Rattle.space_model.specs.declared.value.Value.TheVariants.{Name}
use Rattle.space_model.specs.Ages.{is_protected}
use Rattle.space_model.specs.CommandTexts.{IsWritableInput}
use Rattle.space_model.specs.CompactCommands.{AnswersFix}
use Rattle.space_model.specs.FinalCommands.{FinalReply, UnfinalReply}
use Rattle.space_model.specs.FinalLaws.{ChangesFinals}
use Rattle.space_model.specs.Finalizers.{without_name}
use Rattle.space_model.specs.Given.{IsGiven}
use Rattle.space_model.specs.IdCommands.{with_id, IdReply, NameReply, FindsById}
use Rattle.space_model.specs.Idents.{IsIdent}
use Rattle.space_model.specs.Lawful.{Replies}
use Rattle.space_model.specs.MajorMarking.{scans_told, AnswersMark}
use Rattle.space_model.specs.ObjectCommands.{written_field, StoreReply, unguarded, UnprotectReply}
use Rattle.space_model.specs.Operands.{operand_value, input_value, object_in, object_of}
use Rattle.space_model.specs.Pieces.{RootWritten, RootDropped, StackReplaced, FieldWritten, MadeUnprotected}
use Rattle.space_model.specs.Refusals.{both, and_then}
use Rattle.space_model.specs.RootCommands.{WritesRoot, SetReply, DropReply, field_value, LoadReply}
use Rattle.space_model.specs.Roots.{root_value}
use Rattle.space_model.specs.Sound.{Sound, IsSmall}
use Rattle.space_model.specs.StackCommands.{PushesWord, PushReply, Pops}
use Rattle.space_model.specs.Stat.{AnswersStat}
use Rattle.space_model.specs.State.{State, Tables, WeakEntry, is_present}
use Rattle.space_model.specs.Sweeps.{Sweeps, AnswersSweep}
use Rattle.space_model.specs.TableLaws.{ChangesMap}
use Rattle.space_model.specs.WeakCommands.{name_or_nil, WeakSetReply, WeakGetReply, WeakKeyReply, WeakDeleteReply}
use Rattle.space_model.specs.WeakMaps.{weak_value, with_weak_value, without_weak_value}
use Rattle.space_model.proofs.AfterPieces.{tables_replaced}
use Rattle.space_model.proofs.EntryLaws.{set_read, deleted_gone}
use Rattle.space_model.proofs.FinalsKept.{SoundFinals-defined, SoundFinals-taken}
use Rattle.space_model.proofs.MapLaws.{some_get}
use Rattle.space_model.proofs.TablesKept.{SoundTables, SoundIds-with_id, AreSoundEntries-with, AreSoundEntries-deleted, weak_value-present}
use Rattle.space_model.proofs.ValuesHold.{input_holds, read_holds, write_holds, named_holds}
use Rattle.space_model.proofs.ValuesKept.{IsPresentValue, IsReachedValue, name_present, placed_present, present_kept, reached_kept, small_kept}

-- in a sound state the value is present, and small, where a line can give what the command is given
abbrev pub IsValid : Command → State → Value → Type 0
IsValid command s value = IsGiven command → Sound s → IsPresentValue s.heap.place value × IsSmall value

-- each id stays that of its name
abbrev pub AreIdsKept : List ℕ → List ℕ → Type 0
AreIdsKept ids later = (k name : ℕ) → slice_get ids k ≡ Some name → slice_get later k ≡ Some name

-- maps that the command doesn't change have the same values
abbrev pub AreMapsKept : Command → List WeakEntry → List WeakEntry → Type 0
AreMapsKept command entries later =
    (weak : List ℕ) (key : ℕ) → (ChangesMap command weak → ⊥) → weak_value later weak key ≡ weak_value entries weak key

-- a command that doesn't define finalizers, or take some away, has the same
abbrev pub AreFinalsKept : Command → List (ℕ × List ℕ) → List (ℕ × List ℕ) → Type 0
AreFinalsKept command finals later = (ChangesFinals command → ⊥) → later ≡ finals

-- nothing was changed; or a root was written or taken away, the stack replaced, a field written, a name made unprotected, the tables replaced,
-- pages swept, scans told, or references corrected
pub data IsPiece (command : Command) (s t : State) : Type 0 where
  Nothing : (same : t ≡ s) → IsPiece command s t
  Root : (root : List ℕ) → (value : Value) → (ident : IsGiven command → IsIdent root) → (valid : IsValid command s value) →
      (after : RootWritten s root value t) → IsPiece command s t
  Dropped : (root : List ℕ) → (after : RootDropped s root t) → IsPiece command s t
  Stack : (words : List ℕ) → (after : StackReplaced s words t) → IsPiece command s t
  Field : (name index : ℕ) → (value : Value) → (object : IsValid command s (Name name)) → (valid : IsValid command s value) →
      (reached : IsGiven command → IsReachedValue s value) → (after : FieldWritten s name index value t) → IsPiece command s t
  Guard : (name : ℕ) → (object : IsValid command s (Name name)) → (after : MadeUnprotected s name t) → IsPiece command s t
  Tabled : (tables : Tables) → (sound : Sound s → SoundTables s.graph s.heap.place s.heap.corpses tables) →
      (ids : AreIdsKept s.tables.ids tables.ids) → (maps : AreMapsKept command s.tables.weak tables.weak) →
      (finals : AreFinalsKept command s.tables.finals tables.finals) → (queue : tables.queue ≡ s.tables.queue) → (after : t ≡ tables_replaced s tables) → IsPiece command s t
  Swept : (pages : ℕ) → (freed : List ℕ) → (sweeps : Sweeps pages s freed t) → IsPiece command s t
  Scans : (scans : ℕ) → (few : s.history.scanned + scans ≤ length s.history.seen) → (after : t ≡ scans_told s scans) → IsPiece command s t
  Fixed : (count : ℕ) → (reply : Reply) → (fixes : AnswersFix s count reply t) → IsPiece command s t

-- what stands before others stays at its place
slice_get-front : (names more : List ℕ) (k name : ℕ) → slice_get names k ≡ Some name → slice_get (names ++ more) k ≡ Some name
slice_get-front [] more k name e = absurd (cc)
slice_get-front (n ∷ names) more zero name e = e
slice_get-front (n ∷ names) more (suc k) name e = slice_get-front names more k name e

-- in another map no key is the same
other_map : (a b : Bool) (x y : Option ℕ) → a ≡ false → (if a && b then x else y) ≡ y
other_map a b x y e = rw e refl

other_than : (weak other : List ℕ) → (weak ≡ other → ⊥) → bytes_eq other weak ≡ false
other_than weak other apart = false_from_ne_true _ (λ t. apart (sym ((bytes_eq-Decides other weak).0 t)))

module _ (command : Command) (s t : State) where
  root_piece : (root : List ℕ) (value : Value) (answer reply : Reply) → (IsGiven command → IsIdent root) → IsValid command s value →
      WritesRoot s root value answer reply t → IsPiece command s t
  root_piece root value answer reply ident valid w = ⊎_elim (λ (_, e). Root root value ident valid e) (λ (_, _, e). Nothing e) w

  set_piece : (root : List ℕ) (input : Input) (found : Result Value Refusal) (reply : Reply) → (IsGiven command → IsIdent root) →
      (IsGiven command → IsWritableInput input) → input_value s input ≡ found →
      SetReply s root found reply t → IsPiece command s t
  set_piece root input (Ok value) reply ident small f e =
      root_piece root value Done reply ident
      (λ g h. (
        input_holds s (IsPresentValue s.heap.place) (present_kept s h) input value (small g) f,
        input_holds s IsSmall (small_kept s h) input value (small g) f,
      ))
      e
  set_piece root input (Err why) reply ident small f e = Nothing e.unchanged

  drop_piece : (root : List ℕ) (found : Option Value) (reply : Reply) → DropReply s root found reply t → IsPiece command s t
  drop_piece root None reply e = Nothing e.unchanged
  drop_piece root (Some value) reply e = Dropped root e.1

  word_piece : (word : ℕ) (reply : Reply) → PushesWord s word reply t → IsPiece command s t
  word_piece word reply e = ⊎_elim (λ (_, after). Stack (s.stack ++ word ∷ []) after) (λ (_, same). Nothing same) e

  push_piece : (found : Result Value Refusal) (reply : Reply) → PushReply s found reply t → IsPiece command s t
  push_piece (Ok value) reply e = word_piece _ reply e
  push_piece (Err why) reply e = Nothing e.unchanged

  pop_piece : (reply : Reply) → Pops s reply t → IsPiece command s t
  pop_piece reply e = ⊎_elim (λ pops. Stack pops.others pops.after) (λ (_, refused). Nothing refused.unchanged) e

  load_piece : (root : List ℕ) (object : Operand) (index : ℕ) (found : Result Value Refusal) (reply : Reply) → (IsGiven command → IsIdent root) →
      field_value s.graph (operand_value s object) index ≡ found → LoadReply s root found reply t → IsPiece command s t
  load_piece root object index (Ok value) reply ident f e =
      root_piece root value (Read value) reply ident
      (λ g h. (read_holds s (IsPresentValue s.heap.place) (present_kept s h) object index value f, read_holds s IsSmall (small_kept s h) object index value f))
      e
  load_piece root object index (Err why) reply ident f e = Nothing e.unchanged

  store_piece : (object : Operand) (index : ℕ) (input : Input) (found : Result (ℕ × Value) Refusal) (reply : Reply) → (IsGiven command → IsWritableInput input) →
      written_field s.graph (operand_value s object) index (input_value s input) ≡ found → StoreReply s index found reply t → IsPiece command s t
  store_piece object index input (Ok written) reply small f e =
      Field written.0 index written.1
      (λ g h. (
        (write_holds s (IsPresentValue s.heap.place) (present_kept s h) object index input written (small g) f).0,
        (write_holds s IsSmall (small_kept s h) object index input written (small g) f).0,
      ))
      (λ g h. (
        (write_holds s (IsPresentValue s.heap.place) (present_kept s h) object index input written (small g) f).1,
        (write_holds s IsSmall (small_kept s h) object index input written (small g) f).1,
      ))
      (λ g. (write_holds s (IsReachedValue s) (reached_kept s) object index input written (small g) f).1)
      e.1
  store_piece object index input (Err why) reply small f e = Nothing e.unchanged

  unguarded_piece : (object : Operand) (index : ℕ) (input : Input) (written : ℕ × Value) (protects : Bool) (reply : Reply) →
      (IsGiven command → IsWritableInput input) → written_field s.graph (operand_value s object) index (input_value s input) ≡ Ok written →
      StoreReply s index (if protects then Err Protected else Ok written) reply t → IsPiece command s t
  unguarded_piece object index input written true reply small f e = Nothing e.unchanged
  unguarded_piece object index input written false reply small f e = store_piece object index input (Ok written) reply small f e

  raw_store_piece : (object : Operand) (index : ℕ) (input : Input) (found : Result (ℕ × Value) Refusal) (reply : Reply) →
      (IsGiven command → IsWritableInput input) → written_field s.graph (operand_value s object) index (input_value s input) ≡ found →
      StoreReply s index (and_then found (unguarded s.graph)) reply t → IsPiece command s t
  raw_store_piece object index input (Ok written) reply small f e =
      unguarded_piece object index input written (is_protected s.graph written.0) reply small f e
  raw_store_piece object index input (Err why) reply small f e = Nothing e.unchanged

  unprotect_piece : (object : Operand) (found : Result ℕ Refusal) (reply : Reply) → and_then (operand_value s object) object_in ≡ found →
      UnprotectReply s found reply t → IsPiece command s t
  unprotect_piece object (Ok name) reply f e =
      Guard name
      (λ g h. (named_holds s (IsPresentValue s.heap.place) (present_kept s h) object name f, named_holds s IsSmall (small_kept s h) object name f))
      e.1
  unprotect_piece object (Err why) reply f e = Nothing e.unchanged

  -- an object that an operand is is present
  object_present : (object : Operand) (name : ℕ) → object_of s object ≡ Ok name → Sound s → is_present s name ≡ true
  object_present object name f h = name_present s.heap.place name (named_holds s (IsPresentValue s.heap.place) (present_kept s h) object name f)

  with_id-kept : (ids : List ℕ) (name : ℕ) → AreIdsKept ids (with_id ids name)
  with_id-kept ids name k other e = ⊎_elim
      (λ t. rw t e)
      (λ f. rw f (slice_get-front ids (name ∷ []) k other e))
      (cases_Bool (is_member nat_eq ids name))

  id_piece : (object : Operand) (found : Result ℕ Refusal) (reply : Reply) → object_of s object ≡ found → IdReply s found reply t → IsPiece command s t
  id_piece object (Ok name) reply f e = ⊎_elim
      (λ tells. Tabled (record s.tables { ids = with_id s.tables.ids name })
      (λ h.
      let at = some_get _ (object_present object name f h) in
      let b = h.layout.placed.allocated name at.0 at.1 in
      record { ids = SoundIds-with_id s.graph s.tables.ids name b.0 b.1 h.ids; weak = h.weak; finals = h.finals; queue = h.queue })
      (with_id-kept s.tables.ids name)
      (λ weak key same. refl)
      (λ same. refl)
      refl
      tells.after)
      (λ (_, _, same). Nothing same)
      e
  id_piece object (Err why) reply f e = Nothing e.unchanged

  name_piece : (root : List ℕ) (name : ℕ) (there : Bool) (reply : Reply) → (IsGiven command → IsIdent root) → is_present s name ≡ there →
      NameReply s root name there reply t → IsPiece command s t
  name_piece root name true reply ident p e =
      root_piece root (Name name) (Read (Name name)) reply ident
      (λ g h. let at = some_get _ p in (placed_present s.heap.place name at.0 at.1, tt))
      e
  name_piece root name false reply ident p e = Nothing e.1

  byid_piece : (root : List ℕ) (id : ℕ) (reply : Reply) → (IsGiven command → IsIdent root) → FindsById s root id reply t → IsPiece command s t
  byid_piece root id reply ident e = ⊎_elim
      (λ found. name_piece root found.name (is_present s found.name) reply ident refl found.answer)
      (λ (_, refused). Nothing refused.unchanged)
      e

  -- the command sets or deletes entries of this map alone
  abbrev ChangesOnly : List ℕ → Type 0
  ChangesOnly weak = (other : List ℕ) → (ChangesMap command other → ⊥) → bytes_eq other weak ≡ false

  wset_piece : (weak : List ℕ) (key value : Operand) (a b : Result ℕ Refusal) (reply : Reply) → object_of s key ≡ a → object_of s value ≡ b → ChangesOnly weak →
      WeakSetReply s weak (both a b) reply t → IsPiece command s t
  wset_piece weak key value (Ok k) (Ok v) reply f g only e = ⊎_elim
      (λ (_, after). Tabled (record s.tables { weak = with_weak_value s.tables.weak weak k v })
      (λ h. record {
        ids = h.ids;
        weak = AreSoundEntries-with s.heap.place s.tables.weak weak k v (object_present key k f h) (object_present value v g h) h.weak;
        finals = h.finals;
        queue = h.queue;
      })
      (λ ids name e. e)
      (λ other name same. set_read s.tables.weak weak k v other name ∙ other_map (bytes_eq other weak) (nat_eq name k) (Some v) _ (only other same))
      (λ same. refl)
      refl
      after)
      (λ (_, _, same). Nothing same)
      e
  wset_piece weak key value (Ok k) (Err why) reply f g only e = Nothing e.unchanged
  wset_piece weak key value (Err why) (Ok v) reply f g only e = Nothing e.unchanged
  wset_piece weak key value (Err why) (Err other) reply f g only e = Nothing e.unchanged

  -- what `wget` reads is present where it is a name
  read_weak : (found : Option ℕ) → ((name : ℕ) → found ≡ Some name → is_present s name ≡ true) →
      IsPresentValue s.heap.place (name_or_nil found) × IsSmall (name_or_nil found)
  read_weak None h = (λ n m. absurd (false≢true m), tt)
  read_weak (Some name) h = let at = some_get _ (h name refl) in (placed_present s.heap.place name at.0 at.1, tt)

  wget_piece : (root weak : List ℕ) (found : Result ℕ Refusal) (reply : Reply) → (IsGiven command → IsIdent root) → WeakGetReply s root weak found reply t →
      IsPiece command s t
  wget_piece root weak (Ok key) reply ident e =
      root_piece root (name_or_nil (weak_value s.tables.weak weak key)) (Read (name_or_nil (weak_value s.tables.weak weak key))) reply ident
      (λ g h. read_weak (weak_value s.tables.weak weak key) (λ name is. weak_value-present s.heap.place s.tables.weak weak key name is h.weak))
      e
  wget_piece root weak (Err why) reply ident e = Nothing e.unchanged

  wkey_piece : (weak : List ℕ) (found : Result ℕ Refusal) (reply : Reply) → WeakKeyReply s weak found reply t → IsPiece command s t
  wkey_piece weak (Ok key) reply e = Nothing e.1
  wkey_piece weak (Err why) reply e = Nothing e.unchanged

  wdel_piece : (weak : List ℕ) (found : Result ℕ Refusal) (reply : Reply) → ChangesOnly weak → WeakDeleteReply s weak found reply t → IsPiece command s t
  wdel_piece weak (Ok key) reply only e =
      Tabled (record s.tables { weak = without_weak_value s.tables.weak weak key })
      (λ h. record { ids = h.ids; weak = AreSoundEntries-deleted s.heap.place s.tables.weak weak key h.weak; finals = h.finals; queue = h.queue })
      (λ ids name e. e)
      (λ other name same. deleted_gone s.tables.weak weak key other name ∙ other_map (bytes_eq other weak) (nat_eq name key) None _ (only other same))
      (λ same. refl)
      refl
      e.1
  wdel_piece weak (Err why) reply only e = Nothing e.unchanged

  final_piece : (object : Operand) (label : List ℕ) (found : Result ℕ Refusal) (reply : Reply) → object_of s object ≡ found → ChangesFinals command →
      FinalReply s label found reply t → IsPiece command s t
  final_piece object label (Ok name) reply f changes e = ⊎_elim
      (λ (_, after). Tabled (record s.tables { finals = s.tables.finals ++ (name, label) ∷ [] })
      (λ h. record {
        ids = h.ids;
        weak = h.weak;
        finals = SoundFinals-defined s.heap.place s.heap.corpses s.tables.finals name label (object_present object name f h) h.finals;
        queue = h.queue;
      })
      (λ ids name e. e)
      (λ weak key same. refl)
      (λ same. absurd (same changes))
      refl
      after)
      (λ (_, same). Nothing same)
      e
  final_piece object label (Err why) reply f changes e = Nothing e.unchanged

  unfinal_piece : (found : Result ℕ Refusal) (reply : Reply) → ChangesFinals command → UnfinalReply s found reply t → IsPiece command s t
  unfinal_piece (Ok name) reply changes e =
      Tabled (record s.tables { finals = without_name s.tables.finals name })
      (λ h. record {
        ids = h.ids;
        weak = h.weak;
        finals = SoundFinals-taken s.heap.place s.heap.corpses s.tables.finals name h.finals;
        queue = h.queue;
      })
      (λ ids name e. e)
      (λ weak key same. refl)
      (λ same. absurd (same changes))
      refl
      e.1
  unfinal_piece (Err why) reply changes e = Nothing e.unchanged

  mark_piece : (count : ℕ) (reply : Reply) → AnswersMark s count reply t → IsPiece command s t
  mark_piece count (Marked scans grey) e =
      let told : t.history.scanned ≡ s.history.scanned + scans = ap (λ (u : State). u.history.scanned) e.after in
      Scans scans (let within = e.within in omega arith) e.after
  mark_piece count (Refused why) e = Nothing e.2
  mark_piece count _ e = absurd e

  sweep_piece : (count : ℕ) (reply : Reply) → AnswersSweep s count reply t → IsPiece command s t
  sweep_piece count (SweepCount freed left) e = Swept (min count (length s.heap.unswept)) e.0 e.1
  sweep_piece count _ e = absurd e

  stat_piece : (reply : Reply) → AnswersStat s reply t → IsPiece command s t
  stat_piece (StatLine stat) e = Nothing e.1
  stat_piece _ e = absurd e

-- the piece of each command
pub replied_piece : (s t : State) (command : Command) (reply : Reply) → Replies s command reply t → IsPiece command s t
replied_piece s t (New root fields guard style) reply e = absurd e
replied_piece s t (Set root value) reply e = set_piece (Set root value) s t root value (input_value s value) reply (λ g. g.1.0) (λ g. g.1.1.0) refl e
replied_piece s t (DropRoot root) reply e = drop_piece (DropRoot root) s t root (root_value s.roots root) reply e
replied_piece s t (Push value) reply e = push_piece (Push value) s t (input_value s value) reply e
replied_piece s t (Raw word) reply e = word_piece (Raw word) s t word reply e
replied_piece s t Pop reply e = pop_piece Pop s t reply e
replied_piece s t (Store object index value) reply e =
    store_piece (Store object index value) s t object index value (written_field s.graph (operand_value s object) index (input_value s value)) reply
    (λ g. g.1.1.1.0) refl e
replied_piece s t (RawStore object index value) reply e =
    raw_store_piece (RawStore object index value) s t object index value
    (written_field s.graph (operand_value s object) index (input_value s value)) reply (λ g. g.1.1.1.0) refl e
replied_piece s t (Load root object index) reply e =
    load_piece (Load root object index) s t root object index (field_value s.graph (operand_value s object) index) reply (λ g. g.1.0) refl e
replied_piece s t (Same left right) reply e = Nothing e.1
replied_piece s t (Unprotect object) reply e =
    unprotect_piece (Unprotect object) s t object (and_then (operand_value s object) object_in) reply refl e
replied_piece s t (Id object) reply e = id_piece (Id object) s t object (object_of s object) reply refl e
replied_piece s t (ById root id) reply e = byid_piece (ById root id) s t root id reply (λ g. g.1.0) e
replied_piece s t (WeakSet weak key value) reply e =
    wset_piece (WeakSet weak key value) s t weak key value (object_of s key) (object_of s value) reply refl refl (other_than weak) e
replied_piece s t (WeakGet root weak key) reply e = wget_piece (WeakGet root weak key) s t root weak (object_of s key) reply (λ g. g.1.0) e
replied_piece s t (WeakKey weak key) reply e = wkey_piece (WeakKey weak key) s t weak (object_of s key) reply e
replied_piece s t (WeakSize weak) reply e = Nothing e.1
replied_piece s t (WeakDelete weak key) reply e = wdel_piece (WeakDelete weak key) s t weak (object_of s key) reply (other_than weak) e
replied_piece s t (Final object label) reply e = final_piece (Final object label) s t object label (object_of s object) reply refl tt e
replied_piece s t (Unfinal object) reply e = unfinal_piece (Unfinal object) s t (object_of s object) reply tt e
replied_piece s t (Run count) reply e = absurd e
replied_piece s t Minor reply e = absurd e
replied_piece s t Gc reply e = absurd e
replied_piece s t Major reply e = absurd e
replied_piece s t (Mark count) reply e = mark_piece (Mark count) s t count reply e
replied_piece s t Finish reply e = absurd e
replied_piece s t (Sweep count) reply e = sweep_piece (Sweep count) s t count reply e
replied_piece s t Compact reply e = absurd e
replied_piece s t (Move count) reply e = absurd e
replied_piece s t (Fix count) reply e = Fixed count reply e
replied_piece s t Stat reply e = stat_piece Stat s t reply e
replied_piece s t Dump reply e = absurd e
replied_piece s t (Peek object) reply e = absurd e
replied_piece s t Exit reply e = absurd e
