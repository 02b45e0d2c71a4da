-- What holds of every value that roots and fields hold holds of the values that operands and fields have.
use Rattle.std.proofs.Common.{◌≡◌, ℕ, zero, suc, ⊎_elim, ◌∙◌, ◌<◌, ◌%◌, ◌/◌, ◌^◌, ◌==◌, ◌&&◌, Bool, true, false, nat_lt, if◌then◌else◌, List, [], ◌∷◌, nat_eq, reverse, refl, sym, ap, subst, arith, Option, None, Some, Result, Ok, Err}
use Rattle.std.specs.Prelude.{slice_get}
use Rattle.std.specs.Option.{ok_or, option_map}
use Rattle.std.specs.Set.{is_member}
use Rattle.std.specs.FinMap.{get}
use Rattle.std.proofs.lemmas.Bool.{or_left, or_right, or_cases, eq-eqb, and_parts, false≢true}
use Rattle.std.proofs.lemmas.Bool.Decides.{nat_tests}
use Rattle.std.proofs.lemmas.List.{reverse-append}
use Rattle.space_model.specs.declared.command.Input.{Input}
use Rattle.space_model.specs.declared.command.Input.TheVariants.{From, Nil as NilInput, Small as SmallInput}
use Rattle.space_model.specs.declared.command.Operand.{Operand}
use Rattle.space_model.specs.declared.command.Operand.TheVariants.{Root as RootOperand, Word}
use Rattle.space_model.specs.declared.reply.Refusal.{Refusal}
use Rattle.space_model.specs.declared.reply.Refusal.TheVariants.{NoRoot, NoWord, NotObject, NoField}
use Rattle.space_model.specs.declared.value.Value.{Value}
use Rattle.space_model.specs.declared.value.Value.TheVariants.{Nil, Small, Name}
use Rattle.space_model.specs.RootCommands.{field_value}
use Rattle.space_model.specs.ObjectCommands.{written_field}
use Rattle.space_model.specs.Graph.{item_of}
use Rattle.space_model.specs.Operands.{word_value, word_value_in, operand_value, input_value, object_in, field_in}
use Rattle.space_model.specs.Maps.{names_at}
use Rattle.space_model.specs.Refusals.{and_then}
use Rattle.space_model.specs.Roots.{root_value}
use Rattle.space_model.specs.CommandTexts.{IsWritableInput}
use Rattle.space_model.specs.State.{State}
use Rattle.space_model.proofs.Members.{member_cases}
use Rattle.space_model.proofs.ReachedLaws.{member-names_at}

ok_same : (a b : Value) → ◌≡◌ {A = Result Value Refusal} (Ok a) (Ok b) → a ≡ b
ok_same a b e = cc

ok_err : {X : Type 0} (a : X) (why : Refusal) → ◌≡◌ {A = Result X Refusal} (Err why) (Ok a) → ⊥
ok_err a why e = cc

from_option : (found : Option Value) (why : Refusal) (value : Value) → ok_or found why ≡ Ok value → found ≡ Some value
from_option None why value e = absurd (ok_err value why e)
from_option (Some x) why value e = ap Some (ok_same x value e)

pub first_member : (names : List ℕ) (name : ℕ) → slice_get names 0 ≡ Some name → is_member nat_eq names name ≡ true
first_member [] name e = absurd (cc)
first_member (n ∷ names) name e = or_left _ _ (eq-eqb name n (sym (let f : n ≡ name = cc in f)))

half_small : (word : ℕ) → (nat_lt word (2 ^ 63) && (word % 2 == 1)) ≡ true → word / 2 < 2 ^ 62
half_small word e = let p : nat_lt word (2 ^ 63) ≡ true = (and_parts _ _ e).0 in grind (arith, nat_tests, p)

word_member : (words : List ℕ) (k word : ℕ) → slice_get words k ≡ Some word → is_member nat_eq words word ≡ true
word_member [] k word e = absurd (cc)
word_member (w ∷ words) zero word e = or_left _ _ (eq-eqb word w (sym (let f : w ≡ word = cc in f)))
word_member (w ∷ words) (suc k) word e = or_right (nat_eq word w) _ (word_member words k word e)

member_reverse : (words : List ℕ) (word : ℕ) → is_member nat_eq (reverse words) word ≡ true → is_member nat_eq words word ≡ true
member_reverse [] word m = m
member_reverse (w ∷ words) word m = ⊎_elim
    (λ before. or_right (nat_eq word w) _ (member_reverse words word before))
    (λ last. ⊎_elim (λ same. or_left _ _ same) (λ none. absurd (false≢true none)) (or_cases _ _ last))
    (member_cases (reverse words) (w ∷ []) word (sym (ap (λ (list : List ℕ). is_member nat_eq list word) (reverse-append (w ∷ []) words)) ∙ m))

-- a word at a place from the top is on the stack
on_stack : (stack : List ℕ) (k word : ℕ) → slice_get (reverse stack) k ≡ Some word → is_member nat_eq stack word ≡ true
on_stack stack k word e = member_reverse stack word (word_member (reverse stack) k word e)

-- a fact of values that roots, named objects and fields keep
pub record IsKeptFact (s : State) (P : Value → Type 0) : Type 0 where
  pub nil : P Nil
  pub small : (number : ℕ) → number < 2 ^ 62 → P (Small number)
  pub named : (word name : ℕ) → is_member nat_eq s.stack word ≡ true → get s.heap.place name ≡ Some word → P (Name name)
  pub root : (root : List ℕ) (value : Value) → root_value s.roots root ≡ Some value → P value
  pub field : (name index : ℕ) (value : Value) → P (Name name) → slice_get (item_of s.graph name).values index ≡ Some value → P value

module _ (s : State) (P : Value → Type 0) (h : IsKeptFact s P) where
  word_name : (word : ℕ) (found : Option ℕ) (value : Value) → is_member nat_eq s.stack word ≡ true → slice_get (names_at s.heap.place word) 0 ≡ found → option_map Name found ≡ Some value → P value
  word_name word None value on e v = absurd (cc)
  word_name word (Some name) value on e v =
      let same : Name name ≡ value = cc in
      subst P same (h.named word name on ((member-names_at s.heap.place word name).0 (first_member (names_at s.heap.place word) name e)))

  word_cases : (word : ℕ) (is_nil is_small : Bool) (value : Value) → is_member nat_eq s.stack word ≡ true → (is_small ≡ true → word / 2 < 2 ^ 62) →
      (if is_nil then Some Nil else if is_small then Some (Small (word / 2)) else option_map Name (slice_get (names_at s.heap.place word) 0)) ≡ Some value →
      P value
  word_cases word true is_small value on low e = let same : Nil ≡ value = cc in subst P same h.nil
  word_cases word false true value on low e = let same : Small (word / 2) ≡ value = cc in subst P same (h.small (word / 2) (low refl))
  word_cases word false false value on low e = word_name word (slice_get (names_at s.heap.place word) 0) value on refl e

  word_holds : (word : ℕ) (value : Value) → is_member nat_eq s.stack word ≡ true → word_value s.heap.place word ≡ Some value → P value
  word_holds word value on e = word_cases word (word == 0) (nat_lt word (2 ^ 63) && (word % 2 == 1)) value on (half_small word) e

  word_in_holds : (found : Option ℕ) (value : Value) → ((word : ℕ) → found ≡ Some word → is_member nat_eq s.stack word ≡ true) →
      word_value_in s.heap.place found ≡ Ok value → P value
  word_in_holds None value on e = absurd (ok_err value NoWord e)
  word_in_holds (Some word) value on e = word_holds word value (on word refl) (from_option (word_value s.heap.place word) NotObject value e)

  pub operand_holds : (operand : Operand) (value : Value) → operand_value s operand ≡ Ok value → P value
  operand_holds (RootOperand name) value e = h.root name value (from_option (root_value s.roots name) NoRoot value e)
  operand_holds (Word k) value e = word_in_holds (slice_get (reverse s.stack) k) value (on_stack s.stack k) e

  pub input_holds : (input : Input) (value : Value) → IsWritableInput input → input_value s input ≡ Ok value → P value
  input_holds (From operand) value i e = operand_holds operand value e
  input_holds NilInput value i e = subst P (ok_same Nil value e) h.nil
  input_holds (SmallInput number) value i e = subst P (ok_same (Small number) value e) (h.small number i)

  field_holds : (name index : ℕ) (value : Value) → P (Name name) → field_in (item_of s.graph name) index ≡ Ok value → P value
  field_holds name index value p e = h.field name index value p (from_option (slice_get (item_of s.graph name).values index) NoField value e)

  object_holds : (value : Value) (name : ℕ) → P value → object_in value ≡ Ok name → P (Name name)
  object_holds Nil name p e = absurd (ok_err name NotObject e)
  object_holds (Small number) name p e = absurd (ok_err name NotObject e)
  object_holds (Name other) name p e = let same : other ≡ name = cc in subst (λ (n : ℕ). P (Name n)) same p

  through_object : (object : Value) (named : Result ℕ Refusal) (index : ℕ) (value : Value) → P object → object_in object ≡ named →
      and_then named (λ name. field_in (item_of s.graph name) index) ≡ Ok value → P value
  through_object object (Err why) index value p o e = absurd (ok_err value why e)
  through_object object (Ok name) index value p o e = field_holds name index value (object_holds object name p o) e

  through_operand : (operand : Operand) (found : Result Value Refusal) (index : ℕ) (value : Value) → operand_value s operand ≡ found →
      field_value s.graph found index ≡ Ok value → P value
  through_operand operand (Err why) index value o e = absurd (ok_err value why e)
  through_operand operand (Ok object) index value o e = through_object object (object_in object) index value (operand_holds operand object o) refl e

  -- of what `load` reads
  pub read_holds : (operand : Operand) (index : ℕ) (value : Value) → field_value s.graph (operand_value s operand) index ≡ Ok value → P value
  read_holds operand index value e = through_operand operand (operand_value s operand) index value refl e

  through_named : (operand : Operand) (found : Result Value Refusal) (name : ℕ) → operand_value s operand ≡ found → and_then found object_in ≡ Ok name →
      P (Name name)
  through_named operand (Err why) name o e = absurd (ok_err name why e)
  through_named operand (Ok object) name o e = object_holds object name (operand_holds operand object o) e

  -- of the object that `unprotect` is given
  pub named_holds : (operand : Operand) (name : ℕ) → and_then (operand_value s operand) object_in ≡ Ok name → P (Name name)
  named_holds operand name e = through_named operand (operand_value s operand) name refl e

  abbrev pub HoldsOfWrite : ℕ × Value → Type 0
  HoldsOfWrite written = P (Name written.0) × P written.1

  write_field : (field : Result Value Refusal) (name : ℕ) (value : Value) (written : ℕ × Value) → P (Name name) → P value →
      and_then field (λ old. Ok (name, value)) ≡ Ok written → HoldsOfWrite written
  write_field (Err why) name value written p q e = absurd (ok_err written why e)
  write_field (Ok old) name value written p q e =
      let same : (name, value) ≡ written = cc in
      subst HoldsOfWrite same (p, q)

  write_object : (object value : Value) (named : Result ℕ Refusal) (index : ℕ) (written : ℕ × Value) → P object → P value → object_in object ≡ named →
      and_then named (λ name. and_then (field_in (item_of s.graph name) index) (λ old. Ok (name, value))) ≡ Ok written → HoldsOfWrite written
  write_object object value (Err why) index written p q o e = absurd (ok_err written why e)
  write_object object value (Ok name) index written p q o e =
      write_field (field_in (item_of s.graph name) index) name value written (object_holds object name p o) q e

  write_values : (object : Operand) (input : Input) (a b : Result Value Refusal) (index : ℕ) (written : ℕ × Value) → IsWritableInput input →
      operand_value s object ≡ a → input_value s input ≡ b → written_field s.graph a index b ≡ Ok written → HoldsOfWrite written
  write_values object input (Ok a) (Ok b) index written i o v e =
      write_object a b (object_in a) index written (operand_holds object a o) (input_holds input b i v) refl e
  write_values object input (Ok a) (Err why) index written i o v e = absurd (ok_err written why e)
  write_values object input (Err why) (Ok b) index written i o v e = absurd (ok_err written why e)
  write_values object input (Err why) (Err other) index written i o v e = absurd (ok_err written _ e)

  -- of the object that `store` writes, and of the value that it writes
  pub write_holds : (object : Operand) (index : ℕ) (input : Input) (written : ℕ × Value) → IsWritableInput input →
      written_field s.graph (operand_value s object) index (input_value s input) ≡ Ok written → HoldsOfWrite written
  write_holds object index input written i e = write_values object input (operand_value s object) (input_value s input) index written i refl refl e
