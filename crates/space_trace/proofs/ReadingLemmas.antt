-- A line is at most one command: a function finds the command of the words, where they are one.
use Rattle.std.proofs.Common.{◌≡◌, ℕ, ◌==◌, if◌then◌else◌, Bool, false, true, List, [], ◌∷◌, codes, drop, Option, None, Some, IsTrue, refl, ap, sym, subst, ◌∙◌}
use Rattle.std.proofs.lemmas.Bool.{ne_eqb}
use Rattle.std.proofs.lemmas.Slice.Eq.{bytes_eq-Decides}
use Rattle.std.specs.List.{slice_index, onto_first}
use Rattle.std.specs.Str.{bytes_eq}
use Rattle.std.specs.Str.Parse.{digits_value}
use Rattle.space_model.specs.declared.command.Command.{Command}
use Rattle.space_model.specs.declared.command.Command.TheVariants.{New, Set, DropRoot, Push, Raw, Pop, Store, RawStore, Load, Same, Unprotect}
use Rattle.space_model.specs.declared.command.Command.TheVariants.{Id, ById, WeakSet, WeakGet, WeakKey, WeakSize, WeakDelete}
use Rattle.space_model.specs.declared.command.Command.TheVariants.{Final, Unfinal, Run, Minor, Gc, Major, Mark, Finish, Sweep, Compact, Move, Fix, Stat, Dump, Peek, Exit}
use Rattle.space_model.specs.declared.command.Input.{Input}
use Rattle.space_model.specs.declared.command.Input.TheVariants.{From, Nil, Small}
use Rattle.space_model.specs.declared.command.Operand.{Operand}
use Rattle.space_model.specs.declared.command.Operand.TheVariants.{Root, Word}
use Rattle.space_model.specs.declared.object.Guard.{Guard}
use Rattle.space_model.specs.declared.object.Guard.TheVariants.{Protected, Unprotected}
use Rattle.space_model.specs.declared.object.Style.{Style}
use Rattle.space_model.specs.declared.object.Style.TheVariants.{Movable, Keeping}
use Rattle.space_model.specs.Given.{IsGiven}
use Rattle.space_model.specs.Grammar.{IsHex, IsOperand, IsInput, IsCommand, IsBlank, IsReading, AreCommands, Commands, words_of, without_cr, guard_word, style_word}
use Rattle.space_model.specs.Idents.{IsIdent, is_first_byte}
use Rattle.space_model.specs.Lines.{lines_of}
use Rattle.space_model.specs.CommandTexts.{command_text}
use Rattle.space_trace.proofs.SpellingLemmas.{spelling_is_read}

-- Each function below finds what a word is, or what words are, and anything where they are nothing.

abbrev operand_of : List ℕ → Operand
operand_of word = if slice_index word 0 == 64 then Word (digits_value 10 (drop 1 word)) else Root word

abbrev input_of : List ℕ → Input
input_of word = if bytes_eq word (codes "nil") then Nil else if slice_index word 0 == 61 then Small (digits_value 10 (drop 1 word)) else From (operand_of word)

abbrev guard_of : List ℕ → Guard
guard_of word = if bytes_eq word (codes "P") then Protected else Unprotected

abbrev style_of : List ℕ → Style
style_of word = if bytes_eq word (codes "M") then Movable else Keeping

abbrev new_of : List (List ℕ) → Option Command
new_of (root ∷ fields ∷ guard ∷ style ∷ rest) = Some (New root (digits_value 10 fields) (guard_of guard) (style_of style))
new_of _ = None

abbrev set_of : List (List ℕ) → Option Command
set_of (root ∷ value ∷ rest) = Some (Set root (input_of value))
set_of _ = None

abbrev drop_of : List (List ℕ) → Option Command
drop_of (root ∷ rest) = Some (DropRoot root)
drop_of _ = None

abbrev push_of : List (List ℕ) → Option Command
push_of (value ∷ rest) = Some (Push (input_of value))
push_of _ = None

abbrev raw_of : List (List ℕ) → Option Command
raw_of (word ∷ rest) = Some (Raw (digits_value 16 (drop 2 word)))
raw_of _ = None

abbrev store_of : List (List ℕ) → Option Command
store_of (object ∷ index ∷ value ∷ rest) = Some (Store (operand_of object) (digits_value 10 index) (input_of value))
store_of _ = None

abbrev raw_store_of : List (List ℕ) → Option Command
raw_store_of (object ∷ index ∷ value ∷ rest) = Some (RawStore (operand_of object) (digits_value 10 index) (input_of value))
raw_store_of _ = None

abbrev load_of : List (List ℕ) → Option Command
load_of (root ∷ object ∷ index ∷ rest) = Some (Load root (operand_of object) (digits_value 10 index))
load_of _ = None

abbrev same_of : List (List ℕ) → Option Command
same_of (left ∷ right ∷ rest) = Some (Same (operand_of left) (operand_of right))
same_of _ = None

abbrev unprotect_of : List (List ℕ) → Option Command
unprotect_of (object ∷ rest) = Some (Unprotect (operand_of object))
unprotect_of _ = None

abbrev id_of : List (List ℕ) → Option Command
id_of (object ∷ rest) = Some (Id (operand_of object))
id_of _ = None

abbrev by_id_of : List (List ℕ) → Option Command
by_id_of (root ∷ id ∷ rest) = Some (ById root (digits_value 10 id))
by_id_of _ = None

abbrev weak_set_of : List (List ℕ) → Option Command
weak_set_of (weak ∷ key ∷ value ∷ rest) = Some (WeakSet weak (operand_of key) (operand_of value))
weak_set_of _ = None

abbrev weak_get_of : List (List ℕ) → Option Command
weak_get_of (root ∷ weak ∷ key ∷ rest) = Some (WeakGet root weak (operand_of key))
weak_get_of _ = None

abbrev weak_key_of : List (List ℕ) → Option Command
weak_key_of (weak ∷ key ∷ rest) = Some (WeakKey weak (operand_of key))
weak_key_of _ = None

abbrev weak_size_of : List (List ℕ) → Option Command
weak_size_of (weak ∷ rest) = Some (WeakSize weak)
weak_size_of _ = None

abbrev weak_delete_of : List (List ℕ) → Option Command
weak_delete_of (weak ∷ key ∷ rest) = Some (WeakDelete weak (operand_of key))
weak_delete_of _ = None

abbrev final_of : List (List ℕ) → Option Command
final_of (object ∷ label ∷ rest) = Some (Final (operand_of object) label)
final_of _ = None

abbrev unfinal_of : List (List ℕ) → Option Command
unfinal_of (object ∷ rest) = Some (Unfinal (operand_of object))
unfinal_of _ = None

abbrev run_of : List (List ℕ) → Option Command
run_of (count ∷ rest) = Some (Run (digits_value 10 count))
run_of _ = None

abbrev peek_of : List (List ℕ) → Option Command
peek_of (object ∷ rest) = Some (Peek (operand_of object))
peek_of _ = None

abbrev mark_of : List (List ℕ) → Option Command
mark_of (count ∷ rest) = Some (Mark (digits_value 10 count))
mark_of _ = None

abbrev sweep_of : List (List ℕ) → Option Command
sweep_of (count ∷ rest) = Some (Sweep (digits_value 10 count))
sweep_of _ = None

abbrev move_of : List (List ℕ) → Option Command
move_of (count ∷ rest) = Some (Move (digits_value 10 count))
move_of _ = None

abbrev fix_of : List (List ℕ) → Option Command
fix_of (count ∷ rest) = Some (Fix (digits_value 10 count))
fix_of _ = None

abbrev form_of : List ℕ → List (List ℕ) → Option Command
form_of name words =
    if bytes_eq name (codes "new") then new_of words
    else if bytes_eq name (codes "set") then set_of words
    else if bytes_eq name (codes "drop") then drop_of words
    else if bytes_eq name (codes "push") then push_of words
    else if bytes_eq name (codes "raw") then raw_of words
    else if bytes_eq name (codes "pop") then Some Pop
    else if bytes_eq name (codes "store") then store_of words
    else if bytes_eq name (codes "rawstore") then raw_store_of words
    else if bytes_eq name (codes "load") then load_of words
    else if bytes_eq name (codes "same") then same_of words
    else if bytes_eq name (codes "unprotect") then unprotect_of words
    else if bytes_eq name (codes "id") then id_of words
    else if bytes_eq name (codes "byid") then by_id_of words
    else if bytes_eq name (codes "wset") then weak_set_of words
    else if bytes_eq name (codes "wget") then weak_get_of words
    else if bytes_eq name (codes "wkey") then weak_key_of words
    else if bytes_eq name (codes "wsize") then weak_size_of words
    else if bytes_eq name (codes "wdel") then weak_delete_of words
    else if bytes_eq name (codes "final") then final_of words
    else if bytes_eq name (codes "unfinal") then unfinal_of words
    else if bytes_eq name (codes "run") then run_of words
    else if bytes_eq name (codes "minor") then Some Minor
    else if bytes_eq name (codes "gc") then Some Gc
    else if bytes_eq name (codes "major") then Some Major
    else if bytes_eq name (codes "mark") then mark_of words
    else if bytes_eq name (codes "finish") then Some Finish
    else if bytes_eq name (codes "sweep") then sweep_of words
    else if bytes_eq name (codes "compact") then Some Compact
    else if bytes_eq name (codes "move") then move_of words
    else if bytes_eq name (codes "fix") then fix_of words
    else if bytes_eq name (codes "stat") then Some Stat
    else if bytes_eq name (codes "dump") then Some Dump
    else if bytes_eq name (codes "peek") then peek_of words
    else if bytes_eq name (codes "exit") then Some Exit
    else None

abbrev command_of : List (List ℕ) → Option Command
command_of [] = None
command_of (name ∷ words) = form_of name words

differ : false ≡ true → ⊥
differ e = cc

same_false : (b : Bool) → (b ≡ true → ⊥) → b ≡ false
same_false true h = absurd (h refl)
same_false false h = refl

not_nil : (word : List ℕ) → IsIdent word → bytes_eq word (codes "nil") ≡ false
not_nil word h = same_false (bytes_eq word (codes "nil")) (λ e. h.not_nil ((bytes_eq-Decides word (codes "nil")).0 e))

not_small : (word : List ℕ) → IsIdent word → (slice_index word 0 == 61) ≡ false
not_small word h = ne_eqb _ 61 (λ e. differ (subst (λ (x : ℕ). IsTrue (is_first_byte x)) e h.first))

not_place : (word : List ℕ) → IsIdent word → (slice_index word 0 == 64) ≡ false
not_place word h = ne_eqb _ 64 (λ e. differ (subst (λ (x : ℕ). IsTrue (is_first_byte x)) e h.first))

operand_is : (word : List ℕ) (operand : Operand) → IsOperand word operand → operand_of word ≡ operand
operand_is word (Root name) h = rw (h.0, not_place name h.1) refl
operand_is word (Word place) h = rw h.1 (ap Word (sym h.2.value))

input_is : (word : List ℕ) (value : Input) → IsInput word value → input_of word ≡ value
input_is word (From (Root name)) h = rw (h.0, not_nil name h.1, not_small name h.1, not_place name h.1) refl
input_is word (From (Word place)) h = rw h.1 (ap (λ (n : ℕ). From (Word n)) (sym h.2.value))
input_is word Nil h = rw h refl
input_is word (Small number) h = rw h.1 (ap Small (sym h.2.value))

raw_is : (text : List ℕ) (word : ℕ) → IsHex text word → raw_of (text ∷ []) ≡ Some (Raw word)
raw_is text word h = rw h.is (ap (λ (n : ℕ). Some (Raw n)) (sym h.value))

guard_is : (guard : Guard) → guard_of (guard_word guard) ≡ guard
guard_is Protected = refl
guard_is Unprotected = refl

style_is : (style : Style) → style_of (style_word style) ≡ style
style_is Movable = refl
style_is Keeping = refl

-- the command that words are is the one that is found
pub command_is : (words : List (List ℕ)) (command : Command) → IsCommand words command → command_of words ≡ Some command
command_is words (New root fields guard style) (_, _, e, f, (_, _, e1, f1, (_, _, e2, f2, (_, _, e3, f3, (_, _, e4, f4, _))))) =
    rw (e, f, e1, e2, e3, e4, f1.0, f2.value, f3, f4, guard_is guard, style_is style) refl
command_is words (Set root value) (_, _, e, f, (_, _, e1, f1, (v, _, e2, f2, _))) = rw (e, f, e1, e2, f1.0, input_is v value f2) refl
command_is words (DropRoot root) (_, _, e, f, (_, _, e1, f1, _)) = rw (e, f, e1, f1.0) refl
command_is words (Push value) (_, _, e, f, (v, _, e1, f1, _)) = rw (e, f, e1, input_is v value f1) refl
command_is words (Raw word) (_, _, e, f, (w, _, e1, f1, _)) = rw (e, f, e1) (raw_is w word f1)
command_is words Pop (_, _, e, f, _) = rw (e, f) refl
command_is words (Store object index value) (_, _, e, f, (a, _, e1, f1, (_, _, e2, f2, (v, _, e3, f3, _)))) =
    rw (e, f, e1, e2, e3, operand_is a object f1, f2.value, input_is v value f3) refl
command_is words (RawStore object index value) (_, _, e, f, (a, _, e1, f1, (_, _, e2, f2, (v, _, e3, f3, _)))) =
    rw (e, f, e1, e2, e3, operand_is a object f1, f2.value, input_is v value f3) refl
command_is words (Load root object index) (_, _, e, f, (_, _, e1, f1, (a, _, e2, f2, (_, _, e3, f3, _)))) =
    rw (e, f, e1, e2, e3, f1.0, operand_is a object f2, f3.value) refl
command_is words (Same left right) (_, _, e, f, (a, _, e1, f1, (b, _, e2, f2, _))) = rw (e, f, e1, e2, operand_is a left f1, operand_is b right f2) refl
command_is words (Unprotect object) (_, _, e, f, (a, _, e1, f1, _)) = rw (e, f, e1, operand_is a object f1) refl
command_is words (Id object) (_, _, e, f, (a, _, e1, f1, _)) = rw (e, f, e1, operand_is a object f1) refl
command_is words (ById root id) (_, _, e, f, (_, _, e1, f1, (_, _, e2, f2, _))) = rw (e, f, e1, e2, f1.0, f2.value) refl
command_is words (WeakSet weak key value) (_, _, e, f, (_, _, e1, f1, (a, _, e2, f2, (b, _, e3, f3, _)))) =
    rw (e, f, e1, e2, e3, f1.0, operand_is a key f2, operand_is b value f3) refl
command_is words (WeakGet root weak key) (_, _, e, f, (_, _, e1, f1, (_, _, e2, f2, (a, _, e3, f3, _)))) =
    rw (e, f, e1, e2, e3, f1.0, f2.0, operand_is a key f3) refl
command_is words (WeakKey weak key) (_, _, e, f, (_, _, e1, f1, (a, _, e2, f2, _))) = rw (e, f, e1, e2, f1.0, operand_is a key f2) refl
command_is words (WeakSize weak) (_, _, e, f, (_, _, e1, f1, _)) = rw (e, f, e1, f1.0) refl
command_is words (WeakDelete weak key) (_, _, e, f, (_, _, e1, f1, (a, _, e2, f2, _))) = rw (e, f, e1, e2, f1.0, operand_is a key f2) refl
command_is words (Final object label) (_, _, e, f, (a, _, e1, f1, (_, _, e2, f2, _))) = rw (e, f, e1, e2, operand_is a object f1, f2.0) refl
command_is words (Unfinal object) (_, _, e, f, (a, _, e1, f1, _)) = rw (e, f, e1, operand_is a object f1) refl
command_is words (Run count) (_, _, e, f, (_, _, e1, f1, _)) = rw (e, f, e1, f1.value) refl
command_is words Minor (_, _, e, f, _) = rw (e, f) refl
command_is words Gc (_, _, e, f, _) = rw (e, f) refl
command_is words Major (_, _, e, f, _) = rw (e, f) refl
command_is words (Mark count) (_, _, e, f, (_, _, e1, f1, _)) = rw (e, f, e1, f1.value) refl
command_is words Finish (_, _, e, f, _) = rw (e, f) refl
command_is words (Sweep count) (_, _, e, f, (_, _, e1, f1, _)) = rw (e, f, e1, f1.value) refl
command_is words Compact (_, _, e, f, _) = rw (e, f) refl
command_is words (Move count) (_, _, e, f, (_, _, e1, f1, _)) = rw (e, f, e1, f1.value) refl
command_is words (Fix count) (_, _, e, f, (_, _, e1, f1, _)) = rw (e, f, e1, f1.value) refl
command_is words Stat (_, _, e, f, _) = rw (e, f) refl
command_is words Dump (_, _, e, f, _) = rw (e, f) refl
command_is words (Peek object) (_, _, e, f, (a, _, e1, f1, _)) = rw (e, f, e1, operand_is a object f1) refl
command_is words Exit (_, _, e, f, _) = rw (e, f) refl

-- a blank has no words of a command
comment_is : (words : List (List ℕ)) → command_of (onto_first 59 words) ≡ None
comment_is [] = refl
comment_is (word ∷ words) = refl

blank_is : (line : List ℕ) → IsBlank line → command_of (words_of line) ≡ None
blank_is [] h = refl
blank_is (b ∷ line) h = rw h (comment_is (words_of line))

pub reading_is : (line : List ℕ) (found : Option Command) → IsReading line found → command_of (words_of (without_cr line)) ≡ found
reading_is line None h = blank_is (without_cr line) h
reading_is line (Some command) h = command_is (words_of (without_cr line)) command h

pub readings_same : (line : List ℕ) (a b : Option Command) → IsReading line a → IsReading line b → a ≡ b
readings_same line a b h k = sym (reading_is line a h) ∙ reading_is line b k

lines_same : (lines : List (List ℕ)) (a b : List Command) → AreCommands lines a → AreCommands lines b → a ≡ b
lines_same [] a b h k = h ∙ sym k
lines_same (line ∷ lines) a b (found, rest, _, reading, whole, more) (found', rest', _, reading', whole', more') =
    rw (whole, whole', readings_same line found found' reading reading', lines_same lines rest rest' more more') refl

pub commands_same : (bytes : List ℕ) (a b : List Command) → Commands bytes a → Commands bytes b → a ≡ b
commands_same bytes a b h k = lines_same (lines_of bytes) a b h k

some_same : (a b : Command) → ◌≡◌ {A = Option Command} (Some a) (Some b) → a ≡ b
some_same a b e = cc

pub spellings_differ : (a b : Command) → IsGiven a → IsGiven b → command_text a ≡ command_text b → a ≡ b
spellings_differ a b w v e =
    let first : IsReading (command_text b) (Some a) = subst (λ (line : List ℕ). IsReading line (Some a)) e (spelling_is_read a w) in
    some_same a b (readings_same (command_text b) (Some a) (Some b) first (spelling_is_read b v))

-- what isn't spelled in base 16 is no word of `raw`
no_raw_word : (word : List ℕ) → ((number : ℕ) → IsHex word number → ⊥) → (command : Command) → IsCommand (codes "raw" ∷ word ∷ []) command → ⊥
no_raw_word word none command h =
    let n = digits_value 16 (drop 2 word) in
    let same : Raw n ≡ command = some_same (Raw n) command (command_is (codes "raw" ∷ word ∷ []) command h) in
    is_hex n (subst (λ (c : Command). IsCommand (codes "raw" ∷ word ∷ []) c) (sym same) h)
  where
    is_hex : (n : ℕ) → IsCommand (codes "raw" ∷ word ∷ []) (Raw n) → ⊥
    is_hex n (_, _, e, _, (text, _, e1, f1, _)) =
        let w : text ≡ word = (let both = e in let other = e1 in cc) in
        none n (subst (λ (text : List ℕ). IsHex text n) w f1)

pub no_raw : (words : List (List ℕ)) (word : List ℕ) → words ≡ word ∷ [] → ((number : ℕ) → IsHex word number → ⊥) → (command : Command) →
    IsCommand (codes "raw" ∷ words) command → ⊥
no_raw words word e none command h = no_raw_word word none command (rw e at h)
