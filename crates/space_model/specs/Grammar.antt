-- The lines of a trace, and the commands that they are: one row a form. The language is this project's own.
use Rattle.std.specs.Prelude.{◌≡◌, ℕ, ◌^◌, ◌<◌, ◌≤◌, ◌==◌, Bool, ◌&&◌, ◌||◌, nat_le, IsTrue, if◌then◌else◌, List, [], ◌∷◌, ◌++◌, length, codes, Option, None, Some}
use Rattle.std.specs.Option.{option_to_list}
use Rattle.std.specs.List.{slice_split, All}
use Rattle.std.specs.Str.Parse.{AllDigits, digits_value}
use Rattle.space_model.specs.declared.command.Command.{Command}
use Rattle.space_model.specs.declared.command.Command.TheVariants.{New, Set, DropRoot, Push, Raw, Pop, Store, RawStore, Load, Same, Unprotect}
use Rattle.space_model.specs.declared.command.Command.TheVariants.{Id, ById, WeakSet, WeakGet, WeakKey, WeakSize, WeakDelete}
use Rattle.space_model.specs.declared.command.Command.TheVariants.{Final, Unfinal, Run, Minor, Gc, Major, Mark, Finish, Sweep, Compact, Move, Fix, Stat, Dump, Peek, Exit}
use Rattle.space_model.specs.declared.command.Input.{Input}
use Rattle.space_model.specs.declared.command.Input.TheVariants.{From, Nil, Small}
use Rattle.space_model.specs.declared.command.Operand.{Operand}
use Rattle.space_model.specs.declared.command.Operand.TheVariants.{Root, Word}
use Rattle.space_model.specs.declared.object.Guard.{Guard}
use Rattle.space_model.specs.declared.object.Guard.TheVariants.{Protected, Unprotected}
use Rattle.space_model.specs.declared.object.Style.{Style}
use Rattle.space_model.specs.declared.object.Style.TheVariants.{Movable, Keeping}
use Rattle.space_model.specs.Idents.{IsIdent}
use Rattle.space_model.specs.Lines.{lines_of, most_line_bytes}
use Rattle.space_model.specs.Words.{IsSmallInteger}

-- the line without one CR at its end
abbrev pub without_cr : List ℕ → List ℕ
without_cr [] = []
without_cr (b ∷ []) = if b == 13 then [] else b ∷ []
without_cr (b ∷ c ∷ line) = b ∷ without_cr (c ∷ line)

-- the words of a line, cut at each space
abbrev pub words_of : List ℕ → List (List ℕ)
words_of line = slice_split (λ b. b == 32) line

-- 1 to 20 digits of a number below 2 ^ 64
pub record IsNumber (text : List ℕ) (number : ℕ) : Type 0 where
  pub some : 0 < length text
  pub short : length text ≤ 20
  pub digits : AllDigits 10 text
  pub value : number ≡ digits_value 10 text
  pub fits : number < 2 ^ 64

-- a digit in base 16, of which the letters are small
abbrev pub is_hex_digit : ℕ → Bool
is_hex_digit b = (nat_le 48 b && nat_le b 57) || (nat_le 97 b && nat_le b 102)

-- `0x` and 1 to 16 digits in base 16
pub record IsHex (text : List ℕ) (number : ℕ) : Type 0 where
  pub digits : List ℕ
  pub is : text ≡ codes "0x" ++ digits
  pub some : 0 < length digits
  pub short : length digits ≤ 16
  pub are_digits : All (λ b. IsTrue (is_hex_digit b)) digits
  pub value : number ≡ digits_value 16 digits

-- the word is an operand: an ident, or `@` and the place of a stack word
abbrev pub IsOperand : List ℕ → Operand → Type 0
IsOperand word (Root name) = (word ≡ name) × IsIdent name
IsOperand word (Word place) = (digits : List ℕ) × (word ≡ 64 ∷ digits) × IsNumber digits place

-- the word is a value: an operand, `nil`, or `=` and a small integer
abbrev pub IsInput : List ℕ → Input → Type 0
IsInput word (From operand) = IsOperand word operand
IsInput word Nil = word ≡ codes "nil"
IsInput word (Small number) = (digits : List ℕ) × (word ≡ 61 ∷ digits) × IsNumber digits number × IsSmallInteger number

-- a word of a form: fixed bytes, or what the command is given there
pub data FormWord : Type 0 where
  Exactly : (text : List ℕ) → FormWord
  IdentWord : (ident : List ℕ) → FormWord
  Decimal : (number : ℕ) → FormWord
  Base16 : (number : ℕ) → FormWord
  OperandWord : (operand : Operand) → FormWord
  InputWord : (value : Input) → FormWord

-- `P` or `U`
abbrev pub guard_word : Guard → List ℕ
guard_word Protected = codes "P"
guard_word Unprotected = codes "U"

-- `M` or `K`
abbrev pub style_word : Style → List ℕ
style_word Movable = codes "M"
style_word Keeping = codes "K"

-- the words of a command: one row a form
abbrev pub form_of : Command → List FormWord
form_of (New root fields guard style) =
    Exactly (codes "new") ∷ IdentWord root ∷ Decimal fields ∷ Exactly (guard_word guard) ∷ Exactly (style_word style) ∷ []
form_of (Set root value) = Exactly (codes "set") ∷ IdentWord root ∷ InputWord value ∷ []
form_of (DropRoot root) = Exactly (codes "drop") ∷ IdentWord root ∷ []
form_of (Push value) = Exactly (codes "push") ∷ InputWord value ∷ []
form_of (Raw word) = Exactly (codes "raw") ∷ Base16 word ∷ []
form_of Pop = Exactly (codes "pop") ∷ []
form_of (Store object index value) = Exactly (codes "store") ∷ OperandWord object ∷ Decimal index ∷ InputWord value ∷ []
form_of (RawStore object index value) = Exactly (codes "rawstore") ∷ OperandWord object ∷ Decimal index ∷ InputWord value ∷ []
form_of (Load root object index) = Exactly (codes "load") ∷ IdentWord root ∷ OperandWord object ∷ Decimal index ∷ []
form_of (Same left right) = Exactly (codes "same") ∷ OperandWord left ∷ OperandWord right ∷ []
form_of (Unprotect object) = Exactly (codes "unprotect") ∷ OperandWord object ∷ []
form_of (Id object) = Exactly (codes "id") ∷ OperandWord object ∷ []
form_of (ById root id) = Exactly (codes "byid") ∷ IdentWord root ∷ Decimal id ∷ []
form_of (WeakSet weak key value) = Exactly (codes "wset") ∷ IdentWord weak ∷ OperandWord key ∷ OperandWord value ∷ []
form_of (WeakGet root weak key) = Exactly (codes "wget") ∷ IdentWord root ∷ IdentWord weak ∷ OperandWord key ∷ []
form_of (WeakKey weak key) = Exactly (codes "wkey") ∷ IdentWord weak ∷ OperandWord key ∷ []
form_of (WeakSize weak) = Exactly (codes "wsize") ∷ IdentWord weak ∷ []
form_of (WeakDelete weak key) = Exactly (codes "wdel") ∷ IdentWord weak ∷ OperandWord key ∷ []
form_of (Final object label) = Exactly (codes "final") ∷ OperandWord object ∷ IdentWord label ∷ []
form_of (Unfinal object) = Exactly (codes "unfinal") ∷ OperandWord object ∷ []
form_of (Run count) = Exactly (codes "run") ∷ Decimal count ∷ []
form_of Minor = Exactly (codes "minor") ∷ []
form_of Gc = Exactly (codes "gc") ∷ []
form_of Major = Exactly (codes "major") ∷ []
form_of (Mark count) = Exactly (codes "mark") ∷ Decimal count ∷ []
form_of Finish = Exactly (codes "finish") ∷ []
form_of (Sweep count) = Exactly (codes "sweep") ∷ Decimal count ∷ []
form_of Compact = Exactly (codes "compact") ∷ []
form_of (Move count) = Exactly (codes "move") ∷ Decimal count ∷ []
form_of (Fix count) = Exactly (codes "fix") ∷ Decimal count ∷ []
form_of Stat = Exactly (codes "stat") ∷ []
form_of Dump = Exactly (codes "dump") ∷ []
form_of (Peek object) = Exactly (codes "peek") ∷ OperandWord object ∷ []
form_of Exit = Exactly (codes "exit") ∷ []

-- the text is this word
abbrev pub IsFormWord : List ℕ → FormWord → Type 0
IsFormWord text (Exactly word) = text ≡ word
IsFormWord text (IdentWord ident) = (text ≡ ident) × IsIdent ident
IsFormWord text (Decimal number) = IsNumber text number
IsFormWord text (Base16 number) = IsHex text number
IsFormWord text (OperandWord operand) = IsOperand text operand
IsFormWord text (InputWord value) = IsInput text value

-- the texts are these words, one by one
abbrev pub AreFormWords : List (List ℕ) → List FormWord → Type 0
AreFormWords texts [] = texts ≡ []
AreFormWords texts (word ∷ words) =
    (text : List ℕ) × (others : List (List ℕ)) × (texts ≡ text ∷ others) × IsFormWord text word × AreFormWords others words

-- the words are a command
abbrev pub IsCommand : List (List ℕ) → Command → Type 0
IsCommand words command = AreFormWords words (form_of command)

-- a line that is no command and has no answer: it is empty, or begins with `;`
abbrev pub IsBlank : List ℕ → Type 0
IsBlank [] = Unit {0}
IsBlank (b ∷ line) = b ≡ 59

-- what a line is, when one CR at its end is dropped: a command, or a blank
abbrev pub IsReading : List ℕ → Option Command → Type 0
IsReading line None = IsBlank (without_cr line)
IsReading line (Some command) = IsCommand (words_of (without_cr line)) command

-- what the lines are, one after another; a CR counts among the bytes of its line
abbrev pub AreCommands : List (List ℕ) → List Command → Type 0
AreCommands [] commands = commands ≡ []
AreCommands (line ∷ lines) commands =
    (found : Option Command) × (rest : List Command) × (length line ≤ most_line_bytes) × IsReading line found
    × (commands ≡ option_to_list found ++ rest) × AreCommands lines rest

-- the commands of the bytes of an input
abbrev pub Commands : List ℕ → List Command → Type 0
Commands bytes commands = AreCommands (lines_of bytes) commands
