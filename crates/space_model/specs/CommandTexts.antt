-- How a command is spelled: the words of its form with one space between two, and numbers without leading zeros.
use Rattle.std.specs.Prelude.{ℕ, ◌<◌, ◌^◌, List, [], ◌∷◌, ◌++◌, codes}
use Rattle.space_model.specs.declared.command.Command.{Command}
use Rattle.space_model.specs.declared.command.Input.{Input}
use Rattle.space_model.specs.declared.command.Input.TheVariants.{From, Nil, Small}
use Rattle.space_model.specs.declared.command.Operand.{Operand}
use Rattle.space_model.specs.declared.command.Operand.TheVariants.{Root, Word}
use Rattle.space_model.specs.Grammar.{FormWord, Exactly, IdentWord, Decimal, Base16, OperandWord, InputWord, form_of}
use Rattle.space_model.specs.Idents.{IsIdent}
use Rattle.space_model.specs.Spelling.{Piece, Say, Number, Hex, Called, text_of_pieces}
use Rattle.space_model.specs.Words.{IsSmallInteger}

-- a root by its ident, a stack word by `@` and its place
abbrev pub operand_pieces : Operand → List Piece
operand_pieces (Root name) = Called name ∷ []
operand_pieces (Word place) = Say (codes "@") ∷ Number place ∷ []

-- an operand, `nil`, or `=` and a small integer
abbrev pub input_pieces : Input → List Piece
input_pieces (From operand) = operand_pieces operand
input_pieces Nil = Say (codes "nil") ∷ []
input_pieces (Small number) = Say (codes "=") ∷ Number number ∷ []

-- the pieces of a word of a form
abbrev pub word_pieces : FormWord → List Piece
word_pieces (Exactly text) = Say text ∷ []
word_pieces (IdentWord ident) = Called ident ∷ []
word_pieces (Decimal number) = Number number ∷ []
word_pieces (Base16 number) = Hex number ∷ []
word_pieces (OperandWord operand) = operand_pieces operand
word_pieces (InputWord value) = input_pieces value

-- the pieces of the words, with a space between two
abbrev pub spaced_pieces : List FormWord → List Piece
spaced_pieces [] = []
spaced_pieces (word ∷ []) = word_pieces word
spaced_pieces (word ∷ next ∷ words) = word_pieces word ++ Say (codes " ") ∷ spaced_pieces (next ∷ words)

-- the pieces of the line of a command
abbrev pub command_pieces : Command → List Piece
command_pieces command = spaced_pieces (form_of command)

-- the line of a command, without its LF
abbrev pub command_text : Command → List ℕ
command_text command = text_of_pieces (command_pieces command)

-- the operand can be written: a root by an ident, and the place of a stack word below 2 ^ 64
abbrev pub IsWritableOperand : Operand → Type 0
IsWritableOperand (Root name) = IsIdent name
IsWritableOperand (Word place) = place < 2 ^ 64

-- the value can be written: a small integer has a word
abbrev pub IsWritableInput : Input → Type 0
IsWritableInput (From operand) = IsWritableOperand operand
IsWritableInput Nil = Unit {0}
IsWritableInput (Small number) = IsSmallInteger number

-- the word can be written: an ident, and a number below 2 ^ 64
abbrev pub IsWritableWord : FormWord → Type 0
IsWritableWord (Exactly text) = Unit {0}
IsWritableWord (IdentWord ident) = IsIdent ident
IsWritableWord (Decimal number) = number < 2 ^ 64
IsWritableWord (Base16 number) = number < 2 ^ 64
IsWritableWord (OperandWord operand) = IsWritableOperand operand
IsWritableWord (InputWord value) = IsWritableInput value

-- each of the words can be written
abbrev pub AreWritable : List FormWord → Type 0
AreWritable [] = Unit {0}
AreWritable (word ∷ words) = IsWritableWord word × AreWritable words
