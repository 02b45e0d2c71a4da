-- What the lines of an input give can be written: idents, numbers below 2 ^ 64, and small integers below 2 ^ 62.
use Rattle.std.proofs.Common.{◌≡◌, ℕ, suc, ◌+◌, ◌*◌, ◌<◌, ◌≤◌, ◌^◌, List, [], ◌∷◌, ◌++◌, length, IsTrue, lit≤, sym, subst, arith, Option, None, Some}
use Rattle.std.specs.Char.{digit_value}
use Rattle.std.specs.List.{All}
use Rattle.std.specs.Option.{option_to_list}
use Rattle.std.specs.Str.Parse.{digits_value_after}
use Rattle.std.proofs.Math.Nat.{pow-suc, pow-le-pow_right}
use Rattle.std.proofs.lemmas.Bool.Decides.{nat_tests}
use Rattle.std.proofs.lemmas.List.Elements.{All-head, All-tail}
use Rattle.space_model.specs.declared.command.Command.{Command}
use Rattle.space_model.specs.declared.command.Input.{Input}
use Rattle.space_model.specs.declared.command.Input.TheVariants.{From, Nil, Small}
use Rattle.space_model.specs.declared.command.Operand.{Operand}
use Rattle.space_model.specs.declared.command.Operand.TheVariants.{Root, Word}
use Rattle.space_model.specs.CommandTexts.{IsWritableOperand, IsWritableInput, IsWritableWord, AreWritable}
use Rattle.space_model.specs.Given.{IsGiven, AreGiven}
use Rattle.space_model.specs.Grammar.{FormWord, Exactly, IdentWord, Decimal, Base16, OperandWord, InputWord, IsHex, is_hex_digit, IsOperand, IsInput, IsFormWord, AreFormWords, IsCommand, IsReading, AreCommands, Commands, form_of}
use Rattle.space_model.specs.Lines.{lines_of}

operand_given : (text : List ℕ) (operand : Operand) → IsOperand text operand → IsWritableOperand operand
operand_given text (Root name) (_, ident) = ident
operand_given text (Word place) (digits, _, number) = number.fits

input_given : (text : List ℕ) (input : Input) → IsInput text input → IsWritableInput input
input_given text (From operand) i = operand_given text operand i
input_given text Nil i = tt
input_given text (Small number) (digits, _, _, small) = small

digit_low : (d : ℕ) → IsTrue (is_hex_digit d) → digit_value d < 16
digit_low d h = grind (arith, nat_tests, h)

hex_below : (j n : ℕ) (digits : List ℕ) → n < 16 ^ j → All (λ b. IsTrue (is_hex_digit b)) digits → digits_value_after 16 n digits < 16 ^ (j + length digits)
hex_below j n [] h all = subst (λ (k : ℕ). n < 16 ^ k) (omega arith) h
hex_below j n (d ∷ digits) h all =
    let low = digit_low d (All-head (λ b. IsTrue (is_hex_digit b)) d digits all) in
    let next : n * 16 + digit_value d < 16 ^ suc j = omega (arith, pow-suc 16 j, h, low) in
    subst (λ (k : ℕ). digits_value_after 16 (n * 16 + digit_value d) digits < 16 ^ k) (omega arith)
    (hex_below (suc j) (n * 16 + digit_value d) digits next (All-tail (λ b. IsTrue (is_hex_digit b)) d digits all))

-- 16 digits in base 16 are of a number below 2 ^ 64
hex_fits : (text : List ℕ) (number : ℕ) → IsHex text number → number < 2 ^ 64
hex_fits text number h =
    let from : 0 + length h.digits ≡ length h.digits = omega arith in
    let below : digits_value_after 16 0 h.digits < 16 ^ length h.digits =
    subst (λ (k : ℕ). digits_value_after 16 0 h.digits < 16 ^ k) from (hex_below 0 0 h.digits (lit≤ tt) h.are_digits) in
    let most : 16 ^ length h.digits ≤ 16 ^ 16 = pow-le-pow_right (lit≤ tt) h.short in
    omega (arith, h.value, below, most)

word_given : (text : List ℕ) (word : FormWord) → IsFormWord text word → IsWritableWord word
word_given text (Exactly fixed) i = tt
word_given text (IdentWord ident) (_, is) = is
word_given text (Decimal number) i = i.fits
word_given text (Base16 number) i = hex_fits text number i
word_given text (OperandWord operand) i = operand_given text operand i
word_given text (InputWord value) i = input_given text value i

words_given : (texts : List (List ℕ)) (words : List FormWord) → AreFormWords texts words → AreWritable words
words_given texts [] h = tt
words_given texts (word ∷ words) (text, others, _, first, later) = (word_given text word first, words_given others words later)

-- what a line is given by its words
pub command_given : (words : List (List ℕ)) (command : Command) → IsCommand words command → IsGiven command
command_given words command forms = words_given words (form_of command) forms

found_given : (line : List ℕ) (found : Option Command) (rest : List Command) → IsReading line found → AreGiven rest →
    AreGiven (option_to_list found ++ rest)
found_given line None rest r given = given
found_given line (Some command) rest r given = (command_given _ command r, given)

lines_given : (lines : List (List ℕ)) (commands : List Command) → AreCommands lines commands → AreGiven commands
lines_given [] commands e = subst AreGiven (sym e) tt
lines_given (line ∷ lines) commands (found, rest, short, reading, is, later) =
    subst AreGiven (sym is) (found_given line found rest reading (lines_given lines rest later))

pub commands_given : (bytes : List ℕ) (commands : List Command) → Commands bytes commands → AreGiven commands
commands_given bytes commands c = lines_given (lines_of bytes) commands c
