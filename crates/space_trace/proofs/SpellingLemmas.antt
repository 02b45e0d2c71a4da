-- The spelling of a command, cut into words.
use Rattle.std.proofs.Common.{◌≡◌, ◌==◌, ◌&&◌, if◌then◌else◌, Bool, ℕ, ◌^◌, ◌<◌, false, true, List, [], ◌∷◌, ◌++◌, codes, map, Some, IsTrue, refl, ap, sym, subst, ◌∙◌, arith, lit≤}
use Rattle.std.proofs.lemmas.Bool.{ne_eqb, and_parts}
use Rattle.std.proofs.lemmas.Fmt.{decimal_is_IsNumeral, length-decimal-le}
use Rattle.std.proofs.lemmas.List.{append-nil}
use Rattle.std.proofs.lemmas.List.Elements.{All-head, All-tail}
use Rattle.std.proofs.lemmas.Str.Parse.{digit_from_value}
use Rattle.std.specs.Fmt.{decimal}
use Rattle.std.specs.List.{All}
use Rattle.std.specs.Str.Parse.{AllDigits}
use Rattle.space_model.specs.declared.command.Command.{Command}
use Rattle.space_model.specs.declared.command.Command.TheVariants.{New, Gc}
use Rattle.space_model.specs.declared.object.Guard.TheVariants.{Protected, Unprotected}
use Rattle.space_model.specs.declared.object.Style.TheVariants.{Movable, Keeping}
use Rattle.space_model.specs.declared.command.Input.{Input}
use Rattle.space_model.specs.declared.command.Input.TheVariants.{From, Nil, Small}
use Rattle.space_model.specs.declared.command.Operand.{Operand}
use Rattle.space_model.specs.declared.command.Operand.TheVariants.{Root, Word}
use Rattle.space_model.specs.CommandTexts.{operand_pieces, input_pieces, word_pieces, spaced_pieces, command_text, IsWritableOperand, IsWritableInput, IsWritableWord, AreWritable}
use Rattle.space_model.specs.Given.{IsGiven}
use Rattle.space_model.specs.Grammar.{FormWord, Exactly, IdentWord, Decimal, Base16, OperandWord, InputWord, form_of, IsNumber, IsOperand, IsInput, IsFormWord, AreFormWords, IsReading, words_of, without_cr}
use Rattle.space_model.specs.Idents.{IsIdent, is_later_byte}
use Rattle.space_model.specs.Spelling.{Say, text_of_pieces, hex}
use Rattle.space_model.proofs.Cutting.{IsWord, IsWord-hex}
use Rattle.space_trace.specs.WordsLeft.{HasNoSpace}
use Rattle.space_trace.proofs.HexLemmas.{IsHex-hex}
use Rattle.space_trace.proofs.PieceLemmas.{text_of_pieces_append}
use Rattle.space_trace.proofs.WordLemmas.{words_of-cut, words_of-last}

-- words have no space and no CR

abbrev IsPlain : List ℕ → Type 0
IsPlain [] = Unit {0}
IsPlain (b ∷ bs) = ((b == 32) ≡ false) × ((b == 13) ≡ false) × IsPlain bs

no_space : (word : List ℕ) → IsPlain word → HasNoSpace word
no_space [] h = tt
no_space (b ∷ word) h = (h.0, no_space word h.2)

differ : false ≡ true → ⊥
differ e = cc

later_is_not : (b mark : ℕ) → (IsTrue (is_later_byte mark) → ⊥) → IsTrue (is_later_byte b) → (b == mark) ≡ false
later_is_not b mark never h = ne_eqb b mark (λ e. never (subst (λ (x : ℕ). IsTrue (is_later_byte x)) e h))

IsPlain-later : (text : List ℕ) → All (λ b. IsTrue (is_later_byte b)) text → IsPlain text
IsPlain-later [] h = tt
IsPlain-later (b ∷ text) h =
    let P : ℕ → Type 0 = λ x. IsTrue (is_later_byte x) in
    let here = All-head P b text h in
    (later_is_not b 32 differ here, later_is_not b 13 differ here, IsPlain-later text (All-tail P b text h))

IsPlain-ident : (text : List ℕ) → IsIdent text → IsPlain text
IsPlain-ident text h = IsPlain-later text h.later

IsPlain-digits : (ds : List ℕ) → AllDigits 10 ds → IsPlain ds
IsPlain-digits [] h = tt
IsPlain-digits (d ∷ ds) h =
    let range = digit_from_value d h.0 in
    (ne_eqb d 32 (λ e. omega (arith, range.0)), ne_eqb d 13 (λ e. omega (arith, range.0)), IsPlain-digits ds h.1)

IsNumber-decimal : (n : ℕ) → n < 2 ^ 64 → IsNumber (decimal n) n
IsNumber-decimal n fits =
    let h = decimal_is_IsNumeral n fits in
    record {
      some = h.0.0;
      short = length-decimal-le 20 n (lit≤ tt) (omega arith) fits;
      digits = h.0.1;
      value = sym h.1;
      fits = fits;
    }

-- fixed words

abbrev is_plain : List ℕ → Bool
is_plain [] = true
is_plain (b ∷ bs) = (if b == 32 then false else true) && ((if b == 13 then false else true) && is_plain bs)

no_mark : (test : Bool) → (if test then false else true) ≡ true → test ≡ false
no_mark false e = refl
no_mark true e = absurd (differ e)

plain_text : (text : List ℕ) → is_plain text ≡ true → IsPlain text
plain_text [] e = tt
plain_text (b ∷ text) e =
    let first = and_parts _ _ e in
    let second = and_parts _ _ first.1 in
    (no_mark (b == 32) first.0, no_mark (b == 13) second.0, plain_text text second.1)

IsPlain-decimal : (n : ℕ) → n < 2 ^ 64 → IsPlain (decimal n)
IsPlain-decimal n fits = IsPlain-digits (decimal n) (IsNumber-decimal n fits).digits

IsPlain-word : (text : List ℕ) → IsWord text → IsPlain text
IsPlain-word [] h = tt
IsPlain-word (b ∷ text) h = (later_is_not b 32 differ h.0, later_is_not b 13 differ h.0, IsPlain-word text h.1)

IsPlain-hex : (n : ℕ) → IsPlain (hex n)
IsPlain-hex n = IsPlain-word (hex n) (IsWord-hex n)

-- operands and values

operand_read : (operand : Operand) → IsWritableOperand operand → IsOperand (text_of_pieces (operand_pieces operand)) operand
operand_read (Root name) h = (append-nil name, h)
operand_read (Word place) h = (decimal place, ap (λ (text : List ℕ). 64 ∷ text) (append-nil (decimal place)), IsNumber-decimal place h)

operand_plain : (operand : Operand) → IsWritableOperand operand → IsPlain (text_of_pieces (operand_pieces operand))
operand_plain (Root name) h = rw (append-nil name) (IsPlain-ident name h)
operand_plain (Word place) h = (refl, refl, rw (append-nil (decimal place)) (IsPlain-decimal place h))

input_read : (value : Input) → IsWritableInput value → IsInput (text_of_pieces (input_pieces value)) value
input_read (From operand) h = operand_read operand h
input_read Nil h = refl
input_read (Small number) h = (decimal number, ap (λ (text : List ℕ). 61 ∷ text) (append-nil (decimal number)), IsNumber-decimal number (omega arith), h)

input_plain : (value : Input) → IsWritableInput value → IsPlain (text_of_pieces (input_pieces value))
input_plain (From operand) h = operand_plain operand h
input_plain Nil h = plain_text (codes "nil") refl
input_plain (Small number) h = (refl, refl, rw (append-nil (decimal number)) (IsPlain-decimal number (omega arith)))

-- words of forms

abbrev word_text : FormWord → List ℕ
word_text word = text_of_pieces (word_pieces word)

word_read : (word : FormWord) → IsWritableWord word → IsFormWord (word_text word) word
word_read (Exactly text) h = append-nil text
word_read (IdentWord ident) h = (append-nil ident, h)
word_read (Decimal number) h = rw (append-nil (decimal number)) (IsNumber-decimal number h)
word_read (Base16 number) h = rw (append-nil (hex number)) (IsHex-hex number h)
word_read (OperandWord operand) h = operand_read operand h
word_read (InputWord value) h = input_read value h

-- whether fixed bytes are plain
abbrev is_plain_word : FormWord → Bool
is_plain_word (Exactly text) = is_plain text
is_plain_word _ = true

word_plain : (word : FormWord) → is_plain_word word ≡ true → IsWritableWord word → IsPlain (word_text word)
word_plain (Exactly text) e h = rw (append-nil text) (plain_text text e)
word_plain (IdentWord ident) e h = rw (append-nil ident) (IsPlain-ident ident h)
word_plain (Decimal number) e h = rw (append-nil (decimal number)) (IsPlain-decimal number h)
word_plain (Base16 number) e h = subst IsPlain (sym (append-nil (hex number))) (IsPlain-hex number)
word_plain (OperandWord operand) e h = operand_plain operand h
word_plain (InputWord value) e h = input_plain value h

-- words are cut off the start of a line

without_cr-plain : (word : List ℕ) → IsPlain word → without_cr word ≡ word
without_cr-plain [] h = refl
without_cr-plain (b ∷ []) h = rw h.1 refl
without_cr-plain (b ∷ c ∷ word) h = ap (λ (text : List ℕ). b ∷ text) (without_cr-plain (c ∷ word) h.2)

without_cr-cut : (word rest : List ℕ) → without_cr rest ≡ rest → without_cr (word ++ 32 ∷ rest) ≡ word ++ 32 ∷ rest
without_cr-cut [] [] e = refl
without_cr-cut [] (c ∷ rest) e = ap (λ (text : List ℕ). 32 ∷ text) e
without_cr-cut (b ∷ []) rest e = ap (λ (text : List ℕ). b ∷ text) (without_cr-cut [] rest e)
without_cr-cut (b ∷ c ∷ word) rest e = ap (λ (text : List ℕ). b ∷ text) (without_cr-cut (c ∷ word) rest e)

-- the words of the line, which has no CR at its end; a record, so that each lemma's arguments are found from the goal
record IsCut (line : List ℕ) (words : List (List ℕ)) : Type 0 where
  is : words_of line ≡ words
  no_cr : without_cr line ≡ line

words_read : {line : List ℕ} {words : List (List ℕ)} → IsCut line words → words_of (without_cr line) ≡ words
words_read {line} {words} cut = rw cut.no_cr cut.is

last_word : (word : List ℕ) → IsPlain word → IsCut word (word ∷ [])
last_word word h = record { is = words_of-last word (no_space word h); no_cr = without_cr-plain word h }

word_off : (word : List ℕ) {rest : List ℕ} {words : List (List ℕ)} → IsPlain word → IsCut rest words → IsCut (word ++ 32 ∷ rest) (word ∷ words)
word_off word {rest} {words} h cut = record {
  is = words_of-cut word rest (no_space word h) ∙ ap (λ (ws : List (List ℕ)). word ∷ ws) cut.is;
  no_cr = without_cr-cut word rest cut.no_cr;
}

-- the line of some words, cut into these

abbrev are_plain : List FormWord → Bool
are_plain [] = true
are_plain (word ∷ words) = is_plain_word word && are_plain words

words_cut : (word : FormWord) (words : List FormWord) → are_plain (word ∷ words) ≡ true → AreWritable (word ∷ words) →
    IsCut (text_of_pieces (spaced_pieces (word ∷ words))) (map word_text (word ∷ words))
words_cut word [] e h = last_word (word_text word) (word_plain word (and_parts _ _ e).0 h.0)
words_cut word (next ∷ words) e h =
    let both = and_parts _ _ e in
    rw (text_of_pieces_append (word_pieces word) (Say (codes " ") ∷ spaced_pieces (next ∷ words)))
    (word_off (word_text word) (word_plain word both.0 h.0) (words_cut next words both.1 h.1))

words_are : (words : List FormWord) → AreWritable words → AreFormWords (map word_text words) words
words_are [] h = refl
words_are (word ∷ words) h = (word_text word, map word_text words, refl, word_read word h.0, words_are words h.1)

-- the fixed bytes of each form are plain, and no form is empty

form_plain : (command : Command) → are_plain (form_of command) ≡ true
form_plain (New root fields Protected Movable) = refl
form_plain (New root fields Protected Keeping) = refl
form_plain (New root fields Unprotected Movable) = refl
form_plain (New root fields Unprotected Keeping) = refl
form_plain _ = refl

abbrev IsSome : List FormWord → Type 0
IsSome [] = ⊥
IsSome (word ∷ words) = Unit {0}

form_some : (command : Command) → IsSome (form_of command)
form_some Gc = tt
form_some _ = tt

form_read : (words : List FormWord) → IsSome words → are_plain words ≡ true → AreWritable words →
    AreFormWords (words_of (without_cr (text_of_pieces (spaced_pieces words)))) words
form_read [] some e h = absurd some
form_read (word ∷ words) some e h = rw (words_read (words_cut word words e h)) (words_are (word ∷ words) h)

pub spelling_is_read : (command : Command) → IsGiven command → IsReading (command_text command) (Some command)
spelling_is_read command h = form_read (form_of command) (form_some command) (form_plain command) h
