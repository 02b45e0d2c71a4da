-- A line as a list of pieces, joined by nothing: the spaces are part of the fixed bytes. This form is this project's own.
use Rattle.std.specs.Prelude.{ℕ, ◌<◌, ◌^◌, false, List, [], ◌∷◌, ◌++◌, codes, map, ◌==◌, if◌then◌else◌}
use Rattle.std.specs.Fmt.{decimal, digit_glyph}
use Rattle.std.specs.Int.Digits.{digits_of}
use Rattle.space_model.specs.Idents.{IsIdent}

-- the digits in base 16, with no leading zeros; none for 0
abbrev pub hex_digits : ℕ → List ℕ
hex_digits n = map (digit_glyph false) (digits_of 16 n)

-- `0x` and the digits in base 16
abbrev pub hex : ℕ → List ℕ
hex n = codes "0x" ++ (if n == 0 then codes "0" else hex_digits n)

-- a piece of a line: fixed bytes, a number in base 10 or 16, or an ident
pub data Piece : Type 0 where
  Say : (text : List ℕ) → Piece
  Number : (number : ℕ) → Piece
  Hex : (number : ℕ) → Piece
  Called : (ident : List ℕ) → Piece

-- the bytes of a piece
abbrev pub piece_text : Piece → List ℕ
piece_text (Say text) = text
piece_text (Number number) = decimal number
piece_text (Hex number) = hex number
piece_text (Called ident) = ident

-- the bytes of the pieces, one after another
abbrev pub text_of_pieces : List Piece → List ℕ
text_of_pieces [] = []
text_of_pieces (piece ∷ pieces) = piece_text piece ++ text_of_pieces pieces

-- numbers in base 10 are below 2 ^ 64, and idents are idents
abbrev pub IsSpelled : List Piece → Type 0
IsSpelled [] = Unit {0}
IsSpelled (Number number ∷ pieces) = (number < 2 ^ 64) × IsSpelled pieces
IsSpelled (Called ident ∷ pieces) = IsIdent ident × IsSpelled pieces
IsSpelled (_ ∷ pieces) = IsSpelled pieces
