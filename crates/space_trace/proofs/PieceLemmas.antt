-- The pieces of a line, in two parts.
use Rattle.std.proofs.Common.{◌≡◌, List, [], ◌∷◌, ◌++◌, refl, sym, append_assoc}
use Rattle.space_model.specs.Spelling.{Piece, Say, Number, Hex, Called, piece_text, text_of_pieces, IsSpelled}

pub text_of_pieces_append : (a b : List Piece) → text_of_pieces (a ++ b) ≡ text_of_pieces a ++ text_of_pieces b
text_of_pieces_append [] b = refl
text_of_pieces_append (piece ∷ a) b = rw (text_of_pieces_append a b) (sym (append_assoc (piece_text piece) (text_of_pieces a) (text_of_pieces b)))

pub spelled_append : (a b : List Piece) → IsSpelled a → IsSpelled b → IsSpelled (a ++ b)
spelled_append [] b h k = k
spelled_append (Say _ ∷ a) b h k = spelled_append a b h k
spelled_append (Number _ ∷ a) b h k = (h.0, spelled_append a b h.1 k)
spelled_append (Hex _ ∷ a) b h k = spelled_append a b h k
spelled_append (Called _ ∷ a) b h k = (h.0, spelled_append a b h.1 k)
