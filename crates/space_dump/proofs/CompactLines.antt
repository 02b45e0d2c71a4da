-- The line of a dump as JSON, and its text.
use Rattle.std.proofs.Common.{◌≡◌, ℕ, Bool, true, false, List, [], ◌∷◌, ◌++◌, codes, decimal, refl, ap, sym, ◌∙◌, arith}
use Rattle.std.proofs.lemmas.Bool.Decides.{nat_tests}
use mathlib.Core.List.{append_assoc}
use Rattle.json.specs.Print.{escape_byte, escape, quoted}
use Rattle.serde_json.specs.Data.{Data, unsigned, boolean, number, string, array, object, Items, no_items, item, no_members, member}
use Rattle.serde_json.specs.Written.{compact_text, items_text}
use Rattle.space_model.specs.DumpLines.{DumpLine}
use Rattle.space_model.specs.Idents.{is_later_byte}
use Rattle.space_model.specs.Spelling.{Piece, Say, Number, text_of_pieces, hex}
use Rattle.space_model.specs.Texts.{style_text, dump_pieces, reference_pieces}
use Rattle.space_model.specs.declared.object.Style.{Style}
use Rattle.space_model.specs.declared.object.Style.TheVariants.{Movable, Keeping}
use Rattle.space_model.proofs.Cutting.{IsWord, IsWord-hex}

abbrev pub reference_items : List ℕ → Items
reference_items [] = no_items
reference_items (a ∷ rs) = item (string (hex a)) (reference_items rs)

abbrev pub flag_data : DumpLine → Data
flag_data line =
    object (member (codes "old") (boolean line.old) (member (codes "style") (string (style_text line.style)) (member (codes "wb_protected") (boolean line.wb_protected) no_members)))

abbrev pub line_data : DumpLine → Data
line_data line =
    object (member (codes "address") (string (hex line.address))
    (member (codes "fields") (number (unsigned line.fields))
    (member (codes "flags") (flag_data line)
    (member (codes "name") (number (unsigned line.name))
    (member (codes "references") (array (reference_items line.references))
    (member (codes "slot_size") (number (unsigned line.slot_size))
    (member (codes "type") (string (codes "OBJECT")) no_members)))))))

escape_letter : (b : ℕ) → is_later_byte b ≡ true → escape_byte b ≡ b ∷ []
unfolding escape_byte
escape_letter b h = grind (arith, nat_tests)

escape_word : (t : List ℕ) → IsWord t → escape t ≡ t
escape_word [] h = refl
escape_word (b ∷ t) h = rw (escape_letter b h.0, escape_word t h.1)

quoted_word : (t rest : List ℕ) → IsWord t → quoted t ++ rest ≡ 34 ∷ (t ++ 34 ∷ rest)
quoted_word t rest h = ap (λ l. 34 ∷ (l ++ 34 ∷ []) ++ rest) (escape_word t h) ∙ ap (λ l. 34 ∷ l) (append_assoc t (34 ∷ []) rest)

references_text : (rs : List ℕ) (rest : List Piece) (after : List ℕ) → text_of_pieces rest ≡ 93 ∷ after →
    items_text false (reference_items rs) ++ after ≡ text_of_pieces (reference_pieces rs rest)
references_text [] rest after e = sym e
references_text (a ∷ []) rest after e =
    append_assoc (quoted (hex a)) (93 ∷ []) after ∙ quoted_word (hex a) (93 ∷ after) (IsWord-hex a) ∙ ap (λ l. 34 ∷ (hex a ++ 34 ∷ l)) (sym e)
references_text (a ∷ b ∷ rs) rest after e =
    append_assoc (quoted (hex a)) (44 ∷ items_text false (reference_items (b ∷ rs))) after
    ∙ quoted_word (hex a) (44 ∷ (items_text false (reference_items (b ∷ rs)) ++ after)) (IsWord-hex a)
    ∙ ap (λ l. 34 ∷ (hex a ++ 34 ∷ 44 ∷ l)) (references_text (b ∷ rs) rest after e)

-- after the references
abbrev end_pieces : ℕ → List Piece
end_pieces s = Say (codes "],\"slot_size\":") ∷ Number s ∷ Say (codes ",\"type\":\"OBJECT\"}") ∷ []

abbrev after_end : ℕ → List ℕ
after_end s = codes ",\"slot_size\":" ++ decimal s ++ codes ",\"type\":\"OBJECT\"}"

abbrev line_of : Bool → Style → Bool → (a f n s : ℕ) → List ℕ → DumpLine
line_of old style protected a f n s rs =
    record { address = a; fields = f; old = old; style = style; wb_protected = protected; name = n; references = rs; slot_size = s }

text_by_flags : (old : Bool) (style : Style) (protected : Bool) (a f n s : ℕ) (rs : List ℕ) →
    compact_text (line_data (line_of old style protected a f n s rs)) ≡ text_of_pieces (dump_pieces (line_of old style protected a f n s rs))
unfolding escape_byte
text_by_flags true Movable true a f n s rs = ap (λ l. codes "{\"address\":" ++ l) (quoted_word (hex a) _ (IsWord-hex a)) ∙ rw (references_text rs (end_pieces s) (after_end s) refl)
text_by_flags true Movable false a f n s rs = ap (λ l. codes "{\"address\":" ++ l) (quoted_word (hex a) _ (IsWord-hex a)) ∙ rw (references_text rs (end_pieces s) (after_end s) refl)
text_by_flags true Keeping true a f n s rs = ap (λ l. codes "{\"address\":" ++ l) (quoted_word (hex a) _ (IsWord-hex a)) ∙ rw (references_text rs (end_pieces s) (after_end s) refl)
text_by_flags true Keeping false a f n s rs = ap (λ l. codes "{\"address\":" ++ l) (quoted_word (hex a) _ (IsWord-hex a)) ∙ rw (references_text rs (end_pieces s) (after_end s) refl)
text_by_flags false Movable true a f n s rs = ap (λ l. codes "{\"address\":" ++ l) (quoted_word (hex a) _ (IsWord-hex a)) ∙ rw (references_text rs (end_pieces s) (after_end s) refl)
text_by_flags false Movable false a f n s rs = ap (λ l. codes "{\"address\":" ++ l) (quoted_word (hex a) _ (IsWord-hex a)) ∙ rw (references_text rs (end_pieces s) (after_end s) refl)
text_by_flags false Keeping true a f n s rs = ap (λ l. codes "{\"address\":" ++ l) (quoted_word (hex a) _ (IsWord-hex a)) ∙ rw (references_text rs (end_pieces s) (after_end s) refl)
text_by_flags false Keeping false a f n s rs = ap (λ l. codes "{\"address\":" ++ l) (quoted_word (hex a) _ (IsWord-hex a)) ∙ rw (references_text rs (end_pieces s) (after_end s) refl)

-- serde_json's text of a line is that of its pieces
pub compact_line : (line : DumpLine) → compact_text (line_data line) ≡ text_of_pieces (dump_pieces line)
compact_line line = text_by_flags line.old line.style line.wb_protected line.address line.fields line.name line.slot_size line.references
