-- The text of a line that was sent event by event.
use Rattle.std.proofs.Common.{◌≡◌, ℕ, ◌<◌, ◌^◌, List, [], ◌∷◌, ◌++◌, false, Option, Some, codes, refl, sym, ap, ◌∙◌, subst}
use mathlib.Core.List.{append_assoc}
use Rattle.serde.specs.Event as event
use Rattle.serde.specs.Event.{Event, Log}
use Rattle.serde_json.specs.Events.{items_len, SendsValue, SendsItems}
use Rattle.serde_json.specs.Sent.{IsTextOf}
use Rattle.serde_json.specs.Written.{has_float, items_have_float}
use Rattle.serde_json.proofs.FreeTexts.{text_of_value}
use Rattle.space_model.specs.DumpLines.{DumpLine}
use Rattle.space_model.specs.Spelling.{Piece, text_of_pieces, IsSpelled, hex}
use Rattle.space_model.specs.Texts.{dump_pieces, reference_pieces}
use Rattle.space_dump.specs.LineEvents.{SendsAll, key, first_events, flag_events, reference_events, last_events, line_events}
use Rattle.space_dump.proofs.SentEvents.{known}
use Rattle.space_dump.proofs.CompactLines.{reference_items, line_data, compact_line}

-- the same events, where the array of references begins with a length
abbrev counted : Option ℕ → DumpLine → List Event
counted n line =
    first_events line ++ (flag_events line ++ (key (codes "name") ∷ event.unsigned line.name ∷ key (codes "references") ∷ event.seq_begins n ∷ (reference_events line.references ++ last_events line)))

items_sent : (rs : List ℕ) (es : List Event) → SendsItems (reference_items rs) (Some es) (Some (es ++ reference_events rs))
items_sent [] es = refl
items_sent (a ∷ rs) es =
    let sent = es ++ event.text (hex a) ∷ [] in
    (Some sent, refl, subst (λ l. SendsItems (reference_items rs) (Some sent) (Some l)) (append_assoc es (event.text (hex a) ∷ []) (reference_events rs)) (items_sent rs sent))

-- five more, one after another
one_by_one : (xs : List Event) (a b c d e : Event) →
    ((((xs ++ a ∷ []) ++ b ∷ []) ++ c ∷ []) ++ d ∷ []) ++ e ∷ [] ≡ xs ++ (a ∷ b ∷ c ∷ d ∷ e ∷ [])
one_by_one [] a b c d e = refl
one_by_one (x ∷ xs) a b c d e = ap (λ l. x ∷ l) (one_by_one xs a b c d e)

none_float : (rs : List ℕ) → items_have_float (reference_items rs) ≡ false
none_float [] = refl
none_float (a ∷ rs) = none_float rs

whole : (line : DumpLine) → has_float (line_data line) ≡ false
whole line = rw (none_float line.references)

abbrev length_of : DumpLine → Option ℕ
length_of line = Some (items_len (reference_items line.references))

-- up to the references
abbrev front : DumpLine → List Event
front line = first_events line ++ (flag_events line ++ (key (codes "name") ∷ event.unsigned line.name ∷ key (codes "references") ∷ event.seq_begins (length_of line) ∷ []))

-- the line as a value sends these events
value_sent : (line : DumpLine) → SendsValue (line_data line) (Some []) (Some (counted (length_of line) line))
value_sent line =
    let refs = front line ++ reference_events line.references in
    let ends = one_by_one refs (key (codes "slot_size")) (event.unsigned line.slot_size) (key (codes "type")) (event.text (codes "OBJECT")) event.map_ends in
    let all = ends ∙ append_assoc (front line) (reference_events line.references) (last_events line) in (
      _,
      refl,
      (
        _,
        _,
        refl,
        refl,
        (
          _,
          _,
          refl,
          refl,
          (
            _,
            _,
            refl,
            (_, refl, (_, _, refl, refl, (_, _, refl, refl, (_, _, refl, refl, refl)))),
            (
              _,
              _,
              refl,
              refl,
              (
                _,
                _,
                refl,
                (_, refl, items_sent line.references (front line)),
                (
                  _,
                  _,
                  refl,
                  refl,
                  (_, _, refl, refl, ap Some (sym all)),
                ),
              ),
            ),
          ),
        ),
      ),
    )

-- the text of a line
pub text_of_line : (line : DumpLine) (log : Log) (text : List ℕ) → SendsAll (line_events line) (Some []) log → IsTextOf log text →
    text ≡ text_of_pieces (dump_pieces line)
text_of_line line log text sent h =
    let exact : IsTextOf (Some (counted (length_of line) line)) text = subst (λ l. IsTextOf l text) (known (line_events line) [] log sent) h in
    text_of_value (line_data line) (Some (counted (length_of line) line)) text (value_sent line) exact (whole line) ∙ compact_line line

references_spelled : (rs : List ℕ) (rest : List Piece) → IsSpelled rest → IsSpelled (reference_pieces rs rest)
references_spelled [] rest h = h
references_spelled (a ∷ []) rest h = h
references_spelled (a ∷ b ∷ rs) rest h = references_spelled (b ∷ rs) rest h

pub line_spelled : (line : DumpLine) → line.fields < 2 ^ 64 → line.name < 2 ^ 64 → line.slot_size < 2 ^ 64 → IsSpelled (dump_pieces line)
line_spelled line fields name size = (fields, (name, references_spelled line.references _ (size, tt)))
