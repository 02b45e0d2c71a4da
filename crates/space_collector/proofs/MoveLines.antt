-- The lines of moves, as they are written one after another.
use Rattle.std.proofs.Common.{◌≡◌, ℕ, suc, ◌+◌, List, [], ◌∷◌, ◌++◌, map, sym, ap, ◌∙◌, subst, arith, append-nil, Option, refl}
use Rattle.std.specs.Prelude.{Result, Ok, Err, OnOk, OnErr}
use Rattle.std.specs.Io.KnownBytes.{Appends}
use Rattle.std.proofs.KnownBytes.{Appends-nil, Appends-trans}
use Rattle.std.proofs.lemmas.List.{map-append}
use Rattle.space_io.specs.Sinks.{AppendsPrefix}
use Rattle.space_model.specs.declared.event.Event.{Event}
use Rattle.space_model.specs.Outputs.{Told}
use Rattle.space_model.specs.Texts.{text_of}
use Rattle.space_heap.specs.HeapView.{HeapView}
use Rattle.space_compact.specs.declared.moving.Moved.{Moved}
use Rattle.space_compact.specs.Moves.{Moves}
use Rattle.space_collector.specs.MovesWritten.{IsWritten, AreMovesMade}
use Rattle.space_collector.proofs.MoveLaws.{event_of, moves_more}
use Rattle.space_collector.proofs.ToldLines.{event_line, text_of-append, prefix_after, prefix_longer}

-- the text of events, and that of the events before the last and its line
last_line : (events : List Event) (event : Event) → text_of (map Told (events ++ event ∷ [])) ≡ text_of (map Told events) ++ event_line event
last_line events event =
    ap text_of (map-append Told events (event ∷ []))
    ∙ text_of-append (map Told events) (Told event ∷ [])
    ∙ ap (λ xs. text_of (map Told events) ++ xs) (append-nil (event_line event))

module _ {T E : Type 0} (before now after : Option (List ℕ)) (text line : List ℕ) where
  after_written : (result : Result T E) → Appends before now text → OnOk result (Appends now after line) → AppendsPrefix now after line
      → IsWritten result before after (text ++ line)
  after_written (Ok value) was all part = record { all = Appends-trans before now after text line was all; prefix = tt }
  after_written (Err fault) was all part = record { all = tt; prefix = prefix_after before now after text line was part }

  -- a line more was written, or a prefix of it
  pub line_more : (told result : Result T E) (value : T) → told ≡ Ok value → OnOk result (Appends now after line) → AppendsPrefix now after line
      → IsWritten told before now text → IsWritten result before after (text ++ line)
  line_more told result value is all part was = after_written result (subst (λ (r : Result T E). OnOk r (Appends before now text)) is was.all) all part

  -- after a failed write none was
  pub line_less : (told : Result T E) (fault : E) → told ≡ Err fault → IsWritten told before now text
      → IsWritten {T = T} {E = E} (Err fault) before now (text ++ line)
  line_less told fault is was = record {
    all = tt;
    prefix = prefix_longer before now text line (subst (λ (r : Result T E). OnErr r (AppendsPrefix before now text)) is was.prefix);
  }

-- no move was made yet, and nothing was written
pub none_made : {T E : Type 0} (v : HeapView) (value : T) (a : Option (List ℕ)) → AreMovesMade {T = T} {E = E} v v 0 (Ok value) a a
none_made v value a = record { events = []; makes = (refl, refl); written = record { all = Appends-nil a; prefix = tt } }

-- one move more was made and told
pub one_made : {T E : Type 0} (v u w : HeapView) (m : Moved) (moves : ℕ) (told result : Result T E) (before now after : Option (List ℕ))
    → AreMovesMade v u moves told before now → Moves u w m
    → ((text : List ℕ) → IsWritten told before now text → IsWritten result before after (text ++ event_line (event_of m)))
    → AreMovesMade v w (moves + 1) result before after
one_made v u w m moves told result before now after made one writes =
    let e : suc moves ≡ moves + 1 = omega arith in
    subst (λ n. AreMovesMade v w n result before after) e (record {
      events = made.events ++ event_of m ∷ [];
      makes = moves_more moves v made.events u w m made.makes one;
      written = subst (IsWritten result before after) (sym (last_line made.events (event_of m)))
          (writes (text_of (map Told made.events)) made.written);
    })
