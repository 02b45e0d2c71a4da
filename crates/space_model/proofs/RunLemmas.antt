-- Runs and readings go on by one step.
use Rattle.std.proofs.Common.{◌≡◌, ◌≤◌, ℕ, List, [], ◌∷◌, ◌++◌, length, refl, ap, ◌∙◌, sym, Option}
use mathlib.Core.List.{append_assoc}
use Rattle.std.proofs.lemmas.List.{append-nil}
use Rattle.std.specs.Option.{option_to_list}
use Rattle.space_model.specs.declared.command.Command.{Command}
use Rattle.space_model.specs.State.{State}
use Rattle.space_model.specs.Lawful.{Lawful, LawfulAll}
use Rattle.space_model.specs.Outputs.{Output}
use Rattle.space_model.specs.Grammar.{AreCommands, IsReading}
use Rattle.space_model.specs.Lines.{most_line_bytes}
use Rattle.space_model.specs.Texts.{text_of, output_pieces, line_of_pieces, AreSpelled}

pub LawfulAll-more : (s m t : State) (commands : List Command) (command : Command) (before now : List Output) → LawfulAll s commands before m →
    Lawful m command now t → LawfulAll s (commands ++ command ∷ []) (before ++ now) t
LawfulAll-more s m t [] command before now (none, same) step =
    (now, [], t, rw none (sym (append-nil now)), rw same at step, (refl, refl))
LawfulAll-more s m t (first ∷ commands) command before now (here, later, mid, e, step1, rest) step =
    (here, later ++ now, mid, rw e (append_assoc here later now), step1, LawfulAll-more mid m t commands command later now rest step)

pub AreCommands-more : (lines : List (List ℕ)) (line : List ℕ) (commands : List Command) (found : Option Command) → AreCommands lines commands →
    length line ≤ most_line_bytes → IsReading line found → AreCommands (lines ++ line ∷ []) (commands ++ option_to_list found)
AreCommands-more [] line commands found none short reading =
    (found, [], short, reading, rw none (sym (append-nil (option_to_list found))), refl)
AreCommands-more (l ∷ lines) line commands found (first, rest, short1, reading1, e, more) short reading = (
  first,
  rest ++ option_to_list found,
  short1,
  reading1,
  rw e (append_assoc (option_to_list first) rest (option_to_list found)),
  AreCommands-more lines line rest found more short reading,
)

pub text_of-append : (a b : List Output) → text_of (a ++ b) ≡ text_of a ++ text_of b
text_of-append [] b = refl
text_of-append (o ∷ a) b = ap (λ bs. line_of_pieces (output_pieces o) ++ bs) (text_of-append a b)
    ∙ sym (append_assoc (line_of_pieces (output_pieces o)) (text_of a) (text_of b))

pub AreSpelled-append : (a b : List Output) → AreSpelled a → AreSpelled b → AreSpelled (a ++ b)
AreSpelled-append [] b h k = k
AreSpelled-append (o ∷ a) b h k = (h.0, AreSpelled-append a b h.1 k)
