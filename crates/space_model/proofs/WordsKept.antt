-- Each word on the stack keeps its value.
use Rattle.std.proofs.Common.{◌≡◌, ◌==◌, ◌%◌, ◌/◌, ◌^◌, ◌&&◌, ℕ, nat_lt, cond, Bool, true, false, List, nat_eq, sym, ap, ◌∙◌, refl, inl, inr, Option, None, Some}
use Rattle.std.specs.Option.{option_map}
use Rattle.std.specs.Set.{is_member}
use Rattle.std.proofs.lemmas.Bool.{false≢true}
use Rattle.space_model.specs.declared.command.Command.{Command}
use Rattle.space_model.specs.declared.value.Value.{Value}
use Rattle.space_model.specs.declared.value.Value.TheVariants.{Nil, Small, Name}
use Rattle.space_model.specs.Given.{IsGiven}
use Rattle.space_model.specs.Graph.{IsChild}
use Rattle.space_model.specs.Lawful.{Lawful}
use Rattle.space_model.specs.Operands.{named_by, word_value}
use Rattle.space_model.specs.Outputs.{Output}
use Rattle.space_model.specs.Reach.{IsStart, Reach, Named}
use Rattle.space_model.specs.Sound.{Sound}
use Rattle.space_model.specs.State.{State}
use Rattle.space_model.proofs.PlacesAfter.{reached_stays}
use Rattle.space_model.proofs.Reaching.{IsReached-start}
use Rattle.space_model.proofs.SoundKept.{lawful_sound}
use Rattle.space_model.proofs.StackWords.{named_is_told}

-- the value of a word rests on the name that it names alone, where it names one
same_value : (is_nil is_small : Bool) (number : ℕ) (now later : Option ℕ) (value : Value) → ((name : ℕ) → now ≡ Some name → later ≡ Some name) →
    cond is_nil (Some Nil) (cond is_small (Some (Small number)) (option_map Name now)) ≡ Some value →
    cond is_nil (Some Nil) (cond is_small (Some (Small number)) (option_map Name later)) ≡ Some value
same_value true is_small number now later value h e = e
same_value false true number now later value h e = e
same_value false false number None later value h e = absurd (cc)
same_value false false number (Some name) later value h e = ap (option_map Name) (h name refl) ∙ e

pub words_keep : (s t : State) (command : Command) (outputs : List Output) → IsGiven command → Lawful s command outputs t → Sound s →
    (word : ℕ) (value : Value) → is_member nat_eq s.stack word ≡ true → is_member nat_eq t.stack word ≡ true → word_value s.heap.place word ≡ Some value →
    word_value t.heap.place word ≡ Some value
words_keep s t command outputs small l h word value m still e =
    let same : (name : ℕ) → named_by s.heap.place word ≡ Some name → named_by t.heap.place word ≡ Some name =
    λ name named.
    let at : Named s word name = (named_is_told s word name h).0 named in
    let reached : Reach s name = IsReached-start (IsChild s.graph) (IsStart s) name (inr (word, m, at)) in
    (named_is_told t word name (lawful_sound s t command outputs small l h)).1
    (reached_stays s t command outputs l h (λ (exit, none). false≢true (sym (ap (λ words. is_member nat_eq words word) none) ∙ still)) name reached
    (inl (word, m, at)) ∙ at) in
    same_value (word == 0) (nat_lt word (2 ^ 63) && (word % 2 == 1)) (word / 2) (named_by s.heap.place word) (named_by t.heap.place word) value same e
