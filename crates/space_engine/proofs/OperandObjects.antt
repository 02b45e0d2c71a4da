-- The object of an operand, where there is one: its name is the one that stands at the address.
use Rattle.std.proofs.Common.{◌≡◌, ℕ, refl, ap, sym, ◌∙◌, Option, Some, Result, Ok, Err}
use Rattle.std.specs.Option.{unwrap_or}
use Rattle.std.specs.FinMap.{get}
use Rattle.space_model.specs.declared.command.Operand.{Operand}
use Rattle.space_model.specs.declared.reply.Refusal.{Refusal}
use Rattle.space_model.specs.declared.value.Value.TheVariants.{Name}
use Rattle.space_model.specs.Operands.{operand_value, object_in, value_word}
use Rattle.space_model.specs.Refusals.{and_then}
use Rattle.space_model.specs.State.{State}
use Rattle.space_model.proofs.MapLaws.{some_get}
use Rattle.space_model.proofs.ValuesHold.{named_holds}
use Rattle.space_model.proofs.ValuesKept.{IsPresentValue, name_present, present_kept}
use Rattle.space_heap.specs.Objects.{object_of, resolved}
use Rattle.space_heap.proofs.TakenLaws.{resolved_object}
use Rattle.space_engine.specs.Stands.{Holds}
use Rattle.space_engine.specs.Views.{View}
use Rattle.space_engine.specs.Words.{named_address}
use Rattle.space_engine.proofs.Outcomes.{ok_same}

module _ (v : View) (s : State) (h : Holds v s) where
  -- the operand's object has the name of the object at this address, which leads to itself
  pub record IsOperandAt (object : Operand) (address : ℕ) : Type 0 where
    pub is : and_then (operand_value s object) object_in ≡ Ok (object_of v.heap address).name
    pub at : get s.heap.place (object_of v.heap address).name ≡ Some address
    pub leads : get s.heap.place (object_of v.heap address).name ≡ Some (resolved v.heap address)

  found_at : (object : Operand) (address : ℕ) (found : Result ℕ Refusal) → and_then (operand_value s object) object_in ≡ found →
      Ok address ≡ named_address s.heap.place found → IsOperandAt object address
  found_at object address (Ok name) e a =
      let here : address ≡ value_word s.heap.place (Name name) = ok_same address (value_word s.heap.place (Name name)) a in
      let some = some_get (get s.heap.place name)
      (name_present s.heap.place name (named_holds s (IsPresentValue s.heap.place) (present_kept s h.sound) object name e)) in
      let at : get s.heap.place name ≡ Some address = some.1 ∙ ap (λ (o : Option ℕ). Some (unwrap_or o 0)) (sym some.1) ∙ ap Some (sym here) in
      let named : (object_of v.heap address).name ≡ name = (h.represents.heap.objects.is name address at).named in
      let own = resolved_object v.heap address (h.represents.heap.objects.stands name address at) in
      record {
        is = e ∙ ap Ok (sym named);
        at = ap (get s.heap.place) named ∙ at;
        leads = ap (get s.heap.place) named ∙ at ∙ ap Some (sym own);
      }
  found_at object address (Err why) e a = absurd (cc)

  pub operand_at : (object : Operand) (address : ℕ) → Ok address ≡ named_address s.heap.place (and_then (operand_value s object) object_in) →
      IsOperandAt object address
  operand_at object address a = found_at object address (and_then (operand_value s object) object_in) refl a
