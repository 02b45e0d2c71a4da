-- What the commands on object ids reply, and the states after them.
use Rattle.std.proofs.Common.{◌≡◌, ℕ, zero, suc, List, [], ◌∷◌, ◌++◌, nat_eq, false, refl, ap, sym, ◌∙◌, subst, inl, inr, Option, None, Some, Ok, Err, ⊎_elim}
use Rattle.std.specs.Prelude.{slice_get}
use Rattle.std.specs.Ordering.{nat_cmp}
use Rattle.std.specs.Set.{is_member}
use Rattle.std.specs.FinMap.{FinMap, get}
use Rattle.std.proofs.lemmas.Bool.{cases_Bool}
use Rattle.space_model.specs.declared.command.Command.TheVariants.{Id, ById}
use Rattle.space_model.specs.declared.command.Operand.{Operand}
use Rattle.space_model.specs.declared.reply.Refusal.{Refusal}
use Rattle.space_model.specs.declared.reply.Refusal.TheVariants.{NoId}
use Rattle.space_model.specs.declared.reply.Reply.{Reply}
use Rattle.space_model.specs.declared.reply.Reply.TheVariants.{NoMemory, Number, GoneId, Refused}
use Rattle.space_model.specs.declared.value.Value.{Value}
use Rattle.space_model.specs.declared.value.Value.TheVariants.{Name}
use Rattle.space_model.specs.IdCommands.{with_id as with_name, id_given, IsIdOf as IsIdOfName}
use Rattle.space_model.specs.Operands.{operand_value, object_in, word_value}
use Rattle.space_model.specs.Refusals.{and_then}
use Rattle.space_model.specs.State.{State}
use Rattle.space_model.proofs.StackWords.{word_value-name}
use Rattle.space_heap.specs.HeapView.{HeapView}
use Rattle.space_heap.specs.Objects.{object_of, resolved}
use Rattle.space_heap.proofs.TakenLaws.{resolved_object}
use Rattle.space_ids.specs.declared.ids.Found.TheVariants.{Never, Gone, Here}
use Rattle.space_ids.specs.GivenIds.{GivenIds, names_in, with_id, IsIdOf, IsFound}
use Rattle.space_ids.proofs.ModelIds.{names-with_id, id_of_name, found_never, found_gone, found_here}
use Rattle.space_engine.specs.Stands.{AreKept, IsKeptOf, Holds, Represents}
use Rattle.space_engine.specs.Steps.{Answers, HandsOut}
use Rattle.space_engine.specs.Views.{View, with_given_id}
use Rattle.space_engine.specs.Words.{named_address}
use Rattle.space_engine.proofs.OperandObjects.{IsOperandAt, operand_at}
use Rattle.space_engine.proofs.WordResults.{refused_name}

module _ (place : FinMap nat_cmp ℕ) (heap : HeapView) where
  -- what is kept at a place of the list
  kept_at : (ids : GivenIds) (k : ℕ) (entry : ℕ × Option ℕ) → AreKept place heap ids → slice_get ids k ≡ Some entry → IsKeptOf place heap entry
  kept_at [] k entry kept e = absurd (cc)
  kept_at (first ∷ ids) zero entry kept e = let same : first ≡ entry = cc in subst (IsKeptOf place heap) same kept.0
  kept_at (first ∷ ids) (suc k) entry kept e = kept_at ids k entry kept.1 e

  kept_pushed : (ids : GivenIds) (entry : ℕ × Option ℕ) → AreKept place heap ids → IsKeptOf place heap entry → AreKept place heap (ids ++ entry ∷ [])
  kept_pushed [] entry kept at = (at, tt)
  kept_pushed (first ∷ ids) entry kept at = (kept.0, kept_pushed ids entry kept.1 at)

  -- a name that was asked for, whose object stands at this address
  kept_with_id : (ids : GivenIds) (name address : ℕ) → AreKept place heap ids → get place name ≡ Some (resolved heap address) →
      AreKept place heap (with_id ids name address)
  kept_with_id ids name address kept at = ⊎_elim
      (λ t. rw t kept)
      (λ f. rw f (kept_pushed ids (name, Some address) kept at))
      (cases_Bool (is_member nat_eq (names_in ids) name))

module _ (v : View) (s : State) (h : Holds v s) where
  -- `id`

  names_after : (name address : ℕ) → names_in (with_id v.ids name address) ≡ with_name s.tables.ids name
  names_after name address = names-with_id v.ids name address ∙ ap (λ names. with_name names name) h.represents.ids.names

  -- a name has an id
  after_id_given : (name address : ℕ) → get s.heap.place name ≡ Some address → Represents (with_given_id v name address) (id_given s name)
  after_id_given name address at = record {
    heap = h.represents.heap;
    generations = h.represents.generations;
    colours = h.represents.colours;
    roots = h.represents.roots;
    stack = h.represents.stack;
    ids = record {
      names = names_after name address;
      kept = kept_with_id s.heap.place v.heap v.ids name address h.represents.ids.kept
          (at ∙ ap Some (sym (resolved_object v.heap address (h.represents.heap.objects.stands name address at))));
    };
    weak = h.represents.weak;
    finals = h.represents.finals;
  }

  id_named : (object : Operand) (address id : ℕ) → IsOperandAt v s h object address →
      IsIdOf (with_id v.ids (object_of v.heap address).name address) (object_of v.heap address).name id →
      Answers s (with_given_id v (object_of v.heap address).name address) (Id object) (Number id)
  id_named object address id named is =
      let name : ℕ = (object_of v.heap address).name in
      record {
        state = id_given s name;
        represents = after_id_given name address named.at;
        replies = rw named.is (inl (record {
          id = id;
          id_is = subst (λ names. IsIdOfName names name id) (names_after name address) (id_of_name (with_id v.ids name address) name id is);
          reply_is = refl;
          after = refl;
        }));
      }

  pub id_told : (new : View) (object : Operand) (address name id : ℕ) → Ok address ≡ named_address s.heap.place (and_then (operand_value s object) object_in) →
      name ≡ (object_of v.heap address).name → new ≡ with_given_id v name address → IsIdOf new.ids name id → Answers s new (Id object) (Number id)
  id_told new object address name id a n after is =
      let given : new ≡ with_given_id v (object_of v.heap address).name address = after ∙ ap (λ name. with_given_id v name address) n in
      let has : IsIdOf new.ids (object_of v.heap address).name id = subst (λ name. IsIdOf new.ids name id) n is in
      rw given (id_named object address id (operand_at v s h object address a)
      (subst (λ (w : View). IsIdOf w.ids (object_of v.heap address).name id) given has))

  pub id_lacking : (object : Operand) (address name : ℕ) → Ok address ≡ named_address s.heap.place (and_then (operand_value s object) object_in) →
      name ≡ (object_of v.heap address).name → is_member nat_eq (names_in v.ids) name ≡ false → Answers s v (Id object) NoMemory
  id_lacking object address name a n lacks = record {
    state = s;
    represents = h.represents;
    replies = rw (operand_at v s h object address a).is
        (inr (
          refl,
          ap (λ names. is_member nat_eq names (object_of v.heap address).name) (sym h.represents.ids.names)
              ∙ ap (is_member nat_eq (names_in v.ids)) (sym n) ∙ lacks,
          refl,
        ));
  }

  pub id_refused : (object : Operand) (why : Refusal) → Err why ≡ named_address s.heap.place (and_then (operand_value s object) object_in) →
      Answers s v (Id object) (Refused why)
  id_refused object why e = record {
    state = s;
    represents = h.represents;
    replies = rw (refused_name s.heap.place (and_then (operand_value s object) object_in) why e) (record { reply_is = refl; unchanged = refl });
  }

  -- `byid`

  -- the name with an id has it in the state too
  id_in_state : (name id : ℕ) → IsIdOfName (names_in v.ids) name id → IsIdOfName s.tables.ids name id
  id_in_state name id is = subst (λ names. IsIdOfName names name id) h.represents.ids.names is

  pub by_id_never : (root : List ℕ) (id : ℕ) → IsFound v.ids id Never → Answers s v (ById root id) (Refused NoId)
  by_id_never root id never = record {
    state = s;
    represents = h.represents;
    replies = inr (
      (λ name is. found_never v.ids id never name (subst (λ names. IsIdOfName names name id) (sym h.represents.ids.names) is)),
      record { reply_is = refl; unchanged = refl },
    );
  }

  pub by_id_gone : (root : List ℕ) (id : ℕ) → IsFound v.ids id Gone → Answers s v (ById root id) GoneId
  by_id_gone root id gone =
      let found = found_gone v.ids id gone in
      let none : get s.heap.place found.name ≡ None =
      kept_at s.heap.place v.heap v.ids found.place (found.name, None) h.represents.ids.kept found.entry in
      record {
        state = s;
        represents = h.represents;
        replies = inl (record { name = found.name; id_is = id_in_state found.name id found.id_is; answer = rw none (refl, refl) });
      }

  -- the object that has the id is handed out
  pub by_id_here : (new : View) (root : List ℕ) (id address : ℕ) (reply : Reply) → IsFound v.ids id (Here address) →
      ((value : Value) → word_value s.heap.place (resolved v.heap address) ≡ Some value → HandsOut s new root value reply) →
      Answers s new (ById root id) reply
  by_id_here new root id address reply here hands =
      let found = found_here v.ids id address here in
      let at : get s.heap.place found.name ≡ Some (resolved v.heap address) =
      kept_at s.heap.place v.heap v.ids found.place (found.name, Some address) h.represents.ids.kept found.entry in
      let out = hands (Name found.name)
      (word_value-name s.graph s.heap.pages s.heap.place found.name (resolved v.heap address) h.sound.layout.placed at) in
      record {
        state = out.state;
        represents = out.represents;
        replies = inl (record { name = found.name; id_is = id_in_state found.name id found.id_is; answer = rw at out.writes });
      }
