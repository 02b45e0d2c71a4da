-- A move keeps roots, object ids and weak maps: a word that led to the name's old address is that address, and leads to the new one.
use Rattle.std.proofs.Common.{◌≡◌, ◌≢◌, ℕ, ◌<◌, ◌%◌, List, [], ◌∷◌, nat_eq, true, refl, sym, ap, ◌∙◌, subst, arith, Option, None, Some, ⊎_elim}
use Rattle.std.specs.Prelude.{is_some}
use Rattle.std.specs.Option.{unwrap_or}
use Rattle.std.specs.FinMap.{get, insert}
use Rattle.std.proofs.lemmas.Bool.{cases_Bool, cases_eq, cond-true, cond-false}
use Rattle.std.proofs.lemmas.Bool.Decides.{nat_tests}
use Rattle.space_model.specs.declared.phase.Phase.TheVariants.{Moving}
use Rattle.space_model.specs.declared.value.Value.{Value}
use Rattle.space_model.specs.declared.value.Value.TheVariants.{Nil, Small, Name}
use Rattle.space_model.specs.Compaction.{IsNextMove, Moves1}
use Rattle.space_model.specs.Operands.{value_word}
use Rattle.space_model.specs.Places.{pool_of}
use Rattle.space_model.specs.Roots.{Root}
use Rattle.space_model.specs.State.{State}
use Rattle.space_model.proofs.MapLaws.{get-insert_name}
use Rattle.space_model.proofs.MovesSound.{moves_once}
use Rattle.space_model.proofs.StackWords.{slot_address-even, slot_address-some}
use Rattle.space_heap.specs.HeapView.{HeapView}
use Rattle.space_heap.specs.Objects.{is_object, object_of, is_moved, resolved}
use Rattle.space_heap.specs.Relocation.{relocated}
use Rattle.space_heap.specs.SoundHeap.{IsSoundHeap}
use Rattle.space_heap.proofs.MovedLaws.{resolved_unmoved}
use Rattle.space_heap.proofs.RelocationLaws.{resolved-relocated_from, resolved-relocated_other}
use Rattle.space_heap.proofs.TakenLaws.{resolved_object}
use Rattle.space_compact.specs.Moves.{IsMoveIn}
use Rattle.space_engine.specs.Stands.{Holds, HasIds, HasWeakEntries, HasFinals}
use Rattle.space_engine.specs.Views.{View}
use Rattle.space_engine.specs.Words.{word_roots, resolved_roots}
use Rattle.space_engine.proofs.Outcomes.{none_some, some_same}
use Rattle.space_engine.proofs.TablesKept.{ids_over, weak_over}

-- roots that are equal begin with the same, and go on alike
first_same : (a b : List ℕ × ℕ) (xs ys : List (List ℕ × ℕ)) → ◌≡◌ {A = List (List ℕ × ℕ)} (a ∷ xs) (b ∷ ys) → a ≡ b
first_same a b xs ys e = cc

rest_same : (a b : List ℕ × ℕ) (xs ys : List (List ℕ × ℕ)) → ◌≡◌ {A = List (List ℕ × ℕ)} (a ∷ xs) (b ∷ ys) → xs ≡ ys
rest_same a b xs ys e = cc

-- the name that stands at `from` is moved to `to`, in the heap and in the state
module _ (v : View) (s : State) (h : Holds v s) (moving : s.collector.phase ≡ Moving) (sound : IsSoundHeap v.heap) (pool name from to : ℕ)
    (its : IsMoveIn v.heap pool from to) (named : name ≡ (object_of v.heap from).name) (t : State) (moves : Moves1 s name from to t) where
  abbrev w : HeapView
  w = relocated v.heap from to

  next : IsNextMove s name from to
  next = moves.next

  here : is_object v.heap from ≡ true
  here = h.represents.heap.objects.stands name from next.movable.at

  place_same : get (insert s.heap.place name to) name ≡ Some to
  place_same = get-insert_name s.heap.place name to name ∙ cond-true (nat_eq name name) (Some to) (get s.heap.place name) (grind (arith, nat_tests))

  place_other : (n : ℕ) → n ≢ name → get (insert s.heap.place name to) n ≡ get s.heap.place n
  place_other n other =
      get-insert_name s.heap.place name to n ∙ cond-false (nat_eq n name) (Some to) (get s.heap.place n) (grind (arith, nat_tests))

  -- no other name stands at the old address
  alone : (n : ℕ) → get s.heap.place n ≡ Some from → n ≡ name
  alone n e = h.sound.layout.placed.once n name from e next.movable.at

  -- a word that led to the old address is that address: the name wasn't moved before
  pub leads_from : (word : ℕ) → resolved v.heap word ≡ from → word ≡ from
  leads_from word e = ⊎_elim
      (λ left.
      let l = h.represents.heap.left.only word left in
      let is : l.0 ≡ name = alone l.0 (h.represents.heap.left.leads l.0 word l.1 ∙ ap Some e) in
      absurd (moves_once s name from to next moving h.sound.moves (ap (λ n. is_some (get s.heap.left n)) (sym is) ∙ ap is_some l.1)))
      (λ stays. sym (resolved_unmoved v.heap word stays) ∙ e)
      (cases_Bool (is_moved v.heap word))

  leads_to : (word : ℕ) → word ≡ from → resolved w word ≡ to
  leads_to word same = ap (resolved w) same ∙ resolved-relocated_from v.heap pool from to here its.least.free

  leads_still : (word : ℕ) → word ≢ from → resolved w word ≡ resolved v.heap word
  leads_still word other = resolved-relocated_other v.heap pool from to here its.least.free word other

  from_itself : (word : ℕ) → word ≡ from → resolved v.heap word ≡ from
  from_itself word same = ap (resolved v.heap) same ∙ resolved_object v.heap from here

  -- a word that led to where a name stands leads to where it stands then
  pub leads_on : (n word : ℕ) → get s.heap.place n ≡ Some (resolved v.heap word) → get (insert s.heap.place name to) n ≡ Some (resolved w word)
  leads_on n word e = ⊎_elim
      (λ same.
      let is : n ≡ name = alone n (e ∙ ap Some (from_itself word same)) in
      ap (get (insert s.heap.place name to)) is ∙ place_same ∙ ap Some (sym (leads_to word same)))
      (λ differs.
      let other : n ≢ name = λ is.
      differs (leads_from word (some_same (resolved v.heap word) from (sym e ∙ ap (get s.heap.place) is ∙ next.movable.at))) in
      place_other n other ∙ e ∙ ap Some (sym (leads_still word differs)))
      (cases_eq word from)

  -- what is absent stays so
  absent : (n : ℕ) → get s.heap.place n ≡ None → get (insert s.heap.place name to) n ≡ None
  absent n none = place_other n (λ is. none_some from (sym none ∙ ap (get s.heap.place) is ∙ next.movable.at)) ∙ none

  -- the old address is no word of nil or of a small integer
  slot_some : 0 < from
  slot_some =
      let slot = h.sound.layout.placed.at name from next.movable.at in
      let some = slot_address-some slot.page (pool_of s.graph name) slot.slot in
      let is = slot.is in
      omega (arith, is, some)

  slot_even : from % 2 ≡ 0
  slot_even =
      let slot = h.sound.layout.placed.at name from next.movable.at in
      ap (λ (n : ℕ). n % 2) slot.is ∙ slot_address-even slot.page (pool_of s.graph name) slot.slot

  -- a value whose word it is is the name
  only_name : (value : Value) → value_word s.heap.place value ≡ from → value ≡ Name name
  only_name Nil e = let some = slot_some in absurd (omega (arith, e, some))
  only_name (Small number) e = let even = slot_even in absurd (omega (arith, e, even))
  only_name (Name n) e = by (get s.heap.place n) refl
    where
      by : (o : Option ℕ) → get s.heap.place n ≡ o → Name n ≡ Name name
      by None f =
          let some = slot_some in
          let zero_is : 0 ≡ from = sym (ap (λ (o : Option ℕ). unwrap_or o 0) f) ∙ e in
          absurd (omega (arith, zero_is, some))
      by (Some a) f = let is : a ≡ from = sym (ap (λ (o : Option ℕ). unwrap_or o 0) f) ∙ e in ap Name (alone n (f ∙ ap Some is))

  -- the word of any other value stays
  word_stays : (value : Value) → value ≢ Name name → value_word s.heap.place value ≡ value_word (insert s.heap.place name to) value
  word_stays Nil other = refl
  word_stays (Small number) other = refl
  word_stays (Name n) other = ap (λ (o : Option ℕ). unwrap_or o 0) (sym (place_other n (λ is. other (ap Name is))))

  -- a word that led to that of a value does so then
  pub value_leads : (word : ℕ) (value : Value) → resolved v.heap word ≡ value_word s.heap.place value →
      resolved w word ≡ value_word (insert s.heap.place name to) value
  value_leads word value e = ⊎_elim
      (λ same.
      let is : value ≡ Name name = only_name value (sym e ∙ from_itself word same) in
      leads_to word same ∙ sym (ap (value_word (insert s.heap.place name to)) is ∙ ap (λ (o : Option ℕ). unwrap_or o 0) place_same))
      (λ differs.
      let other : value ≢ Name name = λ is.
      differs (leads_from word (e ∙ ap (value_word s.heap.place) is ∙ ap (λ (o : Option ℕ). unwrap_or o 0) next.movable.at)) in
      leads_still word differs ∙ e ∙ word_stays value other)
      (cases_eq word from)

  roots_then : (words : List (List ℕ × ℕ)) (roots : List Root) → resolved_roots v.heap words ≡ word_roots s.heap.place roots →
      resolved_roots w words ≡ word_roots (insert s.heap.place name to) roots
  roots_then [] [] e = refl
  roots_then [] (root ∷ roots) e = absurd (cc)
  roots_then (word ∷ words) [] e = absurd (cc)
  roots_then (word ∷ words) (root ∷ roots) e =
      let word_at : List ℕ × ℕ = (word.0, resolved v.heap word.1) in
      let value_at : List ℕ × ℕ = (root.0, value_word s.heap.place root.1) in
      let first : word_at ≡ value_at = first_same word_at value_at (resolved_roots v.heap words) (word_roots s.heap.place roots) e in
      let rest = rest_same word_at value_at (resolved_roots v.heap words) (word_roots s.heap.place roots) e in
      let ident : word.0 ≡ root.0 = ap (λ (p : List ℕ × ℕ). p.0) first in
      let value : resolved v.heap word.1 ≡ value_word s.heap.place root.1 = ap (λ (p : List ℕ × ℕ). p.1) first in
      λ j. (ident j, value_leads word.1 root.1 value j) ∷ roots_then words roots rest j

  -- the words of roots are those of their values
  pub roots_moved : resolved_roots (relocated v.heap from to) v.roots ≡ word_roots t.heap.place t.roots
  roots_moved = roots_then v.roots s.roots h.represents.roots ∙ ap (λ (u : State). word_roots u.heap.place u.roots) (sym moves.after)

  -- the addresses that are kept of names with an id, and of the keys and values of weak maps
  pub ids_moved : HasIds t.heap.place t.tables.ids v.ids (relocated v.heap from to)
  ids_moved = subst (λ (u : State). HasIds u.heap.place u.tables.ids v.ids w) (sym moves.after)
      (ids_over s.heap.place (insert s.heap.place name to) v.heap w leads_on s.tables.ids v.ids (λ n m none. absent n none) h.represents.ids)

  pub weak_moved : HasWeakEntries t.heap.place t.tables.weak v.weak (relocated v.heap from to)
  weak_moved = subst (λ (u : State). HasWeakEntries u.heap.place u.tables.weak v.weak w) (sym moves.after)
      (weak_over s.heap.place (insert s.heap.place name to) v.heap w leads_on s.tables.weak v.weak h.represents.weak)

  -- finalizers and the stack are what they were
  pub finals_moved : HasFinals t.tables.finals t.tables.queue v.finals
  finals_moved = subst (λ (u : State). HasFinals u.tables.finals u.tables.queue v.finals) (sym moves.after) h.represents.finals

  pub stack_moved : t.stack ≡ v.stack
  stack_moved = ap (λ (u : State). u.stack) moves.after ∙ h.represents.stack
