-- What words and operands stand for, in the states that an engine holds.
use Rattle.std.proofs.Common.{◌≡◌, ℕ, ◌+◌, ◌*◌, ◌<◌, ◌==◌, ◌%◌, ◌/◌, ◌^◌, ◌&&◌, nat_lt, List, [], ◌∷◌, nat_eq, true, false, refl, ap, sym, ◌∙◌, subst, arith, Option, None, Some, Result, Ok, Err, ⊎_elim}
use Rattle.std.specs.Prelude.{slice_get, reverse, is_some}
use Rattle.std.specs.Option.{ok_or, option_map, unwrap_or}
use Rattle.std.specs.Set.{is_member}
use Rattle.std.specs.Ordering.{nat_cmp}
use Rattle.std.specs.FinMap.{FinMap, get}
use Rattle.std.proofs.lemmas.Bool.{eq-eqb, eqb-true, ne_eqb, or_left, true≢false, false≢true, cases_Bool, and_parts}
use Rattle.std.proofs.lemmas.Bool.Decides.{nat_tests}
use Rattle.space_model.specs.declared.command.Operand.{Operand}
use Rattle.space_model.specs.declared.command.Operand.TheVariants.{Root as RootOperand, Word}
use Rattle.space_model.specs.declared.reply.Refusal.{Refusal}
use Rattle.space_model.specs.declared.reply.Refusal.TheVariants.{NoRoot, NoWord, NotObject}
use Rattle.space_model.specs.declared.value.Value.{Value}
use Rattle.space_model.specs.declared.value.Value.TheVariants.{Nil, Small, Name}
use Rattle.space_model.specs.Operands.{named_by, value_word, word_value, word_value_in, operand_value}
use Rattle.space_model.specs.Maps.{names_at}
use Rattle.space_model.specs.Roots.{root_value}
use Rattle.space_model.specs.State.{State}
use Rattle.space_model.specs.Words.{IsSmallWord}
use Rattle.space_model.proofs.StackWords.{named_by-place, named_by-none, word_value-back}
use Rattle.space_model.proofs.ReachedLaws.{member-names_at}
use Rattle.space_model.proofs.ValuesKept.{IsPresentValue, placed_present, present_kept, small_kept}
use Rattle.space_heap.specs.Objects.{is_object, object_of, resolved}
use Rattle.space_roots.specs.WordRoots.{root_word}
use Rattle.space_engine.specs.Stands.{Holds}
use Rattle.space_engine.specs.Views.{View}
use Rattle.space_engine.specs.Words.{operand_word, word_result}
use Rattle.space_engine.proofs.ResolvedRoots.{root_word-resolved}
use Rattle.space_engine.proofs.RootWords.{root_word-word_roots}
use Rattle.space_engine.proofs.Outcomes.{none_some, ok_same, some_same}

err_same : (why other : Refusal) → ◌≡◌ {A = Result ℕ Refusal} (Err why) (Err other) → why ≡ other
err_same why other e = cc

ok_err : (a : ℕ) (why : Refusal) → ◌≡◌ {A = Result ℕ Refusal} (Ok a) (Err why) → ⊥
ok_err a why e = cc

module _ (v : View) (s : State) (h : Holds v s) where
  -- the name that a word names is the name of the object at this address
  pub name_found : (word : ℕ) → is_object v.heap word ≡ true → named_by s.heap.place word ≡ Some (object_of v.heap word).name
  name_found word is =
      named_by-place s.graph s.heap.pages s.heap.place (object_of v.heap word).name word h.sound.layout.placed (h.represents.heap.objects.only word is)

  pub no_name : (word : ℕ) → is_object v.heap word ≡ false → named_by s.heap.place word ≡ None
  no_name word none = named_by-none s.heap.place word (λ name at. true≢false (sym (h.represents.heap.objects.stands name word at) ∙ none))

  -- the word of a root is resolved to that of its value
  root_at : (name : List ℕ) (found : Option Value) → root_value s.roots name ≡ found →
      option_map (resolved v.heap) (root_word v.roots name) ≡ option_map (value_word s.heap.place) found
  root_at name found e =
      sym (root_word-resolved v.heap v.roots name)
      ∙ ap (λ roots. root_word roots name) h.represents.roots
      ∙ root_word-word_roots s.heap.place s.roots name
      ∙ ap (option_map (value_word s.heap.place)) e

  -- a root whose word is absent is absent
  pub root_absent : (name : List ℕ) → root_word v.roots name ≡ None → root_value s.roots name ≡ None
  root_absent name none = absent_cases (root_value s.roots name) refl
    where
      absent_cases : (o : Option Value) → root_value s.roots name ≡ o → o ≡ None
      absent_cases None e = refl
      absent_cases (Some value) e = absurd (none_some _ (sym (ap (option_map (resolved v.heap)) none) ∙ root_at name (Some value) e))

  -- a root whose word is there has a value
  pub root_there : (name : List ℕ) → is_some (root_word v.roots name) ≡ true → (value : Value) × (root_value s.roots name ≡ Some value)
  root_there name there = there_cases (root_value s.roots name) refl
    where
      mapped : (o : Option ℕ) → is_some o ≡ true → is_some (option_map (resolved v.heap) o) ≡ true
      mapped None e = e
      mapped (Some word) e = refl

      there_cases : (o : Option Value) → root_value s.roots name ≡ o → (value : Value) × (o ≡ Some value)
      there_cases None e = absurd (true≢false (sym (mapped (root_word v.roots name) there) ∙ ap is_some (root_at name None e)))
      there_cases (Some value) e = (value, refl)

  -- and it is the value of the word, once this is resolved
  root_found : (name : List ℕ) (word : ℕ) → root_word v.roots name ≡ Some word → root_value s.roots name ≡ word_value s.heap.place (resolved v.heap word)
  root_found name word e = found_cases (root_value s.roots name) refl
    where
      found_cases : (o : Option Value) → root_value s.roots name ≡ o → o ≡ word_value s.heap.place (resolved v.heap word)
      found_cases None f = absurd (none_some _ (sym (root_at name None f) ∙ ap (option_map (resolved v.heap)) e))
      found_cases (Some value) f =
          let same : value_word s.heap.place value ≡ resolved v.heap word =
          some_same _ _ (sym (root_at name (Some value) f) ∙ ap (option_map (resolved v.heap)) e) in
          sym (ap (word_value s.heap.place) (sym same)
          ∙ word_value-back s value h.sound ((present_kept s h.sound).root name value f) ((small_kept s h.sound).root name value f))

  -- an operand without a word
  pub operand_lost : (operand : Operand) (why : Refusal) → operand_word v operand ≡ Err why → operand_value s operand ≡ Err why
  operand_lost (RootOperand name) why e = root_lost (root_word v.roots name) refl e
    where
      root_lost : (o : Option ℕ) → root_word v.roots name ≡ o → ◌≡◌ {A = Result ℕ Refusal} (ok_or (option_map (resolved v.heap) o) NoRoot) (Err why) →
          operand_value s (RootOperand name) ≡ Err why
      root_lost None f e = rw (root_absent name f) (ap Err (err_same NoRoot why e))
      root_lost (Some word) f e = absurd (ok_err (resolved v.heap word) why e)
  operand_lost (Word k) why e = rw h.represents.stack (word_lost (slice_get (reverse v.stack) k) e)
    where
      word_lost : (o : Option ℕ) → ◌≡◌ {A = Result ℕ Refusal} (ok_or o NoWord) (Err why) → word_value_in s.heap.place o ≡ Err why
      word_lost None e = ap Err (err_same NoWord why e)
      word_lost (Some word) e = absurd (ok_err word why e)

  -- an operand has the value of its word
  pub operand_found : (operand : Operand) (word : ℕ) (found : Option Value) → operand_word v operand ≡ Ok word → found ≡ word_value s.heap.place word →
      operand_value s operand ≡ ok_or found NotObject
  operand_found (RootOperand name) word found e f = root_gives (root_word v.roots name) refl e
    where
      root_gives : (o : Option ℕ) → root_word v.roots name ≡ o → ◌≡◌ {A = Result ℕ Refusal} (ok_or (option_map (resolved v.heap) o) NoRoot) (Ok word) →
          operand_value s (RootOperand name) ≡ ok_or found NotObject
      root_gives None r e = absurd (ok_err word NoRoot (sym e))
      root_gives (Some w) r e =
          let has = root_there name (ap is_some r) in
          let value : Some has.0 ≡ found = sym has.1 ∙ root_found name w r ∙ ap (word_value s.heap.place) (ok_same (resolved v.heap w) word e) ∙ sym f in
          rw has.1 (ap (λ (o : Option Value). ok_or o NotObject) value)
  operand_found (Word k) word found e f = rw (h.represents.stack, f) (word_gives (slice_get (reverse v.stack) k) e)
    where
      word_gives : (o : Option ℕ) → ◌≡◌ {A = Result ℕ Refusal} (ok_or o NoWord) (Ok word) →
          word_value_in s.heap.place o ≡ ok_or (word_value s.heap.place word) NotObject
      word_gives None e = absurd (ok_err word NoWord (sym e))
      word_gives (Some w) e = ap (λ n. ok_or (word_value s.heap.place n) NotObject) (ok_same w word e)

no_small : (word : ℕ) → ((number : ℕ) → IsSmallWord word number → ⊥) → (nat_lt word (2 ^ 63) && (word % 2 == 1)) ≡ false
no_small word none = ⊎_elim
    (λ t. absurd (none (word / 2)
    (let p = and_parts _ _ t in let below : word < 2 ^ 63 = grind (arith, nat_tests, p.0) in let odd : word % 2 ≡ 1 = eqb-true _ _ p.1 in record {
      is = omega (arith, odd);
      small = omega (arith, below);
    })))
    (λ f. f)
    (cases_Bool (nat_lt word (2 ^ 63) && (word % 2 == 1)))

-- the value of a word that is not 0 and of no small integer
pub word_value-named : (place : FinMap nat_cmp ℕ) (word : ℕ) → (word ≡ 0 → ⊥) → ((number : ℕ) → IsSmallWord word number → ⊥) →
    word_value place word ≡ option_map Name (named_by place word)
word_value-named place word some none = rw (ne_eqb word 0 some, no_small word none) refl

first_member : (names : List ℕ) (name : ℕ) → slice_get names 0 ≡ Some name → is_member nat_eq names name ≡ true
first_member [] name e = absurd (cc)
first_member (n ∷ names) name e = or_left _ _ (eq-eqb name n (sym (let f : n ≡ name = cc in f)))

-- the name that a word names has the word as its place
pub named_by-back : (place : FinMap nat_cmp ℕ) (word name : ℕ) → named_by place word ≡ Some name → get place name ≡ Some word
named_by-back place word name e = (member-names_at place word name).0 (first_member (names_at place word) name e)

named_word : (place : FinMap nat_cmp ℕ) (word : ℕ) (found : Option ℕ) (value : Value) → named_by place word ≡ found → option_map Name found ≡ Some value →
    value_word place value ≡ word
named_word place word None value e v = absurd (none_some value v)
named_word place word (Some name) value e v =
    ap (value_word place) (sym (some_same (Name name) value v)) ∙ ap (λ (o : Option ℕ). unwrap_or o 0) (named_by-back place word name e)

odd_word : (word : ℕ) → (nat_lt word (2 ^ 63) && (word % 2 == 1)) ≡ true → 2 * (word / 2) + 1 ≡ word
odd_word word t = let odd : word % 2 ≡ 1 = eqb-true (word % 2) 1 (and_parts (nat_lt word (2 ^ 63)) (word % 2 == 1) t).1 in omega (arith, odd)

-- the word of the value of a word is the word
pub word_value-forth : (place : FinMap nat_cmp ℕ) (word : ℕ) (value : Value) → word_value place word ≡ Some value → value_word place value ≡ word
word_value-forth place word value e = ⊎_elim
    (λ (is_nil : (word == 0) ≡ true).
    let is : word_value place word ≡ Some Nil = rw is_nil refl in
    ap (value_word place) (sym (some_same Nil value (sym is ∙ e))) ∙ sym (eqb-true word 0 is_nil))
    (λ (some : (word == 0) ≡ false). ⊎_elim
    (λ (is_small : (nat_lt word (2 ^ 63) && (word % 2 == 1)) ≡ true).
    let is : word_value place word ≡ Some (Small (word / 2)) = rw (some, is_small) refl in
    ap (value_word place) (sym (some_same (Small (word / 2)) value (sym is ∙ e))) ∙ odd_word word is_small)
    (λ (large : (nat_lt word (2 ^ 63) && (word % 2 == 1)) ≡ false).
    let is : word_value place word ≡ option_map Name (named_by place word) = rw (some, large) refl in
    named_word place word (named_by place word) value refl (sym is ∙ e))
    (cases_Bool (nat_lt word (2 ^ 63) && (word % 2 == 1))))
    (cases_Bool (word == 0))

named_present : (place : FinMap nat_cmp ℕ) (word : ℕ) (found : Option ℕ) (value : Value) → named_by place word ≡ found → option_map Name found ≡ Some value →
    IsPresentValue place value
named_present place word None value e v = absurd (none_some value v)
named_present place word (Some name) value e v =
    subst (IsPresentValue place) (some_same (Name name) value v) (placed_present place name word (named_by-back place word name e))

-- the value of a word is present
pub word_present : (place : FinMap nat_cmp ℕ) (word : ℕ) (value : Value) → word_value place word ≡ Some value → IsPresentValue place value
word_present place word value e = ⊎_elim
    (λ (is_nil : (word == 0) ≡ true).
    let is : word_value place word ≡ Some Nil = rw is_nil refl in
    subst (IsPresentValue place) (some_same Nil value (sym is ∙ e)) (λ n m. absurd (false≢true m)))
    (λ (some : (word == 0) ≡ false). ⊎_elim
    (λ (is_small : (nat_lt word (2 ^ 63) && (word % 2 == 1)) ≡ true).
    let is : word_value place word ≡ Some (Small (word / 2)) = rw (some, is_small) refl in
    subst (IsPresentValue place) (some_same (Small (word / 2)) value (sym is ∙ e)) (λ n m. absurd (false≢true m)))
    (λ (large : (nat_lt word (2 ^ 63) && (word % 2 == 1)) ≡ false).
    let is : word_value place word ≡ option_map Name (named_by place word) = rw (some, large) refl in
    named_present place word (named_by place word) value refl (sym is ∙ e))
    (cases_Bool (nat_lt word (2 ^ 63) && (word % 2 == 1))))
    (cases_Bool (word == 0))

module _ (v : View) (s : State) (h : Holds v s) where
  -- the word of an operand that has a value is the word of the value
  pub word_found : (operand : Operand) (word : ℕ) (value : Value) → operand_word v operand ≡ Ok word → Some value ≡ word_value s.heap.place word →
      Ok word ≡ word_result s.heap.place (operand_value s operand)
  word_found operand word value e f =
      ap Ok (sym (word_value-forth s.heap.place word value (sym f)))
      ∙ ap (word_result s.heap.place) (sym (operand_found v s h operand word (Some value) e f))

  pub word_lost : (operand : Operand) (why : Refusal) → operand_word v operand ≡ Err why → Err why ≡ word_result s.heap.place (operand_value s operand)
  word_lost operand why e = ap (word_result s.heap.place) (sym (operand_lost v s h operand why e))

  pub word_strange : (operand : Operand) (word : ℕ) → operand_word v operand ≡ Ok word → None ≡ word_value s.heap.place word →
      Err NotObject ≡ word_result s.heap.place (operand_value s operand)
  word_strange operand word e f = ap (word_result s.heap.place) (sym (operand_found v s h operand word None e f))
