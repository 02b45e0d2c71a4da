-- The stored words of fields stay where an object moves: a field that holds its name becomes stale, and its word is the address that the name left.
use Rattle.std.proofs.Common.{◌≡◌, ◌≢◌, ℕ, zero, suc, ◌+◌, ◌*◌, Bool, true, false, true≢false, ◌&&◌, cond, List, [], ◌∷◌, ◌++◌, nat_eq, refl, sym, ap, ◌∙◌, subst, arith, Option, Some, ⊎_elim}
use Rattle.std.specs.Prelude.{is_some, slice_get}
use Rattle.std.specs.Option.{unwrap_or}
use Rattle.std.specs.List.{flat_map}
use Rattle.std.specs.Set.{is_member}
use Rattle.std.specs.Ordering.{nat_cmp}
use Rattle.std.specs.FinMap.{FinMap, get, insert, keys}
use Rattle.std.proofs.lemmas.Bool.{cases_Bool, cases_eq, cond-true, cond-false, or_left, or_right, or_cases, and_from, eqb-true, eq-eqb}
use Rattle.std.proofs.lemmas.Bool.Decides.{nat_tests}
use Rattle.std.proofs.lemmas.List.Folds.{list_any-append}
use Rattle.space_model.specs.declared.phase.Phase.TheVariants.{Moving}
use Rattle.space_model.specs.declared.value.Value.{Value}
use Rattle.space_model.specs.declared.value.Value.TheVariants.{Nil, Small, Name}
use Rattle.space_model.specs.Compaction.{IsNextMove, is_name, fields_holding, pairs_holding}
use Rattle.space_model.specs.Graph.{Item, item_of}
use Rattle.space_model.specs.Operands.{value_word}
use Rattle.space_model.specs.Sound.{Sound}
use Rattle.space_model.specs.State.{State}
use Rattle.space_model.specs.StoredWords.{is_stale, stored_word, stored_words}
use Rattle.space_model.proofs.MapLaws.{get-insert_name}
use Rattle.space_model.proofs.MovesSound.{moves_once, stale_cases}
use Rattle.space_model.proofs.ReachedLaws.{member-keys}
use Rattle.space_model.proofs.StoredWordLaws.{map_from_same}
use Rattle.space_engine.proofs.Outcomes.{some_same}

-- a field of a list of values that holds a name is among the pairs of the parent that do
holds_pair : (name parent index i : ℕ) (values : List Value) → slice_get values i ≡ Some (Name name) →
    is_stale (fields_holding name parent index values) parent (index + i) ≡ true
holds_pair name parent index i [] e = absurd (cc)
holds_pair name parent index zero (value ∷ values) e =
    let is : value ≡ Name name = some_same value (Name name) e in
    let others : List (ℕ × ℕ) = fields_holding name parent (index + 1) values in
    let test : is_name name value ≡ true = ap (is_name name) is ∙ eq-eqb name name refl in
    let here : index ≡ index + 0 = omega arith in
    ap (λ (c : Bool). is_stale (cond c ((parent, index) ∷ others) others) parent (index + 0)) test
    ∙ or_left (nat_eq parent parent && nat_eq index (index + 0)) (is_stale others parent (index + 0))
    (and_from (nat_eq parent parent) (nat_eq index (index + 0)) (eq-eqb parent parent refl) (eq-eqb index (index + 0) here))
holds_pair name parent index (suc i) (value ∷ values) e =
    let others : List (ℕ × ℕ) = fields_holding name parent (index + 1) values in
    let further : index + 1 + i ≡ index + suc i = omega arith in
    let later : is_stale others parent (index + suc i) ≡ true =
    subst (λ (k : ℕ). is_stale others parent k ≡ true) further (holds_pair name parent (index + 1) i values e) in
    ⊎_elim
    (λ t. ap (λ (c : Bool). is_stale (cond c ((parent, index) ∷ others) others) parent (index + suc i)) t
    ∙ or_right (nat_eq parent parent && nat_eq index (index + suc i)) (is_stale others parent (index + suc i)) later)
    (λ f. ap (λ (c : Bool). is_stale (cond c ((parent, index) ∷ others) others) parent (index + suc i)) f ∙ later)
    (cases_Bool (is_name name value))

-- so it is among those of several parents
held_pair : (graph : List Item) (name : ℕ) (names : List ℕ) (p i : ℕ) → is_member nat_eq names p ≡ true →
    slice_get (item_of graph p).values i ≡ Some (Name name) →
    is_stale (flat_map (λ parent. fields_holding name parent 0 (item_of graph parent).values) names) p i ≡ true
held_pair graph name [] p i member holds = absurd (cc)
held_pair graph name (n ∷ names) p i member holds =
    let first : List (ℕ × ℕ) = fields_holding name n 0 (item_of graph n).values in
    let others : List (ℕ × ℕ) = flat_map (λ parent. fields_holding name parent 0 (item_of graph parent).values) names in
    list_any-append (λ (pair : ℕ × ℕ). nat_eq pair.0 p && nat_eq pair.1 i) first others
    ∙ ⊎_elim
    (λ same.
    let own : is_stale (fields_holding name p 0 (item_of graph p).values) p i ≡ true =
    subst (λ (k : ℕ). is_stale (fields_holding name p 0 (item_of graph p).values) p k ≡ true) (let z : 0 + i ≡ i = omega arith in z)
    (holds_pair name p 0 i (item_of graph p).values holds) in
    or_left (is_stale first p i) (is_stale others p i)
    (subst (λ (x : ℕ). is_stale (fields_holding name x 0 (item_of graph x).values) p i ≡ true) (eqb-true p n same) own))
    (λ further. or_right (is_stale first p i) (is_stale others p i) (held_pair graph name names p i further holds))
    (or_cases (nat_eq p n) (is_member nat_eq names p) member)

both_same : (c d : Bool) (word : ℕ) → cond c word word ≡ cond d word word
both_same true true word = refl
both_same true false word = refl
both_same false true word = refl
both_same false false word = refl

-- the name that moves next
module _ (s : State) (name from to : ℕ) (m : IsNextMove s name from to) (moving : s.collector.phase ≡ Moving) (sound : Sound s) where
  abbrev pub place' : FinMap nat_cmp ℕ
  place' = insert s.heap.place name to

  abbrev pub left' : FinMap nat_cmp ℕ
  left' = insert s.heap.left name from

  abbrev pub stale' : List (ℕ × ℕ)
  stale' = pairs_holding s.graph s.heap.place name ++ s.collector.stale

  -- where names stand and what they left after the move
  pub place_same : get place' name ≡ Some to
  place_same = get-insert_name s.heap.place name to name ∙ cond-true (nat_eq name name) (Some to) (get s.heap.place name) (grind (arith, nat_tests))

  pub place_other : (n : ℕ) → n ≢ name → get place' n ≡ get s.heap.place n
  place_other n other =
      get-insert_name s.heap.place name to n ∙ cond-false (nat_eq n name) (Some to) (get s.heap.place n) (grind (arith, nat_tests, other))

  pub left_same : get left' name ≡ Some from
  left_same = get-insert_name s.heap.left name from name ∙ cond-true (nat_eq name name) (Some from) (get s.heap.left name) (grind (arith, nat_tests))

  pub left_other : (n : ℕ) → n ≢ name → get left' n ≡ get s.heap.left n
  left_other n other =
      get-insert_name s.heap.left name from n ∙ cond-false (nat_eq n name) (Some from) (get s.heap.left n) (grind (arith, nat_tests, other))

  -- the name left no address before
  pub left_none : is_some (get s.heap.left name) ≡ true → ⊥
  left_none = moves_once s name from to m moving sound.moves

  -- a field is stale that was, and one of a present name that holds the name
  stale_still : (n index : ℕ) → is_stale s.collector.stale n index ≡ true → is_stale stale' n index ≡ true
  stale_still n index old =
      list_any-append (λ (pair : ℕ × ℕ). nat_eq pair.0 n && nat_eq pair.1 index) (pairs_holding s.graph s.heap.place name) s.collector.stale
      ∙ or_right (is_stale (pairs_holding s.graph s.heap.place name) n index) (is_stale s.collector.stale n index) old

  pair_held : (n index : ℕ) → is_some (get s.heap.place n) ≡ true → slice_get (item_of s.graph n).values index ≡ Some (Name name) →
      is_stale (pairs_holding s.graph s.heap.place name) n index ≡ true
  unfolding pairs_holding
  pair_held n index present holds = held_pair s.graph name (keys s.heap.place) n index (member-keys s.heap.place n ∙ present) holds

  stale_now : (n index : ℕ) → is_some (get s.heap.place n) ≡ true → slice_get (item_of s.graph n).values index ≡ Some (Name name) →
      is_stale stale' n index ≡ true
  stale_now n index present holds =
      list_any-append (λ (pair : ℕ × ℕ). nat_eq pair.0 n && nat_eq pair.1 index) (pairs_holding s.graph s.heap.place name) s.collector.stale
      ∙ or_left (is_stale (pairs_holding s.graph s.heap.place name) n index) (is_stale s.collector.stale n index) (pair_held n index present holds)

  -- no field that holds the name was stale: the name hadn't moved
  not_stale : (n index : ℕ) → slice_get (item_of s.graph n).values index ≡ Some (Name name) → is_stale s.collector.stale n index ≡ false
  not_stale n index holds = ⊎_elim
      (λ old.
      let p = sound.stale.fields n index old in
      let both : Name p.child ≡ Name name = some_same (Name p.child) (Name name) (sym p.holds ∙ holds) in
      let same : p.child ≡ name = cc in
      absurd (left_none (ap (λ (n : ℕ). is_some (get s.heap.left n)) (sym same) ∙ p.was_left)))
      (λ fresh. fresh)
      (cases_Bool (is_stale s.collector.stale n index))

  -- a field that holds another name is stale where it was
  stale_as : (n index other : ℕ) → other ≢ name → slice_get (item_of s.graph n).values index ≡ Some (Name other) →
      is_stale stale' n index ≡ is_stale s.collector.stale n index
  stale_as n index other differ holds = ⊎_elim
      (λ old. stale_still n index old ∙ sym old)
      (λ fresh. ⊎_elim
      (λ now. ⊎_elim
      (λ (present, held).
      let both : Name other ≡ Name name = some_same (Name other) (Name name) (sym holds ∙ held) in
      let same : other ≡ name = cc in
      absurd (differ same))
      (λ old. absurd (true≢false (sym old ∙ fresh)))
      (stale_cases s name n index now))
      (λ not_now. not_now ∙ sym fresh)
      (cases_Bool (is_stale stale' n index)))
      (cases_Bool (is_stale s.collector.stale n index))

  -- so each field of a present name keeps its word
  word_moved : (n index : ℕ) (value : Value) → is_some (get s.heap.place n) ≡ true → slice_get (item_of s.graph n).values index ≡ Some value →
      stored_word s.heap.place s.heap.left s.collector.stale n index value ≡ stored_word place' left' stale' n index value
  word_moved n index Nil present holds = both_same (is_stale s.collector.stale n index) (is_stale stale' n index) 0
  word_moved n index (Small number) present holds = both_same (is_stale s.collector.stale n index) (is_stale stale' n index) (2 * number + 1)
  word_moved n index (Name other) present holds = ⊎_elim
      (λ same.
      let held : slice_get (item_of s.graph n).values index ≡ Some (Name name) = holds ∙ ap (λ (x : ℕ). Some (Name x)) same in
      cond-false (is_stale s.collector.stale n index) (value_word s.heap.left (Name other)) (value_word s.heap.place (Name other)) (not_stale n index held)
      ∙ ap (λ (x : ℕ). value_word s.heap.place (Name x)) same
      ∙ ap (λ (o : Option ℕ). unwrap_or o 0) (m.movable.at ∙ sym left_same)
      ∙ ap (λ (x : ℕ). value_word left' (Name x)) (sym same)
      ∙ sym (cond-true (is_stale stale' n index) (value_word left' (Name other)) (value_word place' (Name other)) (stale_now n index present held)))
      (λ differ.
      ap (λ (c : Bool). cond c (value_word s.heap.left (Name other)) (value_word s.heap.place (Name other))) (sym (stale_as n index other differ holds))
      ∙ (λ j. cond (is_stale stale' n index) (unwrap_or (sym (left_other other differ) j) 0) (unwrap_or (sym (place_other other differ) j) 0)))
      (cases_eq other name)

  pub words_moved : (n : ℕ) → is_some (get s.heap.place n) ≡ true →
      stored_words s.heap.place s.heap.left s.collector.stale n (item_of s.graph n).values ≡ stored_words place' left' stale' n (item_of s.graph n).values
  words_moved n present =
      map_from_same (stored_word s.heap.place s.heap.left s.collector.stale n) (stored_word place' left' stale' n) 0 (item_of s.graph n).values
      (λ i value holds.
      let z : i ≡ 0 + i = omega arith in
      subst (λ (k : ℕ). stored_word s.heap.place s.heap.left s.collector.stale n k value ≡ stored_word place' left' stale' n k value) z
      (word_moved n i value present holds))
