-- The stored words of an object after a field was written, and where no field is stale.
use Rattle.std.proofs.Common.{◌≡◌, ◌≢◌, ℕ, zero, suc, ◌+◌, Bool, true, false, not, ◌&&◌, cond, List, [], ◌∷◌, map, set, nat_eq, refl, sym, ap, ◌∙◌, subst, arith, Some}
use Rattle.std.specs.Prelude.{slice_get}
use Rattle.std.specs.Ordering.{nat_cmp}
use Rattle.std.specs.FinMap.{FinMap}
use Rattle.std.proofs.lemmas.Bool.{cond-false}
use Rattle.std.proofs.lemmas.Bool.Decides.{nat_tests}
use Rattle.space_model.specs.declared.value.Value.{Value}
use Rattle.space_model.specs.Operands.{value_word}
use Rattle.space_model.specs.StoredWords.{is_stale, without_pair, stored_word, map_from, stored_words}

-- the same of each item
pub map_from_same : (f g : ℕ → Value → ℕ) (index : ℕ) (values : List Value) →
    ((i : ℕ) (value : Value) → slice_get values i ≡ Some value → f (index + i) value ≡ g (index + i) value) →
    map_from f index values ≡ map_from g index values
map_from_same f g index [] each = refl
map_from_same f g index (value ∷ values) each =
    let first : f index value ≡ g index value = subst (λ k. f k value ≡ g k value) (omega arith) (each 0 value refl) in
    let rest = map_from_same f g (index + 1) values (λ i v e. subst (λ k. f k v ≡ g k v) (omega arith) (each (suc i) v e)) in
    λ j. first j ∷ rest j

-- and the list after one item changed
pub map_from_set : (f g : ℕ → Value → ℕ) (index i : ℕ) (value : Value) (values : List Value) → ((k : ℕ) (v : Value) → k ≢ index + i → f k v ≡ g k v) →
    set (map_from f index values) i (g (index + i) value) ≡ map_from g index (set values i value)
map_from_set f g index i value [] other = refl
map_from_set f g index zero value (v ∷ values) other =
    let rest = map_from_same f g (index + 1) values (λ k w e. other (index + 1 + k) w (λ s. omega arith)) in
    let here : g (index + 0) value ≡ g index value = ap (λ k. g k value) (omega arith) in
    λ j. here j ∷ rest j
map_from_set f g index (suc i) value (v ∷ values) other =
    let first : f index v ≡ g index v = other index v (λ s. omega arith) in
    let rest = map_from_set f g (index + 1) i value values (λ k w n. other k w (λ s. n (omega arith))) in
    let at : g (index + suc i) value ≡ g (index + 1 + i) value = ap (λ k. g k value) (omega arith) in
    (λ j. first j ∷ set (map_from f (index + 1) values) i (at j)) ∙ ap (λ xs. g index v ∷ xs) rest

words_fresh_from : (place left : FinMap nat_cmp ℕ) (stale : List (ℕ × ℕ)) (name : ℕ) (index : ℕ) (values : List Value) →
    ((i : ℕ) → is_stale stale name i ≡ false) → map_from (stored_word place left stale name) index values ≡ map (value_word place) values
words_fresh_from place left stale name index [] none = refl
words_fresh_from place left stale name index (value ∷ values) none =
    λ j. cond-false (is_stale stale name index) (value_word left value) (value_word place value) (none index) j ∷ words_fresh_from place left stale name
    (index + 1) values none j

-- where no field of the name is stale the stored words are those of the values
pub words_fresh : (place left : FinMap nat_cmp ℕ) (stale : List (ℕ × ℕ)) (name : ℕ) (values : List Value) → ((i : ℕ) → is_stale stale name i ≡ false) →
    stored_words place left stale name values ≡ map (value_word place) values
words_fresh place left stale name values none = words_fresh_from place left stale name 0 values none

-- a field is stale without one where it was, and isn't this one
pub stale-without_pair : (stale : List (ℕ × ℕ)) (name index n i : ℕ) →
    is_stale (without_pair stale name index) n i ≡ (is_stale stale n i && not (nat_eq n name && nat_eq i index))
stale-without_pair [] name index n i = refl
stale-without_pair (pair ∷ stale) name index n i = step (stale-without_pair stale name index n i) (nat_eq pair.0 name && nat_eq pair.1 index) refl
  where
    step : is_stale (without_pair stale name index) n i ≡ (is_stale stale n i && not (nat_eq n name && nat_eq i index)) → (c : Bool) →
        (nat_eq pair.0 name && nat_eq pair.1 index) ≡ c →
        is_stale (without_pair (pair ∷ stale) name index) n i ≡ (is_stale (pair ∷ stale) n i && not (nat_eq n name && nat_eq i index))
    step rest true e = grind (arith, nat_tests, e, rest)
    step rest false e = grind (arith, nat_tests, e, rest)

-- after a field was written it holds the word of its value, and the others hold what they held
pub words_written : (place left : FinMap nat_cmp ℕ) (stale : List (ℕ × ℕ)) (name index : ℕ) (value : Value) (values : List Value) →
    set (stored_words place left stale name values) index (value_word place value) ≡ stored_words place left (without_pair stale name index) name
    (set values index value)
words_written place left stale name index value values =
    let f : ℕ → Value → ℕ = stored_word place left stale name in
    let g : ℕ → Value → ℕ = stored_word place left (without_pair stale name index) name in
    let here : g index value ≡ value_word place value =
    cond-false (is_stale (without_pair stale name index) name index) (value_word left value) (value_word place value)
    (stale-without_pair stale name index name index
    ∙ gone (is_stale stale name index) (nat_eq name name && nat_eq index index) (grind (arith, nat_tests))) in
    ap (set (map_from f 0 values) index) (sym here ∙ ap (λ k. g k value) (omega arith))
    ∙ map_from_set f g 0 index value values
    (λ k v other. ap (λ c. cond c (value_word left v) (value_word place v))
    (sym (stale-without_pair stale name index name k
    ∙ same (is_stale stale name k) (nat_eq name name && nat_eq k index) (grind (arith, nat_tests, other)))))
  where
    gone : (a b : Bool) → b ≡ true → (a && not b) ≡ false
    gone true b e = ap not e
    gone false b e = refl

    same : (a b : Bool) → b ≡ false → (a && not b) ≡ a
    same true b e = ap not e
    same false b e = refl
