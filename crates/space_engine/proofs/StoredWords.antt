-- The stored words of an object, one by one.
use Rattle.std.proofs.Common.{◌≡◌, ◌≢◌, ℕ, zero, suc, ◌+◌, ◌<◌, Bool, true, false, not, ◌&&◌, cond, List, [], ◌∷◌, length, map, get_or, nat_eq, refl, ap, ◌∙◌, arith}
use Rattle.std.specs.Prelude.{replicate}
use Rattle.std.specs.Ordering.{nat_cmp}
use Rattle.std.specs.FinMap.{FinMap}
use Rattle.std.proofs.lemmas.Bool.Decides.{nat_tests}
use Rattle.space_model.specs.declared.value.Value.{Value}
use Rattle.space_model.specs.declared.value.Value.TheVariants.{Nil}
use Rattle.space_model.specs.Operands.{value_word}
use Rattle.space_model.proofs.StoredWordLaws.{words_fresh, stale-without_pair}
use Rattle.space_model.specs.StoredWords.{is_stale, without_pair, stored_word, map_from, stored_words}

pub length-map_from : (f : ℕ → Value → ℕ) (index : ℕ) (values : List Value) → length (map_from f index values) ≡ length values
length-map_from f index [] = refl
length-map_from f index (value ∷ values) = ap suc (length-map_from f (index + 1) values)

-- the word of one value
pub get_or-map_from : (f : ℕ → Value → ℕ) (index i : ℕ) (values : List Value) → i < length values →
    get_or (map_from f index values) i 0 ≡ f (index + i) (get_or values i Nil)
get_or-map_from f index i [] lt = absurd (omega arith)
get_or-map_from f index zero (value ∷ values) lt = ap (λ k. f k value) (omega arith)
get_or-map_from f index (suc i) (value ∷ values) lt = get_or-map_from f (index + 1) i values (omega arith) ∙ ap (λ k. f k (get_or values i Nil)) (omega arith)

module _ (place left : FinMap nat_cmp ℕ) where
  -- where no field is stale the stored words are those of the values
  pub stored_words-fresh : (stale : List (ℕ × ℕ)) (name : ℕ) → stale ≡ [] → (values : List Value) →
      stored_words place left stale name values ≡ map (value_word place) values
  stored_words-fresh stale name none values = words_fresh place left stale name values (λ i. ap (λ pairs. is_stale pairs name i) none)

  -- the stored words of nil
  pub stored_words-nil : (stale : List (ℕ × ℕ)) (name fields : ℕ) → replicate fields 0 ≡ stored_words place left stale name (replicate fields Nil)
  stored_words-nil stale name fields = from 0 fields
    where
      same : (b : Bool) → 0 ≡ cond b (value_word left Nil) (value_word place Nil)
      same true = refl
      same false = refl

      from : (index fields : ℕ) → replicate fields 0 ≡ map_from (stored_word place left stale name) index (replicate fields Nil)
      from index zero = refl
      from index (suc fields) =
          let others = from (index + 1) fields in
          λ j. same (is_stale stale name index) j ∷ others j

stays : (a b : Bool) → b ≡ false → (a && not b) ≡ a
stays true b e = ap not e
stays false b e = refl

-- the pairs of other names stay
pub is_stale-other : (stale : List (ℕ × ℕ)) (name index n i : ℕ) → n ≢ name → is_stale (without_pair stale name index) n i ≡ is_stale stale n i
is_stale-other stale name index n i other =
    stale-without_pair stale name index n i ∙ stays (is_stale stale n i) (nat_eq n name && nat_eq i index) (grind (arith, nat_tests, other))
