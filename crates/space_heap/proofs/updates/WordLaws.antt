-- The words of an object after a field was written, and those of a new object.
use Rattle.std.proofs.Common.{◌≡◌, ◌≢◌, ℕ, zero, suc, ◌+◌, ◌/◌, ◌<◌, ◌≤◌, List, ◌∷◌, length, take, drop, get_or, set, replicate, refl, sym, ap, ◌∙◌, arith}
use Rattle.std.proofs.Math.Seq.{take-set-lt}
use Rattle.std.proofs.lemmas.Bool.Decides.{nat_tests}
use Rattle.std.proofs.lemmas.List.{get_or-set_other, length-set, drop-set-add, take-replicate, length-replicate}
use Rattle.space_model.specs.Layout.{slot_bytes, pool_for}
use Rattle.space_model.specs.declared.object.Style.{Style}
use Rattle.space_model.specs.declared.object.Style.TheVariants.{Movable, Keeping}
use Rattle.space_pages.specs.Slots.{words_of}
use Rattle.space_heap.specs.words.ObjectWords.{word_at, style_from, first_word, count_in, fields_in, object_words, AreObjectWords}

module _ (words : List ℕ) (i word : ℕ) where
  abbrev after : List ℕ
  after = set words (2 + i) word

  pub first_stays : word_at after 0 ≡ word_at words 0
  first_stays = get_or-set_other words (2 + i) 0 word 0 (λ e. omega arith)

  pub name_stays : word_at after 1 ≡ word_at words 1
  name_stays = get_or-set_other words (2 + i) 1 word 0 (λ e. omega arith)

  count_stays : count_in after ≡ count_in words
  count_stays = ap (λ w. w / 256) first_stays

  pub field_set : i < count_in words → fields_in after ≡ set (fields_in words) i word
  field_set within =
      ap (λ n. take n (drop 2 after)) count_stays
      ∙ ap (take (count_in words)) (drop-set-add 2 words i word)
      ∙ take-set-lt (count_in words) (drop 2 words) i word within

  pub object_stays : i < count_in words → AreObjectWords words → AreObjectWords after
  object_stays within h = record {
    fits = let n = count_stays in let l = length-set words (2 + i) word in let f = h.fits in omega arith;
    first = first_stays ∙ h.first ∙ ap (λ n. first_word n (style_from (word_at words 0))) (sym count_stays)
        ∙ ap (λ w. first_word (count_in after) (style_from w)) (sym first_stays);
    zeroed = λ k past.
        let n = count_stays in
        let differ : k ≢ 2 + i = λ e. omega arith in
        get_or-set_other words (2 + i) k word 0 differ ∙ h.zeroed k (omega arith);
  }

count_first : (n : ℕ) (style : Style) → first_word n style / 256 ≡ n
count_first n Movable = grind arith
count_first n Keeping = grind arith

style_first : (n : ℕ) (style : Style) → style_from (first_word n style) ≡ style
style_first n Movable = grind (arith, nat_tests)
style_first n Keeping = grind (arith, nat_tests)

zero_from : (k n : ℕ) → ◌≡◌ {A = ℕ} (get_or (replicate n 0) k 0) 0
zero_from k zero = refl
zero_from zero (suc n) = refl
zero_from (suc k) (suc n) = zero_from k n

zero_past : (n k w name : ℕ) (style : Style) → 2 ≤ k → get_or (first_word n style ∷ name ∷ replicate w 0) k 0 ≡ 0
zero_past n zero w name style past = absurd (omega arith)
zero_past n (suc zero) w name style past = absurd (omega arith)
zero_past n (suc (suc k)) w name style past = zero_from k w

-- what a new object's words tell
pub record NewWords (words : List ℕ) (n name : ℕ) (style : Style) : Type 0 where
  pub name_is : word_at words 1 ≡ name
  pub style_is : style_from (word_at words 0) ≡ style
  pub fields_are : fields_in words ≡ replicate n 0
  pub shape : AreObjectWords words

pub new_words : (width n name : ℕ) (style : Style) → 2 + n ≤ width → NewWords (object_words width n style name) n name style
new_words zero n name style fits = absurd (omega arith)
new_words (suc zero) n name style fits = absurd (omega arith)
new_words (suc (suc w)) n name style fits = record {
  name_is = refl;
  style_is = style_first n style;
  fields_are = ap (λ k. take k (replicate w 0)) (count_first n style) ∙ take-replicate n w 0 (omega arith);
  shape = record {
    fits = let c : count_in (object_words (suc (suc w)) n style name) ≡ n = count_first n style in
        let l : length (object_words (suc (suc w)) n style name) ≡ suc (suc w) = ap (λ k. suc (suc k)) (length-replicate {A = ℕ} w 0) in omega arith;
    first = ap (λ s. first_word n s) (sym (style_first n style)) ∙ ap (λ k. first_word k (style_from (first_word n style))) (sym (count_first n style));
    zeroed = λ k past. let c : count_in (object_words (suc (suc w)) n style name) ≡ n = count_first n style in zero_past n k w name style (omega arith);
  };
}

-- a pool's slots have room for the fields of its objects
pub pool_room : (n : ℕ) → n ≤ 78 → 2 + n ≤ words_of (pool_for n)
unfolding pool_for slot_bytes
pool_room n few = grind (arith, nat_tests)

pub pool_known : (n : ℕ) → pool_for n < 5
unfolding pool_for
pool_known n = grind (arith, nat_tests)
