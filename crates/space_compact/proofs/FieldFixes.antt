-- The fields of an object while they are resolved, one after another.
use Rattle.std.proofs.Common.{◌≡◌, ℕ, zero, suc, ◌+◌, ◌<◌, ◌≤◌, true, List, [], ◌∷◌, ◌++◌, length, map, set, take, drop, get_or, refl, sym, ap, ◌∙◌, subst, arith}
use Rattle.std.proofs.lemmas.List.{take_all, drop_all}
use Rattle.std.proofs.lemmas.List.Edits.{map_over_more}
use Rattle.space_heap.specs.Slots.{ObjectView}
use Rattle.space_heap.specs.HeapView.{HeapView}
use Rattle.space_heap.specs.Objects.{is_occupied, object_of, resolved, with_object, written}
use Rattle.space_heap.specs.Readings.{Reading, reading_of, IsNextField, IsReadWhole}
use Rattle.space_heap.proofs.ObjectLaws.{is_occupied-with_object, object_of-with_object_same, resolved-with_object}
use Rattle.space_compact.specs.Visits.{fixed_object}
use Rattle.space_compact.proofs.ObjectUpdates.{with_object-twice, with_object-self}

module _ (v : HeapView) (a : ℕ) where
  abbrev fields : List ℕ
  fields = (object_of v a).fields

  -- the words of the fields after so many of them were resolved
  abbrev part_words : ℕ → List ℕ
  part_words i = map (resolved v) (take i fields) ++ drop i fields

  -- the object after so many of its fields were resolved
  abbrev part_fixed : ℕ → ObjectView
  part_fixed i = let o : ObjectView = object_of v a in record o { fields = part_words i }

  -- from v to u so many fields were read, and these are resolved
  pub record AreFixed (u : HeapView) (i : ℕ) (r : Reading) : Type 0 where
    pub fixed : u ≡ with_object v a (part_fixed i)
    pub reading : r ≡ record (reading_of v a) { done = i }

  long : (f : ℕ → ℕ) (xs : List ℕ) (i : ℕ) → length (map f (take i xs) ++ drop i xs) ≡ length xs
  long f [] zero = refl
  long f [] (suc i) = refl
  long f (x ∷ xs) zero = refl
  long f (x ∷ xs) (suc i) = let r = long f xs i in omega (arith, r)

  -- the next word is as it was
  word_at : (f : ℕ → ℕ) (words : List ℕ) (i d : ℕ) → get_or (map f (take i words) ++ drop i words) i d ≡ get_or words i d
  word_at f [] zero d = refl
  word_at f [] (suc i) d = refl
  word_at f (x ∷ xs) zero d = refl
  word_at f (x ∷ xs) (suc i) d = word_at f xs i d

  found : (f : ℕ → ℕ) (words : List ℕ) (i : ℕ) → i < length words → get_or words i 0 ≡ get_or (map f (take i words) ++ drop i words) i (get_or words i 0)
  found f [] i low = absurd (omega arith)
  found f (x ∷ xs) zero low = refl
  found f (x ∷ xs) (suc i) low = found f xs i (omega arith)

  append_none : (xs : List ℕ) → xs ++ [] ≡ xs
  append_none [] = refl
  append_none (x ∷ xs) = ap (λ ys. x ∷ ys) (append_none xs)

  module _ (e : is_occupied v a ≡ true) where
    pub none_fixed : AreFixed v 0 (reading_of v a)
    none_fixed = record { fixed = sym (with_object-self v a e); reading = refl }

    module _ (u : HeapView) (i : ℕ) (r : Reading) (p : AreFixed u i r) where
      pub fixed_stands : is_occupied u a ≡ true
      fixed_stands = ap (λ u. is_occupied u a) p.fixed ∙ is_occupied-with_object v a (part_fixed i) a ∙ e

      at : r.address ≡ a
      at = ap (λ (r : Reading). r.address) p.reading

      pub reader_stands : is_occupied u r.address ≡ true
      reader_stands = ap (is_occupied u) at ∙ fixed_stands

      here : object_of u a ≡ part_fixed i
      here = ap (λ u. object_of u a) p.fixed ∙ object_of-with_object_same v a (part_fixed i) e

      fixed_long : length (object_of u a).fields ≡ length fields
      fixed_long = ap (λ (o : ObjectView). length o.fields) here ∙ long (resolved v) fields i

      pub reader_long : length (object_of u r.address).fields ≡ r.count
      reader_long = ap (λ b. length (object_of u b).fields) at ∙ fixed_long ∙ sym (ap (λ (r : Reading). r.count) p.reading)

      pub fixed_within : i < length fields → i < length (object_of u a).fields
      fixed_within low = subst (λ n. i < n) (sym fixed_long) low

      -- no reading ends before the last field
      pub none_left : (after : Reading) → IsReadWhole r after → length fields ≤ i
      none_left after whole =
          let w = whole.whole in
          let count = ap (λ (r : Reading). r.count) p.reading in
          let done = ap (λ (r : Reading). r.done) p.reading in
          omega arith

      pub next_word : (after : Reading) (word : ℕ) → IsNextField u r after word → word ≡ get_or (object_of u a).fields i 0
      next_word after word next = next.is ∙ (λ j. get_or (object_of u (at j)).fields (p.reading j).done 0)

      pub one_fixed : (after : Reading) (word to : ℕ) (w : HeapView) → IsNextField u r after word → to ≡ resolved u word
          → w ≡ written u a i to → AreFixed w (i + 1) after
      one_fixed after word to w next is wrote =
          let low : i < length fields =
          let within = next.within in
          let count = ap (λ (r : Reading). r.count) p.reading in
          let done = ap (λ (r : Reading). r.done) p.reading in
          omega arith in
          let x : ObjectView = part_fixed i in
          let value : to ≡ resolved v (get_or fields i 0) =
          is
          ∙ ap (resolved u) (next_word after word next
          ∙ ap (λ (o : ObjectView). get_or o.fields i 0) here
          ∙ word_at (resolved v) fields i 0)
          ∙ ap (λ u. resolved u (get_or fields i 0)) p.fixed
          ∙ resolved-with_object v a x (get_or fields i 0) in
          let list : set (part_words i) i to ≡ part_words (i + 1) =
          ap (set (part_words i) i) value
          ∙ map_over_more (resolved v) fields (part_words i) i (get_or fields i 0) low refl (found (resolved v) fields i low) in
          record {
            fixed =
                wrote
                ∙ ap (λ (o : ObjectView). with_object u a (record o { fields = set o.fields i to })) here
                ∙ ap (λ u. with_object u a (record x { fields = set x.fields i to })) p.fixed
                ∙ with_object-twice v a x (record x { fields = set x.fields i to }) e
                ∙ ap (with_object v a) (λ j. record x { fields = list j });
            reading = next.after_it ∙ ap (λ (r : Reading). record r { done = r.done + 1 }) p.reading;
          }

      pub all_fixed : length fields ≤ i → u ≡ with_object v a (fixed_object v a)
      all_fixed past =
          p.fixed ∙ ap (with_object v a) (λ j. let o : ObjectView = object_of v a in record o {
            fields = (
                ap (λ ys. map (resolved v) ys ++ drop i fields) (take_all i fields past)
                ∙ ap (λ ys. map (resolved v) fields ++ ys) (drop_all i fields past)
                ∙ append_none (map (resolved v) fields)) j;
          })
