-- What pins change, and which objects they are.
use Rattle.std.proofs.Common.{◌≡◌, ◌≢◌, ◌⊎◌, ◌↔◌, inl, inr, ⊎_elim, ℕ, zero, suc, ◌+◌, ◌^◌, ◌<◌, ◌≤◌, Bool, true, false, true≢false, not, ◌&&◌, ◌||◌, cond, List, [], ◌∷◌, length, map, take, get_or, nat_eq, refl, sym, ap, ◌∙◌, subst, arith}
use Rattle.std.specs.Set.{is_member}
use Rattle.std.proofs.lemmas.Bool.{cases_Bool, cases_eq, cases_lt, cond-true, cond-false, and_parts, and_from}
use Rattle.std.proofs.lemmas.Bool.Decides.{nat_tests}
use Rattle.std.proofs.lemmas.List.{take_all, length-map}
use Rattle.std.proofs.lemmas.List.Sums.{fold_more}
use Rattle.space_heap.specs.Slots.{ObjectView}
use Rattle.space_heap.specs.HeapView.{HeapView}
use Rattle.space_heap.specs.Objects.{is_object, object_of, resolved}
use Rattle.space_heap.specs.Walks.{HasNoObjectFrom, IsNextObject}
use Rattle.space_heap.specs.Relocation.{pinned_object, pinned_at, unpinned_object, unpinned}
use Rattle.space_heap.proofs.ObjectLaws.{occupied_from_object, is_occupied-with_object, object_of-with_object_same, object_of-with_object_other, stays, is_object-with_object, resolved-with_object, is_free_at-with_object, pool_at-with_object, count-with_object, rest-with_object}
use Rattle.space_heap.proofs.FreeLaws.{is_moved-with_object}
use Rattle.space_heap.proofs.PinLaws.{is_occupied-unpinned, is_object-unpinned, object_of-unpinned, resolved-unpinned, is_moved-unpinned, is_free_at-unpinned, pool_at-unpinned, count-unpinned}
use Rattle.space_compact.specs.Pins.{pinned_word, pinned_words, child_words, is_keeping, IsKeptBy, SameButPins, PinsNow, PinsKept}

abbrev pub is_pinned : HeapView → ℕ → Bool
is_pinned v a = (object_of v a).pinned

pub same_still : (v : HeapView) → SameButPins v v
same_still v = record {
  objects = λ a. refl;
  standing = λ a. refl;
  present = λ a. refl;
  moves = λ w. refl;
  away = λ a. refl;
  free = λ q a. refl;
  pools = λ p. refl;
  count = refl;
  limit = refl;
  unswept = refl;
  grey = refl;
  phase_is = refl;
  cursor_is = refl;
  counters_are = refl;
}

pub same_then : (u v w : HeapView) → SameButPins u v → SameButPins v w → SameButPins u w
same_then u v w a b = record {
  objects = λ x. b.objects x ∙ a.objects x;
  standing = λ x. b.standing x ∙ a.standing x;
  present = λ x. b.present x ∙ a.present x;
  moves = λ x. b.moves x ∙ a.moves x;
  away = λ x. b.away x ∙ a.away x;
  free = λ q x. b.free q x ∙ a.free q x;
  pools = λ p. b.pools p ∙ a.pools p;
  count = b.count ∙ a.count;
  limit = b.limit ∙ a.limit;
  unswept = b.unswept ∙ a.unswept;
  grey = b.grey ∙ a.grey;
  phase_is = b.phase_is ∙ a.phase_is;
  cursor_is = b.cursor_is ∙ a.cursor_is;
  counters_are = b.counters_are ∙ a.counters_are;
}

same_at : (v : HeapView) (a : ℕ) → SameButPins v (pinned_at v a)
same_at v a =
    let o : ObjectView = pinned_object (object_of v a) in
    let rest = rest-with_object v a o in
    record {
      objects = λ b. stays unpinned_object v a o b refl;
      standing = is_occupied-with_object v a o;
      present = λ b. is_object-with_object v a o b refl;
      moves = resolved-with_object v a o;
      away = is_moved-with_object v a o;
      free = is_free_at-with_object v a o;
      pools = pool_at-with_object v a o;
      count = count-with_object v a o;
      limit = rest.limit;
      unswept = rest.unswept;
      grey = rest.grey;
      phase_is = rest.phase;
      cursor_is = rest.cursor;
      counters_are = rest.counters;
    }

pub same_word : (v : HeapView) (word : ℕ) → SameButPins v (pinned_word v word)
same_word v word = by (is_object v word)
  where
    by : (b : Bool) → SameButPins v (cond b (pinned_at v word) v)
    by true = same_at v word
    by false = same_still v

word_pins : (v : HeapView) (word a : ℕ) → is_pinned (pinned_word v word) a ≡ (is_pinned v a || (is_object v word && nat_eq a word))
word_pins v word a = ⊎_elim
    (λ is.
    let here : pinned_word v word ≡ pinned_at v word = cond-true (is_object v word) (pinned_at v word) v is in
    ap (λ u. is_pinned u a) here ∙ ⊎_elim
    (λ same.
    ap (is_pinned (pinned_at v word)) same
    ∙ ap (λ (o : ObjectView). o.pinned) (object_of-with_object_same v word (pinned_object (object_of v word)) (occupied_from_object v word is))
    ∙ sym (last (is_pinned v a) (is_object v word && nat_eq a word) (and_from _ _ is (grind (arith, nat_tests)))))
    (λ other.
    ap (λ (o : ObjectView). o.pinned) (object_of-with_object_other v word (pinned_object (object_of v word)) a other)
    ∙ sym (first (is_pinned v a) (is_object v word) (nat_eq a word) (grind (arith, nat_tests))))
    (cases_eq a word))
    (λ none.
    ap (λ u. is_pinned u a) (cond-false (is_object v word) (pinned_at v word) v none)
    ∙ sym (empty (is_pinned v a) (is_object v word) (nat_eq a word) none))
    (cases_Bool (is_object v word))
  where
    last : (p q : Bool) → q ≡ true → (p || q) ≡ true
    last true q e = refl
    last false q e = e

    first : (p q r : Bool) → r ≡ false → (p || (q && r)) ≡ p
    first true q r e = refl
    first false true r e = e
    first false false r e = refl

    empty : (p q r : Bool) → q ≡ false → (p || (q && r)) ≡ p
    empty true q r e = refl
    empty false true r e = absurd (true≢false e)
    empty false false r e = refl

pub same_words : (words : List ℕ) (v : HeapView) → SameButPins v (pinned_words v words)
unfolding pinned_words
same_words [] v = same_still v
same_words (word ∷ words) v =
    let u : HeapView = pinned_word v word in
    same_then v u (pinned_words u words) (same_word v word) (same_words words u)

pub words_pins : (words : List ℕ) (v : HeapView) (a : ℕ) → is_pinned (pinned_words v words) a ≡ (is_pinned v a || (is_object v a && is_member nat_eq words a))
unfolding pinned_words
words_pins [] v a = sym (none (is_pinned v a) (is_object v a))
  where
    none : (p q : Bool) → (p || (q && false)) ≡ p
    none true q = refl
    none false true = refl
    none false false = refl
words_pins (word ∷ words) v a =
    words_pins words (pinned_word v word) a
    ∙ ap (λ b. is_pinned (pinned_word v word) a || (b && is_member nat_eq words a)) ((same_word v word).present a)
    ∙ ap (λ b. b || (is_object v a && is_member nat_eq words a)) (word_pins v word a)
    ∙ ⊎_elim
    (λ same.
    ap (λ n. (is_pinned v a || (is_object v n && nat_eq a word)) || (is_object v a && is_member nat_eq words a)) (sym same)
    ∙ joined (is_pinned v a) (is_object v a) (nat_eq a word) (is_member nat_eq words a))
    (λ other. apart (is_pinned v a) (is_object v word) (is_object v a) (nat_eq a word) (is_member nat_eq words a) (grind (arith, nat_tests)))
    (cases_eq a word)
  where
    joined : (p q r s : Bool) → ((p || (q && r)) || (q && s)) ≡ (p || (q && (r || s)))
    joined true q r s = refl
    joined false true r s = refl
    joined false false r s = refl

    apart : (p q t r s : Bool) → r ≡ false → ((p || (q && r)) || (t && s)) ≡ (p || (t && (r || s)))
    apart true q t r s e = refl
    apart false true t r s e = ap (λ r. r || (t && s)) e ∙ sym (ap (λ r. t && (r || s)) e)
    apart false false t r s e = sym (ap (λ r. t && (r || s)) e)

-- what isn't there, or is gone, isn't pinned
words_pins_none : (words : List ℕ) (v : HeapView) (a : ℕ) → is_object v a ≡ false → is_pinned (pinned_words v words) a ≡ is_pinned v a
words_pins_none words v a none = words_pins words v a ∙ ap (λ b. is_pinned v a || (b && is_member nat_eq words a)) none ∙ or_none (is_pinned v a)
  where
    or_none : (p : Bool) → (p || false) ≡ p
    or_none true = refl
    or_none false = refl

map_same : (f g : ℕ → ℕ) (xs : List ℕ) → ((x : ℕ) → f x ≡ g x) → map f xs ≡ map g xs
map_same f g [] e = refl
map_same f g (x ∷ xs) e = λ j. e x j ∷ map_same f g xs e j

-- what pins don't change: whether an object keeps another one
module _ (v w : HeapView) (s : SameButPins v w) where
  words_same : (m : ℕ) → child_words w m ≡ child_words v m
  words_same m = ap (map (resolved w)) (ap (λ (o : ObjectView). o.fields) (s.objects m)) ∙ map_same (resolved w) (resolved v) (object_of v m).fields s.moves

  pub kept_same : (m a : ℕ) → IsKeptBy w m a → IsKeptBy v m a
  kept_same m a k = (
    sym (s.present m) ∙ k.0,
    sym (ap (λ (o : ObjectView). is_keeping o.style) (s.objects m)) ∙ k.1,
    ap (λ ws. is_member nat_eq ws a) (sym (words_same m)) ∙ k.2,
  )

  pub kept_back : (m a : ℕ) → IsKeptBy v m a → IsKeptBy w m a
  kept_back m a k = (s.present m ∙ k.0, ap (λ (o : ObjectView). is_keeping o.style) (s.objects m) ∙ k.1, ap (λ ws. is_member nat_eq ws a) (words_same m) ∙ k.2)

-- the object was pinned before, or an object of style K below the address holds it in a field
abbrev IsPinnedBelow : HeapView → ℕ → ℕ → Type 0
IsPinnedBelow v from a = (is_pinned v a ≡ true) ⊎ ((m : ℕ) × (m < from) × IsKeptBy v m a)

-- nothing changed but pins, and those came to them that objects of style K below this address hold in a field
pub record PinsBelow (old new : HeapView) (from : ℕ) : Type 0 where
  pub same : SameButPins old new
  pub pinned : (a : ℕ) → is_object old a ≡ true → (is_pinned new a ≡ true) ↔ IsPinnedBelow old from a
  pub others : (a : ℕ) → is_object old a ≡ false → is_pinned new a ≡ is_pinned old a

-- no object so far
pub pins_begin : (v : HeapView) → PinsBelow v v 0
pins_begin v = record {
  same = same_still v;
  pinned = λ a is. (λ e. inl e, λ s. ⊎_elim (λ e. e) (λ k. absurd (omega (arith, k.1))) s);
  others = λ a none. refl;
}

or_cases : (p q : Bool) → (p || q) ≡ true → (p ≡ true) ⊎ (q ≡ true)
or_cases true q e = inl refl
or_cases false q e = inr e

or_first : (p q : Bool) → p ≡ true → (p || q) ≡ true
or_first true q e = refl
or_first false q e = absurd (true≢false (sym e))

or_last : (p q : Bool) → q ≡ true → (p || q) ≡ true
or_last true q e = refl
or_last false q e = e

module _ (v u : HeapView) (from a : ℕ) (below : PinsBelow v u from) (next : IsNextObject u from a) where
  -- an object below the next address is below the last one, or is this one
  lower : (m b : ℕ) → m < a + 1 → IsKeptBy v m b → (m < from) ⊎ (m ≡ a)
  lower m b low k = ⊎_elim
      (λ under. inl under)
      (λ above. ⊎_elim
      (λ same. inr same)
      (λ differ. absurd (true≢false (sym (below.same.present m ∙ k.0) ∙ next.before m above (omega (arith, differ)))))
      (cases_eq m a))
      (cases_lt m from)

  -- after an object that isn't of style K
  pub pins_other : is_keeping (object_of u a).style ≡ false → PinsBelow v u (a + 1)
  pins_other f = record {
    same = below.same;
    pinned = λ b is. (
      λ e. ⊎_elim (λ p. inl p) (λ k. inr (k.0, let l = k.1 in let t = next.from_there in omega (arith, l, t), k.2)) ((below.pinned b is).0 e),
      λ s. ⊎_elim
          (λ p. (below.pinned b is).1 (inl p))
          (λ k. ⊎_elim
          (λ under. (below.pinned b is).1 (inr (k.0, under, k.2)))
          (λ same. absurd (true≢false (sym (kept_back v u below.same k.0 b k.2).1 ∙ ap (λ m. is_keeping (object_of u m).style) same ∙ f)))
          (lower k.0 b k.1 k.2))
          s,
    );
    others = below.others;
  }

  -- and after one that is
  pub pins_kept : is_keeping (object_of u a).style ≡ true → PinsBelow v (pinned_words u (child_words u a)) (a + 1)
  pins_kept t = record {
    same = same_then v u (pinned_words u (child_words u a)) below.same (same_words (child_words u a) u);
    pinned = λ b is. (
      λ e. ⊎_elim
          (λ p. ⊎_elim (λ p. inl p) (λ k. inr (k.0, let l = k.1 in let t = next.from_there in omega (arith, l, t), k.2)) ((below.pinned b is).0 p))
          (λ q. let m = (and_parts _ _ q).1 in inr (a, omega arith, kept_same v u below.same a b (next.is, t, m)))
          (or_cases (is_pinned u b) (is_object u b && is_member nat_eq (child_words u a) b) (sym (words_pins (child_words u a) u b) ∙ e)),
      λ s. words_pins (child_words u a) u b ∙ ⊎_elim
          (λ p. or_first _ _ ((below.pinned b is).1 (inl p)))
          (λ k. ⊎_elim
          (λ under. or_first _ _ ((below.pinned b is).1 (inr (k.0, under, k.2))))
          (λ same. or_last (is_pinned u b) _ (and_from _ _ (below.same.present b ∙ is)
          (ap (λ m. is_member nat_eq (child_words u m) b) (sym same) ∙ (kept_back v u below.same k.0 b k.2).2)))
          (lower k.0 b k.1 k.2))
          s,
    );
    others = λ b none. words_pins_none (child_words u a) u b (below.same.present b ∙ none) ∙ below.others b none;
  }

-- after the last object
pub pins_end : (v u : HeapView) (from : ℕ) → PinsBelow v u from → HasNoObjectFrom u from → PinsKept v u
pins_end v u from below none = record {
  same = below.same;
  pinned = λ b is. (
    λ e. ⊎_elim (λ p. inl p) (λ k. inr (k.0, k.2)) ((below.pinned b is).0 e),
    λ s. ⊎_elim
        (λ p. (below.pinned b is).1 (inl p))
        (λ k. ⊎_elim
        (λ under. (below.pinned b is).1 (inr (k.0, under, k.1)))
        (λ above. absurd (true≢false (sym (below.same.present k.0 ∙ k.1.0) ∙ none k.0 above)))
        (cases_lt k.0 from))
        s,
  );
  others = below.others;
}

same_unpinned : (v : HeapView) → SameButPins v (unpinned v)
unfolding unpinned
same_unpinned v = record {
  objects = λ a. ap unpinned_object (object_of-unpinned v a);
  standing = is_occupied-unpinned v;
  present = is_object-unpinned v;
  moves = resolved-unpinned v;
  away = is_moved-unpinned v;
  free = is_free_at-unpinned v;
  pools = pool_at-unpinned v;
  count = count-unpinned v;
  limit = refl;
  unswept = refl;
  grey = refl;
  phase_is = refl;
  cursor_is = refl;
  counters_are = refl;
}

-- all together
pub pins_now : (v w : HeapView) (stack : List ℕ) → PinsKept (pinned_words (unpinned v) stack) w → PinsNow v w stack
pins_now v w stack kept =
    let u : HeapView = pinned_words (unpinned v) stack in
    let same : SameButPins v u = same_then v (unpinned v) u (same_unpinned v) (same_words stack (unpinned v)) in
    let pins : (a : ℕ) → is_object v a ≡ true → is_pinned u a ≡ is_member nat_eq stack a = λ a is.
    words_pins stack (unpinned v) a
    ∙ ap (λ b. b || (is_object (unpinned v) a && is_member nat_eq stack a)) (ap (λ (o : ObjectView). o.pinned) (object_of-unpinned v a))
    ∙ ap (λ b. b && is_member nat_eq stack a) (is_object-unpinned v a ∙ is) in
    record {
      same = same_then v u w same kept.same;
      pinned = λ a is. let b = kept.pinned a (same.present a ∙ is) in (
        λ e. ⊎_elim (λ p. inl (sym (pins a is) ∙ p)) (λ k. inr (k.0, kept_same v u same k.0 a k.1)) (b.0 e),
        λ s. ⊎_elim (λ m. b.1 (inl (pins a is ∙ m))) (λ k. b.1 (inr (k.0, kept_back v u same k.0 a k.1))) s,
      );
      others = λ a none.
          kept.others a (same.present a ∙ none)
          ∙ words_pins_none stack (unpinned v) a (is_object-unpinned v a ∙ none)
          ∙ ap (λ (o : ObjectView). o.pinned) (object_of-unpinned v a);
    }

-- words one after another
pub pinned_words-none : (v : HeapView) → pinned_words v [] ≡ v
unfolding pinned_words
pinned_words-none v = refl

pub pinned_words-more : (v : HeapView) (words : List ℕ) (i : ℕ) → i < length words
    → pinned_words v (take (i + 1) words) ≡ pinned_word (pinned_words v (take i words)) (get_or words i 0)
unfolding pinned_words
pinned_words-more v words i within = fold_more pinned_word v words i 0 within

-- the same of words that are resolved
pub resolved_more : (v u : HeapView) (words : List ℕ) (i word : ℕ) → i < length words → u ≡ pinned_words v (map (resolved v) (take i words))
    → word ≡ resolved u (get_or words i 0) → pinned_word u word ≡ pinned_words v (map (resolved v) (take (i + 1) words))
resolved_more v u words i word within is read =
    let same : resolved u (get_or words i 0) ≡ resolved v (get_or words i 0) =
    ap (λ u. resolved u (get_or words i 0)) is ∙ (same_words (map (resolved v) (take i words)) v).moves (get_or words i 0) in
    let all : List ℕ = map (resolved v) words in
    let long : i < length all = let l = length-map words (resolved v) in omega arith in
    let at : get_or all i 0 ≡ resolved v (get_or words i 0) = get_or-map_within words i within in
    ap (pinned_word u) (read ∙ same) ∙ ap (λ u. pinned_word u (resolved v (get_or words i 0))) is
    ∙ ap (λ ws. pinned_word (pinned_words v ws) (resolved v (get_or words i 0))) (sym (take_map i words))
    ∙ ap (pinned_word (pinned_words v (take i all))) (sym at)
    ∙ sym (pinned_words-more v all i long)
    ∙ ap (pinned_words v) (take_map (i + 1) words)
  where
    take_map : (n : ℕ) (xs : List ℕ) → take n (map (resolved v) xs) ≡ map (resolved v) (take n xs)
    take_map zero [] = refl
    take_map (suc n) [] = refl
    take_map zero (x ∷ xs) = refl
    take_map (suc n) (x ∷ xs) = ap (λ ys. resolved v x ∷ ys) (take_map n xs)

    get_or-map_within : (xs : List ℕ) (i : ℕ) → i < length xs → get_or (map (resolved v) xs) i 0 ≡ resolved v (get_or xs i 0)
    get_or-map_within [] i low = absurd (omega arith)
    get_or-map_within (x ∷ xs) zero low = refl
    get_or-map_within (x ∷ xs) (suc i) low = get_or-map_within xs i (omega arith)

pub ruleset pinning = (pinned_words-none, pinned_words-more, take_all)

-- one object more
pub pins_more : (v u w : HeapView) (from a : ℕ) → PinsBelow v u from → IsNextObject u from a
    → (is_keeping (object_of u a).style ≡ true → w ≡ pinned_words u (child_words u a))
    → (is_keeping (object_of u a).style ≡ false → w ≡ u) → PinsBelow v w (a + 1)
pins_more v u w from a below next kept others = ⊎_elim
    (λ t. subst (λ w. PinsBelow v w (a + 1)) (sym (kept t)) (pins_kept v u from a below next t))
    (λ f. subst (λ w. PinsBelow v w (a + 1)) (sym (others f)) (pins_other v u from a below next f))
    (cases_Bool (is_keeping (object_of u a).style))
