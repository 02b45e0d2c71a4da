-- Visits one after another: what they leave, and how many there are.
use Rattle.std.proofs.Common.{◌≡◌, ℕ, zero, suc, ◌+◌, ◌<◌, List, [], ◌∷◌, ◌++◌, length, take, drop, refl, ap, ◌∙◌, subst, arith, Some}
use Rattle.std.specs.Prelude.{slice_get}
use Rattle.space_roots.specs.WordRoots.{root_words, with_word_at}
use Rattle.space_heap.specs.HeapView.{HeapView, is_slot, slot_at}
use Rattle.space_heap.specs.Objects.{is_occupied, resolved, with_object}
use Rattle.space_heap.specs.Walks.{IsNextObject}
use Rattle.space_heap.proofs.ObjectLaws.{is_occupied-with_object}
use Rattle.space_compact.specs.Visits.{fixed_object, visited, Visits, resolved_roots}

-- one more visit
visits_then : (n : ℕ) (v u : HeapView) (a : ℕ) → Visits n v u → IsNextObject u u.cursor a → Visits (suc n) v (visited u a)
visits_then zero v u a is next = (a, subst (λ (u : HeapView). IsNextObject u u.cursor a) is next, ap (λ u. visited u a) is)
visits_then (suc n) v u a (b, first, rest) next = (b, first, visits_then n (visited v b) u a rest next)

pub visits_more : (n : ℕ) (v u : HeapView) (a : ℕ) → Visits n v u → IsNextObject u u.cursor a → Visits (n + 1) v (visited u a)
visits_more n v u a made next = let e : suc n ≡ n + 1 = omega arith in subst (λ k. Visits k v (visited u a)) e (visits_then n v u a made next)

pub visited_is : (v : HeapView) (a : ℕ) (u : HeapView) → u ≡ with_object v a (fixed_object v a) → record u { cursor = a + 1 } ≡ visited v a
unfolding visited
visited_is v a u is = ap (λ (u : HeapView). record u { cursor = a + 1 }) is

at_cursor : (v : HeapView) (cursor b : ℕ) → is_occupied (record v { cursor = cursor }) b ≡ is_occupied v b
unfolding is_occupied slot_at is_slot
at_cursor v cursor b = refl

-- a visit leaves what stands where
standing-visited : (v : HeapView) (a b : ℕ) → is_occupied (visited v a) b ≡ is_occupied v b
unfolding visited
standing-visited v a b = at_cursor (with_object v a (fixed_object v a)) (a + 1) b ∙ is_occupied-with_object v a (fixed_object v a) b

pub visits_standing : (n : ℕ) (v w : HeapView) → Visits n v w → (b : ℕ) → is_occupied w b ≡ is_occupied v b
visits_standing zero v w is b = ap (λ u. is_occupied u b) is
visits_standing (suc n) v w (a, first, rest) b = visits_standing n (visited v a) w rest b ∙ standing-visited v a b

pub cursor-visited : (v : HeapView) (a : ℕ) → (visited v a).cursor ≡ a + 1
unfolding visited
cursor-visited v a = refl

-- one root more is resolved
roots_step : (v : HeapView) (xs : List (List ℕ × ℕ)) (k word : ℕ) → k < length xs
    → slice_get (root_words (resolved_roots v (take k xs) ++ drop k xs)) k ≡ Some word
    → with_word_at (resolved_roots v (take k xs) ++ drop k xs) k (resolved v word) ≡ resolved_roots v (take (suc k) xs) ++ drop (suc k) xs
roots_step v [] k word low e = absurd (omega arith)
roots_step v (x ∷ xs) zero word low e =
    let same : word ≡ x.1 = let f : Some x.1 ≡ Some word = e in cc in
    ap (λ w. (x.0, resolved v w) ∷ xs) same
roots_step v (x ∷ xs) (suc k) word low e = ap (λ ys. (x.0, resolved v x.1) ∷ ys) (roots_step v xs k word (omega arith) e)

pub roots_more : (v : HeapView) (xs ys : List (List ℕ × ℕ)) (k word : ℕ) → k < length xs → ys ≡ resolved_roots v (take k xs) ++ drop k xs
    → slice_get (root_words ys) k ≡ Some word → with_word_at ys k (resolved v word) ≡ resolved_roots v (take (k + 1) xs) ++ drop (k + 1) xs
roots_more v xs ys k word low is e =
    let next : suc k ≡ k + 1 = omega arith in
    ap (λ ys. with_word_at ys k (resolved v word)) is
    ∙ roots_step v xs k word low (subst (λ (ys : List (List ℕ × ℕ)). slice_get (root_words ys) k ≡ Some word) is e)
    ∙ ap (λ n. resolved_roots v (take n xs) ++ drop n xs) next
