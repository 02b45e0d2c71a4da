-- Words that are written over a part of a list.
use Rattle.std.proofs.Common.{◌≡◌, ℕ, zero, suc, ◌+◌, ◌-◌, ◌≤◌, List, [], ◌∷◌, ◌++◌, length, take, drop, arith, refl, ap, sym, ◌∙◌, append_assoc, length-append, length-drop}
use Rattle.std.specs.Simd.Lanes.{put_chunk}
use Rattle.std.proofs.lemmas.List.{take_all, drop_all, append-nil, length-take, drop-drop}
use Rattle.std.proofs.lemmas.Simd.{put_chunk_is, length-chunk}
use Rattle.std.specs.List.{copy_within, slice_range}

written : (i : ℕ) (xs ws : List ℕ) → take (length xs) (take i xs ++ (ws ++ drop (length ws) (drop i xs))) ≡ put_chunk i xs ws
written i [] ws = refl
written zero (x ∷ xs) [] = ap (λ ys. x ∷ ys) (take_all (length xs) xs (omega arith))
written zero (x ∷ xs) (w ∷ ws) = ap (λ ys. w ∷ ys) (written zero xs ws)
written (suc i) (x ∷ xs) ws = ap (λ ys. x ∷ ys) (written i xs ws)

length-written : (i : ℕ) (xs ws : List ℕ) → length xs ≤ length (take i xs ++ (ws ++ drop (length ws) (drop i xs)))
length-written i xs ws = simp (length-append, length-drop, length-take) (omega arith)

-- what a vector of n words holds once a part of it was lent
pub lent : (n i : ℕ) (xs ws : List ℕ) → n ≡ length xs
    → let ys = take i xs ++ (ws ++ drop (length ws) (drop i xs)) in take n (ys ++ drop (length ys) xs) ≡ put_chunk i xs ws
lent n i xs ws long =
    let ys = take i xs ++ (ws ++ drop (length ws) (drop i xs)) in
    rw (long, drop_all (length ys) xs (length-written i xs ws), append-nil ys) (written i xs ws)

-- what a vector holds once a part of it was copied
pub copied : (xs : List ℕ) (from to n end : ℕ) → end ≡ from + n → end ≤ length xs → to + n ≤ length xs
    → copy_within xs from end to ≡ put_chunk to xs (take n (drop from xs))
copied xs from to n end ends within room =
    let part = take n (drop from xs) in
    let long : length part ≡ n = length-chunk from n xs (omega arith) in
    let count : end - from ≡ n = omega arith in
    let rest : drop (length part) (drop to xs) ≡ drop (to + n) xs = drop-drop (length part) to xs ∙ ap (λ k. drop (to + k) xs) long in
    let whole = put_chunk_is to xs part (omega arith) in
    rw count (append_assoc (take to xs) part (drop (to + n) xs) ∙ sym (whole ∙ ap (λ zs. take to xs ++ (part ++ zs)) rest))

-- n words from a place on
pub range_is : (xs : List ℕ) (from n end : ℕ) → end ≡ from + n → slice_range xs from end ≡ take n (drop from xs)
range_is xs from n end ends =
    let count : end - from ≡ n = omega arith in
    ap (λ k. take k (drop from xs)) count
