-- How many addresses have a property, counted page by page.
use Rattle.std.proofs.Common.{◌≡◌, ⊎_elim, ℕ, ◌+◌, ◌<◌, true, false, true≢false, List, [], ◌∷◌, ◌++◌, nat_eq, refl, sym, ◌∙◌, arith}
use Rattle.std.specs.List.{IsDistinct, AllByRecursion}
use Rattle.std.specs.Set.{is_member}
use Rattle.std.proofs.lemmas.Bool.{or_from, false_from_ne_true, cases_lt}
use Rattle.std.proofs.lemmas.List.{length-append}
use Rattle.std.proofs.lemmas.List.Folds.{list_any-append}
use Rattle.space_model.proofs.Growing.{IsDistinct-cons}
use Rattle.space_model.proofs.Members.{member_left, member_right, member_cases}
use Rattle.space_model.specs.Counts.{CountIs}
use Rattle.space_model.specs.Layout.{page_of}
use Rattle.space_heap.proofs.NumberLists.{IsDistinct-none}

-- the property holds of the address, which is on a page below this one
abbrev pub IsBelow : (ℕ → Type 0) → ℕ → ℕ → Type 0
IsBelow P page a = P a × (page_of a < page)

-- the property holds of the address, which is on this page
abbrev pub IsOn : (ℕ → Type 0) → ℕ → ℕ → Type 0
IsOn P page a = P a × (page_of a ≡ page)

not_after : (x : ℕ) (xs : List ℕ) → AllByRecursion (λ y. nat_eq x y ≡ false) xs → is_member nat_eq xs x ≡ false
not_after x [] a = refl
not_after x (y ∷ ys) a = or_from _ _ a.0 (not_after x ys a.1)

-- lists with no number in common
distinct_append : (xs ys : List ℕ) → IsDistinct nat_eq xs → IsDistinct nat_eq ys → ((q : ℕ) → is_member nat_eq xs q ≡ true → is_member nat_eq ys q ≡ false)
    → IsDistinct nat_eq (xs ++ ys)
unfolding IsDistinct
distinct_append [] ys d e apart = e
distinct_append (x ∷ xs) ys d e apart =
    IsDistinct-cons x (xs ++ ys)
    (distinct_append xs ys d.1 e (λ q m. apart q (member_right (x ∷ []) xs q m)))
    (list_any-append (nat_eq x) xs ys ∙ or_from _ _ (not_after x xs d.0) (apart x (member_left (x ∷ []) xs x (member_first x))))
  where
    member_first : (x : ℕ) → is_member nat_eq (x ∷ []) x ≡ true
    member_first x = grind arith

pub none_below : (P : ℕ → Type 0) → CountIs (IsBelow P 0) 0
none_below P = record {
  names = [];
  once = IsDistinct-none;
  are = λ a. (λ m. absurd (true≢false (sym m)), λ g. let b = g.1 in absurd (omega arith));
  long = refl;
}

pub page_more : (P : ℕ → Type 0) (page i j : ℕ) → CountIs (IsBelow P page) i → CountIs (IsOn P page) j → CountIs (IsBelow P (page + 1)) (i + j)
page_more P page i j below on = record {
  names = below.names ++ on.names;
  once = distinct_append below.names on.names below.once on.once
      (λ q m. false_from_ne_true _ (λ n. let b = ((below.are q).0 m).1 in let e = ((on.are q).0 n).1 in omega arith));
  are = λ a. (
    λ m. ⊎_elim
        (λ l. let g = (below.are a).0 l in let b = g.1 in (g.0, omega arith))
        (λ r. let g = (on.are a).0 r in let e = g.1 in (g.0, omega arith))
        (member_cases below.names on.names a m),
    λ g. let b = g.1 in ⊎_elim
        (λ lower. member_left below.names on.names a ((below.are a).1 (g.0, lower)))
        (λ here. member_right below.names on.names a ((on.are a).1 (g.0, omega arith)))
        (cases_lt (page_of a) page),
  );
  long = let l = below.long in let r = on.long in omega (arith, length-append below.names on.names);
}

-- each address with the property is on one of the pages
pub all_pages : (P : ℕ → Type 0) (pages count : ℕ) → ((a : ℕ) → P a → page_of a < pages) → CountIs (IsBelow P pages) count → CountIs P count
all_pages P pages count within c = record {
  names = c.names;
  once = c.once;
  are = λ a. (λ m. ((c.are a).0 m).0, λ g. (c.are a).1 (g, within a g));
  long = c.long;
}
