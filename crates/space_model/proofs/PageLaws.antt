-- Pages after one of them got a pool, the pages that have one, and those that are used.
use Rattle.std.proofs.Common.{◌≡◌, ◌⊎◌, ℕ, zero, suc, ◌+◌, ◌<◌, ◌≤◌, cond, true, false, List, [], ◌∷◌, length, nat_eq, set, refl, ap, ◌∙◌, sym, arith, Option, None, Some, ⊎_elim, inl, inr}
use Rattle.std.specs.Prelude.{is_some}
use Rattle.std.specs.Set.{is_member}
use Rattle.std.specs.List.{range_with_len, AllPairs, list_any}
use Rattle.std.specs.Ordering.{nat_cmp}
use Rattle.std.specs.FinMap.{FinMap, get, keys}
use Rattle.std.proofs.lemmas.Bool.{cases_Bool, cases_eq, false≢true, or_cases, eqb-true}
use Rattle.std.proofs.lemmas.Bool.Decides.{nat_tests}
use Rattle.std.proofs.lemmas.List.{get_or-set_other, length-set}
use Rattle.std.proofs.lemmas.Grind.{common_steps}
use Rattle.std.proofs.lemmas.List.FromFn.{get_or-range_with_len, length-range_with_len}
use Rattle.std.proofs.lemmas.List.Kept.{AllPairs-filter}
use Rattle.space_model.specs.Layout.{slot_address, page_slots, page_of}
use Rattle.space_model.specs.Pages.{pool_at, with_pool, pool_pages, is_on, is_used, spared}
use Rattle.space_model.proofs.Members.{member_filter}
use Rattle.space_model.proofs.ReachedLaws.{member-keys}

pub pool_at-with_pool : (pages : List (Option ℕ)) (page pool q : ℕ) → page ≤ length pages →
    pool_at (with_pool pages page pool) q ≡ cond (nat_eq q page) (Some pool) (pool_at pages q)
unfolding with_pool
pool_at-with_pool pages page pool q h = grind (arith, nat_tests, common_steps)

-- a page of its own has its pool written, and the next page makes one more
pub length-with_pool : (pages : List (Option ℕ)) (page pool limit : ℕ) → page < limit → length pages ≤ limit → page ≤ length pages →
    length (with_pool pages page pool) ≤ limit
unfolding with_pool
length-with_pool pages page pool limit below long at = grind (arith, nat_tests, common_steps)

pub page_of-slot_address : (page pool slot : ℕ) → slot < page_slots pool → page_of (slot_address page pool slot) ≡ page
unfolding page_of slot_address page_slots
page_of-slot_address page pool slot h = grind arith

range-member : (a n q : ℕ) → a ≤ q → q < a + n → is_member nat_eq (range_with_len a n) q ≡ true
range-member a zero q l m = absurd (omega arith)
range-member a (suc n) q l m = grind (arith, nat_tests, range-member (a + 1) n q)

pub page_within : (pages : List (Option ℕ)) (page : ℕ) → is_some (pool_at pages page) ≡ true → page < length pages
page_within pages page e = grind (arith, common_steps)

pub member-pool_pages : (pages : List (Option ℕ)) (page : ℕ) → is_member nat_eq (pool_pages pages) page ≡ is_some (pool_at pages page)
unfolding pool_pages
member-pool_pages pages page =
    let e = member_filter (λ p. is_some (pool_at pages p)) (range_with_len 0 (length pages)) page in
    ⊎_elim
    (λ t. grind (arith, e, t, range-member 0 (length pages) page (omega arith) (let w = page_within pages page t in omega arith)))
    (λ f. grind (arith, e, f, cases_Bool (is_member nat_eq (range_with_len 0 (length pages)) page)))
    (cases_Bool (is_some (pool_at pages page)))

rising-range : (a n : ℕ) → AllPairs (λ x y. x < y) (range_with_len a n)
rising-range a n = λ i j d l m. let k = length-range_with_len a n in let x = get_or-range_with_len a n i d (omega arith) in let y =
    get_or-range_with_len a n j d (omega arith) in omega arith

pub rising-pool_pages : (pages : List (Option ℕ)) → AllPairs (λ x y. x < y) (pool_pages pages)
unfolding pool_pages
rising-pool_pages pages = AllPairs-filter (λ x y. x < y) (λ p. is_some (pool_at pages p)) (range_with_len 0 (length pages)) (rising-range 0 (length pages))

-- the page on which a name stands is used
pub used : (place : FinMap nat_cmp ℕ) (name address : ℕ) → get place name ≡ Some address → is_used place (page_of address) ≡ true
unfolding is_used
used place name address e = any_on (keys place) (member-keys place name ∙ ap is_some e)
  where
    any_on : (names : List ℕ) → is_member nat_eq names name ≡ true → list_any (λ n. is_on (page_of address) (get place n)) names ≡ true
    any_on [] m = absurd (false≢true m)
    any_on (n ∷ names) m = grind (arith, nat_tests, any_on names, e, cases_eq name n)

-- and on a used page some name stands
pub user : (place : FinMap nat_cmp ℕ) (page : ℕ) → is_used place page ≡ true → (n : ℕ) × (a : ℕ) × (get place n ≡ Some a) × (page_of a ≡ page)
unfolding is_used
user place page e = one (keys place) e
  where
    on_it : (n : ℕ) (o : Option ℕ) → get place n ≡ o → is_on page o ≡ true → (n : ℕ) × (a : ℕ) × (get place n ≡ Some a) × (page_of a ≡ page)
    on_it n None g t = absurd (false≢true t)
    on_it n (Some a) g t = (n, a, g, eqb-true (page_of a) page t)

    one : (names : List ℕ) → list_any (λ n. is_on page (get place n)) names ≡ true → (n : ℕ) × (a : ℕ) × (get place n ≡ Some a) × (page_of a ≡ page)
    one [] t = absurd (false≢true t)
    one (n ∷ names) t = ⊎_elim (λ h. on_it n (get place n) refl h) (λ l. one names l) (or_cases _ _ t)

pub used_by : (place : FinMap nat_cmp ℕ) (page n a : ℕ) → get place n ≡ Some a → page_of a ≡ page → is_used place page ≡ true
used_by place page n a e q = ap (is_used place) (sym q) ∙ used place n a e

-- a page on which nothing stands becomes spare, and no other page changes
pub pool_at-spared : (place : FinMap nat_cmp ℕ) (page : ℕ) (pages : List (Option ℕ)) (q : ℕ) →
    (pool_at (spared place page pages) q ≡ pool_at pages q) ⊎ ((q ≡ page) × (is_used place page ≡ false))
pool_at-spared place page pages q = ⊎_elim
    (λ u. inl (ap (λ b. pool_at (cond b pages (set pages page None)) q) u))
    (λ u. ⊎_elim (λ e. inr (e, u)) (λ d. inl (ap (λ b. pool_at (cond b pages (set pages page None)) q) u ∙ get_or-set_other pages page q None None d))
    (cases_eq q page))
    (cases_Bool (is_used place page))

bare : (pages : List (Option ℕ)) (q : ℕ) → pool_at (set pages q None) q ≡ None
bare [] q = refl
bare (x ∷ pages) zero = refl
bare (x ∷ pages) (suc q) = bare pages q

pub pool_at-spared_page : (place : FinMap nat_cmp ℕ) (page : ℕ) (pages : List (Option ℕ)) →
    pool_at (spared place page pages) page ≡ cond (is_used place page) (pool_at pages page) None
pool_at-spared_page place page pages = ⊎_elim
    (λ t. ap (λ b. pool_at (cond b pages (set pages page None)) page) t ∙ sym (ap (λ b. cond b (pool_at pages page) None) t))
    (λ f. ap (λ b. pool_at (cond b pages (set pages page None)) page) f ∙ bare pages page ∙ sym (ap (λ b. cond b (pool_at pages page) None) f))
    (cases_Bool (is_used place page))

pub length-spared : (place : FinMap nat_cmp ℕ) (page : ℕ) (pages : List (Option ℕ)) → length (spared place page pages) ≡ length pages
length-spared place page pages = ⊎_elim
    (λ t. ap (λ b. length (cond b pages (set pages page None))) t)
    (λ f. ap (λ b. length (cond b pages (set pages page None))) f ∙ length-set pages page None)
    (cases_Bool (is_used place page))
