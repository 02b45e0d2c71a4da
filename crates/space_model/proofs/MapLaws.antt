-- What the maps of names hold after a change.
use Rattle.std.proofs.Common.{◌≡◌, ◌⊎◌, ℕ, cond, not, Bool, true, false, List, [], ◌∷◌, nat_eq, ap, ◌∙◌, refl, sym, arith, Option, None, Some, ⊎_elim, inl, inr}
use Rattle.std.specs.Prelude.{is_some, unwrap_or}
use Rattle.std.specs.Set.{is_member}
use Rattle.std.proofs.lemmas.Bool.{cases_Bool, cases_eq}
use Rattle.std.proofs.lemmas.Bool.Decides.{nat_tests}
use Rattle.std.specs.Ordering.{nat_cmp}
use Rattle.std.specs.Cmp.{nat_cmp_total}
use Rattle.std.specs.FinMap.{FinMap, get, insert, get-insert, get-retain_keys, nat_cmp-IsAntisymmetric}
use Rattle.space_model.specs.Maps.{address_in, without, carried_over}
use Rattle.space_model.proofs.ReachedLaws.{ties}

pub get-insert_name : {X : Type 0} (m : FinMap nat_cmp X) (k : ℕ) (v : X) (q : ℕ) → get (insert m k v) q ≡ cond (nat_eq q k) (Some v) (get m q)
get-insert_name m k v q = get-insert nat_cmp_total m k v q ∙ ap (λ b. cond b (Some v) (get m q)) (ties q k)

pub present-insert : (place : FinMap nat_cmp ℕ) (name address n : ℕ) → is_some (get place n) ≡ true → is_some (get (insert place name address) n) ≡ true
present-insert place name address n e = let g = get-insert_name place name address n in grind (arith, nat_tests, g, e, cases_eq n name)

pub present-new : (place : FinMap nat_cmp ℕ) (name address n : ℕ) → n ≡ name → is_some (get (insert place name address) n) ≡ true
present-new place name address n e = let g = get-insert_name place name address n in grind (arith, nat_tests, g, e)

pub some_get : (o : Option ℕ) → is_some o ≡ true → (a : ℕ) × (o ≡ Some a)
some_get None e = absurd (cc)
some_get (Some a) e = (a, refl)

turned : {A : Type 0} (b : Bool) (x y : A) → cond (not b) x y ≡ cond b y x
turned true x y = refl
turned false x y = refl

pub get-without : (map : FinMap nat_cmp ℕ) (names : List ℕ) (q : ℕ) → get (without map names) q ≡ cond (is_member nat_eq names q) None (get map q)
get-without map names q =
    get-retain_keys map (λ name. not (is_member nat_eq names name)) q (λ x e. ap (λ y. not (is_member nat_eq names y)) (sym (nat_cmp-IsAntisymmetric q x e)))
    ∙ turned (is_member nat_eq names q) (get map q) None

pub get-carried_over : (from to : FinMap nat_cmp ℕ) (names : List ℕ) (q : ℕ) →
    get (carried_over from to names) q ≡ cond (is_member nat_eq names q) (Some (address_in from q)) (get to q)
unfolding carried_over
get-carried_over from to [] q = refl
get-carried_over from to (n ∷ names) q =
    let e = get-insert_name (carried_over from to names) n (address_in from n) q in
    let h = get-carried_over from to names q in
    grind (arith, nat_tests, e, h, cases_Bool (is_member nat_eq names q))

known : (o : Option ℕ) → is_some o ≡ true → o ≡ Some (unwrap_or o 0)
known None e = absurd (cc)
known (Some a) e = refl

pub present_at : (map : FinMap nat_cmp ℕ) (name : ℕ) → is_some (get map name) ≡ true → get map name ≡ Some (address_in map name)
present_at map name e = known (get map name) e

-- a name of the map without some names
pub held_without : (map : FinMap nat_cmp ℕ) (names : List ℕ) (n a : ℕ) → get (without map names) n ≡ Some a →
    (get map n ≡ Some a) × (is_member nat_eq names n ≡ false)
held_without map names n a e = ⊎_elim
    (λ t. absurd (let g = get-without map names n in grind (arith, g, e, t)))
    (λ f. (let g = get-without map names n in grind (arith, g, e, f), f))
    (cases_Bool (is_member nat_eq names n))

pub present-without : (map : FinMap nat_cmp ℕ) (names : List ℕ) (n : ℕ) → is_some (get map n) ≡ true → is_member nat_eq names n ≡ false →
    is_some (get (without map names) n) ≡ true
present-without map names n e f = let g = get-without map names n in grind (arith, g, e, f)

pub left-without : (map : FinMap nat_cmp ℕ) (names : List ℕ) (n : ℕ) → is_some (get (without map names) n) ≡ true →
    (is_some (get map n) ≡ true) × (is_member nat_eq names n ≡ false)
left-without map names n e = let a = some_get _ e in let x = held_without map names n a.0 a.1 in (ap is_some x.0, x.1)

-- a name of a map to which names of another came
pub held_over : (from to : FinMap nat_cmp ℕ) (names : List ℕ) (n a : ℕ) → ((name : ℕ) → is_member nat_eq names name ≡ true → is_some (get from name) ≡ true) →
    get (carried_over from to names) n ≡ Some a →
    ((get from n ≡ Some a) × (is_member nat_eq names n ≡ true)) ⊎ ((get to n ≡ Some a) × (is_member nat_eq names n ≡ false))
held_over from to names n a present e = ⊎_elim
    (λ t. let g = get-carried_over from to names n in let p = present_at from n (present n t) in inl (grind (arith, g, e, t, p), t))
    (λ f. let g = get-carried_over from to names n in inr (grind (arith, g, e, f), f))
    (cases_Bool (is_member nat_eq names n))
