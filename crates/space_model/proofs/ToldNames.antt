-- The names that events tell to be gone, and the order in which they are told.
use Rattle.std.proofs.Common.{◌≡◌, ℕ, zero, suc, ◌<◌, true, false, List, [], ◌∷◌, ◌++◌, length, map, nat_eq, cond, get_or, Some, refl, sym, ap, ◌∙◌, subst, arith, ⊎_elim}
use mathlib.Core.List.{append_assoc}
use Rattle.std.specs.List.{AllByRecursion, IsDistinct}
use Rattle.std.specs.Set.{is_member}
use Rattle.std.specs.Ordering.{nat_cmp}
use Rattle.std.specs.Cmp.{unsigned_Decides}
use Rattle.std.specs.FinMap.{FinMap, get, insert}
use Rattle.std.specs.Prelude.{unwrap_or}
use Rattle.std.proofs.lemmas.Bool.{false_from_ne_true, or_left, or_right, or_cases, or_parts, eq-eqb, false≢true}
use Rattle.std.proofs.lemmas.List.{append-nil}
use Rattle.std.proofs.lemmas.Map.Made.{is_member-Decides}
use Rattle.space_model.specs.declared.event.Event.{Event}
use Rattle.space_model.specs.declared.event.Event.TheVariants.{Gone, Verdict, Moved, Ran}
use Rattle.space_model.specs.declared.event.Kind.{Kind}
use Rattle.space_model.specs.Maps.{address_in, IsRising}
use Rattle.space_model.specs.Outputs.{Output, Told, Listed, Peeked, Replied, gone_of, gone_in, moved_of, moved_in}
use Rattle.space_model.specs.ToldInOrder.{AreToldInOrder}
use Rattle.space_model.specs.Verdicts.{verdict_events}
use Rattle.space_model.proofs.Growing.{IsDistinct-cons}
use Rattle.space_model.proofs.MapLaws.{get-insert_name}
use Rattle.space_model.proofs.Members.{member_left, member_right, member_cases}

-- the names that events tell to be gone
abbrev pub gone_among : List Event → List ℕ
gone_among [] = []
gone_among (event ∷ events) = gone_of event ++ gone_among events

pub gone_among-append : (events others : List Event) → gone_among (events ++ others) ≡ gone_among events ++ gone_among others
gone_among-append [] others = refl
gone_among-append (event ∷ events) others =
    ap (λ names. gone_of event ++ names) (gone_among-append events others) ∙ sym (append_assoc (gone_of event) (gone_among events) (gone_among others))

pub gone_outputs : (events : List Event) (answer : List Output) → gone_in answer ≡ [] → gone_in (map Told events ++ answer) ≡ gone_among events
gone_outputs [] answer none = none
gone_outputs (event ∷ events) answer none = ap (λ names. gone_of event ++ names) (gone_outputs events answer none)

gone_verdict : (kind : Kind) (count : ℕ) (taken : List ℕ) → gone_among (map Gone taken ++ Verdict kind count ∷ []) ≡ taken
gone_verdict kind count [] = refl
gone_verdict kind count (name ∷ taken) = ap (λ names. name ∷ names) (gone_verdict kind count taken)

-- a verdict tells the names that it takes
pub gone_verdict_events : (kind : Kind) (taken : List ℕ) → gone_among (verdict_events kind taken) ≡ taken
gone_verdict_events kind taken = gone_verdict kind (length taken) taken

-- the names that events tell to be moved, and where names stand after the moves that they tell

abbrev pub moved_among : List Event → List ℕ
moved_among [] = []
moved_among (event ∷ events) = moved_of event ++ moved_among events

abbrev pub told_place : FinMap nat_cmp ℕ → List Event → FinMap nat_cmp ℕ
told_place place [] = place
told_place place (Moved name from to ∷ events) = told_place (insert place name to) events
told_place place (_ ∷ events) = told_place place events

pub moved_among-append : (events others : List Event) → moved_among (events ++ others) ≡ moved_among events ++ moved_among others
moved_among-append [] others = refl
moved_among-append (event ∷ events) others =
    ap (λ names. moved_of event ++ names) (moved_among-append events others)
    ∙ sym (append_assoc (moved_of event) (moved_among events) (moved_among others))

pub moved_outputs : (events : List Event) (answer : List Output) → moved_in answer ≡ [] → moved_in (map Told events ++ answer) ≡ moved_among events
moved_outputs [] answer none = none
moved_outputs (event ∷ events) answer none = ap (λ names. moved_of event ++ names) (moved_outputs events answer none)

moved_verdict : (kind : Kind) (count : ℕ) (taken : List ℕ) → moved_among (map Gone taken ++ Verdict kind count ∷ []) ≡ []
moved_verdict kind count [] = refl
moved_verdict kind count (name ∷ taken) = moved_verdict kind count taken

-- a verdict tells no move
pub moved_verdict_events : (kind : Kind) (taken : List ℕ) → moved_among (verdict_events kind taken) ≡ []
moved_verdict_events kind taken = moved_verdict kind (length taken) taken

pub told_place-append : (m : FinMap nat_cmp ℕ) (events others : List Event) → told_place m (events ++ others) ≡ told_place (told_place m events) others
told_place-append m [] others = refl
told_place-append m (Gone name ∷ events) others = told_place-append m events others
told_place-append m (Verdict kind gone ∷ events) others = told_place-append m events others
told_place-append m (Moved name from to ∷ events) others = told_place-append (insert m name to) events others
told_place-append m (Ran name label ∷ events) others = told_place-append m events others

insert_same : (m k : FinMap nat_cmp ℕ) (name to n : ℕ) → get m n ≡ get k n → get (insert m name to) n ≡ get (insert k name to) n
insert_same m k name to n same = get-insert_name m name to n ∙ ap (cond (nat_eq n name) (Some to)) same ∙ sym (get-insert_name k name to n)

-- where a name stands after the moves rests on where it stood alone
pub told_place-same : (m k : FinMap nat_cmp ℕ) (events : List Event) (n : ℕ) → get m n ≡ get k n → get (told_place m events) n ≡ get (told_place k events) n
told_place-same m k [] n same = same
told_place-same m k (Gone name ∷ events) n same = told_place-same m k events n same
told_place-same m k (Verdict kind gone ∷ events) n same = told_place-same m k events n same
told_place-same m k (Moved name from to ∷ events) n same = told_place-same (insert m name to) (insert k name to) events n (insert_same m k name to n same)
told_place-same m k (Ran name label ∷ events) n same = told_place-same m k events n same

-- a name of which no move is told stands where it stood
pub told_place-unmoved : (m : FinMap nat_cmp ℕ) (events : List Event) (n : ℕ) → is_member nat_eq (moved_among events) n ≡ false →
    get (told_place m events) n ≡ get m n
told_place-unmoved m [] n out = refl
told_place-unmoved m (Gone name ∷ events) n out = told_place-unmoved m events n out
told_place-unmoved m (Verdict kind gone ∷ events) n out = told_place-unmoved m events n out
told_place-unmoved m (Moved name from to ∷ events) n out =
    let (other, later) = or_parts (nat_eq n name) (is_member nat_eq (moved_among events) n) out in
    told_place-unmoved (insert m name to) events n later
    ∙ get-insert_name m name to n
    ∙ ap (λ b. cond b (Some to) (get m n)) other
told_place-unmoved m (Ran name label ∷ events) n out = told_place-unmoved m events n out

-- names in ascending order

pub rising_tail : (m : FinMap nat_cmp ℕ) (first : ℕ) (others : List ℕ) → IsRising m (first ∷ others) → IsRising m others
rising_tail m first others h = λ i j d lt on. h (suc i) (suc j) d (omega arith) (omega arith)

pub rising_first : (m : FinMap nat_cmp ℕ) (first : ℕ) (others : List ℕ) (n : ℕ) → IsRising m (first ∷ others) → is_member nat_eq others n ≡ true →
    address_in m first < address_in m n
rising_first m first others n h among =
    let c = (is_member-Decides unsigned_Decides others n).0 among in
    let k = h 0 (suc c.0) n (omega arith) (let l = c.1 in omega arith) in
    subst (λ x. address_in m first < address_in m x) c.2 k

-- are each there once
pub IsDistinct-rising : (m : FinMap nat_cmp ℕ) (names : List ℕ) → IsRising m names → IsDistinct nat_eq names
unfolding IsDistinct
IsDistinct-rising m [] h = tt
IsDistinct-rising m (name ∷ names) h =
    IsDistinct-cons name names (IsDistinct-rising m names (rising_tail m name names h))
    (false_from_ne_true _ (λ among. let lt = rising_first m name names name h among in omega arith))

-- two lists of names that share none
pub IsDistinct-append : (xs ys : List ℕ) → IsDistinct nat_eq xs → IsDistinct nat_eq ys →
    ((n : ℕ) → is_member nat_eq xs n ≡ true → is_member nat_eq ys n ≡ true → ⊥) → IsDistinct nat_eq (xs ++ ys)
unfolding IsDistinct
IsDistinct-append [] ys d e apart = e
IsDistinct-append (x ∷ xs) ys d e apart =
    IsDistinct-cons x (xs ++ ys)
    (IsDistinct-append xs ys d.1 e (λ n m k. apart n (or_right (nat_eq n x) _ m) k))
    (false_from_ne_true _ (λ m. ⊎_elim
    (λ among. alone x xs d.0 among)
    (λ other. apart x (or_left _ _ (eq-eqb x x refl)) other)
    (member_cases xs ys x m)))
  where
    alone : (x : ℕ) (ys : List ℕ) → AllByRecursion (λ y. nat_eq x y ≡ false) ys → is_member nat_eq ys x ≡ true → ⊥
    alone x [] a m = false≢true m
    alone x (y ∷ ys) a m = ⊎_elim (λ e. false≢true (sym a.0 ∙ e)) (λ k. alone x ys a.1 k) (or_cases _ _ m)

-- names at the same addresses of another map rise there too
rising_same : (m k : FinMap nat_cmp ℕ) (names : List ℕ) → ((n : ℕ) → is_member nat_eq names n ≡ true → get k n ≡ get m n) → IsRising m names → IsRising k names
rising_same m k names same h = λ i j d lt on.
    let there : (i d : ℕ) → i < length names → is_member nat_eq names (get_or names i d) ≡ true =
    λ i d on. (is_member-Decides unsigned_Decides names (get_or names i d)).1 (i, on, within names i d (get_or names i d) on) in
    let first : address_in k (get_or names i d) ≡ address_in m (get_or names i d) = ap (λ o. unwrap_or o 0) (same _ (there i d (omega arith))) in
    let second : address_in k (get_or names j d) ≡ address_in m (get_or names j d) = ap (λ o. unwrap_or o 0) (same _ (there j d on)) in
    let below = h i j d lt on in
    omega arith
  where
    within : (xs : List ℕ) (i d e : ℕ) → i < length xs → get_or xs i e ≡ get_or xs i d
    within [] i d e on = absurd (omega arith)
    within (x ∷ xs) zero d e on = refl
    within (x ∷ xs) (suc i) d e on = within xs i d e (omega arith)

-- in order

told_names : (m : FinMap nat_cmp ℕ) (names taken : List ℕ) (kind : Kind) (count : ℕ) → IsRising m (names ++ taken) → count ≡ length (names ++ taken) →
    AreToldInOrder m names (map Told (map Gone taken ++ Verdict kind count ∷ []))
told_names m names [] kind count rising many =
    let e : names ++ [] ≡ names = append-nil names in
    (subst (IsRising m) e rising, many ∙ ap length e, refl)
told_names m names (name ∷ taken) kind count rising many =
    let e : names ++ name ∷ taken ≡ (names ++ name ∷ []) ++ taken = sym (append_assoc names (name ∷ []) taken) in
    told_names m (names ++ name ∷ []) taken kind count (subst (IsRising m) e rising) (many ∙ ap length e)

-- a verdict is told in order
pub verdict_in_order : (m : FinMap nat_cmp ℕ) (kind : Kind) (taken : List ℕ) → IsRising m taken → AreToldInOrder m [] (map Told (verdict_events kind taken))
verdict_in_order m kind taken rising = told_names m [] taken kind (length taken) rising refl

-- and others after it, by the map to which the moves that were told lead
pub AreToldInOrder-append : (m : FinMap nat_cmp ℕ) (names : List ℕ) (events : List Event) (others : List Output) → AreToldInOrder m names (map Told events) →
    AreToldInOrder (told_place m events) [] others → AreToldInOrder m names (map Told events ++ others)
AreToldInOrder-append m names [] others h k = subst (λ names. AreToldInOrder m names others) (sym h) k
AreToldInOrder-append m names (Gone name ∷ events) others h k = AreToldInOrder-append m (names ++ name ∷ []) events others h k
AreToldInOrder-append m names (Verdict kind gone ∷ events) others h k = (h.0, h.1, AreToldInOrder-append m [] events others h.2 k)
AreToldInOrder-append m names (Moved name from to ∷ events) others h k = AreToldInOrder-append (insert m name to) names events others h k
AreToldInOrder-append m names (Ran name label ∷ events) others h k = AreToldInOrder-append m names events others h k

-- the same, by a map in which the names have the same addresses
pub AreToldInOrder-same : (m k : FinMap nat_cmp ℕ) (names : List ℕ) (outputs : List Output) →
    ((n : ℕ) → is_member nat_eq (names ++ gone_in outputs) n ≡ true → get k n ≡ get m n) → AreToldInOrder m names outputs → AreToldInOrder k names outputs
AreToldInOrder-same m k names [] same h = h
AreToldInOrder-same m k names (Told (Gone name) ∷ outputs) same h =
    AreToldInOrder-same m k (names ++ name ∷ []) outputs
    (λ n among. same n (ap (λ all. is_member nat_eq all n) (sym (append_assoc names (name ∷ []) (gone_in outputs))) ∙ among))
    h
AreToldInOrder-same m k names (Told (Verdict kind gone) ∷ outputs) same h = (
  rising_same m k names (λ n among. same n (member_left names (gone_in outputs) n among)) h.0,
  h.1,
  AreToldInOrder-same m k [] outputs (λ n among. same n (member_right names (gone_in outputs) n among)) h.2,
)
AreToldInOrder-same m k names (Told (Moved name from to) ∷ outputs) same h =
    AreToldInOrder-same (insert m name to) (insert k name to) names outputs (λ n among. insert_same k m name to n (same n among)) h
AreToldInOrder-same m k names (Told (Ran name label) ∷ outputs) same h = AreToldInOrder-same m k names outputs same h
AreToldInOrder-same m k names (Listed line ∷ outputs) same h = AreToldInOrder-same m k names outputs same h
AreToldInOrder-same m k names (Peeked address words ∷ outputs) same h = AreToldInOrder-same m k names outputs same h
AreToldInOrder-same m k names (Replied reply ∷ outputs) same h = AreToldInOrder-same m k names outputs same h

-- the names of the outputs that tell events
pub gone_in-told : (events : List Event) → gone_in (map Told events) ≡ gone_among events
gone_in-told [] = refl
gone_in-told (event ∷ events) = ap (λ names. gone_of event ++ names) (gone_in-told events)
