-- To note again what was noted changes nothing, and what was noted is sound.
use Rattle.std.proofs.Common.{◌≡◌, ℕ, ◌||◌, not, Bool, true, false, List, [], ◌∷◌, ◌++◌, nat_eq, refl, ap, ◌∙◌, ⊎_elim, arith}
use Rattle.std.specs.List.{filter, IsDistinct, AllByRecursion}
use Rattle.std.specs.Set.{is_member}
use Rattle.std.proofs.lemmas.Bool.{or_left, or_right, or_from, eq-eqb, cases_Bool}
use Rattle.std.proofs.lemmas.List.Folds.{list_any-append}
use Rattle.space_model.specs.State.{State}
use Rattle.space_model.specs.Reached.{reached_names}
use Rattle.space_model.specs.Sound.{SoundMoments}
use Rattle.space_model.specs.Moments.{mixed_names, with_names, noted, SameMoments}
use Rattle.space_model.proofs.Growing.{IsDistinct-cons}
use Rattle.space_model.proofs.Members.{member_filter}
use Rattle.space_model.proofs.ReachedLaws.{member-reached_names, reached_names-once}

none_left : (test : ℕ → Bool) (xs : List ℕ) → ((n : ℕ) → is_member nat_eq xs n ≡ true → test n ≡ false) → filter test xs ≡ []
none_left test [] h = refl
none_left test (x ∷ xs) h =
    let here : test x ≡ false = h x (or_left _ _ (eq-eqb x x refl)) in
    rw (here, none_left test xs (λ n m. h n (or_right (nat_eq n x) _ m))) refl

pub member-with_names : (more names : List ℕ) (n : ℕ) → is_member nat_eq (with_names more names) n ≡ (is_member nat_eq more n || is_member nat_eq names n)
unfolding with_names
member-with_names more names n =
    let e = list_any-append (nat_eq n) (filter (λ n. not (is_member nat_eq names n)) more) names in
    let f = member_filter (λ n. not (is_member nat_eq names n)) more n in
    grind (arith, e, f, cases_Bool (is_member nat_eq more n), cases_Bool (is_member nat_eq names n))

pub with_names-same : (more names : List ℕ) → ((n : ℕ) → is_member nat_eq more n ≡ true → is_member nat_eq names n ≡ true) → with_names more names ≡ names
unfolding with_names
with_names-same more names h = ap (λ xs. xs ++ names) (none_left (λ n. not (is_member nat_eq names n)) more (λ n m. let k = h n m in ap not k))

pub noted-same : (s : State) → SoundMoments s → noted s ≡ s
noted-same s h =
    let a : with_names (reached_names s) s.history.seen ≡ s.history.seen =
    with_names-same (reached_names s) s.history.seen (λ n m. h.seen n ((member-reached_names s n).0 m)) in
    let b : with_names (mixed_names s) s.history.mixed ≡ s.history.mixed = with_names-same (mixed_names s) s.history.mixed h.mixed in
    λ i. record s { history = record s.history { seen = a i; mixed = b i } }

-- new names before a list of names, each once
IsDistinct-with_names : (more names : List ℕ) → IsDistinct nat_eq more → IsDistinct nat_eq names → IsDistinct nat_eq (with_names more names)
unfolding IsDistinct with_names
IsDistinct-with_names [] names d e = e
IsDistinct-with_names (x ∷ more) names d e =
    let h = IsDistinct-with_names more names d.1 e in
    ⊎_elim
    (λ t. rw t h)
    (λ f. let m = member-with_names more names x in let out = alone x more d.0 in
    rw f (IsDistinct-cons x (with_names more names) h (m ∙ rw (out, f) refl)))
    (cases_Bool (is_member nat_eq names x))
  where
    alone : (x : ℕ) (ys : List ℕ) → AllByRecursion (λ y. nat_eq x y ≡ false) ys → is_member nat_eq ys x ≡ false
    alone x [] a = refl
    alone x (y ∷ ys) a = or_from _ _ a.0 (alone x ys a.1)

pub SoundMoments-noted : (s : State) → IsDistinct nat_eq s.history.seen → SoundMoments (noted s)
SoundMoments-noted s once = record {
  seen = λ n r. member-with_names (reached_names s) s.history.seen n ∙ or_left _ _ ((member-reached_names s n).1 r);
  once = IsDistinct-with_names (reached_names s) s.history.seen (reached_names-once s) once;
  mixed = λ n m. member-with_names (mixed_names s) s.history.mixed n ∙ or_left _ _ m;
}

SoundMoments-same : (s t : State) → SameMoments s t → SoundMoments s → SoundMoments t
SoundMoments-same s t e h = record {
  seen = λ n r. rw e.seen (h.seen n (rw (e.graph, e.roots, e.stack, e.place) at r));
  once = rw e.seen h.once;
  mixed = λ n m. rw e.mixed (h.mixed n (rw (e.graph, e.place, e.outlived) at m));
}

-- a change that touches nothing on which the moments rest leaves them as they were
pub noted-stays : (s t : State) → SameMoments s t → SoundMoments s → noted t ≡ t
noted-stays s t e h = noted-same t (SoundMoments-same s t e h)
