-- There is a minor collection: it takes what no path leads to from where a minor marking may begin.
use Rattle.std.proofs.Common.{◌≡◌, ◌||◌, ◌&&◌, not, ℕ, Bool, true, false, nat_le, List, ◌++◌, length, nat_eq, sym, ap, ◌∙◌, arith, ⊎_elim, inl, inr}
use Rattle.std.specs.Prelude.{◌↔◌}
use Rattle.std.specs.List.{filter}
use Rattle.std.specs.Set.{is_member}
use Rattle.std.specs.FinMap.{keys}
use Rattle.std.proofs.lemmas.Bool.{and_parts, and_from, or_cases, or_left, or_right, not-true, false≢true, false_from_ne_true, true_from_ne_false}
use Rattle.std.proofs.lemmas.Bool.Decides.{nat_tests}
use Rattle.space_model.specs.declared.event.Event.{Event}
use Rattle.space_model.specs.declared.event.Kind.TheVariants.{Minor}
use Rattle.space_model.specs.Ages.{is_protected, outlived_by, is_old_in, is_old}
use Rattle.space_model.specs.Collections.{IsCollection, AreMinorScans}
use Rattle.space_model.specs.Completions.{Completes}
use Rattle.space_model.specs.Graph.{IsChild}
use Rattle.space_model.specs.Maps.{IsRising}
use Rattle.space_model.specs.Markings.{mark_started}
use Rattle.space_model.specs.Reach.{IsReached, IsStart, Reach}
use Rattle.space_model.specs.Reached.{start_names}
use Rattle.space_model.specs.Sound.{Sound}
use Rattle.space_model.specs.State.{State, is_present}
use Rattle.space_model.specs.Verdicts.{IsUnprotectedSurvivor, IsMinorStart, IsVerdict, verdict_events}
use Rattle.space_model.proofs.LedNames.{led_names, member-led_names}
use Rattle.space_model.proofs.Members.{member_left, member_right, member_cases, member_filter}
use Rattle.space_model.proofs.PassingNames.{passing_names, IsRising-passing_names, member-passing_names, CountIs-passing}
use Rattle.space_model.proofs.ReachedLaws.{member-keys, member-start_names}
use Rattle.space_model.proofs.Reaching.{IsReached-start, IsReached-closed, IsReached-mono}
use Rattle.space_model.proofs.VerdictLaws.{minor_verdict_marked}
use Rattle.space_model.proofs.WholeLaws.{Sound-completed, collected_state, collects_after}

old_present : (s : State) (n : ℕ) → is_old s n ≡ true → is_present s n ≡ true
unfolding is_old_in
old_present s n e = (and_parts _ _ e).0

module _ (s : State) where
  abbrev survives : ℕ → Bool
  survives n = not (is_protected s.graph n) && nat_le 1 (outlived_by s.collector.outlived n)

  abbrev starts : List ℕ
  starts = start_names s.roots s.stack s.heap.place ++ filter (λ n. is_old s n || survives n) (keys s.heap.place)

  filtered : (n : ℕ) →
      is_member nat_eq (filter (λ n. is_old s n || survives n) (keys s.heap.place)) n ≡ (is_member nat_eq (keys s.heap.place) n && (is_old s n || survives n))
  filtered n = member_filter (λ n. is_old s n || survives n) (keys s.heap.place) n

  survivor : (n : ℕ) → is_present s n ≡ true → survives n ≡ true → IsUnprotectedSurvivor s n
  survivor n p e =
      let both = and_parts (not (is_protected s.graph n)) (nat_le 1 (outlived_by s.collector.outlived n)) e in
      let most : nat_le 1 (outlived_by s.collector.outlived n) ≡ true = both.1 in
      (p, not-true (is_protected s.graph n) both.0, grind (arith, nat_tests, most))

  survived : (n : ℕ) → IsUnprotectedSurvivor s n → survives n ≡ true
  survived n (p, out, most) =
      let long : nat_le 1 (outlived_by s.collector.outlived n) ≡ true = grind (arith, nat_tests, most) in
      and_from _ _ (ap not out) long

  begins : (n : ℕ) → is_member nat_eq starts n ≡ true → IsMinorStart s n
  begins n m = ⊎_elim
      (λ start. inl ((member-start_names s n).0 start))
      (λ other.
      let both = and_parts (is_member nat_eq (keys s.heap.place) n) (is_old s n || survives n) (sym (filtered n) ∙ other) in
      let p : is_present s n ≡ true = sym (member-keys s.heap.place n) ∙ both.0 in
      inr (⊎_elim (λ old. inl old) (λ young. inr (survivor n p young)) (or_cases (is_old s n) (survives n) both.1)))
      (member_cases (start_names s.roots s.stack s.heap.place) (filter (λ n. is_old s n || survives n) (keys s.heap.place)) n m)

  listed : (n : ℕ) → is_present s n ≡ true → (is_old s n || survives n) ≡ true → is_member nat_eq starts n ≡ true
  listed n p e = member_right (start_names s.roots s.stack s.heap.place) _ n (filtered n ∙ and_from _ _ (member-keys s.heap.place n ∙ p) e)

  begun : (n : ℕ) → IsMinorStart s n → is_member nat_eq starts n ≡ true
  begun n start = ⊎_elim
      (λ a. member_left (start_names s.roots s.stack s.heap.place) _ n ((member-start_names s n).1 a))
      (λ b. ⊎_elim
      (λ old. listed n (old_present s n old) (or_left (is_old s n) (survives n) old))
      (λ young. listed n young.0 (or_right (is_old s n) (survives n) (survived n young)))
      b)
      start

  abbrev is_led : ℕ → Bool
  is_led n = is_member nat_eq (led_names s.graph starts) n

  led : (n : ℕ) → (is_led n ≡ true) ↔ IsReached (IsChild s.graph) (IsMinorStart s) n
  led n = member-led_names s.graph starts (IsMinorStart s) (λ a. (begins a, begun a)) n

  -- the present names that no such path leads to
  pub minor_taken : List ℕ
  minor_taken = passing_names s (λ n. not (is_led n))

  -- the young names that are left, each of which is scanned
  pub young_names : List ℕ
  young_names = passing_names s (λ n. not (is_member nat_eq minor_taken n) && not (is_old s n))

  suspects : List ℕ
  suspects = passing_names s (λ n. is_old s n && is_member nat_eq s.history.mixed n)

  module _ (h : Sound s) where
    are : (n : ℕ) → (is_member nat_eq minor_taken n ≡ true) ↔ ((is_present s n ≡ true) × (not (is_led n) ≡ true))
    unfolding minor_taken
    are n = member-passing_names s h.layout.placed (λ n. not (is_led n)) n

    taken_not_led : (n : ℕ) → is_member nat_eq minor_taken n ≡ true → is_led n ≡ true → ⊥
    taken_not_led n m l = let out : is_led n ≡ false = not-true (is_led n) ((are n).0 m).1 in false≢true (sym out ∙ l)

    stays_led : (n : ℕ) → is_present s n ≡ true → is_member nat_eq minor_taken n ≡ false → is_led n ≡ true
    stays_led n p out = true_from_ne_false (is_led n) (λ f. false≢true (sym out ∙ (are n).1 (p, ap not f)))

    led_stays : (n : ℕ) → is_led n ≡ true → is_member nat_eq minor_taken n ≡ false
    led_stays n l = false_from_ne_true (is_member nat_eq minor_taken n) (λ m. taken_not_led n m l)

    reached_is_led : (n : ℕ) → Reach s n → is_led n ≡ true
    reached_is_led n r = (led n).1
        (IsReached-mono (IsChild s.graph) (IsChild s.graph) (IsStart s) (IsMinorStart s) (λ a b c. c)
        (λ a start. IsReached-start (IsChild s.graph) (IsMinorStart s) a (inl start)) n r)

    rising : IsRising s.heap.place minor_taken
    unfolding minor_taken
    rising = IsRising-passing_names s (λ n. not (is_led n))

    pub minor_verdict : IsVerdict s Minor minor_taken
    minor_verdict = record {
      present = λ n m. ((are n).0 m).0;
      rising = rising;
      unreached = λ n m r. taken_not_led n m (reached_is_led n r);
      closed = λ m n p out c.
          led_stays n ((led n).1 (IsReached-closed (IsChild s.graph) (IsMinorStart s) m n ((led m).0 (stays_led m p out)) c));
      by_kind = record {
        old_stay = λ n old. led_stays n ((led n).1 (IsReached-start (IsChild s.graph) (IsMinorStart s) n (inr (inl old))));
        led_to = λ n p out. (led n).0 (stays_led n p out);
      };
    }

    minor_scans : AreMinorScans s (mark_started s) minor_taken (length young_names)
    unfolding young_names suspects
    minor_scans = record {
      young = length young_names;
      young_are = CountIs-passing s h.layout.placed (λ n. not (is_member nat_eq minor_taken n) && not (is_old s n)) _
          (λ n. (
            (λ (p, e). let both = and_parts _ _ e in (p, not-true _ both.0, not-true _ both.1)),
            (λ (p, stays, young). (p, and_from _ _ (ap not stays) (ap not young))),
          ));
      suspects = length suspects;
      suspects_are = CountIs-passing s h.layout.placed (λ n. is_old s n && is_member nat_eq s.history.mixed n) _
          (λ n. (
            (λ (p, e). let both = and_parts _ _ e in (both.0, both.1)),
            (λ (old, mixed). (old_present s n old, and_from _ _ old mixed)),
          ));
      at_least = omega arith;
      at_most = omega arith;
    }

-- so where what is under way can be completed there is a minor collection
pub minor_there : (s idle : State) (completion : List Event) → Completes s completion idle → Sound s →
    IsCollection s Minor (completion ++ verdict_events Minor (minor_taken idle)) (length (young_names idle)) (collected_state idle Minor (minor_taken idle))
minor_there s idle completion completes h =
    let sound : Sound idle = Sound-completed s idle completion completes h in
    let verdict = minor_verdict_marked idle (minor_taken idle) (minor_verdict idle sound) in
    collects_after idle Minor (minor_taken idle) verdict s completion (length (young_names idle)) completes (minor_scans idle sound)
