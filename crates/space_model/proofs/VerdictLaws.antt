-- What is reached outlives each verdict, none is reached that wasn't, and a full one leaves nothing else.
use Rattle.std.proofs.Common.{◌≡◌, ◌⊎◌, ℕ, true, List, length, nat_eq, refl, sym, ap, ◌∙◌, subst, arith, ⊎_elim, inl, inr}
use Rattle.std.specs.Prelude.{is_some, ◌↔◌}
use Rattle.std.specs.Cmp.{nat_eq_equiv}
use Rattle.std.specs.Set.{is_member}
use Rattle.std.specs.FinMap.{get}
use Rattle.std.proofs.lemmas.Bool.{cases_Bool, false_from_ne_true}
use Rattle.std.proofs.lemmas.Map.Made.{length-le_from_is_member}
use Rattle.space_model.specs.declared.event.Kind.{Kind}
use Rattle.space_model.specs.declared.event.Kind.TheVariants.{Minor, Full}
use Rattle.space_model.specs.Markings.{mark_started, StartMark, took, Took}
use Rattle.space_model.specs.Counts.{CountIs}
use Rattle.space_model.specs.Graph.{IsChild}
use Rattle.space_model.specs.Maps.{IsRising, without}
use Rattle.space_model.specs.Reach.{IsStart, Reach}
use Rattle.space_model.specs.Reached.{reached_names}
use Rattle.space_model.specs.Sound.{Sound, SoundNames}
use Rattle.space_model.specs.State.{State, is_present}
use Rattle.space_model.specs.Verdicts.{IsVerdict}
use Rattle.space_model.proofs.MapLaws.{held_without, left-without, present-without}
use Rattle.space_model.proofs.ReachedLaws.{member-reached_names, reached_names-once}
use Rattle.space_model.proofs.Reaching.{IsReached-start, IsReached-closed, IsReached-least, IsReached-mono}

-- whether a name is reached can be decided
pub is_reached : (s : State) (n : ℕ) → Reach s n ⊎ (Reach s n → ⊥)
is_reached s n = ⊎_elim
    (λ t. inl ((member-reached_names s n).0 t))
    (λ f. inr (λ r. let q = (member-reached_names s n).1 r in cc))
    (cases_Bool (is_member nat_eq (reached_names s) n))

-- what is reached is present
pub reach_present : (s : State) → SoundNames s.graph s.roots s.heap.place → (n : ℕ) → Reach s n → is_present s n ≡ true
reach_present s h = IsReached-least (IsChild s.graph) (IsStart s) (λ n. is_present s n ≡ true)
    h.children_present
    (λ n start. ⊎_elim (λ r. h.roots_present n r) (λ w. ap is_some w.2) start)

-- how many names are reached
pub CountIs-reached : (s : State) → CountIs (Reach s) (length (reached_names s))
CountIs-reached s = record { names = reached_names s; once = reached_names-once s; are = member-reached_names s; long = refl }

pub CountIs-unique : (P : ℕ → Type 0) (i j : ℕ) → CountIs P i → CountIs P j → i ≡ j
CountIs-unique P i j a b =
    let le = length-le_from_is_member nat_eq_equiv a.names b.names a.once (λ n m. (b.are n).1 ((a.are n).0 m)) in
    let ge = length-le_from_is_member nat_eq_equiv b.names a.names b.once (λ n m. (a.are n).1 ((b.are n).0 m)) in
    let x = a.long in let y = b.long in omega arith

-- the number of what is marked is that of what was seen when the marking started
pub seen_count : (s t : State) (count : ℕ) → StartMark s t → CountIs (Reach s) count → length t.history.seen ≡ count
seen_count s t count e h = ap (λ (u : State). length u.history.seen) e ∙ CountIs-unique (Reach s) _ _ (CountIs-reached s) h

pub scans_are_reached : (s t : State) → StartMark s t → CountIs (Reach s) (length t.history.seen)
scans_are_reached s t e = subst (λ (u : State). CountIs (Reach s) (length u.history.seen)) (sym e) (CountIs-reached s)

-- the present names that aren't reached, in ascending order, are what a full verdict takes
pub full_verdict : (s : State) (taken : List ℕ) → ((n : ℕ) → (is_member nat_eq taken n ≡ true) ↔ ((is_present s n ≡ true) × (Reach s n → ⊥))) →
    IsRising s.heap.place taken → IsVerdict s Full taken
full_verdict s taken are rising = record {
  present = λ n m. ((are n).0 m).0;
  rising = rising;
  unreached = λ n m. ((are n).0 m).1;
  closed = λ m n p out c. ⊎_elim
      (λ r. false_from_ne_true _ (λ t. ((are n).0 t).1 (IsReached-closed (IsChild s.graph) (IsStart s) m n r c)))
      (λ u. absurd (let t = (are m).1 (p, u) in cc))
      (is_reached s m);
  by_kind = λ n p u. (are n).1 (p, u);
}

-- the start of a marking changes nothing of it
pub verdict_marked : (s : State) (taken : List ℕ) → IsVerdict s Full taken → IsVerdict (mark_started s) Full taken
verdict_marked s taken v = record { present = v.present; rising = v.rising; unreached = v.unreached; closed = v.closed; by_kind = v.by_kind }

pub minor_verdict_marked : (s : State) (taken : List ℕ) → IsVerdict s Minor taken → IsVerdict (mark_started s) Minor taken
minor_verdict_marked s taken v = record {
  present = v.present;
  rising = v.rising;
  unreached = v.unreached;
  closed = v.closed;
  by_kind = record { old_stay = v.by_kind.old_stay; led_to = v.by_kind.led_to };
}

module _ (s : State) (kind : Kind) (taken : List ℕ) (v : IsVerdict s kind taken) where
  reached_before : (n : ℕ) → Reach (took s kind taken) n → Reach s n
  reached_before = IsReached-mono (IsChild s.graph) (IsChild s.graph) (IsStart (took s kind taken)) (IsStart s) (λ m n c. c)
      (λ n start. IsReached-start (IsChild s.graph) (IsStart s) n (⊎_elim
      (λ r. inl r)
      (λ w. inr (w.0, w.1, (held_without s.heap.place taken n w.0 w.2).0))
      start))

-- what is reached after a verdict was reached before it
pub reach_no_more : (s t : State) (kind : Kind) (taken : List ℕ) → IsVerdict s kind taken → Took s kind taken t → (n : ℕ) → Reach t n → Reach s n
reach_no_more s t kind taken v e n = subst (λ (u : State). Reach u n → Reach s n) (sym e) (λ r. reached_before s kind taken v n r)

took_place : (s t : State) (kind : Kind) (taken : List ℕ) → Took s kind taken t → (n : ℕ) → is_present t n ≡ is_some (get (without s.heap.place taken) n)
took_place s t kind taken e n = ap (λ (u : State). is_present u n) e

-- what is reached before a verdict is present after it
pub reached_outlive : (s t : State) (kind : Kind) (taken : List ℕ) → IsVerdict s kind taken → Took s kind taken t → Sound s → (n : ℕ) → Reach s n →
    is_present t n ≡ true
reached_outlive s t kind taken v e h n r =
    took_place s t kind taken e n
    ∙ present-without s.heap.place taken n (reach_present s h.names n r) (false_from_ne_true _ (λ gone. v.unreached n gone r))

-- after a full verdict the present names are those that were reached before it
pub full_leaves_reached : (s t : State) (taken : List ℕ) → IsVerdict s Full taken → Took s Full taken t → Sound s → (n : ℕ) →
    (is_present t n ≡ true) ↔ Reach s n
full_leaves_reached s t taken v e h n = (
  (λ p. let x = left-without s.heap.place taken n (sym (took_place s t Full taken e n) ∙ p) in
      ⊎_elim (λ r. r) (λ u. absurd (let t = v.by_kind n x.0 u in let f = x.1 in cc)) (is_reached s n)),
  (λ r. reached_outlive s t Full taken v e h n r),
)
