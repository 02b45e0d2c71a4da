-- The firm names, as a list that has each once. While a marking goes on each of them was seen.
use Rattle.std.proofs.Common.{◌≡◌, ℕ, ◌≤◌, ◌&&◌, Bool, true, false, if◌then◌else◌, List, [], ◌++◌, length, nat_eq, refl}
use Rattle.std.specs.Prelude.{◌↔◌}
use Rattle.std.specs.Cmp.{nat_eq_equiv}
use Rattle.std.specs.Set.{is_member}
use Rattle.std.proofs.lemmas.Bool.{false≢true}
use Rattle.std.proofs.lemmas.Map.Made.{length-le_from_is_member}
use Rattle.space_model.specs.Ages.{is_protected}
use Rattle.space_model.specs.Counts.{CountIs}
use Rattle.space_model.specs.Graph.{children}
use Rattle.space_model.specs.MajorMarking.{IsFirmLink, IsFirm}
use Rattle.space_model.specs.Reach.{IsReached}
use Rattle.space_model.specs.Reached.{grown_times, field_names}
use Rattle.space_model.specs.State.{State, is_present}
use Rattle.space_model.proofs.Growing.{IsPart, grown_times-part, grown_times-whole, nothing-part}
use Rattle.space_model.proofs.LedNames.{member-field_names}
use Rattle.space_model.proofs.MarkingKept.{IsMarkingSound}
use Rattle.space_model.proofs.Members.{member_left, member_right}
use Rattle.space_model.proofs.Reaching.{IsReached-start, IsReached-least, IsReached-mono}

where_both : (a b : Bool) (names : List ℕ) (n : ℕ) → is_member nat_eq (if a && b then names else []) n ≡ true →
    (a ≡ true) × (b ≡ true) × (is_member nat_eq names n ≡ true)
where_both true true names n m = (refl, refl, m)
where_both true false names n m = absurd (false≢true m)
where_both false b names n m = absurd (false≢true m)

both_where : (a b : Bool) (names : List ℕ) (n : ℕ) → a ≡ true → b ≡ true → is_member nat_eq names n ≡ true →
    is_member nat_eq (if a && b then names else []) n ≡ true
both_where true true names n p q m = m
both_where true false names n p q m = absurd (false≢true q)
both_where false b names n p q m = absurd (false≢true p)

module _ (s : State) where
  -- the names to which a firm link leads from a name
  abbrev firm_children : ℕ → List ℕ
  firm_children name = if is_present s name && is_protected s.graph name then children s.graph name else []

  -- as many steps as there are names that could come, so that none is left to add
  abbrev pub firm_names : List ℕ
  firm_names = grown_times s.history.began firm_children (length (s.history.began ++ field_names s.graph)) []

  abbrev IsListedLink : ℕ → ℕ → Type 0
  IsListedLink m n = is_member nat_eq (firm_children m) n ≡ true

  abbrev IsFirst : ℕ → Type 0
  IsFirst n = is_member nat_eq s.history.began n ≡ true

  listed_link : (m n : ℕ) → IsListedLink m n → IsFirmLink s m n
  listed_link m n k = where_both (is_present s m) (is_protected s.graph m) (children s.graph m) n k

  link_listed : (m n : ℕ) → IsFirmLink s m n → IsListedLink m n
  link_listed m n (p, q, c) = both_where (is_present s m) (is_protected s.graph m) (children s.graph m) n p q c

  all_names : (n : ℕ) → IsReached IsListedLink IsFirst n → is_member nat_eq (s.history.began ++ field_names s.graph) n ≡ true
  all_names = IsReached-least IsListedLink IsFirst (λ n. is_member nat_eq (s.history.began ++ field_names s.graph) n ≡ true)
      (λ m n h k. member_right s.history.began _ n (member-field_names s.graph m n (listed_link m n k).2))
      (λ n h. member_left s.history.began _ n h)

  part : IsPart s.history.began firm_children (grown_times s.history.began firm_children (length (s.history.began ++ field_names s.graph)) [])
  part = grown_times-part s.history.began firm_children (length (s.history.began ++ field_names s.graph)) [] (nothing-part s.history.began firm_children)

  -- each name of the list is firm, and each firm name is in the list
  pub member-firm_names : (n : ℕ) → (is_member nat_eq firm_names n ≡ true) ↔ IsFirm s n
  member-firm_names n = (
    (λ m. IsReached-mono IsListedLink (IsFirmLink s) IsFirst IsFirst listed_link (λ a h. IsReached-start (IsFirmLink s) IsFirst a h) n (part.1 n m)),
    (λ r. grown_times-whole s.history.began firm_children (s.history.began ++ field_names s.graph) all_names n
        (IsReached-mono (IsFirmLink s) IsListedLink IsFirst IsFirst link_listed (λ a h. IsReached-start IsListedLink IsFirst a h) n r)),
  )

  -- so they are as many as the list is long
  pub CountIs-firm : CountIs (IsFirm s) (length firm_names)
  CountIs-firm = record { names = firm_names; once = part.0; are = member-firm_names; long = refl }

  -- while a marking goes on
  module _ (h : IsMarkingSound s) where
    pub firm_seen : (n : ℕ) → IsFirm s n → is_member nat_eq s.history.seen n ≡ true
    firm_seen = IsReached-least (IsFirmLink s) IsFirst (λ n. is_member nat_eq s.history.seen n ≡ true)
        (λ m n k link. h.seen_closed m n k link.2)
        h.began_seen

    -- no more names are firm than were seen
    pub firm_few : length firm_names ≤ length s.history.seen
    firm_few = length-le_from_is_member nat_eq_equiv firm_names s.history.seen part.0 (λ n m. firm_seen n ((member-firm_names n).0 m))
