-- While a marking goes on, what was seen is present, and so are its children, which were seen.
use Rattle.std.proofs.Common.{◌≡◌, ◌⊎◌, ℕ, ◌+◌, ◌<◌, ◌≤◌, not, true, List, [], ◌∷◌, ◌++◌, length, nat_eq, refl, sym, ap, ◌∙◌, arith, ⊎_elim, inl, inr}
use Rattle.std.specs.Prelude.{is_some}
use Rattle.std.specs.List.{filter}
use Rattle.std.specs.Set.{is_member}
use Rattle.std.specs.FinMap.{get, insert}
use Rattle.std.proofs.lemmas.Bool.{or_cases, or_left, or_right}
use Rattle.std.proofs.lemmas.List.{length-append}
use Rattle.space_model.specs.declared.object.Guard.{Guard}
use Rattle.space_model.specs.declared.object.Style.{Style}
use Rattle.space_model.specs.declared.phase.Phase.{Phase}
use Rattle.space_model.specs.declared.phase.Phase.TheVariants.{Idle, Marking, Sweeping, Moving, Fixing}
use Rattle.space_model.specs.declared.value.Value.{Value}
use Rattle.space_model.specs.Graph.{IsChild, item_of, with_item}
use Rattle.space_model.specs.Moments.{with_names}
use Rattle.space_model.specs.Pieces.{new_item, item_written, item_unprotected}
use Rattle.space_model.specs.Reach.{IsStart, Reach}
use Rattle.space_model.specs.Reached.{start_names, reached_names}
use Rattle.space_model.specs.Sound.{AreSlots, SoundNames, SoundMoments, SoundMarking}
use Rattle.space_model.specs.State.{State}
use Rattle.space_model.specs.Sweeps.{sweep_phase}
use Rattle.space_model.proofs.MapLaws.{present-insert, some_get}
use Rattle.space_model.proofs.NamesKept.{children-push, child_cases}
use Rattle.space_model.proofs.NotedLaws.{member-with_names}
use Rattle.space_model.proofs.ReachedLaws.{member-start_names, member-reached_names}
use Rattle.space_model.proofs.Reaching.{IsReached-start, IsReached-closed}
use Rattle.space_model.proofs.UnprotectedNames.{children_same}
use Rattle.space_model.proofs.ValuesKept.{IsReachedValue}
use Rattle.space_model.proofs.VerdictLaws.{reach_present}

-- what is asked of a state while a marking goes on
abbrev pub IsMarkingSound : State → Type 0
IsMarkingSound s = SoundMarking s.graph s.heap.place s.history.seen s.history.began s.history.scanned s.collector.vague

-- whether a marking goes on
pub is_marking : (phase : Phase) → (phase ≡ Marking) ⊎ (phase ≡ Marking → ⊥)
is_marking Idle = inr (λ e. cc)
is_marking Marking = inl refl
is_marking Sweeping = inr (λ e. cc)
is_marking Moving = inr (λ e. cc)
is_marking Fixing = inr (λ e. cc)

-- none goes on where pages wait or nothing is under way
pub sweeps_mark_none : (pages : List ℕ) → sweep_phase pages ≡ Marking → ⊥
sweeps_mark_none [] e = cc
sweeps_mark_none (page ∷ pages) e = cc

longer : (more names : List ℕ) → length names ≤ length (with_names more names)
unfolding with_names
longer more names = let long = length-append (filter (λ name. not (is_member nat_eq names name)) more) names in omega arith

-- what is reached was noted
module _ (u : State) (names : SoundNames u.graph u.roots u.heap.place) (h : IsMarkingSound u) where
  abbrev now : List ℕ
  now = with_names (reached_names u) u.history.seen

  still_seen : (n : ℕ) → is_member nat_eq u.history.seen n ≡ true → is_member nat_eq now n ≡ true
  still_seen n m = member-with_names (reached_names u) u.history.seen n ∙ or_right (is_member nat_eq (reached_names u) n) _ m

  reached_seen : (n : ℕ) → Reach u n → is_member nat_eq now n ≡ true
  reached_seen n r = member-with_names (reached_names u) u.history.seen n ∙ or_left _ _ ((member-reached_names u n).1 r)

  seen_cases : (n : ℕ) → is_member nat_eq now n ≡ true → Reach u n ⊎ (is_member nat_eq u.history.seen n ≡ true)
  seen_cases n m = ⊎_elim
      (λ r. inl ((member-reached_names u n).0 r))
      (λ k. inr k)
      (or_cases _ _ (sym (member-with_names (reached_names u) u.history.seen n) ∙ m))

  pub SoundMarking-noted : SoundMarking u.graph u.heap.place (with_names (reached_names u) u.history.seen) u.history.began u.history.scanned u.collector.vague
  SoundMarking-noted = record {
    began_seen = λ n m. still_seen n (h.began_seen n m);
    seen_present = λ n m. ⊎_elim (λ r. reach_present u names n r) (λ k. h.seen_present n k) (seen_cases n m);
    seen_closed = λ m n k c. ⊎_elim
        (λ r. reached_seen n (IsReached-closed (IsChild u.graph) (IsStart u) m n r c))
        (λ q. still_seen n (h.seen_closed m n q c))
        (seen_cases m k);
    open_kept = h.open_kept;
    few_scans = (let few = h.few_scans in let long = longer (reached_names u) u.history.seen in omega arith);
  }

-- a marking was started
pub SoundMarking-started : (s : State) (vague : ℕ) → vague ≡ 1 → SoundNames s.graph s.roots s.heap.place →
    SoundMarking s.graph s.heap.place (reached_names s) (start_names s.roots s.stack s.heap.place) 0 vague
SoundMarking-started s vague is names = record {
  began_seen = λ n m. (member-reached_names s n).1 (IsReached-start (IsChild s.graph) (IsStart s) n ((member-start_names s n).0 m));
  seen_present = λ n m. reach_present s names n ((member-reached_names s n).0 m);
  seen_closed = λ m n k c. (member-reached_names s n).1 (IsReached-closed (IsChild s.graph) (IsStart s) m n ((member-reached_names s m).0 k) c);
  open_kept = is;
  few_scans = omega arith;
}

-- after an object was allocated
pub SoundMarking-born : (s : State) (fields : ℕ) (guard : Guard) (style : Style) (address : ℕ) → AreSlots s.graph s.heap.pages s.heap.place →
    IsMarkingSound s →
    SoundMarking (s.graph ++ new_item guard style fields ∷ []) (insert s.heap.place (length s.graph + 1) address) s.history.seen s.history.began
    s.history.scanned s.collector.vague
SoundMarking-born s fields guard style address l h = record {
  began_seen = h.began_seen;
  seen_present = λ n m. present-insert s.heap.place (length s.graph + 1) address n (h.seen_present n m);
  seen_closed = λ m n k c.
      let at = some_get (get s.heap.place m) (h.seen_present m k) in
      let b = l.allocated m at.0 at.1 in
      h.seen_closed m n k (sym (ap (λ xs. is_member nat_eq xs n) (children-push s.graph (new_item guard style fields) m b.0 b.1)) ∙ c);
  open_kept = h.open_kept;
  few_scans = h.few_scans;
}

-- after a field was written, with a value that is reached: so it was seen
pub SoundMarking-field_written : (s : State) (name index : ℕ) (value : Value) → AreSlots s.graph s.heap.pages s.heap.place → 0 < name →
    name ≤ length s.graph → IsReachedValue s value → SoundMoments s → IsMarkingSound s →
    SoundMarking (with_item s.graph name (item_written (item_of s.graph name) index value)) s.heap.place s.history.seen s.history.began
    s.history.scanned s.collector.vague
SoundMarking-field_written s name index value l some old reached moments h = record {
  began_seen = h.began_seen;
  seen_present = h.seen_present;
  seen_closed = λ m n k c.
      let at = some_get (get s.heap.place m) (h.seen_present m k) in
      ⊎_elim
      (λ before. h.seen_closed m n k before)
      (λ written. moments.seen n (reached n written))
      (child_cases s name index value l some old m n (l.allocated m at.0 at.1).0 c);
  open_kept = h.open_kept;
  few_scans = h.few_scans;
}

-- after the write barrier protects a name no more
pub SoundMarking-unprotected : (s : State) (name : ℕ) → AreSlots s.graph s.heap.pages s.heap.place → is_some (get s.heap.place name) ≡ true →
    IsMarkingSound s →
    SoundMarking (with_item s.graph name (item_unprotected (item_of s.graph name))) s.heap.place s.history.seen s.history.began s.history.scanned
    s.collector.vague
SoundMarking-unprotected s name l there h = record {
  began_seen = h.began_seen;
  seen_present = h.seen_present;
  seen_closed = λ m n k c.
      let at = some_get (get s.heap.place m) (h.seen_present m k) in
      h.seen_closed m n k (sym (ap (λ xs. is_member nat_eq xs n) (children_same s name l there m (l.allocated m at.0 at.1).0)) ∙ c);
  open_kept = h.open_kept;
  few_scans = h.few_scans;
}
