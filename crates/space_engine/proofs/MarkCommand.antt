-- The command that goes on with a marking: how many scans it tells, and how many objects are grey after them.
use Rattle.std.proofs.Common.{◌≡◌, ◌≢◌, ℕ, ◌+◌, ◌<◌, ◌≤◌, ◌&&◌, true, List, [], ◌∷◌, ◌++◌, length, map, nat_eq, refl, sym, ap, ◌∙◌, subst, arith, Some, ⊎_elim}
use Rattle.std.specs.Cmp.{nat_eq_equiv}
use Rattle.std.specs.List.{IsDistinct}
use Rattle.std.specs.Set.{is_member}
use Rattle.std.specs.FinMap.{get}
use Rattle.std.proofs.Math.ListN.{length-map}
use Rattle.std.proofs.lemmas.List.{length-append}
use Rattle.std.proofs.lemmas.Map.Made.{length-le_from_is_member}
use Rattle.space_model.specs.declared.command.Command.TheVariants.{Mark}
use Rattle.space_model.specs.declared.phase.Phase.TheVariants.{Marking}
use Rattle.space_model.specs.declared.reply.Refusal.TheVariants.{NotMarking}
use Rattle.space_model.specs.declared.reply.Reply.TheVariants.{Marked, Refused}
use Rattle.space_model.specs.Counts.{CountIs}
use Rattle.space_model.specs.MajorMarking.{scans_told, IsFirmLink, IsFirm}
use Rattle.space_model.specs.State.{State}
use Rattle.space_model.proofs.FirmNames.{firm_names, CountIs-firm}
use Rattle.space_model.proofs.MapLaws.{some_get}
use Rattle.space_model.proofs.Members.{member_cases}
use Rattle.space_model.proofs.Reaching.{IsReached-least}
use Rattle.space_model.proofs.ToldNames.{IsDistinct-append}
use Rattle.space_heap.specs.Slots.{ObjectView}
use Rattle.space_heap.specs.HeapView.{HeapView}
use Rattle.space_heap.specs.Marking.{colour_of, IsCoherent}
use Rattle.space_heap.proofs.Coherence.{none_grey}
use Rattle.space_heap.proofs.NumberLists.{IsDistinct-map}
use Rattle.space_tracing.specs.Graph.{SameGraph}
use Rattle.space_tracing.specs.Marking.{IsMarked, GoesOn}
use Rattle.space_tracing.proofs.Bundles.{marks_none, colours}
use Rattle.space_tracing.proofs.Same.{same_part}
use Rattle.space_collector.specs.GoneNames.{name_at}
use Rattle.space_engine.specs.Colours.{IsBlack, AreColours}
use Rattle.space_engine.specs.Stands.{Represents, Holds}
use Rattle.space_engine.specs.Steps.{Answers}
use Rattle.space_engine.specs.Turns.{IsOneTurn}
use Rattle.space_engine.specs.Views.{View, with_heap}
use Rattle.space_engine.proofs.MarkScans.{marking, marked_seen, scans_represented}
use Rattle.space_engine.proofs.Outcomes.{some_same}
use Rattle.space_engine.proofs.Reaching.{member_map, member_unmap}
use Rattle.space_engine.proofs.TurnLaws.{turn_alike}

module _ (v : View) (s : State) (h : Holds v s) (at : v.heap.phase ≡ Marking) (z : HeapView) (k : ℕ) (goes : GoesOn v.heap z k) (coherent : IsCoherent z) where
  after : Represents (with_heap v z) (scans_told s k)
  after = scans_represented v s h at z k goes

  shown : AreColours s.graph s.heap.place (scans_told s k).history z
  shown = after.colours (marking v s h at z k goes)

  -- the objects that are black or grey: each is the object of a name that was seen

  abbrev black : List ℕ
  black = shown.scanned.names

  abbrev found : List ℕ
  found = black ++ z.grey

  found_marked : (a : ℕ) → is_member nat_eq found a ≡ true → IsMarked z a
  found_marked a m = ⊎_elim
      (λ was e. let is = (shown.scanned.are a).0 was in cc)
      (λ listed e. let is = coherent.listed_grey a listed in cc)
      (member_cases black z.grey a m)

  found_once : IsDistinct nat_eq found
  found_once = IsDistinct-append black z.grey shown.scanned.once coherent.once
      (λ a m listed. let is = (shown.scanned.are a).0 m in let grey = coherent.listed_grey a listed in cc)

  found_named : (a : ℕ) → is_member nat_eq found a ≡ true →
      (get s.heap.place (name_at z a) ≡ Some a) × (is_member nat_eq s.history.seen (name_at z a) ≡ true)
  found_named a m =
      let r = marked_seen v s h at z k goes a (found_marked a m) in
      let named : name_at z a ≡ r.0 = (after.heap.objects.is r.0 a r.1).named in
      (ap (get s.heap.place) named ∙ r.1, ap (is_member nat_eq s.history.seen) named ∙ r.2)

  names_once : IsDistinct nat_eq (map (name_at z) found)
  names_once = IsDistinct-map (name_at z) found
      (λ a b m n same. some_same a b (sym (found_named a m).0 ∙ ap (get s.heap.place) same ∙ (found_named b n).0))
      found_once

  names_seen : (n : ℕ) → is_member nat_eq (map (name_at z) found) n ≡ true → is_member nat_eq s.history.seen n ≡ true
  names_seen n m =
      let u = member_unmap (name_at z) found n m in
      subst (λ q. is_member nat_eq s.history.seen q ≡ true) (sym u.2) (found_named u.0 u.1).1

  within : s.history.scanned + k + length z.grey ≤ length s.history.seen
  within =
      let fits = length-le_from_is_member nat_eq_equiv (map (name_at z) found) s.history.seen names_once names_seen in
      let long = length-map found (name_at z) in
      let sum = length-append black z.grey in
      let many = shown.scanned.long in
      omega (arith, fits, long, sum, many)

  -- where nothing is grey each firm name is that of a black object

  module _ (none : z.grey ≡ []) where
    black_marked : (a : ℕ) → IsMarked z a → IsBlack z a
    black_marked a m = ⊎_elim
        (λ white. absurd (m white))
        (λ other. ⊎_elim (λ grey. absurd (none_grey z a coherent none grey)) (λ black. black) other)
        (colours (colour_of z a))

    abbrev IsBlackName : ℕ → Type 0
    IsBlackName n = (a : ℕ) × (get s.heap.place n ≡ Some a) × IsBlack z a

    firm_black : (n : ℕ) → IsFirm s n → IsBlackName n
    firm_black = IsReached-least (IsFirmLink s) (λ first. is_member nat_eq s.history.began first ≡ true) IsBlackName
        (λ m n (a, e, black) link.
        let to = some_get (get s.heap.place n) (h.sound.names.children_present m n link.0 link.2) in
        (to.0, to.1, black_marked to.0 (shown.children m n a to.0 e to.1 link.2 link.1 black)))
        (λ n began.
        let marks = h.sound.marking (marking v s h at z k goes) in
        let to = some_get (get s.heap.place n) (marks.seen_present n (marks.began_seen n began)) in
        (to.0, to.1, black_marked to.0 (shown.began n to.0 to.1 began)))

    -- so they are no more than the scans that were told
    firm_few : (firm : ℕ) → CountIs (IsFirm s) firm → firm ≤ s.history.scanned + k
    firm_few firm count =
        let fits = length-le_from_is_member nat_eq_equiv count.names (map (name_at z) black) count.once
        (λ n m.
        let r = firm_black n ((count.are n).0 m) in
        subst (λ q. is_member nat_eq (map (name_at z) black) q ≡ true) (after.heap.objects.is n r.0 r.1).named
        (member_map (name_at z) black r.0 ((shown.scanned.are r.0).1 r.2))) in
        let few = count.long in
        let long = length-map black (name_at z) in
        let many = shown.scanned.long in
        omega (arith, fits, few, long, many)

  pub mark_done : (count grey : ℕ) → k ≤ count → (k < count → z.grey ≡ []) → grey ≡ length z.grey →
      Answers s (with_heap v z) (Mark count) (Marked k grey)
  mark_done count grey few all counted = record {
    state = scans_told s k;
    represents = after;
    replies = record {
      marking = marking v s h at z k goes;
      at_most = few;
      all = λ fewer. counted ∙ ap length (all fewer);
      after = refl;
      within = (let fits = within in omega (arith, fits, counted));
      firm = length (firm_names s);
      firm_are = CountIs-firm s;
      at_least = λ none. firm_few (nothing_listed z.grey (sym counted ∙ none)) (length (firm_names s)) (CountIs-firm s);
    };
  }
    where
      nothing_listed : (xs : List ℕ) → length xs ≡ 0 → xs ≡ []
      nothing_listed [] e = refl
      nothing_listed (x ∷ xs) e = absurd (omega (arith, e))

-- where no marking is under way there is none to go on with
pub mark_refused : (v : View) (s : State) → Holds v s → v.heap.phase ≢ Marking → (count : ℕ) → Answers s v (Mark count) (Refused NotMarking)
mark_refused v s h rests count = record {
  state = s;
  represents = h.represents;
  replies = (λ e. rests (h.represents.heap.progress.at ∙ e), refl, refl);
}

-- scans change no count, and leave a quiescent heap such
pub turn_marked : (v z : HeapView) (k : ℕ) → v.phase ≡ Marking → GoesOn v z k → IsOneTurn v z
turn_marked v z k at goes =
    let same : SameGraph v z = (goes v [] [] [] (marks_none v)).1.same in
    turn_alike 3 2 v z (record {
      phase = same.phase;
      unswept = same.unswept;
      grey = λ rests. absurd (rests at);
      gone = λ a. λ i. same.standing a i && same_part (λ (o : ObjectView). o.gone) v z a same i;
      moved = same.away;
      grey_was = λ rests. absurd (rests at);
    }) same.counters
