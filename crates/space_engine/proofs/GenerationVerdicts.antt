-- After a verdict the heap's ages, remembered and kept marks are those of the state.
use Rattle.std.proofs.Common.{◌≡◌, ◌≢◌, ◌⊎◌, ℕ, ◌+◌, ◌&&◌, true, false, true≢false, nat_le, min, List, [], refl, sym, ap, ◌∙◌, subst, arith, nat_eq, Option, None, Some, ⊎_elim, inl, inr, if◌then◌else◌}
use Rattle.std.specs.Prelude.{is_some}
use Rattle.std.specs.Ordering.{nat_cmp}
use Rattle.std.specs.Set.{is_member}
use Rattle.std.specs.FinMap.{FinMap, get, empty}
use Rattle.std.proofs.lemmas.Bool.{cases_Bool, and_parts, and_from, or_cases, or_left, or_right, cond-false}
use Rattle.std.proofs.lemmas.Bool.Decides.{nat_tests}
use Rattle.space_model.specs.declared.event.Kind.{Kind}
use Rattle.space_model.specs.declared.event.Kind.TheVariants.{Minor, Major, Full}
use Rattle.space_model.specs.declared.object.Guard.{Guard}
use Rattle.space_model.specs.declared.object.Guard.TheVariants.{Protected, Unprotected}
use Rattle.space_model.specs.declared.phase.Phase.{Phase}
use Rattle.space_model.specs.declared.phase.Phase.TheVariants.{Marking}
use Rattle.space_model.specs.Ages.{is_protected_guard, is_protected, outlived_by, is_old_in, aged}
use Rattle.space_model.specs.Graph.{Item, item_of, IsChild}
use Rattle.space_model.specs.Kept.{unprotected_children, present_of, kept_after_verdict, vague_after_verdict}
use Rattle.space_model.specs.Maps.{without}
use Rattle.space_model.specs.Markings.{took}
use Rattle.space_model.specs.Moments.{mixed_names, with_names}
use Rattle.space_model.specs.Pages.{pool_pages}
use Rattle.space_model.specs.Sound.{Sound}
use Rattle.space_model.specs.State.{State}
use Rattle.space_model.specs.Verdicts.{IsVerdict}
use Rattle.space_model.proofs.AgeLaws.{aged-by}
use Rattle.space_model.proofs.MapLaws.{get-without, held_without, some_get}
use Rattle.space_model.proofs.MarkingKept.{sweeps_mark_none}
use Rattle.space_model.proofs.Members.{member_filter}
use Rattle.space_model.proofs.NotedLaws.{member-with_names}
use Rattle.space_heap.specs.Slots.{ObjectView}
use Rattle.space_heap.specs.HeapView.{HeapView}
use Rattle.space_heap.specs.Marking.{colour_of}
use Rattle.space_heap.specs.Objects.{object_of}
use Rattle.space_heap.specs.Generations.{is_old, is_aged, raised_age, is_protected_at}
use Rattle.space_heap.specs.Sweeping.{is_white, settled, HasNoGone}
use Rattle.space_heap.proofs.Coherence.{occupied_from_colour}
use Rattle.space_heap.proofs.SettledLaws.{object_of-settled, stays-settled}
use Rattle.space_tracing.specs.Graph as heap
use Rattle.space_tracing.specs.Marking.{IsMarked}
use Rattle.space_tracing.specs.Scans.{has_young_child}
use Rattle.space_tracing.proofs.Same.{same_part, age-same}
use Rattle.space_collector.specs.GoneNames.{gone_names}
use Rattle.space_collector.specs.KindMarkings.{IsScannedBy}
use Rattle.space_collector.specs.HeapVerdicts.{IsKindMarking}
use Rattle.space_roots.specs.WordRoots.{root_words}
use Rattle.space_engine.specs.Generations.{HasAges, HasKept, HasRemembered, HasOldChildren, HasGenerations}
use Rattle.space_engine.specs.Stands.{Holds}
use Rattle.space_engine.specs.Views.{View}
use Rattle.space_engine.proofs.AfterVerdicts.{taken_at, marked_stays, stays_marked}
use Rattle.space_engine.proofs.GenerationLists.{is_old_in-present, HasOldParent, unprotected_children-found, unprotected_children-from, mixed_in-from}
use Rattle.space_engine.proofs.GenerationNames.{IsJudgedIn, is_old-named, young_child, aged_child, child_at, guard_at, ready}
use Rattle.space_engine.proofs.KindNotes.{KindNotes, kind_notes, IsPassedOver, scan_cases, scanned_marked, marked_object}
use Rattle.space_engine.proofs.Reaching.{child_reached}

-- ages, one verdict later

raised_is : (guard : Guard) (n : ℕ) →
    raised_age guard (if is_protected_guard guard then min n 3 else 0) ≡ (if is_protected_guard guard then min (n + 1) 3 else 0)
raised_is Protected n = omega arith
raised_is Unprotected n = refl

-- what has age 2 or more is old then, where it is protected
old_raised : (guard : Guard) (age : ℕ) → (is_protected_guard guard ≡ false → age ≡ 0) →
    (is_protected_guard guard && nat_le 3 (raised_age guard age)) ≡ nat_le 2 age
old_raised Protected age none = grind (arith, nat_tests)
old_raised Unprotected age none = sym (ap (nat_le 2) (none refl))

aged_raised : (guard : Guard) (age : ℕ) → nat_le 2 age ≡ true → nat_le 2 (raised_age guard age) ≡ true
aged_raised Protected age e = grind (arith, nat_tests, e)
aged_raised Unprotected age e = e

-- the kept names after a verdict: unprotected children of old names after one that ends no marking, and those that were kept before
module _ (graph : List Item) (place : FinMap nat_cmp ℕ) (outlived names : List ℕ) (n : ℕ) where
  kept_listed : (kind : Kind) → is_member nat_eq (kept_after_verdict kind graph place outlived names) n ≡ true →
      ((kind ≢ Major) × (is_member nat_eq (unprotected_children graph place outlived) n ≡ true)) ⊎ ((kind ≢ Full) × (is_member nat_eq names n ≡ true))
  kept_listed Minor m = ⊎_elim
      (λ child. inl ((λ e. cc), child))
      (λ still. inr ((λ e. cc), (and_parts _ _ (sym (member_filter (λ name. is_some (get place name)) names n) ∙ still)).0))
      (or_cases _ _ (sym (member-with_names (unprotected_children graph place outlived) (present_of place names) n) ∙ m))
  kept_listed Major m = inr ((λ e. cc), (and_parts _ _ (sym (member_filter (λ name. is_some (get place name)) names n) ∙ m)).0)
  kept_listed Full m = inl ((λ e. cc), m)

  listed_child : (kind : Kind) → kind ≢ Major → is_member nat_eq (unprotected_children graph place outlived) n ≡ true →
      is_member nat_eq (kept_after_verdict kind graph place outlived names) n ≡ true
  listed_child Minor other m = member-with_names (unprotected_children graph place outlived) (present_of place names) n ∙ or_left _ _ m
  listed_child Major other m = absurd (other refl)
  listed_child Full other m = m

  listed_before : (kind : Kind) → kind ≢ Major → kind ≢ Full → (vague : ℕ) → vague_after_verdict kind vague ≡ 0 → is_some (get place n) ≡ true →
      (vague ≡ 0 → is_member nat_eq names n ≡ true) → is_member nat_eq (kept_after_verdict kind graph place outlived names) n ≡ true
  listed_before Minor not_major not_full vague sure present before =
      member-with_names (unprotected_children graph place outlived) (present_of place names) n
      ∙ or_right _ _ (member_filter (λ name. is_some (get place name)) names n ∙ and_from _ _ (before sure) present)
  listed_before Major not_major not_full vague sure present before = absurd (not_major refl)
  listed_before Full not_major not_full vague sure present before = absurd (not_full refl)

-- where a verdict leaves only names that are kept for certain, it ended no marking
only_certain : (s : State) (kind : Kind) → Sound s → IsJudgedIn kind s.collector.phase → vague_after_verdict kind s.collector.vague ≡ 0 → kind ≢ Major
only_certain s Minor sound rests sure e = cc
only_certain s Major sound marking sure e = let open_kept = (sound.marking marking).open_kept in omega (arith, sure, open_kept)
only_certain s Full sound rests sure e = cc

-- whether a marking goes on before the verdict, by its kind
rests_in : (kind : Kind) (phase : Phase) → kind ≡ Minor → IsJudgedIn kind phase → phase ≢ Marking
rests_in Minor phase is at = at
rests_in Major phase is at = absurd (cc)
rests_in Full phase is at = absurd (cc)

marks_in : (kind : Kind) (phase : Phase) → kind ≡ Major → IsJudgedIn kind phase → phase ≡ Marking
marks_in Minor phase is at = absurd (cc)
marks_in Major phase is at = at
marks_in Full phase is at = absurd (cc)

-- of a marking of any kind and its verdict. The names that had a child that isn't old were noted anew as it began, or are those of the state
-- where it began before
module _ (v : View) (s : State) (h : Holds v s) (clean : HasNoGone v.heap) (unmoved : s.heap.left ≡ empty) (fresh : s.collector.stale ≡ [])
    (marked : HeapView) (kind : Kind) (at : IsJudgedIn kind s.collector.phase) (mixed : List ℕ) (goes_on : kind ≡ Major → mixed ≡ s.history.mixed)
    (scans : ℕ) (c : IsKindMarking v.heap marked kind (root_words v.roots) v.stack scans)
    (verdict : IsVerdict s kind (gone_names (settled marked kind))) where
  abbrev w : HeapView
  w = settled marked kind

  abbrev taken : List ℕ
  taken = gone_names w

  abbrev place' : FinMap nat_cmp ℕ
  place' = without s.heap.place taken

  abbrev outlived' : List ℕ
  outlived' = aged place' s.collector.outlived

  abbrev IsScanned : ℕ → Type 0
  IsScanned a = IsScannedBy kind v.heap marked (root_words v.roots) v.stack a

  -- the names that had a child that wasn't old, since the start of the marking or after the verdict
  abbrev mixed' : List ℕ
  mixed' = with_names (mixed_names (took s kind taken)) mixed

  notes : KindNotes v.heap marked kind IsScanned
  notes = kind_notes v.heap marked kind IsScanned c.notes

  -- the marking passed over the object
  abbrev IsOver : ℕ → Type 0
  IsOver a = IsPassedOver v.heap marked kind (root_words v.roots) v.stack a

  -- the names that are left

  was : (n a : ℕ) → get place' n ≡ Some a → get s.heap.place n ≡ Some a
  was n a e = (held_without s.heap.place taken n a e).0

  stays : (n a : ℕ) → get s.heap.place n ≡ Some a → is_member nat_eq taken n ≡ false → get place' n ≡ Some a
  stays n a e out = get-without s.heap.place taken n ∙ cond-false (is_member nat_eq taken n) None (get s.heap.place n) out ∙ e

  not_white_at : (n a : ℕ) → get place' n ≡ Some a → is_white (colour_of marked a) ≡ false
  not_white_at n a e =
      let held = held_without s.heap.place taken n a e in
      sym (taken_at v s h.represents clean marked c.same kind n a held.0) ∙ held.1

  marked_at : (n a : ℕ) → get place' n ≡ Some a → IsMarked marked a
  marked_at n a e =
      let held = held_without s.heap.place taken n a e in
      stays_marked v s h.represents clean marked c.same kind n a held.0 held.1

  scan_or_over : (n a : ℕ) → get place' n ≡ Some a → IsScanned a ⊎ IsOver a
  scan_or_over n a e = scan_cases v.heap marked kind (root_words v.roots) v.stack scans c clean a (marked_at n a e)

  stays_where : (n a : ℕ) → get s.heap.place n ≡ Some a → IsMarked marked a → get place' n ≡ Some a
  stays_where n a e m = stays n a e (marked_stays v s h.represents clean marked c.same kind n a e m)

  -- what is scanned is left
  scanned_stays : (a : ℕ) → IsScanned a → get place' (object_of v.heap a).name ≡ Some a
  scanned_stays a is =
      let m = scanned_marked v.heap marked kind (root_words v.roots) v.stack scans c (ready v s h unmoved fresh clean kind at) a is in
      stays_where (object_of v.heap a).name a (h.represents.heap.objects.only a (marked_object v.heap marked c.same clean a m)) m

  -- a child by address is one by name, and is left
  child_named : (p a b : ℕ) → get place' p ≡ Some a → heap.IsChild v.heap a b → (n : ℕ) × (get place' n ≡ Some b) × IsChild s.graph p n
  child_named p a b e child =
      let r = child_reached v s h unmoved fresh a b p (was p a e) child in
      let held = held_without s.heap.place taken p a e in
      (r.0, stays r.0 b r.1 (verdict.closed p r.0 (ap is_some held.0) held.1 r.2), r.2)

  -- the marks stay
  remembered_stays : (a : ℕ) → (object_of w a).remembered ≡ (object_of marked a).remembered
  remembered_stays a = stays-settled marked kind (λ (o : ObjectView). o.remembered) a (λ o. refl)

  kept_stays : (a : ℕ) → (object_of w a).kept ≡ (object_of marked a).kept
  kept_stays a = stays-settled marked kind (λ (o : ObjectView). o.kept) a (λ o. refl)

  guard_stays : (a : ℕ) → (object_of w a).guard ≡ (object_of v.heap a).guard
  guard_stays a = stays-settled marked kind (λ (o : ObjectView). o.guard) a (λ o. refl) ∙ same_part (λ (o : ObjectView). o.guard) v.heap marked a c.same

  -- ages

  age_raised : (n a : ℕ) → get place' n ≡ Some a → (object_of w a).age ≡ raised_age (object_of v.heap a).guard (object_of v.heap a).age
  age_raised n a e =
      ap (λ (o : ObjectView). o.age) (object_of-settled marked kind a (occupied_from_colour marked a (marked_at n a e)))
      ∙ cond-false (is_white (colour_of marked a)) (object_of marked a).age (raised_age (object_of marked a).guard (object_of marked a).age)
      (not_white_at n a e)
      ∙ (λ i. raised_age (same_part (λ (o : ObjectView). o.guard) v.heap marked a c.same i) (age-same v.heap marked a c.same i))

  outlived_more : (n a : ℕ) → get place' n ≡ Some a → outlived_by outlived' n ≡ outlived_by s.collector.outlived n + 1
  outlived_more n a e =
      let born = h.sound.layout.placed.allocated n a (was n a e) in
      let long = h.sound.outlived in
      aged-by place' s.collector.outlived n born.0 (let most = born.1 in omega (arith, most, long))
      ∙ ap (λ (o : Option ℕ). outlived_by s.collector.outlived n + (if is_some o then 1 else 0)) e

  guard_of : (n a : ℕ) → get place' n ≡ Some a → (object_of v.heap a).guard ≡ (item_of s.graph n).guard
  guard_of n a e = (h.represents.heap.objects.is n a (was n a e)).guard

  ages : HasAges s.graph place' outlived' w
  ages n a e =
      age_raised n a e
      ∙ (λ i. raised_age (guard_of n a e i) (h.represents.generations.ages n a (was n a e) i))
      ∙ raised_is (item_of s.graph n).guard (outlived_by s.collector.outlived n)
      ∙ ap (λ k. if is_protected s.graph n then min k 3 else 0) (sym (outlived_more n a e))

  -- an unprotected object has age 0
  young_unprotected : (n a : ℕ) → get place' n ≡ Some a → is_protected_guard (object_of v.heap a).guard ≡ false → (object_of v.heap a).age ≡ 0
  young_unprotected n a e out =
      h.represents.generations.ages n a (was n a e)
      ∙ cond-false (is_protected s.graph n) (min (outlived_by s.collector.outlived n) 3) 0 (sym (ap is_protected_guard (guard_of n a e)) ∙ out)

  -- what is old after the verdict had age 2 or more before it
  old_after : (n a : ℕ) → get place' n ≡ Some a → is_old (object_of w a) ≡ is_aged (object_of v.heap a)
  old_after n a e =
      (λ i. is_protected_guard (guard_stays a i) && nat_le 3 (age_raised n a e i))
      ∙ old_raised (object_of v.heap a).guard (object_of v.heap a).age (young_unprotected n a e)

  old_name_after : (n a : ℕ) → get place' n ≡ Some a → is_old_in s.graph place' outlived' n ≡ is_aged (object_of v.heap a)
  old_name_after n a e = sym (is_old-named s.graph place' outlived' w ages n a e (guard_stays a ∙ guard_of n a e)) ∙ old_after n a e

  aged_after : (n a : ℕ) → get place' n ≡ Some a → is_aged (object_of v.heap a) ≡ true → is_aged (object_of w a) ≡ true
  aged_after n a e old = ap (nat_le 2) (age_raised n a e) ∙ aged_raised (object_of v.heap a).guard (object_of v.heap a).age old

  -- what is remembered

  aged_remembered : (n a : ℕ) → get place' n ≡ Some a → (object_of marked a).remembered ≡ true → is_aged (object_of v.heap a) ≡ true
  aged_remembered n a e r = ⊎_elim
      (λ t. t)
      (λ young. h.represents.generations.remembered.aged n a (was n a e) (notes.young a young r))
      (cases_Bool (is_aged (object_of v.heap a)))

  -- a parent with a child of age 0 or 1 has one that isn't old after the verdict
  mixed_parent : (n a : ℕ) → get place' n ≡ Some a → has_young_child v.heap a ≡ true →
      is_member nat_eq mixed' n ≡ true
  mixed_parent n a e y =
      let young = young_child v.heap a y in
      let its = child_named n a young.at e young.child in
      member-with_names (mixed_names (took s kind taken)) mixed n
      ∙ or_left _ _ (mixed_in-from s.graph place' outlived' n its.0 (ap is_some e) its.2 (old_name_after its.0 young.at its.1 ∙ young.young))

  -- what the marking passed over was remembered before
  passed_mixed : (n a : ℕ) → get place' n ≡ Some a → IsOver a → (object_of marked a).remembered ≡ true → is_member nat_eq mixed' n ≡ true
  passed_mixed n a e over r =
      let before = notes.other a over.unscanned r in
      ⊎_elim
      (λ (is, old). absurd (true≢false (sym before ∙ old.forgotten)))
      (λ (is, black).
      member-with_names (mixed_names (took s kind taken)) mixed n
      ∙ or_right _ _ (ap (λ names. is_member nat_eq names n) (goes_on is) ∙ h.represents.generations.remembered.mixed_since n a (was n a e) before))
      over.why

  mixed_remembered : (n a : ℕ) → get place' n ≡ Some a → (object_of marked a).remembered ≡ true →
      is_member nat_eq mixed' n ≡ true
  mixed_remembered n a e r = ⊎_elim
      (λ is. mixed_parent n a e (sym (notes.scanned a is (aged_remembered n a e r)) ∙ r))
      (λ over. passed_mixed n a e over r)
      (scan_or_over n a e)

  remembered : HasRemembered place' mixed' w
  remembered = record {
    aged = λ n a e r. aged_after n a e (aged_remembered n a e (sym (remembered_stays a) ∙ r));
    mixed_since = λ n a e r. mixed_remembered n a e (sym (remembered_stays a) ∙ r);
  }

  -- a parent of age 2 or more keeps its unprotected children

  child_of : (p n a b : ℕ) → get place' p ≡ Some a → get place' n ≡ Some b → IsChild s.graph p n → heap.IsChild v.heap a b
  child_of p n a b e f child = child_at v s h unmoved fresh p n a b (was p a e) (was n b f) child

  guard_named : (n a : ℕ) → get place' n ≡ Some a → is_protected_at v.heap a ≡ is_protected s.graph n
  guard_named n a e = guard_at v s h unmoved fresh n a (was n a e)

  aged_old : (o : ObjectView) → is_old o ≡ true → is_aged o ≡ true
  aged_old o e = let three = (and_parts (is_protected_guard o.guard) _ e).1 in grind (arith, nat_tests, three)

  -- so it hasn't age 2 or more
  young_free : (n b : ℕ) → get place' n ≡ Some b → is_protected s.graph n ≡ false → is_aged (object_of v.heap b) ≡ false
  young_free n b f free = ap (nat_le 2) (young_unprotected n b f (guard_named n b f ∙ free))

  -- the children of what the marking passed over have age 2 or more or are kept
  held_child : (p n a b : ℕ) → get place' p ≡ Some a → get place' n ≡ Some b → IsChild s.graph p n → is_aged (object_of v.heap a) ≡ true →
      (kind ≡ Major → (object_of marked a).remembered ≡ false) → IsOver a →
      (is_aged (object_of v.heap b) ≡ true) ⊎ ((object_of v.heap b).kept ≡ true)
  held_child p n a b e f child old forgotten over = ⊎_elim
      (λ (is, over_old). ⊎_elim
      (λ o. inl (aged_old (object_of v.heap b) o))
      (λ k. inr k)
      (h.represents.generations.old_children (rests_in kind s.collector.phase is at) p n a b (was p a e) (was n b f) child over_old.old_object
      over_old.forgotten))
      (λ (is, black).
      h.represents.generations.aged_children (marks_in kind s.collector.phase is at) p n a b (was p a e) (was n b f) child black.black old
      (sym (notes.other_major a is over.unscanned) ∙ forgotten is))
      over.why

  -- a whole marking passes over none
  over_not_full : (a : ℕ) → IsOver a → kind ≢ Full
  over_not_full a over e = ⊎_elim (λ (is, old). cc) (λ (is, black). cc) over.why

  child_kept : (p n a b : ℕ) → get place' p ≡ Some a → get place' n ≡ Some b → IsChild s.graph p n → is_aged (object_of v.heap a) ≡ true →
      (kind ≡ Major → (object_of marked a).remembered ≡ false) → is_protected s.graph n ≡ false → (object_of marked b).kept ≡ true
  child_kept p n a b e f child old forgotten free = ⊎_elim
      (λ is. notes.kept_now a b is (record { aged = old; child = child_of p n a b e f child; unprotected = guard_named n b f ∙ free }))
      (λ over. ⊎_elim
      (λ o. absurd (true≢false (sym o ∙ young_free n b f free)))
      (λ k. notes.kept_before b (over_not_full a over) k)
      (held_child p n a b e f child old forgotten over))
      (scan_or_over p a e)

  -- and its protected ones are old after the verdict, where it isn't remembered
  child_old : (p n a b : ℕ) → get place' p ≡ Some a → get place' n ≡ Some b → IsChild s.graph p n → is_aged (object_of v.heap a) ≡ true →
      (object_of marked a).remembered ≡ false → is_protected s.graph n ≡ true →
      (is_old (object_of w b) ≡ true) ⊎ ((object_of w b).kept ≡ true)
  child_old p n a b e f child old forgotten guard = ⊎_elim
      (λ is. inl (old_after n b f ∙ aged_child v.heap a b (sym (notes.scanned a is old) ∙ forgotten) (child_of p n a b e f child) (guard_named n b f ∙ guard)))
      (λ over. ⊎_elim
      (λ o. inl (old_after n b f ∙ o))
      (λ k. inr (kept_stays b ∙ notes.kept_before b (over_not_full a over) k))
      (held_child p n a b e f child old (λ is. forgotten) over))
      (scan_or_over p a e)

  old_children : HasOldChildren s.graph place' w
  old_children p n a b e f child old forgotten =
      let was_aged : is_aged (object_of v.heap a) ≡ true = sym (old_after p a e) ∙ old in
      let no_more : (object_of marked a).remembered ≡ false = sym (remembered_stays a) ∙ forgotten in
      ⊎_elim
      (λ guard. child_old p n a b e f child was_aged no_more guard)
      (λ free. inr (kept_stays b ∙ child_kept p n a b e f child was_aged (λ is. no_more) free))
      (cases_Bool (is_protected s.graph n))

  -- what is kept

  children_kept : kind ≢ Major → (n b : ℕ) → get place' n ≡ Some b → HasOldParent s.graph place' outlived' n → (object_of marked b).kept ≡ true
  children_kept other n b f p =
      let from = some_get (get place' p.parent) (is_old_in-present s.graph place' outlived' p.parent p.old) in
      child_kept p.parent n from.0 b from.1 f p.child (sym (old_name_after p.parent from.0 from.1) ∙ p.old) (λ is. absurd (other is)) p.unprotected

  -- a kept object was kept before a marking that isn't a whole one, or is an unprotected child of an old name
  kept_cases : (n b : ℕ) → get place' n ≡ Some b → (object_of marked b).kept ≡ true →
      ((kind ≢ Full) × ((object_of v.heap b).kept ≡ true)) ⊎ HasOldParent s.graph place' outlived' n
  kept_cases n b f k = ⊎_elim
      (λ before. inl before)
      (λ (m, is, keeper).
      let from = scanned_stays m is in
      let its = child_named (object_of v.heap m).name m b from keeper.child in
      inr (record {
        present = ap is_some f;
        unprotected = sym (guard_named n b f) ∙ keeper.unprotected;
        parent = (object_of v.heap m).name;
        old = old_name_after (object_of v.heap m).name m from ∙ keeper.aged;
        child = subst (IsChild s.graph (object_of v.heap m).name) (h.sound.layout.placed.once its.0 n b (was its.0 b its.1) (was n b f)) its.2;
      }))
      (notes.kept_only b k)

  abbrev kept' : List ℕ
  kept' = kept_after_verdict kind s.graph place' outlived' s.collector.kept

  abbrev vague' : ℕ
  vague' = vague_after_verdict kind s.collector.vague

  kept_unprotected : (n b : ℕ) → get place' n ≡ Some b → (object_of marked b).kept ≡ true → is_protected s.graph n ≡ false
  kept_unprotected n b f k = ⊎_elim
      (λ (is, before). h.represents.generations.kept.unprotected n b (was n b f) before)
      (λ p. p.unprotected)
      (kept_cases n b f k)

  kept_certain : (n b : ℕ) → get place' n ≡ Some b → is_member nat_eq kept' n ≡ true → (object_of marked b).kept ≡ true
  kept_certain n b f m = ⊎_elim
      (λ (other, child). children_kept other n b f (unprotected_children-found s.graph place' outlived' n child))
      (λ (not_full, before). notes.kept_before b not_full (h.represents.generations.kept.certain n b (was n b f) before))
      (kept_listed s.graph place' outlived' s.collector.kept n kind m)

  kept_known : vague' ≡ 0 → (n b : ℕ) → get place' n ≡ Some b → (object_of marked b).kept ≡ true → is_member nat_eq kept' n ≡ true
  kept_known sure n b f k =
      let other = only_certain s kind h.sound at sure in
      ⊎_elim
      (λ (not_full, before). listed_before s.graph place' outlived' s.collector.kept n kind other not_full s.collector.vague sure (ap is_some f)
      (λ sure. h.represents.generations.kept.only sure n b (was n b f) before))
      (λ p. listed_child s.graph place' outlived' s.collector.kept n kind other (unprotected_children-from s.graph place' outlived' n p))
      (kept_cases n b f k)

  kept : HasKept s.graph place' (took s kind taken).collector w
  kept = record {
    certain = λ n b f m. kept_stays b ∙ kept_certain n b f m;
    only = λ sure n b f k. kept_known sure n b f (sym (kept_stays b) ∙ k);
    unprotected = λ n b f k. kept_unprotected n b f (sym (kept_stays b) ∙ k);
    outlived = λ rests n b f k. let more = outlived_more n b f in omega (arith, more);
  }

  pub generations_after : HasGenerations s.graph place' (took s kind taken).collector mixed' w
  generations_after = record {
    ages = ages;
    kept = kept;
    remembered = remembered;
    old_children = λ rests. old_children;
    aged_children = λ marking. absurd (sweeps_mark_none (pool_pages s.heap.pages) marking);
  }
