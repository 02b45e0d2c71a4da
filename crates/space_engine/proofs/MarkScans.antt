-- After some scans of the marking that is under way the heap has what the state has, once these scans are told.
use Rattle.std.proofs.Common.{◌≡◌, ◌⊎◌, ℕ, ◌+◌, true, false, List, [], ◌++◌, length, nat_eq, sym, ap, ◌∙◌, subst, arith, Some, ⊎_elim, inl, inr}
use Rattle.std.specs.Prelude.{is_some}
use Rattle.std.specs.Set.{is_member}
use Rattle.std.specs.FinMap.{get, empty}
use Rattle.std.proofs.lemmas.Bool.{cases_Bool, false≢true}
use Rattle.std.proofs.lemmas.Bool.Decides.{nat_tests}
use Rattle.std.proofs.lemmas.List.{length-append}
use Rattle.space_model.specs.declared.phase.Phase.TheVariants.{Marking}
use Rattle.space_model.specs.Ages.{is_protected}
use Rattle.space_model.specs.Counts.{CountIs}
use Rattle.space_model.specs.Graph.{IsChild}
use Rattle.space_model.specs.MajorMarking.{scans_told}
use Rattle.space_model.specs.State.{State}
use Rattle.space_model.proofs.Members.{member_left, member_right, member_cases}
use Rattle.space_model.proofs.Reaching.{IsReached-least}
use Rattle.space_model.proofs.ToldNames.{IsDistinct-append}
use Rattle.space_heap.specs.Slots.{ObjectView}
use Rattle.space_heap.specs.HeapView.{HeapView}
use Rattle.space_heap.specs.Marking.{colour_of}
use Rattle.space_heap.specs.Objects.{object_of}
use Rattle.space_heap.specs.Generations.{is_old, is_aged}
use Rattle.space_heap.specs.Sweeping.{HasNoGone}
use Rattle.space_heap.proofs.Coherence.{occupied_from_colour}
use Rattle.space_heap.proofs.SettledLaws.{none_gone}
use Rattle.space_tracing.specs.Graph.{SameGraph}
use Rattle.space_tracing.specs.Graph as heap
use Rattle.space_tracing.specs.Marking.{IsMarked, Marks, GoesOn}
use Rattle.space_tracing.specs.Scans.{has_young_child}
use Rattle.space_tracing.proofs.Bundles.{marks_none, colours}
use Rattle.space_tracing.proofs.Same.{age-same, aged-same}
use Rattle.space_engine.specs.Colours.{IsBlack, HasMarkedChildren, AreColours}
use Rattle.space_engine.specs.Generations.{HasKept, HasRemembered, HasAgedChildren, HasGenerations}
use Rattle.space_engine.specs.Stands.{Represents, Holds}
use Rattle.space_engine.specs.Views.{View, with_heap}
use Rattle.space_engine.proofs.GenerationLists.{mixed_in-from}
use Rattle.space_engine.proofs.GenerationNames.{young_child, aged_child, child_at, guard_at, old_at}
use Rattle.space_engine.proofs.Reaching.{child_reached}
use Rattle.space_engine.proofs.ResolvedRoots.{resolved_roots-same}
use Rattle.space_engine.proofs.TablesKept.{ids_led, weak_led}
use Rattle.space_engine.proofs.SameHeaps.{heap_same}
use Rattle.space_engine.proofs.WholeVerdicts.{none_gone_in}

-- what has an age below 2 isn't old
not_old : (object : ObjectView) → is_aged object ≡ false → is_old object ≡ false
not_old object young = grind (arith, nat_tests, young)

module _ (v : View) (s : State) (h : Holds v s) (at : v.heap.phase ≡ Marking) (z : HeapView) (k : ℕ) (goes : GoesOn v.heap z k) where
  pub marking : s.collector.phase ≡ Marking
  marking = sym h.represents.heap.progress.at ∙ at

  unmoved : s.heap.left ≡ empty
  unmoved = (h.sound.resting (λ e. let m = marking in cc) (λ e. let m = marking in cc)).0

  fresh : s.collector.stale ≡ []
  fresh = (h.sound.resting (λ e. let m = marking in cc) (λ e. let m = marking in cc)).1

  clean : HasNoGone v.heap
  clean = none_gone_in v s h (λ e. let m = marking in cc)

  before : AreColours s.graph s.heap.place s.history v.heap
  before = h.represents.colours marking

  -- the objects that were scanned, in their order

  went : (more : List ℕ) × Marks v.heap z [] [] more × (length more ≡ k)
  went = goes v.heap [] [] [] (marks_none v.heap)

  abbrev more : List ℕ
  more = went.0

  abbrev IsScanned : ℕ → Type 0
  IsScanned a = is_member nat_eq more a ≡ true

  marks : Marks v.heap z [] [] more
  marks = went.1

  same : SameGraph v.heap z
  same = marks.same

  -- a marked object has a name
  marked_named : (a : ℕ) → IsMarked v.heap a → get s.heap.place (object_of v.heap a).name ≡ Some a
  marked_named a m = h.represents.heap.objects.only a (sym (none_gone v.heap a clean) ∙ occupied_from_colour v.heap a m)

  -- a black object was scanned now, or was black before
  black_cases : (a : ℕ) → IsBlack z a → IsScanned a ⊎ IsBlack v.heap a
  black_cases a black = ⊎_elim
      (λ white. inl (marks.marking.black_done a black (λ e. cc)))
      (λ other. ⊎_elim (λ grey. inl (marks.marking.black_done a black (λ e. cc))) (λ was. inr was) other)
      (colours (colour_of v.heap a))

  -- what is remembered

  aged_remembered : (n a : ℕ) → get s.heap.place n ≡ Some a → (object_of z a).remembered ≡ true → is_aged (object_of v.heap a) ≡ true
  aged_remembered n a e r = ⊎_elim
      (λ t. t)
      (λ young. h.represents.generations.remembered.aged n a e (sym (marks.notes.remembered_young a young) ∙ r))
      (cases_Bool (is_aged (object_of v.heap a)))

  -- a parent with a child of age 0 or 1 has one that isn't old
  mixed_parent : (n a : ℕ) → get s.heap.place n ≡ Some a → has_young_child v.heap a ≡ true → is_member nat_eq s.history.mixed n ≡ true
  mixed_parent n a e has =
      let young = young_child v.heap a has in
      let its = child_reached v s h unmoved fresh a young.at n e young.child in
      h.sound.moments.mixed n (mixed_in-from s.graph s.heap.place s.collector.outlived n its.0 (ap is_some e) its.2
      (sym (old_at v s h unmoved fresh its.0 young.at its.1) ∙ not_old (object_of v.heap young.at) young.young))

  mixed_remembered : (n a : ℕ) → get s.heap.place n ≡ Some a → (object_of z a).remembered ≡ true → is_member nat_eq s.history.mixed n ≡ true
  mixed_remembered n a e r = ⊎_elim
      (λ is. mixed_parent n a e (sym (marks.notes.remembered_aged a is (aged_remembered n a e r)) ∙ r))
      (λ out. h.represents.generations.remembered.mixed_since n a e (sym (marks.notes.remembered_other a (λ is. false≢true (sym out ∙ is))) ∙ r))
      (cases_Bool (is_member nat_eq more a))

  remembered : HasRemembered s.heap.place s.history.mixed z
  remembered = record {
    aged = λ n a e r. aged-same v.heap z a same ∙ aged_remembered n a e r;
    mixed_since = mixed_remembered;
  }

  -- what is kept

  kept_unprotected : (n a : ℕ) → get s.heap.place n ≡ Some a → (object_of z a).kept ≡ true → is_protected s.graph n ≡ false
  kept_unprotected n a e r = ⊎_elim
      (λ was. h.represents.generations.kept.unprotected n a e was)
      (λ (m, is, keeper). sym (guard_at v s h unmoved fresh n a e) ∙ keeper.unprotected)
      (marks.notes.kept_only a r)

  kept : HasKept s.graph s.heap.place s.collector z
  kept = record {
    certain = λ n a e m. marks.notes.kept_before a (h.represents.generations.kept.certain n a e m);
    only = λ none. let open_kept = (h.sound.marking marking).open_kept in absurd (omega (arith, none, open_kept));
    unprotected = kept_unprotected;
    outlived = λ rests. absurd (rests marking);
  }

  -- the children of black objects

  child_of : (p n a b : ℕ) → get s.heap.place p ≡ Some a → get s.heap.place n ≡ Some b → IsChild s.graph p n → heap.IsChild v.heap a b
  child_of p n a b e f child = child_at v s h unmoved fresh p n a b e f child

  -- one that was scanned now is remembered where it has a protected child of age 0 or 1, and keeps its unprotected children
  scanned_child : (p n a b : ℕ) → get s.heap.place p ≡ Some a → get s.heap.place n ≡ Some b → IsChild s.graph p n → IsScanned a →
      is_aged (object_of v.heap a) ≡ true → (object_of z a).remembered ≡ false → (is_aged (object_of v.heap b) ≡ true) ⊎ ((object_of z b).kept ≡ true)
  scanned_child p n a b e f child is aged forgotten = ⊎_elim
      (λ guard. inl (aged_child v.heap a b (sym (marks.notes.remembered_aged a is aged) ∙ forgotten) (child_of p n a b e f child)
      (guard_at v s h unmoved fresh n b f ∙ guard)))
      (λ free. inr (marks.notes.kept_now a b is (record {
        aged = aged;
        child = child_of p n a b e f child;
        unprotected = guard_at v s h unmoved fresh n b f ∙ free;
      })))
      (cases_Bool (is_protected s.graph n))

  -- of one that was black before and wasn't scanned it held then, and its marks stay
  passed_child : (p n a b : ℕ) → get s.heap.place p ≡ Some a → get s.heap.place n ≡ Some b → IsChild s.graph p n → (IsScanned a → ⊥) → IsBlack v.heap a →
      is_aged (object_of v.heap a) ≡ true → (object_of z a).remembered ≡ false → (is_aged (object_of v.heap b) ≡ true) ⊎ ((object_of z b).kept ≡ true)
  passed_child p n a b e f child out black aged forgotten = ⊎_elim
      (λ old. inl old)
      (λ was. inr (marks.notes.kept_before b was))
      (h.represents.generations.aged_children marking p n a b e f child black aged (sym (marks.notes.remembered_other a out) ∙ forgotten))

  aged_children : HasAgedChildren s.graph s.heap.place z
  aged_children p n a b e f child black aged forgotten =
      let was_aged : is_aged (object_of v.heap a) ≡ true = sym (aged-same v.heap z a same) ∙ aged in
      ⊎_elim
      (λ old. inl (aged-same v.heap z b same ∙ old))
      (λ held. inr held)
      (⊎_elim
      (λ is. scanned_child p n a b e f child is was_aged forgotten)
      (λ out. ⊎_elim
      (λ is. absurd (false≢true (sym out ∙ is)))
      (λ was. passed_child p n a b e f child (λ is. false≢true (sym out ∙ is)) was was_aged forgotten)
      (black_cases a black))
      (cases_Bool (is_member nat_eq more a)))

  generations : HasGenerations s.graph s.heap.place s.collector s.history.mixed z
  generations = record {
    ages = λ n a e. age-same v.heap z a same ∙ h.represents.generations.ages n a e;
    kept = kept;
    remembered = remembered;
    old_children = λ rests. absurd (rests marking);
    aged_children = λ m. aged_children;
  }

  -- colours

  marked_children : HasMarkedChildren s.graph s.heap.place z
  marked_children p n a b e f child guard black = ⊎_elim
      (λ is. marks.marking.closed a b is (child_of p n a b e f child))
      (λ was. marks.marking.kept b (before.children p n a b e f child guard was))
      (black_cases a black)

  -- a marked object has a name that was seen: it was marked before, or children lead to it from one that was
  abbrev pub IsSeen : ℕ → Type 0
  IsSeen a = (n : ℕ) × (get s.heap.place n ≡ Some a) × (is_member nat_eq s.history.seen n ≡ true)

  pub marked_seen : (a : ℕ) → IsMarked z a → IsSeen a
  marked_seen a m = IsReached-least (heap.IsChild v.heap) (λ b. IsMarked v.heap b ⊎ heap.IsNamed v.heap [] b) IsSeen
      (λ b c (n, e, seen) child.
      let r = child_reached v s h unmoved fresh b c n e child in
      (r.0, r.1, (h.sound.marking marking).seen_closed n r.0 seen r.2))
      (λ b start. ⊎_elim
      (λ was. let e = marked_named b was in ((object_of v.heap b).name, e, before.seen (object_of v.heap b).name b e was))
      (λ named. absurd (false≢true named.1))
      start)
      a (marks.marking.sound a m)

  seen : (n a : ℕ) → get s.heap.place n ≡ Some a → IsMarked z a → is_member nat_eq s.history.seen n ≡ true
  seen n a e m =
      let r = marked_seen a m in
      subst (λ q. is_member nat_eq s.history.seen q ≡ true) (h.sound.layout.placed.once r.0 n a r.1 e) r.2

  -- the black objects are those that were and those that were scanned
  black_count : CountIs (IsBlack z) (s.history.scanned + k)
  black_count = record {
    names = before.scanned.names ++ more;
    once = IsDistinct-append before.scanned.names more before.scanned.once marks.marking.once
        (λ a m is. marks.marking.done_new a is ((before.scanned.are a).0 m));
    are = λ a. (
      λ m. ⊎_elim
          (λ was. marks.marking.black_kept a ((before.scanned.are a).0 was))
          (λ is. marks.marking.done_black a is)
          (member_cases before.scanned.names more a m),
      λ black. ⊎_elim
          (λ is. member_right before.scanned.names more a is)
          (λ was. member_left before.scanned.names more a ((before.scanned.are a).1 was))
          (black_cases a black),
    );
    long = (let sum = length-append before.scanned.names more in let long = before.scanned.long in let many = went.2 in omega (arith, sum, long, many));
  }

  pub scans_represented : Represents (with_heap v z) (scans_told s k)
  scans_represented = record {
    heap = heap_same s.graph s.heap s.collector s.counters v.heap z same (λ rests. absurd (rests at)) h.represents.heap;
    generations = generations;
    colours = λ m. record {
      children = marked_children;
      seen = seen;
      began = λ n a e m. marks.marking.kept a (before.began n a e m);
      scanned = black_count;
    };
    roots = resolved_roots-same v.heap z same.moves v.roots ∙ h.represents.roots;
    stack = h.represents.stack;
    ids = ids_led s.heap.place v.heap z same.moves s.tables.ids v.ids h.represents.ids;
    weak = weak_led s.heap.place v.heap z same.moves s.tables.weak v.weak h.represents.weak;
    finals = h.represents.finals;
  }
