-- After a marking and its verdict, of any kind, the heap has what the state has after that verdict.
use Rattle.std.proofs.Common.{◌≡◌, ◌≢◌, ◌+◌, ◌&&◌, not, ℕ, Bool, true, false, true≢false, List, [], ◌∷◌, length, refl, sym, ap, ◌∙◌, nat_eq, cond, Option, None, Some, ⊎_elim, inl}
use Rattle.std.specs.Prelude.{unwrap_or, is_some}
use Rattle.std.specs.List.{flat_map, filter, range_with_len}
use Rattle.std.specs.Ordering.{nat_cmp}
use Rattle.std.specs.Set.{is_member}
use Rattle.std.specs.FinMap.{FinMap, get, empty, get-empty}
use Rattle.std.proofs.lemmas.Bool.{cases_Bool, and_parts, and_from, or_left, eq-eqb, cond-true, cond-false, not-true, false_from_ne_true}
use Rattle.std.proofs.lemmas.List.Elements.{filter_agree}
use Rattle.space_model.specs.declared.event.Kind.{Kind}
use Rattle.space_model.specs.declared.event.Kind.TheVariants.{Minor, Major, Full}
use Rattle.space_model.specs.declared.value.Value.{Value}
use Rattle.space_model.specs.declared.value.Value.TheVariants.{Nil, Small, Name}
use Rattle.space_model.specs.Markings.{counted, took}
use Rattle.space_model.specs.Sweeps.{sweep_phase}
use Rattle.space_model.specs.Graph.{Item, item_of, names_of, children, IsChild}
use Rattle.space_model.specs.Maps.{without, carried_over, address_in, IsRising}
use Rattle.space_model.specs.Moments.{noted, mixed_names, with_names}
use Rattle.space_model.specs.Operands.{value_word}
use Rattle.space_model.specs.Pages.{pool_at as pool_of_page, pool_pages}
use Rattle.space_model.specs.Roots.{Root, root_names}
use Rattle.space_model.specs.Sound.{AreSoundEntries}
use Rattle.space_model.specs.State.{State, History, Counters}
use Rattle.space_model.specs.Verdicts.{IsVerdict}
use Rattle.space_model.proofs.MapLaws.{get-without, get-carried_over, held_without, held_over}
use Rattle.space_model.proofs.MarkingKept.{sweeps_mark_none}
use Rattle.space_model.proofs.Members.{member_left, member_right}
use Rattle.space_heap.specs.declared.colour.Colour.{Colour}
use Rattle.space_heap.specs.declared.colour.Colour.TheVariants.{White, Grey, Black}
use Rattle.space_heap.specs.Slots.{ObjectView}
use Rattle.space_heap.specs.HeapView.{HeapView, Counters as HeapCounters, pool_at}
use Rattle.space_heap.specs.Marking.{colour_of}
use Rattle.space_heap.specs.Objects.{is_occupied, is_object, object_of, resolved}
use Rattle.space_heap.specs.Sweeping.{is_white, is_gone, settled, settled_object, phase_with, minors_after, others_after, pooled_pages, HasNoGone}
use Rattle.space_heap.proofs.FreeLaws.{is_moved-settled}
use Rattle.space_heap.proofs.MarkingLaws.{White-from_is_white}
use Rattle.space_heap.proofs.SettledLaws.{none_gone, is_gone-settled, is_object-settled, is_occupied-settled, stays-settled, resolved-settled, pool_at-settled, count-settled, limit-settled, unswept-settled, phase-settled, cursor-settled, grey-settled, counters-settled}
use Rattle.space_tracing.specs.Graph.{SameGraph}
use Rattle.space_tracing.specs.Marking.{IsMarked}
use Rattle.space_collector.specs.GoneNames.{name_at, gone_names}
use Rattle.space_collector.specs.Quiescent.{HasNoGrey}
use Rattle.space_collector.proofs.GoneLists.{member_gone_names, gone_names_rising}
use Rattle.space_model.specs.StoredWords.{is_stale, stored_word, map_from}
use Rattle.space_weak.specs.WeakEntries.{is_live}
use Rattle.space_engine.specs.Generations.{HasGenerations}
use Rattle.space_engine.specs.Stands.{HasObjects, HasCorpses, HasLeft, HasPages, HasProgress, HasCounted, Represents}
use Rattle.space_engine.specs.Views.{View, with_judged}
use Rattle.space_engine.specs.Words.{word_roots}
use Rattle.space_engine.proofs.Outcomes.{none_some, some_same}
use Rattle.space_engine.proofs.ResolvedRoots.{resolved_roots-same}
use Rattle.space_engine.proofs.TablesJudged.{ids_judged, weak_judged}

-- words of values that stay
module _ (place left : FinMap nat_cmp ℕ) (taken : List ℕ) where
  value_word-without : (value : Value) → ((n : ℕ) → is_member nat_eq (names_of value) n ≡ true → is_member nat_eq taken n ≡ false) →
      value_word (without place taken) value ≡ value_word place value
  value_word-without Nil stay = refl
  value_word-without (Small number) stay = refl
  value_word-without (Name name) stay =
      ap (λ (o : Option ℕ). unwrap_or o 0)
      (get-without place taken name ∙ cond-false (is_member nat_eq taken name) None (get place name) (stay name (or_left _ _ (eq-eqb name name refl))))

  -- those of fields, stale or not
  words-without : (stale : List (ℕ × ℕ)) (name index : ℕ) (values : List Value) →
      ((n : ℕ) → is_member nat_eq (flat_map names_of values) n ≡ true → is_member nat_eq taken n ≡ false) →
      map_from (stored_word (without place taken) left stale name) index values ≡ map_from (stored_word place left stale name) index values
  words-without stale name index [] stay = refl
  words-without stale name index (value ∷ values) stay =
      let first = ap (λ word. cond (is_stale stale name index) (value_word left value) word)
      (value_word-without value (λ n m. stay n (member_left (names_of value) (flat_map names_of values) n m))) in
      let others = words-without stale name (index + 1) values (λ n m. stay n (member_right (names_of value) (flat_map names_of values) n m)) in
      λ i. first i ∷ others i

  roots-without : (roots : List Root) → ((n : ℕ) → is_member nat_eq (root_names roots) n ≡ true → is_member nat_eq taken n ≡ false) →
      word_roots (without place taken) roots ≡ word_roots place roots
  unfolding root_names
  roots-without [] stay = refl
  roots-without (root ∷ roots) stay =
      rw (
        value_word-without root.1 (λ n m. stay n (member_left (names_of root.1) (root_names roots) n m)),
        roots-without roots (λ n m. stay n (member_right (names_of root.1) (root_names roots) n m)),
      ) refl

child_is : (graph : List Item) (parent name : ℕ) → is_member nat_eq (flat_map names_of (item_of graph parent).values) name ≡ true → IsChild graph parent name
unfolding children
child_is graph parent name e = e

-- the same pages wait, and the phase is the same
pool_pages-same : (pages : List (Option ℕ)) (heap : HeapView) → length pages ≡ length heap.pages → ((page : ℕ) → pool_of_page pages page ≡ pool_at heap page) →
    pool_pages pages ≡ pooled_pages heap
unfolding pool_pages
pool_pages-same pages heap count same =
    filter_agree (λ page. is_some (pool_of_page pages page)) (λ page. is_some (pool_at heap page)) (λ page. ap is_some (same page))
    (range_with_len 0 (length pages))
    ∙ ap (λ n. filter (λ page. is_some (pool_at heap page)) (range_with_len 0 n)) count

phase-same : (pages : List ℕ) → phase_with pages ≡ sweep_phase pages
phase-same [] = refl
phase-same (page ∷ pages) = refl

-- the verdict is counted by its kind
minors-same : (kind : Kind) (counters : Counters) (n : ℕ) → n ≡ counters.minor_verdicts → minors_after kind n ≡ (counted kind counters).minor_verdicts
minors-same Minor counters n e = ap (λ n. n + 1) e
minors-same Major counters n e = e
minors-same Full counters n e = e

others-same : (kind : Kind) (counters : Counters) (n : ℕ) → n ≡ counters.other_verdicts → others_after kind n ≡ (counted kind counters).other_verdicts
others-same Minor counters n e = e
others-same Major counters n e = ap (λ n. n + 1) e
others-same Full counters n e = ap (λ n. n + 1) e

-- and no other count changes
same_count : (f : Counters → ℕ) (kind : Kind) (counters : Counters) → f (record counters {
  minor_verdicts = (counted kind counters).minor_verdicts;
  other_verdicts = (counted kind counters).other_verdicts;
}) ≡ f (counted kind counters)
same_count f Minor counters = refl
same_count f Major counters = refl
same_count f Full counters = refl

not_white : (colour : Colour) → is_white colour ≡ false → colour ≢ White
not_white White e f = true≢false e
not_white Grey e f = cc
not_white Black e f = cc

-- of a heap in which no object is gone and none was moved: what the verdict takes, and what it leaves
module _ (v : View) (s : State) (h : Represents v s) (clean : HasNoGone v.heap) (marked : HeapView) (same : SameGraph v.heap marked) (kind : Kind) where
  -- the heap after the verdict
  abbrev pub w : HeapView
  w = settled marked kind

  abbrev pub taken : List ℕ
  taken = gone_names w

  abbrev pub place' : FinMap nat_cmp ℕ
  place' = without s.heap.place taken

  -- whether the object at the address isn't marked
  abbrev pub unmarked_at : ℕ → Bool
  unmarked_at a = is_white (colour_of marked a)

  standing : (a : ℕ) → is_occupied w a ≡ is_object v.heap a
  standing a = is_occupied-settled marked kind a ∙ same.standing a ∙ none_gone v.heap a clean

  pub kept_is : (a : ℕ) → is_object w a ≡ (is_object v.heap a && not (unmarked_at a))
  kept_is a = is_object-settled marked kind a ∙ ap (λ b. b && not (unmarked_at a)) (same.standing a ∙ none_gone v.heap a clean)

  pub gone_is : (a : ℕ) → is_gone w a ≡ (is_object v.heap a && unmarked_at a)
  gone_is a = is_gone-settled marked kind a ∙ ap (λ b. b && unmarked_at a) (same.standing a ∙ none_gone v.heap a clean)

  -- a part of an object that neither marking nor verdict changes
  part_stays : {X : Type 0} (f : ObjectView → X) (a : ℕ) → ((o : ObjectView) → f (settled_object o) ≡ f o) → f (object_of marked a) ≡ f (object_of v.heap a) →
      f (object_of w a) ≡ f (object_of v.heap a)
  part_stays f a settles stays = stays-settled marked kind f a settles ∙ stays

  pub name_stays : (a : ℕ) → name_at w a ≡ (object_of v.heap a).name
  name_stays a = part_stays (λ (o : ObjectView). o.name) a (λ o. refl) (ap (λ (o : ObjectView). o.name) (same.objects a))

  -- a name that is taken is that of an object that isn't marked
  pub taken_there : (name : ℕ) → is_member nat_eq taken name ≡ true → (address : ℕ) × (get s.heap.place name ≡ Some address) × (unmarked_at address ≡ true)
  taken_there name m =
      let at = (member_gone_names w name).0 m in
      let parts = and_parts _ _ (sym (gone_is at.0) ∙ at.1) in
      (at.0, ap (get s.heap.place) (at.2 ∙ name_stays at.0) ∙ h.heap.objects.only at.0 parts.0, parts.1)

  -- so a present name is taken where its object isn't marked
  pub taken_at : (name address : ℕ) → get s.heap.place name ≡ Some address → is_member nat_eq taken name ≡ unmarked_at address
  taken_at name address e = ⊎_elim
      (λ (t : unmarked_at address ≡ true).
      (member_gone_names w name).1 (
        address,
        gone_is address
            ∙ and_from _ _ (h.heap.objects.stands name address e) t,
        sym (name_stays address ∙ (h.heap.objects.is name address e).named),
      ) ∙ sym t)
      (λ (f : unmarked_at address ≡ false). ⊎_elim
      (λ m. let at = taken_there name m in absurd (true≢false (sym at.2 ∙ ap unmarked_at (some_same at.0 address (sym at.1 ∙ e)) ∙ f)))
      (λ g. g ∙ sym f)
      (cases_Bool (is_member nat_eq taken name)))
      (cases_Bool (unmarked_at address))

  -- so it stays where its object is marked
  pub marked_stays : (name address : ℕ) → get s.heap.place name ≡ Some address → IsMarked marked address → is_member nat_eq taken name ≡ false
  marked_stays name address e m = taken_at name address e ∙ false_from_ne_true _ (λ t. m (White-from_is_white (colour_of marked address) t))

  pub stays_marked : (name address : ℕ) → get s.heap.place name ≡ Some address → is_member nat_eq taken name ≡ false → IsMarked marked address
  stays_marked name address e out = not_white (colour_of marked address) (sym (taken_at name address e) ∙ out)

  -- and they are taken in ascending order of place
  pub taken_rising : IsRising s.heap.place taken
  taken_rising = gone_names_rising w (address_in s.heap.place) (λ a e.
      let parts = and_parts _ _ (sym (gone_is a) ∙ e) in
      ap (λ (o : Option ℕ). unwrap_or o 0) (ap (get s.heap.place) (name_stays a) ∙ h.heap.objects.only a parts.0))

  -- words lead where they led
  leads : (word : ℕ) → resolved w word ≡ resolved v.heap word
  leads word = resolved-settled marked kind word ∙ same.moves word

  -- the object of a present name is live where the name isn't taken
  live_left : (name address : ℕ) → get s.heap.place name ≡ Some (resolved v.heap address) → is_live w address ≡ not (is_member nat_eq taken name)
  live_left name address e =
      let at : ℕ = resolved v.heap address in
      ap (is_object w) (leads address)
      ∙ kept_is at
      ∙ ap (λ b. b && not (unmarked_at at)) (h.heap.objects.stands name at e)
      ∙ ap not (sym (taken_at name at e))

  -- a name that is left is one that was present, and isn't taken
  present_left : (n a : ℕ) → get place' n ≡ Some a → is_object w a ≡ true
  present_left n a e =
      let was = held_without s.heap.place taken n a e in
      kept_is a ∙ and_from _ _ (h.heap.objects.stands n a was.0) (ap not (sym (taken_at n a was.0) ∙ was.1))

  module _ (resting : s.heap.left ≡ empty) (none_grey : HasNoGrey marked) (verdict : IsVerdict s kind taken) where
    -- the children of what is left are left
    child_stays : (n a : ℕ) → get place' n ≡ Some a → (m : ℕ) → is_member nat_eq (flat_map names_of (item_of s.graph n).values) m ≡ true →
        is_member nat_eq taken m ≡ false
    child_stays n a e m k =
        let was = held_without s.heap.place taken n a e in
        verdict.closed n m (ap is_some was.0) was.1 (child_is s.graph n m k)

    objects_left : HasObjects s.graph place' s.heap.left s.collector.stale w
    objects_left = record {
      stands = present_left;
      is = λ n a e.
          let was = held_without s.heap.place taken n a e in
          let object = h.heap.objects.is n a was.0 in
          record {
            named = name_stays a ∙ object.named;
            guard = part_stays (λ (o : ObjectView). o.guard) a (λ o. refl) (ap (λ (o : ObjectView). o.guard) (same.objects a)) ∙ object.guard;
            style = part_stays (λ (o : ObjectView). o.style) a (λ o. refl) (ap (λ (o : ObjectView). o.style) (same.objects a)) ∙ object.style;
            fields = part_stays (λ (o : ObjectView). o.fields) a (λ o. refl) (ap (λ (o : ObjectView). o.fields) (same.objects a))
                ∙ object.fields
                ∙ sym (words-without s.heap.place s.heap.left taken s.collector.stale n 0 (item_of s.graph n).values (child_stays n a e));
          };
      only = λ a e.
          let parts = and_parts _ _ (sym (kept_is a) ∙ e) in
          let was = h.heap.objects.only a parts.0 in
          let stays = taken_at (object_of v.heap a).name a was ∙ not-true _ parts.1 in
          ap (get place') (name_stays a)
          ∙ get-without s.heap.place taken (object_of v.heap a).name
          ∙ cond-false (is_member nat_eq taken (object_of v.heap a).name) None (get s.heap.place (object_of v.heap a).name) stays
          ∙ was;
    }

    -- no corpse lay there before
    none_lay : (n a : ℕ) → get s.heap.corpses n ≡ Some a → ⊥
    none_lay n a e = true≢false (sym (h.heap.corpses.lies n a e) ∙ none_gone v.heap a clean ∙ h.heap.corpses.gone n a e)

    -- a corpse is a name that was taken
    corpse_is : (n a : ℕ) → get (carried_over s.heap.place s.heap.corpses taken) n ≡ Some a → (get s.heap.place n ≡ Some a) × (unmarked_at a ≡ true)
    corpse_is n a e = ⊎_elim
        (λ (at, m). (at, sym (taken_at n a at) ∙ m))
        (λ (lay, out). absurd (none_lay n a lay))
        (held_over s.heap.place s.heap.corpses taken n a (λ name m. ap is_some (taken_there name m).1) e)

    corpses_left : HasCorpses (carried_over s.heap.place s.heap.corpses taken) w
    corpses_left = record {
      lies = λ n a e. standing a ∙ h.heap.objects.stands n a (corpse_is n a e).0;
      gone = λ n a e. kept_is a ∙ ap (λ b. is_object v.heap a && not b) (corpse_is n a e).1
          ∙ ap (λ b. b && false) (h.heap.objects.stands n a (corpse_is n a e).0);
      named = λ n a e. name_stays a ∙ (h.heap.objects.is n a (corpse_is n a e).0).named;
      only = λ a e f.
          let is : is_object v.heap a ≡ true = sym (standing a) ∙ e in
          let name : ℕ = (object_of v.heap a).name in
          let at = h.heap.objects.only a is in
          let gone : unmarked_at a ≡ true =
          ⊎_elim (λ t. t) (λ g. absurd (true≢false (sym (kept_is a ∙ and_from _ _ is (ap not g)) ∙ f))) (cases_Bool (unmarked_at a)) in
          ap (get (carried_over s.heap.place s.heap.corpses taken)) (name_stays a)
          ∙ get-carried_over s.heap.place s.heap.corpses taken name
          ∙ cond-true (is_member nat_eq taken name) (Some (address_in s.heap.place name)) (get s.heap.corpses name) (taken_at name a at ∙ gone)
          ∙ ap (λ (o : Option ℕ). Some (unwrap_or o 0)) at;
    }

    nothing_left : (n a : ℕ) → get s.heap.left n ≡ Some a → ⊥
    nothing_left n a e = none_some a (sym (get-empty nat_cmp n) ∙ ap (λ left. get left n) (sym resting) ∙ e)

    left_same : HasLeft place' s.heap.left w
    left_same = record {
      lies = λ n a e. absurd (nothing_left n a e);
      leads = λ n a e. absurd (nothing_left n a e);
      only = λ a e. h.heap.left.only a (sym (is_moved-settled marked kind a ∙ same.away a) ∙ e);
    }

    waiting_same : pool_pages s.heap.pages ≡ w.unswept
    waiting_same = pool_pages-same s.heap.pages marked (h.heap.pages.count ∙ sym same.count) (λ page. h.heap.pages.pools page ∙ sym (same.pools page))
        ∙ sym (unswept-settled marked kind)

    pages_same : HasPages s.heap.pages s.heap.limit (pool_pages s.heap.pages) w
    pages_same = record {
      count = h.heap.pages.count ∙ sym (count-settled marked kind ∙ same.count);
      pools = λ page. h.heap.pages.pools page ∙ sym (pool_at-settled marked kind page ∙ same.pools page);
      limited = h.heap.pages.limited ∙ sym (limit-settled marked kind ∙ same.limit);
      waiting = waiting_same;
    }

    progress_after : HasProgress (sweep_phase (pool_pages s.heap.pages)) s.collector.cursor w
    progress_after = record {
      at = phase-settled marked kind ∙ phase-same (pooled_pages marked) ∙ ap sweep_phase (sym (unswept-settled marked kind) ∙ sym waiting_same);
      until = cursor-settled marked kind ∙ same.cursor ∙ h.heap.progress.until;
      none_grey = λ other. grey-settled marked kind ∙ none_grey.listed;
    }

    -- a counter of the heap after the verdict
    counter : (f : HeapCounters → ℕ) → f w.counters ≡ f (record v.heap.counters {
      minor_verdicts = minors_after kind v.heap.counters.minor_verdicts;
      other_verdicts = others_after kind v.heap.counters.other_verdicts;
    })
    counter f = ap f (counters-settled marked kind) ∙ ap (λ (c : HeapCounters). f (record c {
      minor_verdicts = minors_after kind c.minor_verdicts;
      other_verdicts = others_after kind c.other_verdicts;
    })) same.counters

    counted_after : HasCounted (length s.graph) (counted kind s.counters) w.counters
    counted_after = record {
      allocated = counter (λ (c : HeapCounters). c.born) ∙ h.heap.counted.allocated;
      minor_verdicts = counter (λ (c : HeapCounters). c.minor_verdicts)
          ∙ minors-same kind s.counters v.heap.counters.minor_verdicts h.heap.counted.minor_verdicts;
      other_verdicts = counter (λ (c : HeapCounters). c.other_verdicts)
          ∙ others-same kind s.counters v.heap.counters.other_verdicts h.heap.counted.other_verdicts;
      freed = counter (λ (c : HeapCounters). c.freed) ∙ h.heap.counted.freed ∙ same_count (λ (c : Counters). c.freed) kind s.counters;
      compactions = counter (λ (c : HeapCounters). c.compactions) ∙ h.heap.counted.compactions ∙ same_count (λ (c : Counters). c.compactions) kind s.counters;
      moves = counter (λ (c : HeapCounters). c.moves) ∙ h.heap.counted.moves ∙ same_count (λ (c : Counters). c.moves) kind s.counters;
    }

    -- the roots hold what is left
    root_stays : (n : ℕ) → is_member nat_eq (root_names s.roots) n ≡ true → is_member nat_eq taken n ≡ false
    root_stays n m = ⊎_elim
        (λ t. absurd (verdict.unreached n t (n, [], inl m, refl)))
        (λ f. f)
        (cases_Bool (is_member nat_eq taken n))

    -- what was noted before the verdict: a marking that begins notes it anew, and one that ends goes on with what was noted
    module _ (history : History) where
      -- the state before the verdict
      abbrev pub before : State
      before = record s { history = history }

      -- the names with a child that isn't old, since the start of the marking and after the verdict
      abbrev pub mixed' : List ℕ
      mixed' = with_names (mixed_names (took s kind taken)) history.mixed

      pub settled_represents : AreSoundEntries s.heap.place s.tables.weak → HasGenerations s.graph place' (took s kind taken).collector mixed' w →
          Represents (with_judged v w) (noted (took before kind taken))
      settled_represents sound generations = record {
        heap = record {
          objects = objects_left;
          corpses = corpses_left;
          left = left_same;
          pages = pages_same;
          progress = progress_after;
          counted = counted_after;
        };
        generations = generations;
        colours = λ marking. absurd (sweeps_mark_none (pool_pages s.heap.pages) marking);
        roots = resolved_roots-same v.heap w leads v.roots
            ∙ h.roots
            ∙ sym (roots-without s.heap.place s.heap.left taken s.roots root_stays);
        stack = h.stack;
        ids = ids_judged s.heap.place taken v.heap w leads live_left s.tables.ids v.ids h.ids;
        weak = weak_judged s.heap.place taken v.heap w leads live_left s.tables.weak v.weak sound h.weak;
        finals = h.finals;
      }
