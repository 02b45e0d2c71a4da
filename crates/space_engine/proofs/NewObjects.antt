-- What a view has after an object was allocated and a root holds it, in every phase.
use Rattle.std.proofs.Common.{◌≡◌, ◌≢◌, ℕ, ◌+◌, cond, List, [], ◌∷◌, ◌++◌, length, length-append, true, true≢false, refl, ap, ◌∙◌, sym, subst, arith, nat_eq, Option, None, Some, ⊎_elim}
use Rattle.std.specs.Option.{unwrap_or}
use Rattle.std.specs.Set.{is_member}
use Rattle.std.specs.Ordering.{nat_cmp}
use Rattle.std.specs.FinMap.{FinMap, get, insert}
use Rattle.std.proofs.lemmas.Bool.{cases_eq, cond-true, cond-false}
use Rattle.std.proofs.lemmas.Bool.Decides.{nat_tests}
use Rattle.space_model.specs.declared.object.Guard.{Guard}
use Rattle.space_model.specs.declared.object.Style.{Style}
use Rattle.space_model.specs.declared.value.Value.TheVariants.{Name}
use Rattle.space_model.specs.Graph.{Item, item_of}
use Rattle.space_model.specs.Layout.{page_of, pool_for}
use Rattle.space_model.specs.Moments.{mixed_names, with_names, noted}
use Rattle.space_model.specs.Operands.{value_word}
use Rattle.space_model.specs.Pages.{with_pool}
use Rattle.space_model.specs.Pieces.{born, new_item}
use Rattle.space_model.specs.Reached.{reached_names}
use Rattle.space_model.specs.Roots.{root_names, with_root}
use Rattle.space_model.specs.State.{State, Heap, Collector}
use Rattle.space_model.proofs.MapLaws.{get-insert_name, some_get}
use Rattle.space_model.proofs.SlotLaws.{item_of-push, item_of-new}
use Rattle.space_model.proofs.StoredWordLaws.{map_from_same}
use Rattle.space_model.proofs.ValuesKept.{placed_present, present_kept}
use Rattle.space_roots.specs.WordRoots.{with_root_word}
use Rattle.space_heap.specs.Slots.{ObjectView, new_object}
use Rattle.space_heap.specs.HeapView.{Counters, HeapView}
use Rattle.space_heap.specs.Objects.{is_occupied, is_object, object_of, is_moved, resolved, placed}
use Rattle.space_heap.specs.FreeSlots.{IsFreeAt}
use Rattle.space_heap.proofs.FreeLaws.{is_moved-placed}
use Rattle.space_heap.proofs.ObjectLaws.{occupied_from_object, none_occupied_free, is_occupied-placed_other, unswept-placed, grey-placed, cursor-placed, counters-placed, is_object-placed_same, is_object-placed_other, object_of-placed_same, object_of-placed_other, resolved-placed, pool_at-placed, count-placed, limit-placed, phase-placed}
use Rattle.space_heap.proofs.TakenLaws.{resolved_object}
use Rattle.space_engine.specs.Colours.{HasColours}
use Rattle.space_engine.specs.Generations.{HasGenerations}
use Rattle.space_engine.specs.Stands.{IsObjectOf, HasObjects, HasCorpses, HasLeft, HasPages, HasProgress, HasCounted, HeapRepresents, Represents, Holds}
use Rattle.space_model.specs.StoredWords.{is_stale, stored_word, stored_words}
use Rattle.space_engine.specs.Views.{View, with_heap, with_root_written}
use Rattle.space_engine.specs.Words.{word_roots, resolved_roots}
use Rattle.space_engine.proofs.ColoursBorn.{free_white, colours_born}
use Rattle.space_engine.proofs.GenerationsBorn.{generations_born}
use Rattle.space_engine.proofs.GenerationsByName.{noted_more}
use Rattle.space_engine.proofs.Outcomes.{some_same}
use Rattle.space_engine.proofs.ResolvedRoots.{resolved_roots-same, with_root_word-resolved}
use Rattle.space_engine.proofs.TablesKept.{ids_over, weak_over}
use Rattle.space_engine.proofs.RootWords.{with_root_word-word_roots, word_roots-insert, value_word-insert}
use Rattle.space_engine.proofs.StoredWords.{stored_words-nil}

-- a heap in which an object may be allocated: it has what that of the view has, but that its pages have these pools
pub record IsPrepared (v : View) (s : State) (pages : List (Option ℕ)) (heap : HeapView) : Type 0 where
  pub has : HasPages pages s.heap.limit s.heap.unswept heap
  pub standing : (b : ℕ) → is_occupied heap b ≡ is_occupied v.heap b
  pub same : (b : ℕ) → is_object heap b ≡ is_object v.heap b
  pub objects : (b : ℕ) → object_of heap b ≡ object_of v.heap b
  pub moved : (b : ℕ) → is_moved heap b ≡ is_moved v.heap b
  pub leads : (word : ℕ) → resolved heap word ≡ resolved v.heap word
  pub progress : HasProgress s.collector.phase s.collector.cursor heap
  pub counters : heap.counters ≡ v.heap.counters

module _ (v : View) (s : State) (h : Holds v s) (root : List ℕ) (fields : ℕ) (guard : Guard) (style : Style) (a : ℕ) (pages : List (Option ℕ))
    (heap : HeapView) (prepared : IsPrepared v s pages heap) (free : IsFreeAt heap (pool_for fields) a) where
  abbrev had : HeapRepresents s.graph s.heap s.collector s.counters v.heap
  had = h.represents.heap

  abbrev next : ℕ
  next = length s.graph + 1

  abbrev place' : FinMap nat_cmp ℕ
  place' = insert s.heap.place next a

  abbrev graph' : List Item
  graph' = s.graph ++ new_item guard style fields ∷ []

  abbrev object : ObjectView
  object = new_object next fields guard style

  abbrev w : HeapView
  w = placed heap a object

  abbrev Is : ℕ → Item → ObjectView → Type 0
  Is = IsObjectOf place' s.heap.left s.collector.stale

  get_new : get place' next ≡ Some a
  get_new = get-insert_name s.heap.place next a next ∙ cond-true (nat_eq next next) (Some a) (get s.heap.place next) (grind (arith, nat_tests))

  get_old : (n : ℕ) → n ≢ next → get place' n ≡ get s.heap.place n
  get_old n other = get-insert_name s.heap.place next a n ∙ cond-false (nat_eq n next) (Some a) (get s.heap.place n) (grind (arith, nat_tests))

  not_next : (n b : ℕ) → get s.heap.place n ≡ Some b → n ≢ next
  not_next n b e same = let most = (h.sound.layout.placed.allocated n b e).1 in omega arith

  left_not_next : (n b : ℕ) → get s.heap.left n ≡ Some b → n ≢ next
  left_not_next n b e same = let most = (h.sound.left.slots.allocated n b e).1 in omega arith

  -- nothing stood at the address
  nothing : (b : ℕ) → is_occupied v.heap b ≡ true → b ≢ a
  nothing b e same = true≢false (sym e ∙ ap (is_occupied v.heap) same ∙ sym (prepared.standing a) ∙ none_occupied_free heap (pool_for fields) a free)

  no_place : (n b : ℕ) → get s.heap.place n ≡ Some b → b ≢ a
  no_place n b e = nothing b (occupied_from_object v.heap b (had.objects.stands n b e))

  -- the stored words of the fields of what was present stay
  words_stay : (n b : ℕ) → get s.heap.place n ≡ Some b →
      stored_words s.heap.place s.heap.left s.collector.stale n (item_of s.graph n).values ≡ stored_words place' s.heap.left s.collector.stale n
      (item_of s.graph n).values
  words_stay n b e =
      map_from_same (stored_word s.heap.place s.heap.left s.collector.stale n) (stored_word place' s.heap.left s.collector.stale n) 0 (item_of s.graph n).values
      (λ i value holds. ap (cond (is_stale s.collector.stale n (0 + i)) (value_word s.heap.left value))
      (sym (value_word-insert s.heap.place next a value (λ c m.
      let present = (present_kept s h.sound).field n i value (placed_present s.heap.place n b e) holds c m in
      let at = some_get (get s.heap.place c) present in
      not_next c at.0 at.1))))

  object_new : Is next (item_of graph' next) (object_of w a)
  object_new =
      subst (Is next (item_of graph' next)) (sym (object_of-placed_same heap (pool_for fields) a object free))
      (subst (λ item. Is next item object) (sym (item_of-new s.graph (new_item guard style fields)))
      (record { named = refl; guard = refl; style = refl; fields = stored_words-nil place' s.heap.left s.collector.stale next fields }))

  object_old : (n b : ℕ) → get s.heap.place n ≡ Some b → Is n (item_of graph' n) (object_of w b)
  object_old n b e =
      let born = h.sound.layout.placed.allocated n b e in
      let was = had.objects.is n b e in
      subst (Is n (item_of graph' n)) (sym (object_of-placed_other heap a object b (no_place n b e) ∙ prepared.objects b))
      (subst (λ item. Is n item (object_of v.heap b)) (sym (item_of-push s.graph (new_item guard style fields) n born.0 born.1))
      (record { named = was.named; guard = was.guard; style = was.style; fields = was.fields ∙ words_stay n b e }))

  objects_placed : HasObjects graph' place' s.heap.left s.collector.stale w
  objects_placed = record {
    stands = λ n b e. ⊎_elim
        (λ same. let at : a ≡ b = some_same a b (sym get_new ∙ ap (get place') (sym same) ∙ e) in
        subst (λ b. is_object w b ≡ true) at (is_object-placed_same heap (pool_for fields) a object free))
        (λ other.
        let old : get s.heap.place n ≡ Some b = sym (get_old n other) ∙ e in
        is_object-placed_other heap a object b (no_place n b old) ∙ prepared.same b ∙ had.objects.stands n b old)
        (cases_eq n next);
    is = λ n b e. ⊎_elim
        (λ same.
        let at : a ≡ b = some_same a b (sym get_new ∙ ap (get place') (sym same) ∙ e) in
        subst (λ n. Is n (item_of graph' n) (object_of w b)) (sym same) (subst (λ b. Is next (item_of graph' next) (object_of w b)) at object_new))
        (λ other. object_old n b (sym (get_old n other) ∙ e))
        (cases_eq n next);
    only = λ b e. ⊎_elim
        (λ same. ap (λ b. get place' (object_of w b).name) same
        ∙ ap (λ (o : ObjectView). get place' o.name) (object_of-placed_same heap (pool_for fields) a object free) ∙ get_new ∙ ap Some (sym same))
        (λ other.
        let old = had.objects.only b (sym (prepared.same b) ∙ sym (is_object-placed_other heap a object b other) ∙ e) in
        ap (λ (o : ObjectView). get place' o.name) (object_of-placed_other heap a object b other ∙ prepared.objects b)
        ∙ get_old (object_of v.heap b).name (not_next (object_of v.heap b).name b old) ∙ old)
        (cases_eq b a);
  }

  no_corpse : (n b : ℕ) → get s.heap.corpses n ≡ Some b → b ≢ a
  no_corpse n b e = nothing b (had.corpses.lies n b e)

  corpses_placed : HasCorpses s.heap.corpses w
  corpses_placed = record {
    lies = λ n b e. is_occupied-placed_other heap a object b (no_corpse n b e) ∙ prepared.standing b ∙ had.corpses.lies n b e;
    gone = λ n b e. is_object-placed_other heap a object b (no_corpse n b e) ∙ prepared.same b ∙ had.corpses.gone n b e;
    named = λ n b e. ap (λ (o : ObjectView). o.name) (object_of-placed_other heap a object b (no_corpse n b e) ∙ prepared.objects b) ∙ had.corpses.named n b e;
    only = λ b e f. ⊎_elim
        (λ same. absurd (true≢false (sym (is_object-placed_same heap (pool_for fields) a object free) ∙ ap (is_object w) (sym same) ∙ f)))
        (λ other.
        ap (λ (o : ObjectView). get s.heap.corpses o.name) (object_of-placed_other heap a object b other ∙ prepared.objects b)
        ∙ had.corpses.only b (sym (prepared.standing b) ∙ sym (is_occupied-placed_other heap a object b other) ∙ e)
        (sym (prepared.same b) ∙ sym (is_object-placed_other heap a object b other) ∙ f))
        (cases_eq b a);
  }

  leads_same : (word : ℕ) → resolved w word ≡ resolved v.heap word
  leads_same word = resolved-placed heap (pool_for fields) a object word free ∙ prepared.leads word

  left_placed : HasLeft place' s.heap.left w
  left_placed = record {
    lies = λ n b e. is_moved-placed heap (pool_for fields) a object b free ∙ prepared.moved b ∙ had.left.lies n b e;
    leads = λ n b e. get_old n (left_not_next n b e) ∙ had.left.leads n b e ∙ ap Some (sym (leads_same b));
    only = λ b e. had.left.only b (sym (prepared.moved b) ∙ sym (is_moved-placed heap (pool_for fields) a object b free) ∙ e);
  }

  -- no root holds the next name
  no_root_holds : (n : ℕ) → is_member nat_eq (root_names s.roots) n ≡ true → n ≡ next → ⊥
  no_root_holds n m = let at = some_get (get s.heap.place n) (h.sound.names.roots_present n m) in not_next n at.0 at.1

  -- what led to a name leads to it, and a name with an id that isn't present isn't the new one
  stays_placed : (n address : ℕ) → get s.heap.place n ≡ Some (resolved v.heap address) → get place' n ≡ Some (resolved w address)
  stays_placed n address e = get_old n (not_next n (resolved v.heap address) e) ∙ e ∙ ap Some (sym (leads_same address))

  absent_placed : (n : ℕ) → is_member nat_eq s.tables.ids n ≡ true → get s.heap.place n ≡ None → get place' n ≡ None
  absent_placed n m none = get_old n (λ same. let most = (h.sound.ids.allocated n m).1 in omega arith) ∙ none

  roots_placed : resolved_roots w (with_root_word v.roots root a) ≡ word_roots place' (with_root s.roots root (Name next))
  roots_placed =
      let word : resolved w a ≡ value_word place' (Name next) =
      resolved_object w a (is_object-placed_same heap (pool_for fields) a object free) ∙ ap (λ (o : Option ℕ). unwrap_or o 0) (sym get_new) in
      sym (with_root_word-resolved w v.roots root a)
      ∙ ap (with_root_word (resolved_roots w v.roots) root) word
      ∙ ap (λ (words : List (List ℕ × ℕ)). with_root_word words root (value_word place' (Name next)))
      (resolved_roots-same v.heap w leads_same v.roots ∙ h.represents.roots ∙ sym (word_roots-insert s.heap.place next a s.roots no_root_holds))
      ∙ with_root_word-word_roots place' s.roots root (Name next)

  heap_placed : HeapRepresents graph' (let own : Heap = s.heap in record own {
    place = place';
    pages = pages;
  }) (let c : Collector = s.collector in record c { outlived = c.outlived ++ 0 ∷ [] }) s.counters w
  heap_placed = record {
    objects = objects_placed;
    corpses = corpses_placed;
    left = left_placed;
    pages = record {
      count = prepared.has.count ∙ sym (count-placed heap a object);
      pools = λ page. prepared.has.pools page ∙ sym (pool_at-placed heap a object page);
      limited = prepared.has.limited ∙ sym (limit-placed heap a object);
      waiting = prepared.has.waiting ∙ sym (unswept-placed heap a object);
    };
    progress = record {
      at = phase-placed heap a object ∙ prepared.progress.at;
      until = cursor-placed heap a object ∙ prepared.progress.until;
      none_grey = λ phase. grey-placed heap a object ∙ prepared.progress.none_grey phase;
    };
    counted = subst (HasCounted (length graph') s.counters)
        (sym (counters-placed heap a object ∙ ap (λ (c : Counters). record c { born = c.born + 1 }) prepared.counters)) (record {
          allocated = ap (λ n. n + 1) had.counted.allocated ∙ sym (length-append s.graph (new_item guard style fields ∷ []));
          minor_verdicts = had.counted.minor_verdicts;
          other_verdicts = had.counted.other_verdicts;
          freed = had.counted.freed;
          compactions = had.counted.compactions;
          moves = had.counted.moves;
        });
  }

  abbrev mixed' : List ℕ
  mixed' = with_names (mixed_names (born s root fields guard style a)) s.history.mixed

  generations_placed : HasGenerations graph' place' (let c : Collector = s.collector in record c { outlived = c.outlived ++ 0 ∷ [] }) mixed' w
  generations_placed =
      generations_born s.graph s.heap.place place' s.collector s.history.mixed mixed' v.heap w h.represents.generations fields guard style a
      h.sound.outlived h.sound.layout.placed.allocated (λ n m. (h.sound.kept n m).0) h.sound.names.children_present
      (noted_more (mixed_names (born s root fields guard style a)) s.history.mixed) get_new get_old
      (object_of-placed_same heap (pool_for fields) a object free)
      (λ n b e. object_of-placed_other heap a object b (no_place n b e) ∙ prepared.objects b)

  colours_placed : HasColours graph' place' (noted (born s root fields guard style a)).history s.collector.phase w
  colours_placed phase =
      let marking = h.sound.marking phase in
      let t : State = born s root fields guard style a in
      colours_born s.graph (new_item guard style fields) s.heap.place place' s.history (with_names (reached_names t) s.history.seen) mixed' v.heap w
      (h.represents.colours phase) a h.sound.layout.placed.allocated (λ n m. marking.seen_present n (marking.began_seen n m))
      h.sound.names.children_present (noted_more (reached_names t) s.history.seen) get_new get_old
      (sym (ap (λ (o : ObjectView). o.colour) (prepared.objects a)) ∙ free_white heap (pool_for fields) a free)
      (ap (λ (o : ObjectView). o.colour) (object_of-placed_same heap (pool_for fields) a object free))
      (λ b other. object_of-placed_other heap a object b other ∙ prepared.objects b)

  -- an object was allocated, and the root holds it
  pub after_allocation : pages ≡ with_pool s.heap.pages (page_of a) (pool_for fields) →
      Represents (with_root_written (with_heap v w) root a) (noted (born s root fields guard style a))
  after_allocation e = record {
    heap = subst (λ pages. HeapRepresents graph' (let own : Heap = s.heap in record own {
      place = place';
      pages = pages;
    }) (let c : Collector = s.collector in record c { outlived = c.outlived ++ 0 ∷ [] }) s.counters w) e heap_placed;
    generations = generations_placed;
    colours = colours_placed;
    roots = roots_placed;
    stack = h.represents.stack;
    ids = ids_over s.heap.place place' v.heap w stays_placed s.tables.ids v.ids absent_placed h.represents.ids;
    weak = weak_over s.heap.place place' v.heap w stays_placed s.tables.weak v.weak h.represents.weak;
    finals = h.represents.finals;
  }
