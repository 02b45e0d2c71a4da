-- The heap after the write barrier stopped protecting an object: which object stands there then; and that the heap's half holds after it.
use Rattle.std.proofs.Common.{◌≡◌, ◌≢◌, ◌⊎◌, ◌&&◌, not, ℕ, Bool, true, false, true≢false, List, length, refl, sym, ap, ◌∙◌, subst, if◌then◌else◌, Some, ⊎_elim}
use Rattle.std.specs.FinMap.{get}
use Rattle.std.proofs.lemmas.Bool.{cases_Bool, cases_eq, cond-true, cond-false}
use Rattle.space_model.specs.declared.object.Guard.{Guard}
use Rattle.space_model.specs.declared.object.Guard.TheVariants.{Protected, Unprotected}
use Rattle.space_model.specs.Ages.{is_protected_guard}
use Rattle.space_model.specs.Graph.{Item, item_of, with_item}
use Rattle.space_model.specs.Pieces.{item_unprotected}
use Rattle.space_model.specs.Sound.{Sound}
use Rattle.space_model.specs.State.{State, Collector}
use Rattle.space_model.proofs.NamesKept.{item_of-with_item}
use Rattle.space_model.proofs.SlotLaws.{length-with_item}
use Rattle.space_heap.specs.Slots.{ObjectView}
use Rattle.space_heap.specs.HeapView.{HeapView, pool_at}
use Rattle.space_heap.specs.Objects.{is_occupied, is_object, is_moved, object_of, resolved, with_object}
use Rattle.space_heap.specs.Generations.{is_aged, kept_at, unprotected_at, is_protected_at}
use Rattle.space_heap.proofs.FreeLaws.{is_moved-with_object}
use Rattle.space_heap.proofs.Laws.{SameRest}
use Rattle.space_heap.proofs.ObjectLaws.{occupied_from_object, is_object_is, is_occupied-with_object, object_of-with_object_same, object_of-with_object_other, resolved-with_object, pool_at-with_object, count-with_object, rest-with_object}
use Rattle.space_barrier.specs.Barrier.{unprotected}
use Rattle.space_barrier.proofs.StoreLaws.{unprotected_same, unprotected_kept, unprotected_young}
use Rattle.space_engine.specs.Stands.{IsObjectOf, HasObjects, HasCorpses, HasLeft, HasCounted, HeapRepresents}
use Rattle.space_engine.proofs.Outcomes.{some_same}

-- the object at a is this one, and nothing else changed
pub record OneChanged (v z : HeapView) (a : ℕ) (o : ObjectView) : Type 0 where
  pub standing : (b : ℕ) → is_occupied z b ≡ is_occupied v b
  pub here : object_of z a ≡ o
  pub others : (b : ℕ) → b ≢ a → object_of z b ≡ object_of v b
  pub moved : (b : ℕ) → is_moved z b ≡ is_moved v b
  pub leads : (word : ℕ) → resolved z word ≡ resolved v word
  pub pools : (page : ℕ) → pool_at z page ≡ pool_at v page
  pub count : length z.pages ≡ length v.pages
  pub rest : SameRest v z

none_changed : (v : HeapView) (a : ℕ) → OneChanged v v a (object_of v a)
none_changed v a = record {
  standing = λ b. refl;
  here = refl;
  others = λ b other. refl;
  moved = λ b. refl;
  leads = λ word. refl;
  pools = λ page. refl;
  count = refl;
  rest = record { limit = refl; unswept = refl; grey = refl; phase = refl; cursor = refl; counters = refl };
}

-- once more, at the same address
changed_again : (v u : HeapView) (a : ℕ) (o p : ObjectView) → is_occupied v a ≡ true → OneChanged v u a o → OneChanged v (with_object u a p) a p
changed_again v u a o p there c =
    let r = rest-with_object u a p in
    record {
      standing = λ b. is_occupied-with_object u a p b ∙ c.standing b;
      here = object_of-with_object_same u a p (c.standing a ∙ there);
      others = λ b other. object_of-with_object_other u a p b other ∙ c.others b other;
      moved = λ b. is_moved-with_object u a p b ∙ c.moved b;
      leads = λ word. resolved-with_object u a p word ∙ c.leads word;
      pools = λ page. pool_at-with_object u a p page ∙ c.pools page;
      count = count-with_object u a p ∙ c.count;
      rest = record {
        limit = r.limit ∙ c.rest.limit;
        unswept = r.unswept ∙ c.rest.unswept;
        grey = r.grey ∙ c.rest.grey;
        phase = r.phase ∙ c.rest.phase;
        cursor = r.cursor ∙ c.rest.cursor;
        counters = r.counters ∙ c.rest.counters;
      };
    }

-- a part of the object that is as it was is so everywhere
pub part_stays : {X : Type 0} (f : ObjectView → X) (v z : HeapView) (a : ℕ) (o : ObjectView) → OneChanged v z a o → f o ≡ f (object_of v a) → (b : ℕ) →
    f (object_of z b) ≡ f (object_of v b)
part_stays f v z a o c same b = ⊎_elim
    (λ here. ap (λ b. f (object_of z b)) here ∙ ap f c.here ∙ same ∙ ap (λ b. f (object_of v b)) (sym here))
    (λ other. ap f (c.others b other))
    (cases_eq b a)

pub present_stays : (v z : HeapView) (a : ℕ) (o : ObjectView) → OneChanged v z a o → o.gone ≡ (object_of v a).gone → (b : ℕ) → is_object z b ≡ is_object v b
present_stays v z a o c same b =
    is_object_is z b
    ∙ ap (λ x. x && not (object_of z b).gone) (c.standing b)
    ∙ ap (λ g. is_occupied v b && not g) (part_stays (λ (o : ObjectView). o.gone) v z a o c same b)
    ∙ sym (is_object_is v b)

-- the object after it isn't protected any more: one that wasn't is as it was
abbrev pub young_object : ObjectView → ObjectView
young_object o = record o { guard = Unprotected; age = 0; remembered = false }

abbrev pub kept_object : ObjectView → ObjectView
kept_object o = record o { guard = Unprotected; age = 0; remembered = false; kept = true }

abbrev pub unprotected_object : ObjectView → ObjectView
unprotected_object o = if is_protected_guard o.guard then (if is_aged o then kept_object o else young_object o) else o

module _ (v : HeapView) (a : ℕ) (there : is_occupied v a ≡ true) where
  abbrev before : ObjectView
  before = object_of v a

  young_is : OneChanged v (unprotected_at v a) a (young_object before)
  young_is = changed_again v v a before (young_object before) there (none_changed v a)

  kept_is : OneChanged v (kept_at (unprotected_at v a) a) a (kept_object before)
  kept_is =
      let u : HeapView = unprotected_at v a in
      let same : (let o : ObjectView = object_of u a in record o { kept = true }) ≡ kept_object before =
      ap (λ (o : ObjectView). record o { kept = true }) young_is.here in
      subst (OneChanged v (kept_at u a) a) same (changed_again v u a (young_object before) _ there young_is)

  pub unprotected_is : OneChanged v (unprotected v a) a (unprotected_object before)
  unprotected_is = ⊎_elim
      (λ (protected : is_protected_at v a ≡ true). ⊎_elim
      (λ (aged : is_aged before ≡ true).
      let o : unprotected_object before ≡ kept_object before =
      cond-true (is_protected_at v a) _ before protected ∙ cond-true (is_aged before) (kept_object before) (young_object before) aged in
      subst (λ z. OneChanged v z a (unprotected_object before)) (sym (unprotected_kept v a protected aged))
      (subst (OneChanged v (kept_at (unprotected_at v a) a) a) (sym o) kept_is))
      (λ (young : is_aged before ≡ false).
      let o : unprotected_object before ≡ young_object before =
      cond-true (is_protected_at v a) _ before protected ∙ cond-false (is_aged before) (kept_object before) (young_object before) young in
      subst (λ z. OneChanged v z a (unprotected_object before)) (sym (unprotected_young v a protected young))
      (subst (OneChanged v (unprotected_at v a) a) (sym o) young_is))
      (cases_Bool (is_aged before)))
      (λ (free : is_protected_at v a ≡ false).
      let o : unprotected_object before ≡ before = cond-false (is_protected_at v a) _ before free in
      subst (λ z. OneChanged v z a (unprotected_object before)) (sym (unprotected_same v a free))
      (subst (OneChanged v v a) (sym o) (none_changed v a)))
      (cases_Bool (is_protected_at v a))

-- what isn't guard, age or mark is as it was
pub unprotected_keeps : {X : Type 0} (f : ObjectView → X) (o : ObjectView) → f (kept_object o) ≡ f o → f (young_object o) ≡ f o →
    f (unprotected_object o) ≡ f o
unprotected_keeps f o kept young = by_test (is_protected_guard o.guard) (is_aged o)
  where
    by_test : (protected aged : Bool) → f (if protected then (if aged then kept_object o else young_object o) else o) ≡ f o
    by_test true true = kept
    by_test true false = young
    by_test false aged = refl

not_protected : (g : Guard) → is_protected_guard g ≡ false → g ≡ Unprotected
not_protected Protected e = absurd (true≢false e)
not_protected Unprotected e = refl

pub unprotected_guard : (o : ObjectView) → (unprotected_object o).guard ≡ Unprotected
unprotected_guard o = by_test (is_protected_guard o.guard) (is_aged o) refl
  where
    by_test : (protected aged : Bool) → is_protected_guard o.guard ≡ protected →
        (if protected then (if aged then kept_object o else young_object o) else o).guard ≡ Unprotected
    by_test true true e = refl
    by_test true false e = refl
    by_test false aged e = not_protected o.guard e

-- the heap's half, after a name isn't protected any more
module _ (s : State) (heap : HeapView) (h : HeapRepresents s.graph s.heap s.collector s.counters heap) (sound : Sound s) (name address : ℕ)
    (at : get s.heap.place name ≡ Some address) where
  abbrev graph' : List Item
  graph' = with_item s.graph name (item_unprotected (item_of s.graph name))

  abbrev z : HeapView
  z = unprotected heap address

  abbrev object : ObjectView
  object = unprotected_object (object_of heap address)

  changed : OneChanged heap z address object
  changed = unprotected_is heap address (occupied_from_object heap address (h.objects.stands name address at))

  stays : {X : Type 0} (f : ObjectView → X) → f (kept_object (object_of heap address)) ≡ f (object_of heap address) →
      f (young_object (object_of heap address)) ≡ f (object_of heap address) → (b : ℕ) → f (object_of z b) ≡ f (object_of heap b)
  stays f kept young = part_stays f heap z address object changed (unprotected_keeps f (object_of heap address) kept young)

  name_stays : (b : ℕ) → (object_of z b).name ≡ (object_of heap b).name
  name_stays = stays (λ (o : ObjectView). o.name) refl refl

  present_same : (b : ℕ) → is_object z b ≡ is_object heap b
  present_same = present_stays heap z address object changed (unprotected_keeps (λ (o : ObjectView). o.gone) (object_of heap address) refl refl)

  pub item_cases : (n a : ℕ) → get s.heap.place n ≡ Some a →
      ((n ≡ name) × (item_of graph' n ≡ item_unprotected (item_of s.graph name))) ⊎ ((n ≢ name) × (item_of graph' n ≡ item_of s.graph n))
  item_cases n a e =
      let b = sound.layout.placed.allocated name address at in
      item_of-with_item s.graph name (item_unprotected (item_of s.graph name)) n b.0 b.1 (sound.layout.placed.allocated n a e).0

  object_here : IsObjectOf s.heap.place s.heap.left s.collector.stale name (item_unprotected (item_of s.graph name)) (object_of z address)
  object_here =
      let was = h.objects.is name address at in
      record {
        named = name_stays address ∙ was.named;
        guard = ap (λ (o : ObjectView). o.guard) changed.here ∙ unprotected_guard (object_of heap address);
        style = stays (λ (o : ObjectView). o.style) refl refl address ∙ was.style;
        fields = stays (λ (o : ObjectView). o.fields) refl refl address ∙ was.fields;
      }

  objects_unprotected : HasObjects graph' s.heap.place s.heap.left s.collector.stale z
  objects_unprotected = record {
    stands = λ n b e. present_same b ∙ h.objects.stands n b e;
    is = λ n b e. ⊎_elim
        (λ (same, item).
        let here : b ≡ address = some_same b address (sym e ∙ ap (get s.heap.place) same ∙ at) in
        subst (λ (item : Item). IsObjectOf s.heap.place s.heap.left s.collector.stale n item (object_of z b)) (sym item)
        (subst (λ n. IsObjectOf s.heap.place s.heap.left s.collector.stale n (item_unprotected (item_of s.graph name)) (object_of z b)) (sym same)
        (subst (λ b. IsObjectOf s.heap.place s.heap.left s.collector.stale name (item_unprotected (item_of s.graph name)) (object_of z b)) (sym here)
        object_here)))
        (λ (other, item).
        let away : b ≢ address = λ same. other (sound.layout.placed.once n name address (e ∙ ap Some same) at) in
        subst (λ (item : Item). IsObjectOf s.heap.place s.heap.left s.collector.stale n item (object_of z b)) (sym item)
        (subst (IsObjectOf s.heap.place s.heap.left s.collector.stale n (item_of s.graph n)) (sym (changed.others b away)) (h.objects.is n b e)))
        (item_cases n b e);
    only = λ b e. ap (get s.heap.place) (name_stays b) ∙ h.objects.only b (sym (present_same b) ∙ e);
  }

  corpses_unprotected : HasCorpses s.heap.corpses z
  corpses_unprotected = record {
    lies = λ n b e. changed.standing b ∙ h.corpses.lies n b e;
    gone = λ n b e. present_same b ∙ h.corpses.gone n b e;
    named = λ n b e. name_stays b ∙ h.corpses.named n b e;
    only = λ b e f. ap (get s.heap.corpses) (name_stays b) ∙ h.corpses.only b (sym (changed.standing b) ∙ e) (sym (present_same b) ∙ f);
  }

  left_unprotected : HasLeft s.heap.place s.heap.left z
  left_unprotected = record {
    lies = λ n b e. changed.moved b ∙ h.left.lies n b e;
    leads = λ n b e. h.left.leads n b e ∙ ap Some (sym (changed.leads b));
    only = λ b e. h.left.only b (sym (changed.moved b) ∙ e);
  }

  pub heap_unprotected : (kept : List ℕ) → HeapRepresents graph' s.heap (let c : Collector = s.collector in record c { kept = kept }) s.counters z
  heap_unprotected kept = record {
    objects = objects_unprotected;
    corpses = corpses_unprotected;
    left = left_unprotected;
    pages = record {
      count = h.pages.count ∙ sym changed.count;
      pools = λ page. h.pages.pools page ∙ sym (changed.pools page);
      limited = h.pages.limited ∙ sym changed.rest.limit;
      waiting = h.pages.waiting ∙ sym changed.rest.unswept;
    };
    progress = record {
      at = changed.rest.phase ∙ h.progress.at;
      until = changed.rest.cursor ∙ h.progress.until;
      none_grey = λ phase. changed.rest.grey ∙ h.progress.none_grey phase;
    };
    counted = subst (λ n. HasCounted n s.counters z.counters) (sym (length-with_item s.graph name (item_unprotected (item_of s.graph name))))
        (subst (HasCounted (length s.graph) s.counters) (sym changed.rest.counters) h.counted);
  }
