-- Pins of objects and pinned names: what the space stands for stays where nothing changes but pins, and the pins that a command makes are those of
-- the names that its state has pinned.
use Rattle.std.proofs.Common.{◌≡◌, ◌⊎◌, ℕ, true, length, nat_eq, refl, sym, ap, ◌∙◌, subst, ⊎_elim, inl, inr, Some}
use Rattle.std.specs.Prelude.{is_some}
use Rattle.std.specs.Set.{is_member}
use Rattle.std.specs.FinMap.{get}
use Rattle.std.proofs.lemmas.Bool.{false≢true}
use Rattle.space_model.specs.declared.object.Style.{Style}
use Rattle.space_model.specs.declared.object.Style.TheVariants.{Movable, Keeping}
use Rattle.space_model.specs.declared.phase.Phase.TheVariants.{Marking, Moving}
use Rattle.space_model.specs.Compaction.{IsPinned}
use Rattle.space_model.specs.State.{State}
use Rattle.space_model.proofs.MapLaws.{some_get}
use Rattle.space_heap.specs.Generations.{is_old, is_aged}
use Rattle.space_heap.specs.HeapView.{HeapView}
use Rattle.space_heap.specs.Objects.{object_of}
use Rattle.space_heap.specs.Slots.{ObjectView}
use Rattle.space_compact.specs.Pins.{is_keeping, SameButPins, PinsNow}
use Rattle.space_compact.specs.Pins as heap
use Rattle.space_engine.specs.Generations.{HasGenerations}
use Rattle.space_engine.specs.Stands.{Holds, Represents, HeapRepresents, HasCounted}
use Rattle.space_engine.specs.Views.{View, with_heap}
use Rattle.space_engine.proofs.ChildWords.{child_from_word, word_from_child}
use Rattle.space_engine.proofs.Outcomes.{some_same}
use Rattle.space_engine.proofs.ResolvedRoots.{resolved_roots-same}
use Rattle.space_engine.proofs.TablesKept.{ids_led, weak_led}

-- nothing but pins changed
module _ (v : View) (s : State) (h : Holds v s) (moving : s.collector.phase ≡ Moving) (pinned : HeapView) (same : SameButPins v.heap pinned) where
  abbrev had : HeapRepresents s.graph s.heap s.collector s.counters v.heap
  had = h.represents.heap

  heap_repinned : HeapRepresents s.graph s.heap s.collector s.counters pinned
  heap_repinned = record {
    objects = record {
      stands = λ n a e. same.present a ∙ had.objects.stands n a e;
      is = λ n a e.
          let was = had.objects.is n a e in
          record {
            named = ap (λ (o : ObjectView). o.name) (same.objects a) ∙ was.named;
            guard = ap (λ (o : ObjectView). o.guard) (same.objects a) ∙ was.guard;
            style = ap (λ (o : ObjectView). o.style) (same.objects a) ∙ was.style;
            fields = ap (λ (o : ObjectView). o.fields) (same.objects a) ∙ was.fields;
          };
      only = λ a e. ap (λ (o : ObjectView). get s.heap.place o.name) (same.objects a) ∙ had.objects.only a (sym (same.present a) ∙ e);
    };
    corpses = record {
      lies = λ n a e. same.standing a ∙ had.corpses.lies n a e;
      gone = λ n a e. same.present a ∙ had.corpses.gone n a e;
      named = λ n a e. ap (λ (o : ObjectView). o.name) (same.objects a) ∙ had.corpses.named n a e;
      only = λ a e f. ap (λ (o : ObjectView). get s.heap.corpses o.name) (same.objects a)
          ∙ had.corpses.only a (sym (same.standing a) ∙ e) (sym (same.present a) ∙ f);
    };
    left = record {
      lies = λ n a e. same.away a ∙ had.left.lies n a e;
      leads = λ n a e. had.left.leads n a e ∙ ap Some (sym (same.moves a));
      only = λ a e. had.left.only a (sym (same.away a) ∙ e);
    };
    pages = record {
      count = had.pages.count ∙ sym same.count;
      pools = λ page. had.pages.pools page ∙ sym (same.pools page);
      limited = had.pages.limited ∙ sym same.limit;
      waiting = had.pages.waiting ∙ sym same.unswept;
    };
    progress = record {
      at = same.phase_is ∙ had.progress.at;
      until = same.cursor_is ∙ had.progress.until;
      none_grey = λ e. same.grey ∙ had.progress.none_grey e;
    };
    counted = subst (HasCounted (length s.graph) s.counters) (sym same.counters_are) had.counted;
  }

  kept_same : (a : ℕ) → (object_of pinned a).kept ≡ (object_of v.heap a).kept
  kept_same a = ap (λ (o : ObjectView). o.kept) (same.objects a)

  remembered_same : (a : ℕ) → (object_of pinned a).remembered ≡ (object_of v.heap a).remembered
  remembered_same a = ap (λ (o : ObjectView). o.remembered) (same.objects a)

  generations_repinned : HasGenerations s.graph s.heap.place s.collector s.history.mixed pinned
  generations_repinned =
      let g = h.represents.generations in
      record {
        ages = λ n a e. ap (λ (o : ObjectView). o.age) (same.objects a) ∙ g.ages n a e;
        kept = record {
          certain = λ n a e m. kept_same a ∙ g.kept.certain n a e m;
          only = λ vague n a e k. g.kept.only vague n a e (sym (kept_same a) ∙ k);
          unprotected = λ n a e k. g.kept.unprotected n a e (sym (kept_same a) ∙ k);
          outlived = λ phase n a e k. g.kept.outlived phase n a e (sym (kept_same a) ∙ k);
        };
        remembered = record {
          aged = λ n a e r. ap is_aged (same.objects a) ∙ g.remembered.aged n a e (sym (remembered_same a) ∙ r);
          mixed_since = λ n a e r. g.remembered.mixed_since n a e (sym (remembered_same a) ∙ r);
        };
        old_children = λ phase parent child a c e f is old not_remembered. ⊎_elim
            (λ o. inl (ap is_old (same.objects c) ∙ o))
            (λ k. inr (kept_same c ∙ k))
            (g.old_children phase parent child a c e f is (sym (ap is_old (same.objects a)) ∙ old) (sym (remembered_same a) ∙ not_remembered));
        aged_children = λ marking. let clash : Moving ≡ Marking = sym moving ∙ marking in absurd (cc);
      }

  pub represents_repinned : Represents (with_heap v pinned) s
  represents_repinned = record {
    heap = heap_repinned;
    generations = generations_repinned;
    colours = λ marking. let clash : Moving ≡ Marking = sym moving ∙ marking in absurd (cc);
    roots = resolved_roots-same v.heap pinned same.moves v.roots ∙ h.represents.roots;
    stack = h.represents.stack;
    ids = ids_led s.heap.place v.heap pinned same.moves s.tables.ids v.ids h.represents.ids;
    weak = weak_led s.heap.place v.heap pinned same.moves s.tables.weak v.weak h.represents.weak;
    finals = h.represents.finals;
  }

  pub holds_repinned : Holds (with_heap v pinned) s
  holds_repinned = record { represents = represents_repinned; sound = h.sound }

-- the pins of a heap are those of the state: the name of a pinned object is pinned, and the object of a pinned name is, or the name moved since the
-- pins were made
pub record ArePins (w : HeapView) (s : State) : Type 0 where
  pub pinned_is : (name address : ℕ) → get s.heap.place name ≡ Some address → (object_of w address).pinned ≡ true → IsPinned s name
  pub is_pinned : (name address : ℕ) → get s.heap.place name ≡ Some address → IsPinned s name →
      ((object_of w address).pinned ≡ true) ⊎ (is_some (get s.heap.left name) ≡ true)

-- the style of an object that pins its children
keeping_from : (style : Style) → is_keeping style ≡ true → style ≡ Keeping
keeping_from Movable e = absurd (false≢true e)
keeping_from Keeping e = refl

module _ (v : View) (s : State) (h : Holds v s) (pinned : HeapView) (p : PinsNow v.heap pinned v.stack) where
  pinned_name : (name address : ℕ) → get s.heap.place name ≡ Some address → heap.IsPinned v.heap v.stack address → IsPinned s name
  pinned_name name address at = ⊎_elim
      (λ m. inl (address, ap (λ words. is_member nat_eq words address) h.represents.stack ∙ m, at))
      (λ (m, (object, keeping, among)).
      let parent : ℕ = (object_of v.heap m).name in
      let from : get s.heap.place parent ≡ Some m = h.represents.heap.objects.only m object in
      inr (record {
        parent = parent;
        present = ap is_some from;
        keeping = sym (h.represents.heap.objects.is parent m from).style ∙ keeping_from (object_of v.heap m).style keeping;
        holds = child_from_word v s h parent m name address from at among;
      }))

  pinned_object_of : (name address : ℕ) → get s.heap.place name ≡ Some address → IsPinned s name → heap.IsPinned v.heap v.stack address
  pinned_object_of name address at = ⊎_elim
      (λ (word, m, named).
      let same : word ≡ address = some_same word address (sym named ∙ at) in
      inl (subst (λ (a : ℕ). is_member nat_eq v.stack a ≡ true) same (ap (λ words. is_member nat_eq words word) (sym h.represents.stack) ∙ m)))
      (λ held.
      let from = some_get (get s.heap.place held.parent) held.present in
      let style = ap is_keeping ((h.represents.heap.objects.is held.parent from.0 from.1).style ∙ held.keeping) in
      inr (
        from.0,
        (
          h.represents.heap.objects.stands held.parent from.0 from.1,
          style,
          word_from_child v s h held.parent from.0 name address from.1 at held.holds,
        ),
      ))

  -- the pins that a command makes
  pub pins_now : ArePins pinned s
  pins_now = record {
    pinned_is = λ n a e is. pinned_name n a e ((p.pinned a (h.represents.heap.objects.stands n a e)).0 is);
    is_pinned = λ n a e is. inl ((p.pinned a (h.represents.heap.objects.stands n a e)).1 (pinned_object_of n a e is));
  }
