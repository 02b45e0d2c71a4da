-- After the sweep of the first page that waits, and of one page after another, the heap and the finalizers have what the state has after it.
use Rattle.std.proofs.Common.{◌≡◌, ◌≢◌, ◌+◌, ◌<◌, ◌&&◌, not, ℕ, zero, suc, Bool, true, false, true≢false, List, [], ◌∷◌, length, map, get_or, ◌++◌, refl, sym, ap, ◌∙◌, subst, nat_eq, arith, Option, None, Some, ⊎_elim}
use Rattle.std.specs.Prelude.{unwrap_or}
use Rattle.std.specs.Ordering.{nat_cmp}
use Rattle.std.specs.Set.{is_member}
use Rattle.std.specs.FinMap.{FinMap, get}
use Rattle.std.proofs.Math.ListN.{length-map}
use Rattle.std.proofs.lemmas.Bool.{cases_Bool, cases_eq, and_parts, or_left, or_right, eq-eqb, cond-true, cond-false}
use Rattle.std.proofs.lemmas.Bool.Decides.{nat_tests}
use Rattle.std.proofs.lemmas.Map.Keys.{IsDistinct-from_apart}
use Rattle.space_model.specs.declared.phase.Phase.{Phase}
use Rattle.space_model.specs.declared.phase.Phase.TheVariants.{Sweeping}
use Rattle.space_model.specs.Sweeps.{AreCorpsesOn, swept, sweep_phase, Sweep1, Sweeps}
use Rattle.space_model.specs.Layout.{page_of}
use Rattle.space_model.specs.Maps.{address_in, without}
use Rattle.space_model.specs.Moments.{mixed_names, noted}
use Rattle.space_model.specs.Pages.{StandsOn, pool_at as pool_of_page, is_used, spared}
use Rattle.space_model.specs.Sound.{SoundSweep}
use Rattle.space_model.specs.State.{State}
use Rattle.space_model.proofs.CollectionsKept.{Sound-swept}
use Rattle.space_model.proofs.MapLaws.{get-without, held_without}
use Rattle.space_model.proofs.MarkingKept.{sweeps_mark_none}
use Rattle.space_model.proofs.PageLaws.{pool_at-spared, pool_at-spared_page, length-spared, user, used_by}
use Rattle.space_model.proofs.RisingNames.{IsRising-from_addresses}
use Rattle.space_model.proofs.SweepKept.{sweeping}
use Rattle.space_model.proofs.ToldNames.{IsDistinct-rising}
use Rattle.space_model.proofs.VerdictLaws.{CountIs-unique}
use Rattle.space_finals.specs.FinalLists.{FinalLists}
use Rattle.space_heap.specs.HeapView.{HeapView, Counters as HeapCounters, pool_at}
use Rattle.space_heap.specs.Objects.{is_occupied, is_object, object_of, HasNoMoved}
use Rattle.space_heap.specs.SoundHeap.{IsSoundHeap}
use Rattle.space_heap.specs.Sweeping.{is_gone, IsGoneOn}
use Rattle.space_heap.proofs.ObjectLaws.{is_object_is}
use Rattle.space_sweep.specs.Sweeps.{SweepsFirst, phase_left}
use Rattle.space_collector.specs.GoneNames.{name_at}
use Rattle.space_collector.specs.PagesSwept.{SweepsPage, SweepsPages}
use Rattle.space_collector.proofs.PageSweeps.{count-first, phase-first, unswept-first, is_object-first, object_stays-first, stands_here-first, stands_other-first, object_other-first, is_moved-first, resolved-first, pool_other-first, pool_kept-first, pool_spare-first, limit-first, cursor-first, grey_list-first, counters-first}
use Rattle.space_collector.proofs.SoundSweeps.{sound-first}
use Rattle.space_engine.specs.Stands.{HasObjects, HasCorpses, HasLeft, HasPages, HasProgress, HasCounted, Represents, Holds}
use Rattle.space_engine.specs.Views.{View, with_swept}
use Rattle.space_engine.proofs.GenerationsByName.{generations_same}
use Rattle.space_engine.proofs.Outcomes.{some_same}
use Rattle.space_engine.proofs.QueuedNames.{AreQueued, names_queued}
use Rattle.space_engine.proofs.Reaching.{member_map, member_unmap}
use Rattle.space_engine.proofs.ResolvedRoots.{resolved_roots-same}
use Rattle.space_engine.proofs.TablesKept.{ids_led, weak_led}
use Rattle.space_engine.proofs.Resolving.{none_moved}

phase_same : (others : List ℕ) (phase : Phase) → phase ≡ Sweeping → phase_left others phase ≡ sweep_phase others
phase_same [] phase e = refl
phase_same (page ∷ pages) phase e = e

gone_is : (is_occupied gone : Bool) → (is_occupied && gone) ≡ true → (is_occupied && not gone) ≡ false
gone_is true gone e = ap not e
gone_is false gone e = refl

gone_from : (is_occupied gone : Bool) → is_occupied ≡ true → (is_occupied && not gone) ≡ false → (is_occupied && gone) ≡ true
gone_from true true e f = refl
gone_from true false e f = absurd (true≢false f)
gone_from false gone e f = absurd (true≢false (sym e))

-- addresses are those of their names
back_again : (corpses : FinMap nat_cmp ℕ) (heap : HeapView) (addresses : List ℕ) →
    ((a : ℕ) → is_member nat_eq addresses a ≡ true → get corpses (name_at heap a) ≡ Some a) →
    map (address_in corpses) (map (name_at heap) addresses) ≡ addresses
back_again corpses heap [] lie = refl
back_again corpses heap (a ∷ addresses) lie =
    let first : address_in corpses (name_at heap a) ≡ a = ap (λ o. unwrap_or o 0) (lie a (or_left _ _ (eq-eqb a a refl))) in
    let others = back_again corpses heap addresses (λ b m. lie b (or_right (nat_eq b a) _ m)) in
    λ i. first i ∷ others i

module _ (v : View) (s : State) (h : Holds v s) (sound : IsSoundHeap v.heap) (z : HeapView) (g : FinalLists) (sweep : SweepsPage v.heap v.finals z g) where
  abbrev heap : HeapView
  heap = v.heap

  abbrev freed : ℕ
  freed = sweep.freed

  abbrev step : SweepsFirst heap z freed
  step = sweep.sweeps

  abbrev page : ℕ
  page = step.page

  abbrev names : List ℕ
  names = sweep.names

  abbrev corpses' : FinMap nat_cmp ℕ
  corpses' = without s.heap.corpses names

  abbrev pages' : List (Option ℕ)
  pages' = spared s.heap.place page s.heap.pages

  -- the state after the sweep
  abbrev pub t : State
  t = noted (swept s page step.others names)

  first : s.heap.unswept ≡ page ∷ step.others
  first = h.represents.heap.pages.waiting ∙ step.first

  -- a gone object is a corpse
  lies_at : (a : ℕ) → IsGoneOn heap page a → get s.heap.corpses (name_at heap a) ≡ Some a
  lies_at a (gone, on) =
      let parts = and_parts _ _ gone in
      h.represents.heap.corpses.only a parts.0 (is_object_is heap a ∙ gone_is (is_occupied heap a) (object_of heap a).gone gone)

  is_corpse : (n : ℕ) → is_member nat_eq names n ≡ true → StandsOn s.heap.corpses page n
  is_corpse n m =
      let u = member_unmap (name_at heap) sweep.gone.addresses n (ap (λ names. is_member nat_eq names n) (sym sweep.gone.names_are) ∙ m) in
      let there = (sweep.gone.are u.0).0 u.1 in
      (u.0, ap (get s.heap.corpses) u.2 ∙ lies_at u.0 there, there.1)

  has_corpse : (n : ℕ) → StandsOn s.heap.corpses page n → is_member nat_eq names n ≡ true
  has_corpse n (a, lay, on) =
      let gone : is_gone heap a ≡ true =
      gone_from (is_occupied heap a) (object_of heap a).gone (h.represents.heap.corpses.lies n a lay)
      (sym (is_object_is heap a) ∙ h.represents.heap.corpses.gone n a lay) in
      ap (λ names. is_member nat_eq names n) sweep.gone.names_are
      ∙ subst (λ n. is_member nat_eq (map (name_at heap) sweep.gone.addresses) n ≡ true) (h.represents.heap.corpses.named n a lay)
      (member_map (name_at heap) sweep.gone.addresses a ((sweep.gone.are a).1 (gone, on)))

  on_page : AreCorpsesOn s.heap.corpses page names
  on_page = record {
    are = λ n. (is_corpse n, has_corpse n);
    rising = IsRising-from_addresses s.heap.corpses names sweep.gone.addresses
        (ap (map (address_in s.heap.corpses)) sweep.gone.names_are
        ∙ back_again s.heap.corpses heap sweep.gone.addresses (λ a m. lies_at a ((sweep.gone.are a).0 m)))
        sweep.gone.rising;
  }

  pub sweep_is : Sweep1 s names t
  sweep_is = record { page = page; others = step.others; first = first; corpses = on_page; after = refl }

  at_sweeping : s.collector.phase ≡ Sweeping
  at_sweeping = sweeping s.collector.phase s.heap.pages page step.others (subst (SoundSweep s.collector.phase s.heap.pages) first h.sound.sweep)

  still : HasNoMoved heap
  still = none_moved v s h (h.sound.resting (λ e. let at = at_sweeping in cc) (λ e. let at = at_sweeping in cc)).0

  -- objects stay
  objects_stay : HasObjects s.graph s.heap.place s.heap.left s.collector.stale z
  objects_stay = record {
    stands = λ n a e. is_object-first heap z freed step a ∙ h.represents.heap.objects.stands n a e;
    is = λ n a e.
        let same = object_stays-first heap z freed step a (h.represents.heap.objects.stands n a e) in
        let object = h.represents.heap.objects.is n a e in
        rw same (record { named = object.named; guard = object.guard; style = object.style; fields = object.fields });
    only = λ a e.
        let is : is_object heap a ≡ true = sym (is_object-first heap z freed step a) ∙ e in
        rw (object_stays-first heap z freed step a is) (h.represents.heap.objects.only a is);
  }

  -- a corpse that is left lies on another page
  off_page : (n a : ℕ) → get corpses' n ≡ Some a → page_of a ≢ page
  off_page n a e on =
      let was = held_without s.heap.corpses names n a e in
      true≢false (sym ((on_page.are n).1 (a, was.0, on)) ∙ was.1)

  corpses_left : HasCorpses corpses' z
  corpses_left = record {
    lies = λ n a e. stands_other-first heap z freed step a (off_page n a e) ∙ h.represents.heap.corpses.lies n a (held_without s.heap.corpses names n a e).0;
    gone = λ n a e. is_object-first heap z freed step a ∙ h.represents.heap.corpses.gone n a (held_without s.heap.corpses names n a e).0;
    named = λ n a e. rw (object_other-first heap z freed step a (off_page n a e))
        (h.represents.heap.corpses.named n a (held_without s.heap.corpses names n a e).0);
    only = λ a e f. ⊎_elim
        (λ on. absurd (true≢false (sym e ∙ stands_here-first heap z freed step a on ∙ sym (is_object-first heap z freed step a) ∙ f)))
        (λ off.
        let name : ℕ = (object_of heap a).name in
        let lay = h.represents.heap.corpses.only a (sym (stands_other-first heap z freed step a off) ∙ e) (sym (is_object-first heap z freed step a) ∙ f) in
        let out : is_member nat_eq names name ≡ false = ⊎_elim
        (λ m. let c = (on_page.are name).0 m in absurd (off (ap page_of (some_same a c.0 (sym lay ∙ c.1)) ∙ c.2)))
        (λ g. g)
        (cases_Bool (is_member nat_eq names name)) in
        rw (object_other-first heap z freed step a off)
        (get-without s.heap.corpses names name ∙ cond-false (is_member nat_eq names name) None (get s.heap.corpses name) out ∙ lay))
        (cases_eq (page_of a) page);
  }

  left_stays : HasLeft s.heap.place s.heap.left z
  left_stays = record {
    lies = λ n a e. is_moved-first heap z freed step a ∙ h.represents.heap.left.lies n a e;
    leads = λ n a e. h.represents.heap.left.leads n a e ∙ ap Some (sym (resolved-first heap z freed step a));
    only = λ a e. h.represents.heap.left.only a (sym (is_moved-first heap z freed step a) ∙ e);
  }

  -- the page keeps its pool where a name stands on it
  pool_here : pool_of_page pages' page ≡ pool_at z page
  pool_here = pool_at-spared_page s.heap.place page s.heap.pages ∙ ⊎_elim
      (λ (used : is_used s.heap.place page ≡ true).
      let it = user s.heap.place page used in
      cond-true (is_used s.heap.place page) (pool_of_page s.heap.pages page) None used
      ∙ h.represents.heap.pages.pools page
      ∙ sym (pool_kept-first heap z freed step it.1 it.3 (h.represents.heap.objects.stands it.0 it.1 it.2)))
      (λ (unused : is_used s.heap.place page ≡ false).
      cond-false (is_used s.heap.place page) (pool_of_page s.heap.pages page) None unused
      ∙ sym (pool_spare-first heap z freed step sound still (λ a on. ⊎_elim
      (λ is. absurd (true≢false (sym (used_by s.heap.place page (object_of heap a).name a (h.represents.heap.objects.only a is) on) ∙ unused)))
      (λ f. f)
      (cases_Bool (is_object heap a)))))
      (cases_Bool (is_used s.heap.place page))

  pools_after : (k : ℕ) → pool_of_page pages' k ≡ pool_at z k
  pools_after k = ⊎_elim
      (λ here. subst (λ k. pool_of_page pages' k ≡ pool_at z k) (sym here) pool_here)
      (λ other. ⊎_elim
      (λ same. same ∙ h.represents.heap.pages.pools k ∙ sym (pool_other-first heap z freed step k other))
      (λ (here, unused). absurd (other here))
      (pool_at-spared s.heap.place page s.heap.pages k))
      (cases_eq k page)

  pages_after : HasPages pages' s.heap.limit step.others z
  pages_after = record {
    count = length-spared s.heap.place page s.heap.pages ∙ h.represents.heap.pages.count ∙ sym (count-first heap z freed step);
    pools = pools_after;
    limited = h.represents.heap.pages.limited ∙ sym (limit-first heap z freed step);
    waiting = sym (unswept-first heap z freed step sound);
  }

  progress_after : HasProgress (sweep_phase step.others) s.collector.cursor z
  progress_after = record {
    at = phase-first heap z freed step ∙ phase_same step.others heap.phase (h.represents.heap.progress.at ∙ at_sweeping);
    until = cursor-first heap z freed step ∙ h.represents.heap.progress.until;
    none_grey = λ other. grey_list-first heap z freed step ∙ h.represents.heap.progress.none_grey (λ e. let at = at_sweeping in cc);
  }

  -- as many corpses were freed as slots
  pub names_freed : length names ≡ freed
  names_freed =
      ap length sweep.gone.names_are
      ∙ length-map sweep.gone.addresses (name_at heap)
      ∙ CountIs-unique (IsGoneOn heap page) (length sweep.gone.addresses) freed (record {
        names = sweep.gone.addresses;
        once = IsDistinct-from_apart nat_eq sweep.gone.addresses
            (λ i j d lt within. let rising = sweep.gone.rising i j d lt within in apart (get_or sweep.gone.addresses i d) (get_or sweep.gone.addresses j d) rising);
        are = sweep.gone.are;
        long = refl;
      }) step.count
    where
      apart : (x y : ℕ) → x < y → nat_eq x y ≡ false
      apart x y below = grind (arith, nat_tests, below)

  counter : (f : HeapCounters → ℕ) → f z.counters ≡ f (record heap.counters { freed = heap.counters.freed + freed })
  counter f = ap f (counters-first heap z freed step sound)

  counted_after : HasCounted (length s.graph) (record s.counters { freed = s.counters.freed + length names }) z.counters
  counted_after = record {
    allocated = counter (λ (c : HeapCounters). c.born) ∙ h.represents.heap.counted.allocated;
    minor_verdicts = counter (λ (c : HeapCounters). c.minor_verdicts) ∙ h.represents.heap.counted.minor_verdicts;
    other_verdicts = counter (λ (c : HeapCounters). c.other_verdicts) ∙ h.represents.heap.counted.other_verdicts;
    freed = counter (λ (c : HeapCounters). c.freed) ∙ ap (λ n. n + freed) h.represents.heap.counted.freed ∙ ap (λ n. s.counters.freed + n) (sym names_freed);
    compactions = counter (λ (c : HeapCounters). c.compactions) ∙ h.represents.heap.counted.compactions;
    moves = counter (λ (c : HeapCounters). c.moves) ∙ h.represents.heap.counted.moves;
  }

  -- their finalizers wait after those that waited
  queued : AreQueued s.tables.finals s.tables.queue names g
  queued = names_queued s.tables.finals s.tables.queue v.finals names g h.represents.finals.defined h.represents.finals.waiting
      (IsDistinct-rising s.heap.corpses names on_page.rising) sweep.queues

  pub swept_represents : Represents (with_swept v z g) t
  swept_represents = record {
    heap = record {
      objects = objects_stay;
      corpses = corpses_left;
      left = left_stays;
      pages = pages_after;
      progress = progress_after;
      counted = counted_after;
    };
    generations = generations_same s.graph s.heap.place s.collector s.history.mixed (mixed_names (swept s page step.others names)) heap z
        (λ n a e. object_stays-first heap z freed step a (h.represents.heap.objects.stands n a e)) (sweep_phase step.others) s.collector.cursor
        s.collector.stale (λ rest e. let at = at_sweeping in cc) (λ e. absurd (sweeps_mark_none step.others e)) h.represents.generations;
    colours = λ e. absurd (sweeps_mark_none step.others e);
    roots = resolved_roots-same heap z (resolved-first heap z freed step) v.roots ∙ h.represents.roots;
    stack = h.represents.stack;
    ids = ids_led s.heap.place heap z (resolved-first heap z freed step) s.tables.ids v.ids h.represents.ids;
    weak = weak_led s.heap.place heap z (resolved-first heap z freed step) s.tables.weak v.weak h.represents.weak;
    finals = record { defined = queued.defined; waiting = queued.waits };
  }

  pub swept_holds : Holds (with_swept v z g) t
  swept_holds = record { represents = swept_represents; sound = Sound-swept s t names sweep_is h.sound }

-- what the space stands for after so many pages were swept
pub record SweepsTo (v : View) (s : State) (z : HeapView) (g : FinalLists) (pages : ℕ) : Type 0 where
  pub freed : List ℕ
  pub state : State
  pub sweeps : Sweeps pages s freed state
  pub holds : Holds (with_swept v z g) state

-- or none
pub holds_unswept : (v : View) (s : State) (z : HeapView) (g : FinalLists) → Holds v s → (z ≡ v.heap) × (g ≡ v.finals) → Holds (with_swept v z g) s
holds_unswept v s z g h (same, none) = rw (same, none) h

pub swept_pages_hold : (pages : ℕ) (v : View) (s : State) (z : HeapView) (g : FinalLists) → Holds v s → IsSoundHeap v.heap →
    SweepsPages pages v.heap v.finals z g → SweepsTo v s z g pages
swept_pages_hold zero v s z g h sound same = record { freed = []; state = s; sweeps = (refl, refl); holds = holds_unswept v s z g h same }
swept_pages_hold (suc pages) v s z g h sound (mid, between, first, others) =
    let now = swept_holds v s h sound mid between first in
    let later = swept_pages_hold pages (with_swept v mid between) (t v s h sound mid between first) z g now
    (sound-first v.heap mid first.freed first.sweeps sound) others in
    record {
      freed = first.names ++ later.freed;
      state = later.state;
      sweeps = (first.names, later.freed, t v s h sound mid between first, refl, sweep_is v s h sound mid between first, later.sweeps);
      holds = later.holds;
    }
