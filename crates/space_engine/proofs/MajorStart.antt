-- The start of a major marking, where nothing is under way: the heap has what the state has in which the marking has begun.
use Rattle.std.proofs.Common.{◌≡◌, ◌⊎◌, ℕ, ◌&&◌, true, List, [], ◌++◌, nat_eq, refl, sym, ap, ◌∙◌, subst, Some, ⊎_elim, arith}
use Rattle.std.specs.Set.{is_member}
use Rattle.std.specs.FinMap.{get, empty}
use Rattle.std.proofs.lemmas.Bool.{false≢true}
use Rattle.space_model.specs.declared.phase.Phase.{Phase}
use Rattle.space_model.specs.declared.phase.Phase.TheVariants.{Idle, Marking}
use Rattle.space_model.specs.declared.reply.Reply.TheVariants.{Done}
use Rattle.space_model.specs.Completions.{CompletesIn, Completes}
use Rattle.space_model.specs.MajorMarking.{marking_begun}
use Rattle.space_model.specs.Markings.{mark_started}
use Rattle.space_model.specs.Moments.{mixed_names}
use Rattle.space_model.specs.Reach.{Reach}
use Rattle.space_model.specs.Reached.{start_names, reached_names}
use Rattle.space_model.specs.Sound.{Sound}
use Rattle.space_model.specs.State.{State}
use Rattle.space_model.proofs.MajorLaws.{major_sound}
use Rattle.space_model.proofs.ReachedLaws.{member-start_names, member-reached_names}
use Rattle.space_model.proofs.Reaching.{IsReached-start, IsReached-mono}
use Rattle.space_heap.specs.declared.colour.Colour.TheVariants.{White}
use Rattle.space_heap.specs.Slots.{ObjectView}
use Rattle.space_heap.specs.HeapView.{HeapView}
use Rattle.space_heap.specs.Marking.{colour_of, whitened, unmarked}
use Rattle.space_heap.specs.Objects.{is_object, object_of, resolved}
use Rattle.space_heap.proofs.MarkingLaws.{object_of-unmarked, grey-unmarked}
use Rattle.space_heap.proofs.NumberLists.{IsDistinct-none}
use Rattle.space_heap.proofs.PhaseLaws.{is_occupied-in_phase, is_object-in_phase, object_of-in_phase, resolved-in_phase, is_moved-in_phase}
use Rattle.space_roots.specs.WordRoots.{root_words}
use Rattle.space_tracing.specs.Graph.{IsLive, IsNamed}
use Rattle.space_tracing.specs.Graph as heap
use Rattle.space_tracing.specs.Marking.{IsMarked, Marks}
use Rattle.space_tracing.proofs.Rescanned.{start_split, start_join}
use Rattle.space_tracing.proofs.Same.{SameGraph-unmarked, is_object-same, age-same}
use Rattle.space_major.specs.Incremental.{started}
use Rattle.space_major.proofs.Starts.{begun, marks_started}
use Rattle.space_engine.specs.Colours.{IsBlack, AreColours}
use Rattle.space_engine.specs.Generations.{HasGenerations}
use Rattle.space_engine.specs.Stands.{HeapRepresents, Holds}
use Rattle.space_engine.specs.Views.{View, with_heap}
use Rattle.space_engine.proofs.Outcomes.{some_same}
use Rattle.space_engine.proofs.Reaching.{start_live, reached_from_live}
use Rattle.space_engine.proofs.ResolvedRoots.{resolved_roots-same}
use Rattle.space_engine.proofs.TablesKept.{ids_led, weak_led}
use Rattle.space_engine.proofs.SameHeaps.{heap_same}

-- the state in which a marking has begun is sound
begun_sound : (s : State) → s.collector.phase ≡ Idle → Sound s → Sound (marking_begun (mark_started s))
begun_sound s idle sound =
    let nothing : Completes s [] s = subst (λ (phase : Phase). CompletesIn phase s [] s) (sym idle) (refl, refl) in
    major_sound s (marking_begun (mark_started s)) [] Done
    (record { idle = s; completes = nothing; started = mark_started s; starts = refl; begins = refl }) sound

module _ (v : View) (s : State) (h : Holds v s) (idle : v.heap.phase ≡ Idle) where
  abbrev words : List ℕ
  words = root_words v.roots

  -- the heap without marks, and the heap after the visits
  abbrev bare : HeapView
  bare = begun v.heap

  abbrev new : HeapView
  new = started v.heap words v.stack

  -- the state in which the marking has begun
  abbrev t : State
  t = marking_begun (mark_started s)

  at_idle : s.collector.phase ≡ Idle
  at_idle = sym h.represents.heap.progress.at ∙ idle

  visits : Marks bare new (words ++ v.stack) [] []
  visits = marks_started v.heap words v.stack

  -- the heap's half

  bare_unmarked : HeapRepresents s.graph s.heap s.collector s.counters (unmarked v.heap)
  bare_unmarked = heap_same s.graph s.heap s.collector s.counters v.heap (unmarked v.heap) (SameGraph-unmarked v.heap)
      (λ other. grey-unmarked v.heap ∙ sym (h.represents.heap.progress.none_grey (λ e. let at = at_idle in cc)))
      h.represents.heap

  bare_represents : HeapRepresents s.graph s.heap t.collector s.counters bare
  bare_represents =
      let was = bare_unmarked in
      let u : HeapView = unmarked v.heap in
      record {
        objects = record {
          stands = λ n a e. is_object-in_phase u Marking a ∙ was.objects.stands n a e;
          is = λ n a e. rw (object_of-in_phase u Marking a) (was.objects.is n a e);
          only = λ a e. rw (object_of-in_phase u Marking a) (was.objects.only a (sym (is_object-in_phase u Marking a) ∙ e));
        };
        corpses = record {
          lies = λ n a e. is_occupied-in_phase u Marking a ∙ was.corpses.lies n a e;
          gone = λ n a e. is_object-in_phase u Marking a ∙ was.corpses.gone n a e;
          named = λ n a e. rw (object_of-in_phase u Marking a) (was.corpses.named n a e);
          only = λ a e f. rw (object_of-in_phase u Marking a)
              (was.corpses.only a (sym (is_occupied-in_phase u Marking a) ∙ e) (sym (is_object-in_phase u Marking a) ∙ f));
        };
        left = record {
          lies = λ n a e. is_moved-in_phase u Marking a ∙ was.left.lies n a e;
          leads = λ n a e. was.left.leads n a e ∙ ap Some (sym (resolved-in_phase u Marking a));
          only = λ a e. was.left.only a (sym (is_moved-in_phase u Marking a) ∙ e);
        };
        pages = record { count = was.pages.count; pools = was.pages.pools; limited = was.pages.limited; waiting = was.pages.waiting };
        progress = record { at = refl; until = was.progress.until; none_grey = λ other. absurd (other refl) };
        counted = was.counted;
      }

  new_represents : HeapRepresents s.graph s.heap t.collector s.counters new
  new_represents = heap_same s.graph s.heap t.collector s.counters bare new visits.same (λ other. absurd (other refl)) bare_represents

  -- what is said of objects

  bare_object : (a : ℕ) → object_of bare a ≡ whitened (object_of v.heap a)
  bare_object a = object_of-in_phase (unmarked v.heap) Marking a ∙ object_of-unmarked v.heap a

  bare_is_object : (a : ℕ) → is_object bare a ≡ is_object v.heap a
  bare_is_object a = is_object-in_phase (unmarked v.heap) Marking a ∙ is_object-same v.heap (unmarked v.heap) a (SameGraph-unmarked v.heap)

  bare_white : (a : ℕ) → colour_of bare a ≡ White
  bare_white a = ap (λ (o : ObjectView). o.colour) (bare_object a)

  none_black : (a : ℕ) → IsBlack new a → ⊥
  none_black a black = false≢true (visits.marking.black_done a black (λ e. let white = bare_white a in cc))

  none_kept : (a : ℕ) → (object_of new a).kept ≡ true → ⊥
  none_kept a kept = ⊎_elim
      (λ was. false≢true (sym (ap (λ (o : ObjectView). o.kept) (bare_object a)) ∙ was))
      (λ (m, scanned, keeps). false≢true scanned)
      (visits.notes.kept_only a kept)

  none_remembered : (a : ℕ) → (object_of new a).remembered ≡ true → ⊥
  none_remembered a remembered = false≢true
      (sym (visits.notes.remembered_other a (λ scanned. false≢true scanned) ∙ ap (λ (o : ObjectView). o.remembered) (bare_object a)) ∙ remembered)

  age_stays : (a : ℕ) → (object_of new a).age ≡ (object_of v.heap a).age
  age_stays a = age-same bare new a visits.same ∙ ap (λ (o : ObjectView). o.age) (bare_object a)

  generations_begun : HasGenerations s.graph s.heap.place t.collector (mixed_names s) new
  generations_begun = record {
    ages = λ n a e. age_stays a ∙ h.represents.generations.ages n a e;
    kept = record {
      certain = λ n a e m. absurd (false≢true m);
      only = λ none. absurd (let e : 1 ≡ 0 = none in omega arith);
      unprotected = λ n a e kept. absurd (none_kept a kept);
      outlived = λ other. absurd (other refl);
    };
    remembered = record {
      aged = λ n a e remembered. absurd (none_remembered a remembered);
      mixed_since = λ n a e remembered. absurd (none_remembered a remembered);
    };
    old_children = λ other. absurd (other refl);
    aged_children = λ marking parent child a c at there is black aged forgotten. absurd (none_black a black);
  }

  -- the marked objects are those that marking starts from

  rests : (s.heap.left ≡ empty) × (s.collector.stale ≡ [])
  rests = h.sound.resting (λ e. let at = at_idle in cc) (λ e. let at = at_idle in cc)

  child_before : (m n : ℕ) → heap.is_child bare m n ≡ heap.is_child v.heap m n
  child_before m n =
      (λ i. bare_is_object n i && is_member nat_eq (bare_object m i).fields n)

  start_before : (a : ℕ) → IsNamed bare (words ++ v.stack) a → heap.IsStart v.heap words v.stack a
  start_before a named = start_split v.heap words v.stack a (sym (bare_is_object a) ∙ named.0, named.1)

  marked_live : (a : ℕ) → IsMarked new a → IsLive v.heap words v.stack a
  marked_live a marked = IsReached-mono (heap.IsChild bare) (heap.IsChild v.heap)
      (λ a. IsMarked bare a ⊎ IsNamed bare (words ++ v.stack) a) (heap.IsStart v.heap words v.stack)
      (λ m n child. sym (child_before m n) ∙ child)
      (λ n start. IsReached-start (heap.IsChild v.heap) (heap.IsStart v.heap words v.stack) n
      (⊎_elim (λ marked. absurd (marked (bare_white n))) (start_before n) start))
      a (visits.marking.sound a marked)

  marked_seen : (name address : ℕ) → get s.heap.place name ≡ Some address → IsMarked new address → is_member nat_eq (reached_names s) name ≡ true
  marked_seen name address at marked =
      let r = reached_from_live v s h rests.0 rests.1 address (marked_live address marked) in
      (member-reached_names s name).1 (subst (Reach s) (h.represents.heap.objects.is name address at).named r.1)

  began_marked : (name address : ℕ) → get s.heap.place name ≡ Some address →
      is_member nat_eq (start_names s.roots s.stack s.heap.place) name ≡ true → IsMarked new address
  began_marked name address at began =
      let live = start_live v s h rests.0 rests.1 name ((member-start_names s name).0 began) in
      let start : heap.IsStart v.heap words v.stack address = subst (heap.IsStart v.heap words v.stack) (some_same live.0 address (sym live.1 ∙ at)) live.2 in
      let named = start_join v.heap words v.stack address start in
      visits.marking.named address (bare_is_object address ∙ named.0, named.1)

  colours_begun : AreColours s.graph s.heap.place t.history new
  colours_begun = record {
    children = λ parent child a c at there is protects black. absurd (none_black a black);
    seen = marked_seen;
    began = began_marked;
    scanned = record {
      names = [];
      once = IsDistinct-none;
      are = λ a. ((λ m. absurd (false≢true m)), (λ black. absurd (none_black a black)));
      long = refl;
    };
  }

  resolved_stays : (word : ℕ) → resolved new word ≡ resolved v.heap word
  resolved_stays word = visits.same.moves word ∙ resolved-in_phase (unmarked v.heap) Marking word ∙ (SameGraph-unmarked v.heap).moves word

  -- the space stands for the state in which the marking has begun
  pub marking_holds : Holds (with_heap v (started v.heap (root_words v.roots) v.stack)) (marking_begun (mark_started s))
  marking_holds = record {
    represents = record {
      heap = new_represents;
      generations = generations_begun;
      colours = λ marking. colours_begun;
      roots = resolved_roots-same v.heap new resolved_stays v.roots ∙ h.represents.roots;
      stack = h.represents.stack;
      ids = ids_led s.heap.place v.heap new resolved_stays s.tables.ids v.ids h.represents.ids;
      weak = weak_led s.heap.place v.heap new resolved_stays s.tables.weak v.weak h.represents.weak;
      finals = h.represents.finals;
    };
    sound = begun_sound s at_idle h.sound;
  }
