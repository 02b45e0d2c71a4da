-- Where `new` answers `full`, the heap is really full for the pool of the object.
use Rattle.std.proofs.Common.{◌≡◌, ◌≢◌, ◌⊎◌, ℕ, zero, suc, ◌/◌, ◌*◌, ◌+◌, ◌<◌, true, List, [], ◌∷◌, length, nat_eq, refl, sym, ap, ◌∙◌, subst, arith, Option, None, Some, ⊎_elim, inl, inr}
use Rattle.std.specs.Prelude.{is_some, ◌^◌, ◌↔◌}
use Rattle.std.specs.List.{IsDistinct}
use Rattle.std.specs.Set.{is_member}
use Rattle.std.specs.Ordering.{nat_cmp}
use Rattle.std.specs.FinMap.{FinMap, get, keys, get-empty}
use Rattle.std.proofs.Math.Nat.{add_left_cancel, mul-div_cancel_left}
use Rattle.std.proofs.lemmas.Bool.{false≢true, false_from_ne_true, or_cases, or_left, or_right, eqb-true, eq-eqb, cases_eq}
use Rattle.std.proofs.lemmas.Nat.{pow_pos}
use Rattle.space_model.specs.declared.event.Event.{Event}
use Rattle.space_model.specs.declared.event.Kind.{Kind}
use Rattle.space_model.specs.declared.event.Kind.TheVariants.{Full}
use Rattle.space_model.specs.declared.object.Guard.{Guard}
use Rattle.space_model.specs.declared.object.Style.{Style}
use Rattle.space_model.specs.declared.phase.Phase.TheVariants.{Idle, Moving}
use Rattle.space_model.specs.declared.reply.Reply.{Reply}
use Rattle.space_model.specs.declared.reply.Reply.TheVariants.{Made, NoMemory, Refused, Full as FullReply}
use Rattle.space_model.specs.Collections.{IsCollection}
use Rattle.space_model.specs.Completions.{Completes}
use Rattle.space_model.specs.Counts.{CountIs}
use Rattle.space_model.specs.Layout.{page_bytes, slot_address, slot_bytes, page_slots, page_of, pool_for}
use Rattle.space_model.specs.Idents.{IsIdent}
use Rattle.space_model.specs.NewCommand.{Stage, stages_before_page, all_stages, PassesAll, MakesNone, AnswersNew}
use Rattle.space_model.specs.FullHeap.{FullAt}
use Rattle.space_model.specs.Pages.{pool_at, StandsOn, is_used}
use Rattle.space_model.specs.Places.{pool_of, HasNoFreeAddress, HasNoSpare}
use Rattle.space_model.specs.Reach.{Reach}
use Rattle.space_model.specs.Roots.{root_value}
use Rattle.space_model.specs.Sound.{Sound}
use Rattle.space_model.specs.State.{State, is_present}
use Rattle.space_model.specs.Sweeps.{sweep_phase, Sweeps}
use Rattle.space_model.proofs.CollectionsKept.{Sound-sweeps}
use Rattle.space_model.proofs.Growing.{IsDistinct-cons}
use Rattle.space_model.proofs.Leaving.{leaves_reach, leaves_marked, sweeps_not_moving, leaves_swept, leaves_taken}
use Rattle.space_model.proofs.PageLaws.{page_of-slot_address}
use Rattle.space_model.proofs.ReachedLaws.{member-keys}
use Rattle.space_model.proofs.SweepKept.{no_corpse}
use Rattle.space_model.proofs.Stages.{in_need_sweeps, compaction_sound, compaction_ends, passed_leaves, IsSweptInVain, IsTriedInVain, CollectedInVain, passed_all}
use Rattle.space_model.proofs.SweptLaws.{Sweeps-place, Sweeps-phase}
use Rattle.space_model.proofs.ToldNames.{moved_among, moved_verdict_events}
use Rattle.space_model.proofs.WholeLaws.{Sound-collection, counted_also, collection_phase, collection_leaves, leaves_completed}

-- slots up to a number, where each has a name of its own: the names at them are as many
module _ (IsAt : ℕ → ℕ → Type 0) (one_slot : (i j n : ℕ) → IsAt i n → IsAt j n → i ≡ j) (one_name : (i m n : ℕ) → IsAt i m → IsAt i n → m ≡ n) where
  abbrev IsAtSome : ℕ → ℕ → Type 0
  IsAtSome count name = (slot : ℕ) × (slot < count) × IsAt slot name

  count_slots : (count : ℕ) → ((slot : ℕ) → slot < count → (n : ℕ) × IsAt slot n) → CountIs (IsAtSome count) count
  unfolding IsDistinct
  count_slots zero full = record {
    names = [];
    once = tt;
    are = λ n. ((λ m. absurd (false≢true m)), (λ c. absurd (let b = c.1 in omega arith)));
    long = refl;
  }
  count_slots (suc count) full =
      let rest = count_slots count (λ slot on. full slot (omega arith)) in
      let last = full count (omega arith) in
      record {
        names = last.0 ∷ rest.names;
        once = IsDistinct-cons last.0 rest.names rest.once
            (false_from_ne_true _ (λ m. let c = (rest.are last.0).0 m in let e = one_slot c.0 count last.0 c.2 last.1 in let b = c.1 in omega arith));
        are = λ n. (
          (λ m. ⊎_elim
              (λ same. (count, omega arith, subst (IsAt count) (sym (eqb-true n last.0 same)) last.1))
              (λ among. let c = (rest.are n).0 among in (c.0, (let b = c.1 in omega arith), c.2))
              (or_cases _ _ m)),
          (λ c. ⊎_elim
              (λ same. or_left _ _ (eq-eqb n last.0 (one_name count n last.0 (subst (λ i. IsAt i n) same c.2) last.1)))
              (λ other. or_right (nat_eq n last.0) _ ((rest.are n).1 (c.0, (let b = c.1 in omega arith), c.2)))
              (cases_eq c.0 count)),
        );
        long = ap suc rest.long;
      }

same_address : (o : Option ℕ) (address : ℕ) → (o ≡ Some address) ⊎ (o ≢ Some address)
same_address None address = inr (λ e. cc)
same_address (Some a) address = ⊎_elim (λ e. inl (ap Some e)) (λ d. inr (λ e. d (cc))) (cases_eq a address)

standing_among : (place : FinMap nat_cmp ℕ) (address : ℕ) (names : List ℕ) →
    ((n : ℕ) × (get place n ≡ Some address)) ⊎ ((n : ℕ) → is_member nat_eq names n ≡ true → get place n ≢ Some address)
standing_among place address [] = inr (λ n m e. false≢true m)
standing_among place address (name ∷ names) = ⊎_elim
    (λ e. inl (name, e))
    (λ d. ⊎_elim
    (λ f. inl f)
    (λ none. inr (λ n m e. ⊎_elim (λ same. d (ap (get place) (sym (eqb-true n name same)) ∙ e)) (λ among. none n among e) (or_cases _ _ m)))
    (standing_among place address names))
    (same_address (get place name) address)

-- some name stands at an address, or none
pub standing : (place : FinMap nat_cmp ℕ) (address : ℕ) → ((n : ℕ) × (get place n ≡ Some address)) ⊎ ((n : ℕ) → get place n ≢ Some address)
standing place address = ⊎_elim
    (λ f. inl f)
    (λ none. inr (λ n e. none n (member-keys place n ∙ ap is_some e) e))
    (standing_among place address (keys place))

-- different slots of a page have different addresses
slot_address-once : (page pool i j : ℕ) → slot_address page pool i ≡ slot_address page pool j → i ≡ j
unfolding slot_address slot_bytes
slot_address-once page pool i j e =
    let some : 0 < 40 * 2 ^ pool = (let p = pow_pos pool in omega arith) in
    let f : 40 * 2 ^ pool * i ≡ 40 * 2 ^ pool * j = add_left_cancel (page_bytes * (page + 1)) e in
    sym (mul-div_cancel_left i some) ∙ ap (λ x. x / (40 * 2 ^ pool)) f ∙ mul-div_cancel_left j some

-- a sound state in which nothing is under way, and no address is free for the pool
module _ (t : State) (pool : ℕ) (h : Sound t) (none_waits : t.heap.unswept ≡ []) (idle : t.collector.phase ≡ Idle) (none_free : HasNoFreeAddress t pool) where
  nothing_left : (n a : ℕ) → get t.heap.left n ≡ Some a → ⊥
  nothing_left n a e = let f : None ≡ Some a = sym (get-empty nat_cmp n) ∙ ap (λ left. get left n) (sym (h.resting (λ p. cc) (λ p. cc)).0) ∙ e in cc

  slot_filled : (page slot : ℕ) → pool_at t.heap.pages page ≡ Some pool → slot < page_slots pool →
      (n : ℕ) × (get t.heap.place n ≡ Some (slot_address page pool slot))
  slot_filled page slot has on = ⊎_elim
      (λ f. f)
      (λ none. absurd (none_free (slot_address page pool slot) (record {
        at = record { page = page; slot = slot; has_pool = has; on_page = on; is = refl };
        swept = ap (λ pages. is_member nat_eq pages (page_of (slot_address page pool slot))) none_waits;
        no_place = none;
        no_corpse = λ n e. no_corpse t.graph t.heap.place t.heap.corpses t.collector.phase t.heap.pages t.heap.unswept h.corpses h.sweep (λ p. cc) n
            (slot_address page pool slot) e;
        not_left = λ n e. nothing_left n (slot_address page pool slot) e;
      })))
      (standing t.heap.place (slot_address page pool slot))

  -- what stands on a page of the pool is at one of its slots
  at_slot : (page n : ℕ) → pool_at t.heap.pages page ≡ Some pool → StandsOn t.heap.place page n →
      (slot : ℕ) × (slot < page_slots pool) × (get t.heap.place n ≡ Some (slot_address page pool slot))
  at_slot page n has (address, at, on_page) =
      let slot = h.layout.placed.at n address at in
      let on : slot.page ≡ page = sym (ap page_of slot.is ∙ page_of-slot_address slot.page (pool_of t.graph n) slot.slot slot.on_page) ∙ on_page in
      let both : Some (pool_of t.graph n) ≡ Some pool = sym slot.has_pool ∙ ap (pool_at t.heap.pages) on ∙ has in
      let same : pool_of t.graph n ≡ pool = cc in
      let is : address ≡ slot_address page pool slot.slot =
      slot.is ∙ ap (λ p. slot_address p (pool_of t.graph n) slot.slot) on ∙ ap (λ q. slot_address page q slot.slot) same in
      (slot.slot, subst (λ q. slot.slot < page_slots q) same slot.on_page, at ∙ ap Some is)

  -- as many objects stand on each page of the pool as it has slots
  page_filled : (page : ℕ) → pool_at t.heap.pages page ≡ Some pool → CountIs (StandsOn t.heap.place page) (page_slots pool)
  page_filled page has =
      counted_also
      (λ n. (slot : ℕ) × (slot < page_slots pool) × (get t.heap.place n ≡ Some (slot_address page pool slot)))
      (StandsOn t.heap.place page)
      (page_slots pool)
      (λ n. (
        (λ c. (slot_address page pool c.0, c.2, page_of-slot_address page pool c.0 c.1)),
        (λ stands. at_slot page n has stands),
      ))
      (count_slots
      (λ slot n. get t.heap.place n ≡ Some (slot_address page pool slot))
      (λ i j n e f. slot_address-once page pool i j (let both : Some (slot_address page pool i) ≡ Some (slot_address page pool j) = sym e ∙ f in cc))
      (λ i m n e f. h.layout.placed.once m n (slot_address page pool i) e f)
      (page_slots pool)
      (λ slot on. slot_filled page slot has on))

  -- and some object on each page, where none is spare
  page_used : HasNoSpare t → (page : ℕ) → page < length t.heap.pages → is_used t.heap.place page ≡ true
  page_used none_spare page below =
      h.used (λ p. cc) (λ p. cc) page
      (has_pool (pool_at t.heap.pages page) refl)
      (ap (λ pages. is_member nat_eq pages page) none_waits)
    where
      has_pool : (o : Option ℕ) → pool_at t.heap.pages page ≡ o → is_some (pool_at t.heap.pages page) ≡ true
      has_pool None e = absurd (none_spare page (below, e))
      has_pool (Some q) e = ap is_some e

-- what is reached after what was under way is completed was reached before, where no objects were being moved
completed_before : (s t : State) (events : List Event) → s.collector.phase ≢ Moving → Completes s events t → (n : ℕ) → Reach t n → Reach s n
completed_before s t events rests completes n r =
    let left = leaves_completed s t events completes in (leaves_reach s events t left (left.unmoving rests) n).0 r

-- what is reached after a collection is what was reached when its marking started
collected_reach : (s t : State) (kind : Kind) (events : List Event) (scans : ℕ) (c : IsCollection s kind events scans t) → (n : ℕ) →
    Reach t n ↔ Reach c.idle n
collected_reach s t kind events scans c n =
    let marked = leaves_reach c.idle [] c.marked (leaves_marked c.idle c.marked c.starts) refl n in
    let unmoved = ap moved_among c.verdict.events_are ∙ moved_verdict_events kind c.taken in
    let taken = leaves_reach c.marked c.told t (leaves_taken c.marked kind c.taken c.told t c.verdict) unmoved n in
    ((λ r. marked.0 (taken.0 r)), (λ r. taken.1 (marked.1 r)))

-- sweeps begin no moves
still_moves : (pages : ℕ) (s t : State) (freed : List ℕ) → Sweeps pages s freed t → s.collector.phase ≢ Moving → t.collector.phase ≢ Moving
still_moves zero s t freed (none, same) rests = subst (λ (u : State). u.collector.phase ≢ Moving) (sym same) rests
still_moves (suc pages) s t freed (now, later, mid, both, step, more) rests =
    still_moves pages mid t later more (subst (λ (u : State). u.collector.phase ≢ Moving) (sym step.after) (sweeps_not_moving step.others))

-- sweeps in vain
module _ (s : State) (pool : ℕ) (t : State) (v : IsSweptInVain s pool t) where
  vain_sweeps : (freed : List ℕ) × Sweeps v.pages s freed t
  vain_sweeps = in_need_sweeps v.pages s pool t v.sweeps

  vain_sound : Sound s → Sound t
  vain_sound h = Sound-sweeps v.pages s t vain_sweeps.0 vain_sweeps.1 h

  vain_reach : (n : ℕ) → Reach t n ↔ Reach s n
  vain_reach n = leaves_reach s [] t (leaves_swept v.pages s t vain_sweeps.0 vain_sweeps.1) refl n

  -- where no objects are being moved, none are after them
  vain_rests : s.collector.phase ≢ Moving → t.collector.phase ≢ Moving
  vain_rests rests = still_moves v.pages s t vain_sweeps.0 vain_sweeps.1 rests

  vain_present : (n : ℕ) → is_present t n ≡ is_present s n
  vain_present n = ap (λ place. is_some (get place n)) (Sweeps-place v.pages s t vain_sweeps.0 vain_sweeps.1)

  -- nothing is under way after them, where the phase was that of the pages that waited
  vain_idle : s.collector.phase ≡ sweep_phase s.heap.unswept → t.collector.phase ≡ Idle
  vain_idle e = Sweeps-phase v.pages s t vain_sweeps.0 vain_sweeps.1 e ∙ ap sweep_phase v.none_waits

-- all that comes before a page, in vain
module _ (s : State) (pool : ℕ) (events : List Event) (t : State) (v : IsTriedInVain s pool events t) where
  tried_sound : Sound s → Sound t
  tried_sound h = compaction_sound v.swept events t v.completes (vain_sound s pool v.swept v.vain h)

  -- no objects are being moved after it
  tried_rests : Sound s → t.collector.phase ≢ Moving
  tried_rests h moves = compaction_ends v.swept events t v.completes (vain_sound s pool v.swept v.vain h) (inl moves)

  -- what is reached after it was reached before, where no objects were being moved
  tried_reach : s.collector.phase ≢ Moving → (n : ℕ) → Reach t n → Reach s n
  tried_reach rests n r =
      (vain_reach s pool v.swept v.vain n).0
      (⊎_elim
      (λ (_, completes). completed_before v.swept t events (vain_rests s pool v.swept v.vain rests) completes n r)
      (λ (_, none, same). subst (λ (u : State). Reach u n) same r)
      v.completes)

-- a whole collection in vain
module _ (s t : State) (pool : ℕ) (c : CollectedInVain s pool t) where
  limited_sound : Sound s → Sound c.limited
  limited_sound h = tried_sound s pool c.first c.limited c.at_limit.vain h

  in_vain_sound : Sound s → Sound t
  in_vain_sound h = vain_sound c.collected pool t c.vain (Sound-collection c.limited c.collected Full c.told c.scans c.collects (limited_sound h))

  in_vain_idle : t.collector.phase ≡ Idle
  in_vain_idle = vain_idle c.collected pool t c.vain (collection_phase c.limited c.collected Full c.told c.scans c.collects)

  -- what is present after it was reached when its marking started
  after_present : Sound s → (n : ℕ) → (is_present t n ≡ true) ↔ Reach c.collects.idle n
  after_present h n =
      let there = collection_leaves c.limited c.collected c.told c.scans c.collects (limited_sound h) n in
      let same = vain_present c.collected pool t c.vain n in
      ((λ p. there.0 (sym same ∙ p)), (λ r. same ∙ there.1 r))

  -- and is reached after it
  after_reach : (n : ℕ) → Reach t n ↔ Reach c.collects.idle n
  after_reach n =
      let last = vain_reach c.collected pool t c.vain n in
      let now = collected_reach c.limited c.collected Full c.told c.scans c.collects n in
      ((λ r. now.0 (last.0 r)), (λ r. last.1 (now.1 r)))

-- so the answer `full` tells the truth
pub full_is_full : (s t : State) (fields : ℕ) (events : List Event) → MakesNone s fields events t → Sound s → FullAt t (pool_for fields)
full_is_full s t fields events e h =
    let c = passed_all s (pool_for fields) events t e.passed in
    let sound = in_vain_sound s t (pool_for fields) c h in
    let idle = in_vain_idle s t (pool_for fields) c in
    record {
      reached = λ n. let there = after_present s t (pool_for fields) c h n in
          let same = after_reach s t (pool_for fields) c n in
          ((λ p. same.1 (there.0 p)), (λ r. there.1 (same.0 r)));
      limit = e.limit;
      used = page_used t (pool_for fields) sound c.vain.none_waits idle c.vain.none_free c.none_spare;
      filled = page_filled t (pool_for fields) sound c.vain.none_waits idle c.vain.none_free;
    }

-- and nothing is present then but what was reached before, where no objects were being moved
pub full_leaves : (s t : State) (fields : ℕ) (events : List Event) → MakesNone s fields events t → Sound s → s.collector.phase ≢ Moving → (n : ℕ) →
    is_present t n ≡ true → Reach s n
full_leaves s t fields events e h rests n p =
    let c = passed_all s (pool_for fields) events t e.passed in
    let tried = c.at_limit.vain in
    tried_reach s (pool_for fields) c.first c.limited tried rests n
    (completed_before c.limited c.collects.idle c.collects.completion (tried_rests s (pool_for fields) c.first c.limited tried h) c.collects.completes n
    ((after_present s t (pool_for fields) c h n).0 p))

-- where no object is made, nothing of the graph, of the stack and of the roots is changed
same_parts : (s t : State) → t.graph ≡ s.graph → t.roots ≡ s.roots → t.stack ≡ s.stack →
    (t.graph ≡ s.graph) × (t.stack ≡ s.stack) × ((other : List ℕ) → IsIdent other → root_value t.roots other ≡ root_value s.roots other)
same_parts s t graph roots stack = (graph, stack, λ other ident. ap (λ roots. root_value roots other) roots)

same_state : (s t : State) → t ≡ s →
    (t.graph ≡ s.graph) × (t.stack ≡ s.stack) × ((other : List ℕ) → IsIdent other → root_value t.roots other ≡ root_value s.roots other)
same_state s t same = same_parts s t (ap (λ (u : State). u.graph) same) (ap (λ (u : State). u.roots) same) (ap (λ (u : State). u.stack) same)

passed_same : (stages : List Stage) (s : State) (pool : ℕ) (events : List Event) (t : State) → PassesAll stages s pool events t →
    (t.graph ≡ s.graph) × (t.stack ≡ s.stack) × ((other : List ℕ) → IsIdent other → root_value t.roots other ≡ root_value s.roots other)
passed_same stages s pool events t passed = let left = passed_leaves stages s pool events t passed in same_parts s t left.graph left.roots left.stack

pub makes_none_same : (s t : State) (root : List ℕ) (fields : ℕ) (guard : Guard) (style : Style) (events : List Event) (reply : Reply) →
    AnswersNew s root fields guard style events reply t → ((name address : ℕ) → reply ≢ Made name address) →
    (t.graph ≡ s.graph) × (t.stack ≡ s.stack) × ((other : List ℕ) → IsIdent other → root_value t.roots other ≡ root_value s.roots other)
makes_none_same s t root fields guard style events (Made name address) e none = absurd (none name address refl)
makes_none_same s t root fields guard style events FullReply e none = passed_same all_stages s (pool_for fields) events t e.passed
makes_none_same s t root fields guard style events NoMemory e none = ⊎_elim
    (λ lacks. same_state s t lacks.unchanged)
    (λ lacks. passed_same stages_before_page s (pool_for fields) events t lacks.passed)
    e.1
makes_none_same s t root fields guard style events (Refused why) e none = same_state s t e.3
makes_none_same s t root fields guard style events _ e none = absurd e
