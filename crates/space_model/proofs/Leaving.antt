-- What work of the collector leaves: what it took is gone and was told, and all else is as it was.
use Rattle.std.proofs.Common.{◌≡◌, ℕ, zero, suc, not, ◌⊎◌, ◌&&◌, true, false, List, [], ◌∷◌, ◌++◌, length, map, nat_eq, refl, sym, ap, ◌∙◌, subst, ⊎_elim, inl, inr, Some}
use Rattle.std.specs.Prelude.{◌↔◌, is_some}
use Rattle.std.specs.List.{IsDistinct}
use Rattle.std.specs.Set.{is_member}
use Rattle.std.specs.FinMap.{get}
use Rattle.std.proofs.lemmas.Bool.{or_from, false_from_ne_true, false≢true}
use Rattle.std.proofs.lemmas.List.{append-nil}
use Rattle.std.proofs.lemmas.List.Folds.{list_any-append}
use Rattle.space_model.specs.declared.event.Event.{Event}
use Rattle.space_model.specs.declared.event.Kind.{Kind}
use Rattle.space_model.specs.declared.phase.Phase.{Phase}
use Rattle.space_model.specs.declared.phase.Phase.TheVariants.{Idle, Marking, Sweeping, Moving, Fixing}
use Rattle.space_model.specs.Compaction.{IsPinned}
use Rattle.space_model.specs.Finalizers.{labels_of}
use Rattle.space_model.specs.Graph.{item_of, IsChild}
use Rattle.space_model.specs.Maps.{without}
use Rattle.space_model.specs.Markings.{StartMark, GivesVerdict}
use Rattle.space_model.specs.Outputs.{Told}
use Rattle.space_model.specs.Pages.{pool_pages}
use Rattle.space_model.specs.Reach.{IsStart, Reach, Named}
use Rattle.space_model.specs.State.{State, Tables, is_present}
use Rattle.space_model.specs.Sweeps.{sweep_phase, Sweep1, Sweeps}
use Rattle.space_model.specs.ToldInOrder.{AreToldInOrder}
use Rattle.space_model.specs.WeakMaps.{entries_left}
use Rattle.space_model.proofs.EntryLaws.{all_left}
use Rattle.space_model.proofs.MapLaws.{some_get, held_without}
use Rattle.space_model.proofs.Members.{member_cases}
use Rattle.space_model.proofs.Reaching.{IsReached-start, IsReached-mono}
use Rattle.space_model.proofs.PageLaws.{length-spared}
use Rattle.space_model.proofs.Queueing.{ran_among, ran_verdict_events, Queues, queues_none, queues_swept_page}
use Rattle.space_model.proofs.Taking.{there-without, Takes, there_before, not_taken, takes_then}
use Rattle.space_model.proofs.ToldNames.{gone_among, gone_verdict_events, moved_among, moved_among-append, moved_verdict_events, told_place, told_place-unmoved, IsDistinct-rising, verdict_in_order}

-- the names that were taken were present and not reached, and are gone, and entries of weak maps went with them; each other name stands where the
-- moves that were told put it. They were told in order
-- a move is told of no name that is pinned, and only while objects may move, which isn't so after names were taken
pub record Leaves (s : State) (events : List Event) (t : State) : Type 0 where
  pub taken : List ℕ
  pub told : gone_among events ≡ taken
  pub present : (n : ℕ) → is_member nat_eq taken n ≡ true → is_present s n ≡ true
  pub unreached : (n : ℕ) → is_member nat_eq taken n ≡ true → Reach s n → ⊥
  pub order : AreToldInOrder s.heap.place [] (map Told events)
  pub once : IsDistinct nat_eq taken
  pub there : (n : ℕ) → is_present t n ≡ (not (is_member nat_eq taken n) && is_present s n)
  pub place : (n : ℕ) → is_present t n ≡ true → get t.heap.place n ≡ get (told_place s.heap.place events) n
  pub pinned : (n : ℕ) → IsPinned s n → is_member nat_eq (moved_among events) n ≡ false
  pub unmoving : (s.collector.phase ≡ Moving → ⊥) → moved_among events ≡ []
  pub still : t.collector.phase ≡ Moving → (taken ≡ []) × (s.collector.phase ≡ Moving)
  pub graph : t.graph ≡ s.graph
  pub roots : t.roots ≡ s.roots
  pub stack : t.stack ≡ s.stack
  pub limit : t.heap.limit ≡ s.heap.limit
  pub page_count : length t.heap.pages ≡ length s.heap.pages
  pub ids : t.tables.ids ≡ s.tables.ids
  pub weak : t.tables.weak ≡ entries_left taken s.tables.weak
  pub silent : ran_among events ≡ []
  pub queues : Queues s t

-- what was taken, whether or not it was reached
pub takes_of : (s t : State) (events : List Event) (h : Leaves s events t) → Takes s events h.taken t
takes_of s t events h = record {
  told = h.told;
  present = h.present;
  order = h.order;
  once = h.once;
  there = h.there;
  place = h.place;
  graph = h.graph;
  limit = h.limit;
  page_count = h.page_count;
  ids = h.ids;
  weak = h.weak;
  silent = h.silent;
  queues = h.queues;
}

-- where nothing is taken and nothing moves, and maybe finalizers are queued
pub leaves_queued : (s t : State) → t.graph ≡ s.graph → t.roots ≡ s.roots → t.stack ≡ s.stack → t.heap.place ≡ s.heap.place → t.heap.limit ≡ s.heap.limit →
    length t.heap.pages ≡ length s.heap.pages → t.tables.ids ≡ s.tables.ids → t.tables.weak ≡ s.tables.weak → Queues s t →
    (t.collector.phase ≡ Moving → s.collector.phase ≡ Moving) → Leaves s [] t
unfolding IsDistinct
leaves_queued s t graph roots stack place limit page_count ids weak queues phase = record {
  taken = [];
  told = refl;
  present = λ n m. absurd (false≢true m);
  unreached = λ n m r. false≢true m;
  order = refl;
  once = tt;
  there = λ n. ap (λ place. is_some (get place n)) place;
  place = λ n p. ap (λ place. get place n) place;
  pinned = λ n p. refl;
  unmoving = λ other. refl;
  still = λ e. (refl, phase e);
  graph = graph;
  roots = roots;
  stack = stack;
  limit = limit;
  page_count = page_count;
  ids = ids;
  weak = weak ∙ sym (all_left s.tables.weak);
  silent = refl;
  queues = queues;
}

-- where the tables stay too
pub leaves_all : (s t : State) → t.graph ≡ s.graph → t.roots ≡ s.roots → t.stack ≡ s.stack → t.heap.place ≡ s.heap.place → t.heap.limit ≡ s.heap.limit →
    length t.heap.pages ≡ length s.heap.pages → t.tables ≡ s.tables → (t.collector.phase ≡ Moving → s.collector.phase ≡ Moving) → Leaves s [] t
leaves_all s t graph roots stack place limit page_count tables phase =
    leaves_queued s t graph roots stack place limit page_count (ap (λ (tables : Tables). tables.ids) tables) (ap (λ (tables : Tables). tables.weak) tables)
    (queues_none s t tables) phase

pub leaves_same : (s t : State) → t ≡ s → Leaves s [] t
leaves_same s t e = subst (Leaves s []) (sym e) (leaves_all s s refl refl refl refl refl refl refl (λ e. e))

module _ (s : State) (events : List Event) (t : State) (h : Leaves s events t) where
  -- what isn't taken, and isn't moved, stands where it stood
  pub stays : (n : ℕ) → is_member nat_eq h.taken n ≡ false → is_member nat_eq (moved_among events) n ≡ false → get t.heap.place n ≡ get s.heap.place n
  stays n out unmoved = not_taken s events h.taken t (takes_of s t events h) n out unmoved

  child_before : (m n : ℕ) → IsChild t.graph m n → IsChild s.graph m n
  child_before m n c = subst (λ graph. IsChild graph m n) h.graph c

  child_after : (m n : ℕ) → IsChild s.graph m n → IsChild t.graph m n
  child_after m n c = subst (λ graph. IsChild graph m n) (sym h.graph) c

  named_after : (word n : ℕ) → is_member nat_eq s.stack word ≡ true → Named s word n → Named t word n
  named_after word n m at =
      stays n (false_from_ne_true _ (λ taken. h.unreached n taken (IsReached-start (IsChild s.graph) (IsStart s) n (inr (word, m, at)))))
      (h.pinned n (inl (word, m, at)))
      ∙ at

  -- what was reached is
  pub leaves_reached : (n : ℕ) → Reach s n → Reach t n
  leaves_reached = IsReached-mono (IsChild s.graph) (IsChild t.graph) (IsStart s) (IsStart t) child_after
      (λ n start. IsReached-start (IsChild t.graph) (IsStart t) n (⊎_elim
      (λ r. inl (rw h.roots r))
      (λ (word, m, at). inr (word, rw h.stack m, named_after word n m at))
      start))

  -- where no move is told
  module _ (unmoved : moved_among events ≡ []) where
    stood : (n a : ℕ) → get t.heap.place n ≡ Some a → get s.heap.place n ≡ Some a
    stood n a e =
        sym (stays n (there_before s events h.taken t (takes_of s t events h) n (ap is_some e)).0 (ap (λ names. is_member nat_eq names n) unmoved)) ∙ e

    reached_before : (n : ℕ) → Reach t n → Reach s n
    reached_before = IsReached-mono (IsChild t.graph) (IsChild s.graph) (IsStart t) (IsStart s) child_before
        (λ n start. IsReached-start (IsChild s.graph) (IsStart s) n (⊎_elim
        (λ r. inl (rw (sym h.roots) r))
        (λ (word, m, at). inr (word, rw (sym h.stack) m, stood n word at))
        start))

    -- the same names are reached
    pub leaves_reach : (n : ℕ) → Reach t n ↔ Reach s n
    leaves_reach n = ((λ r. reached_before n r), (λ r. leaves_reached n r))

  -- where nothing was taken, what was pinned is
  pinned_after : h.taken ≡ [] → (n : ℕ) → IsPinned s n → IsPinned t n
  pinned_after none n pin = ⊎_elim
      (λ (word, m, at). inl (word, rw h.stack m, named_after word n m at))
      (λ held. inr (record {
        parent = held.parent;
        present = h.there held.parent ∙ ap (λ names. not (is_member nat_eq names held.parent) && is_present s held.parent) none ∙ held.present;
        keeping = ap (λ graph. (item_of graph held.parent).style) h.graph ∙ held.keeping;
        holds = child_after held.parent n held.holds;
      }))
      pin

moving_or_not : (phase : Phase) → (phase ≡ Moving) ⊎ (phase ≡ Moving → ⊥)
moving_or_not Idle = inr (λ e. cc)
moving_or_not Marking = inr (λ e. cc)
moving_or_not Sweeping = inr (λ e. cc)
moving_or_not Moving = inl refl
moving_or_not Fixing = inr (λ e. cc)

-- two pieces of work, one after the other
pub leaves_then : (s m t : State) (now later : List Event) → Leaves s now m → Leaves m later t → Leaves s (now ++ later) t
leaves_then s m t now later h k =
    let both = takes_then s m t now later h.taken k.taken (takes_of s m now h) (takes_of m t later k) in
    let among_later : (n : ℕ) → IsPinned s n → is_member nat_eq (moved_among later) n ≡ false =
    λ n pin. ⊎_elim
    (λ moves. k.pinned n (pinned_after s now m h (h.still moves).0 n pin))
    (λ other. ap (λ names. is_member nat_eq names n) (k.unmoving other))
    (moving_or_not m.collector.phase) in
    record {
      taken = h.taken ++ k.taken;
      told = both.told;
      present = both.present;
      unreached = λ n among r. ⊎_elim
          (λ first. h.unreached n first r)
          (λ second. k.unreached n second (leaves_reached s now m h n r))
          (member_cases h.taken k.taken n among);
      order = both.order;
      once = both.once;
      there = both.there;
      place = both.place;
      pinned = λ n pin.
          ap (λ names. is_member nat_eq names n) (moved_among-append now later)
          ∙ list_any-append (nat_eq n) (moved_among now) (moved_among later)
          ∙ or_from _ _ (h.pinned n pin) (among_later n pin);
      unmoving = λ other.
          moved_among-append now later
          ∙ ap (λ names. names ++ moved_among later) (h.unmoving other)
          ∙ k.unmoving (λ moves. other (h.still moves).1);
      still = λ moves.
          let first = k.still moves in
          let before = h.still first.1 in
          (ap (λ names. names ++ k.taken) before.0 ∙ first.0, before.1);
      graph = both.graph;
      roots = k.roots ∙ h.roots;
      stack = k.stack ∙ h.stack;
      limit = both.limit;
      page_count = both.page_count;
      ids = both.ids;
      weak = both.weak;
      silent = both.silent;
      queues = both.queues;
    }

-- the start of a marking
pub leaves_marked : (s t : State) → StartMark s t → Leaves s [] t
leaves_marked s t e = subst (Leaves s []) (sym e) (leaves_all s _ refl refl refl refl refl refl refl (λ e. e))

-- where pages may wait for a sweep nothing moves
pub sweeps_not_moving : (pages : List ℕ) → sweep_phase pages ≡ Moving → ⊥
sweeps_not_moving [] e = cc
sweeps_not_moving (page ∷ pages) e = cc

-- the sweep of a page
leaves_swept_page : (s t : State) (freed : List ℕ) → Sweep1 s freed t → Leaves s [] t
leaves_swept_page s t freed step =
    leaves_queued s t (ap (λ (u : State). u.graph) step.after) (ap (λ (u : State). u.roots) step.after) (ap (λ (u : State). u.stack) step.after)
    (ap (λ (u : State). u.heap.place) step.after) (ap (λ (u : State). u.heap.limit) step.after)
    (ap (λ (u : State). length u.heap.pages) step.after ∙ length-spared s.heap.place step.page s.heap.pages)
    (ap (λ (u : State). u.tables.ids) step.after) (ap (λ (u : State). u.tables.weak) step.after) (queues_swept_page s t freed step)
    (λ e. absurd (sweeps_not_moving step.others (sym (ap (λ (u : State). u.collector.phase) step.after) ∙ e)))

-- the sweep of some pages
pub leaves_swept : (pages : ℕ) (s t : State) (freed : List ℕ) → Sweeps pages s freed t → Leaves s [] t
leaves_swept zero s t freed (none, same) = leaves_same s t same
leaves_swept (suc pages) s t freed (now, later, mid, both, first, others) =
    leaves_then s mid t [] [] (leaves_swept_page s mid now first) (leaves_swept pages mid t later others)

-- a verdict
pub leaves_taken : (s : State) (kind : Kind) (taken : List ℕ) (events : List Event) (t : State) → GivesVerdict s kind taken events t → Leaves s events t
leaves_taken s kind taken events t v = record {
  taken = taken;
  told = ap gone_among v.events_are ∙ gone_verdict_events kind taken;
  present = v.verdict.present;
  unreached = v.verdict.unreached;
  order = subst (λ events. AreToldInOrder s.heap.place [] (map Told events)) (sym v.events_are) (verdict_in_order s.heap.place kind taken v.verdict.rising);
  once = IsDistinct-rising s.heap.place taken v.verdict.rising;
  there = λ n. ap (λ (u : State). is_present u n) v.takes ∙ there-without s.heap.place taken n;
  place = λ n p.
      let at : get t.heap.place n ≡ get (without s.heap.place taken) n = ap (λ (u : State). get u.heap.place n) v.takes in
      let there = some_get _ p in
      there.1
      ∙ sym (held_without s.heap.place taken n there.0 (sym at ∙ there.1)).0
      ∙ sym (told_place-unmoved s.heap.place events n (ap (λ names. is_member nat_eq names n) (none_moved v)));
  pinned = λ n pin. ap (λ names. is_member nat_eq names n) (none_moved v);
  unmoving = λ other. none_moved v;
  still = λ e. absurd (sweeps_not_moving (pool_pages s.heap.pages) (sym (ap (λ (u : State). u.collector.phase) v.takes) ∙ e));
  graph = ap (λ (u : State). u.graph) v.takes;
  roots = ap (λ (u : State). u.roots) v.takes;
  stack = ap (λ (u : State). u.stack) v.takes;
  limit = ap (λ (u : State). u.heap.limit) v.takes;
  page_count = ap (λ (u : State). length u.heap.pages) v.takes;
  ids = ap (λ (u : State). u.tables.ids) v.takes;
  weak = ap (λ (u : State). u.tables.weak) v.takes;
  silent = ap ran_among v.events_are ∙ ran_verdict_events kind taken;
  queues = record {
    queued = [];
    defined = λ name. ap (λ (u : State). labels_of u.tables.finals name) v.takes;
    queue = ap (λ (u : State). u.tables.queue) v.takes ∙ sym (append-nil s.tables.queue);
  };
}
  where
    none_moved : GivesVerdict s kind taken events t → moved_among events ≡ []
    none_moved v = ap moved_among v.events_are ∙ moved_verdict_events kind taken
