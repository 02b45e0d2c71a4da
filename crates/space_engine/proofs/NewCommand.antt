-- What `new` answers, and the states after it.
use Rattle.std.proofs.Common.{◌≡◌, ◌≢◌, ℕ, zero, suc, ◌+◌, ◌<◌, ◌≤◌, ◌^◌, Bool, List, [], ◌∷◌, ◌++◌, length, map, refl, sym, ap, ◌∙◌, subst, arith, None, ⊎_elim, inl, inr}
use mathlib.Core.List.{append_assoc}
use Rattle.std.proofs.lemmas.Bool.{cases_Bool}
use Rattle.std.proofs.lemmas.List.{append-nil}
use Rattle.space_model.specs.declared.command.Command.TheVariants.{New}
use Rattle.space_model.specs.declared.event.Event.TheVariants.{Gone, Verdict}
use Rattle.space_model.specs.declared.event.Kind.TheVariants.{Major, Full}
use Rattle.space_model.specs.declared.object.Guard.{Guard}
use Rattle.space_model.specs.declared.object.Style.{Style}
use Rattle.space_model.specs.declared.reply.Refusal.TheVariants.{TooLarge}
use Rattle.space_model.specs.declared.reply.Reply.{Reply}
use Rattle.space_model.specs.declared.reply.Reply.TheVariants.{Made, Full as FullReply, NoMemory, Refused}
use Rattle.space_model.specs.Graph.{Item}
use Rattle.space_model.specs.Layout.{most_fields, pool_for}
use Rattle.space_model.specs.Outputs.{Told}
use Rattle.space_model.specs.Places.{HasNoFreeAddress}
use Rattle.space_model.specs.State.{State}
use Rattle.space_model.specs.Texts.{AreSpelled}
use Rattle.space_model.specs.Verdicts.{verdict_events}
use Rattle.space_model.specs.declared.event.Event.{Event}
use Rattle.space_model.specs.declared.phase.Phase.TheVariants.{Idle, Marking}
use Rattle.space_model.specs.Collections.{IsCollection}
use Rattle.space_model.specs.Completions.{CompletesIn, Completes}
use Rattle.space_model.specs.Counts.{CountIs}
use Rattle.space_model.specs.NewCommand.{SweepsInNeed, IsCompacting}
use Rattle.space_model.specs.Reach.{Reach}
use Rattle.space_model.specs.Sound.{Sound}
use Rattle.space_model.proofs.Stages.{IsAtLimit, finds_at_once, finds_late, makes_none, place_leaves, still_collected, tried_swept, lacks_page as lacks_page_after}
use Rattle.space_model.proofs.WholeLaws.{collection_scans, completed_idle}
use Rattle.space_finals.specs.FinalLists.{FinalLists}
use Rattle.space_heap.specs.Allocations.{LacksRoom, NeedsNewPage}
use Rattle.space_heap.specs.FreeSlots.{HasNoFree, is_free_at}
use Rattle.space_heap.specs.HeapView.{HeapView}
use Rattle.space_heap.specs.SoundHeap.{IsSoundHeap}
use Rattle.space_roots.specs.WordRoots.{root_word}
use Rattle.space_engine.specs.Allocations.{IsReserved, IsCompletedInNeed, NeedsCompletion, IsRootedAllocation, IsGivenUp, IsFirstReply, IsLastReply, IsLateReply, IsCreation}
use Rattle.space_engine.specs.Answered.{IsLawfulAnswer}
use Rattle.space_engine.specs.Stands.{Represents, Holds}
use Rattle.space_engine.specs.Steps.{AnswersWith}
use Rattle.space_engine.specs.Ticks.{AreCompletionScans, IsMarkingTicked, IsResting, IsTicked}
use Rattle.space_engine.specs.Turns.{IsCompacting as HeapCompacts}
use Rattle.space_engine.specs.Views.{View, with_swept}
use Rattle.space_engine.specs.HeapCollections.{IsCompletion}
use Rattle.space_engine.proofs.Collecting.{CompletesTo, CollectsTo, completes_to, completion_spelled, collects_to, collection_spelled}
use Rattle.space_collector.specs.GoneNames.{gone_names}
use Rattle.space_collector.specs.PagesSwept.{SweepsUntilFree}
use Rattle.space_engine.proofs.FreeAddresses.{free_agrees}
use Rattle.space_engine.proofs.NeededCompletions.{IsTriedInNeed, needed, unneeded_still}
use Rattle.space_engine.proofs.NewPlaces.{made_from, full_state, needs_page}
use Rattle.space_engine.proofs.NewTurns.{born_swept}
use Rattle.space_engine.proofs.OutputLists.{spelled_both}
use Rattle.space_engine.proofs.Reading.{root_absent}
use Rattle.space_engine.proofs.ReservedRoots.{CompletesBefore, CollectsBefore, heap_reserved, reserved_after, completion_reserved, collection_reserved, allocated_at_once, dropped_reserved}
use Rattle.space_engine.proofs.SweptInNeed.{SweepsUntilFreeTo, until_free_holds, completes_in_vain, none_free_there}

not_major : Full ≢ Major
not_major e = cc

-- a collection that completes what nothing is under way begins where it stands
idle_first : (s t : State) (events : List Event) → s.collector.phase ≡ Idle → Completes s events t → t ≡ s
idle_first s t events idle c = (subst (λ phase. CompletesIn phase s events t) idle c).1

-- outside a marking a completion scans nothing
none_ended : (s : State) → s.collector.phase ≢ Marking → AreCompletionScans s 0
none_ended s other = record { marking = λ marking. absurd (other marking); others = λ rests resting. refl }

-- a whole collection after sweeps in vain is one of the state before them: where pages waited the sweeps were its completion, and where none did
-- nothing was done before it
after_sweeps : (pages : ℕ) (s : State) (pool : ℕ) (t : State) → Sound s → SweepsInNeed pages s pool t → t.heap.unswept ≡ [] →
    (u : State) (events : List Event) (ended scans : ℕ) → IsCollection t Full events scans u → AreCompletionScans t ended → (ticks ticked : ℕ) →
    ticked ≡ ticks + ended + scans → IsMarkingTicked s ticks ticked
after_sweeps zero s pool t h same none u events ended scans c are ticks ticked rose = subst (λ s. IsMarkingTicked s ticks ticked) same (record {
  idle = c.idle;
  completion = c.completion;
  completes = c.completes;
  scans = scans;
  scanned = collection_scans t u events scans c;
  ticked = record { ended = ended; ended_are = are; ticked = rose };
})
after_sweeps (suc pages) s pool t h sweeps none u events ended scans c are ticks ticked rose =
    let (at, completes) = completes_in_vain pages s pool t h none sweeps in
    let idle = completed_idle s t [] completes h in
    let nothing : ended ≡ 0 = are.others (λ e. cc) ((λ e. cc), (λ e. cc)) in
    record {
      idle = t;
      completion = [];
      completes = completes;
      scans = scans;
      scanned = subst (λ idle. CountIs (Reach idle) scans) (idle_first t c.idle c.completion idle c.completes) (collection_scans t u events scans c);
      ticked = record { ended = 0; ended_are = none_ended s (λ e. cc); ticked = omega (arith, nothing, rose) };
    }

-- what the space stands for after a place was made for the root and the compaction that was under way was completed in need: `plain` is it without
-- the place
record ReadiesTo (v r : View) (s : State) (root : List ℕ) (is_new : Bool) (pool : ℕ) (events : List Event) : Type 0 where
  plain : View
  reserved : IsReserved plain r root is_new
  state : State
  tried : IsTriedInNeed s pool events state
  holds : Holds plain state
  -- its lines can be written
  spelled : v.heap.counters.born < 2 ^ 62 → AreSpelled (map Told events)

module _ (v place r : View) (root : List ℕ) (is_new : Bool) (pool : ℕ) (events : List Event) (reserved : IsReserved v place root is_new)
    (c : IsCompletedInNeed place r pool events) (s : State) (h : Holds v s) where
  same_heap : place.heap ≡ v.heap
  same_heap = heap_reserved v place root is_new reserved

  compacts_there : IsCompacting s → HeapCompacts place.heap
  compacts_there compacting =
      let at = ap (λ (heap : HeapView). heap.phase) same_heap ∙ h.represents.heap.progress.at in
      ⊎_elim (λ moving. inl (at ∙ moving)) (λ fixing. inr (at ∙ fixing)) compacting

  compacts_from : HeapCompacts place.heap → IsCompacting s
  compacts_from compacting =
      let at = sym h.represents.heap.progress.at ∙ ap (λ (heap : HeapView). heap.phase) (sym same_heap) in
      ⊎_elim (λ moving. inl (at ∙ moving)) (λ fixing. inr (at ∙ fixing)) compacting

  sound_before : HeapCompacts place.heap → IsSoundHeap v.heap
  sound_before compacting = subst IsSoundHeap same_heap (c.was_sound compacting)

  -- where no address is free in the state, none is in the heap
  none_from : IsSoundHeap v.heap → HasNoFreeAddress s pool → HasNoFree v.heap pool
  none_from sound none = λ a. ⊎_elim
      (λ is. absurd (none a ((free_agrees s v.heap h.represents.heap sound pool a).1 is)))
      (λ e. e)
      (cases_Bool (is_free_at v.heap pool a))

  unneeded_there : (NeedsCompletion place.heap pool → ⊥) → IsCompacting s → HasNoFreeAddress s pool → ⊥
  unneeded_there needless compacting none =
      let there = compacts_there compacting in
      needless (there, subst (λ heap. HasNoFree heap pool) (sym same_heap) (none_from (sound_before there) none))

  needed_to : HeapCompacts place.heap → HasNoFree place.heap pool → (scans : ℕ) → IsCompletion place r scans events →
      ReadiesTo v r s root is_new pool events
  needed_to compacting none scans completes =
      let before : CompletesBefore v r root is_new scans events = completion_reserved v s h scans events place r root is_new reserved completes in
      let to : CompletesTo before.plain s scans events = completes_to v s h before.plain scans events before.completes in
      record {
        plain = before.plain;
        reserved = before.reserved;
        state = to.state;
        tried = inl (needed s pool events to.state h.sound to.holds.sound (compacts_from compacting)
            (none_free_there v s pool h.represents (sound_before compacting) (subst (λ heap. HasNoFree heap pool) same_heap none))
            to.completes);
        holds = to.holds;
        spelled = completion_spelled v s h before.plain scans events before.completes;
      }

  unneeded_to : (NeedsCompletion place.heap pool → ⊥) → events ≡ [] → r ≡ place → ReadiesTo v r s root is_new pool events
  unneeded_to needless none same = record {
    plain = v;
    reserved = subst (λ (r : View). IsReserved v r root is_new) (sym same) reserved;
    state = s;
    tried = inr (record { unneeded = unneeded_there needless; silent = none; same = refl });
    holds = h;
    spelled = λ few. subst (λ events. AreSpelled (map Told events)) (sym none) tt;
  }

  readies : ReadiesTo v r s root is_new pool events
  readies = ⊎_elim
      (λ (needs, scans, completes). needed_to needs.0 needs.1 scans completes)
      (λ (needless, none, same). unneeded_to needless none same)
      c.done

  -- where no compaction is under way nothing was done
  pub silent_resting : IsResting s → (NeedsCompletion place.heap pool → ⊥) × (events ≡ [])
  silent_resting resting =
      let needless : NeedsCompletion place.heap pool → ⊥ = λ needs. ⊎_elim resting.0 resting.1 (compacts_from needs.0) in
      (needless, ⊎_elim (λ (needs, scans, completes). absurd (needless needs)) (λ (other, none, same). none) c.done)

module _ (root : List ℕ) (fields : ℕ) (guard : Guard) (style : Style) where
  -- an object can't have so many fields
  pub too_large : (v : View) (s : State) → Holds v s → most_fields < fields → AnswersWith s v (New root fields guard style) [] (Refused TooLarge)
  too_large v s h many = record {
    state = s;
    represents = h.represents;
    effects = record { reply = Refused TooLarge; answer_is = refl; is = (many, refl, refl, refl) };
  }

  -- there is no memory for the root, which is new
  pub lacks_root : (v : View) (s : State) → Holds v s → fields ≤ most_fields → root_word v.roots root ≡ None →
      AnswersWith s v (New root fields guard style) [] NoMemory
  lacks_root v s h few none = record {
    state = s;
    represents = h.represents;
    effects = record { reply = NoMemory; answer_is = refl; is = (few, inl (record { absent = root_absent v s h root none; silent = refl; unchanged = refl })) };
  }

  -- the count rose as the events tell

  ticked_first : (s : State) (events : List Event) (reply : Reply) (ticks ticked : ℕ) → (IsResting s → (events ≡ []) × (ticked ≡ ticks)) →
      IsTicked s (New root fields guard style) events reply ticks ticked
  ticked_first s [] reply ticks ticked so = λ resting. (so resting).1
  ticked_first s (event ∷ events) reply ticks ticked so = λ resting. (let none = (so resting).0 in absurd (cc))

  ticked_verdict : (s : State) (before : List Event) (names : List ℕ) (k : ℕ) (reply : Reply) (ticks ticked : ℕ) →
      (IsResting s → IsMarkingTicked s ticks ticked) →
      IsTicked s (New root fields guard style) (before ++ (map Gone names ++ Verdict Full k ∷ [])) reply ticks ticked
  ticked_verdict s [] [] k reply ticks ticked so = so
  ticked_verdict s [] (name ∷ names) k reply ticks ticked so = so
  ticked_verdict s (event ∷ before) names k reply ticks ticked so = so

  -- `v` is the view before a place was made for the root, `place` the one after it, and `r` the one after a compaction was completed in need
  module _ (v place r w : View) (is_new : Bool) (reserved : IsReserved v place root is_new) (told : List Event)
      (c : IsCompletedInNeed place r (pool_for fields) told) (few : fields ≤ most_fields) where
    abbrev pool : ℕ
    pool = pool_for fields

    module _ (s : State) (h : Holds v s) where
      x : ReadiesTo v r s root is_new pool told
      x = readies v place r root is_new pool told reserved c s h

      sound_plain : IsSoundHeap r.heap → IsSoundHeap x.plain.heap
      sound_plain sound = subst IsSoundHeap (heap_reserved x.plain r root is_new x.reserved) sound

      swept_plain : (z : HeapView) (g : FinalLists) → SweepsUntilFree r.heap r.finals z g pool → SweepsUntilFree x.plain.heap x.plain.finals z g pool
      swept_plain z g swept = subst (λ (u : View). SweepsUntilFree u.heap u.finals z g pool) x.reserved.becomes swept

      -- an object was allocated at once, or after pages were swept
      made_at_once : (name a : ℕ) → IsRootedAllocation r w root fields guard style name a → AnswersWith s w (New root fields guard style) told (Made name a)
      made_at_once name a allocated =
          let m = made_from x.plain w s x.state root fields guard style name a told x.holds x.tried
          (allocated_at_once x.plain r root is_new x.reserved w fields guard style name a allocated) in
          let place = finds_at_once s pool told m.ready a m.place in
          record {
            state = m.state;
            represents = m.represents;
            effects = record {
              reply = Made name a;
              answer_is = refl;
              is = record {
                few = few;
                next = m.next ∙ ap (λ (graph : List Item). length graph + 1) (place_leaves s pool told m.ready a place).graph;
                ready = m.ready;
                place = place;
                made = m.made;
              };
            };
          }

      -- there is no memory for a new page, after pages were swept in vain
      lacks_page : NeedsNewPage w.heap pool → IsGivenUp r w root is_new pool → AnswersWith s w (New root fields guard style) told NoMemory
      lacks_page needs given =
          let to : SweepsUntilFreeTo x.plain x.state w.heap w.finals pool =
          until_free_holds x.plain x.state w.heap w.finals pool x.holds (sound_plain given.was_sound) given.sound
          (swept_plain w.heap w.finals given.sweeps) in
          let n = needs_page x.plain s x.state pool told x.tried w.heap w.finals to needs in
          record {
            state = to.state;
            represents = subst (λ (w : View). Represents w to.state)
                (sym (given.becomes ∙ dropped_reserved x.plain r root is_new x.reserved w.heap w.finals))
                to.holds.represents;
            effects = record {
              reply = NoMemory;
              answer_is = refl;
              is = (few, inr (lacks_page_after s fields told to.state n.0 n.1));
            };
          }

      first_answer : (reply : Reply) → IsFirstReply r w root is_new fields guard style reply → AnswersWith s w (New root fields guard style) told reply
      first_answer (Made name a) first = made_at_once name a first
      first_answer NoMemory first = lacks_page first.0 first.1
      first_answer _ first = absurd first

      -- a whole collection came first
      module _ (reply : Reply) (ended scans : ℕ) (events : List Event)
          (late : IsLateReply r w root is_new fields guard style reply ended scans events) where
        -- after the sweeps
        abbrev u : View
        u = late.limited

        abbrev plain_limited : View
        plain_limited = with_swept x.plain u.heap u.finals

        swept : SweepsUntilFreeTo x.plain x.state u.heap u.finals pool
        swept = until_free_holds x.plain x.state u.heap u.finals pool x.holds (sound_plain late.swept.was_sound) late.swept.sound
            (swept_plain u.heap u.finals late.swept.sweeps)

        abbrev limited : State
        limited = swept.state

        limit : IsAtLimit s pool told limited
        limit = full_state x.plain s x.state pool told x.tried u.heap u.finals swept late.lacks

        -- after the collection
        abbrev there : View
        there = late.retried.collected

        before : CollectsBefore plain_limited there root is_new ended scans events
        before = collection_reserved plain_limited limited swept.holds u there root is_new
            (reserved_after x.plain r u root is_new pool x.reserved late.swept) ended scans events late.retried.collects

        to : CollectsTo before.plain limited Full ended scans events
        to = collects_to plain_limited limited swept.holds before.plain Full not_major ended scans events before.collects

        tried_again : IsTriedInNeed to.state pool [] to.state
        tried_again = unneeded_still to.state pool (still_collected limited to.state events scans to.collects)

        -- an object was allocated after it
        late_made : (name a : ℕ) → IsRootedAllocation there w root fields guard style name a →
            AnswersWith s w (New root fields guard style) (told ++ events) (Made name a)
        late_made name a allocated =
            let m = made_from before.plain w to.state to.state root fields guard style name a [] to.holds tried_again
            (allocated_at_once before.plain there root is_new before.reserved w fields guard style name a allocated) in
            let place = finds_late s limited to.state pool told events scans limit to.collects [] m.ready a m.place in
            record {
              state = m.state;
              represents = m.represents;
              effects = record {
                reply = Made name a;
                answer_is = refl;
                is = record {
                  few = few;
                  next = m.next ∙ ap (λ (graph : List Item). length graph + 1) (place_leaves s pool (told ++ events) m.ready a place).graph;
                  ready = m.ready;
                  place = place;
                  made = m.made;
                };
              };
            }

        -- there was no room after it either
        late_none : LacksRoom w.heap pool → IsGivenUp there w root is_new pool →
            AnswersWith s w (New root fields guard style) (told ++ events) FullReply
        late_none still given =
            let sound = subst IsSoundHeap (heap_reserved before.plain there root is_new before.reserved) given.was_sound in
            let sweeps = subst (λ (u : View). SweepsUntilFree u.heap u.finals w.heap w.finals pool) before.reserved.becomes given.sweeps in
            let end : SweepsUntilFreeTo before.plain to.state w.heap w.finals pool =
            until_free_holds before.plain to.state w.heap w.finals pool to.holds sound given.sound sweeps in
            let full = full_state before.plain to.state to.state pool [] tried_again w.heap w.finals end still in
            record {
              state = end.state;
              represents = subst (λ (w : View). Represents w end.state)
                  (sym (given.becomes ∙ dropped_reserved before.plain there root is_new before.reserved w.heap w.finals))
                  end.holds.represents;
              effects = record {
                reply = FullReply;
                answer_is = refl;
                is = makes_none s limited to.state pool told events scans limit to.collects [] end.state fields few refl full;
              };
            }

        late_by : (reply : Reply) → IsLastReply there w root is_new fields guard style reply →
            AnswersWith s w (New root fields guard style) (told ++ events) reply
        late_by (Made name a) last = late_made name a last
        late_by FullReply last = late_none last.0 last.1
        late_by _ last = absurd last

        late_answer : AnswersWith s w (New root fields guard style) (told ++ events) reply
        late_answer = late_by reply late.retried.last

        -- its lines can be written
        late_spelled : r.heap.counters.born < 2 ^ 62 → AreSpelled (map Told events)
        late_spelled born =
            let same = born_swept r.heap r.finals u.heap u.finals pool late.swept.was_sound late.swept.sweeps in
            collection_spelled plain_limited limited swept.holds before.plain Full not_major ended scans events before.collects (omega (arith, same, born))

        -- the ledger's count rose by the scans of the collection
        late_rose : (ticks middle ticked : ℕ) → ((NeedsCompletion place.heap pool → ⊥) → middle ≡ ticks) → ticked ≡ middle + (ended + scans) →
            IsResting s → IsMarkingTicked s ticks ticked
        late_rose ticks middle ticked still rose resting =
            let same : middle ≡ ticks = still (silent_resting v place r root is_new pool told reserved c s h resting).0 in
            let vain = (tried_swept s pool told limited limit.vain (λ compacting. ⊎_elim resting.0 resting.1 compacting)).1 in
            after_sweeps vain.pages s pool limited h.sound vain.sweeps vain.none_waits to.state events ended scans to.collects to.ended_are ticks ticked
            (omega (arith, same, rose))

        late_ticked : (ticks middle ticked : ℕ) → ((NeedsCompletion place.heap pool → ⊥) → middle ≡ ticks) → ticked ≡ middle + (ended + scans) →
            IsTicked s (New root fields guard style) (told ++ events) reply ticks ticked
        late_ticked ticks middle ticked still rose =
            let its = late.retried.collects in
            let names : List ℕ = gone_names there.heap in
            let events_are : told ++ events ≡ (told ++ its.completion) ++ verdict_events Full names =
            ap (λ events. told ++ events) (its.events_are ∙ ap (λ last. its.completion ++ last) its.tells.events_are)
            ∙ sym (append_assoc told its.completion (verdict_events Full names)) in
            subst (λ events. IsTicked s (New root fields guard style) events reply ticks ticked) (sym events_are)
            (ticked_verdict s (told ++ its.completion) names (length names) reply ticks ticked (late_rose ticks middle ticked still rose))

    module _ (reply : Reply) (scans : ℕ) (events : List Event) (creates : IsCreation r w root is_new fields guard style reply scans events) where
      answer : (s : State) → Holds v s → AnswersWith s w (New root fields guard style) (told ++ events) reply
      answer s h = ⊎_elim
          (λ (first, none, no_scans).
          subst (λ events. AnswersWith s w (New root fields guard style) events reply) (sym (append-nil told) ∙ ap (λ events. told ++ events) (sym none))
          (first_answer s h reply first))
          (λ (ended, whole, late, sum). late_answer s h reply ended whole events late)
          creates

      spelled : v.heap.counters.born < 2 ^ 62 → r.heap.counters.born < 2 ^ 62 → (s : State) → Holds v s → AreSpelled (map Told (told ++ events))
      spelled born later s h =
          spelled_both told events ((x s h).spelled born)
          (⊎_elim
          (λ (first, none, no_scans). subst (λ events. AreSpelled (map Told events)) (sym none) tt)
          (λ (ended, whole, late, sum). late_spelled s h reply ended whole events late later)
          creates)

      pub lawful : v.heap.counters.born < 2 ^ 62 → r.heap.counters.born < 2 ^ 62 →
          IsLawfulAnswer v w (New root fields guard style) (told ++ events) reply
      lawful born later = record { answers = answer; spelled = spelled born later }

      pub ticked_so : (ticks middle ticked : ℕ) → ((NeedsCompletion place.heap pool → ⊥) → middle ≡ ticks) → ticked ≡ middle + scans →
          (s : State) → Holds v s → IsTicked s (New root fields guard style) (told ++ events) reply ticks ticked
      ticked_so ticks middle ticked still rose s h = ⊎_elim
          (λ (first, none, no_scans).
          subst (λ events. IsTicked s (New root fields guard style) events reply ticks ticked) (sym (append-nil told) ∙ ap (λ events. told ++ events) (sym none))
          (ticked_first s told reply ticks ticked (λ resting.
          let (needless, silent) = silent_resting v place r root is_new pool told reserved c s h resting in
          let same = still needless in
          (silent, omega (arith, same, rose, no_scans)))))
          (λ (ended, whole, late, sum).
          late_ticked s h reply ended whole events late ticks middle ticked still (omega (arith, rose, sum)))
          creates
