-- The commands of a compaction, from what was done to the heap and what was written; and their refusals.
use Rattle.std.proofs.Common.{◌≡◌, ◌≢◌, ◌⊎◌, ◌+◌, ◌≤◌, ◌&&◌, ℕ, Bool, true, false, List, map, inl, inr, sym, ap, ◌∙◌, refl, subst, arith, Option, Result, Ok, Err, ⊎_elim}
use Rattle.std.specs.Prelude.{OnOk, OnErr}
use Rattle.std.specs.Io.KnownBytes.{Appends}
use Rattle.space_io.specs.Sinks.{AppendsPrefix}
use Rattle.space_model.specs.declared.command.Command.TheVariants.{Compact, Move, Fix}
use Rattle.space_model.specs.declared.event.Event.{Event}
use Rattle.space_model.specs.declared.event.Kind.TheVariants.{Major, Full}
use Rattle.space_model.specs.declared.phase.Phase.TheVariants.{Idle, Sweeping, Moving, Fixing}
use Rattle.space_model.specs.declared.reply.Refusal.TheVariants.{NotCompacting}
use Rattle.space_model.specs.declared.reply.Reply.{Reply}
use Rattle.space_model.specs.declared.reply.Reply.TheVariants.{Scanned, MoveCount, FixCount, Refused}
use Rattle.space_model.specs.CompactCommands.{moving_begun as state_moving, AnswersFix, BeginsFixing}
use Rattle.space_model.specs.Compaction.{fixing_begun as state_fixing, compaction_ended as state_ended}
use Rattle.space_model.specs.Outputs.{Told}
use Rattle.space_model.specs.State.{State}
use Rattle.space_model.specs.Texts.{text_of}
use Rattle.space_finals.specs.FinalLists.{FinalLists}
use Rattle.space_heap.specs.HeapView.{Counters, HeapView}
use Rattle.space_heap.specs.Slots.{ObjectView}
use Rattle.space_heap.specs.SoundHeap.{IsSoundHeap}
use Rattle.space_heap.specs.Sweeping.{is_gone}
use Rattle.space_heap.specs.Walks.{HasNoObjectFrom}
use Rattle.space_heap.proofs.PhaseLaws.{is_occupied-in_phase, object_of-in_phase}
use Rattle.space_compact.specs.Visits.{Visits}
use Rattle.space_collector.specs.HeapMoves.{AreMovesTold, IsMoving, KeepsBut}
use Rattle.space_collector.specs.PagesSwept.{LeavesRest, SweepsAll}
use Rattle.space_collector.specs.Quiescent.{IsQuiescent, most_slots}
use Rattle.space_engine.specs.Answered.{IsLawfulAnswer, IsAnswered, IsCutOff}
use Rattle.space_engine.specs.HeapCollections.{AreTold, AreCut, HasJudged, IsCollected, IsTickedCollection}
use Rattle.space_engine.specs.Stands.{Represents, Holds}
use Rattle.space_engine.specs.Steps.{Answers, AnswersWith}
use Rattle.space_engine.specs.Turns.{CanAnswer, IsOneTurn, IsWork}
use Rattle.space_engine.specs.Views.{View, with_heap, with_swept, moving_begun, fixing_begun, compaction_ended}
use Rattle.space_engine.proofs.Collecting.{CollectsTo, collects_to, collection_spelled, SweepsAllTo, swept_all_hold}
use Rattle.space_engine.proofs.CollectionCounts.{swept_judged}
use Rattle.space_engine.proofs.CompactionWork.{EndsWork, none_gone_at, visits_keep, fixing_quiescent}
use Rattle.space_engine.proofs.EndedCompaction.{compaction_ended_held}
use Rattle.space_engine.proofs.OutputLists.{moves_counted}
use Rattle.space_engine.proofs.MovesHeld.{moves_held, moves_spelled}
use Rattle.space_engine.proofs.PhaseChanges.{moving_begun_held, fixing_begun_held}
use Rattle.space_engine.proofs.Stepping.{answered_silently}
use Rattle.space_engine.proofs.TurnLaws.{work_uncounted}
use Rattle.space_engine.proofs.VisitsHeld.{VisitsTo, visits_held, none_left, left_none}

not_major : Full ≢ Major
not_major e = cc

-- the end of a compaction is less than one turn
turn_more : (v w : HeapView) → IsWork 0 1 v w → IsOneTurn v w
turn_more v w work =
    let freed = work.freed in
    let compactions = work.compactions in
    let moves = work.moves in
    let others = work.other_verdicts in
    record {
      born = work.born;
      minor_verdicts = work.minor_verdicts;
      other_verdicts = others;
      freed = omega arith;
      compactions = omega arith;
      moves = omega arith;
      quiescent = work.quiescent;
    }

-- `compact`: a collection, which left the space `collected`, the sweep of all pages, and then objects may move
module _ (v collected new : View) (able : CanAnswer v.heap) (z : HeapView) (g : FinalLists) (sound : IsSoundHeap collected.heap)
    (sweeps : SweepsAll collected.heap collected.finals z g) (idle : z.phase ≡ Idle) (begins : new ≡ moving_begun (with_swept collected z g)) where
  module _ (ended scans : ℕ) (events : List Event) (c : IsCollected v collected Full ended scans events) (s : State) (h : Holds v s) where
    to : CollectsTo collected s Full ended scans events
    to = collects_to v s h collected Full not_major ended scans events c

    swept : SweepsAllTo collected to.state z g
    swept = swept_all_hold collected to.state z g to.holds sound sweeps

    begun : Holds (moving_begun (with_swept collected z g)) (state_moving swept.state)
    begun = moving_begun_held (with_swept collected z g) swept.state swept.holds (sym swept.holds.represents.heap.progress.at ∙ idle)

    compact_answers : AnswersWith s new Compact events (Scanned scans)
    compact_answers = record {
      state = state_moving swept.state;
      represents = subst (λ (w : View). Represents w (state_moving swept.state)) (sym begins) begun.represents;
      effects = record {
        reply = Scanned scans;
        answer_is = refl;
        is = record {
          collected = to.state;
          collects = to.collects;
          swept = swept.state;
          freed = swept.freed;
          sweeps = swept.sweeps;
          begins = refl;
        };
      };
    }

  compact_lawful : (ended scans : ℕ) (events : List Event) → IsCollected v collected Full ended scans events →
      IsLawfulAnswer v new Compact events (Scanned scans)
  compact_lawful ended scans events c = record {
    answers = λ s h. compact_answers ended scans events c s h;
    spelled = λ s h. collection_spelled v s h collected Full not_major ended scans events c able.born;
  }

  pub compact_answered : (scans gone moves : ℕ) (before after : Option (List ℕ)) (ticks ticked : ℕ) →
      AreTold (IsTickedCollection v collected Full scans ticks ticked) gone moves before after →
      IsAnswered v new Compact (Scanned scans) gone moves before after ticks ticked
  compact_answered scans gone moves before after ticks ticked told =
      let c = told.are.collects in
      record {
        events = told.events;
        lawful = compact_lawful told.are.ended scans told.events c;
        counted = told.counted;
        written = told.written;
        ticks_are = λ s h. record {
          ended = told.are.ended;
          ended_are = (collects_to v s h collected Full not_major told.are.ended scans told.events c).ended_are;
          ticked = told.are.rose;
        };
      }

  pub compact_cut_off : (before after : Option (List ℕ)) →
      AreCut (λ events. (ended scans : ℕ) × IsCollected v collected Full ended scans events) before after → IsCutOff v new Compact before after
  compact_cut_off before after cut =
      let (ended, scans, c) = cut.are in
      record {
        events = cut.events;
        reply = Scanned scans;
        lawful = compact_lawful ended scans cut.events c;
        reply_spelled = (let few = c.tells.few in omega arith, tt);
        prefix = cut.prefix;
      }

-- where nothing is under way objects may move from then on
moving_quiescent : (z : HeapView) → z.phase ≡ Idle → IsQuiescent z → IsQuiescent (record z { phase = Moving })
moving_quiescent z idle q =
    let none = q.none_grey (λ e. cc) in
    record {
      gone_wait = λ a gone.
          let stands = is_occupied-in_phase z Moving a in
          let object = object_of-in_phase z Moving a in
          let same : is_gone (record z { phase = Moving }) a ≡ is_gone z a = λ i. stands i && (object i).gone in
          absurd (none_gone_at z q (λ e. cc) a (sym same ∙ gone));
      none_waits = λ not. q.none_waits (λ e. cc);
      some_wait = λ e. absurd (cc);
      none_moved = λ not_moving. absurd (not_moving refl);
      none_grey = λ not. record {
        listed = none.listed;
        objects = λ a e. none.objects a (sym (ap (λ (o : ObjectView). o.colour) (object_of-in_phase z Moving a)) ∙ e);
      };
    }

-- after a collection and the sweep of all pages nothing is under way
pub idle_after : (u z : HeapView) → (u.phase ≡ Idle) ⊎ (u.phase ≡ Sweeping) → (u.phase ≡ Sweeping → z.phase ≡ Idle) → (u.phase ≢ Sweeping → z ≡ u) →
    z.phase ≡ Idle
idle_after u z settled swept same = ⊎_elim (λ idle. ap (λ (w : HeapView). w.phase) (same (λ e. cc)) ∙ idle) swept settled

-- how much work it is
pub compact_turn : (v u z : HeapView) → HasJudged 1 2 most_slots 1 v u → LeavesRest u z → z.counters.freed ≤ u.counters.freed + most_slots →
    IsQuiescent z → z.phase ≡ Idle → IsOneTurn v (record z { phase = Moving })
compact_turn v u z first leaves freed quiescent idle =
    let second = swept_judged u z leaves freed quiescent first.rests in
    let born = first.born in
    let minors = first.minor_verdicts in
    let others = first.other_verdicts in
    let slots = first.freed in
    let compactions = first.compactions in
    let moves = first.moves in
    let later_born = second.born in
    let later_minors = second.minor_verdicts in
    let later_others = second.other_verdicts in
    let later_slots = second.freed in
    let later_compactions = second.compactions in
    let later_moves = second.moves in
    record {
      born = omega arith;
      minor_verdicts = omega arith;
      other_verdicts = omega arith;
      freed = omega arith;
      compactions = omega arith;
      moves = omega arith;
      quiescent = λ q. moving_quiescent z idle quiescent;
    }

-- `move`: what was written of the lines of the moves, and what the heap is after them
module _ (v : View) (able : CanAnswer v.heap) (moving : v.heap.phase ≡ Moving) (w : HeapView) (count moves : ℕ) (done : Bool) where
  is_moving : (s : State) → Holds v s → s.collector.phase ≡ Moving
  is_moving s h = sym h.represents.heap.progress.at ∙ moving

  move_lawful : (events : List Event) → IsMoving v.heap w v.stack count moves done events →
      IsLawfulAnswer v (with_heap v w) (Move count) events (MoveCount moves done)
  move_lawful events made = record {
    answers = λ s h.
        let to = moves_held v s h w count moves done events made (is_moving s h) in
        record {
          state = to.state;
          represents = to.holds.represents;
          effects = record { reply = MoveCount moves done; answer_is = refl; is = to.makes };
        };
    spelled = λ s h. moves_spelled v s h w count moves done events made able.born;
  }

  move_answered : (events : List Event) (made : IsMoving v.heap w v.stack count moves done events) (before after : Option (List ℕ)) (ticks ticked : ℕ) →
      Appends before after (text_of (map Told events)) → ticks ≤ ticked →
      IsAnswered v (with_heap v w) (Move count) (MoveCount moves done) 0 moves before after ticks ticked
  move_answered events made before after ticks ticked written rose = record {
    events = events;
    lawful = move_lawful events made;
    counted = moves_counted moves made.pinned events w made.makes;
    written = written;
    ticks_are = λ s h. rose;
  }

  move_cut_off : (events : List Event) → IsMoving v.heap w v.stack count moves done events → (before after : Option (List ℕ)) →
      AppendsPrefix before after (text_of (map Told events)) → IsCutOff v (with_heap v w) (Move count) before after
  move_cut_off events made before after prefix = record {
    events = events;
    reply = MoveCount moves done;
    lawful = move_lawful events made;
    reply_spelled = (let few = made.few in omega (arith, few), tt);
    prefix = prefix;
  }

  -- the lines of the moves were written, or cut off
  module _ {T E : Type 0} (result : Result T E) where
    pub move_told : (it : T) → result ≡ Ok it → (before after : Option (List ℕ)) → AreMovesTold v.heap w v.stack count moves done result before after →
        (ticks ticked : ℕ) → ticks ≤ ticked → IsAnswered v (with_heap v w) (Move count) (MoveCount moves done) 0 moves before after ticks ticked
    move_told it is before after told ticks ticked rose =
        move_answered told.events told.moving before after ticks ticked
        (subst (λ result. OnOk result (Appends before after (text_of (map Told told.events)))) is told.written) rose

    pub move_cut : (why : E) → result ≡ Err why → (before after : Option (List ℕ)) → AreMovesTold v.heap w v.stack count moves done result before after →
        IsCutOff v (with_heap v w) (Move count) before after
    move_cut why is before after told =
        move_cut_off told.events told.moving before after
        (subst (λ result. OnErr result (AppendsPrefix before after (text_of (map Told told.events)))) is told.prefix)

  pub move_turn : KeepsBut v.heap w moves → moves ≤ most_slots → (IsQuiescent v.heap → IsQuiescent w) → IsOneTurn v.heap w
  move_turn kept few quiescent =
      let born = ap (λ (c : Counters). c.born) kept.counters in
      let minors = ap (λ (c : Counters). c.minor_verdicts) kept.counters in
      let others = ap (λ (c : Counters). c.other_verdicts) kept.counters in
      let freed = ap (λ (c : Counters). c.freed) kept.counters in
      let compactions = ap (λ (c : Counters). c.compactions) kept.counters in
      let more = ap (λ (c : Counters). c.moves) kept.counters in
      record {
        born = omega arith;
        minor_verdicts = omega arith;
        other_verdicts = omega arith;
        freed = omega arith;
        compactions = omega arith;
        moves = omega arith;
        quiescent = quiescent;
      }

-- where no objects may move
pub move_refused : (v : View) → v.heap.phase ≢ Moving → (count : ℕ) (known : Option (List ℕ)) (ticks : ℕ) →
    IsAnswered v v (Move count) (Refused NotCompacting) 0 0 known known ticks ticks
move_refused v other count known ticks = answered_silently v v (Move count) (Refused NotCompacting) known ticks ticks
    (λ s h. record {
      state = s;
      represents = h.represents;
      effects = record {
        reply = Refused NotCompacting;
        answer_is = refl;
        is = ((λ e. other (h.represents.heap.progress.at ∙ e)), refl, refl, refl);
      };
    })
    (λ s h. refl)

-- `fix`, once the correction of references has begun: visits, and the end where none is left
module _ (v : View) (s : State) (h : Holds v s) (at : v.heap.phase ≡ Fixing) (count visits : ℕ) (w : HeapView) (makes : Visits visits v.heap w)
    (most : visits ≤ count) where
  fixing : s.collector.phase ≡ Fixing
  fixing = sym h.represents.heap.progress.at ∙ at

  visited : VisitsTo s (with_heap v w) visits
  visited = visits_held v s h fixing visits w makes

  begins : BeginsFixing s s
  begins = inr (fixing, refl)

  -- none is left
  pub fix_ended : IsSoundHeap w → HasNoObjectFrom w w.cursor → Answers s (compaction_ended (with_heap v w)) (Fix count) (FixCount visits true)
  fix_ended sound none =
      let all = none_left (with_heap v w) visited.state visited.holds none in
      record {
        state = state_ended visited.state;
        represents = (compaction_ended_held (with_heap v w) visited.state visited.holds visited.fixing all sound).represents;
        replies = record {
          begun = s;
          begins = begins;
          last = visited.state;
          makes = visited.makes;
          at_most = most;
          all = λ fewer. all;
          ends = (all, refl);
        };
      }

  -- some are
  pub fix_went_on : visits ≡ count → (HasNoObjectFrom w w.cursor → ⊥) → Answers s (with_heap v w) (Fix count) (FixCount visits false)
  fix_went_on as_many some = record {
    state = visited.state;
    represents = visited.holds.represents;
    replies = record {
      begun = s;
      begins = begins;
      last = visited.state;
      makes = visited.makes;
      at_most = most;
      all = λ fewer. absurd (omega (arith, fewer, as_many));
      ends = ((λ all. some (left_none (with_heap v w) visited.state visited.holds all)), refl);
    };
  }

-- where objects may still move the correction begins first
pub fix_begun : (v : View) (s : State) → Holds v s → v.heap.phase ≡ Moving → (new : View) (count : ℕ) (reply : Reply) →
    ((t : State) → Holds (fixing_begun v) t → Answers t new (Fix count) reply) → Answers s new (Fix count) reply
fix_begun v s h moving new count reply answers =
    let at = sym h.represents.heap.progress.at ∙ moving in
    let a = answers (state_fixing s) (fixing_begun_held v s h at) in
    record { state = a.state; represents = a.represents; replies = it at reply a.state a.replies }
  where
    begun_of : s.collector.phase ≡ Moving → (begun : State) → BeginsFixing (state_fixing s) begun → BeginsFixing s begun
    begun_of at begun begins = inl (at, ⊎_elim (λ (other, same). cc) (λ (fixing, same). same) begins)

    it : s.collector.phase ≡ Moving → (reply : Reply) (t : State) → AnswersFix (state_fixing s) count reply t → AnswersFix s count reply t
    it at (FixCount visits done) t m = record {
      begun = m.begun;
      begins = begun_of at m.begun m.begins;
      last = m.last;
      makes = m.makes;
      at_most = m.at_most;
      all = m.all;
      ends = m.ends;
    }
    it at (Refused why) t m = absurd (m.1 refl)
    it at _ t m = absurd m

-- where no compaction is under way
pub fix_refused : (v : View) (s : State) → Holds v s → v.heap.phase ≢ Moving → v.heap.phase ≢ Fixing → (count : ℕ) →
    Answers s v (Fix count) (Refused NotCompacting)
fix_refused v s h moving fixing count = record {
  state = s;
  represents = h.represents;
  replies = ((λ e. moving (h.represents.heap.progress.at ∙ e)), (λ e. fixing (h.represents.heap.progress.at ∙ e)), refl, refl);
}

-- how much work it is: where none is left the compaction ends
pub fix_work : (visits : ℕ) (v w : HeapView) → Visits visits v w → IsWork 0 1 v w
fix_work visits v w makes = let kept = visits_keep visits v w makes in work_uncounted 0 1 v w kept.counters kept.quiescent

pub fix_work_ended : (v w : HeapView) → EndsWork v w → IsWork 0 1 v w
fix_work_ended v w ends =
    let born = ap (λ (c : Counters). c.born) ends.counters in
    let minors = ap (λ (c : Counters). c.minor_verdicts) ends.counters in
    let others = ap (λ (c : Counters). c.other_verdicts) ends.counters in
    let freed = ap (λ (c : Counters). c.freed) ends.counters in
    let compactions = ap (λ (c : Counters). c.compactions) ends.counters in
    let moves = ap (λ (c : Counters). c.moves) ends.counters in
    record {
      born = omega arith;
      minor_verdicts = omega arith;
      other_verdicts = omega arith;
      freed = omega arith;
      compactions = omega arith;
      moves = omega arith;
      quiescent = λ q. ends.quiescent;
    }

-- with the start of the correction before it
pub fix_turn : (v w : HeapView) → IsQuiescent v → (IsQuiescent v → IsWork 0 1 v w) → IsOneTurn v w
fix_turn v w q work = turn_more v w (work q)

pub fix_turn_begun : (v w : HeapView) → v.phase ≡ Moving → IsQuiescent v →
    (IsQuiescent (record v { phase = Fixing; cursor = 0 }) → IsWork 0 1 (record v { phase = Fixing; cursor = 0 }) w) → IsOneTurn v w
fix_turn_begun v w moving q work =
    let ready = fixing_quiescent v moving q in
    let after : IsWork 0 1 (record v { phase = Fixing; cursor = 0 }) w = work ready in
    turn_more v w (record {
      born = after.born;
      minor_verdicts = after.minor_verdicts;
      other_verdicts = after.other_verdicts;
      freed = after.freed;
      compactions = after.compactions;
      moves = after.moves;
      quiescent = λ is. after.quiescent ready;
    })
