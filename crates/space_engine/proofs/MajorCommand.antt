-- The command that begins a major marking, from what was done to the heap and what was written.
use Rattle.std.proofs.Common.{◌≡◌, ◌&&◌, ℕ, List, sym, ap, ◌∙◌, refl, subst, nat_eq, arith, Option}
use Rattle.std.specs.Set.{is_member}
use Rattle.space_model.specs.declared.command.Command.TheVariants.{Major}
use Rattle.space_model.specs.declared.event.Event.{Event}
use Rattle.space_model.specs.declared.phase.Phase.TheVariants.{Idle, Marking}
use Rattle.space_model.specs.declared.reply.Reply.TheVariants.{Done}
use Rattle.space_model.specs.Layout.{page_of}
use Rattle.space_model.specs.MajorMarking.{marking_begun}
use Rattle.space_model.specs.Markings.{mark_started}
use Rattle.space_heap.specs.HeapView.{Counters, HeapView}
use Rattle.space_heap.specs.Marking.{unmarked}
use Rattle.space_heap.specs.Objects.{is_occupied, object_of, is_moved}
use Rattle.space_heap.specs.Slots.{ObjectView}
use Rattle.space_heap.specs.Sweeping.{is_gone}
use Rattle.space_heap.proofs.FreeLaws.{is_moved-unmarked}
use Rattle.space_heap.proofs.MarkingLaws.{is_occupied-unmarked, object_of-unmarked, state-unmarked}
use Rattle.space_heap.proofs.PhaseLaws.{is_occupied-in_phase, object_of-in_phase, is_moved-in_phase}
use Rattle.space_roots.specs.WordRoots.{root_words}
use Rattle.space_tracing.specs.Graph.{SameGraph}
use Rattle.space_tracing.proofs.Same.{same_part}
use Rattle.space_major.specs.Incremental.{started}
use Rattle.space_major.proofs.Starts.{begun, marks_started}
use Rattle.space_collector.specs.Quiescent.{IsQuiescent, most_slots}
use Rattle.space_engine.specs.Answered.{IsLawfulAnswer, IsAnswered, IsCutOff}
use Rattle.space_engine.specs.HeapCollections.{AreTold, AreCut, HasJudged, IsCompletion, IsTickedCompletion}
use Rattle.space_engine.specs.Stands.{Represents}
use Rattle.space_engine.specs.Turns.{CanAnswer, IsOneTurn}
use Rattle.space_engine.specs.Views.{View, with_heap}
use Rattle.space_engine.proofs.Collecting.{CompletesTo, completes_to, completion_spelled}
use Rattle.space_engine.proofs.MajorStart.{marking_holds}

-- a marking that begins changes no count, and leaves a quiescent heap so
module _ (idle : HeapView) (roots stack : List ℕ) (nothing : idle.phase ≡ Idle) where
  abbrev bare : HeapView
  bare = begun idle

  abbrev marking : HeapView
  marking = started idle roots stack

  visits : SameGraph bare marking
  visits = (marks_started idle roots stack).same

  unswept_stays : marking.unswept ≡ idle.unswept
  unswept_stays = visits.unswept ∙ (state-unmarked idle).unswept

  counters_stay : marking.counters ≡ idle.counters
  counters_stay = visits.counters ∙ (state-unmarked idle).counters

  gone_stays : (a : ℕ) → is_gone marking a ≡ is_gone idle a
  gone_stays a =
      let lies : is_occupied marking a ≡ is_occupied idle a =
      visits.standing a ∙ is_occupied-in_phase (unmarked idle) Marking a ∙ is_occupied-unmarked idle a in
      let gone : (object_of marking a).gone ≡ (object_of idle a).gone =
      same_part (λ (o : ObjectView). o.gone) bare marking a visits
      ∙ ap (λ (o : ObjectView). o.gone) (object_of-in_phase (unmarked idle) Marking a ∙ object_of-unmarked idle a) in
      λ i. lies i && gone i

  moved_stays : (a : ℕ) → is_moved marking a ≡ is_moved idle a
  moved_stays a = visits.away a ∙ is_moved-in_phase (unmarked idle) Marking a ∙ is_moved-unmarked idle a

  quiescent_begun : IsQuiescent idle → IsQuiescent marking
  quiescent_begun q = record {
    gone_wait = λ a e. ap (λ pages. is_member nat_eq pages (page_of a)) unswept_stays ∙ q.gone_wait a (sym (gone_stays a) ∙ e);
    none_waits = λ other. unswept_stays ∙ q.none_waits (λ e. cc);
    some_wait = λ e none. (let at = visits.phase in cc);
    none_moved = λ moving fixing a. moved_stays a ∙ q.none_moved (λ e. cc) (λ e. cc) a;
    none_grey = λ other. absurd (other visits.phase);
  }

  -- after what was under way was completed it is one turn
  turn_begun : (v : HeapView) → HasJudged 0 1 most_slots 1 v idle → IsOneTurn v marking
  turn_begun v judged =
      let born = judged.born in
      let minors = judged.minor_verdicts in
      let others = judged.other_verdicts in
      let freed = judged.freed in
      let compactions = judged.compactions in
      let moves = judged.moves in
      let same_born = ap (λ (c : Counters). c.born) counters_stay in
      let same_minors = ap (λ (c : Counters). c.minor_verdicts) counters_stay in
      let same_others = ap (λ (c : Counters). c.other_verdicts) counters_stay in
      let same_freed = ap (λ (c : Counters). c.freed) counters_stay in
      let same_compactions = ap (λ (c : Counters). c.compactions) counters_stay in
      let same_moves = ap (λ (c : Counters). c.moves) counters_stay in
      record {
        born = omega (arith, born, same_born);
        minor_verdicts = omega (arith, minors, same_minors);
        other_verdicts = omega (arith, others, same_others);
        freed = omega (arith, freed, same_freed);
        compactions = omega (arith, compactions, same_compactions);
        moves = omega (arith, moves, same_moves);
        quiescent = λ was. quiescent_begun judged.quiescent;
      }

-- what was under way was completed, and then a marking began; the parts of the space between are those after the completion
module _ (v mid parts : View) (same : parts ≡ mid) (nothing : mid.heap.phase ≡ Idle) (able : CanAnswer v.heap)
    (after : HeapView) (starts : after ≡ started parts.heap (root_words parts.roots) parts.stack) where
  begins : after ≡ started mid.heap (root_words mid.roots) mid.stack
  begins = starts ∙ (λ i. started (same i).heap (root_words (same i).roots) (same i).stack)

  view_is : with_heap parts after ≡ with_heap mid (started mid.heap (root_words mid.roots) mid.stack)
  view_is = λ i. with_heap (same i) (begins i)

  lawful : (scans : ℕ) (events : List Event) → IsCompletion v mid scans events → IsLawfulAnswer v (with_heap parts after) Major events Done
  lawful scans events c = record {
    answers = λ s h.
        let to : CompletesTo mid s scans events = completes_to v s h mid scans events c in
        let marking = marking_holds mid to.state to.holds nothing in
        record {
          state = marking_begun (mark_started to.state);
          represents = subst (λ (w : View). Represents w (marking_begun (mark_started to.state))) (sym view_is) marking.represents;
          effects = record {
            reply = Done;
            answer_is = refl;
            is = record { idle = to.state; completes = to.completes; started = mark_started to.state; starts = refl; begins = refl };
          };
        };
    spelled = λ s h. completion_spelled v s h mid scans events c able.born;
  }

  pub major_answered : (gone moves : ℕ) (before written : Option (List ℕ)) (ticks ticked : ℕ) →
      AreTold (IsTickedCompletion v mid ticks ticked) gone moves before written →
      IsAnswered v (with_heap parts after) Major Done gone moves before written ticks ticked
  major_answered gone moves before written ticks ticked told = record {
    events = told.events;
    lawful = lawful told.are.scans told.events told.are.completes;
    counted = told.counted;
    written = told.written;
    ticks_are = λ s h.
        let to : CompletesTo mid s told.are.scans told.events = completes_to v s h mid told.are.scans told.events told.are.completes in
        let rose = told.are.rose in
        record { ended = told.are.scans; ended_are = to.scans_are; ticked = omega (arith, rose) };
  }

  pub major_cut_off : (before written : Option (List ℕ)) → AreCut (λ events. (scans : ℕ) × IsCompletion v mid scans events) before written →
      IsCutOff v (with_heap parts after) Major before written
  major_cut_off before written cut = record {
    events = cut.events;
    reply = Done;
    lawful = lawful cut.are.0 cut.events cut.are.1;
    reply_spelled = tt;
    prefix = cut.prefix;
  }

  pub major_turn : HasJudged 0 1 most_slots 1 v.heap mid.heap → IsOneTurn v.heap after
  major_turn judged = subst (IsOneTurn v.heap) (sym begins) (turn_begun mid.heap (root_words mid.roots) mid.stack nothing v.heap judged)
