-- The command that ends a major marking, from what was done to the heap and what was written; and its refusal.
use Rattle.std.proofs.Common.{◌≡◌, ◌≢◌, ◌+◌, ℕ, List, sym, ◌∙◌, refl, subst, arith, Option}
use Rattle.space_model.specs.declared.command.Command.TheVariants.{Finish}
use Rattle.space_model.specs.declared.event.Event.{Event}
use Rattle.space_model.specs.declared.event.Kind.TheVariants.{Major}
use Rattle.space_model.specs.declared.phase.Phase.TheVariants.{Marking}
use Rattle.space_model.specs.declared.reply.Refusal.TheVariants.{NotMarking}
use Rattle.space_model.specs.declared.reply.Reply.TheVariants.{Scanned, Refused}
use Rattle.space_roots.specs.WordRoots.{root_words}
use Rattle.space_engine.specs.Answered.{IsLawfulAnswer, IsAnswered, IsCutOff}
use Rattle.space_engine.specs.HeapCollections.{AreTold, AreCut, IsTelling}
use Rattle.space_engine.specs.Stands.{Represents}
use Rattle.space_engine.specs.Turns.{CanAnswer}
use Rattle.space_engine.specs.Views.{View, with_judged}
use Rattle.space_engine.proofs.Ending.{EndsTo, ends_to, ending_spelled}
use Rattle.space_engine.proofs.Stepping.{answered_silently}

module _ (v new : View) (rest : new ≡ with_judged v new.heap) (able : CanAnswer v.heap) (marking : v.heap.phase ≡ Marking) where
  abbrev Tells : ℕ → List Event → Type 0
  Tells scans events = IsTelling v.heap new.heap Major (root_words v.roots) v.stack scans events

  lawful : (scans : ℕ) (events : List Event) → Tells scans events → IsLawfulAnswer v new Finish events (Scanned scans)
  lawful scans events t = record {
    answers = λ s h.
        let to : EndsTo v s new.heap scans events = ends_to v s h marking new.heap scans events t in
        record {
          state = to.state;
          represents = subst (λ (w : View). Represents w to.state) (sym rest) to.holds.represents;
          effects = record { reply = Scanned scans; answer_is = refl; is = to.ends };
        };
    spelled = λ s h. ending_spelled v s h marking new.heap scans events t able.born;
  }

  pub finish_answered : (scans gone : ℕ) (before after : Option (List ℕ)) (ticks ticked : ℕ) → AreTold (Tells scans) gone 0 before after →
      ticked ≡ ticks + scans → IsAnswered v new Finish (Scanned scans) gone 0 before after ticks ticked
  finish_answered scans gone before after ticks ticked told rose = record {
    events = told.events;
    lawful = lawful scans told.events told.are;
    counted = told.counted;
    written = told.written;
    ticks_are = λ s h. rose;
  }

  pub finish_cut_off : (before after : Option (List ℕ)) → AreCut (λ events. (scans : ℕ) × Tells scans events) before after →
      IsCutOff v new Finish before after
  finish_cut_off before after cut = record {
    events = cut.events;
    reply = Scanned cut.are.0;
    lawful = lawful cut.are.0 cut.events cut.are.1;
    reply_spelled = (let few = cut.are.1.few in omega arith, tt);
    prefix = cut.prefix;
  }

-- where no marking is under way there is none to end
pub finish_refused : (v : View) → v.heap.phase ≢ Marking → (known : Option (List ℕ)) (ticks : ℕ) →
    IsAnswered v v Finish (Refused NotMarking) 0 0 known known ticks ticks
finish_refused v other known ticks = answered_silently v v Finish (Refused NotMarking) known ticks ticks
    (λ s h. record {
      state = s;
      represents = h.represents;
      effects = record {
        reply = Refused NotMarking;
        answer_is = refl;
        is = ((λ e. other (h.represents.heap.progress.at ∙ e)), refl, refl, refl);
      };
    })
    (λ s h. refl)
