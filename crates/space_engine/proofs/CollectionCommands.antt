-- The commands that collect, `minor` and `gc`, from what was done to the heap and what was written.
use Rattle.std.proofs.Common.{◌≢◌, ℕ, List, [], ◌∷◌, refl, arith, Option}
use Rattle.space_model.specs.declared.command.Command.{Command}
use Rattle.space_model.specs.declared.command.Command.TheVariants.{Minor, Gc}
use Rattle.space_model.specs.declared.event.Event.{Event}
use Rattle.space_model.specs.declared.event.Kind.{Kind}
use Rattle.space_model.specs.declared.event.Kind.TheVariants.{Minor as MinorKind, Major, Full}
use Rattle.space_model.specs.declared.reply.Reply.TheVariants.{Scanned}
use Rattle.space_model.specs.Collections.{IsCollection}
use Rattle.space_model.specs.Lawful.{Effects}
use Rattle.space_model.specs.Outputs.{Replied}
use Rattle.space_model.specs.State.{State}
use Rattle.space_engine.specs.Answered.{IsLawfulAnswer, IsAnswered, IsCutOff}
use Rattle.space_engine.specs.HeapCollections.{IsCollecting, IsCollected, IsTickedCollection, AreTold, AreCut}
use Rattle.space_engine.specs.Ticks.{IsCompletedTicked, IsTicked}
use Rattle.space_engine.specs.Turns.{CanAnswer}
use Rattle.space_engine.specs.Views.{View}
use Rattle.space_engine.proofs.Collecting.{collects_to, collection_spelled}

collects_by : (s : State) (command : Command) (kind : Kind) → IsCollecting command kind → (events : List Event) (scans : ℕ) (t : State) →
    IsCollection s kind events scans t → Effects s command events (Replied (Scanned scans) ∷ []) t
collects_by s Minor MinorKind k events scans t c = record { reply = Scanned scans; answer_is = refl; is = c }
collects_by s Minor Major k events scans t c = absurd k
collects_by s Minor Full k events scans t c = absurd k
collects_by s Gc MinorKind k events scans t c = absurd k
collects_by s Gc Major k events scans t c = absurd k
collects_by s Gc Full k events scans t c = record { reply = Scanned scans; answer_is = refl; is = c }
collects_by s _ kind k events scans t c = absurd k

ticked_by : (s : State) (command : Command) (kind : Kind) → IsCollecting command kind → (events : List Event) (scans ticks ticked : ℕ) →
    IsCompletedTicked s scans ticks ticked → IsTicked s command events (Scanned scans) ticks ticked
ticked_by s Minor kind k events scans ticks ticked rose = rose
ticked_by s Gc kind k events scans ticks ticked rose = rose
ticked_by s _ kind k events scans ticks ticked rose = absurd k

module _ (v new : View) (able : CanAnswer v.heap) (command : Command) (kind : Kind) (other : kind ≢ Major) (by : IsCollecting command kind) where
  lawful : (ended scans : ℕ) (events : List Event) → IsCollected v new kind ended scans events →
      IsLawfulAnswer v new command events (Scanned scans)
  lawful ended scans events c = record {
    answers = λ s h.
        let to = collects_to v s h new kind other ended scans events c in
        record {
          state = to.state;
          represents = to.holds.represents;
          effects = collects_by s command kind by events scans to.state to.collects;
        };
    spelled = λ s h. collection_spelled v s h new kind other ended scans events c able.born;
  }

  pub collection_answered : (scans gone moves : ℕ) (before after : Option (List ℕ)) (ticks ticked : ℕ) →
      AreTold (IsTickedCollection v new kind scans ticks ticked) gone moves before after →
      IsAnswered v new command (Scanned scans) gone moves before after ticks ticked
  collection_answered scans gone moves before after ticks ticked told =
      let c = told.are.collects in
      record {
        events = told.events;
        lawful = lawful told.are.ended scans told.events c;
        counted = told.counted;
        written = told.written;
        ticks_are = λ s h. ticked_by s command kind by told.events scans ticks ticked (record {
          ended = told.are.ended;
          ended_are = (collects_to v s h new kind other told.are.ended scans told.events c).ended_are;
          ticked = told.are.rose;
        });
      }

  pub collection_cut_off : (before after : Option (List ℕ)) →
      AreCut (λ events. (ended scans : ℕ) × IsCollected v new kind ended scans events) before after →
      IsCutOff v new command before after
  collection_cut_off before after cut =
      let (ended, scans, c) = cut.are in
      record {
        events = cut.events;
        reply = Scanned scans;
        lawful = lawful ended scans cut.events c;
        reply_spelled = (let few = c.tells.few in omega arith, tt);
        prefix = cut.prefix;
      }
