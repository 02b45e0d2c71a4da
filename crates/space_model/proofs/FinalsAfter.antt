-- What a command does to finalizers: each runs once at most, and only when its object is gone and swept.
use Rattle.std.proofs.Common.{◌≡◌, ◌⊎◌, ℕ, true, List, [], ◌++◌, take, nat_eq, sym, ap, ◌∙◌, subst, ⊎_elim, inl, inr, Result, Ok, Err}
use mathlib.Core.List.{append-nil}
use Rattle.std.specs.Set.{is_member}
use Rattle.std.proofs.lemmas.Bool.{false≢true}
use Rattle.std.proofs.lemmas.List.{take-append-drop}
use Rattle.space_model.specs.declared.command.Command.{Command}
use Rattle.space_model.specs.declared.command.Command.TheVariants.{New, Final, Unfinal, Run, Minor, Gc, Major, Finish, Compact, Move, Dump, Peek, Exit}
use Rattle.space_model.specs.declared.event.Event.{Event}
use Rattle.space_model.specs.declared.event.Kind.{Kind}
use Rattle.space_model.specs.declared.event.Kind.TheVariants.{Minor as MinorKind, Full as FullKind}
use Rattle.space_model.specs.declared.object.Guard.{Guard}
use Rattle.space_model.specs.declared.object.Style.{Style}
use Rattle.space_model.specs.declared.reply.Refusal.{Refusal}
use Rattle.space_model.specs.declared.reply.Reply.{Reply}
use Rattle.space_model.specs.declared.reply.Reply.TheVariants.{Made, Full, NoMemory, RanCount, Scanned, ExitRan, Refused}
use Rattle.space_model.specs.Collections.{Collects}
use Rattle.space_model.specs.CompactCommands.{AnswersCompact}
use Rattle.space_model.specs.Exit.{AnswersExit}
use Rattle.space_model.specs.FinalCommands.{FinalReply, UnfinalReply, RunsFinals, ran_events}
use Rattle.space_model.specs.FinalLaws.{ChangesFinals, AreQueued}
use Rattle.space_model.specs.Finalizers.{labels_of, pair_names}
use Rattle.space_model.specs.Lawful.{Effects, Lawful}
use Rattle.space_model.specs.Layout.{pool_for}
use Rattle.space_model.specs.NewCommand.{stages_before_page, all_stages, AnswersNew}
use Rattle.space_model.specs.Operands.{object_of}
use Rattle.space_model.specs.Outputs.{Output, ran_in}
use Rattle.space_model.specs.Pieces.{Born}
use Rattle.space_model.specs.Sound.{Sound, IsSweptName}
use Rattle.space_model.specs.State.{State}
use Rattle.space_model.proofs.CompactionNames.{leaves_move_answer, leaves_fix_answer}
use Rattle.space_model.proofs.ExitLaws.{exit_takes}
use Rattle.space_model.proofs.FinalNames.{names-take}
use Rattle.space_model.proofs.Leaving.{Leaves, leaves_swept}
use Rattle.space_model.proofs.MajorLaws.{major_leaves, finish_leaves}
use Rattle.space_model.proofs.PlacesAfter.{leaves_before_moves, effects_after, runs_none}
use Rattle.space_model.proofs.Queueing.{ran_among, ran_among-append, ran_outputs, ran_among-ran, Queues, queues_none}
use Rattle.space_model.proofs.RepliedPieces.{IsPiece, Nothing, Root, Dropped, Stack, Field, Guard as GuardPiece, Tabled, Swept, Scans, Fixed, replied_piece}
use Rattle.space_model.proofs.Stages.{passed_leaves, place_leaves}
use Rattle.space_model.proofs.WholeLaws.{leaves_collection}

-- the finalizers that ran are of swept objects, and ran in the order of the queue, to whose end others came
record FinalsAfter (s : State) (events : List Event) (t : State) : Type 0 where
  swept : Sound s → (n : ℕ) → is_member nat_eq (pair_names (ran_among events)) n ≡ true → IsSweptName t.graph t.heap.place t.heap.corpses n
  queued : List (ℕ × List ℕ)
  defined : (name : ℕ) → labels_of queued name ++ labels_of t.tables.finals name ≡ labels_of s.tables.finals name
  order : ran_among events ++ t.tables.queue ≡ s.tables.queue ++ queued

module _ (s t : State) (events : List Event) where
  -- where none runs
  none_ran : ran_among events ≡ [] → Queues s t → FinalsAfter s events t
  none_ran none q = record {
    swept = λ h n m. absurd (false≢true (ap (λ pairs. is_member nat_eq (pair_names pairs) n) (sym none) ∙ m));
    queued = q.queued;
    defined = q.defined;
    order = ap (λ pairs. pairs ++ t.tables.queue) none ∙ q.queue;
  }

  worked : Leaves s events t → FinalsAfter s events t
  worked h = none_ran h.silent h.queues

  same_tables : events ≡ [] → t.tables ≡ s.tables → FinalsAfter s events t
  same_tables none same = none_ran (ap ran_among none) (queues_none s t same)

  same_state : events ≡ [] → t ≡ s → FinalsAfter s events t
  same_state none same = same_tables none (ap (λ (u : State). u.tables) same)

  piece_finals : (command : Command) → (ChangesFinals command → ⊥) → events ≡ [] → IsPiece command s t → FinalsAfter s events t
  piece_finals command other none (Nothing same) = same_state none same
  piece_finals command other none (Root root value ident valid after) = same_tables none (ap (λ (u : State). u.tables) after)
  piece_finals command other none (Dropped root after) = same_tables none (ap (λ (u : State). u.tables) after)
  piece_finals command other none (Stack words after) = same_tables none (ap (λ (u : State). u.tables) after)
  piece_finals command other none (Field name index value object valid reached after) = same_tables none (ap (λ (u : State). u.tables) after)
  piece_finals command other none (GuardPiece name object after) = same_tables none (ap (λ (u : State). u.tables) after)
  piece_finals command other none (Tabled tables sound ids maps finals queue after) = none_ran (ap ran_among none) (record {
    queued = [];
    defined = λ name. ap (λ (u : State). labels_of u.tables.finals name) after ∙ ap (λ pairs. labels_of pairs name) (finals other);
    queue = ap (λ (u : State). u.tables.queue) after ∙ queue ∙ sym (append-nil s.tables.queue);
  })
  piece_finals command other none (Swept pages freed sweeps) = worked (subst (λ events. Leaves s events t) (sym none) (leaves_swept pages s t freed sweeps))
  piece_finals command other none (Scans scans few after) = same_tables none (ap (λ (u : State). u.tables) after)
  piece_finals command other none (Fixed count reply fixes) = worked (subst (λ events. Leaves s events t) (sym none) (leaves_fix_answer s t count reply fixes))

  -- an object is made after work of the collector
  made_finals : (ready : State) (root : List ℕ) (fields : ℕ) (guard : Guard) (style : Style) (address : ℕ) → Leaves s events ready →
      Born ready root fields guard style address t → FinalsAfter s events t
  made_finals ready root fields guard style address h born = none_ran h.silent (record {
    queued = h.queues.queued;
    defined = λ name. ap (λ (u : State). labels_of h.queues.queued name ++ labels_of u.tables.finals name) born ∙ h.queues.defined name;
    queue = ap (λ (u : State). u.tables.queue) born ∙ h.queues.queue;
  })

  new_finals : (root : List ℕ) (fields : ℕ) (guard : Guard) (style : Style) (reply : Reply) → AnswersNew s root fields guard style events reply t →
      FinalsAfter s events t
  new_finals root fields guard style (Made name address) e =
      made_finals e.ready root fields guard style address (place_leaves s (pool_for fields) events e.ready address e.place) e.made
  new_finals root fields guard style Full e = worked (passed_leaves all_stages s (pool_for fields) events t e.passed)
  new_finals root fields guard style NoMemory e = ⊎_elim
      (λ lacks. same_state lacks.silent lacks.unchanged)
      (λ lacks. worked (passed_leaves stages_before_page s (pool_for fields) events t lacks.passed))
      e.1
  new_finals root fields guard style (Refused why) e = same_state e.2 e.3
  new_finals root fields guard style _ e = absurd e

  collects_finals : (kind : Kind) (reply : Reply) → Collects s kind events reply t → FinalsAfter s events t
  collects_finals kind (Scanned scans) e = worked (leaves_collection s t kind events scans e)
  collects_finals kind _ e = absurd e

  -- a compaction begins after a collection
  compact_finals : (reply : Reply) → AnswersCompact s events reply t → FinalsAfter s events t
  compact_finals (Scanned scans) e =
      let before = leaves_before_moves s events scans t e in
      none_ran before.silent (record {
        queued = before.queues.queued;
        defined = λ name.
            ap (λ (u : State). labels_of before.queues.queued name ++ labels_of u.tables.finals name) e.begins ∙ before.queues.defined name;
        queue = ap (λ (u : State). u.tables.queue) e.begins ∙ before.queues.queue;
      })
  compact_finals _ e = absurd e

  -- finalizers that wait run
  runs_finals : (count : ℕ) (reply : Reply) → RunsFinals s count events reply t → FinalsAfter s events t
  runs_finals count (RanCount ran) e =
      let told : ran_among events ≡ take count s.tables.queue = ap ran_among e.0 ∙ ran_among-ran (take count s.tables.queue) in
      record {
        swept = λ h n m. subst (λ (u : State). IsSweptName u.graph u.heap.place u.heap.corpses n) (sym e.2)
            (h.queue n (names-take count s.tables.queue n (ap (λ pairs. is_member nat_eq (pair_names pairs) n) (sym told) ∙ m)));
        queued = [];
        defined = λ name. ap (λ (u : State). labels_of u.tables.finals name) e.2;
        order = ap (λ pairs. pairs ++ t.tables.queue) told
            ∙ ap (λ (u : State). take count s.tables.queue ++ u.tables.queue) e.2
            ∙ take-append-drop count s.tables.queue
            ∙ sym (append-nil s.tables.queue);
      }
  runs_finals count _ e = absurd e

  exit_finals : (reply : Reply) → AnswersExit s events reply t → FinalsAfter s events t
  exit_finals (ExitRan ran) e =
      let x = exit_takes s t events ran e in
      let told : ran_among events ≡ x.swept.tables.queue =
      ap ran_among x.events_are
      ∙ ran_among-append x.told (ran_events x.swept.tables.queue)
      ∙ ap (λ pairs. pairs ++ ran_among (ran_events x.swept.tables.queue)) x.takes.silent
      ∙ ran_among-ran x.swept.tables.queue in
      record {
        swept = λ h n m. subst (λ (u : State). IsSweptName u.graph u.heap.place u.heap.corpses n) (sym x.after)
            ((x.sound h).queue n (ap (λ pairs. is_member nat_eq (pair_names pairs) n) (sym told) ∙ m));
        queued = x.takes.queues.queued;
        defined = λ name.
            ap (λ (u : State). labels_of x.takes.queues.queued name ++ labels_of u.tables.finals name) x.after ∙ x.takes.queues.defined name;
        order = ap (λ pairs. pairs ++ t.tables.queue) told
            ∙ ap (λ (u : State). x.swept.tables.queue ++ u.tables.queue) x.after
            ∙ append-nil x.swept.tables.queue
            ∙ x.takes.queues.queue;
      }
  exit_finals _ e = absurd e

-- `final` and `unfinal` run none, and leave what waits

final_queue : (s t : State) (label : List ℕ) (found : Result ℕ Refusal) (reply : Reply) → FinalReply s label found reply t → t.tables.queue ≡ s.tables.queue
final_queue s t label (Ok name) reply e = ⊎_elim (λ (_, after). ap (λ (u : State). u.tables.queue) after) (λ (_, same). ap (λ (u : State). u.tables.queue) same) e
final_queue s t label (Err why) reply e = ap (λ (u : State). u.tables.queue) e.unchanged

unfinal_queue : (s t : State) (found : Result ℕ Refusal) (reply : Reply) → UnfinalReply s found reply t → t.tables.queue ≡ s.tables.queue
unfinal_queue s t (Ok name) reply e = ap (λ (u : State). u.tables.queue) e.1
unfinal_queue s t (Err why) reply e = ap (λ (u : State). u.tables.queue) e.unchanged

effects_queue : (s t : State) (command : Command) (events : List Event) (answer : List Output) → Effects s command events answer t → ChangesFinals command →
    (ran_among events ≡ []) × (t.tables.queue ≡ s.tables.queue)
effects_queue s t (Final object label) events answer e changes =
    (ap ran_among e.0, final_queue s t label (object_of s object) e.1.reply e.1.is)
effects_queue s t (Unfinal object) events answer e changes = (ap ran_among e.0, unfinal_queue s t (object_of s object) e.1.reply e.1.is)
effects_queue s t _ events answer e changes = absurd changes

effects_finals : (s t : State) (command : Command) (events : List Event) (answer : List Output) → Effects s command events answer t →
    (ChangesFinals command → ⊥) → FinalsAfter s events t
effects_finals s t (New root fields guard style) events answer e other = new_finals s t events root fields guard style e.reply e.is
effects_finals s t (Run count) events answer e other = runs_finals s t events count e.reply e.is
effects_finals s t Minor events answer e other = collects_finals s t events MinorKind e.reply e.is
effects_finals s t Gc events answer e other = collects_finals s t events FullKind e.reply e.is
effects_finals s t Major events answer e other = worked s t events (major_leaves s t events e.reply e.is)
effects_finals s t Finish events answer e other = worked s t events (finish_leaves s t events e.reply e.is)
effects_finals s t Compact events answer e other = compact_finals s t events e.reply e.is
effects_finals s t (Move count) events answer e other = worked s t events (leaves_move_answer s t count events e.reply e.is)
effects_finals s t Dump events answer e other = same_state s t events e.0 e.1.unchanged
effects_finals s t (Peek object) events answer e other = same_state s t events e.0 e.1.1
effects_finals s t Exit events answer e other = exit_finals s t events e.reply e.is
effects_finals s t command events answer e other = piece_finals s t events command other e.0 (replied_piece s t command e.1.reply e.1.is)

-- the command changes finalizers, or doesn't
changes_or_not : (command : Command) → ChangesFinals command ⊎ (ChangesFinals command → ⊥)
changes_or_not (Final object label) = inl tt
changes_or_not (Unfinal object) = inl tt
changes_or_not _ = inr (λ none. none)

module _ (s t : State) (command : Command) (outputs : List Output) (l : Lawful s command outputs t) where
  told : ran_in outputs ≡ ran_among l.events
  told = ap ran_in l.outputs_are ∙ ran_outputs l.events l.answer (runs_none l.answer (effects_after s t command l.events l.answer l.effects).none)

  pub run_once : (ChangesFinals command → ⊥) → AreQueued s outputs t
  run_once other =
      let its = effects_finals s t command l.events l.answer l.effects other in
      record { queued = its.queued; defined = its.defined; order = ap (λ pairs. pairs ++ t.tables.queue) told ∙ its.order }

  pub queue_stays : ChangesFinals command → (ran_in outputs ≡ []) × (t.tables.queue ≡ s.tables.queue)
  queue_stays changes = let (none, same) = effects_queue s t command l.events l.answer l.effects changes in (told ∙ none, same)

  pub run_of_swept : Sound s → (name : ℕ) → is_member nat_eq (pair_names (ran_in outputs)) name ≡ true →
      IsSweptName t.graph t.heap.place t.heap.corpses name
  run_of_swept h name m = ⊎_elim
      (λ changes. absurd (false≢true (ap (λ pairs. is_member nat_eq (pair_names pairs) name) (sym (queue_stays changes).0) ∙ m)))
      (λ other. (effects_finals s t command l.events l.answer l.effects other).swept h name
      (ap (λ pairs. is_member nat_eq (pair_names pairs) name) (sym told) ∙ m))
      (changes_or_not command)
