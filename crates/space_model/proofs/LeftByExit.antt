-- Nothing is left after `exit`.
use Rattle.std.proofs.Common.{◌≡◌, ℕ, true, List, [], ◌∷◌, ◌++◌, nat_eq, refl, sym, ap, ◌∙◌, ⊎_elim, Option, None, Some}
use mathlib.Core.List.{append-nil}
use Rattle.std.specs.Prelude.{is_some}
use Rattle.std.specs.Set.{is_member}
use Rattle.std.specs.Ordering.{nat_cmp}
use Rattle.std.specs.FinMap.{FinMap, get}
use Rattle.std.proofs.lemmas.Bool.{false≢true, false_from_ne_true}
use Rattle.space_model.specs.declared.command.Command.TheVariants.{Exit}
use Rattle.space_model.specs.declared.event.Event.{Event}
use Rattle.space_model.specs.declared.event.Kind.TheVariants.{Full}
use Rattle.space_model.specs.declared.phase.Phase.TheVariants.{Idle}
use Rattle.space_model.specs.declared.reply.Reply.{Reply}
use Rattle.space_model.specs.declared.reply.Reply.TheVariants.{ExitRan}
use Rattle.space_model.specs.Exit.{Exits, AnswersExit}
use Rattle.space_model.specs.FinalLaws.{IsEmptied, LeavesNothing}
use Rattle.space_model.specs.Finalizers.{labels_of}
use Rattle.space_model.specs.Graph.{IsChild}
use Rattle.space_model.specs.Lawful.{Lawful}
use Rattle.space_model.specs.Outputs.{Output, ran_in}
use Rattle.space_model.specs.Pages.{pool_at}
use Rattle.space_model.specs.Reach.{IsStart, Reach}
use Rattle.space_model.specs.Roots.{root_names}
use Rattle.space_model.specs.Sound.{Sound, AreSoundEntries}
use Rattle.space_model.specs.State.{State, WeakEntry, is_present}
use Rattle.space_model.proofs.ExitLaws.{dropped_sound, swept_sound, no_root, exit_stack, exit_takes}
use Rattle.space_model.proofs.FinalNames.{labels_of-append, none_named}
use Rattle.space_model.proofs.FinalsAfter.{run_once}
use Rattle.space_model.proofs.Leaving.{leaves_swept, leaves_reach}
use Rattle.space_model.proofs.MapLaws.{some_get}
use Rattle.space_model.proofs.PageLaws.{user}
use Rattle.space_model.proofs.Reaching.{IsReached-least}
use Rattle.space_model.proofs.SweepKept.{no_corpse}
use Rattle.space_model.proofs.SweptLaws.{Sweeps-place, SweepAll-swept}
use Rattle.space_model.proofs.WholeLaws.{collection_leaves, collection_phase, leaves_collection, completed_idle, leaves_completed}

-- no entry is left where nothing is present
no_entries : (place : FinMap nat_cmp ℕ) (entries : List WeakEntry) → ((n : ℕ) → is_some (get place n) ≡ true → ⊥) → AreSoundEntries place entries → entries ≡ []
no_entries place [] none h = refl
no_entries place (entry ∷ entries) none h = absurd (none entry.key_name h.0)

-- and nothing is reached without roots and stack words
none_reached : (s : State) → s.roots ≡ [] → s.stack ≡ [] → (n : ℕ) → Reach s n → ⊥
none_reached s roots stack = IsReached-least (IsChild s.graph) (IsStart s) (λ n. ⊥)
    (λ m n none c. none)
    (λ n start. ⊎_elim
    (λ held. no_root n (ap (λ roots. is_member nat_eq (root_names roots) n) (sym roots) ∙ held))
    (λ (word, on, at). false≢true (ap (λ words. is_member nat_eq words word) (sym stack) ∙ on))
    start)

none_or_some : {A : Type 0} (o : Option A) → (is_some o ≡ true → ⊥) → o ≡ None
none_or_some None h = refl
none_or_some (Some a) h = absurd (h refl)

module _ (s t : State) (events : List Event) (ran : ℕ) (e : Exits s events ran t) (h : Sound s) where
  roots_left : t.roots ≡ []
  roots_left =
      ap (λ (u : State). u.roots) e.after
      ∙ (leaves_swept _ e.collected e.swept e.freed e.sweeps).roots
      ∙ (leaves_collection e.dropped e.collected Full e.told e.scans e.collects).roots
      ∙ ap (λ (u : State). u.roots) e.drops

  none_there : (n : ℕ) → is_some (get e.swept.heap.place n) ≡ true → ⊥
  none_there n p =
      let there : is_present e.collected n ≡ true =
      ap (λ place. is_some (get place n)) (sym (Sweeps-place _ e.collected e.swept e.freed e.sweeps)) ∙ p in
      let reached = (collection_leaves e.dropped e.collected e.told e.scans e.collects (dropped_sound s t events ran e h) n).0 there in
      let left = leaves_completed e.dropped e.collects.idle e.collects.completion e.collects.completes in
      let rests : e.dropped.collector.phase ≡ Idle =
      ap (λ (u : State). u.collector.phase) e.drops ∙ completed_idle s e.idle e.completion e.completes h in
      none_reached e.dropped (ap (λ (u : State). u.roots) e.drops) (ap (λ (u : State). u.stack) e.drops) n
      ((leaves_reach e.dropped e.collects.completion e.collects.idle left (left.unmoving (λ moves. cc)) n).0 reached)

  resting : e.swept.collector.phase ≡ Idle
  resting = (SweepAll-swept e.collected e.swept e.freed e.sweeps).phase (collection_phase e.dropped e.collected Full e.told e.scans e.collects)

  none_lies : (n : ℕ) → is_some (get e.swept.heap.corpses n) ≡ true → ⊥
  none_lies n p =
      let sound = swept_sound s t events ran e h in
      let at = some_get (get e.swept.heap.corpses n) p in
      no_corpse e.swept.graph e.swept.heap.place e.swept.heap.corpses e.swept.collector.phase e.swept.heap.pages e.swept.heap.unswept sound.corpses
      sound.sweep (λ sweeps. let idle = resting in cc) n at.0 at.1

  none_waits : e.swept.heap.unswept ≡ []
  none_waits = (SweepAll-swept e.collected e.swept e.freed e.sweeps).none_waits

  none_used : (page : ℕ) → is_some (pool_at e.swept.heap.pages page) ≡ true → ⊥
  none_used page p =
      let sound = swept_sound s t events ran e h in
      let used = sound.used (λ moves. let idle = resting in cc) (λ fixes. let idle = resting in cc) page p
      (ap (λ pages. is_member nat_eq pages page) none_waits) in
      let (n, address, at, on) = user e.swept.heap.place page used in
      none_there n (ap is_some at)

  emptied : IsEmptied t
  emptied =
      let sound = swept_sound s t events ran e h in
      record {
        roots = roots_left;
        stack = exit_stack s t events ran e;
        present = λ n. ap (λ (u : State). is_present u n) e.after ∙ false_from_ne_true _ (none_there n);
        corpses = λ n. ap (λ (u : State). get u.heap.corpses n) e.after ∙ none_or_some (get e.swept.heap.corpses n) (none_lies n);
        spare = λ page. ap (λ (u : State). pool_at u.heap.pages page) e.after ∙ none_or_some (pool_at e.swept.heap.pages page) (none_used page);
        unswept = ap (λ (u : State). u.heap.unswept) e.after ∙ none_waits;
        phase = ap (λ (u : State). u.collector.phase) e.after ∙ resting;
        weak = ap (λ (u : State). u.tables.weak) e.after ∙ no_entries e.swept.heap.place e.swept.tables.weak none_there sound.weak;
        finals = ap (λ (u : State). u.tables.finals) e.after
            ∙ none_named e.swept.tables.finals (λ n m. ⊎_elim (λ there. none_there n there) (λ lies. none_lies n lies) (sound.finals n m));
        queue = ap (λ (u : State). u.tables.queue) e.after;
      }

answers_emptied : (s t : State) (events : List Event) (reply : Reply) → AnswersExit s events reply t → Sound s → IsEmptied t
answers_emptied s t events (ExitRan ran) e h = emptied s t events ran e h
answers_emptied s t events _ e h = absurd e

answers_graph : (s t : State) (events : List Event) (reply : Reply) → AnswersExit s events reply t → t.graph ≡ s.graph
answers_graph s t events (ExitRan ran) e =
    let x = exit_takes s t events ran e in ap (λ (u : State). u.graph) x.after ∙ x.takes.graph
answers_graph s t events _ e = absurd e

answers_ids : (s t : State) (events : List Event) (reply : Reply) → AnswersExit s events reply t → t.tables.ids ≡ s.tables.ids
answers_ids s t events (ExitRan ran) e =
    let x = exit_takes s t events ran e in ap (λ (u : State). u.tables.ids) x.after ∙ x.takes.ids
answers_ids s t events _ e = absurd e

pub exit_leaves : (s t : State) (outputs : List Output) → Lawful s Exit outputs t → Sound s → LeavesNothing s outputs t
exit_leaves s t outputs l h =
    let gone = answers_emptied s t l.events l.effects.reply l.effects.is h in
    let its = run_once s t Exit outputs l (λ none. none) in
    record {
      emptied = gone;
      graph = answers_graph s t l.events l.effects.reply l.effects.is;
      ids = answers_ids s t l.events l.effects.reply l.effects.is;
      ran = λ name.
          let all : ran_in outputs ≡ s.tables.queue ++ its.queued =
          sym (append-nil (ran_in outputs)) ∙ ap (λ queue. ran_in outputs ++ queue) (sym gone.queue) ∙ its.order in
          let queued : labels_of its.queued name ≡ labels_of s.tables.finals name =
          sym (append-nil (labels_of its.queued name))
          ∙ ap (λ pairs. labels_of its.queued name ++ labels_of pairs name) (sym gone.finals)
          ∙ its.defined name in
          ap (λ pairs. labels_of pairs name) all
          ∙ labels_of-append s.tables.queue its.queued name
          ∙ ap (λ labels. labels_of s.tables.queue name ++ labels) queued;
    }
