-- Which finalizers are queued over a piece of work.
use Rattle.std.proofs.Common.{◌≡◌, ℕ, zero, suc, List, [], ◌∷◌, ◌++◌, length, map, refl, sym, ap, ◌∙◌}
use mathlib.Core.List.{append_assoc}
use Rattle.std.proofs.lemmas.List.{append-nil}
use Rattle.space_model.specs.declared.event.Event.{Event}
use Rattle.space_model.specs.declared.event.Event.TheVariants.{Gone, Verdict}
use Rattle.space_model.specs.declared.event.Kind.{Kind}
use Rattle.space_model.specs.FinalCommands.{ran_events}
use Rattle.space_model.specs.Finalizers.{labels_of, pairs_of_names}
use Rattle.space_model.specs.Outputs.{Output, Told, ran_of, ran_in}
use Rattle.space_model.specs.State.{State, Tables}
use Rattle.space_model.specs.Sweeps.{Sweep1, Sweeps}
use Rattle.space_model.specs.Verdicts.{verdict_events}
use Rattle.space_model.proofs.FinalNames.{labels_of-append, labels_parted}
use Rattle.space_model.proofs.ToldNames.{IsDistinct-rising}

-- the finalizers that events tell to have run
abbrev pub ran_among : List Event → List (ℕ × List ℕ)
ran_among [] = []
ran_among (event ∷ events) = ran_of event ++ ran_among events

pub ran_among-append : (events others : List Event) → ran_among (events ++ others) ≡ ran_among events ++ ran_among others
ran_among-append [] others = refl
ran_among-append (event ∷ events) others =
    ap (λ pairs. ran_of event ++ pairs) (ran_among-append events others) ∙ sym (append_assoc (ran_of event) (ran_among events) (ran_among others))

-- those of the outputs are those of the events, where the answer tells none
pub ran_outputs : (events : List Event) (answer : List Output) → ran_in answer ≡ [] → ran_in (map Told events ++ answer) ≡ ran_among events
ran_outputs [] answer none = none
ran_outputs (event ∷ events) answer none = ap (λ pairs. ran_of event ++ pairs) (ran_outputs events answer none)

-- a verdict runs none
ran_verdict : (kind : Kind) (count : ℕ) (taken : List ℕ) → ran_among (map Gone taken ++ Verdict kind count ∷ []) ≡ []
ran_verdict kind count [] = refl
ran_verdict kind count (name ∷ taken) = ran_verdict kind count taken

pub ran_verdict_events : (kind : Kind) (taken : List ℕ) → ran_among (verdict_events kind taken) ≡ []
ran_verdict_events kind taken = ran_verdict kind (length taken) taken

-- the events of finalizers tell these
pub ran_among-ran : (pairs : List (ℕ × List ℕ)) → ran_among (ran_events pairs) ≡ pairs
ran_among-ran [] = refl
ran_among-ran (pair ∷ pairs) = ap (λ rest. (pair.0, pair.1) ∷ rest) (ran_among-ran pairs)

-- some finalizers went from those that are defined to the end of the queue
pub record Queues (s t : State) : Type 0 where
  pub queued : List (ℕ × List ℕ)
  pub defined : (name : ℕ) → labels_of queued name ++ labels_of t.tables.finals name ≡ labels_of s.tables.finals name
  pub queue : t.tables.queue ≡ s.tables.queue ++ queued

-- or none
pub queues_none : (s t : State) → t.tables ≡ s.tables → Queues s t
queues_none s t same = record {
  queued = [];
  defined = λ name. ap (λ (tables : Tables). labels_of tables.finals name) same;
  queue = ap (λ (tables : Tables). tables.queue) same ∙ sym (append-nil s.tables.queue);
}

pub queues_then : (s m t : State) → Queues s m → Queues m t → Queues s t
queues_then s m t h k = record {
  queued = h.queued ++ k.queued;
  defined = λ name.
      ap (λ labels. labels ++ labels_of t.tables.finals name) (labels_of-append h.queued k.queued name)
      ∙ append_assoc (labels_of h.queued name) (labels_of k.queued name) (labels_of t.tables.finals name)
      ∙ ap (λ labels. labels_of h.queued name ++ labels) (k.defined name)
      ∙ h.defined name;
  queue = k.queue ∙ ap (λ queue. queue ++ k.queued) h.queue ∙ append_assoc s.tables.queue h.queued k.queued;
}

-- the sweep of a page queues those of the corpses on it
pub queues_swept_page : (s t : State) (freed : List ℕ) → Sweep1 s freed t → Queues s t
queues_swept_page s t freed step = record {
  queued = pairs_of_names s.tables.finals freed;
  defined = λ name.
      ap (λ (u : State). labels_of (pairs_of_names s.tables.finals freed) name ++ labels_of u.tables.finals name) step.after
      ∙ labels_parted s.tables.finals freed name (IsDistinct-rising s.heap.corpses freed step.corpses.rising);
  queue = ap (λ (u : State). u.tables.queue) step.after;
}

pub queues_swept : (pages : ℕ) (s t : State) (freed : List ℕ) → Sweeps pages s freed t → Queues s t
queues_swept zero s t freed (none, same) = queues_none s t (ap (λ (u : State). u.tables) same)
queues_swept (suc pages) s t freed (now, later, mid, both, first, others) =
    queues_then s mid t (queues_swept_page s mid now first) (queues_swept pages mid t later others)
