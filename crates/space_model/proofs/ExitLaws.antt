-- What `exit` does to a state: it keeps it sound, and leaves nothing.
use Rattle.std.proofs.Common.{◌≡◌, ℕ, true, false, List, [], ◌∷◌, ◌++◌, length, map, nat_eq, refl, sym, ap, ◌∙◌}
use Rattle.std.specs.List.{IsDistinct}
use Rattle.std.specs.Set.{is_member}
use Rattle.std.specs.FinMap.{FinMap, get}
use Rattle.std.specs.Ordering.{nat_cmp}
use Rattle.std.proofs.lemmas.Bool.{false≢true}
use Rattle.std.proofs.lemmas.List.{append-nil}
use Rattle.space_model.specs.declared.event.Event.{Event}
use Rattle.space_model.specs.declared.event.Kind.TheVariants.{Full}
use Rattle.space_model.specs.declared.phase.Phase.TheVariants.{Idle}
use Rattle.space_model.specs.declared.reply.Reply.{Reply}
use Rattle.space_model.specs.declared.reply.Reply.TheVariants.{ExitRan}
use Rattle.space_model.specs.Compaction.{IsPinned}
use Rattle.space_model.specs.Completions.{Completes}
use Rattle.space_model.specs.Exit.{starts_dropped, Exits, AnswersExit}
use Rattle.space_model.specs.FinalCommands.{ran_events}
use Rattle.space_model.specs.Moments.{noted}
use Rattle.space_model.specs.Outputs.{Told}
use Rattle.space_model.specs.Roots.{root_names}
use Rattle.space_model.specs.Sound.{Sound}
use Rattle.space_model.specs.State.{State, is_present}
use Rattle.space_model.specs.ToldInOrder.{AreToldInOrder}
use Rattle.space_model.specs.Verdicts.{verdict_events}
use Rattle.space_model.proofs.AfterPieces.{heap_of, tables_of, Sound-tables_replaced, after_piece}
use Rattle.space_model.proofs.CollectionsKept.{Sound-swept_all}
use Rattle.space_model.proofs.CorpseNames.{freed_pages, swept_pages, SweepAll-there}
use Rattle.space_model.proofs.EntryLaws.{all_left}
use Rattle.space_model.proofs.Leaving.{leaves_swept, takes_of}
use Rattle.space_model.proofs.MovesKept.{SoundMoves-same}
use Rattle.space_model.proofs.Queueing.{queues_none}
use Rattle.space_model.proofs.Taking.{Takes, takes_then}
use Rattle.space_model.proofs.ToldNames.{gone_among, moved_among, moved_among-append}
use Rattle.space_model.proofs.WholeLaws.{Sound-completed, completed_idle, leaves_completed, Sound-collection, leaves_collection, unreached_names, collected_state, collects_there}

pub no_root : (name : ℕ) → is_member nat_eq (root_names []) name ≡ true → ⊥
unfolding root_names
no_root name m = false≢true m

-- roots and stack words go where nothing is under way
Sound-starts_dropped : (s t : State) → t ≡ noted (starts_dropped s) → s.collector.phase ≡ Idle → Sound s → Sound t
Sound-starts_dropped s t e idle h = after_piece (starts_dropped s) t e (record {
  heap = heap_of s h;
  moves = SoundMoves-same s (starts_dropped s) (λ e. e) refl refl h.moves;
  names = record { children_present = h.names.children_present; roots_present = λ n m. absurd (no_root n m) };
  items = h.items;
  roots = tt;
  tables = tables_of s h;
  once = h.moments.once;
  marking = λ marks. absurd (cc);
})

-- finalizers that ran wait no more
Sound-queue_emptied : (s t : State) → t ≡ record s { tables = record s.tables { queue = [] } } → Sound s → Sound t
Sound-queue_emptied s t e h = Sound-tables_replaced s t (record s.tables { queue = [] })
    (record { ids = h.ids; weak = h.weak; finals = h.finals; queue = λ n m. absurd (false≢true m) })
    e h

module _ (s t : State) (events : List Event) (ran : ℕ) (e : Exits s events ran t) (h : Sound s) where
  pub idle_sound : Sound e.idle
  idle_sound = Sound-completed s e.idle e.completion e.completes h

  pub dropped_sound : Sound e.dropped
  dropped_sound = Sound-starts_dropped e.idle e.dropped e.drops (completed_idle s e.idle e.completion e.completes h) idle_sound

  pub collected_sound : Sound e.collected
  collected_sound = Sound-collection e.dropped e.collected Full e.told e.scans e.collects dropped_sound

  pub swept_sound : Sound e.swept
  swept_sound = Sound-swept_all e.collected e.swept e.freed e.sweeps collected_sound

  pub exit_sound : Sound t
  exit_sound = Sound-queue_emptied e.swept t e.after swept_sound

pub answers_exit_sound : (s t : State) (events : List Event) (reply : Reply) → AnswersExit s events reply t → Sound s → Sound t
answers_exit_sound s t events (ExitRan ran) e h = exit_sound s t events ran e h
answers_exit_sound s t events _ e h = absurd e

-- what it takes

-- events of finalizers tell nothing to be gone
pub gone_among-ran : (pairs : List (ℕ × List ℕ)) → gone_among (ran_events pairs) ≡ []
gone_among-ran [] = refl
gone_among-ran (pair ∷ pairs) = gone_among-ran pairs

pub moved_among-ran : (pairs : List (ℕ × List ℕ)) → moved_among (ran_events pairs) ≡ []
moved_among-ran [] = refl
moved_among-ran (pair ∷ pairs) = moved_among-ran pairs

pub ran_in_order : (place : FinMap nat_cmp ℕ) (pairs : List (ℕ × List ℕ)) → AreToldInOrder place [] (map Told (ran_events pairs))
ran_in_order place [] = refl
ran_in_order place (pair ∷ pairs) = ran_in_order place pairs

takes_dropped : (s t : State) → t ≡ noted (starts_dropped s) → Takes s [] [] t
unfolding IsDistinct
takes_dropped s t e = record {
  told = refl;
  present = λ n m. absurd (false≢true m);
  order = refl;
  once = tt;
  there = λ n. ap (λ (u : State). is_present u n) e;
  place = λ n p. ap (λ (u : State). get u.heap.place n) e;
  graph = ap (λ (u : State). u.graph) e;
  limit = ap (λ (u : State). u.heap.limit) e;
  page_count = ap (λ (u : State). length u.heap.pages) e;
  ids = ap (λ (u : State). u.tables.ids) e;
  weak = ap (λ (u : State). u.tables.weak) e ∙ sym (all_left s.tables.weak);
  silent = refl;
  queues = queues_none s t (ap (λ (u : State). u.tables) e);
}

-- before the finalizers run it has taken these names
pub record ExitTakes (s : State) (events : List Event) (t : State) : Type 0 where
  pub swept : State
  pub taken : List ℕ
  pub told : List Event
  pub takes : Takes s told taken swept
  pub events_are : events ≡ told ++ ran_events swept.tables.queue
  pub stack : t.stack ≡ []
  pub after : t ≡ record swept { tables = record swept.tables { queue = [] } }
  pub sound : Sound s → Sound swept
  pub pinned : Sound s → (n : ℕ) → IsPinned s n → is_member nat_eq (moved_among told) n ≡ false

pub exit_stack : (s t : State) (events : List Event) (ran : ℕ) (e : Exits s events ran t) → t.stack ≡ []
exit_stack s t events ran e =
    ap (λ (u : State). u.stack) e.after
    ∙ (leaves_swept _ e.collected e.swept e.freed e.sweeps).stack
    ∙ (leaves_collection e.dropped e.collected Full e.told e.scans e.collects).stack
    ∙ ap (λ (u : State). u.stack) e.drops

-- only what was under way moves names, while all roots and stack words are there
exit_pinned : (s t : State) (events : List Event) (ran : ℕ) (e : Exits s events ran t) → Sound s → (n : ℕ) → IsPinned s n →
    is_member nat_eq (moved_among (e.completion ++ (e.told ++ []))) n ≡ false
exit_pinned s t events ran e h n pin =
    let completed = leaves_completed s e.idle e.completion e.completes in
    let collected = leaves_collection e.dropped e.collected Full e.told e.scans e.collects in
    let idle : e.dropped.collector.phase ≡ Idle =
    ap (λ (u : State). u.collector.phase) e.drops ∙ completed_idle s e.idle e.completion e.completes h in
    let later : moved_among (e.told ++ []) ≡ [] = ap moved_among (append-nil e.told) ∙ collected.unmoving (λ moves. cc) in
    let all : moved_among (e.completion ++ (e.told ++ [])) ≡ moved_among e.completion =
    moved_among-append e.completion (e.told ++ []) ∙ ap (λ names. moved_among e.completion ++ names) later ∙ append-nil (moved_among e.completion) in
    ap (λ names. is_member nat_eq names n) all ∙ completed.pinned n pin

pub exit_takes : (s t : State) (events : List Event) (ran : ℕ) → Exits s events ran t → ExitTakes s events t
exit_takes s t events ran e =
    let completed = leaves_completed s e.idle e.completion e.completes in
    let collected = leaves_collection e.dropped e.collected Full e.told e.scans e.collects in
    let swept = leaves_swept _ e.collected e.swept e.freed e.sweeps in
    let last = takes_then e.dropped e.collected e.swept e.told [] collected.taken swept.taken (takes_of e.dropped e.collected e.told collected)
    (takes_of e.collected e.swept [] swept) in
    let later = takes_then e.idle e.dropped e.swept [] (e.told ++ []) [] (collected.taken ++ swept.taken) (takes_dropped e.idle e.dropped e.drops) last in
    record {
      swept = e.swept;
      taken = completed.taken ++ (collected.taken ++ swept.taken);
      told = e.completion ++ (e.told ++ []);
      takes = takes_then s e.idle e.swept e.completion (e.told ++ []) completed.taken (collected.taken ++ swept.taken) (takes_of s e.idle e.completion completed)
          later;
      events_are = e.events_are ∙ regroup e.completion e.told (ran_events e.swept.tables.queue);
      stack = exit_stack s t events ran e;
      after = e.after;
      sound = swept_sound s t events ran e;
      pinned = exit_pinned s t events ran e;
    }
  where
    regroup : (a b c : List Event) → a ++ b ++ c ≡ (a ++ (b ++ [])) ++ c
    regroup [] b c = ap (λ x. x ++ c) (sym (append-nil b))
    regroup (x ∷ a) b c = ap (λ y. x ∷ y) (regroup a b c)

-- where what is under way can be completed, there is one
pub exit_there : (s idle : State) (completion : List Event) → Completes s completion idle → Sound s →
    (events : List Event) × (ran : ℕ) × (t : State) × Exits s events ran t
exit_there s idle completion completes h =
    let dropped : State = noted (starts_dropped idle) in
    let resting = completed_idle s idle completion completes h in
    let sound : Sound dropped = Sound-starts_dropped idle dropped refl resting (Sound-completed s idle completion completes h) in
    let none : Completes dropped [] dropped = at_rest dropped resting in
    let collected : State = collected_state dropped Full (unreached_names dropped) in
    let collects = collects_there dropped dropped [] none sound in
    let kept = Sound-collection dropped collected Full (verdict_events Full (unreached_names dropped)) _ collects sound in
    let swept : State = swept_pages collected.heap.unswept collected in (
      completion ++ verdict_events Full (unreached_names dropped) ++ ran_events swept.tables.queue,
      length swept.tables.queue,
      record swept { tables = record swept.tables { queue = [] } },
      record {
        idle = idle;
        completion = completion;
        completes = completes;
        dropped = dropped;
        drops = refl;
        collected = collected;
        told = verdict_events Full (unreached_names dropped);
        scans = _;
        collects = collects;
        swept = swept;
        freed = freed_pages collected.heap.unswept collected;
        sweeps = SweepAll-there collected kept;
        events_are = refl;
        ran_are = refl;
        after = refl;
      },
    )
  where
    at_rest : (s : State) → s.collector.phase ≡ Idle → Completes s [] s
    at_rest s e = rw e (refl, refl)
