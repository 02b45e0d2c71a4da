-- The commands of a major marking: they keep states sound and leave what is reached, and each has an answer.
use Rattle.std.proofs.Common.{◌≡◌, ◌≢◌, ℕ, zero, suc, ◌+◌, ◌-◌, ◌<◌, ◌≤◌, ◌&&◌, not, Bool, true, false, List, [], length, nat_eq, refl, sym, ap, ◌∙◌, subst, arith, ⊎_elim}
use Rattle.std.specs.Prelude.{◌↔◌}
use Rattle.std.specs.Set.{is_member}
use Rattle.std.proofs.lemmas.Bool.{and_parts, and_from, not-true, false≢true, false_from_ne_true, true_from_ne_false}
use Rattle.std.proofs.lemmas.List.{append-nil}
use Rattle.space_model.specs.declared.event.Event.{Event}
use Rattle.space_model.specs.declared.event.Kind.TheVariants.{Major}
use Rattle.space_model.specs.declared.phase.Phase.{Phase}
use Rattle.space_model.specs.declared.phase.Phase.TheVariants.{Idle, Marking, Sweeping, Moving, Fixing}
use Rattle.space_model.specs.declared.reply.Refusal.TheVariants.{NotMarking}
use Rattle.space_model.specs.declared.reply.Reply.{Reply}
use Rattle.space_model.specs.declared.reply.Reply.TheVariants.{Done, Scanned, Marked, Refused}
use Rattle.space_model.specs.Ages.{is_protected}
use Rattle.space_model.specs.Completions.{CompletesIn, Completes}
use Rattle.space_model.specs.MajorMarking.{marking_begun, BeginsMarking, AnswersMajor, scans_told, AnswersMark, AreLastScans, EndsMarking, AnswersFinish}
use Rattle.space_model.specs.Markings.{mark_started, took}
use Rattle.space_model.specs.Moments.{noted}
use Rattle.space_model.specs.Sound.{Sound}
use Rattle.space_model.specs.State.{State, is_present}
use Rattle.space_model.specs.Verdicts.{IsVerdict, verdict_events}
use Rattle.space_model.proofs.AfterPieces.{SoundHeap, heap_of, tables_of, sound_of}
use Rattle.space_model.proofs.CollectionsKept.{SoundMoments-started, Sound-took}
use Rattle.space_model.proofs.CorpseNames.{freed_pages, swept_pages, SweepAll-there}
use Rattle.space_model.proofs.FirmNames.{firm_names, CountIs-firm, firm_few}
use Rattle.space_model.proofs.Leaving.{Leaves, leaves_all, leaves_same, leaves_marked, leaves_taken, leaves_then}
use Rattle.space_model.proofs.MarkingKept.{IsMarkingSound, is_marking, SoundMarking-started}
use Rattle.space_model.proofs.PassingNames.{passing_names, IsRising-passing_names, member-passing_names, CountIs-passing}
use Rattle.space_model.proofs.MovesKept.{SoundMoves-still, SoundMoves-same}
use Rattle.space_model.proofs.WholeLaws.{Sound-completed, completed_idle, leaves_completed}

-- what they leave

leaves_begun : (s t : State) → t ≡ marking_begun s → Leaves s [] t
leaves_begun s t e = subst (Leaves s []) (sym e) (leaves_all s _ refl refl refl refl refl refl refl (λ e. absurd (cc)))

begins_leaves : (s t : State) (events : List Event) → BeginsMarking s events t → Leaves s events t
begins_leaves s t events b =
    let begun : Leaves b.idle [] t =
    leaves_then b.idle b.started t [] [] (leaves_marked b.idle b.started b.starts) (leaves_begun b.started t b.begins) in
    subst (λ told. Leaves s told t) (append-nil events) (leaves_then s b.idle t events [] (leaves_completed s b.idle events b.completes) begun)

pub major_leaves : (s t : State) (events : List Event) (reply : Reply) → AnswersMajor s events reply t → Leaves s events t
major_leaves s t events Done a = begins_leaves s t events a
major_leaves s t events _ a = absurd a

pub finish_leaves : (s t : State) (events : List Event) (reply : Reply) → AnswersFinish s events reply t → Leaves s events t
finish_leaves s t events (Scanned scans) a = leaves_taken s Major a.taken events t a.verdict
finish_leaves s t events (Refused why) a = subst (λ told. Leaves s told t) (sym a.2) (leaves_same s t a.3)
finish_leaves s t events _ a = absurd a

-- they keep states sound

-- a marking begins where nothing is under way
begun_heap : (s : State) → s.collector.phase ≡ Idle → Sound s → SoundHeap s.graph s.heap (marking_begun (mark_started s)).collector
begun_heap s idle h = record {
  layout = h.layout;
  corpses = h.corpses;
  sweep = record { rising = h.sweep.rising; have_pools = h.sweep.have_pools; some = λ e. absurd (cc); none = λ e. h.sweep.none (λ f. cc) };
  used = λ a b. h.used (λ e. cc) (λ e. cc);
  resting = λ a b. h.resting (λ e. cc) (λ e. cc);
  cursor = λ a. h.cursor (λ e. cc);
  left = h.left;
  stale = h.stale;
  kept = λ n m. absurd (false≢true m);
  outlived = h.outlived;
}

Sound-marking_begun : (s : State) → s.collector.phase ≡ Idle → Sound s → Sound (marking_begun (mark_started s))
Sound-marking_begun s idle h =
    let started = SoundMoments-started s in
    sound_of (marking_begun (mark_started s)) (begun_heap s idle h) (SoundMoves-still (marking_begun (mark_started s)) (λ e. cc)) h.names
    h.items h.roots (tables_of s h)
    (record { seen = started.seen; once = started.once; mixed = started.mixed })
    (λ e. SoundMarking-started s 1 refl h.names)

begins_sound : (s t : State) (events : List Event) → BeginsMarking s events t → Sound s → Sound t
begins_sound s t events b h =
    let idle = completed_idle s b.idle events b.completes h in
    let sound = Sound-completed s b.idle events b.completes h in
    subst Sound (sym (b.begins ∙ ap marking_begun b.starts)) (Sound-marking_begun b.idle idle sound)

pub major_sound : (s t : State) (events : List Event) (reply : Reply) → AnswersMajor s events reply t → Sound s → Sound t
major_sound s t events Done a h = begins_sound s t events a h
major_sound s t events _ a h = absurd a

pub Sound-scans_told : (s t : State) (scans : ℕ) → s.history.scanned + scans ≤ length s.history.seen → t ≡ scans_told s scans → Sound s → Sound t
Sound-scans_told s t scans few e h = subst Sound (sym e) (sound_of (scans_told s scans) (heap_of s h)
    (SoundMoves-same s (scans_told s scans) (λ e. e) refl refl h.moves) h.names h.items h.roots (tables_of s h)
    (record { seen = h.moments.seen; once = h.moments.once; mixed = h.moments.mixed })
    (λ m.
    let k = h.marking m in
    record { began_seen = k.began_seen; seen_present = k.seen_present; seen_closed = k.seen_closed; open_kept = k.open_kept; few_scans = few }))

ends_sound : (s t : State) (events : List Event) (scans : ℕ) → EndsMarking s events scans t → Sound s → Sound t
ends_sound s t events scans a h =
    let marking : s.collector.phase ≡ Marking = a.marking in
    Sound-took s t Major a.taken (λ e. cc) (λ e. cc) a.verdict.verdict a.verdict.takes h

pub finish_sound : (s t : State) (events : List Event) (reply : Reply) → AnswersFinish s events reply t → Sound s → Sound t
finish_sound s t events (Scanned scans) a h = ends_sound s t events scans a h
finish_sound s t events (Refused why) a h = subst Sound (sym a.3) h
finish_sound s t events _ a h = absurd a

-- each has an answer

-- what a number lacks to another
rest : (a b : ℕ) → a ≤ b → (c : ℕ) × (a + c ≡ b)
rest a b h = (b - a, omega (arith, h))

-- so many as are asked for, or all that are left where fewer are, and then how many are left
up_to : (count room : ℕ) → (made left : ℕ) × (made ≤ count) × (made < count → left ≡ 0) × (made + left ≡ room)
up_to zero room = (0, room, omega arith, λ f. absurd (omega arith), omega arith)
up_to (suc count) zero = (0, 0, omega arith, λ f. refl, refl)
up_to (suc count) (suc room) =
    let (made, left, few, all, sum) = up_to count room in
    (suc made, left, omega arith, λ f. all (omega arith), omega arith)

-- a major verdict may take the names that weren't seen
module _ (s : State) (h : Sound s) (k : IsMarkingSound s) where
  abbrev is_seen : ℕ → Bool
  is_seen n = is_member nat_eq s.history.seen n

  abbrev unseen_names : List ℕ
  unseen_names = passing_names s (λ n. not (is_member nat_eq s.history.seen n))

  are : (n : ℕ) → (is_member nat_eq unseen_names n ≡ true) ↔ ((is_present s n ≡ true) × (not (is_seen n) ≡ true))
  are n = member-passing_names s h.layout.placed (λ n. not (is_member nat_eq s.history.seen n)) n

  unseen : (n : ℕ) → is_member nat_eq unseen_names n ≡ true → is_seen n ≡ true → ⊥
  unseen n m seen = let out : is_seen n ≡ false = not-true (is_seen n) ((are n).0 m).1 in false≢true (sym out ∙ seen)

  stays_seen : (n : ℕ) → is_present s n ≡ true → is_member nat_eq unseen_names n ≡ false → is_seen n ≡ true
  stays_seen n p out = true_from_ne_false (is_seen n) (λ f. false≢true (sym out ∙ (are n).1 (p, ap not f)))

  seen_stays : (n : ℕ) → is_seen n ≡ true → is_member nat_eq unseen_names n ≡ false
  seen_stays n seen = false_from_ne_true _ (λ m. unseen n m seen)

  unseen_verdict : IsVerdict s Major unseen_names
  unseen_verdict = record {
    present = λ n m. ((are n).0 m).0;
    rising = IsRising-passing_names s (λ n. not (is_member nat_eq s.history.seen n));
    unreached = λ n m r. unseen n m (h.moments.seen n r);
    closed = λ m n p out c. seen_stays n (k.seen_closed m n (stays_seen m p out) c);
    by_kind = λ n p out. stays_seen n p out;
  }

  abbrev scanned_again : List ℕ
  scanned_again = passing_names s (λ n. is_member nat_eq s.history.seen n && not (is_protected s.graph n))

  -- what was seen survives it, and is scanned once
  last_scans : (scans : ℕ) → s.history.scanned + scans ≡ length s.history.seen → AreLastScans s unseen_names scans
  last_scans scans sum = record {
    survivors = length s.history.seen;
    survivors_are = record {
      names = s.history.seen;
      once = h.moments.once;
      are = λ n. ((λ m. (k.seen_present n m, seen_stays n m)), (λ (p, out). stays_seen n p out));
      long = refl;
    };
    again = length scanned_again;
    again_are = CountIs-passing s h.layout.placed (λ n. is_member nat_eq s.history.seen n && not (is_protected s.graph n)) _
        (λ n. (
          (λ (p, e). let both = and_parts _ _ e in ((p, seen_stays n both.0), not-true _ both.1)),
          (λ ((p, out), bare). (p, and_from _ _ (stays_seen n p out) (ap not bare))),
        ));
    at_least = omega arith;
    at_most = omega arith;
  }

  mark_made : (count : ℕ) → s.collector.phase ≡ Marking → (reply : Reply) × (t : State) × AnswersMark s count reply t
  mark_made count marking =
      let (room, sum) = rest s.history.scanned (length s.history.seen) k.few_scans in
      let (made, left, few, all, total) = up_to count room in
      let firm = firm_few s k in (
        Marked made left,
        scans_told s made,
        record {
          marking = marking;
          at_most = few;
          all = all;
          after = refl;
          within = omega arith;
          firm = length (firm_names s);
          firm_are = CountIs-firm s;
          at_least = λ none. omega arith;
        },
      )

  finish_made : s.collector.phase ≡ Marking → (events : List Event) × (reply : Reply) × (t : State) × AnswersFinish s events reply t
  finish_made marking =
      let (scans, sum) = rest s.history.scanned (length s.history.seen) k.few_scans in (
        verdict_events Major unseen_names,
        Scanned scans,
        noted (took s Major unseen_names),
        record {
          marking = marking;
          taken = unseen_names;
          verdict = record { verdict = unseen_verdict; takes = refl; events_are = refl };
          scans_are = last_scans scans sum;
        },
      )

  completion_made : s.collector.phase ≡ Marking → (events : List Event) × (idle : State) × CompletesIn Marking s events idle
  completion_made marking =
      let judged : State = noted (took s Major unseen_names) in
      let sound : Sound judged = Sound-took s judged Major unseen_names (λ e. cc) (λ e. cc) unseen_verdict refl h in (
        verdict_events Major unseen_names,
        swept_pages judged.heap.unswept judged,
        record {
          taken = unseen_names;
          judged = judged;
          verdict = record { verdict = unseen_verdict; takes = refl; events_are = refl };
          freed = freed_pages judged.heap.unswept judged;
          sweeps = SweepAll-there judged sound;
        },
      )

completion_in : (phase : Phase) (s : State) → s.collector.phase ≡ phase → phase ≢ Moving → phase ≢ Fixing → Sound s →
    (events : List Event) × (idle : State) × CompletesIn phase s events idle
completion_in Idle s e moves fixes h = ([], s, (refl, refl))
completion_in Marking s e moves fixes h = completion_made s h (h.marking e) e
completion_in Sweeping s e moves fixes h =
    ([], swept_pages s.heap.unswept s, (freed_pages s.heap.unswept s, refl, SweepAll-there s h))
completion_in Moving s e moves fixes h = absurd (moves refl)
completion_in Fixing s e moves fixes h = absurd (fixes refl)

pub completion_there : (s : State) → s.collector.phase ≢ Moving → s.collector.phase ≢ Fixing → Sound s →
    (events : List Event) × (idle : State) × Completes s events idle
completion_there s moves fixes h = completion_in s.collector.phase s refl moves fixes h

pub major_there : (s : State) → s.collector.phase ≢ Moving → s.collector.phase ≢ Fixing → Sound s →
    (events : List Event) × (t : State) × AnswersMajor s events Done t
major_there s moves fixes h =
    let (events, idle, completes) = completion_there s moves fixes h in (
      events,
      marking_begun (mark_started idle),
      record { idle = idle; completes = completes; started = mark_started idle; starts = refl; begins = refl },
    )

pub mark_there : (s : State) (count : ℕ) → Sound s → (reply : Reply) × (t : State) × AnswersMark s count reply t
mark_there s count h = ⊎_elim
    (λ marking. mark_made s h (h.marking marking) count marking)
    (λ none. (Refused NotMarking, s, (none, refl, refl)))
    (is_marking s.collector.phase)

pub finish_there : (s : State) → Sound s → (events : List Event) × (reply : Reply) × (t : State) × AnswersFinish s events reply t
finish_there s h = ⊎_elim
    (λ marking. finish_made s h (h.marking marking) marking)
    (λ none. ([], Refused NotMarking, s, (none, refl, refl, refl)))
    (is_marking s.collector.phase)
