-- What a collection does to a state: it keeps it sound, and leaves what was reached; and that there is one.
use Rattle.std.proofs.Common.{◌≡◌, ◌≢◌, not, nat_eq, ℕ, true, false, List, [], ◌∷◌, ◌++◌, length, refl, sym, ap, ◌∙◌, subst}
use Rattle.std.specs.Prelude.{◌↔◌}
use Rattle.std.specs.Set.{is_member}
use Rattle.std.proofs.lemmas.Bool.{not-true, false≢true, false_from_ne_true}
use Rattle.std.proofs.lemmas.List.{append-nil}
use Rattle.space_model.specs.declared.event.Event.{Event}
use Rattle.space_model.specs.declared.event.Kind.{Kind}
use Rattle.space_model.specs.declared.event.Kind.TheVariants.{Major, Full}
use Rattle.space_model.specs.declared.phase.Phase.{Phase}
use Rattle.space_model.specs.declared.phase.Phase.TheVariants.{Idle, Marking, Sweeping, Moving, Fixing}
use Rattle.space_model.specs.declared.reply.Reply.{Reply}
use Rattle.space_model.specs.declared.reply.Reply.TheVariants.{Scanned}
use Rattle.space_model.specs.Collections.{AreScans, IsCollection, Collects}
use Rattle.space_model.specs.Completions.{CompletesIn, Completes}
use Rattle.space_model.specs.Counts.{CountIs}
use Rattle.space_model.specs.Markings.{mark_started, StartMark, took, Took}
use Rattle.space_model.specs.Moments.{noted}
use Rattle.space_model.specs.Reach.{Reach}
use Rattle.space_model.specs.Reached.{reached_names}
use Rattle.space_model.specs.Sound.{Sound}
use Rattle.space_model.specs.State.{State, is_present}
use Rattle.space_model.specs.Sweeps.{sweep_phase}
use Rattle.space_model.specs.Verdicts.{IsVerdict, verdict_events}
use Rattle.space_model.proofs.CollectionsKept.{Sound-start, Sound-took, Sound-swept_all}
use Rattle.space_model.proofs.CompactionNames.{leaves_fixes, leaves_compacted}
use Rattle.space_model.proofs.CompactedSound.{fixes_sound, compacted_sound}
use Rattle.space_model.proofs.Leaving.{Leaves, leaves_same, leaves_marked, leaves_swept, leaves_taken, leaves_then, leaves_reach, leaves_reached}
use Rattle.space_model.proofs.SweptLaws.{SweepAll-swept}
use Rattle.space_model.proofs.PassingNames.{passing_names, IsRising-passing_names, member-passing_names}
use Rattle.space_model.proofs.ReachedLaws.{member-reached_names}
use Rattle.space_model.proofs.VerdictLaws.{reach_present, verdict_marked, scans_are_reached, full_leaves_reached, full_verdict}

-- a completion

completion_sound : (phase : Phase) (s t : State) (events : List Event) → s.collector.phase ≡ phase → CompletesIn phase s events t → Sound s → Sound t
completion_sound Idle s t events e c h = subst Sound (sym c.1) h
completion_sound Marking s t events e c h =
    let judged = Sound-took s c.judged Major c.taken (λ moves. cc) (λ fixes. cc) c.verdict.verdict c.verdict.takes h in
    Sound-swept_all c.judged t c.freed c.sweeps judged
completion_sound Sweeping s t events e c h = Sound-swept_all s t c.0 c.2 h
completion_sound Moving s t events e c h = compacted_sound s events t e c h
completion_sound Fixing s t events e c h = fixes_sound s t e c.1 h

pub Sound-completed : (s t : State) (events : List Event) → Completes s events t → Sound s → Sound t
Sound-completed s t events c h = completion_sound s.collector.phase s t events refl c h

sweeps : (unswept : List ℕ) → (unswept ≡ [] → ⊥) → sweep_phase unswept ≡ Sweeping
sweeps [] h = absurd (h refl)
sweeps (page ∷ others) h = refl

-- after a verdict the phase is that of the pages that wait
taken_phase : (s t : State) (kind : Kind) (taken : List ℕ) → Took s kind taken t → t.collector.phase ≡ sweep_phase t.heap.unswept
taken_phase s t kind taken e = subst (λ (u : State). u.collector.phase ≡ sweep_phase u.heap.unswept) (sym e) refl

completion_idle : (phase : Phase) (s t : State) (events : List Event) → s.collector.phase ≡ phase → CompletesIn phase s events t → Sound s →
    t.collector.phase ≡ Idle
completion_idle Idle s t events e c h = ap (λ (u : State). u.collector.phase) c.1 ∙ e
completion_idle Marking s t events e c h = (SweepAll-swept c.judged t c.freed c.sweeps).phase (taken_phase s c.judged Major c.taken c.verdict.takes)
completion_idle Sweeping s t events e c h = (SweepAll-swept s t c.0 c.2).phase (e ∙ sym (sweeps s.heap.unswept (h.sweep.some e)))
completion_idle Moving s t events e c h = ap (λ (u : State). u.collector.phase) c.fixes.after
completion_idle Fixing s t events e c h = ap (λ (u : State). u.collector.phase) c.1.after

-- nothing is under way after a completion
pub completed_idle : (s t : State) (events : List Event) → Completes s events t → Sound s → t.collector.phase ≡ Idle
completed_idle s t events c h = completion_idle s.collector.phase s t events refl c h

completion_leaves : (phase : Phase) (s t : State) (events : List Event) → s.collector.phase ≡ phase → CompletesIn phase s events t → Leaves s events t
completion_leaves Idle s t events e c = subst (λ events. Leaves s events t) (sym c.0) (leaves_same s t c.1)
completion_leaves Marking s t events e c =
    subst (λ told. Leaves s told t) (append-nil events)
    (leaves_then s c.judged t events [] (leaves_taken s Major c.taken events c.judged c.verdict) (leaves_swept _ c.judged t c.freed c.sweeps))
completion_leaves Sweeping s t events e c = subst (λ events. Leaves s events t) (sym c.1) (leaves_swept _ s t c.0 c.2)
completion_leaves Moving s t events e c = leaves_compacted s events t e c
completion_leaves Fixing s t events e c = subst (λ events. Leaves s events t) (sym c.0) (leaves_fixes s t c.1)

pub leaves_completed : (s t : State) (events : List Event) → Completes s events t → Leaves s events t
leaves_completed s t events c = completion_leaves s.collector.phase s t events refl c

-- a collection

pub leaves_collection : (s t : State) (kind : Kind) (events : List Event) (scans : ℕ) → IsCollection s kind events scans t → Leaves s events t
leaves_collection s t kind events scans c =
    let marking : Leaves c.idle c.told t =
    leaves_then c.idle c.marked t [] c.told (leaves_marked c.idle c.marked c.starts) (leaves_taken c.marked kind c.taken c.told t c.verdict) in
    subst (λ events. Leaves s events t) (sym c.events_are)
    (leaves_then s c.idle t c.completion c.told (leaves_completed s c.idle c.completion c.completes) marking)

-- the marking of a collection starts from a sound state, in which nothing is under way
marked_sound : (s t : State) (kind : Kind) (events : List Event) (scans : ℕ) (c : IsCollection s kind events scans t) → Sound s →
    Sound c.marked × (c.marked.collector.phase ≡ Idle)
marked_sound s t kind events scans c h = (
  Sound-start c.idle c.marked c.starts (Sound-completed s c.idle c.completion c.completes h),
  ap (λ (u : State). u.collector.phase) c.starts ∙ completed_idle s c.idle c.completion c.completes h,
)

pub Sound-collection : (s t : State) (kind : Kind) (events : List Event) (scans : ℕ) → IsCollection s kind events scans t → Sound s → Sound t
Sound-collection s t kind events scans c h =
    let (sound, idle) = marked_sound s t kind events scans c h in
    Sound-took c.marked t kind c.taken (λ e. cc) (λ e. cc) c.verdict.verdict c.verdict.takes sound

pub collects_sound : (s t : State) (kind : Kind) (events : List Event) (reply : Reply) → Collects s kind events reply t → Sound s → Sound t
collects_sound s t kind events (Scanned scans) c h = Sound-collection s t kind events scans c h
collects_sound s t kind events _ c h = absurd c

-- as many have a property as have another that comes to the same
pub counted_also : (P Q : ℕ → Type 0) (count : ℕ) → ((n : ℕ) → P n ↔ Q n) → CountIs P count → CountIs Q count
counted_also P Q count same c = record {
  names = c.names;
  once = c.once;
  are = λ n. ((λ m. (same n).0 ((c.are n).0 m)), (λ q. (c.are n).1 ((same n).1 q)));
  long = c.long;
}

marked_reach : (s t : State) → StartMark s t → (n : ℕ) → Reach t n ↔ Reach s n
marked_reach s t e n = subst (λ (u : State). Reach u n ↔ Reach s n) (sym e) ((λ r. r), (λ r. r))

-- the number of scans of a whole collection is that of the names that were reached after the completion
pub collection_scans : (s t : State) (events : List Event) (scans : ℕ) (c : IsCollection s Full events scans t) → CountIs (Reach c.idle) scans
collection_scans s t events scans c = subst (CountIs (Reach c.idle)) (sym c.scans_are) (scans_are_reached c.idle c.marked c.starts)

-- and what was reached then is what is present after it
pub collection_leaves : (s t : State) (events : List Event) (scans : ℕ) (c : IsCollection s Full events scans t) → Sound s → (n : ℕ) →
    (is_present t n ≡ true) ↔ Reach c.idle n
collection_leaves s t events scans c h n =
    let there = full_leaves_reached c.marked t c.taken c.verdict.verdict c.verdict.takes (marked_sound s t Full events scans c h).0 n in
    let same = marked_reach c.idle c.marked c.starts n in
    ((λ p. same.0 (there.0 p)), (λ r. there.1 (same.1 r)))

-- the same names are reached after a completion
pub completed_reach : (s t : State) (events : List Event) → Completes s events t → s.collector.phase ≢ Moving → (n : ℕ) → Reach t n ↔ Reach s n
completed_reach s t events c still n = leaves_reach s events t (leaves_completed s t events c) ((leaves_completed s t events c).unmoving still) n

-- and what was reached in a sound state is present after it
pub completed_present : (s t : State) (events : List Event) → Completes s events t → Sound s → (n : ℕ) → Reach s n → is_present t n ≡ true
completed_present s t events c h n r = reach_present t (Sound-completed s t events c h).names n (leaves_reached s events t (leaves_completed s t events c) n r)

-- after a collection the phase is that of the pages that wait
pub collection_phase : (s t : State) (kind : Kind) (events : List Event) (scans : ℕ) → IsCollection s kind events scans t →
    t.collector.phase ≡ sweep_phase t.heap.unswept
collection_phase s t kind events scans c = taken_phase c.marked t kind c.taken c.verdict.takes

-- the state after a collection, from one in which nothing is under way, by its kind and the names that are taken
abbrev pub collected_state : State → Kind → List ℕ → State
collected_state s kind taken = noted (took (mark_started s) kind taken)

-- a completion, a verdict, and a number of scans make a collection
pub collects_after : (s : State) (kind : Kind) (taken : List ℕ) → IsVerdict (mark_started s) kind taken →
    (before : State) (completion : List Event) (scans : ℕ) → Completes before completion s → AreScans kind s (mark_started s) taken scans →
    IsCollection before kind (completion ++ verdict_events kind taken) scans (collected_state s kind taken)
collects_after s kind taken v before completion scans completes are = record {
  idle = s;
  completion = completion;
  completes = completes;
  marked = mark_started s;
  starts = refl;
  taken = taken;
  told = verdict_events kind taken;
  verdict = record { verdict = v; takes = refl; events_are = refl };
  scans_are = are;
  events_are = refl;
}

-- the present names that aren't reached, in ascending order of place
pub unreached_names : State → List ℕ
unreached_names s = passing_names s (λ name. not (is_member nat_eq (reached_names s) name))

-- in a sound state they are what a full verdict takes
unreached_verdict : (s : State) → Sound s → IsVerdict s Full (unreached_names s)
unfolding unreached_names
unreached_verdict s h =
    let are = member-passing_names s h.layout.placed (λ name. not (is_member nat_eq (reached_names s) name)) in
    full_verdict s (unreached_names s)
    (λ n. (
      (λ m.
          let both = (are n).0 m in
          let out : is_member nat_eq (reached_names s) n ≡ false = not-true (is_member nat_eq (reached_names s) n) both.1 in
          (both.0, λ r. false≢true (sym out ∙ (member-reached_names s n).1 r))),
      (λ (p, u). (are n).1 (p, ap not (false_from_ne_true _ (λ q. u ((member-reached_names s n).0 q))))),
    ))
    (IsRising-passing_names s (λ name. not (is_member nat_eq (reached_names s) name)))

-- so where what is under way can be completed there is a whole collection
pub collects_there : (s idle : State) (completion : List Event) → Completes s completion idle → Sound s →
    IsCollection s Full (completion ++ verdict_events Full (unreached_names idle)) (length (reached_names idle))
    (collected_state idle Full (unreached_names idle))
collects_there s idle completion completes h =
    let sound : Sound idle = Sound-completed s idle completion completes h in
    collects_after idle Full (unreached_names idle) (verdict_marked idle (unreached_names idle) (unreached_verdict idle sound)) s
    completion (length (reached_names idle)) completes refl
