-- The commands of a compaction keep states sound.
use Rattle.std.proofs.Common.{◌≡◌, ℕ, Bool, true, false, List, sym, ap, ◌∙◌, subst, ⊎_elim}
use Rattle.space_model.specs.declared.event.Event.{Event}
use Rattle.space_model.specs.declared.event.Kind.TheVariants.{Full}
use Rattle.space_model.specs.declared.phase.Phase.TheVariants.{Idle, Fixing}
use Rattle.space_model.specs.declared.reply.Reply.{Reply}
use Rattle.space_model.specs.declared.reply.Reply.TheVariants.{Scanned, MoveCount, FixCount, Refused}
use Rattle.space_model.specs.CompactCommands.{AnswersCompact, AnswersMove, BeginsFixing, EndsWhereDone, MakesVisits, AnswersFix}
use Rattle.space_model.specs.Sound.{Sound}
use Rattle.space_model.specs.State.{State}
use Rattle.space_model.proofs.CollectionsKept.{Sound-swept_all}
use Rattle.space_model.proofs.CompactedSound.{moves_sound, visits_sound}
use Rattle.space_model.proofs.CompactionKept.{Sound-moving_begun, Sound-fixing_begun, Sound-compaction_ended}
use Rattle.space_model.proofs.CompactionNames.{visits_phase}
use Rattle.space_model.proofs.SweptLaws.{SweepAll-swept}
use Rattle.space_model.proofs.WholeLaws.{Sound-collection, collection_phase}

pub compact_sound : (s t : State) (events : List Event) (reply : Reply) → AnswersCompact s events reply t → Sound s → Sound t
compact_sound s t events (Scanned scans) b h =
    let idle : b.swept.collector.phase ≡ Idle =
    (SweepAll-swept b.collected b.swept b.freed b.sweeps).phase (collection_phase s b.collected Full events scans b.collects) in
    subst Sound (sym b.begins)
    (Sound-moving_begun b.swept idle
    (Sound-swept_all b.collected b.swept b.freed b.sweeps (Sound-collection s b.collected Full events scans b.collects h)))
compact_sound s t events _ b h = absurd b

pub move_sound : (s t : State) (count : ℕ) (events : List Event) (reply : Reply) → AnswersMove s count events reply t → Sound s → Sound t
move_sound s t count events (MoveCount moves done) a h = moves_sound moves s events t a.moving a.makes h
move_sound s t count events (Refused why) a h = subst Sound (sym a.3) h
move_sound s t count events _ a h = absurd a

-- the correction begins, and leaves a sound state in Fixing
begun_fixing : (s begun : State) → BeginsFixing s begun → Sound s → (begun.collector.phase ≡ Fixing) × Sound begun
begun_fixing s begun b h = ⊎_elim
    (λ (moving, begins). (ap (λ (u : State). u.collector.phase) begins, subst Sound (sym begins) (Sound-fixing_begun s moving h)))
    (λ (fixing, same). (ap (λ (u : State). u.collector.phase) same ∙ fixing, subst Sound (sym same) h))
    b

done_sound : (done : Bool) (s t : State) → s.collector.phase ≡ Fixing → EndsWhereDone done s t → Sound s → Sound t
done_sound true s t fixing e h = subst Sound (sym e.1) (Sound-compaction_ended s fixing h)
done_sound false s t fixing e h = subst Sound (sym e.1) h

made_sound : (s t : State) (count visits : ℕ) (done : Bool) → MakesVisits s count visits done t → Sound s → Sound t
made_sound s t count visits done m h =
    let (fixing, sound) = begun_fixing s m.begun m.begins h in
    done_sound done m.last t (visits_phase visits m.begun m.last m.makes ∙ fixing) m.ends (visits_sound visits m.begun m.last fixing m.makes sound)

pub fix_sound : (s t : State) (count : ℕ) (reply : Reply) → AnswersFix s count reply t → Sound s → Sound t
fix_sound s t count (FixCount visits done) a h = made_sound s t count visits done a h
fix_sound s t count (Refused why) a h = subst Sound (sym a.3) h
fix_sound s t count _ a h = absurd a
