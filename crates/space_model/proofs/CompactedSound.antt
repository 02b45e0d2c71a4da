-- The moves, the visits and the end of a compaction, one after another, keep states sound.
use Rattle.std.proofs.Common.{◌≡◌, ℕ, zero, suc, List, refl, sym, ap, ◌∙◌, subst}
use Rattle.space_model.specs.declared.event.Event.{Event}
use Rattle.space_model.specs.declared.phase.Phase.TheVariants.{Moving, Fixing}
use Rattle.space_model.specs.Compaction.{Moves, fixing_begun, Visits, FixesAll, MovesAll}
use Rattle.space_model.specs.Sound.{Sound}
use Rattle.space_model.specs.State.{State}
use Rattle.space_model.proofs.CompactionKept.{Sound-fixing_begun, Sound-visited, Sound-compaction_ended}
use Rattle.space_model.proofs.CompactionNames.{move_phase, moves_phase, visits_phase}
use Rattle.space_model.proofs.MovesSound.{Sound-moved}

pub moves_sound : (count : ℕ) (s : State) (events : List Event) (t : State) → s.collector.phase ≡ Moving → Moves count s events t → Sound s → Sound t
moves_sound zero s events t moving (none, same) h = subst Sound (sym same) h
moves_sound (suc count) s events t moving (name, from, to, later, mid, both, first, others) h =
    moves_sound count mid later t (move_phase s mid name from to first ∙ moving) others (Sound-moved s mid name from to moving first h)

pub visits_sound : (count : ℕ) (s t : State) → s.collector.phase ≡ Fixing → Visits count s t → Sound s → Sound t
visits_sound zero s t fixing same h = subst Sound (sym same) h
visits_sound (suc count) s t fixing (mid, first, others) h =
    visits_sound count mid t (ap (λ (u : State). u.collector.phase) first.after ∙ fixing) others (Sound-visited s mid fixing first h)

-- all visits that are left, and the end
pub fixes_sound : (s t : State) → s.collector.phase ≡ Fixing → FixesAll s t → Sound s → Sound t
fixes_sound s t fixing f h =
    subst Sound (sym f.after)
    (Sound-compaction_ended f.last (visits_phase f.visits s f.last f.visits_are ∙ fixing) (visits_sound f.visits s f.last fixing f.visits_are h))

-- all moves that are left, all visits, and the end
pub compacted_sound : (s : State) (events : List Event) (t : State) → s.collector.phase ≡ Moving → MovesAll s events t → Sound s → Sound t
compacted_sound s events t moving m h =
    fixes_sound (fixing_begun m.last) t refl m.fixes
    (Sound-fixing_begun m.last (moves_phase m.moves s events m.last m.makes ∙ moving) (moves_sound m.moves s events m.last moving m.makes h))
