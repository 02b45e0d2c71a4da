-- Roots and stack words go, where nothing is under way: nothing is reached then, and the view has what the state after it has.
use Rattle.std.proofs.Common.{◌≡◌, ℕ, [], length, refl, sym, ap, ◌∙◌, subst, ⊎_elim}
use Rattle.std.specs.List.{IsDistinct}
use Rattle.std.proofs.lemmas.Bool.{false≢true}
use Rattle.space_model.specs.declared.phase.Phase.TheVariants.{Idle}
use Rattle.space_model.specs.Completions.{CompletesIn, Completes}
use Rattle.space_model.specs.Exit.{starts_dropped}
use Rattle.space_model.specs.Graph.{IsChild}
use Rattle.space_model.specs.Moments.{mixed_names, with_names, noted}
use Rattle.space_model.specs.Reach.{IsStart, Reach}
use Rattle.space_model.specs.Reached.{reached_names}
use Rattle.space_model.specs.Sound.{Sound}
use Rattle.space_model.specs.State.{State}
use Rattle.space_model.proofs.ExitLaws.{no_root, dropped_sound, exit_there}
use Rattle.space_model.proofs.Reaching.{IsReached-least}
use Rattle.space_model.proofs.VerdictLaws.{CountIs-reached, CountIs-unique}
use Rattle.space_engine.specs.Stands.{Represents}
use Rattle.space_engine.specs.Views.{View, without_starts}
use Rattle.space_engine.proofs.ColoursKept.{colours_noted}
use Rattle.space_engine.proofs.GenerationsByName.{generations_noted, noted_more}

module _ (s : State) where
  abbrev dropped : State
  dropped = noted (starts_dropped s)

  none_reached : (n : ℕ) → Reach dropped n → ⊥
  none_reached = IsReached-least (IsChild s.graph) (IsStart dropped) (λ n. ⊥)
      (λ m n none c. none)
      (λ n start. ⊎_elim (λ held. no_root n held) (λ (word, on, at). false≢true on) start)

  -- so a marking scans nothing
  pub none_reached_names : length (reached_names (noted (starts_dropped s))) ≡ 0
  unfolding IsDistinct
  none_reached_names = CountIs-unique (Reach dropped) (length (reached_names dropped)) 0 (CountIs-reached dropped) (record {
    names = [];
    once = tt;
    are = λ n. ((λ m. absurd (false≢true m)), (λ r. absurd (none_reached n r)));
    long = refl;
  })

-- where nothing is under way nothing is done to complete it
pub completes_none : (s : State) → s.collector.phase ≡ Idle → Completes s [] s
completes_none s idle = subst (λ phase. CompletesIn phase s [] s) (sym idle) (refl, refl)

pub starts_dropped_sound : (s : State) → s.collector.phase ≡ Idle → Sound s → Sound (noted (starts_dropped s))
starts_dropped_sound s idle h =
    let (events, ran, t, e) = exit_there s s [] (completes_none s idle) h in
    let same : e.idle ≡ s = (subst (λ phase. CompletesIn phase s e.completion e.idle) idle e.completes).1 in
    subst Sound (e.drops ∙ ap (λ (u : State). noted (starts_dropped u)) same) (dropped_sound s t events ran e h)

pub after_starts_dropped : (v : View) (s : State) → Represents v s → Represents (without_starts v) (noted (starts_dropped s))
after_starts_dropped v s h = record {
  heap = h.heap;
  generations = generations_noted s.graph s.heap.place s.collector s.history.mixed (mixed_names s) v.heap h.generations;
  colours = λ phase. colours_noted s.graph s.heap.place s.history (with_names (reached_names (starts_dropped s)) s.history.seen)
      (with_names (mixed_names s) s.history.mixed) v.heap (noted_more (reached_names (starts_dropped s)) s.history.seen) (h.colours phase);
  roots = refl;
  stack = refl;
  ids = h.ids;
  weak = h.weak;
  finals = h.finals;
}
