-- The end of a major marking is one of each state that the space stands for.
use Rattle.std.proofs.Common.{◌≡◌, ◌<◌, ◌≤◌, ◌^◌, ℕ, true, List, length, map, nat_eq, refl, sym, ◌∙◌, subst, arith}
use Rattle.std.specs.FinMap.{get}
use Rattle.std.specs.Set.{is_member}
use Rattle.space_model.specs.declared.event.Event.{Event}
use Rattle.space_model.specs.declared.event.Kind.{Kind}
use Rattle.space_model.specs.declared.event.Kind.TheVariants.{Major}
use Rattle.space_model.specs.declared.phase.Phase.TheVariants.{Marking}
use Rattle.space_model.specs.MajorMarking.{EndsMarking}
use Rattle.space_model.specs.Markings.{took}
use Rattle.space_model.specs.Moments.{noted}
use Rattle.space_model.specs.Outputs.{Told}
use Rattle.space_model.specs.Sound.{Sound}
use Rattle.space_model.specs.State.{State}
use Rattle.space_model.specs.Texts.{AreSpelled}
use Rattle.space_model.specs.Verdicts.{IsVerdict}
use Rattle.space_model.proofs.CollectionsKept.{Sound-took}
use Rattle.space_model.proofs.MapLaws.{some_get}
use Rattle.space_heap.specs.HeapView.{HeapView}
use Rattle.space_heap.specs.Sweeping.{HasNoGone}
use Rattle.space_roots.specs.WordRoots.{root_words}
use Rattle.space_collector.specs.GoneNames.{name_at, gone_names}
use Rattle.space_collector.proofs.GoneLists.{member_gone_names}
use Rattle.space_collector.proofs.ToldLines.{verdict_spelled}
use Rattle.space_engine.specs.HeapCollections.{IsTelling}
use Rattle.space_engine.specs.Stands.{Holds}
use Rattle.space_engine.specs.Views.{View, with_judged}
use Rattle.space_engine.proofs.CollectionVerdicts.{MajorVerdictOf, major_verdict}
use Rattle.space_engine.proofs.WholeVerdicts.{none_gone_in}

-- the lines of a verdict can be written, where the names that it takes are of objects that were allocated
pub telling_spelled : (old new : HeapView) (kind : Kind) (roots stack : List ℕ) (scans : ℕ) (events : List Event) →
    IsTelling old new kind roots stack scans events → (s : State) → Sound s → IsVerdict s kind (gone_names new) → length s.graph < 2 ^ 62 →
    AreSpelled (map Told events)
telling_spelled old new kind roots stack scans events t s sound c few =
    subst (λ events. AreSpelled (map Told events)) (sym t.events_are) (verdict_spelled new kind t.verdict.sound (λ a gone.
    let most = allocated (name_at new a) ((member_gone_names new (name_at new a)).1 (a, gone, refl)) in
    omega (arith, most, few)))
  where
    allocated : (n : ℕ) → is_member nat_eq (gone_names new) n ≡ true → n ≤ length s.graph
    allocated n m =
        let at = some_get (get s.heap.place n) (c.present n m) in
        (sound.layout.placed.allocated n at.0 at.1).1

-- the state after the end of a marking, and that it is what the space stands for then
pub record EndsTo (v : View) (s : State) (judged : HeapView) (scans : ℕ) (events : List Event) : Type 0 where
  pub state : State
  pub ends : EndsMarking s events scans state
  pub holds : Holds (with_judged v judged) state

module _ (v : View) (s : State) (h : Holds v s) (marking : v.heap.phase ≡ Marking) (judged : HeapView) (scans : ℕ) (events : List Event)
    (t : IsTelling v.heap judged Major (root_words v.roots) v.stack scans events) where
  at_marking : s.collector.phase ≡ Marking
  at_marking = sym h.represents.heap.progress.at ∙ marking

  clean : HasNoGone v.heap
  clean = none_gone_in v s h (λ e. let at = at_marking in cc)

  given : MajorVerdictOf v s judged scans
  given =
      let rest = h.sound.resting (λ e. let at = at_marking in cc) (λ e. let at = at_marking in cc) in
      major_verdict v s judged scans h clean rest.0 rest.1 at_marking t.verdict

  -- the state after the verdict
  abbrev settled : State
  settled = noted (took s Major (gone_names judged))

  pub ends_to : EndsTo v s judged scans events
  ends_to = record {
    state = settled;
    ends = record {
      marking = at_marking;
      taken = gone_names judged;
      verdict = record { verdict = given.verdict; takes = refl; events_are = t.events_are };
      scans_are = given.scans_are;
    };
    holds = record {
      represents = given.represents;
      sound = Sound-took s settled Major (gone_names judged) (λ e. let at = at_marking in cc) (λ e. let at = at_marking in cc) given.verdict refl h.sound;
    };
  }

  -- its lines can be written
  pub ending_spelled : v.heap.counters.born < 2 ^ 62 → AreSpelled (map Told events)
  ending_spelled few =
      let many = h.represents.heap.counted.allocated in
      telling_spelled v.heap judged Major (root_words v.roots) v.stack scans events t s h.sound given.verdict (omega (arith, many, few))
