-- A marking and its verdict on the heap are a verdict of the state, with its number of scans.
use Rattle.std.proofs.Common.{◌≡◌, ◌≢◌, ◌⊎◌, ℕ, List, [], length, refl, sym, subst, inl}
use Rattle.std.specs.FinMap.{empty}
use Rattle.space_model.specs.declared.event.Kind.{Kind}
use Rattle.space_model.specs.declared.event.Kind.TheVariants.{Minor, Major, Full}
use Rattle.space_model.specs.declared.phase.Phase.TheVariants.{Marking}
use Rattle.space_model.specs.Collections.{AreScans}
use Rattle.space_model.specs.MajorMarking.{AreLastScans}
use Rattle.space_model.specs.Markings.{mark_started, took}
use Rattle.space_model.specs.Moments.{noted, mixed_names}
use Rattle.space_model.specs.Reach.{Reach}
use Rattle.space_model.specs.Reached.{reached_names}
use Rattle.space_model.specs.State.{State}
use Rattle.space_model.specs.Verdicts.{IsVerdict}
use Rattle.space_model.proofs.Reaching.{IsReached-start}
use Rattle.space_model.proofs.VerdictLaws.{CountIs-reached, CountIs-unique, verdict_marked, minor_verdict_marked}
use Rattle.space_heap.specs.HeapView.{HeapView}
use Rattle.space_heap.specs.Sweeping.{settled, HasNoGone}
use Rattle.space_roots.specs.WordRoots.{root_words}
use Rattle.space_tracing.specs.Graph.{IsChild, IsStart}
use Rattle.space_tracing.specs.Marking.{IsMarked}
use Rattle.space_collector.specs.GoneNames.{gone_names}
use Rattle.space_collector.specs.HeapVerdicts.{IsKindMarking, IsHeapVerdict}
use Rattle.space_engine.specs.Stands.{Represents, Holds}
use Rattle.space_engine.specs.Views.{View, with_judged}
use Rattle.space_engine.proofs.AfterVerdicts.{marked_stays, stays_marked, settled_represents}
use Rattle.space_engine.proofs.GenerationNames.{IsJudgedIn, ready}
use Rattle.space_engine.proofs.GenerationVerdicts.{generations_after}
use Rattle.space_engine.proofs.MajorScans.{last_scans}
use Rattle.space_engine.proofs.MajorVerdicts.{ended_verdict}
use Rattle.space_engine.proofs.MinorScans.{minor_scans}
use Rattle.space_engine.proofs.MinorVerdicts.{young_verdict}
use Rattle.space_engine.proofs.Reaching.{reached_count}
use Rattle.space_engine.proofs.WholeVerdicts.{settled_verdict}

-- what a marking and its verdict come to in a state
pub record VerdictOf (v : View) (s : State) (new : HeapView) (kind : Kind) (scans : ℕ) : Type 0 where
  pub verdict : IsVerdict (mark_started s) kind (gone_names new)
  pub scans_are : AreScans kind s (mark_started s) (gone_names new) scans
  pub represents : Represents (with_judged v new) (noted (took (mark_started s) kind (gone_names new)))

-- what a verdict asks of a state stays where a marking starts
marked_verdict : (s : State) (kind : Kind) (taken : List ℕ) → kind ≢ Major → IsVerdict s kind taken → IsVerdict (mark_started s) kind taken
marked_verdict s Minor taken other c = minor_verdict_marked s taken c
marked_verdict s Major taken other c = absurd (other refl)
marked_verdict s Full taken other c = verdict_marked s taken c

module _ (v : View) (s : State) (h : Holds v s) (clean : HasNoGone v.heap) (unmoved : s.heap.left ≡ empty) (fresh : s.collector.stale ≡ [])
    (marked : HeapView) (scans : ℕ) where
  abbrev Marks : Kind → Type 0
  Marks kind = IsKindMarking v.heap marked kind (root_words v.roots) v.stack scans

  kind_verdict : (kind : Kind) → kind ≢ Major → s.collector.phase ≢ Marking → Marks kind → IsVerdict s kind (gone_names (settled marked kind))
  kind_verdict Minor other rests c =
      young_verdict v s h rests clean unmoved fresh marked c.same (c.marks (ready v s h unmoved fresh clean Minor rests))
  kind_verdict Major other rests c = absurd (other refl)
  kind_verdict Full other rests c = settled_verdict v s h clean unmoved fresh marked c.same (c.marks tt)

  kind_scans : (kind : Kind) → kind ≢ Major → s.collector.phase ≢ Marking → Marks kind → AreScans kind s (mark_started s) (gone_names (settled marked kind)) scans
  kind_scans Minor other rests c =
      let spared = c.marks (ready v s h unmoved fresh clean Minor rests) in
      minor_scans v s h clean unmoved fresh marked c.same (gone_names (settled marked Minor)) (λ a held. (spared a).1 (inl held))
      (marked_stays v s h.represents clean marked c.same Minor) (stays_marked v s h.represents clean marked c.same Minor) scans c.scanned
  kind_scans Major other rests c = absurd (other refl)
  kind_scans Full other rests c =
      CountIs-unique (Reach s) scans (length (reached_names s)) (reached_count v s h unmoved fresh scans c.scanned) (CountIs-reached s)

  -- outside a marking a verdict of another kind than Major may be given
  judged_in : (kind : Kind) → kind ≢ Major → s.collector.phase ≢ Marking → IsJudgedIn kind s.collector.phase
  judged_in Minor other rests = rests
  judged_in Major other rests = absurd (other refl)
  judged_in Full other rests = rests

  settled_collection : (kind : Kind) → kind ≢ Major → s.collector.phase ≢ Marking → Marks kind → VerdictOf v s (settled marked kind) kind scans
  settled_collection kind other rests c =
      let verdict = kind_verdict kind other rests c in
      record {
        verdict = marked_verdict s kind (gone_names (settled marked kind)) other verdict;
        scans_are = kind_scans kind other rests c;
        represents = settled_represents v s h.represents clean marked c.same kind unmoved c.none_grey verdict (mark_started s).history
            h.sound.weak
            (generations_after v s h clean unmoved fresh marked kind (judged_in kind other rests) (mixed_names s) (λ is. absurd (other is)) scans c verdict);
      }

pub collection_verdict : (v : View) (s : State) (new : HeapView) (kind : Kind) (scans : ℕ) → Holds v s → HasNoGone v.heap →
    s.heap.left ≡ empty → s.collector.stale ≡ [] → kind ≢ Major → s.collector.phase ≢ Marking →
    IsHeapVerdict v.heap new kind (root_words v.roots) v.stack scans → VerdictOf v s new kind scans
collection_verdict v s new kind scans h clean unmoved fresh other rests c =
    subst (λ new. VerdictOf v s new kind scans) (sym c.settles) (settled_collection v s h clean unmoved fresh c.marked scans kind other rests c.marking)

-- what the end of a marking and its verdict come to in a state
pub record MajorVerdictOf (v : View) (s : State) (new : HeapView) (scans : ℕ) : Type 0 where
  pub verdict : IsVerdict s Major (gone_names new)
  pub scans_are : AreLastScans s (gone_names new) scans
  pub represents : Represents (with_judged v new) (noted (took s Major (gone_names new)))

settled_end : (v : View) (s : State) (h : Holds v s) → HasNoGone v.heap → s.heap.left ≡ empty → s.collector.stale ≡ [] →
    s.collector.phase ≡ Marking → (marked : HeapView) (scans : ℕ) → IsKindMarking v.heap marked Major (root_words v.roots) v.stack scans →
    MajorVerdictOf v s (settled marked Major) scans
settled_end v s h clean unmoved fresh marking marked scans c =
    let marks = c.marks (ready v s h unmoved fresh clean Major marking) in
    let verdict = ended_verdict v s h marking clean unmoved fresh marked c.same marks in
    record {
      verdict = verdict;
      scans_are = last_scans v s h clean unmoved fresh marked c.same (gone_names (settled marked Major))
          (λ a m. (marks a).1 (IsReached-start (IsChild v.heap) (λ n. IsMarked v.heap n ⊎ IsStart v.heap (root_words v.roots) v.stack n) a (inl m)))
          (marked_stays v s h.represents clean marked c.same Major) (stays_marked v s h.represents clean marked c.same Major)
          (h.represents.colours marking).scanned scans c.scanned;
      represents = settled_represents v s h.represents clean marked c.same Major unmoved c.none_grey verdict s.history
          h.sound.weak
          (generations_after v s h clean unmoved fresh marked Major marking s.history.mixed (λ is. refl) scans c verdict);
    }

pub major_verdict : (v : View) (s : State) (new : HeapView) (scans : ℕ) → Holds v s → HasNoGone v.heap →
    s.heap.left ≡ empty → s.collector.stale ≡ [] → s.collector.phase ≡ Marking →
    IsHeapVerdict v.heap new Major (root_words v.roots) v.stack scans → MajorVerdictOf v s new scans
major_verdict v s new scans h clean unmoved fresh marking c =
    subst (λ new. MajorVerdictOf v s new scans) (sym c.settles) (settled_end v s h clean unmoved fresh marking c.marked scans c.marking)
