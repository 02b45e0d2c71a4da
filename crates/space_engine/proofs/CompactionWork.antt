-- How far moves, visits and the end of a compaction change a heap's counts, and that they leave a quiescent heap so.
use Rattle.std.proofs.Common.{◌≡◌, ◌≢◌, ℕ, zero, suc, ◌+◌, ◌≤◌, ◌&&◌, true, true≢false, length, nat_eq, refl, sym, ap, ◌∙◌, subst, arith}
use Rattle.std.specs.Set.{is_member}
use Rattle.space_model.specs.declared.phase.Phase.TheVariants.{Idle, Sweeping, Moving, Fixing}
use Rattle.space_model.specs.Layout.{page_of}
use Rattle.space_heap.specs.Slots.{ObjectView}
use Rattle.space_heap.specs.HeapView.{Counters, HeapView}
use Rattle.space_heap.specs.Objects.{is_occupied, object_of, is_moved, with_object}
use Rattle.space_heap.specs.Relocation.{ended}
use Rattle.space_heap.specs.Sweeping.{is_gone}
use Rattle.space_heap.proofs.CursorLaws as at_cursor
use Rattle.space_heap.proofs.EndedLaws as at_end
use Rattle.space_heap.proofs.FreeLaws.{is_moved-with_object}
use Rattle.space_heap.proofs.GoneLaws.{is_gone-with_object}
use Rattle.space_heap.proofs.ObjectLaws.{stays, rest-with_object, count-with_object}
use Rattle.space_heap.proofs.PhaseLaws as at_phase
use Rattle.space_compact.specs.Visits.{fixed_object, visited, Visits}
use Rattle.space_collector.specs.HeapMoves.{KeepsBut}
use Rattle.space_collector.specs.Quiescent.{IsQuiescent, most_slots}
use Rattle.space_collector.proofs.MoveLaws.{keeps_none}
use Rattle.space_engine.specs.HeapCollections.{CompletesFixes, HasJudged}
use Rattle.space_engine.specs.Turns.{IsAtRest}
use Rattle.space_engine.specs.Views.{View}
use Rattle.space_engine.proofs.TurnLaws.{IsAlike, quiescent_alike, rests_idle}

-- a heap with the same pages, in which nothing else is counted than in this one, and that is quiescent where this one is
pub record KeepsWork (v w : HeapView) : Type 0 where
  pub counters : w.counters ≡ v.counters
  pub phase : w.phase ≡ v.phase
  pub page_count : length w.pages ≡ length v.pages
  pub limit : w.limit ≡ v.limit
  pub quiescent : IsQuiescent v → IsQuiescent w

keeps_same : (v : HeapView) → KeepsWork v v
keeps_same v = record { counters = refl; phase = refl; page_count = refl; limit = refl; quiescent = λ q. q }

keeps_then : (u v w : HeapView) → KeepsWork u v → KeepsWork v w → KeepsWork u w
keeps_then u v w first second = record {
  counters = second.counters ∙ first.counters;
  phase = second.phase ∙ first.phase;
  page_count = second.page_count ∙ first.page_count;
  limit = second.limit ∙ first.limit;
  quiescent = λ q. second.quiescent (first.quiescent q);
}

-- where no page waits nothing is gone
pub none_gone_at : (v : HeapView) → IsQuiescent v → v.phase ≢ Sweeping → (a : ℕ) → is_gone v a ≡ true → ⊥
none_gone_at v q other a gone =
    true≢false (sym (q.gone_wait a gone) ∙ ap (λ pages. is_member nat_eq pages (page_of a)) (q.none_waits other))

-- the heap with another object of the same colour, age and marks at the address, and with another cursor
module _ (v : HeapView) (a : ℕ) where
  abbrev with_fixed : HeapView
  with_fixed = with_object v a (fixed_object v a)

  visited_alike : IsAlike v (record with_fixed { cursor = a + 1 })
  visited_alike =
      let others = rest-with_object v a (fixed_object v a) in
      record {
        phase = others.phase;
        unswept = others.unswept;
        grey = λ rests. others.grey;
        gone = λ b.
            ap (λ o. o && (object_of (record with_fixed { cursor = a + 1 }) b).gone) (at_cursor.is_occupied-at_cursor with_fixed (a + 1) b)
            ∙ ap (λ (o : ObjectView). is_occupied with_fixed b && o.gone) (at_cursor.object_of-at_cursor with_fixed (a + 1) b)
            ∙ is_gone-with_object v a (fixed_object v a) b refl;
        moved = λ b. at_cursor.is_moved-at_cursor with_fixed (a + 1) b ∙ is_moved-with_object v a (fixed_object v a) b;
        grey_was = λ rests b e.
            sym (ap (λ (o : ObjectView). o.colour) (at_cursor.object_of-at_cursor with_fixed (a + 1) b)
            ∙ stays (λ (o : ObjectView). o.colour) v a (fixed_object v a) b refl)
            ∙ e;
      }

  visited_keeps : KeepsWork v (visited v a)
  unfolding visited
  visited_keeps =
      let others = rest-with_object v a (fixed_object v a) in
      record {
        counters = others.counters;
        phase = others.phase;
        page_count = count-with_object v a (fixed_object v a);
        limit = others.limit;
        quiescent = quiescent_alike v (record with_fixed { cursor = a + 1 }) visited_alike;
      }

-- visits change no count
pub visits_keep : (n : ℕ) (v w : HeapView) → Visits n v w → KeepsWork v w
visits_keep zero v w same = subst (KeepsWork v) (sym same) (keeps_same v)
visits_keep (suc n) v w (a, next, others) = keeps_then v (visited v a) w (visited_keeps v a) (visits_keep n (visited v a) w others)

-- a compaction ended: it is counted, and nothing is under way
pub record EndsWork (v w : HeapView) : Type 0 where
  pub counters : w.counters ≡ record v.counters { compactions = v.counters.compactions + 1 }
  pub page_count : length w.pages ≡ length v.pages
  pub limit : w.limit ≡ v.limit
  pub quiescent : IsQuiescent w
  pub rests : IsAtRest w

-- after so many moves
pub moved_judged : (moves : ℕ) (v u w : HeapView) → KeepsBut v u moves → moves ≤ most_slots → EndsWork u w → HasJudged 0 0 0 1 v w
moved_judged moves v u w kept few ends =
    let born = ap (λ (c : Counters). c.born) kept.counters in
    let same_minors = ap (λ (c : Counters). c.minor_verdicts) kept.counters in
    let same_others = ap (λ (c : Counters). c.other_verdicts) kept.counters in
    let same_freed = ap (λ (c : Counters). c.freed) kept.counters in
    let same_compactions = ap (λ (c : Counters). c.compactions) kept.counters in
    let more = ap (λ (c : Counters). c.moves) kept.counters in
    let minors = ap (λ (c : Counters). c.minor_verdicts) ends.counters in
    let others = ap (λ (c : Counters). c.other_verdicts) ends.counters in
    let freed = ap (λ (c : Counters). c.freed) ends.counters in
    let compactions = ap (λ (c : Counters). c.compactions) ends.counters in
    let made = ap (λ (c : Counters). c.moves) ends.counters in
    record {
      born = ap (λ (c : Counters). c.born) ends.counters ∙ born;
      minor_verdicts = omega arith;
      other_verdicts = omega arith;
      freed = omega arith;
      compactions = omega arith;
      moves = omega arith;
      page_count = ends.page_count ∙ kept.page_count;
      limit = ends.limit ∙ kept.limit;
      quiescent = ends.quiescent;
      rests = ends.rests;
    }

-- the end of a compaction: what is counted is one compaction more
module _ (v : HeapView) where
  abbrev at_rest : HeapView
  at_rest = record (ended v) { phase = Idle; cursor = 0 }

  object_at_rest : (a : ℕ) → object_of at_rest a ≡ object_of v a
  object_at_rest a =
      at_cursor.object_of-at_cursor (record (ended v) { phase = Idle }) 0 a ∙ at_phase.object_of-in_phase (ended v) Idle a ∙ at_end.object_of-ended v a

  gone_at_rest : (a : ℕ) → is_gone at_rest a ≡ is_gone v a
  gone_at_rest a =
      let stands : is_occupied at_rest a ≡ is_occupied v a =
      at_cursor.is_occupied-at_cursor (record (ended v) { phase = Idle }) 0 a ∙ at_phase.is_occupied-in_phase (ended v) Idle a ∙ at_end.is_occupied-ended v a in
      ap (λ o. o && (object_of at_rest a).gone) stands ∙ ap (λ (o : ObjectView). is_occupied v a && o.gone) (object_at_rest a)

  moved_at_rest : (a : ℕ) → is_moved at_rest a ≡ is_moved (ended v) a
  moved_at_rest a = at_cursor.is_moved-at_cursor (record (ended v) { phase = Idle }) 0 a ∙ at_phase.is_moved-in_phase (ended v) Idle a

  ended_quiescent : v.phase ≡ Fixing → IsQuiescent v → IsQuiescent at_rest
  ended_quiescent fixing q =
      let none = q.none_grey (λ e. cc) in
      record {
        gone_wait = λ a gone. absurd (none_gone_at v q (λ e. cc) a (sym (gone_at_rest a) ∙ gone));
        none_waits = λ not. at_end.unswept-ended v;
        some_wait = λ e. absurd (cc);
        none_moved = λ not_moving not_fixing a. moved_at_rest a ∙ at_end.is_moved-ended v a;
        none_grey = λ not. record {
          listed = at_end.grey-ended v ∙ none.listed;
          objects = λ a e. none.objects a (sym (ap (λ (o : ObjectView). o.colour) (object_at_rest a)) ∙ e);
        };
      }

  pub ended_work : v.phase ≡ Fixing → IsQuiescent v → EndsWork v at_rest
  ended_work fixing q = record {
    counters = at_end.counters-ended v;
    page_count = at_end.count-ended v;
    limit = at_end.limit-ended v;
    quiescent = ended_quiescent fixing q;
    rests = rests_idle at_rest refl;
  }

-- visits, and the end of the compaction
pub fixes_work : (n : ℕ) (v w : HeapView) → Visits n v w → v.phase ≡ Fixing → IsQuiescent v →
    EndsWork v (record (ended w) { phase = Idle; cursor = 0 })
fixes_work n v w makes fixing q =
    let kept = visits_keep n v w makes in
    let last = ended_work w (kept.phase ∙ fixing) (kept.quiescent q) in
    record {
      counters = last.counters ∙ ap (λ (c : Counters). record c { compactions = c.compactions + 1 }) kept.counters;
      page_count = last.page_count ∙ kept.page_count;
      limit = last.limit ∙ kept.limit;
      quiescent = last.quiescent;
      rests = last.rests;
    }

-- the same of a whole space
pub completes_fixes_work : (v w : View) → CompletesFixes v w → v.heap.phase ≡ Fixing → IsQuiescent v.heap → EndsWork v.heap w.heap
completes_fixes_work v w c fixing q = subst (λ (u : View). EndsWork v.heap u.heap) (sym c.ends) (fixes_work c.visits v.heap c.fixed c.makes fixing q)

pub ends_judged : (v w : HeapView) → EndsWork v w → HasJudged 0 0 0 1 v w
ends_judged v w ends = moved_judged 0 v v w (keeps_none v) (omega arith) ends

-- references are corrected from now on
pub fixing_quiescent : (v : HeapView) → v.phase ≡ Moving → IsQuiescent v → IsQuiescent (record v { phase = Fixing; cursor = 0 })
fixing_quiescent v moving q =
    let mid : HeapView = record v { phase = Fixing } in
    let object : (a : ℕ) → object_of (record v { phase = Fixing; cursor = 0 }) a ≡ object_of v a =
    λ a. at_cursor.object_of-at_cursor mid 0 a ∙ at_phase.object_of-in_phase v Fixing a in
    let stands : (a : ℕ) → is_occupied (record v { phase = Fixing; cursor = 0 }) a ≡ is_occupied v a =
    λ a. at_cursor.is_occupied-at_cursor mid 0 a ∙ at_phase.is_occupied-in_phase v Fixing a in
    let same : (a : ℕ) → is_gone (record v { phase = Fixing; cursor = 0 }) a ≡ is_gone v a = λ a i. stands a i && (object a i).gone in
    let none = q.none_grey (λ e. cc) in
    record {
      gone_wait = λ a gone. absurd (none_gone_at v q (λ e. cc) a (sym (same a) ∙ gone));
      none_waits = λ not. q.none_waits (λ e. cc);
      some_wait = λ e. absurd (cc);
      none_moved = λ not_moving not_fixing. absurd (not_fixing refl);
      none_grey = λ not. record {
        listed = none.listed;
        objects = λ a e. none.objects a (sym (ap (λ (o : ObjectView). o.colour) (object a)) ∙ e);
      };
    }

-- moves, visits, and the end of the compaction
pub completes_moves_judged : (moves : ℕ) (v u : HeapView) (mid new : View) → mid.heap ≡ record u { phase = Fixing; cursor = 0 } → KeepsBut v u moves →
    moves ≤ most_slots → u.phase ≡ Moving → IsQuiescent u → CompletesFixes mid new → HasJudged 0 0 0 1 v new.heap
completes_moves_judged moves v u mid new begun kept few moving q c =
    let fixing : mid.heap.phase ≡ Fixing = ap (λ (w : HeapView). w.phase) begun in
    let ready : IsQuiescent mid.heap = subst IsQuiescent (sym begun) (fixing_quiescent u moving q) in
    let ends : EndsWork (record u { phase = Fixing; cursor = 0 }) new.heap =
    subst (λ (w : HeapView). EndsWork w new.heap) begun (completes_fixes_work mid new c fixing ready) in
    moved_judged moves v u new.heap kept few (record {
      counters = ends.counters;
      page_count = ends.page_count;
      limit = ends.limit;
      quiescent = ends.quiescent;
      rests = ends.rests;
    })
