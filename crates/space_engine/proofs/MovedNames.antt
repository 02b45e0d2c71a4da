-- A move keeps what the heap's marks of generations tell of names: the object of the name is the one that stood at the old address, and each other
-- name has its object where it had it.
use Rattle.std.proofs.Common.{◌≡◌, ◌≢◌, ◌⊎◌, ℕ, true, sym, ap, ◌∙◌, subst, Some, ⊎_elim}
use Rattle.std.specs.FinMap.{get, insert}
use Rattle.space_model.specs.declared.phase.Phase.TheVariants.{Moving, Marking}
use Rattle.space_model.specs.Compaction.{IsNextMove, moved, Moves1}
use Rattle.space_model.specs.Moments.{noted, mixed_names}
use Rattle.space_model.specs.State.{State}
use Rattle.space_model.proofs.MovesSound.{placed_at}
use Rattle.space_heap.specs.Slots.{ObjectView}
use Rattle.space_heap.specs.HeapView.{HeapView}
use Rattle.space_heap.specs.Objects.{is_object, object_of}
use Rattle.space_heap.specs.Generations.{is_old, is_aged}
use Rattle.space_heap.specs.Relocation.{relocated}
use Rattle.space_heap.specs.SoundHeap.{IsSoundHeap}
use Rattle.space_heap.proofs.RelocationLaws.{object_of-relocated_to, object_of-relocated_other}
use Rattle.space_compact.specs.Moves.{IsMoveIn}
use Rattle.space_engine.specs.Generations.{HasGenerations}
use Rattle.space_engine.specs.Stands.{Holds}
use Rattle.space_engine.specs.Views.{View}
use Rattle.space_engine.proofs.GenerationsByName.{noted_more}

-- the name that stands at `from` is moved to `to`, in the heap and in the state
module _ (v : View) (s : State) (h : Holds v s) (moving : s.collector.phase ≡ Moving) (sound : IsSoundHeap v.heap) (pool name from to : ℕ)
    (its : IsMoveIn v.heap pool from to) (named : name ≡ (object_of v.heap from).name) (t : State) (moves : Moves1 s name from to t) where
  abbrev w : HeapView
  w = relocated v.heap from to

  next : IsNextMove s name from to
  next = moves.next

  -- the object stands at the old address
  pub stands_from : is_object v.heap from ≡ true
  stands_from = h.represents.heap.objects.stands name from next.movable.at

  -- another name stands at neither of the two addresses
  pub elsewhere : (n a : ℕ) → n ≢ name → get s.heap.place n ≡ Some a → (a ≢ from) × (a ≢ to)
  elsewhere n a other at = (
    λ same. other (h.sound.layout.placed.once n name from (at ∙ ap Some same) next.movable.at),
    λ same. next.least.free.no_place n (at ∙ ap Some same),
  )

  -- where the object of a name stood before the move, and that it is the same
  pub record StoodAt (n a : ℕ) : Type 0 where
    pub before : ℕ
    pub at : get s.heap.place n ≡ Some before
    pub same : object_of w a ≡ object_of v.heap before

  pub stood_at : (n a : ℕ) → get (insert s.heap.place name to) n ≡ Some a → StoodAt n a
  stood_at n a e = ⊎_elim
      (λ (is, there). record {
        before = from;
        at = ap (get s.heap.place) is ∙ next.movable.at;
        same = ap (object_of w) there ∙ object_of-relocated_to v.heap pool from to stands_from its.least.free;
      })
      (λ (other, stays). let apart = elsewhere n a other stays in record {
        before = a;
        at = stays;
        same = object_of-relocated_other v.heap pool from to stands_from its.least.free a apart.0 apart.1;
      })
      (placed_at s name from to next n a e)

  generations_then : HasGenerations s.graph (insert s.heap.place name to) (moved s name from to).collector
      (noted (moved s name from to)).history.mixed w
  generations_then =
      let g = h.represents.generations in
      record {
        ages = λ n a e. let b = stood_at n a e in ap (λ (o : ObjectView). o.age) b.same ∙ g.ages n b.before b.at;
        kept = record {
          certain = λ n a e m. let b = stood_at n a e in ap (λ (o : ObjectView). o.kept) b.same ∙ g.kept.certain n b.before b.at m;
          only = λ vague n a e k.
              let b = stood_at n a e in g.kept.only vague n b.before b.at (sym (ap (λ (o : ObjectView). o.kept) b.same) ∙ k);
          unprotected = λ n a e k.
              let b = stood_at n a e in g.kept.unprotected n b.before b.at (sym (ap (λ (o : ObjectView). o.kept) b.same) ∙ k);
          outlived = λ rest n a e k.
              let b = stood_at n a e in g.kept.outlived rest n b.before b.at (sym (ap (λ (o : ObjectView). o.kept) b.same) ∙ k);
        };
        remembered = record {
          aged = λ n a e r.
              let b = stood_at n a e in
              ap is_aged b.same ∙ g.remembered.aged n b.before b.at (sym (ap (λ (o : ObjectView). o.remembered) b.same) ∙ r);
          mixed_since = λ n a e r.
              let b = stood_at n a e in
              noted_more (mixed_names (moved s name from to)) s.history.mixed n
              (g.remembered.mixed_since n b.before b.at (sym (ap (λ (o : ObjectView). o.remembered) b.same) ∙ r));
        };
        old_children = λ rest parent child a c at there is old out.
            let p = stood_at parent a at in
            let q = stood_at child c there in
            subst (λ (o : ObjectView). (is_old o ≡ true) ⊎ (o.kept ≡ true)) (sym q.same)
            (g.old_children rest parent child p.before q.before p.at q.at is (sym (ap is_old p.same) ∙ old)
            (sym (ap (λ (o : ObjectView). o.remembered) p.same) ∙ out));
        aged_children = λ marking. absurd (let none : Moving ≡ Marking = sym moving ∙ marking in cc);
      }

  -- the marks of generations are those of the state, more of which was noted
  pub generations_moved : HasGenerations t.graph t.heap.place t.collector t.history.mixed (relocated v.heap from to)
  generations_moved = subst (λ (u : State). HasGenerations u.graph u.heap.place u.collector u.history.mixed w) (sym moves.after) generations_then
