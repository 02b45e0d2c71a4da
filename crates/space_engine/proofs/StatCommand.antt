-- What `stat` counts of the heap are the counts of the state.
use Rattle.std.proofs.Common.{◌≡◌, ℕ, ◌≤◌, true, false, true≢false, map, nat_eq, refl, sym, ap, ◌∙◌, subst, arith, Option, None, Some, ⊎_elim}
use Rattle.std.specs.Prelude.{is_some}
use Rattle.std.specs.Cmp.{nat_eq_equiv}
use Rattle.std.specs.FinMap.{get}
use Rattle.std.specs.Set.{is_member}
use Rattle.std.proofs.Math.ListN.{length-map}
use Rattle.std.proofs.lemmas.Bool.{cases_Bool, and_parts}
use Rattle.std.proofs.lemmas.Map.Made.{length-le_from_is_member}
use Rattle.space_model.specs.declared.command.Command.TheVariants.{Stat as StatCommand}
use Rattle.space_model.specs.declared.reply.Reply.TheVariants.{StatLine}
use Rattle.space_model.specs.declared.stat.Stat.{Stat}
use Rattle.space_model.specs.Ages.{is_old_in, is_old}
use Rattle.space_model.specs.Counts.{CountIs}
use Rattle.space_model.specs.Layout.{page_of}
use Rattle.space_model.specs.Pages.{pool_at as pool_of_page}
use Rattle.space_model.specs.Stat.{IsVacant, IsKept, IsUnprotected, IsKeptCount, AreCounts}
use Rattle.space_model.specs.State.{State, is_present}
use Rattle.space_model.proofs.MapLaws.{some_get}
use Rattle.space_model.proofs.PageLaws.{page_of-slot_address}
use Rattle.space_model.proofs.StatLaws.{counts_there}
use Rattle.space_model.proofs.VerdictLaws.{CountIs-unique}
use Rattle.space_model.proofs.WholeLaws.{counted_also}
use Rattle.space_heap.specs.HeapView.{HeapView, pool_at, is_slot}
use Rattle.space_heap.specs.FreeSlots.{is_slot_in}
use Rattle.space_heap.specs.Generations.{is_old as is_old_object}
use Rattle.space_heap.specs.Objects.{is_occupied, is_object, object_of, is_moved}
use Rattle.space_heap.specs.SlotCounts.{IsVacant as IsVacantSlot, IsOldObject, IsKeptObject}
use Rattle.space_heap.specs.SoundHeap.{IsSoundHeap}
use Rattle.space_heap.proofs.NumberLists.{IsDistinct-map}
use Rattle.space_heap.proofs.ObjectLaws.{occupied_from_object}
use Rattle.space_heap.proofs.SlotAddresses.{slot_in-address, slot_in_parts}
use Rattle.space_heap.proofs.VacantLaws.{VacantParts, vacant_parts, vacant_from, slot_of_pool, no_slot_of_spare}
use Rattle.space_collector.specs.GoneNames.{name_at}
use Rattle.space_stat.specs.HeapCounts.{AreHeapCounts}
use Rattle.space_engine.specs.Stands.{Holds}
use Rattle.space_engine.specs.Steps.{Answers}
use Rattle.space_engine.specs.Views.{View}
use Rattle.space_engine.proofs.GenerationsByName.{old_by_name}
use Rattle.space_engine.proofs.Outcomes.{some_same}
use Rattle.space_engine.proofs.Reaching.{member_map, member_unmap}

-- what implies another is no more often so
count_le : (P Q : ℕ → Type 0) (i j : ℕ) → ((n : ℕ) → P n → Q n) → CountIs P i → CountIs Q j → i ≤ j
count_le P Q i j more a b =
    let le = length-le_from_is_member nat_eq_equiv a.names b.names a.once (λ n m. (b.are n).1 (more n ((a.are n).0 m))) in
    let p = a.long in let q = b.long in omega arith

module _ (v : View) (s : State) (h : Holds v s) where
  abbrev heap : HeapView
  heap = v.heap

  -- the name stands at an address at which this holds
  abbrev StandsWhere : (ℕ → Type 0) → ℕ → Type 0
  StandsWhere At n = (a : ℕ) × (get s.heap.place n ≡ Some a) × At a

  -- as many names stand where something holds as there are addresses of objects at which it does
  by_name : (At : ℕ → Type 0) → ((a : ℕ) → At a → is_object heap a ≡ true) → (k : ℕ) → CountIs At k → CountIs (StandsWhere At) k
  by_name At object k c =
      let at : (a : ℕ) → At a → get s.heap.place (name_at heap a) ≡ Some a = λ a is. h.represents.heap.objects.only a (object a is) in
      record {
        names = map (name_at heap) c.names;
        once = IsDistinct-map (name_at heap) c.names
            (λ a b m n same. some_same a b (sym (at a ((c.are a).0 m)) ∙ ap (get s.heap.place) same ∙ at b ((c.are b).0 n)))
            c.once;
        are = λ name. (
          λ m.
              let u = member_unmap (name_at heap) c.names name m in
              let is = (c.are u.0).0 u.1 in
              (u.0, ap (get s.heap.place) u.2 ∙ at u.0 is, is),
          λ (a, stands, is).
              subst (λ n. is_member nat_eq (map (name_at heap) c.names) n ≡ true) (h.represents.heap.objects.is name a stands).named
              (member_map (name_at heap) c.names a ((c.are a).1 is)),
        );
        long = length-map c.names (name_at heap) ∙ c.long;
      }

  live_counted : (k : ℕ) → CountIs (λ a. is_object heap a ≡ true) k → CountIs (λ n. is_present s n ≡ true) k
  live_counted k c = counted_also (StandsWhere (λ a. is_object heap a ≡ true)) (λ n. is_present s n ≡ true) k
      (λ n. (
        λ (a, stands, is). ap is_some stands,
        λ present. let at = some_get (get s.heap.place n) present in (at.0, at.1, h.represents.heap.objects.stands n at.0 at.1),
      ))
      (by_name (λ a. is_object heap a ≡ true) (λ a is. is) k c)

  -- a name is old where its object is
  old_agrees : (n a : ℕ) → get s.heap.place n ≡ Some a → is_old s n ≡ is_old_object (object_of heap a)
  old_agrees n a at = old_by_name s.graph s.heap.place s.collector.outlived n a (object_of heap a) at
      (h.represents.heap.objects.is n a at).guard (h.represents.generations.ages n a at)

  old_present : (n : ℕ) → is_old s n ≡ true → is_present s n ≡ true
  unfolding is_old_in
  old_present n e = (and_parts _ _ e).0

  old_counted : (k : ℕ) → CountIs (IsOldObject heap) k → CountIs (λ n. is_old s n ≡ true) k
  old_counted k c = counted_also (StandsWhere (IsOldObject heap)) (λ n. is_old s n ≡ true) k
      (λ n. (
        λ (a, stands, is). old_agrees n a stands ∙ is.1,
        λ old.
            let at = some_get (get s.heap.place n) (old_present n old) in
            (at.0, at.1, (h.represents.heap.objects.stands n at.0 at.1, sym (old_agrees n at.0 at.1) ∙ old)),
      ))
      (by_name (IsOldObject heap) (λ a is. is.0) k c)

  -- the kept objects: no fewer than the names kept for certain, and all of them unprotected
  kept_counted : (k : ℕ) → CountIs (IsKeptObject heap) k → IsKeptCount s k
  kept_counted k c =
      let names = by_name (IsKeptObject heap) (λ a is. is.0) k c in
      let counts = (counts_there s h.sound).1.kept in
      let kept = h.represents.generations.kept in
      let certain : (n : ℕ) → IsKept s n → StandsWhere (IsKeptObject heap) n =
      λ n m.
      let at = some_get (get s.heap.place n) (h.sound.kept n m).0 in
      (at.0, at.1, (h.represents.heap.objects.stands n at.0 at.1, kept.certain n at.0 at.1 m)) in
      record {
        certain = counts.certain;
        certain_are = counts.certain_are;
        unprotected = counts.unprotected;
        unprotected_are = counts.unprotected_are;
        exact = λ sure. CountIs-unique (IsKept s) k counts.certain
            (counted_also (StandsWhere (IsKeptObject heap)) (IsKept s) k (λ n. ((λ (a, at, is). kept.only sure n a at is.1), certain n)) names)
            counts.certain_are;
        at_least = count_le (IsKept s) (StandsWhere (IsKeptObject heap)) counts.certain k certain counts.certain_are names;
        at_most = count_le (StandsWhere (IsKeptObject heap)) (IsUnprotected s) k counts.unprotected
            (λ n (a, at, is). (ap is_some at, kept.unprotected n a at is.1)) names counts.unprotected_are;
      }

  module _ (sound : IsSoundHeap heap) where
    -- free slots are the vacant addresses
    vacant_to : (a : ℕ) → IsVacantSlot heap a → IsVacant s a
    vacant_to a e = of_pool (pool_at heap (page_of a)) refl
      where
        parts : VacantParts heap a
        parts = vacant_parts heap a e

        of_pool : (own : Option ℕ) → pool_at heap (page_of a) ≡ own → IsVacant s a
        of_pool None its = absurd (true≢false (sym parts.slot ∙ no_slot_of_spare heap a sound its))
        of_pool (Some pool) its =
            let at = slot_in_parts (pool_at heap (page_of a)) pool a (sym (slot_of_pool heap pool a sound its) ∙ parts.slot) in
            record {
              pool = pool;
              at = record {
                page = page_of a;
                slot = at.slot;
                has_pool = h.represents.heap.pages.pools (page_of a) ∙ its;
                on_page = at.on_page;
                is = at.is;
              };
              no_place = λ n stands. true≢false (sym (occupied_from_object heap a (h.represents.heap.objects.stands n a stands)) ∙ parts.unoccupied);
              no_corpse = λ n lies. true≢false (sym (h.represents.heap.corpses.lies n a lies) ∙ parts.unoccupied);
              not_left = λ n left. true≢false (sym (h.represents.heap.left.lies n a left) ∙ parts.unmoved);
            }

    vacant_back : (a : ℕ) → IsVacant s a → IsVacantSlot heap a
    vacant_back a e =
        let on : page_of a ≡ e.at.page = ap page_of e.at.is ∙ page_of-slot_address e.at.page e.pool e.at.slot e.at.on_page in
        let own : pool_at heap (page_of a) ≡ Some e.pool =
        sym (h.represents.heap.pages.pools (page_of a)) ∙ ap (pool_of_page s.heap.pages) on ∙ e.at.has_pool in
        let slot : is_slot heap a ≡ true =
        slot_of_pool heap e.pool a sound own
        ∙ ap (λ pool_there. is_slot_in pool_there e.pool a) own
        ∙ ap (is_slot_in (Some e.pool) e.pool) e.at.is
        ∙ slot_in-address e.at.page e.pool e.at.slot (sound.known (page_of a) e.pool own) e.at.on_page in
        let nothing : is_occupied heap a ≡ false = ⊎_elim
        (λ occupied. ⊎_elim
        (λ is. absurd (e.no_place (object_of heap a).name (h.represents.heap.objects.only a is)))
        (λ gone. absurd (e.no_corpse (object_of heap a).name (h.represents.heap.corpses.only a occupied gone)))
        (cases_Bool (is_object heap a)))
        (λ g. g)
        (cases_Bool (is_occupied heap a)) in
        let unmoved : is_moved heap a ≡ false =
        ⊎_elim (λ moved. let l = h.represents.heap.left.only a moved in absurd (e.not_left l.0 l.1)) (λ g. g) (cases_Bool (is_moved heap a)) in
        vacant_from heap a slot nothing unmoved

    -- the heap's counts are the state's
    pub counts_agree : (stat : Stat) → AreHeapCounts heap stat → AreCounts s stat
    counts_agree stat c =
        let counted = h.represents.heap.counted in
        record {
          count = c.count;
          minor_verdicts = c.minor_verdicts ∙ counted.minor_verdicts;
          other_verdicts = c.other_verdicts ∙ counted.other_verdicts;
          pages = c.pages ∙ sym h.represents.heap.pages.count;
          live = live_counted stat.heap_live_slots c.live;
          free = counted_also (IsVacantSlot heap) (IsVacant s) stat.heap_free_slots (λ a. (vacant_to a, vacant_back a)) c.free;
          allocated = c.allocated ∙ counted.allocated;
          freed = c.freed ∙ counted.freed;
          old = old_counted stat.old_objects c.old;
          kept = kept_counted stat.remembered_wb_unprotected_objects c.kept;
          compactions = c.compactions ∙ counted.compactions;
          moves = c.moves ∙ counted.moves;
        }

    pub stat_answered : (stat : Stat) → AreHeapCounts heap stat → Answers s v StatCommand (StatLine stat)
    stat_answered stat c = record { state = s; represents = h.represents; replies = (counts_agree stat c, refl) }
