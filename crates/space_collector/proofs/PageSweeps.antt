-- The heap after the first page that waits was swept.
use Rattle.std.proofs.Common.{◌≡◌, ◌≢◌, ℕ, ◌*◌, ◌+◌, ◌≤◌, Bool, true, false, not, ◌&&◌, cond, List, [], ◌∷◌, length, nat_eq, refl, sym, ap, ◌∙◌, arith, ⊎_elim, ◌⊎◌, inl, inr, None}
use Rattle.std.specs.Prelude.{count_by}
use Rattle.std.specs.List.{range_with_len, filter}
use Rattle.std.proofs.Math.ListN.{length-map}
use Rattle.std.proofs.lemmas.Bool.{cases_Bool, cases_eq, and_parts, and_from, eqb-true, eq-eqb}
use Rattle.std.proofs.lemmas.Bool.Decides.{nat_tests}
use Rattle.std.proofs.lemmas.Grind.{common_steps}
use Rattle.std.proofs.lemmas.List.Elements.{filter_agree}
use Rattle.std.proofs.lemmas.List.Sums.{length-filter, sum_by-cons}
use Rattle.space_model.specs.declared.phase.Phase.{Phase}
use Rattle.space_model.specs.declared.phase.Phase.TheVariants.{Idle, Marking, Sweeping, Moving, Fixing}
use Rattle.space_model.specs.Counts.{CountIs}
use Rattle.space_model.specs.Layout.{most_page_slots, page_bytes, page_of}
use Rattle.space_model.proofs.VerdictLaws.{CountIs-unique}
use Rattle.space_model.proofs.WholeLaws.{counted_also}
use Rattle.space_heap.specs.Slots.{ObjectView}
use Rattle.space_heap.specs.HeapView.{Counters, HeapView, page_at, pool_at}
use Rattle.space_heap.specs.Objects.{is_occupied, is_object, object_of, is_moved, resolved, HasNoMoved}
use Rattle.space_heap.specs.SoundHeap.{IsSoundHeap}
use Rattle.space_heap.specs.Sweeping.{is_gone, has_gone, swept, IsGoneOn}
use Rattle.space_heap.proofs.FreedCounts.{freed_most}
use Rattle.space_heap.proofs.FreeLaws.{is_moved-swept}
use Rattle.space_heap.proofs.GoneCounts.{gone_on_page}
use Rattle.space_heap.proofs.PhaseLaws.{is_occupied-in_phase, is_object-in_phase, object_of-in_phase, is_moved-in_phase, resolved-in_phase}
use Rattle.space_heap.proofs.SweptLaws.{is_object-swept, is_occupied-swept_other, resolved-swept, pool_at-swept_other, limit-swept, cursor-swept, is_occupied-swept_same, object_of-swept, object_of-swept_other, is_gone-swept_same, is_gone-swept_other, count-swept, grey-swept, counters-swept}
use Rattle.space_heap.proofs.SweptPages.{pool_at-swept_kept, pool_at-swept_spare, unswept-swept_first}
use Rattle.space_sweep.specs.Sweeps.{SweepsFirst, phase_left}
use Rattle.space_sweep.proofs.GoneWaits.{gone_wait-first}
use Rattle.space_collector.specs.GoneNames.{gone_below, gone_addresses, name_at, gone_names}
use Rattle.space_collector.specs.Quiescent.{HasNoGrey, IsQuiescent}
use Rattle.space_collector.proofs.GoneLists.{gone_small, CountIs-passing}
use Rattle.space_collector.proofs.QuiescentLaws.{white_where_none}

-- what passes a test is what passes a second one too, and the rest
parts_counted : (p q : ℕ → Bool) (xs : List ℕ) → count_by p xs ≡ count_by (λ x. p x && q x) xs + count_by (λ x. p x && not (q x)) xs
parts_counted p q [] = refl
parts_counted p q (x ∷ xs) =
    let all = sum_by-cons (λ x. cond (p x) 1 0) x xs in
    let both = sum_by-cons (λ x. cond (p x && q x) 1 0) x xs in
    let rest = sum_by-cons (λ x. cond (p x && not (q x)) 1 0) x xs in
    grind (arith, common_steps, all, both, rest, parts_counted p q xs, cases_Bool (p x), cases_Bool (q x))

parts_filtered : (p q : ℕ → Bool) (xs : List ℕ) → length (filter p xs) ≡ length (filter (λ x. p x && q x) xs) + length (filter (λ x. p x && not (q x)) xs)
parts_filtered p q xs =
    length-filter p xs
    ∙ parts_counted p q xs
    ∙ ap (λ n. n + count_by (λ x. p x && not (q x)) xs) (sym (length-filter (λ x. p x && q x) xs))
    ∙ ap (λ n. length (filter (λ x. p x && q x) xs) + n) (sym (length-filter (λ x. p x && not (q x)) xs))

length-gone : (v : HeapView) → length (gone_names v) ≡ length (filter (is_gone v) (range_with_len 0 (page_bytes * (length v.pages + 1))))
unfolding gone_below
length-gone v = length-map (gone_addresses v) (name_at v)

module _ (v z : HeapView) (freed : ℕ) (s : SweepsFirst v z freed) where
  abbrev page : ℕ
  page = s.page

  -- the heap before its phase changed
  abbrev u : HeapView
  u = swept v page

  abbrev phase : Phase
  phase = phase_left s.others v.phase

  of_z : {X : Type 0} (f : HeapView → X) → f z ≡ f (record u { phase = phase })
  of_z f = ap f s.after

  pub count-first : length z.pages ≡ length v.pages
  count-first = of_z (λ (z : HeapView). length z.pages) ∙ count-swept v page

  pub phase-first : z.phase ≡ phase
  phase-first = of_z (λ (z : HeapView). z.phase)

  pub unswept-first : IsSoundHeap v → z.unswept ≡ s.others
  unswept-first sound = of_z (λ (z : HeapView). z.unswept) ∙ unswept-swept_first v page sound s.others s.first

  pub is_occupied-first : (a : ℕ) → is_occupied z a ≡ is_occupied u a
  is_occupied-first a = of_z (λ (z : HeapView). is_occupied z a) ∙ is_occupied-in_phase u phase a

  pub object_of-first : (a : ℕ) → object_of z a ≡ object_of u a
  object_of-first a = of_z (λ (z : HeapView). object_of z a) ∙ object_of-in_phase u phase a

  pub is_object-first : (a : ℕ) → is_object z a ≡ is_object v a
  is_object-first a = of_z (λ (z : HeapView). is_object z a) ∙ is_object-in_phase u phase a ∙ is_object-swept v page a

  -- an object stays as it was
  pub object_stays-first : (a : ℕ) → is_object v a ≡ true → object_of z a ≡ object_of v a
  object_stays-first a is = object_of-first a ∙ object_of-swept v page a is

  -- on the page nothing stands but objects, and elsewhere what stood there
  pub stands_here-first : (a : ℕ) → page_of a ≡ page → is_occupied z a ≡ is_object v a
  stands_here-first a on = is_occupied-first a ∙ is_occupied-swept_same v page a on

  pub stands_other-first : (a : ℕ) → page_of a ≢ page → is_occupied z a ≡ is_occupied v a
  stands_other-first a off = is_occupied-first a ∙ is_occupied-swept_other v page a off

  pub object_other-first : (a : ℕ) → page_of a ≢ page → object_of z a ≡ object_of v a
  object_other-first a off = object_of-first a ∙ object_of-swept_other v page a off

  pub is_moved-first : (a : ℕ) → is_moved z a ≡ is_moved v a
  is_moved-first a = of_z (λ (z : HeapView). is_moved z a) ∙ is_moved-in_phase u phase a ∙ is_moved-swept v page a

  pub resolved-first : (word : ℕ) → resolved z word ≡ resolved v word
  resolved-first word = of_z (λ (z : HeapView). resolved z word) ∙ resolved-in_phase u phase word ∙ resolved-swept v page word

  -- the page keeps its pool where an object stands on it, and is spare where none does
  pub pool_other-first : (k : ℕ) → k ≢ page → pool_at z k ≡ pool_at v k
  pool_other-first k off = of_z (λ (z : HeapView). pool_at z k) ∙ pool_at-swept_other v page k off

  pub pool_kept-first : (a : ℕ) → page_of a ≡ page → is_object v a ≡ true → pool_at z page ≡ pool_at v page
  pool_kept-first a on is = of_z (λ (z : HeapView). pool_at z page) ∙ pool_at-swept_kept v page a on is

  pub pool_spare-first : IsSoundHeap v → HasNoMoved v → ((a : ℕ) → page_of a ≡ page → is_object v a ≡ false) → pool_at z page ≡ None
  pool_spare-first sound still none = of_z (λ (z : HeapView). pool_at z page) ∙ pool_at-swept_spare v page sound still none

  pub limit-first : z.limit ≡ v.limit
  limit-first = of_z (λ (z : HeapView). z.limit) ∙ limit-swept v page

  pub cursor-first : z.cursor ≡ v.cursor
  cursor-first = of_z (λ (z : HeapView). z.cursor) ∙ cursor-swept v page

  pub grey_list-first : z.grey ≡ v.grey
  grey_list-first = of_z (λ (z : HeapView). z.grey) ∙ grey-swept v page

  -- all counters but that of the freed slots stay
  pub counters-first : IsSoundHeap v → z.counters ≡ record v.counters { freed = v.counters.freed + freed }
  counters-first sound =
      of_z (λ (z : HeapView). z.counters)
      ∙ counters-swept v page
      ∙ ap (λ n. record v.counters { freed = v.counters.freed + n })
      (CountIs-unique (IsGoneOn v page) (count_by has_gone (page_at v page).slots) freed (gone_on_page v page sound) s.count)

  -- what is gone still is gone on another page
  pub is_gone-first : (a : ℕ) → is_gone z a ≡ (is_gone v a && not (nat_eq (page_of a) page))
  is_gone-first a = rw (is_occupied-first a, object_of-first a) (⊎_elim
      (λ same. is_gone-swept_same v page a same ∙ sym (none_here same))
      (λ differ. is_gone-swept_other v page a differ ∙ sym (all_there differ))
      (cases_eq (page_of a) page))
    where
      none_here : page_of a ≡ page → (is_gone v a && not (nat_eq (page_of a) page)) ≡ false
      none_here same = ap (λ b. is_gone v a && not b) (eq-eqb (page_of a) page same)
          ∙ ⊎_elim (λ t. grind (arith, t)) (λ f. grind (arith, f)) (cases_Bool (is_gone v a))

      all_there : page_of a ≢ page → (is_gone v a && not (nat_eq (page_of a) page)) ≡ is_gone v a
      all_there differ =
          let apart : nat_eq (page_of a) page ≡ false = grind (arith, nat_tests) in
          ap (λ b. is_gone v a && not b) apart ∙ ⊎_elim (λ t. grind (arith, t)) (λ f. grind (arith, f)) (cases_Bool (is_gone v a))

  -- the counter of freed slots rises by those that the sweep freed
  pub freed-first : IsSoundHeap v → z.counters.freed ≡ v.counters.freed + freed
  freed-first sound = ap (λ (c : Counters). c.freed) (counters-first sound)

  -- which are no more than a page has
  pub freed_most-first : IsSoundHeap v → z.counters.freed ≤ v.counters.freed + most_page_slots
  freed_most-first sound = let most = freed_most v page sound in let same = of_z (λ (z : HeapView). z.counters.freed) in omega arith

  -- and so many fewer objects are gone
  pub gone-first : length (gone_names v) ≡ freed + length (gone_names z)
  gone-first =
      let bound : ℕ = page_bytes * (length v.pages + 1) in
      let on : ℕ → Bool = λ a. nat_eq (page_of a) page in
      let here : CountIs (IsGoneOn v page) (length (filter (λ a. is_gone v a && on a) (range_with_len 0 bound))) =
      counted_also (λ a. (is_gone v a && on a) ≡ true) (IsGoneOn v page) _
      (λ a. (
        (λ t. let parts = and_parts _ _ t in (parts.0, eqb-true (page_of a) page parts.1)),
        (λ (g : IsGoneOn v page a). and_from _ _ g.0 (eq-eqb (page_of a) page g.1)),
      ))
      (CountIs-passing (λ a. is_gone v a && on a) bound (λ a t. gone_small v a (and_parts _ _ t).0)) in
      let rest : filter (λ a. is_gone v a && not (on a)) (range_with_len 0 bound) ≡ filter (is_gone z) (range_with_len 0 bound) =
      filter_agree (λ a. is_gone v a && not (on a)) (is_gone z) (λ a. sym (is_gone-first a)) (range_with_len 0 bound) in
      length-gone v
      ∙ parts_filtered (is_gone v) on (range_with_len 0 bound)
      ∙ ap (λ n. n + length (filter (λ a. is_gone v a && not (on a)) (range_with_len 0 bound))) (CountIs-unique (IsGoneOn v page) _ freed here s.count)
      ∙ ap (λ xs. freed + length xs) rest
      ∙ ap (λ count. freed + length (filter (is_gone z) (range_with_len 0 (page_bytes * (count + 1))))) (sym count-first)
      ∙ ap (λ n. freed + n) (sym (length-gone z))

  -- nothing becomes grey
  grey-first : HasNoGrey v → HasNoGrey z
  grey-first none = record {
    listed = grey_list-first ∙ none.listed;
    objects = λ a grey. ⊎_elim
        (λ there. none.objects a (ap (λ (o : ObjectView). o.colour) (sym (object_there a there)) ∙ grey))
        (λ nothing. let white = white_where_none z a nothing in cc)
        (cases_Bool (is_occupied z a));
  }
    where
      object_there : (a : ℕ) → is_occupied z a ≡ true → object_of z a ≡ object_of v a
      object_there a there = ⊎_elim
          (λ on. object_stays-first a (sym (stands_here-first a on) ∙ there))
          (λ off. object_other-first a off)
          (cases_eq (page_of a) page)

  -- pages wait in Sweeping alone
  sweeping : IsQuiescent v → v.phase ≡ Sweeping
  sweeping q = by_phase v.phase refl
    where
      waits : v.phase ≢ Sweeping → ⊥
      waits other = let none = q.none_waits other in let first = s.first in cc

      by_phase : (at : Phase) → v.phase ≡ at → v.phase ≡ Sweeping
      by_phase Idle e = absurd (waits (λ f. cc))
      by_phase Marking e = absurd (waits (λ f. cc))
      by_phase Sweeping e = e
      by_phase Moving e = absurd (waits (λ f. cc))
      by_phase Fixing e = absurd (waits (λ f. cc))

  -- what is left to do shows in the phase again
  pub quiescent-first : IsSoundHeap v → IsQuiescent v → IsQuiescent z
  quiescent-first sound q =
      let at : v.phase ≡ Sweeping = sweeping q in
      record {
        gone_wait = gone_wait-first v z freed s q.gone_wait;
        none_waits = λ other. unswept-first sound ∙ none_left s.others (λ e. other (phase-first ∙ e)) at;
        some_wait = λ e none. some_left s.others (sym phase-first ∙ e) (sym (unswept-first sound) ∙ none);
        none_moved = λ moving fixing a. is_moved-first a ∙ q.none_moved (λ e. cc) (λ e. cc) a;
        none_grey = λ marking. grey-first (q.none_grey (λ e. cc));
      }
    where
      none_left : (others : List ℕ) → phase_left others v.phase ≢ Sweeping → v.phase ≡ Sweeping → others ≡ []
      none_left [] other at = refl
      none_left (k ∷ ks) other at = absurd (other at)

      some_left : (others : List ℕ) → phase_left others v.phase ≡ Sweeping → others ≢ []
      some_left [] e none = cc
      some_left (k ∷ ks) e none = cc

  -- the phase stays, or nothing is under way
  pub phase_left-first : (z.phase ≡ v.phase) ⊎ (z.phase ≡ Idle)
  phase_left-first = of_others s.others phase-first
    where
      of_others : (others : List ℕ) → z.phase ≡ phase_left others v.phase → (z.phase ≡ v.phase) ⊎ (z.phase ≡ Idle)
      of_others [] e = inr e
      of_others (k ∷ ks) e = inl e

  -- fewer pages wait
  pub fewer_wait : IsSoundHeap v → length v.unswept ≡ length z.unswept + 1
  fewer_wait sound = ap length s.first ∙ ap (λ others. length (page ∷ others)) (sym (unswept-first sound)) ∙ omega arith
