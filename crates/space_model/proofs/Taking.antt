-- What is taken over several pieces of work, one after the other.
use Rattle.std.proofs.Common.{◌≡◌, ℕ, cond, not, ◌||◌, ◌&&◌, true, false, Bool, List, [], ◌++◌, length, map, nat_eq, refl, sym, ap, ◌∙◌, subst, ⊎_elim, Option, None, Some}
use Rattle.std.specs.Prelude.{is_some}
use Rattle.std.specs.List.{IsDistinct}
use Rattle.std.specs.Set.{is_member}
use Rattle.std.specs.Ordering.{nat_cmp}
use Rattle.std.specs.FinMap.{FinMap, get}
use Rattle.std.proofs.lemmas.Bool.{and_parts, not-true, false≢true}
use Rattle.std.proofs.lemmas.List.{map-append}
use Rattle.std.proofs.lemmas.List.Folds.{list_any-append}
use Rattle.space_model.specs.declared.event.Event.{Event}
use Rattle.space_model.specs.Maps.{without}
use Rattle.space_model.specs.Outputs.{Told}
use Rattle.space_model.specs.State.{State, is_present}
use Rattle.space_model.specs.ToldInOrder.{AreToldInOrder}
use Rattle.space_model.specs.WeakMaps.{entries_left}
use Rattle.space_model.proofs.EntryLaws.{left_twice}
use Rattle.space_model.proofs.MapLaws.{get-without}
use Rattle.space_model.proofs.Members.{member_cases}
use Rattle.space_model.proofs.Queueing.{ran_among, ran_among-append, Queues, queues_then}
use Rattle.space_model.proofs.ToldNames.{gone_among, gone_among-append, moved_among, told_place, told_place-append, told_place-same, told_place-unmoved, IsDistinct-append, AreToldInOrder-append, AreToldInOrder-same, gone_in-told}

-- who is present in a map without some names
pub there-without : (place : FinMap nat_cmp ℕ) (names : List ℕ) (n : ℕ) →
    is_some (get (without place names) n) ≡ (not (is_member nat_eq names n) && is_some (get place n))
there-without place names n = ap is_some (get-without place names n) ∙ some_cond (is_member nat_eq names n) (get place n)
  where
    some_cond : (b : Bool) (o : Option ℕ) → is_some (cond b None o) ≡ (not b && is_some o)
    some_cond true o = refl
    some_cond false o = refl

-- these names were present, and are gone, and entries of weak maps went with them; each other name stands where the moves that were told put it.
-- They were told in order, and no finalizer ran
pub record Takes (s : State) (events : List Event) (taken : List ℕ) (t : State) : Type 0 where
  pub told : gone_among events ≡ taken
  pub present : (n : ℕ) → is_member nat_eq taken n ≡ true → is_present s n ≡ true
  pub order : AreToldInOrder s.heap.place [] (map Told events)
  pub once : IsDistinct nat_eq taken
  pub there : (n : ℕ) → is_present t n ≡ (not (is_member nat_eq taken n) && is_present s n)
  pub place : (n : ℕ) → is_present t n ≡ true → get t.heap.place n ≡ get (told_place s.heap.place events) n
  pub graph : t.graph ≡ s.graph
  pub limit : t.heap.limit ≡ s.heap.limit
  pub page_count : length t.heap.pages ≡ length s.heap.pages
  pub ids : t.tables.ids ≡ s.tables.ids
  pub weak : t.tables.weak ≡ entries_left taken s.tables.weak
  pub silent : ran_among events ≡ []
  pub queues : Queues s t

-- what stands where it is there is the same where as much is there
both_same : (o p : Option ℕ) → is_some o ≡ is_some p → (is_some o ≡ true → o ≡ p) → o ≡ p
both_same None None e same = refl
both_same None (Some a) e same = absurd (false≢true e)
both_same (Some a) p e same = same refl

module _ (s : State) (events : List Event) (taken : List ℕ) (t : State) (h : Takes s events taken t) where
  -- who is present after it was before, and wasn't taken
  pub there_before : (n : ℕ) → is_present t n ≡ true → (is_member nat_eq taken n ≡ false) × (is_present s n ≡ true)
  there_before n p =
      let both = and_parts (not (is_member nat_eq taken n)) (is_present s n) (sym (h.there n) ∙ p) in
      (not-true (is_member nat_eq taken n) both.0, both.1)

  -- what isn't taken, and isn't moved, stands where it stood
  pub not_taken : (n : ℕ) → is_member nat_eq taken n ≡ false → is_member nat_eq (moved_among events) n ≡ false → get t.heap.place n ≡ get s.heap.place n
  not_taken n out unmoved =
      both_same (get t.heap.place n) (get s.heap.place n) (h.there n ∙ ap (λ b. not b && is_present s n) out)
      (λ p. h.place n p ∙ told_place-unmoved s.heap.place events n unmoved)

-- two pieces of work, one after the other
pub takes_then : (s m t : State) (now later : List Event) (first second : List ℕ) → Takes s now first m → Takes m later second t →
    Takes s (now ++ later) (first ++ second) t
takes_then s m t now later first second h k =
    let before : (n : ℕ) → is_present m n ≡ true → (is_member nat_eq first n ≡ false) × (is_present s n ≡ true) = there_before s now first m h in
    let not_twice : (n : ℕ) → is_member nat_eq first n ≡ true → is_member nat_eq second n ≡ true → ⊥ =
    λ n among again. false≢true (sym (before n (k.present n again)).0 ∙ among) in
    record {
      told = gone_among-append now later ∙ ap (λ names. names ++ gone_among later) h.told ∙ ap (λ names. first ++ names) k.told;
      present = λ n among. ⊎_elim
          (λ earlier. h.present n earlier)
          (λ after. (before n (k.present n after)).1)
          (member_cases first second n among);
      order = subst (AreToldInOrder s.heap.place []) (sym (map-append Told now later))
          (AreToldInOrder-append s.heap.place [] now (map Told later) h.order
          (AreToldInOrder-same m.heap.place (told_place s.heap.place now) [] (map Told later)
          (λ n among.
          let after : is_member nat_eq second n ≡ true = ap (λ names. is_member nat_eq names n) (sym k.told ∙ sym (gone_in-told later)) ∙ among in
          sym (h.place n (k.present n after)))
          k.order));
      once = IsDistinct-append first second h.once k.once not_twice;
      there = λ n.
          k.there n
          ∙ ap (λ b. not (is_member nat_eq second n) && b) (h.there n)
          ∙ neither (is_member nat_eq first n) (is_member nat_eq second n) (is_present s n)
          ∙ ap (λ b. not b && is_present s n) (sym (list_any-append (nat_eq n) first second));
      place = λ n p.
          k.place n p
          ∙ told_place-same m.heap.place (told_place s.heap.place now) later n (h.place n (there_before m later second t k n p).1)
          ∙ ap (λ place. get place n) (sym (told_place-append s.heap.place now later));
      graph = k.graph ∙ h.graph;
      limit = k.limit ∙ h.limit;
      page_count = k.page_count ∙ h.page_count;
      ids = k.ids ∙ h.ids;
      weak = k.weak ∙ ap (entries_left second) h.weak ∙ left_twice first second s.tables.weak;
      silent = ran_among-append now later ∙ ap (λ pairs. pairs ++ ran_among later) h.silent ∙ k.silent;
      queues = queues_then s m t h.queues k.queues;
    }
  where
    neither : (a b c : Bool) → (not b && (not a && c)) ≡ (not (a || b) && c)
    neither true true c = refl
    neither true false c = refl
    neither false true c = refl
    neither false false c = refl
