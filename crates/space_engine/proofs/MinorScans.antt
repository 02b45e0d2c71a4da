-- The number of scans of a minor marking of the heap is one that a minor marking of the state may have.
use Rattle.std.proofs.Common.{◌≡◌, ℕ, ◌+◌, ◌≤◌, ◌&&◌, not, Bool, true, false, true≢false, nat_le, List, [], ◌++◌, length, length-append, map, sym, ap, ◌∙◌, subst, arith, nat_eq, Some, ⊎_elim, inl}
use Rattle.std.specs.Prelude.{is_some, unwrap_or, Option}
use Rattle.std.specs.Cmp.{nat_eq_equiv}
use Rattle.std.specs.Ordering.{nat_cmp}
use Rattle.std.specs.List.{IsDistinct}
use Rattle.std.specs.Set.{is_member}
use Rattle.std.specs.FinMap.{FinMap, get, empty}
use Rattle.std.proofs.Math.ListN.{length-map}
use Rattle.std.proofs.lemmas.Bool.{cases_Bool, and_parts, and_from, or_cases, or_right, not-true}
use Rattle.std.proofs.lemmas.Map.Made.{length-le_from_is_member}
use Rattle.space_model.specs.Ages.{outlived_by, is_old as is_old_name}
use Rattle.space_model.specs.Collections.{IsYoungSurvivor, IsSuspect, AreMinorScans}
use Rattle.space_model.specs.Maps.{address_in}
use Rattle.space_model.specs.Markings.{mark_started}
use Rattle.space_model.specs.State.{State}
use Rattle.space_model.proofs.MapLaws.{some_get}
use Rattle.space_model.proofs.Members.{member_left, member_right, member_cases}
use Rattle.space_model.proofs.PassingNames.{passing_names, IsRising-passing_names, CountIs-passing, member-passing_names}
use Rattle.space_model.proofs.ToldNames.{IsDistinct-rising, IsDistinct-append}
use Rattle.space_heap.specs.HeapView.{HeapView}
use Rattle.space_heap.specs.Objects.{object_of}
use Rattle.space_heap.specs.Generations.{is_old}
use Rattle.space_heap.specs.Sweeping.{HasNoGone}
use Rattle.space_tracing.specs.Graph.{SameGraph}
use Rattle.space_tracing.specs.Marking.{IsMarked}
use Rattle.space_minor.specs.Minors.{IsOldOrKept, IsMinorScan, IsNewlyMarked, CountsAre}
use Rattle.space_collector.specs.GoneNames.{name_at}
use Rattle.space_engine.specs.Stands.{Holds}
use Rattle.space_engine.specs.Views.{View}
use Rattle.space_engine.proofs.GenerationLists.{is_old_in-present, is_old_in-at}
use Rattle.space_engine.proofs.GenerationNames.{old_at, held_named}
use Rattle.space_engine.proofs.KindNotes.{minor_scan_held, marked_object}
use Rattle.space_engine.proofs.Reaching.{member_map}

-- the address of a name is among those of names that have it
pub address_listed : (place : FinMap nat_cmp ℕ) (names : List ℕ) (name address : ℕ) → get place name ≡ Some address →
    is_member nat_eq names name ≡ true → is_member nat_eq (map (address_in place) names) address ≡ true
address_listed place names name address at m = subst (λ a. is_member nat_eq (map (address_in place) names) a ≡ true)
    (ap (λ (o : Option ℕ). unwrap_or o 0) at)
    (member_map (address_in place) names name m)

module _ (v : View) (s : State) (h : Holds v s) (clean : HasNoGone v.heap) (unmoved : s.heap.left ≡ empty) (fresh : s.collector.stale ≡ []) (marked : HeapView)
    (same : SameGraph v.heap marked) (taken : List ℕ) (held_marked : (a : ℕ) → IsOldOrKept v.heap a → IsMarked marked a)
    (marked_stays : (name address : ℕ) → get s.heap.place name ≡ Some address → IsMarked marked address → is_member nat_eq taken name ≡ false)
    (stays_marked : (name address : ℕ) → get s.heap.place name ≡ Some address → is_member nat_eq taken name ≡ false → IsMarked marked address)
    (scans : ℕ) (c : CountsAre (IsMinorScan v.heap) (IsNewlyMarked v.heap marked) scans) where
  -- the names that are counted, as tests

  abbrev is_young : ℕ → Bool
  is_young name = not (is_member nat_eq taken name) && not (is_old_name s name)

  abbrev is_suspect : ℕ → Bool
  is_suspect name = is_old_name s name && is_member nat_eq s.history.mixed name

  abbrev young_names : List ℕ
  young_names = passing_names s is_young

  abbrev suspects : List ℕ
  suspects = passing_names s is_suspect

  member_young : (name address : ℕ) → get s.heap.place name ≡ Some address → IsMarked marked address → is_old_name s name ≡ false →
      is_member nat_eq young_names name ≡ true
  member_young name address at m young = (member-passing_names s h.sound.layout.placed is_young name).1 (
    ap is_some at,
    and_from _ _ (ap not (marked_stays name address at m)) (ap not young),
  )

  -- the addresses that the marking scans

  abbrev first : List ℕ
  first = c.have_first.names

  abbrev second : List ℕ
  second = c.have_second.names

  apart : (a : ℕ) → is_member nat_eq first a ≡ true → is_member nat_eq second a ≡ true → ⊥
  apart a m k = ((c.have_second.are a).0 k).1 (minor_scan_held v.heap a ((c.have_first.are a).0 m))

  addresses_once : IsDistinct nat_eq (first ++ second)
  addresses_once = IsDistinct-append first second c.have_first.once c.have_second.once apart

  many : length (first ++ second) ≡ scans
  many = length-append first second ∙ (let a = c.have_first.long in let b = c.have_second.long in let e = c.sum in omega arith)

  -- each young name that is left is that of such an address

  young_scanned : (name address : ℕ) → get s.heap.place name ≡ Some address → IsMarked marked address → is_old_name s name ≡ false →
      is_member nat_eq (first ++ second) address ≡ true
  young_scanned name address at m young = ⊎_elim
      (λ kept. member_left first second address ((c.have_first.are address).1 (scan_kept kept)))
      (λ free. member_right first second address ((c.have_second.are address).1 (
        m,
        λ held. ⊎_elim
            (λ old. true≢false (sym old ∙ old_at v s h unmoved fresh name address at ∙ young))
            (λ kept. true≢false (sym kept ∙ free))
            held,
      )))
      (cases_Bool (object_of v.heap address).kept)
    where
      scan_kept : (object_of v.heap address).kept ≡ true → IsMinorScan v.heap address
      scan_kept kept = or_right (is_old (object_of v.heap address) && (object_of v.heap address).remembered) _ kept

  young_listed : (name : ℕ) → is_member nat_eq young_names name ≡ true → is_member nat_eq (map (name_at v.heap) (first ++ second)) name ≡ true
  young_listed name m =
      let passed = (member-passing_names s h.sound.layout.placed is_young name).0 m in
      let both = and_parts (not (is_member nat_eq taken name)) _ passed.1 in
      let at = some_get (get s.heap.place name) passed.0 in
      let scanned = young_scanned name at.0 at.1 (stays_marked name at.0 at.1 (not-true _ both.0)) (not-true _ both.1) in
      subst (λ n. is_member nat_eq (map (name_at v.heap) (first ++ second)) n ≡ true) (h.represents.heap.objects.is name at.0 at.1).named
      (member_map (name_at v.heap) (first ++ second) at.0 scanned)

  -- and each such address is that of a young name that is left, or of a suspect

  abbrev counted : List ℕ
  counted = young_names ++ suspects

  listed : (name address : ℕ) → get s.heap.place name ≡ Some address → is_member nat_eq counted name ≡ true →
      is_member nat_eq (map (address_in s.heap.place) counted) address ≡ true
  listed = address_listed s.heap.place counted

  kept_young : (name address : ℕ) → get s.heap.place name ≡ Some address → (object_of v.heap address).kept ≡ true → is_old_name s name ≡ false
  kept_young name address at kept =
      is_old_in-at s.graph s.heap.place s.collector.outlived name address at
      ∙ ap (λ b. b && nat_le 3 (outlived_by s.collector.outlived name)) (h.represents.generations.kept.unprotected name address at kept)

  first_counted : (a : ℕ) → IsMinorScan v.heap a → is_member nat_eq (map (address_in s.heap.place) counted) a ≡ true
  first_counted a scan =
      let held = minor_scan_held v.heap a scan in
      let name : ℕ = (object_of v.heap a).name in
      let at = held_named v s h unmoved fresh clean a held in
      listed name a at (⊎_elim
      (λ both.
      let parts = and_parts (is_old (object_of v.heap a)) (object_of v.heap a).remembered both in
      member_right young_names suspects name ((member-passing_names s h.sound.layout.placed is_suspect name).1 (
        ap is_some at,
        and_from _ _ (sym (old_at v s h unmoved fresh name a at) ∙ parts.0)
            (h.represents.generations.remembered.mixed_since name a at parts.1),
      )))
      (λ kept. member_left young_names suspects name (member_young name a at (held_marked a held) (kept_young name a at kept)))
      (or_cases (is_old (object_of v.heap a) && (object_of v.heap a).remembered) (object_of v.heap a).kept scan))

  second_counted : (a : ℕ) → IsNewlyMarked v.heap marked a → is_member nat_eq (map (address_in s.heap.place) counted) a ≡ true
  second_counted a new =
      let name : ℕ = (object_of v.heap a).name in
      let at = h.represents.heap.objects.only a (marked_object v.heap marked same clean a new.0) in
      listed name a at (member_left young_names suspects name (member_young name a at new.0 (⊎_elim
      (λ old. absurd (new.1 (inl (old_at v s h unmoved fresh name a at ∙ old))))
      (λ young. young)
      (cases_Bool (is_old_name s name)))))

  address_counted : (a : ℕ) → is_member nat_eq (first ++ second) a ≡ true → is_member nat_eq (map (address_in s.heap.place) counted) a ≡ true
  address_counted a m = ⊎_elim
      (λ k. first_counted a ((c.have_first.are a).0 k))
      (λ k. second_counted a ((c.have_second.are a).0 k))
      (member_cases first second a m)

  young_once : IsDistinct nat_eq young_names
  young_once = IsDistinct-rising s.heap.place young_names (IsRising-passing_names s is_young)

  at_least : length young_names ≤ scans
  at_least =
      let fits = length-le_from_is_member nat_eq_equiv young_names (map (name_at v.heap) (first ++ second)) young_once young_listed in
      let long = length-map (first ++ second) (name_at v.heap) in
      let all = many in
      omega (arith, fits, long, all)

  at_most : scans ≤ length young_names + length suspects
  at_most =
      let fits = length-le_from_is_member nat_eq_equiv (first ++ second) (map (address_in s.heap.place) counted) addresses_once address_counted in
      let long = length-map counted (address_in s.heap.place) in
      let sum = length-append young_names suspects in
      let all = many in
      omega (arith, fits, long, sum, all)

  pub minor_scans : AreMinorScans s (mark_started s) taken scans
  minor_scans = record {
    young = length young_names;
    young_are = CountIs-passing s h.sound.layout.placed is_young (IsYoungSurvivor (mark_started s) taken)
        (λ n. (
          (λ (p, e). let both = and_parts _ _ e in (p, not-true _ both.0, not-true _ both.1)),
          (λ (p, stays, young). (p, and_from _ _ (ap not stays) (ap not young))),
        ));
    suspects = length suspects;
    suspects_are = CountIs-passing s h.sound.layout.placed is_suspect (IsSuspect s)
        (λ n. (
          (λ (p, e). let both = and_parts _ _ e in (both.0, both.1)),
          (λ (old, mixed). (is_old_in-present s.graph s.heap.place s.collector.outlived n old, and_from _ _ old mixed)),
        ));
    at_least = at_least;
    at_most = at_most;
  }
