-- The number of scans that end a marking of the heap is one that the end of the state's marking may have.
use Rattle.std.proofs.Common.{◌≡◌, ℕ, ◌+◌, ◌≤◌, ◌&&◌, not, Bool, true, false, List, [], ◌++◌, length, length-append, map, sym, ap, ◌∙◌, subst, arith, nat_eq, Some, ⊎_elim}
use Rattle.std.specs.Prelude.{is_some}
use Rattle.std.specs.Cmp.{nat_eq_equiv}
use Rattle.std.specs.List.{IsDistinct}
use Rattle.std.specs.Set.{is_member}
use Rattle.std.specs.FinMap.{get, empty}
use Rattle.std.proofs.Math.ListN.{length-map}
use Rattle.std.proofs.lemmas.Bool.{and_parts, and_from, not-true}
use Rattle.std.proofs.lemmas.Map.Made.{length-le_from_is_member}
use Rattle.space_model.specs.Ages.{is_protected}
use Rattle.space_model.specs.Counts.{CountIs}
use Rattle.space_model.specs.MajorMarking.{IsSurvivor, IsScannedAgain, AreLastScans}
use Rattle.space_model.specs.Maps.{address_in}
use Rattle.space_model.specs.State.{State}
use Rattle.space_model.proofs.MapLaws.{some_get}
use Rattle.space_model.proofs.Members.{member_left, member_right, member_cases}
use Rattle.space_model.proofs.PassingNames.{passing_names, IsRising-passing_names, CountIs-passing, member-passing_names}
use Rattle.space_model.proofs.ToldNames.{IsDistinct-rising, IsDistinct-append}
use Rattle.space_heap.specs.HeapView.{HeapView}
use Rattle.space_heap.specs.Marking.{colour_of}
use Rattle.space_heap.specs.Objects.{object_of}
use Rattle.space_heap.specs.Sweeping.{HasNoGone}
use Rattle.space_tracing.specs.Graph.{SameGraph}
use Rattle.space_tracing.specs.Marking.{IsMarked, CountsAre}
use Rattle.space_major.specs.Incremental.{IsFinishScan, IsNewlyBlack}
use Rattle.space_collector.specs.GoneNames.{name_at}
use Rattle.space_engine.specs.Colours.{IsBlack}
use Rattle.space_engine.specs.Stands.{Holds}
use Rattle.space_engine.specs.Views.{View}
use Rattle.space_engine.proofs.GenerationNames.{guard_at}
use Rattle.space_engine.proofs.KindNotes.{black_cases, black_marked, finish_black, finish_unprotected, marked_object}
use Rattle.space_engine.proofs.MinorScans.{address_listed}
use Rattle.space_engine.proofs.Reaching.{member_map}

module _ (v : View) (s : State) (h : Holds v s) (clean : HasNoGone v.heap) (unmoved : s.heap.left ≡ empty) (fresh : s.collector.stale ≡ []) (marked : HeapView)
    (same : SameGraph v.heap marked) (taken : List ℕ) (still_marked : (a : ℕ) → IsMarked v.heap a → IsMarked marked a)
    (marked_stays : (name address : ℕ) → get s.heap.place name ≡ Some address → IsMarked marked address → is_member nat_eq taken name ≡ false)
    (stays_marked : (name address : ℕ) → get s.heap.place name ≡ Some address → is_member nat_eq taken name ≡ false → IsMarked marked address)
    (black : CountIs (IsBlack v.heap) s.history.scanned) (scans : ℕ) (c : CountsAre (IsFinishScan v.heap) (IsNewlyBlack v.heap marked) scans) where
  -- the names that are counted, as tests

  abbrev is_survivor : ℕ → Bool
  is_survivor name = not (is_member nat_eq taken name)

  abbrev is_again : ℕ → Bool
  is_again name = not (is_member nat_eq taken name) && not (is_protected s.graph name)

  abbrev survivors : List ℕ
  survivors = passing_names s is_survivor

  abbrev again : List ℕ
  again = passing_names s is_again

  -- the object of a survivor was black before, or is newly black

  abbrev addresses : List ℕ
  addresses = black.names ++ c.have_second.names

  apart : (a : ℕ) → is_member nat_eq black.names a ≡ true → is_member nat_eq c.have_second.names a ≡ true → ⊥
  apart a m k = ((c.have_second.are a).0 k).1 ((black.are a).0 m)

  addresses_once : IsDistinct nat_eq addresses
  addresses_once = IsDistinct-append black.names c.have_second.names black.once c.have_second.once apart

  marked_listed : (a : ℕ) → IsMarked marked a → is_member nat_eq addresses a ≡ true
  marked_listed a m = ⊎_elim
      (λ before. member_left black.names c.have_second.names a ((black.are a).1 before))
      (λ other. member_right black.names c.have_second.names a ((c.have_second.are a).1 (m, other)))
      (black_cases (colour_of v.heap a))

  survivor_listed : (name : ℕ) → is_member nat_eq survivors name ≡ true → is_member nat_eq (map (name_at v.heap) addresses) name ≡ true
  survivor_listed name m =
      let passed = (member-passing_names s h.sound.layout.placed is_survivor name).0 m in
      let at = some_get (get s.heap.place name) passed.0 in
      subst (λ n. is_member nat_eq (map (name_at v.heap) addresses) n ≡ true) (h.represents.heap.objects.is name at.0 at.1).named
      (member_map (name_at v.heap) addresses at.0 (marked_listed at.0 (stays_marked name at.0 at.1 (not-true _ passed.1))))

  -- and each such address is that of a survivor

  address_marked : (a : ℕ) → is_member nat_eq addresses a ≡ true → IsMarked marked a
  address_marked a m = ⊎_elim
      (λ k. still_marked a (black_marked v.heap a ((black.are a).0 k)))
      (λ k. ((c.have_second.are a).0 k).0)
      (member_cases black.names c.have_second.names a m)

  address_counted : (a : ℕ) → is_member nat_eq addresses a ≡ true → is_member nat_eq (map (address_in s.heap.place) survivors) a ≡ true
  address_counted a m =
      let name : ℕ = (object_of v.heap a).name in
      let is = address_marked a m in
      let at = h.represents.heap.objects.only a (marked_object v.heap marked same clean a is) in
      address_listed s.heap.place survivors name a at
      ((member-passing_names s h.sound.layout.placed is_survivor name).1 (ap is_some at, ap not (marked_stays name a at is)))

  -- what is scanned again is the object of an unprotected survivor
  again_counted : (a : ℕ) → is_member nat_eq c.have_first.names a ≡ true → is_member nat_eq (map (address_in s.heap.place) again) a ≡ true
  again_counted a m =
      let scan = (c.have_first.are a).0 m in
      let name : ℕ = (object_of v.heap a).name in
      let is = still_marked a (black_marked v.heap a (finish_black v.heap a scan)) in
      let at = h.represents.heap.objects.only a (marked_object v.heap marked same clean a is) in
      address_listed s.heap.place again name a at
      ((member-passing_names s h.sound.layout.placed is_again name).1 (
        ap is_some at,
        and_from _ _ (ap not (marked_stays name a at is))
            (ap not (sym (guard_at v s h unmoved fresh name a at) ∙ finish_unprotected v.heap a scan)),
      ))

  -- the numbers

  many : length addresses ≡ s.history.scanned + c.second
  many = length-append black.names c.have_second.names ∙ (let a = black.long in let b = c.have_second.long in omega (arith, a, b))

  survivors_once : IsDistinct nat_eq survivors
  survivors_once = IsDistinct-rising s.heap.place survivors (IsRising-passing_names s is_survivor)

  survivors_most : length survivors ≤ s.history.scanned + c.second
  survivors_most =
      let fits = length-le_from_is_member nat_eq_equiv survivors (map (name_at v.heap) addresses) survivors_once survivor_listed in
      let long = length-map addresses (name_at v.heap) in
      let all = many in
      omega (arith, fits, long, all)

  survivors_least : s.history.scanned + c.second ≤ length survivors
  survivors_least =
      let fits = length-le_from_is_member nat_eq_equiv addresses (map (address_in s.heap.place) survivors) addresses_once address_counted in
      let long = length-map survivors (address_in s.heap.place) in
      let all = many in
      omega (arith, fits, long, all)

  again_least : c.first ≤ length again
  again_least =
      let fits = length-le_from_is_member nat_eq_equiv c.have_first.names (map (address_in s.heap.place) again) c.have_first.once again_counted in
      let long = length-map again (address_in s.heap.place) in
      let all = c.have_first.long in
      omega (arith, fits, long, all)

  pub last_scans : AreLastScans s taken scans
  last_scans = record {
    survivors = length survivors;
    survivors_are = CountIs-passing s h.sound.layout.placed is_survivor (IsSurvivor s taken)
        (λ n. ((λ (p, e). (p, not-true _ e)), (λ (p, out). (p, ap not out))));
    again = length again;
    again_are = CountIs-passing s h.sound.layout.placed is_again (IsScannedAgain s taken)
        (λ n. (
          (λ (p, e). let both = and_parts _ _ e in ((p, not-true _ both.0), not-true _ both.1)),
          (λ ((p, out), free). (p, and_from _ _ (ap not out) (ap not free))),
        ));
    at_least = (let most = survivors_most in let sum = c.sum in omega (arith, most, sum));
    at_most = (let least = survivors_least in let few = again_least in let sum = c.sum in omega (arith, least, few, sum));
  }
