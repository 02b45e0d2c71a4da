-- After the write barrier protects a name no more, all names have the fields that they had.
use Rattle.std.proofs.Common.{◌≡◌, ◌≢◌, ◌⊎◌, ◌&&◌, ℕ, ◌<◌, ◌≤◌, Bool, true, false, if◌then◌else◌, List, ◌∷◌, length, nat_eq, nat_le, sym, ap, ◌∙◌, ⊎_elim, inl, inr}
use Rattle.std.specs.Prelude.{is_some, slice_get}
use Rattle.std.specs.List.{flat_map}
use Rattle.std.specs.Set.{is_member}
use Rattle.std.specs.FinMap.{get}
use Rattle.std.proofs.lemmas.Bool.{or_cases, eqb-true}
use Rattle.space_model.specs.Ages.{is_protected, is_protected_guard, outlived_by}
use Rattle.space_model.specs.Graph.{Item, item_of, with_item, names_of, children}
use Rattle.space_model.specs.Kept.{kept_with_unprotected}
use Rattle.space_model.specs.Pieces.{item_unprotected}
use Rattle.space_model.specs.Sound.{AreSlots, SoundNames, SoundStale, SoundKept, AreSoundItems}
use Rattle.space_model.specs.State.{State}
use Rattle.space_model.proofs.MapLaws.{some_get}
use Rattle.space_model.proofs.NamesKept.{item_of-with_item}
use Rattle.space_model.proofs.SlotLaws.{length-with_item}
use Rattle.space_model.proofs.ValuesKept.{AreSoundItems-with_item, item_sound}

module _ (s : State) (name : ℕ) (l : AreSlots s.graph s.heap.pages s.heap.place) (there : is_some (get s.heap.place name) ≡ true) where
  abbrev graph' : List Item
  graph' = with_item s.graph name (item_unprotected (item_of s.graph name))

  allocated : (q : ℕ) → is_some (get s.heap.place q) ≡ true → (0 < q) × (q ≤ length s.graph)
  allocated q p = let at = some_get (get s.heap.place q) p in l.allocated q at.0 at.1

  item_cases : (q : ℕ) → 0 < q →
      ((q ≡ name) × (item_of graph' q ≡ item_unprotected (item_of s.graph name))) ⊎ ((q ≢ name) × (item_of graph' q ≡ item_of s.graph q))
  item_cases q some_q = let b = allocated name there in item_of-with_item s.graph name (item_unprotected (item_of s.graph name)) q b.0 b.1 some_q

  values_same : (q : ℕ) → 0 < q → (item_of graph' q).values ≡ (item_of s.graph q).values
  values_same q some_q = ⊎_elim
      (λ (same, e). ap (λ (item : Item). item.values) e ∙ ap (λ x. (item_of s.graph x).values) (sym same))
      (λ (d, e). ap (λ (item : Item). item.values) e)
      (item_cases q some_q)

  pub unprotected_shape : (q : ℕ) → 0 < q → length (item_of graph' q).values ≡ length (item_of s.graph q).values
  unprotected_shape q some_q = ap length (values_same q some_q)

  pub unprotected_long : length graph' ≡ length s.graph
  unprotected_long = length-with_item s.graph name (item_unprotected (item_of s.graph name))

  pub children_same : (m : ℕ) → 0 < m → children graph' m ≡ children s.graph m
  unfolding children
  children_same m some_m = ap (flat_map names_of) (values_same m some_m)

  pub SoundNames-unprotected : SoundNames s.graph s.roots s.heap.place → SoundNames graph' s.roots s.heap.place
  SoundNames-unprotected h = record {
    children_present = λ m n p c. h.children_present m n p (sym (ap (λ names. is_member nat_eq names n) (children_same m (allocated m p).0)) ∙ c);
    roots_present = h.roots_present;
  }

  pub SoundStale-unprotected : SoundStale s.graph s.heap.place s.heap.left s.collector.stale s.collector.cursor →
      SoundStale graph' s.heap.place s.heap.left s.collector.stale s.collector.cursor
  SoundStale-unprotected h = record {
    fields = λ n i e.
        let f = h.fields n i e in
        record {
          present = f.present;
          child = f.child;
          holds = ap (λ values. slice_get values i) (values_same n (allocated n f.present).0) ∙ f.holds;
          was_left = f.was_left;
        };
    unvisited = h.unvisited;
  }

  pub AreSoundItems-unprotected : AreSoundItems s.graph → AreSoundItems graph'
  AreSoundItems-unprotected h =
      let item = item_sound s.graph name h in
      AreSoundItems-with_item s.graph name (item_unprotected (item_of s.graph name)) item.0 item.1 h

  -- the name is unprotected now, and every other one is as it was
  unprotected_now : (q : ℕ) → 0 < q → (q ≡ name) ⊎ (is_protected s.graph q ≡ false) → is_protected graph' q ≡ false
  unprotected_now q some_q this = ⊎_elim
      (λ (same, e). ap (λ (item : Item). is_protected_guard item.guard) e)
      (λ (d, e). ap (λ (item : Item). is_protected_guard item.guard) e ∙ ⊎_elim (λ same. absurd (d same)) (λ out. out) this)
      (item_cases q some_q)

  still_sound : SoundKept s.graph s.heap.place s.collector.kept → SoundKept graph' s.heap.place s.collector.kept
  still_sound h n m =
      let k = h n m in
      (k.0, unprotected_now n (allocated n k.0).0 (inr k.1))

  kept_sound : (add : Bool) (n : ℕ) → SoundKept s.graph s.heap.place s.collector.kept →
      is_member nat_eq (if add then name ∷ s.collector.kept else s.collector.kept) n ≡ true →
      (is_some (get s.heap.place n) ≡ true) × (is_protected graph' n ≡ false)
  kept_sound false n h m = still_sound h n m
  kept_sound true n h m = ⊎_elim
      (λ same.
      let e = eqb-true n name same in
      let p : is_some (get s.heap.place n) ≡ true = ap (λ x. is_some (get s.heap.place x)) e ∙ there in
      (p, unprotected_now n (allocated n p).0 (inl e)))
      (λ still. still_sound h n still)
      (or_cases _ _ m)

  pub SoundKept-unprotected : SoundKept s.graph s.heap.place s.collector.kept →
      SoundKept graph' s.heap.place (kept_with_unprotected s.graph s.collector.outlived name s.collector.kept)
  SoundKept-unprotected h n m = kept_sound (is_protected s.graph name && nat_le 2 (outlived_by s.collector.outlived name)) n h m
