-- What a marking of each kind leaves of remembered and kept marks, and which marked objects it didn't scan.
use Rattle.std.proofs.Common.{◌≡◌, ◌≢◌, ◌⊎◌, ℕ, ◌&&◌, not, true, false, true≢false, List, refl, sym, ap, ◌∙◌, ⊎_elim, inl, inr}
use Rattle.std.proofs.lemmas.Bool.{cases_Bool, and_parts, and_from, or_cases, or_left, or_right, not-true}
use Rattle.space_model.specs.declared.event.Kind.{Kind}
use Rattle.space_model.specs.declared.event.Kind.TheVariants.{Minor, Major, Full}
use Rattle.space_model.proofs.Reaching.{IsReached-start}
use Rattle.space_heap.specs.declared.colour.Colour.{Colour}
use Rattle.space_heap.specs.declared.colour.Colour.TheVariants.{White, Grey, Black}
use Rattle.space_heap.specs.planes.RecolouredMarks.{is_black}
use Rattle.space_heap.specs.HeapView.{HeapView}
use Rattle.space_heap.specs.Marking.{colour_of}
use Rattle.space_heap.specs.Objects.{is_object, object_of}
use Rattle.space_heap.specs.Slots.{ObjectView}
use Rattle.space_heap.specs.Generations.{is_old, is_protected_at}
use Rattle.space_heap.specs.Sweeping.{HasNoGone}
use Rattle.space_heap.proofs.Coherence.{occupied_from_colour}
use Rattle.space_heap.proofs.GenerationLaws.{object_of-old_marked}
use Rattle.space_heap.proofs.MarkingLaws.{object_of-unmarked}
use Rattle.space_heap.proofs.SettledLaws.{none_gone}
use Rattle.space_tracing.specs.Graph.{IsChild, IsStart, SameGraph}
use Rattle.space_tracing.specs.Marking.{IsMarked, IsKeeper, IsNoted}
use Rattle.space_tracing.specs.Scans.{is_aged_at, has_young_child}
use Rattle.space_tracing.proofs.Same.{SameGraph-refl, SameGraph-old_marked, SameGraph-unmarked, is_child-same, guard-same, aged-same, young_child-same}
use Rattle.space_major.specs.Incremental.{IsFinishScan, IsFinishScanned}
use Rattle.space_minor.specs.Minors.{IsOldOrKept, IsMinorScan, IsMinorScanned}
use Rattle.space_collector.specs.KindMarkings.{begun, IsReadyFor, IsScannedBy}
use Rattle.space_collector.specs.HeapVerdicts.{IsKindMarking}

-- how a marking begins: nothing but marks changes

begun_same : (kind : Kind) (v : HeapView) → SameGraph v (begun kind v)
begun_same Minor v = SameGraph-old_marked v
begun_same Major v = SameGraph-refl v
begun_same Full v = SameGraph-unmarked v

begun_remembered : (kind : Kind) (v : HeapView) (a : ℕ) → (object_of (begun kind v) a).remembered ≡ true → (object_of v a).remembered ≡ true
begun_remembered Minor v a e = sym (ap (λ (o : ObjectView). o.remembered) (object_of-old_marked v a)) ∙ e
begun_remembered Major v a e = e
begun_remembered Full v a e = absurd (true≢false (sym e ∙ ap (λ (o : ObjectView). o.remembered) (object_of-unmarked v a)))

-- only a whole marking takes kept marks away
begun_kept : (kind : Kind) (v : HeapView) (a : ℕ) → (object_of (begun kind v) a).kept ≡ true → (kind ≢ Full) × ((object_of v a).kept ≡ true)
begun_kept Minor v a e = (λ f. cc, sym (ap (λ (o : ObjectView). o.kept) (object_of-old_marked v a)) ∙ e)
begun_kept Major v a e = (λ f. cc, e)
begun_kept Full v a e = absurd (true≢false (sym e ∙ ap (λ (o : ObjectView). o.kept) (object_of-unmarked v a)))

kept_begun : (kind : Kind) (v : HeapView) (a : ℕ) → kind ≢ Full → (object_of v a).kept ≡ true → (object_of (begun kind v) a).kept ≡ true
kept_begun Minor v a other e = ap (λ (o : ObjectView). o.kept) (object_of-old_marked v a) ∙ e
kept_begun Major v a other e = e
kept_begun Full v a other e = absurd (other refl)

-- the end of a major marking goes on with the remembered marks that stand
begun_major : (kind : Kind) (v : HeapView) (a : ℕ) → kind ≡ Major → (object_of (begun kind v) a).remembered ≡ (object_of v a).remembered
begun_major Minor v a is = absurd (cc)
begun_major Major v a is = refl
begun_major Full v a is = absurd (cc)

-- what the marks are, in the words of the heap before
pub record KindNotes (old marked : HeapView) (kind : Kind) (IsScanned : ℕ → Type 0) : Type 0 where
  pub scanned : (a : ℕ) → IsScanned a → is_aged_at old a ≡ true → (object_of marked a).remembered ≡ has_young_child old a
  pub young : (a : ℕ) → is_aged_at old a ≡ false → (object_of marked a).remembered ≡ true → (object_of old a).remembered ≡ true
  pub other : (a : ℕ) → (IsScanned a → ⊥) → (object_of marked a).remembered ≡ true → (object_of old a).remembered ≡ true
  pub other_major : (a : ℕ) → kind ≡ Major → (IsScanned a → ⊥) → (object_of marked a).remembered ≡ (object_of old a).remembered
  pub kept_before : (a : ℕ) → kind ≢ Full → (object_of old a).kept ≡ true → (object_of marked a).kept ≡ true
  pub kept_now : (m n : ℕ) → IsScanned m → IsKeeper old m n → (object_of marked n).kept ≡ true
  pub kept_only : (n : ℕ) → (object_of marked n).kept ≡ true →
      ((kind ≢ Full) × ((object_of old n).kept ≡ true)) ⊎ ((m : ℕ) × IsScanned m × IsKeeper old m n)

module _ (old marked : HeapView) (kind : Kind) (IsScanned : ℕ → Type 0) (notes : IsNoted (begun kind old) marked IsScanned) where
  same : SameGraph old (begun kind old)
  same = begun_same kind old

  keeper_to : (m n : ℕ) → IsKeeper old m n → IsKeeper (begun kind old) m n
  keeper_to m n k = record {
    aged = aged-same old (begun kind old) m same ∙ k.aged;
    child = is_child-same old (begun kind old) m n same ∙ k.child;
    unprotected = guard-same old (begun kind old) n same ∙ k.unprotected;
  }

  keeper_back : (m n : ℕ) → IsKeeper (begun kind old) m n → IsKeeper old m n
  keeper_back m n k = record {
    aged = sym (aged-same old (begun kind old) m same) ∙ k.aged;
    child = sym (is_child-same old (begun kind old) m n same) ∙ k.child;
    unprotected = sym (guard-same old (begun kind old) n same) ∙ k.unprotected;
  }

  pub kind_notes : KindNotes old marked kind IsScanned
  kind_notes = record {
    scanned = λ a is aged.
        notes.remembered_aged a is (aged-same old (begun kind old) a same ∙ aged) ∙ young_child-same old (begun kind old) a same;
    young = λ a young r.
        begun_remembered kind old a (sym (notes.remembered_young a (aged-same old (begun kind old) a same ∙ young)) ∙ r);
    other = λ a out r. begun_remembered kind old a (sym (notes.remembered_other a out) ∙ r);
    other_major = λ a is out. notes.remembered_other a out ∙ begun_major kind old a is;
    kept_before = λ a not_full k. notes.kept_before a (kept_begun kind old a not_full k);
    kept_now = λ m n is k. notes.kept_now m n is (keeper_to m n k);
    kept_only = λ n k. ⊎_elim
        (λ before. inl (begun_kept kind old n before))
        (λ now. inr (now.0, now.1, keeper_back now.0 n now.2))
        (notes.kept_only n k);
  }

-- an old object that isn't remembered: a minor marking passes over it
pub record IsForgottenOld (v : HeapView) (a : ℕ) : Type 0 where
  pub old_object : is_old (object_of v a) ≡ true
  pub forgotten : (object_of v a).remembered ≡ false

-- a black object that the write barrier protects: the end of a major marking passes over it
pub record IsProtectedBlack (v : HeapView) (a : ℕ) : Type 0 where
  pub black : colour_of v a ≡ Black
  pub guard : is_protected_at v a ≡ true

-- a marked object that the marking doesn't scan; a whole one scans all
pub record IsPassedOver (old marked : HeapView) (kind : Kind) (roots stack : List ℕ) (a : ℕ) : Type 0 where
  pub why : ((kind ≡ Minor) × IsForgottenOld old a) ⊎ ((kind ≡ Major) × IsProtectedBlack old a)
  pub unscanned : IsScannedBy kind old marked roots stack a → ⊥

-- what is kept or remembered is a reason to be black from the start
pub minor_scan_held : (v : HeapView) (a : ℕ) → IsMinorScan v a → IsOldOrKept v a
minor_scan_held v a r = ⊎_elim (λ l. inl (and_parts (is_old (object_of v a)) _ l).0) (λ k. inr k) (or_cases _ _ r)

module _ (old marked : HeapView) (roots stack : List ℕ) (a : ℕ) where
  unscanned_minor : (object_of old a).kept ≡ false → is_old (object_of old a) ≡ true → (object_of old a).remembered ≡ false →
      IsMinorScanned old marked a → ⊥
  unscanned_minor free is forgotten scanned = ⊎_elim
      (λ start. ⊎_elim
      (λ l. true≢false (sym (and_parts (is_old (object_of old a)) _ l).1 ∙ forgotten))
      (λ k. true≢false (sym k ∙ free))
      (or_cases (is_old (object_of old a) && (object_of old a).remembered) (object_of old a).kept start))
      (λ new. new.1 (inl is))
      scanned

  minor_cases : IsMarked marked a → IsMinorScanned old marked a ⊎ IsPassedOver old marked Minor roots stack a
  minor_cases m = ⊎_elim
      (λ k. inl (inl (or_right (is_old (object_of old a) && (object_of old a).remembered) _ k)))
      (λ free. ⊎_elim
      (λ is. ⊎_elim
      (λ r. inl (inl (or_left (is_old (object_of old a) && (object_of old a).remembered) _ (and_from _ _ is r))))
      (λ forgotten. inr (record {
        why = inl (refl, record { old_object = is; forgotten = forgotten });
        unscanned = unscanned_minor free is forgotten;
      }))
      (cases_Bool (object_of old a).remembered))
      (λ young. inl (inr (m, λ held. ⊎_elim (λ is. true≢false (sym is ∙ young)) (λ k. true≢false (sym k ∙ free)) held)))
      (cases_Bool (is_old (object_of old a))))
      (cases_Bool (object_of old a).kept)

-- whether a colour is black, as a test
pub black_cases : (colour : Colour) → (colour ≡ Black) ⊎ (colour ≢ Black)
black_cases White = inr (λ e. cc)
black_cases Grey = inr (λ e. cc)
black_cases Black = inl refl

is_black_from : (colour : Colour) → colour ≡ Black → is_black colour ≡ true
is_black_from White e = absurd (cc)
is_black_from Grey e = absurd (cc)
is_black_from Black e = refl

black_from : (colour : Colour) → is_black colour ≡ true → colour ≡ Black
black_from White e = absurd (cc)
black_from Grey e = absurd (cc)
black_from Black e = refl

-- what the end of a major marking scans again

pub finish_object : (v : HeapView) (a : ℕ) → IsFinishScan v a → is_object v a ≡ true
finish_object v a e = (and_parts (is_object v a) _ e).0

pub finish_black : (v : HeapView) (a : ℕ) → IsFinishScan v a → colour_of v a ≡ Black
finish_black v a e =
    black_from (colour_of v a) (and_parts (is_black (colour_of v a)) _ (and_parts (is_object v a) _ e).1).0

pub finish_unprotected : (v : HeapView) (a : ℕ) → IsFinishScan v a → is_protected_at v a ≡ false
finish_unprotected v a e = not-true _ (and_parts (is_black (colour_of v a)) _ (and_parts (is_object v a) _ e).1).1

finish_from : (v : HeapView) (a : ℕ) → is_object v a ≡ true → colour_of v a ≡ Black → is_protected_at v a ≡ false → IsFinishScan v a
finish_from v a is black free = and_from _ _ is (and_from _ _ (is_black_from (colour_of v a) black) (ap not free))

pub black_marked : (v : HeapView) (a : ℕ) → colour_of v a ≡ Black → IsMarked v a
black_marked v a e f = absurd (cc)

module _ (old marked : HeapView) (roots stack : List ℕ) (clean : HasNoGone old) (a : ℕ) where
  unscanned_major : colour_of old a ≡ Black → is_protected_at old a ≡ true → IsFinishScanned old marked a → ⊥
  unscanned_major black guard scanned = ⊎_elim
      (λ again. true≢false (sym guard ∙ finish_unprotected old a again))
      (λ new. new.1 black)
      scanned

  major_cases : IsMarked marked a → IsFinishScanned old marked a ⊎ IsPassedOver old marked Major roots stack a
  major_cases m = ⊎_elim
      (λ black. ⊎_elim
      (λ guard. inr (record { why = inr (refl, record { black = black; guard = guard }); unscanned = unscanned_major black guard }))
      (λ free.
      let is = sym (none_gone old a clean) ∙ occupied_from_colour old a (black_marked old a black) in
      inl (inl (finish_from old a is black free)))
      (cases_Bool (is_protected_at old a)))
      (λ other. inl (inr (m, other)))
      (black_cases (colour_of old a))

-- a marked object was scanned, or passed over
pub scan_cases : (old marked : HeapView) (kind : Kind) (roots stack : List ℕ) (scans : ℕ) → IsKindMarking old marked kind roots stack scans →
    HasNoGone old → (a : ℕ) → IsMarked marked a → IsScannedBy kind old marked roots stack a ⊎ IsPassedOver old marked kind roots stack a
scan_cases old marked Minor roots stack scans c clean a m = minor_cases old marked roots stack a m
scan_cases old marked Major roots stack scans c clean a m = major_cases old marked roots stack clean a m
scan_cases old marked Full roots stack scans c clean a m = inl ((c.marks tt a).0 m)

-- what is scanned is marked
pub scanned_marked : (old marked : HeapView) (kind : Kind) (roots stack : List ℕ) (scans : ℕ) → IsKindMarking old marked kind roots stack scans →
    IsReadyFor kind old → (a : ℕ) → IsScannedBy kind old marked roots stack a → IsMarked marked a
scanned_marked old marked Minor roots stack scans c ready a is =
    ⊎_elim (λ start. (c.marks ready a).1 (inl (minor_scan_held old a start))) (λ new. new.0) is
scanned_marked old marked Major roots stack scans c ready a is = ⊎_elim
    (λ again.
    let before = black_marked old a (finish_black old a again) in
    (c.marks ready a).1 (IsReached-start (IsChild old) (λ n. IsMarked old n ⊎ IsStart old roots stack n) a (inl before)))
    (λ new. new.0)
    is
scanned_marked old marked Full roots stack scans c ready a is = (c.marks tt a).1 is

-- and it is an object, where none is gone
pub marked_object : (old marked : HeapView) → SameGraph old marked → HasNoGone old → (a : ℕ) → IsMarked marked a → is_object old a ≡ true
marked_object old marked same clean a m = sym (none_gone old a clean) ∙ sym (same.standing a) ∙ occupied_from_colour marked a m
