-- A move keeps states sound.
use Rattle.std.proofs.Common.{◌≡◌, ◌≢◌, ◌⊎◌, ℕ, suc, ◌+◌, ◌-◌, ◌≤◌, ◌&&◌, cond, true, List, [], ◌∷◌, ◌++◌, nat_eq, refl, sym, ap, ◌∙◌, subst, arith, Option, None, Some, ⊎_elim, inl, inr}
use Rattle.std.specs.Prelude.{is_some, slice_get}
use Rattle.std.specs.List.{flat_map}
use Rattle.std.specs.Set.{is_member}
use Rattle.std.specs.FinMap.{get, insert, keys}
use Rattle.std.proofs.lemmas.Bool.{cases_Bool, cases_eq, false≢true, or_cases, or_left, or_right, and_parts, eqb-true, eq-eqb}
use Rattle.std.proofs.lemmas.Bool.Decides.{nat_tests}
use Rattle.std.proofs.lemmas.List.Folds.{list_any-append}
use Rattle.space_model.specs.declared.phase.Phase.TheVariants.{Moving}
use Rattle.space_model.specs.declared.value.Value.{Value}
use Rattle.space_model.specs.declared.value.Value.TheVariants.{Nil, Small, Name}
use Rattle.space_model.specs.Compaction.{IsNextMove, is_name, fields_holding, pairs_holding, moved, Moves1}
use Rattle.space_model.specs.Graph.{Item, item_of}
use Rattle.space_model.specs.Places.{pool_of, IsFree}
use Rattle.space_model.specs.Sound.{Sound, AreSlots, SoundLayout, SoundCorpses, SoundLeft, SoundStale, SoundMoves, SoundNames, SoundFinals, SoundQueue}
use Rattle.space_model.specs.State.{State}
use Rattle.space_model.specs.StoredWords.{is_stale}
use Rattle.space_model.proofs.AfterPieces.{SoundHeap, after_piece}
use Rattle.space_model.proofs.MapLaws.{get-insert_name, present-insert, present-new, some_get}
use Rattle.space_model.proofs.ReachedLaws.{member-keys}
use Rattle.space_model.proofs.SlotLaws.{AreSlots-insert}
use Rattle.space_model.proofs.SweepKept.{no_corpse}
use Rattle.space_model.proofs.TablesKept.{AreSoundEntries-present}

some_is : (o : Option ℕ) (a b : ℕ) → o ≡ Some a → o ≡ Some b → a ≡ b
some_is o a b e f = let both : Some a ≡ Some b = sym e ∙ f in cc

none_some : (o : Option ℕ) (a : ℕ) → o ≡ None → o ≡ Some a → ⊥
none_some o a e f = let both : None ≡ Some a = sym e ∙ f in cc

-- the next move of a state
module _ (s : State) (name from to : ℕ) (m : IsNextMove s name from to) where
  -- where it leads the name may stand
  free_to : IsFree s (pool_of s.graph name) to
  free_to = subst (λ pool. IsFree s pool to) (sym m.movable.its) m.least.free

  there : is_some (get s.heap.place name) ≡ true
  there = ap is_some m.movable.at

  -- the name is at the new address, and each other one where it was
  pub placed_at : (n a : ℕ) → get (insert s.heap.place name to) n ≡ Some a → ((n ≡ name) × (a ≡ to)) ⊎ ((n ≢ name) × (get s.heap.place n ≡ Some a))
  placed_at n a e =
      let g = get-insert_name s.heap.place name to n in
      ⊎_elim
      (λ same. inl (same, grind (arith, nat_tests, g, e, same)))
      (λ other. inr (other, grind (arith, nat_tests, g, e, other)))
      (cases_eq n name)

  -- it left the old address
  pub left_at : (n a : ℕ) → get (insert s.heap.left name from) n ≡ Some a → ((n ≡ name) × (a ≡ from)) ⊎ ((n ≢ name) × (get s.heap.left n ≡ Some a))
  left_at n a e =
      let g = get-insert_name s.heap.left name from n in
      ⊎_elim
      (λ same. inl (same, grind (arith, nat_tests, g, e, same)))
      (λ other. inr (other, grind (arith, nat_tests, g, e, other)))
      (cases_eq n name)

  -- the same names are present
  pub present-moved : (n : ℕ) → is_some (get (insert s.heap.place name to) n) ≡ is_some (get s.heap.place n)
  present-moved n =
      let g = get-insert_name s.heap.place name to n in
      ⊎_elim
      (λ same. let before : is_some (get s.heap.place n) ≡ true = ap (λ x. is_some (get s.heap.place x)) same ∙ there in
      present-new s.heap.place name to n same ∙ sym before)
      (λ other. grind (arith, nat_tests, g, other))
      (cases_eq n name)

  SoundLayout-moved : SoundLayout s.graph s.heap.place s.heap.pages s.heap.limit → SoundLayout s.graph (insert s.heap.place name to) s.heap.pages s.heap.limit
  SoundLayout-moved h =
      let b = h.placed.allocated name from m.movable.at in
      record {
        placed = AreSlots-insert s.graph s.heap.pages s.heap.place name to b.0 b.1 free_to.at free_to.no_place h.placed;
        limited = h.limited;
      }

  SoundCorpses-moved : ((n a : ℕ) → get s.heap.corpses n ≡ Some a → ⊥) →
      SoundCorpses s.graph s.heap.place s.heap.corpses s.heap.pages s.heap.unswept →
      SoundCorpses s.graph (insert s.heap.place name to) s.heap.corpses s.heap.pages s.heap.unswept
  SoundCorpses-moved none h = record {
    slots = h.slots;
    gone = λ n a e. absurd (none n a e);
    apart = λ n k a e c. none k a c;
    on_unswept = h.on_unswept;
  }

  SoundLeft-moved : ((n a : ℕ) → get s.heap.corpses n ≡ Some a → ⊥) → AreSlots s.graph s.heap.pages s.heap.place →
      SoundLeft s.graph s.heap.place s.heap.corpses s.heap.left s.heap.pages →
      SoundLeft s.graph (insert s.heap.place name to) s.heap.corpses (insert s.heap.left name from) s.heap.pages
  SoundLeft-moved none placed h =
      let b = placed.allocated name from m.movable.at in
      record {
        slots = AreSlots-insert s.graph s.heap.pages s.heap.left name from b.0 b.1 (placed.at name from m.movable.at)
            (λ k e. h.apart name k from m.movable.at e) h.slots;
        present = λ n e. let a = some_get _ e in present-moved n ∙ ⊎_elim
            (λ (same, _). ap (λ x. is_some (get s.heap.place x)) same ∙ there)
            (λ (other, before). h.present n (ap is_some before))
            (left_at n a.0 a.1);
        apart = λ n k a e c. ⊎_elim
            (λ (same, at). ⊎_elim
            (λ (_, is). let below = m.above in omega arith)
            (λ (_, before). free_to.not_left k (ap (λ x. get s.heap.left k) at ∙ before ∙ ap Some at))
            (left_at k a c))
            (λ (other, at). ⊎_elim
            (λ (_, is). other (placed.once n name a at (m.movable.at ∙ ap Some (sym is))))
            (λ (_, before). h.apart n k a at before)
            (left_at k a c))
            (placed_at n a e);
        apart_corpses = λ n k a e c. none n a e;
      }

  SoundNames-moved : SoundNames s.graph s.roots s.heap.place → SoundNames s.graph s.roots (insert s.heap.place name to)
  SoundNames-moved h = record {
    children_present = λ p n e c. present-moved n ∙ h.children_present p n (sym (present-moved p) ∙ e) c;
    roots_present = λ n k. present-moved n ∙ h.roots_present n k;
  }

  SoundFinals-moved : SoundFinals s.heap.place s.heap.corpses s.tables.finals → SoundFinals (insert s.heap.place name to) s.heap.corpses s.tables.finals
  SoundFinals-moved h n k = ⊎_elim (λ p. inl (present-moved n ∙ p)) (λ lies. inr lies) (h n k)

  SoundQueue-moved : SoundQueue s.graph s.heap.place s.heap.corpses s.tables.queue →
      SoundQueue s.graph (insert s.heap.place name to) s.heap.corpses s.tables.queue
  SoundQueue-moved h n k =
      let before = h n k in
      record {
        allocated = before.allocated;
        gone = ⊎_elim
            (λ same. absurd (none_some (get s.heap.place name) from (ap (get s.heap.place) (sym same) ∙ before.gone) m.movable.at))
            (λ other. let g = get-insert_name s.heap.place name to n in let gone = before.gone in grind (arith, nat_tests, g, other, gone))
            (cases_eq n name);
        freed = before.freed;
      }

  -- a name that left an address before doesn't move again
  pub moves_once : s.collector.phase ≡ Moving → SoundMoves s → is_some (get s.heap.left name) ≡ true → ⊥
  moves_once moves h left = let b = h moves name from to left m.movable.at free_to in let c = m.above in omega arith

  -- what is free after the move was free before it
  free_before : s.collector.phase ≡ Moving → SoundMoves s → (pool free : ℕ) → IsFree (moved s name from to) pool free → IsFree s pool free
  free_before moves h pool free f = record {
    at = f.at;
    swept = f.swept;
    no_place = λ k e. ⊎_elim
        (λ same. f.not_left name (get-insert_name s.heap.left name from name
        ∙ ap (λ b. cond b (Some from) (get s.heap.left name)) (eq-eqb name name refl)
        ∙ ap Some (some_is (get s.heap.place name) from free m.movable.at (ap (get s.heap.place) (sym same) ∙ e))))
        (λ other. let g = get-insert_name s.heap.place name to k in f.no_place k (grind (arith, nat_tests, g, other, e)))
        (cases_eq k name);
    no_corpse = f.no_corpse;
    not_left = λ k e. ⊎_elim
        (λ same. moves_once moves h (ap (λ x. is_some (get s.heap.left x)) (sym same) ∙ ap is_some e))
        (λ other. let g = get-insert_name s.heap.left name from k in f.not_left k (grind (arith, nat_tests, g, other, e)))
        (cases_eq k name);
  }

  SoundMoves-moved : SoundMoves s → SoundMoves (moved s name from to)
  SoundMoves-moved h moves n place free left at f =
      let before = free_before moves h (pool_of s.graph n) free f in
      ⊎_elim
      (λ (same, is).
      let least = m.least.least free (subst (λ pool. IsFree s pool free) (ap (pool_of s.graph) same ∙ m.movable.its) before) in
      omega arith)
      (λ (other, stood).
      let a = some_get _ left in
      ⊎_elim
      (λ (same, _). absurd (other same))
      (λ (_, left_before). h moves n place free (ap is_some left_before) stood before)
      (left_at n a.0 a.1))
      (placed_at n place at)

-- the fields of a list of values that hold a name
holds : (name parent index : ℕ) (values : List Value) (p i : ℕ) → is_stale (fields_holding name parent index values) p i ≡ true →
    (p ≡ parent) × (index ≤ i) × (slice_get values (i - index) ≡ Some (Name name))
holds name parent index [] p i e = absurd (false≢true e)
holds name parent index (value ∷ values) p i e = ⊎_elim
    (λ t. ⊎_elim
    (λ k. let a = and_parts (nat_eq parent p) (nat_eq index i) k in let f = eqb-true index i a.1 in
    (sym (eqb-true parent p a.0), omega arith, ap (slice_get (value ∷ values)) (let z : i - index ≡ 0 = omega arith in z) ∙ ap Some (named value t)))
    (λ k. later (holds name parent (index + 1) values p i k))
    (or_cases (nat_eq parent p && nat_eq index i) _ (rw t at e)))
    (λ f. later (holds name parent (index + 1) values p i (rw f at e)))
    (cases_Bool (is_name name value))
  where
    named : (value : Value) → is_name name value ≡ true → value ≡ Name name
    named Nil t = absurd (false≢true t)
    named (Small number) t = absurd (false≢true t)
    named (Name other) t = ap Name (eqb-true other name t)

    later : (p ≡ parent) × (index + 1 ≤ i) × (slice_get values (i - (index + 1)) ≡ Some (Name name)) →
        (p ≡ parent) × (index ≤ i) × (slice_get (value ∷ values) (i - index) ≡ Some (Name name))
    later (a, b, c) = (a, omega arith, ap (slice_get (value ∷ values)) (let z : i - index ≡ suc (i - (index + 1)) = omega arith in z) ∙ c)

-- those of some names
holding : (graph : List Item) (name : ℕ) (names : List ℕ) (p i : ℕ) →
    is_stale (flat_map (λ parent. fields_holding name parent 0 (item_of graph parent).values) names) p i ≡ true →
    (is_member nat_eq names p ≡ true) × (slice_get (item_of graph p).values i ≡ Some (Name name))
holding graph name [] p i e = absurd (false≢true e)
holding graph name (n ∷ names) p i e = ⊎_elim
    (λ k. let h = holds name n 0 (item_of graph n).values p i k in (
      or_left _ _ (eq-eqb p n h.0),
      ap (λ x. slice_get (item_of graph x).values i) h.0 ∙ ap (slice_get (item_of graph n).values) (let z : i ≡ i - 0 = omega arith in z) ∙ h.2,
    ))
    (λ k. let r = holding graph name names p i k in (or_right (nat_eq p n) _ r.0, r.1))
    (or_cases _ _ (sym (list_any-append (λ (pair : ℕ × ℕ). nat_eq pair.0 p && nat_eq pair.1 i) (fields_holding name n 0 (item_of graph n).values)
    (flat_map (λ parent. fields_holding name parent 0 (item_of graph parent).values) names)) ∙ e))

-- the stale fields after a move are those from before and those that hold the name
pub stale_cases : (s : State) (name n i : ℕ) → is_stale (pairs_holding s.graph s.heap.place name ++ s.collector.stale) n i ≡ true →
    ((is_some (get s.heap.place n) ≡ true) × (slice_get (item_of s.graph n).values i ≡ Some (Name name))) ⊎ (is_stale s.collector.stale n i ≡ true)
unfolding pairs_holding
stale_cases s name n i e = ⊎_elim
    (λ now. let r = holding s.graph name (keys s.heap.place) n i now in inl (sym (member-keys s.heap.place n) ∙ r.0, r.1))
    (λ before. inr before)
    (or_cases _ _
    (sym (list_any-append (λ (pair : ℕ × ℕ). nat_eq pair.0 n && nat_eq pair.1 i) (pairs_holding s.graph s.heap.place name) s.collector.stale) ∙ e))

SoundStale-moved : (s : State) (name from to : ℕ) → IsNextMove s name from to → s.collector.cursor ≡ 0 →
    SoundStale s.graph s.heap.place s.heap.left s.collector.stale s.collector.cursor →
    SoundStale s.graph (insert s.heap.place name to) (insert s.heap.left name from) (pairs_holding s.graph s.heap.place name ++ s.collector.stale)
    s.collector.cursor
SoundStale-moved s name from to m cursor h = record {
  fields = λ n i e. ⊎_elim
      (λ (there, holds). record {
        present = present-moved s name from to m n ∙ there;
        child = name;
        holds = holds;
        was_left = present-new s.heap.left name from name refl;
      })
      (λ before. let f = h.fields n i before in record {
        present = present-moved s name from to m n ∙ f.present;
        child = f.child;
        holds = f.holds;
        was_left = present-insert s.heap.left name from f.child f.was_left;
      })
      (stale_cases s name n i e);
  unvisited = λ n i a e at. omega (arith, cursor);
}

moved_heap : (s : State) (name from to : ℕ) → IsNextMove s name from to → s.collector.phase ≡ Moving → Sound s →
    SoundHeap s.graph (moved s name from to).heap (moved s name from to).collector
moved_heap s name from to m moves h =
    let none : (n a : ℕ) → get s.heap.corpses n ≡ Some a → ⊥ =
    no_corpse s.graph s.heap.place s.heap.corpses s.collector.phase s.heap.pages s.heap.unswept h.corpses h.sweep (λ e. cc) in
    record {
      layout = SoundLayout-moved s name from to m h.layout;
      corpses = SoundCorpses-moved s name from to m none h.corpses;
      sweep = h.sweep;
      used = λ a b. absurd (a moves);
      resting = λ a b. absurd (a moves);
      cursor = h.cursor;
      left = SoundLeft-moved s name from to m none h.layout.placed h.left;
      stale = SoundStale-moved s name from to m (h.cursor (λ e. cc)) h.stale;
      kept = λ n k. let kept = h.kept n k in (present-moved s name from to m n ∙ kept.0, kept.1);
      outlived = h.outlived;
    }

pub Sound-moved : (s t : State) (name from to : ℕ) → s.collector.phase ≡ Moving → Moves1 s name from to t → Sound s → Sound t
Sound-moved s t name from to moves step h =
    let m = step.next in
    after_piece (moved s name from to) t step.after (record {
      heap = moved_heap s name from to m moves h;
      moves = SoundMoves-moved s name from to m h.moves;
      names = SoundNames-moved s name from to m h.names;
      items = h.items;
      roots = h.roots;
      tables = record {
        ids = h.ids;
        weak = AreSoundEntries-present s.heap.place (insert s.heap.place name to) s.tables.weak (present-insert s.heap.place name to) h.weak;
        finals = SoundFinals-moved s name from to m h.finals;
        queue = SoundQueue-moved s name from to m h.queue;
      };
      once = h.moments.once;
      marking = λ e. absurd (cc);
    })
