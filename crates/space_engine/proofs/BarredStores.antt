-- What the write barrier changes besides the field that is written: marks alone, by its rules; so the heap's half holds after it.
use Rattle.std.proofs.Common.{◌≡◌, ◌≢◌, ◌⊎◌, ℕ, Bool, true, false, true≢false, not, ◌&&◌, List, [], ◌∷◌, ◌++◌, subst, refl, sym, ap, ◌∙◌, if◌then◌else◌, ⊎_elim, inl, inr}
use Rattle.std.proofs.lemmas.Bool.{cases_Bool, cases_eq, and_parts, and_from, false≢true, not-true, cond-true}
use Rattle.space_model.specs.declared.phase.Phase.{Phase}
use Rattle.space_model.specs.declared.phase.Phase.TheVariants.{Idle, Marking, Sweeping, Moving, Fixing}
use Rattle.space_model.specs.Graph.{Item}
use Rattle.space_model.specs.State.{Heap, Collector, Counters}
use Rattle.space_heap.specs.declared.colour.Colour.{Colour}
use Rattle.space_heap.specs.declared.colour.Colour.TheVariants.{White, Grey, Black}
use Rattle.space_heap.specs.Slots.{ObjectView}
use Rattle.space_heap.specs.HeapView.{HeapView}
use Rattle.space_heap.specs.Objects.{is_occupied, is_object, object_of, written}
use Rattle.space_heap.specs.Marking.{colour_of, is_white, greyed}
use Rattle.space_heap.specs.Generations.{is_old, is_aged, remembered_as, is_protected_at}
use Rattle.space_heap.specs.planes.RecolouredMarks.{is_black}
use Rattle.space_heap.proofs.MarkingLaws.{stays-recoloured, colour_of-recoloured_same, colour_of-recoloured_other, White-from_is_white}
use Rattle.space_heap.proofs.ObjectLaws.{stays, occupied_from_object, rest-with_object, is_occupied-with_object, object_of-with_object_same, object_of-with_object_other}
use Rattle.space_barrier.specs.Barrier.{is_marking, remembered_for, greyed_for, barred, stored}
use Rattle.space_barrier.proofs.StoreLaws.{stored_barred, stored_plain}
use Rattle.space_tracing.specs.Graph.{SameGraph}
use Rattle.space_tracing.specs.Marking.{IsMarked}
use Rattle.space_tracing.proofs.Same.{SameGraph-refl, SameGraph-then, SameGraph-with_object, SameGraph-recoloured}
use Rattle.space_engine.specs.Stands.{HeapRepresents}
use Rattle.space_engine.proofs.SameHeaps.{heap_same}

-- only marks changed: the object at a may be remembered for its child, and objects may be grey in a marking
pub record IsBarred (w z : HeapView) (a child : ℕ) : Type 0 where
  pub same : SameGraph w z
  pub kept : (b : ℕ) → (object_of z b).kept ≡ (object_of w b).kept
  pub remembered : (b : ℕ) → ((object_of z b).remembered ≡ (object_of w b).remembered) ⊎
      ((b ≡ a) × (is_aged (object_of w a) ≡ true) × (is_old (object_of w child) ≡ false))
  pub still : (b : ℕ) → (object_of w b).remembered ≡ true → (object_of z b).remembered ≡ true
  pub grey : w.phase ≢ Marking → z.grey ≡ w.grey
  pub colours : w.phase ≢ Marking → (b : ℕ) → colour_of z b ≡ colour_of w b
  -- in a marking too the same objects are black, what was marked is, and what is marked now and wasn't is the child
  pub black : (b : ℕ) → colour_of z b ≡ Black → colour_of w b ≡ Black
  pub still_black : (b : ℕ) → colour_of w b ≡ Black → colour_of z b ≡ Black
  pub marked : (b : ℕ) → IsMarked w b → IsMarked z b
  pub greyed : (b : ℕ) → IsMarked z b → IsMarked w b ⊎ (b ≡ child)

unbarred : (w : HeapView) (a child : ℕ) → IsBarred w w a child
unbarred w a child = record {
  same = SameGraph-refl w;
  kept = λ b. refl;
  remembered = λ b. inl refl;
  still = λ b e. e;
  grey = λ phase. refl;
  colours = λ phase b. refl;
  black = λ b e. e;
  still_black = λ b e. e;
  marked = λ b m. m;
  greyed = λ b m. inl m;
}

-- the object at a is remembered
module _ (w : HeapView) (a child : ℕ) (there : is_occupied w a ≡ true) where
  abbrev o : ObjectView
  o = let o : ObjectView = object_of w a in record o { remembered = true }

  abbrev z : HeapView
  z = remembered_as w a true

  marked_here : (b : ℕ) → b ≡ a → (object_of z b).remembered ≡ true
  marked_here b same = ap (λ b. (object_of z b).remembered) same ∙ ap (λ (o : ObjectView). o.remembered) (object_of-with_object_same w a o there)

  marked_other : (b : ℕ) → b ≢ a → (object_of z b).remembered ≡ (object_of w b).remembered
  marked_other b other = ap (λ (o : ObjectView). o.remembered) (object_of-with_object_other w a o b other)

  colour_kept : (b : ℕ) → colour_of z b ≡ colour_of w b
  colour_kept b = stays (λ (o : ObjectView). o.colour) w a o b refl

  remembered_by : is_aged (object_of w a) ≡ true → is_old (object_of w child) ≡ false → IsBarred w z a child
  remembered_by aged young = record {
    same = SameGraph-with_object w a o refl;
    kept = λ b. stays (λ (o : ObjectView). o.kept) w a o b refl;
    remembered = λ b. ⊎_elim (λ same. inr (same, aged, young)) (λ other. inl (marked_other b other)) (cases_eq b a);
    still = λ b e. ⊎_elim (λ same. marked_here b same) (λ other. marked_other b other ∙ e) (cases_eq b a);
    grey = λ phase. (rest-with_object w a o).grey;
    colours = λ phase b. colour_kept b;
    black = λ b e. sym (colour_kept b) ∙ e;
    still_black = λ b e. colour_kept b ∙ e;
    marked = λ b m e. m (sym (colour_kept b) ∙ e);
    greyed = λ b m. inl (λ e. m (colour_kept b ∙ e));
  }

  remembered_if : (test : Bool) → (is_aged (object_of w a) && not (is_old (object_of w child))) ≡ test →
      IsBarred w (if test then remembered_as w a true else w) a child
  remembered_if true e =
      let both = and_parts (is_aged (object_of w a)) (not (is_old (object_of w child))) e in
      remembered_by both.0 (not-true (is_old (object_of w child)) both.1)
  remembered_if false e = unbarred w a child

  pub remembered_barred : IsBarred w (remembered_for w a child) a child
  remembered_barred = remembered_if (is_aged (object_of w a) && not (is_old (object_of w child))) refl

  -- and it is where it has age 2 or more and its child isn't old
  pub remembered_surely : is_aged (object_of w a) ≡ true → is_old (object_of w child) ≡ false → (object_of (remembered_for w a child) a).remembered ≡ true
  remembered_surely aged young =
      ap (λ (z : HeapView). (object_of z a).remembered)
      (cond-true (is_aged (object_of w a) && not (is_old (object_of w child))) (remembered_as w a true) w (and_from _ _ aged (ap not young)))
      ∙ marked_here a refl

phase_is_marking : (phase : Phase) → is_marking phase ≡ true → phase ≡ Marking
phase_is_marking Idle e = absurd (false≢true e)
phase_is_marking Marking e = refl
phase_is_marking Sweeping e = absurd (false≢true e)
phase_is_marking Moving e = absurd (false≢true e)
phase_is_marking Fixing e = absurd (false≢true e)

black_from : (c : Colour) → is_black c ≡ true → c ≡ Black
black_from White e = absurd (false≢true e)
black_from Grey e = absurd (false≢true e)
black_from Black e = refl

not_black : (c : Colour) → is_white c ≡ true → is_black c ≡ false
not_black White e = refl
not_black Grey e = absurd (false≢true e)
not_black Black e = absurd (false≢true e)

not_white : (c : Colour) → is_white c ≡ false → c ≢ White
not_white c e same = true≢false (sym (ap is_white same) ∙ e)

-- the child, which is white, is grey, in a marking
module _ (u : HeapView) (a child : ℕ) where
  abbrev grey_list : List ℕ
  grey_list = u.grey ++ child ∷ []

  -- it was not black, and isn't
  blacks_same : is_white (colour_of u child) ≡ true → (b : ℕ) → is_black (colour_of (greyed u child) b) ≡ is_black (colour_of u b)
  blacks_same white b = stays-recoloured u child Grey grey_list (λ (o : ObjectView). is_black o.colour) b (sym (not_black (colour_of u child) white))

  greyed_by : u.phase ≡ Marking → is_white (colour_of u child) ≡ true → IsBarred u (greyed u child) a child
  greyed_by at white = record {
    same = SameGraph-recoloured u child Grey grey_list;
    kept = λ b. stays-recoloured u child Grey grey_list (λ (o : ObjectView). o.kept) b refl;
    remembered = λ b. inl (stays-recoloured u child Grey grey_list (λ (o : ObjectView). o.remembered) b refl);
    still = λ b e. stays-recoloured u child Grey grey_list (λ (o : ObjectView). o.remembered) b refl ∙ e;
    grey = λ phase. absurd (phase at);
    colours = λ phase b. absurd (phase at);
    black = λ b e. black_from (colour_of u b) (sym (blacks_same white b) ∙ ap is_black e);
    still_black = λ b e. black_from (colour_of (greyed u child) b) (blacks_same white b ∙ ap is_black e);
    marked = λ b m. ⊎_elim
        (λ same. absurd (m (ap (colour_of u) same ∙ White-from_is_white (colour_of u child) white)))
        (λ other e. m (sym (colour_of-recoloured_other u child Grey grey_list b other) ∙ e))
        (cases_eq b child);
    greyed = λ b m. ⊎_elim
        (λ same. inr same)
        (λ other. inl (λ e. m (colour_of-recoloured_other u child Grey grey_list b other ∙ e)))
        (cases_eq b child);
  }

  greyed_if : (test : Bool) → (is_marking u.phase && (is_black (colour_of u a) && is_white (colour_of u child))) ≡ test →
      IsBarred u (if test then greyed u child else u) a child
  greyed_if true e =
      let both = and_parts (is_marking u.phase) (is_black (colour_of u a) && is_white (colour_of u child)) e in
      greyed_by (phase_is_marking u.phase both.0) (and_parts (is_black (colour_of u a)) (is_white (colour_of u child)) both.1).1
  greyed_if false e = unbarred u a child

  greyed_barred : IsBarred u (greyed_for u a child) a child
  greyed_barred = greyed_if (is_marking u.phase && (is_black (colour_of u a) && is_white (colour_of u child))) refl

  -- no object is remembered by it
  same_if : (test : Bool) (b : ℕ) → (object_of (if test then greyed u child else u) b).remembered ≡ (object_of u b).remembered
  same_if true b = stays-recoloured u child Grey grey_list (λ (o : ObjectView). o.remembered) b refl
  same_if false b = refl

  greyed_remembers : (b : ℕ) → (object_of (greyed_for u a child) b).remembered ≡ (object_of u b).remembered
  greyed_remembers = same_if (is_marking u.phase && (is_black (colour_of u a) && is_white (colour_of u child)))

  -- the child of a black object is marked then
  greyed_surely : u.phase ≡ Marking → colour_of u a ≡ Black → is_occupied u child ≡ true → IsMarked (greyed_for u a child) child
  greyed_surely at black there = ⊎_elim
      (λ (white : is_white (colour_of u child) ≡ true).
      let test : (is_marking u.phase && (is_black (colour_of u a) && is_white (colour_of u child))) ≡ true =
      and_from _ _ (ap is_marking at) (and_from _ _ (ap is_black black) white) in
      let grey : colour_of (greyed_for u a child) child ≡ Grey =
      ap (λ (z : HeapView). colour_of z child) (cond-true _ (greyed u child) u test) ∙ colour_of-recoloured_same u child Grey grey_list there in
      not_white (colour_of (greyed_for u a child) child) (ap is_white grey))
      (λ (marked : is_white (colour_of u child) ≡ false).
      (greyed_barred).marked child (not_white (colour_of u child) marked))
      (cases_Bool (is_white (colour_of u child)))

-- both rules
module _ (w : HeapView) (a child : ℕ) (there : is_occupied w a ≡ true) where
  pub barred_is : IsBarred w (barred w a child) a child
  barred_is =
      let u : HeapView = remembered_for w a child in
      let first : IsBarred w u a child = remembered_barred w a child there in
      let second : IsBarred u (barred w a child) a child = greyed_barred u a child in
      record {
        same = SameGraph-then w u (barred w a child) first.same second.same;
        kept = λ b. second.kept b ∙ first.kept b;
        remembered = λ b. ⊎_elim (λ same. inl (greyed_remembers u a child b ∙ same)) (λ marked. inr marked) (first.remembered b);
        still = λ b e. greyed_remembers u a child b ∙ first.still b e;
        grey = λ phase. second.grey (λ e. phase (sym first.same.phase ∙ e)) ∙ first.grey phase;
        colours = λ phase b. second.colours (λ e. phase (sym first.same.phase ∙ e)) b ∙ first.colours phase b;
        black = λ b e. first.black b (second.black b e);
        still_black = λ b e. second.still_black b (first.still_black b e);
        marked = λ b m. second.marked b (first.marked b m);
        greyed = λ b m. ⊎_elim (λ was. first.greyed b was) (λ same. inr same) (second.greyed b m);
      }

  pub barred_surely : is_aged (object_of w a) ≡ true → is_old (object_of w child) ≡ false → (object_of (barred w a child) a).remembered ≡ true
  barred_surely aged young = greyed_remembers (remembered_for w a child) a child a ∙ remembered_surely w a child there aged young

  barred_marks : w.phase ≡ Marking → colour_of w a ≡ Black → is_occupied w child ≡ true → IsMarked (barred w a child) child
  barred_marks at black named =
      let first : IsBarred w (remembered_for w a child) a child = remembered_barred w a child there in
      greyed_surely (remembered_for w a child) a child (first.same.phase ∙ at) (first.still_black a black) (first.same.standing child ∙ named)

-- a store: the field holds the word, and then the rules apply where the word names an object and the barrier protects the one at a
module _ (v : HeapView) (a i word : ℕ) (there : is_occupied v a ≡ true) where
  abbrev pub w : HeapView
  w = written v a i word

  abbrev applies : Bool
  applies = is_object w word && is_protected_at w a

  there_still : is_occupied w a ≡ true
  there_still = is_occupied-with_object v a _ a ∙ there

  stored_cases : (stored v a i word ≡ w) ⊎ ((stored v a i word ≡ barred w a word) × (is_object w word ≡ true))
  stored_cases = ⊎_elim
      (λ e. inr (stored_barred v a i word e, (and_parts (is_object w word) (is_protected_at w a) e).0))
      (λ e. inl (stored_plain v a i word e))
      (cases_Bool applies)

  -- what changed after the write
  pub stored_is : IsBarred w (stored v a i word) a word
  stored_is = ⊎_elim
      (λ plain. subst (λ (z : HeapView). IsBarred w z a word) (sym plain) (unbarred w a word))
      (λ (barred, named). subst (λ (z : HeapView). IsBarred w z a word) (sym barred) (barred_is w a word there_still))
      stored_cases

  -- what is remembered now, and wasn't, has an object that isn't old as the word
  pub stored_remembers : (b : ℕ) → ((object_of (stored v a i word) b).remembered ≡ (object_of w b).remembered) ⊎
      ((b ≡ a) × (is_aged (object_of w a) ≡ true) × (is_old (object_of w word) ≡ false) × (is_object w word ≡ true))
  stored_remembers b = ⊎_elim
      (λ plain. inl (ap (λ (z : HeapView). (object_of z b).remembered) plain))
      (λ (barred, named). ⊎_elim
      (λ same. inl (ap (λ (z : HeapView). (object_of z b).remembered) barred ∙ same))
      (λ (here, aged, young). inr (here, aged, young, named))
      ((barred_is w a word there_still).remembered b))
      stored_cases

  -- the barrier remembers an old object that gets one that isn't old
  pub stored_surely : is_object w word ≡ true → is_protected_at w a ≡ true → is_aged (object_of w a) ≡ true → is_old (object_of w word) ≡ false →
      (object_of (stored v a i word) a).remembered ≡ true
  stored_surely named protected aged young =
      ap (λ (z : HeapView). (object_of z a).remembered) (stored_barred v a i word (and_from _ _ named protected))
      ∙ barred_surely w a word there_still aged young

  -- in a marking the object that a black one gets is marked
  pub stored_marks : w.phase ≡ Marking → colour_of w a ≡ Black → is_object w word ≡ true → is_protected_at w a ≡ true → IsMarked (stored v a i word) word
  stored_marks at black named protected =
      subst (λ (z : HeapView). IsMarked z word) (sym (stored_barred v a i word (and_from _ _ named protected)))
      (barred_marks w a word there_still at black (occupied_from_object w word named))

-- the heap's half holds where only marks changed
pub heap_barred : (graph : List Item) (own : Heap) (collector : Collector) (counters : Counters) (w z : HeapView) (a child : ℕ) → IsBarred w z a child →
    HeapRepresents graph own collector counters w → HeapRepresents graph own collector counters z
heap_barred graph own collector counters w z a child b h = heap_same graph own collector counters w z b.same b.grey h
