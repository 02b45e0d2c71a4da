-- The lines of objects, as they are written one after another.
use Rattle.std.proofs.Common.{◌≡◌, ◌≢◌, ℕ, ◌+◌, ◌*◌, ◌<◌, List, [], ◌∷◌, ◌++◌, length, refl, sym, ap, ◌∙◌, subst, arith, inl, inr, append-nil, append_assoc, Option}
use Rattle.std.specs.Prelude.{Result, Ok, Err, OnErr}
use Rattle.std.specs.Io.KnownBytes.{Appends}
use Rattle.std.proofs.KnownBytes.{Appends-nil, Appends-trans}
use Rattle.std.proofs.lemmas.List.{map-append, length-append}
use Rattle.space_io.specs.Sinks.{AppendsPrefix}
use Rattle.space_model.specs.declared.reply.Reply.TheVariants.{NoMemory, Dumped}
use Rattle.space_model.specs.Outputs.{Listed}
use Rattle.space_model.specs.Texts.{dump_pieces, line_of_pieces, text_of}
use Rattle.space_dump.specs.HeapLines.{line_at}
use Rattle.space_heap.specs.HeapView.{HeapView}
use Rattle.space_heap.specs.SoundHeap.{IsSoundHeap}
use Rattle.space_heap.specs.Walks.{HasNoObjectFrom, IsNextObject}
use Rattle.space_collector.proofs.ToldLines.{text_of-append, prefix_after, prefix_longer}
use Rattle.space_engine.specs.HeapDumps.{AreListed, lines_at, object_addresses, objects_below}
use Rattle.space_engine.specs.Ticks.{RisesByFewer, most_ticks}
use Rattle.space_engine.specs.Views.{View}
use Rattle.space_engine.proofs.ObjectLists.{none_below, objects_next, objects_all, objects_after, few_listed}

-- the lines of the objects below an address
abbrev pub listed : HeapView → ℕ → List ℕ
listed v from = text_of (lines_at v (objects_below v from))

-- the lines of all
abbrev pub listed_all : HeapView → List ℕ
listed_all v = text_of (lines_at v (object_addresses v))

-- the line of one
abbrev pub listed_line : HeapView → ℕ → List ℕ
listed_line v a = line_of_pieces (dump_pieces (line_at v a))

lines_of-append : (v : HeapView) (xs ys : List ℕ) → text_of (lines_at v (xs ++ ys)) ≡ text_of (lines_at v xs) ++ text_of (lines_at v ys)
lines_of-append v xs ys =
    ap text_of (map-append (λ a. Listed (line_at v a)) xs ys) ∙ text_of-append (lines_at v xs) (lines_at v ys)

-- nothing is listed before the first
pub listed_none : (v : HeapView) (a : Option (List ℕ)) → Appends a a (listed v 0)
listed_none v a = subst (λ xs. Appends a a (text_of (lines_at v xs))) (sym (none_below v)) (Appends-nil a)

listed_next : (v : HeapView) (from a : ℕ) → IsNextObject v from a → listed v (a + 1) ≡ listed v from ++ listed_line v a
listed_next v from a n =
    ap (λ xs. text_of (lines_at v xs)) (objects_next v from a n)
    ∙ lines_of-append v (objects_below v from) (a ∷ [])
    ∙ ap (λ xs. listed v from ++ xs) (append-nil (listed_line v a))

-- the lines up to that of an object are a prefix of all
listed_prefix : (v : HeapView) (from a : ℕ) → IsNextObject v from a →
    (rest : List ℕ) × (listed_all v ≡ (listed v from ++ listed_line v a) ++ rest)
listed_prefix v from a n =
    let after = objects_after v a n.is in (
      text_of (lines_at v after.0),
      ap (λ xs. text_of (lines_at v xs)) after.1
          ∙ lines_of-append v (objects_below v (a + 1)) after.0
          ∙ ap (λ xs. xs ++ text_of (lines_at v after.0)) (listed_next v from a n),
    )

-- what a walk over an engine's own heap finds is found in its view
pub next_in_view : (u v : View) (from a : ℕ) → u ≡ v → IsNextObject u.heap from a → IsNextObject v.heap from a
next_in_view u v from a same n = subst (λ (w : View). IsNextObject w.heap from a) same n

-- one more object was listed
pub one_more : (v : HeapView) (from a : ℕ) → IsNextObject v from a → length (objects_below v (a + 1)) ≡ length (objects_below v from) + 1
one_more v from a n = ap length (objects_next v from a n) ∙ length-append (objects_below v from) (a ∷ [])

-- the objects up to one are no more than the heap has slots
pub few_before : (v : HeapView) (from a : ℕ) → IsSoundHeap v → IsNextObject v from a → length (objects_below v from) < 1638 * 4096
few_before v from a sound n =
    let after = objects_after v a n.is in
    let all = ap length after.1 ∙ length-append (objects_below v (a + 1)) after.0 in
    let one = one_more v from a n in
    let few = few_listed v sound in
    omega arith

-- and so is their number below the bound of ticks, with one more
pub few_rise : (v : HeapView) (from a ticks ticked : ℕ) → IsSoundHeap v → IsNextObject v from a → ticked ≡ ticks + length (objects_below v from) + 1 →
    RisesByFewer most_ticks ticks ticked
few_rise v from a ticks ticked sound n rose = let few = few_before v from a sound n in (omega arith, omega arith)

pub all_rise : (v : HeapView) (from ticks ticked : ℕ) → IsSoundHeap v → HasNoObjectFrom v from → ticked ≡ ticks + length (objects_below v from) →
    RisesByFewer most_ticks ticks ticked
all_rise v from ticks ticked sound none rose =
    let few = few_listed v sound in
    let all = ap length (objects_all v from none) in
    (omega arith, omega arith)

some_others : (a : ℕ) (rest : List ℕ) → a ∷ rest ≢ []
some_others a rest e = absurd (cc)

module _ (v : HeapView) (before now : Option (List ℕ)) (from : ℕ) (so_far : Appends before now (listed v from)) where
  pub goes_on : (after : Option (List ℕ)) (a : ℕ) (line : List ℕ) → IsNextObject v from a → line ≡ listed_line v a → Appends now after line →
      Appends before after (listed v (a + 1))
  goes_on after a line n is written =
      subst (Appends before after) (sym (listed_next v from a n))
      (Appends-trans before now after (listed v from) (listed_line v a) so_far (subst (Appends now after) is written))

  pub stops : {T E : Type 0} (after : Option (List ℕ)) (result : Result T E) (a : ℕ) (line : List ℕ) → IsNextObject v from a → line ≡ listed_line v a →
      AppendsPrefix now after line → OnErr result (AppendsPrefix before after (listed_all v))
  stops after (Ok value) a line n is written = tt
  stops after (Err fault) a line n is written =
      let prefix = listed_prefix v from a n in
      subst (AppendsPrefix before after) (sym prefix.1)
      (prefix_longer before after (listed v from ++ listed_line v a) prefix.0
      (prefix_after before now after (listed v from) (listed_line v a) so_far (subst (AppendsPrefix now after) is written)))

  -- there was no memory for the line of the next object
  pub lacks : (a ticks ticked : ℕ) → IsNextObject v from a → ticked ≡ ticks + length (objects_below v from) + 1 →
      AreListed v NoMemory before now ticks ticked
  lacks a ticks ticked n rose =
      let after = objects_after v a n.is in
      record {
        listed = objects_below v from;
        others = a ∷ after.0;
        addresses = after.1 ∙ ap (λ xs. xs ++ after.0) (objects_next v from a n) ∙ append_assoc (objects_below v from) (a ∷ []) after.0;
        written = so_far;
        ends = inr (some_others a after.0, refl, rose);
      }

  -- all were listed
  pub ends : (count ticks ticked : ℕ) → HasNoObjectFrom v from → count ≡ length (objects_below v from) → ticked ≡ ticks + length (objects_below v from) →
      AreListed v (Dumped count) before now ticks ticked
  ends count ticks ticked none is rose = record {
    listed = objects_below v from;
    others = [];
    addresses = sym (objects_all v from none) ∙ sym (append-nil (objects_below v from));
    written = so_far;
    ends = inl (refl, ap Dumped is, rose);
  }
