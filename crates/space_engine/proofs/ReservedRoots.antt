-- A root whose place was made before it is written: what it holds then, and what a completion and a collection make of its place.
use Rattle.std.proofs.Common.{◌≡◌, ◌⊎◌, ℕ, List, [], ◌∷◌, ◌++◌, Bool, true, false, Option, None, Some, IsSome, refl, sym, ap, ◌∙◌, subst, IsTrue, if◌then◌else◌, ⊎_elim, inl, inr}
use Rattle.std.specs.Option.{option_map}
use Rattle.std.proofs.lemmas.Bool.{eqb-true, or_cases, false≢true}
use Rattle.std.proofs.lemmas.List.{map-append}
use Rattle.space_model.specs.declared.event.Event.{Event}
use Rattle.space_model.specs.declared.event.Kind.TheVariants.{Major, Full}
use Rattle.space_model.specs.declared.object.Guard.{Guard}
use Rattle.space_model.specs.declared.object.Style.{Style}
use Rattle.space_model.specs.declared.phase.Phase.{Phase}
use Rattle.space_model.specs.declared.phase.Phase.TheVariants.{Moving, Fixing}
use Rattle.space_model.specs.State.{State}
use Rattle.space_model.proofs.Members.{member_left, member_cases}
use Rattle.space_model.proofs.Reaching.{IsReached-start, IsReached-mono}
use Rattle.space_model.proofs.WholeLaws.{counted_also}
use Rattle.space_finals.specs.FinalLists.{FinalLists}
use Rattle.space_heap.specs.HeapView.{HeapView, is_slot, slot_at}
use Rattle.space_heap.specs.Marking.{unmarked}
use Rattle.space_heap.specs.Objects.{is_object, resolved}
use Rattle.space_major.specs.Incremental.{IsMarkedAtEnd}
use Rattle.space_tracing.specs.Graph.{IsChild, IsNamed, IsStart, IsLive}
use Rattle.space_tracing.specs.Marking.{IsMarked}
use Rattle.space_tracing.proofs.Noted.{noted_by}
use Rattle.space_roots.specs.WordRoots.{root_word, root_words}
use Rattle.space_roots.proofs.RootLemmas.{with_root_word-reserved, without_root-reserved}
use Rattle.space_engine.specs.Allocations.{IsReserved, IsSwept, IsRootedAllocation}
use Rattle.space_engine.specs.Stands.{Holds}
use Rattle.space_engine.specs.Views.{View, with_heap, with_judged, with_swept, with_root_dropped, with_root_reserved, with_root_written, fixing_begun, compaction_ended}
use Rattle.space_engine.specs.Words.{resolved_roots}
use Rattle.space_engine.specs.HeapCollections.{IsTelling, IsHeapCompletion, IsCompletion, IsCollected, CompletesFixes}
use Rattle.space_engine.specs.Turns.{IsAtRest, IsCompacting}
use Rattle.space_engine.proofs.Collecting.{CompletesTo, completes_to}
use Rattle.space_engine.proofs.Completing.{rests_complete, moves_complete, fixes_complete}
use Rattle.space_engine.proofs.FieldWords.{nothing_at_zero}
use Rattle.space_engine.proofs.Purges.{completed_view, completed_is, completed_as}
use Rattle.space_engine.proofs.ResolvedRoots.{root_word-resolved}

module _ (v : View) (root : List ℕ) where
  written_again : (heap : HeapView) (finals : FinalLists) (is_new : Bool) (word : ℕ) → (IsTrue is_new → root_word v.roots root ≡ None) →
      with_root_written (with_swept (with_root_reserved v root is_new) heap finals) root word ≡ with_root_written (with_swept v heap finals) root word
  written_again heap finals true word none =
      ap (λ roots. record (with_swept v heap finals) { roots = roots }) (with_root_word-reserved v.roots root 0 word (none refl))
  written_again heap finals false word none = refl

  dropped_again : (heap : HeapView) (finals : FinalLists) (is_new : Bool) → (IsTrue is_new → root_word v.roots root ≡ None) →
      (if is_new then with_root_dropped (with_swept (with_root_reserved v root is_new) heap finals) root else with_swept
      (with_root_reserved v root is_new) heap finals) ≡ with_swept v heap finals
  dropped_again heap finals true none = ap (λ roots. record (with_swept v heap finals) { roots = roots }) (without_root-reserved v.roots root 0 (none refl))
  dropped_again heap finals false none = refl

module _ (v r : View) (root : List ℕ) (is_new : Bool) (reserved : IsReserved v r root is_new) where
  -- the root holds a new object as it would have without
  allocated_reserved : (z : HeapView) (g : FinalLists) (w : View) (fields : ℕ) (guard : Guard) (style : Style) (name a : ℕ) →
      IsRootedAllocation (with_swept r z g) w root fields guard style name a → IsRootedAllocation (with_swept v z g) w root fields guard style name a
  allocated_reserved z g w fields guard style name a allocated = record {
    was_sound = allocated.was_sound;
    swept = allocated.swept;
    sweeps = allocated.sweeps;
    sound = allocated.sound;
    allocation = allocated.allocation;
    becomes = allocated.becomes ∙ ap (λ (r : View). with_root_written (with_swept r w.heap w.finals) root a) reserved.becomes
        ∙ written_again v root w.heap w.finals is_new a reserved.absent;
  }

  -- nothing is left of the place of a root that is taken away again
  pub dropped_reserved : (z : HeapView) (g : FinalLists) →
      (if is_new then with_root_dropped (with_swept r z g) root else with_swept r z g) ≡ with_swept v z g
  dropped_reserved z g =
      ap (λ (r : View). if is_new then with_root_dropped (with_swept r z g) root else with_swept r z g) reserved.becomes
      ∙ dropped_again v root z g is_new reserved.absent

  -- the heap is as it was
  pub heap_reserved : r.heap ≡ v.heap
  heap_reserved = ap (λ (w : View). w.heap) reserved.becomes

  -- the same, at once
  pub allocated_at_once : (w : View) (fields : ℕ) (guard : Guard) (style : Style) (name a : ℕ) → IsRootedAllocation r w root fields guard style name a →
      IsRootedAllocation v w root fields guard style name a
  allocated_at_once w fields guard style name a allocated =
      let kept = allocated_reserved r.heap r.finals w fields guard style name a allocated in
      subst (λ (u : View). IsRootedAllocation (with_swept v u.heap u.finals) w root fields guard style name a) reserved.becomes kept

-- a place was made for the root and then pages were swept: it is as if the place was made after the sweeps
pub reserved_after : (v r w : View) (root : List ℕ) (is_new : Bool) (pool : ℕ) → IsReserved v r root is_new → IsSwept r w pool →
    IsReserved (with_swept v w.heap w.finals) w root is_new
reserved_after v r w root is_new pool reserved swept = record {
  becomes = swept.becomes ∙ ap (λ (u : View). with_swept u w.heap w.finals) reserved.becomes;
  absent = reserved.absent;
}

-- a word that names no object starts nothing

start_more : (heap : HeapView) (roots others stack : List ℕ) → ((n : ℕ) → IsNamed heap roots n → IsNamed heap others n) → (n : ℕ) →
    IsStart heap roots stack n → IsStart heap others stack n
start_more heap roots others stack more n start = ⊎_elim (λ r. inl (more n r)) (λ w. inr w) start

live_more : (heap : HeapView) (roots others stack : List ℕ) → ((n : ℕ) → IsNamed heap roots n → IsNamed heap others n) → (n : ℕ) → IsLive heap roots stack n →
    IsLive heap others stack n
live_more heap roots others stack more = IsReached-mono (IsChild heap) (IsChild heap) (IsStart heap roots stack) (IsStart heap others stack)
    (λ m n c. c)
    (λ n start. IsReached-start (IsChild heap) (IsStart heap others stack) n (start_more heap roots others stack more n start))

at_end_more : (heap : HeapView) (roots others stack : List ℕ) → ((n : ℕ) → IsNamed heap roots n → IsNamed heap others n) → (n : ℕ) →
    IsMarkedAtEnd heap roots stack n → IsMarkedAtEnd heap others stack n
at_end_more heap roots others stack more = IsReached-mono (IsChild heap) (IsChild heap)
    (λ a. IsMarked heap a ⊎ IsStart heap roots stack a)
    (λ a. IsMarked heap a ⊎ IsStart heap others stack a)
    (λ m n c. c)
    (λ n first. IsReached-start (IsChild heap) (λ a. IsMarked heap a ⊎ IsStart heap others stack a) n
    (⊎_elim (λ was. inl was) (λ start. inr (start_more heap roots others stack more n start)) first))

named_before : (heap : HeapView) (words : List ℕ) → is_object heap 0 ≡ false → (n : ℕ) → IsNamed heap (words ++ 0 ∷ []) n → IsNamed heap words n
named_before heap words none n (is, m) = (
  is,
  ⊎_elim
      (λ k. k)
      (λ last. ⊎_elim
      (λ e. absurd (false≢true (sym none ∙ ap (is_object heap) (sym (eqb-true n 0 e)) ∙ is)))
      (λ f. absurd (false≢true f))
      (or_cases _ _ last))
      (member_cases words (0 ∷ []) n m),
)

named_after : (heap : HeapView) (words : List ℕ) (n : ℕ) → IsNamed heap words n → IsNamed heap (words ++ 0 ∷ []) n
named_after heap words n (is, m) = (is, member_left words (0 ∷ []) n m)

-- from words that name the same objects the same is marked
module _ (old new : HeapView) (roots others stack : List ℕ) (scans : ℕ) (events : List Event)
    (there : (n : ℕ) → IsNamed old roots n → IsNamed old others n) (back : (n : ℕ) → IsNamed old others n → IsNamed old roots n) where
  -- at the end of a marking
  same_end : IsTelling old new Major roots stack scans events → IsTelling old new Major others stack scans events
  same_end t = record {
    verdict =
        let c = t.verdict in
        let m = c.marking in
        record {
          marked = c.marked;
          marking = record {
            same = m.same;
            marks = λ ready a. (
              (λ x. at_end_more old roots others stack there a ((m.marks ready a).0 x)),
              (λ l. (m.marks ready a).1 (at_end_more old others roots stack back a l)),
            );
            notes = m.notes;
            scanned = m.scanned;
            none_grey = m.none_grey;
          };
          settles = c.settles;
          sound = c.sound;
        };
    few = t.few;
    events_are = t.events_are;
  }

  -- and by a whole one
  same_whole : IsTelling old new Full roots stack scans events → IsTelling old new Full others stack scans events
  same_whole t =
      let to = live_more old roots others stack there in
      let from = live_more old others roots stack back in
      record {
        verdict =
            let c = t.verdict in
            let m = c.marking in
            record {
              marked = c.marked;
              marking = record {
                same = m.same;
                marks = λ ready a. ((λ x. to a ((m.marks ready a).0 x)), (λ l. (m.marks ready a).1 (from a l)));
                notes = noted_by (unmarked old) c.marked (IsLive old roots stack) (IsLive old others stack) to from m.notes;
                scanned = counted_also (IsLive old roots stack) (IsLive old others stack) scans (λ a. ((λ l. to a l), (λ l. from a l))) m.scanned;
                none_grey = m.none_grey;
              };
              settles = c.settles;
              sound = c.sound;
            };
        few = t.few;
        events_are = t.events_are;
      }

-- the words of the roots with the place, which holds the word 0
reserved_words : (v : View) (root : List ℕ) → root_words (with_root_reserved v root true).roots ≡ root_words v.roots ++ 0 ∷ []
reserved_words v root = map-append (λ (root : List ℕ × ℕ). root.1) v.roots ((root, 0) ∷ [])

-- the word 0 leads to itself
zero_leads : (heap : HeapView) → resolved heap 0 ≡ 0
unfolding resolved slot_at is_slot
zero_leads heap = refl

-- what was under way was completed, without the place
pub record CompletesBefore (v new : View) (root : List ℕ) (is_new : Bool) (ended : ℕ) (events : List Event) : Type 0 where
  pub plain : View
  pub reserved : IsReserved plain new root is_new
  pub completes : IsCompletion v plain ended events

-- references were corrected, without the place
record FixesBefore (v new : View) (root : List ℕ) : Type 0 where
  plain : View
  reserved : IsReserved plain new root true
  fixes : CompletesFixes v plain

fixes_before : (v new : View) (root : List ℕ) → root_word v.roots root ≡ None → CompletesFixes (with_root_reserved v root true) new → FixesBefore v new root
fixes_before v new root absent c =
    let fixed : HeapView = c.fixed in
    let plain : View = compaction_ended (with_heap v fixed) in
    let roots : resolved_roots fixed (v.roots ++ (root, 0) ∷ []) ≡ resolved_roots fixed v.roots ++ (root, 0) ∷ [] =
    map-append (λ (other : List ℕ × ℕ). (other.0, resolved fixed other.1)) v.roots ((root, 0) ∷ [])
    ∙ ap (λ word. resolved_roots fixed v.roots ++ (root, word) ∷ []) (zero_leads fixed) in
    record {
      plain = plain;
      reserved = record {
        becomes = c.ends ∙ ap (λ roots. record plain { roots = roots }) roots;
        absent = λ yes_new. root_word-resolved fixed v.roots root ∙ ap (option_map (resolved fixed)) absent;
      };
      fixes = record { visits = c.visits; fixed = fixed; makes = c.makes; sound = c.sound; all = c.all; ends = refl };
    }

-- the place that is made for a root has no part in a completion
module _ (v : View) (s : State) (h : Holds v s) (ended : ℕ) (events : List Event) where
  abbrev words : List ℕ
  words = root_words v.roots

  same_completion : (idle : HeapView) (finals : FinalLists) →
      IsHeapCompletion v.heap v.finals idle finals (words ++ 0 ∷ []) v.stack ended events →
      IsHeapCompletion v.heap v.finals idle finals words v.stack ended events
  same_completion idle finals c = record {
    marking = λ marking.
        let both = c.marking marking in
        record {
          judged = both.judged;
          tells = same_end v.heap both.judged (words ++ 0 ∷ []) words v.stack ended events
              (named_before v.heap words (nothing_at_zero v s h))
              (named_after v.heap words)
              both.tells;
          sweeps = both.sweeps;
        };
    others = c.others;
  }

  module _ (new : View) (root : List ℕ) (absent : root_word v.roots root ≡ None)
      (c : IsCompletion (with_root_reserved v root true) new ended events) where
    rests_before : IsAtRest v.heap → CompletesBefore v new root true ended events
    rests_before rests =
        let at_rest = c.rests rests in
        record {
          plain = completed_view v new.heap new.finals;
          reserved = record { becomes = completed_as (with_root_reserved v root true) new at_rest.rest; absent = λ yes_new. absent };
          completes = rests_complete v (completed_view v new.heap new.finals) ended events rests (sym (completed_is v new.heap new.finals)) c.idle
              (same_completion new.heap new.finals
              (subst (λ words. IsHeapCompletion v.heap v.finals new.heap new.finals words v.stack ended events) (reserved_words v root) at_rest.heap));
        }

    moves_before : v.heap.phase ≡ Moving → CompletesBefore v new root true ended events
    moves_before moving =
        let m = c.moving moving in
        let f = fixes_before (fixing_begun (with_heap v m.packed)) new root absent m.fixes in
        record {
          plain = f.plain;
          reserved = f.reserved;
          completes = moves_complete v f.plain ended events moving
              (ap (λ (u : View). u.heap.phase) (sym f.reserved.becomes) ∙ c.idle)
              (record {
                packed = m.packed;
                count = m.count;
                moves = m.moves;
                done = m.done;
                makes = m.makes;
                all = m.all;
                fixes = f.fixes;
              });
        }

    visits_before : v.heap.phase ≡ Fixing → CompletesBefore v new root true ended events
    visits_before fixing =
        let both = c.fixing fixing in
        let f = fixes_before v new root absent both.1 in
        record {
          plain = f.plain;
          reserved = f.reserved;
          completes = subst (λ events. IsCompletion v f.plain ended events) (sym both.0)
              (fixes_complete v f.plain ended fixing (ap (λ (u : View). u.heap.phase) (sym f.reserved.becomes) ∙ c.idle) f.fixes);
        }

    place_before : CompletesBefore v new root true ended events
    place_before = by v.heap.phase refl
      where
        by : (phase : Phase) → v.heap.phase ≡ phase → CompletesBefore v new root true ended events
        by Moving at = moves_before at
        by Fixing at = visits_before at
        by _ at = rests_before ((λ e. cc), (λ e. cc))

  by_place : (new : View) (root : List ℕ) (is_new : Bool) → (IsTrue is_new → root_word v.roots root ≡ None) →
      IsCompletion (with_root_reserved v root is_new) new ended events → CompletesBefore v new root is_new ended events
  by_place new root true absent c = place_before new root (absent refl) c
  by_place new root false absent c = record {
    plain = new;
    reserved = record { becomes = refl; absent = λ is. absurd (false≢true is) };
    completes = c;
  }

  pub completion_reserved : (r new : View) (root : List ℕ) (is_new : Bool) → IsReserved v r root is_new → IsCompletion r new ended events →
      CompletesBefore v new root is_new ended events
  completion_reserved r new root is_new reserved c =
      by_place new root is_new reserved.absent (subst (λ (r : View). IsCompletion r new ended events) reserved.becomes c)

-- a whole collection, without the place
pub record CollectsBefore (v new : View) (root : List ℕ) (is_new : Bool) (ended scans : ℕ) (events : List Event) : Type 0 where
  pub plain : View
  pub reserved : IsReserved plain new root is_new
  pub collects : IsCollected v plain Full ended scans events

-- nor has it one in a marking
telling_before : (p : View) (new : HeapView) (root : List ℕ) (is_new : Bool) (scans : ℕ) (told : List Event) → is_object p.heap 0 ≡ false →
    IsTelling p.heap new Full (root_words (with_root_reserved p root is_new).roots) p.stack scans told →
    IsTelling p.heap new Full (root_words p.roots) p.stack scans told
telling_before p new root true scans told nothing t =
    same_whole p.heap new (root_words p.roots ++ 0 ∷ []) (root_words p.roots) p.stack scans told (named_before p.heap (root_words p.roots) nothing)
    (named_after p.heap (root_words p.roots))
    (subst (λ words. IsTelling p.heap new Full words p.stack scans told) (reserved_words p root) t)
telling_before p new root false scans told nothing t = t

-- so it has none in a whole collection
pub collection_reserved : (v : View) (s : State) → Holds v s → (r new : View) (root : List ℕ) (is_new : Bool) → IsReserved v r root is_new →
    (ended scans : ℕ) (events : List Event) → IsCollected r new Full ended scans events → CollectsBefore v new root is_new ended scans events
collection_reserved v s h r new root is_new reserved ended scans events c =
    let first = completion_reserved v s h ended c.completion r c.idle root is_new reserved c.completes in
    let p : View = first.plain in
    let to : CompletesTo p s ended c.completion = completes_to v s h p ended c.completion first.completes in
    record {
      plain = with_judged p new.heap;
      reserved = record {
        becomes = c.judged ∙ ap (λ (u : View). with_judged u new.heap) first.reserved.becomes;
        absent = first.reserved.absent;
      };
      collects = record {
        idle = p;
        completion = c.completion;
        completes = first.completes;
        told = c.told;
        tells = telling_before p new.heap root is_new scans c.told (nothing_at_zero p to.state to.holds)
            (subst (λ (u : View). IsTelling u.heap new.heap Full (root_words u.roots) u.stack scans c.told) first.reserved.becomes c.tells);
        judged = refl;
        events_are = c.events_are;
      };
    }

-- a root that is there stays in the completion of a compaction

some_mapped : {X Y : Type 0} (f : X → Y) (found : Option X) → IsSome found → IsSome (option_map f found)
some_mapped f None some = some
some_mapped f (Some x) some = some

fixes_there : (v new : View) → CompletesFixes v new → (root : List ℕ) → IsSome (root_word v.roots root) → IsSome (root_word new.roots root)
fixes_there v new c root there =
    let roots : new.roots ≡ resolved_roots c.fixed v.roots = ap (λ (u : View). u.roots) c.ends in
    subst IsSome (sym (ap (λ roots. root_word roots root) roots ∙ root_word-resolved c.fixed v.roots root))
    (some_mapped (resolved c.fixed) (root_word v.roots root) there)

pub completion_there : (v new : View) (scans : ℕ) (events : List Event) → IsCompacting v.heap → IsCompletion v new scans events → (root : List ℕ) →
    IsSome (root_word v.roots root) → IsSome (root_word new.roots root)
completion_there v new scans events compacting c root there = ⊎_elim
    (λ moving. let m = c.moving moving in fixes_there (fixing_begun (with_heap v m.packed)) new m.fixes root there)
    (λ fixing. fixes_there v new (c.fixing fixing).1 root there)
    compacting
