-- Which addresses were left and which fields are stale, after each piece of work.
use Rattle.std.proofs.Common.{◌≡◌, ◌≢◌, ℕ, ◌+◌, true, List, [], ◌∷◌, ◌++◌, length, sym, ap, ◌∙◌, arith, Option, None, Some}
use Rattle.std.specs.Prelude.{is_some, slice_get}
use Rattle.std.specs.Ordering.{nat_cmp}
use Rattle.std.specs.FinMap.{FinMap, get, insert, empty, get-empty}
use Rattle.std.proofs.lemmas.Bool.{cases_eq, false≢true}
use Rattle.std.proofs.lemmas.Bool.Decides.{nat_tests}
use Rattle.space_model.specs.declared.object.Guard.{Guard}
use Rattle.space_model.specs.declared.object.Style.{Style}
use Rattle.space_model.specs.Graph.{Item}
use Rattle.space_model.specs.Layout.{page_of, pool_for}
use Rattle.space_model.specs.Pages.{with_pool}
use Rattle.space_model.specs.Pieces.{new_item}
use Rattle.space_model.specs.Sound.{AreSlots, SoundLayout, SoundLeft, SoundStale}
use Rattle.space_model.specs.State.{State}
use Rattle.space_model.specs.StoredWords.{is_stale}
use Rattle.space_model.proofs.LayoutKept.{IsFreshSlot, slots_stay}
use Rattle.space_model.proofs.MapLaws.{get-insert_name, present-insert, some_get}
use Rattle.space_model.proofs.SlotLaws.{item_of-push}

-- where no address was left

none_left : (left : FinMap nat_cmp ℕ) → left ≡ empty → (name address : ℕ) → get left name ≡ Some address → ⊥
none_left left none name address e = let f : None ≡ Some address = sym (get-empty nat_cmp name) ∙ ap (λ (m : FinMap nat_cmp ℕ). get m name) (sym none) ∙ e in cc

pub SoundLeft-none : (graph : List Item) (place corpses left : FinMap nat_cmp ℕ) (pages : List (Option ℕ)) → left ≡ empty →
    SoundLeft graph place corpses left pages
SoundLeft-none graph place corpses left pages none = record {
  slots = record {
    allocated = λ n a e. absurd (none_left left none n a e);
    at = λ n a e. absurd (none_left left none n a e);
    once = λ n k a e f. absurd (none_left left none n a e);
  };
  present = λ n e. let a = some_get _ e in absurd (none_left left none n a.0 a.1);
  apart = λ n k a e f. none_left left none k a f;
  apart_corpses = λ n k a e f. none_left left none k a f;
}

-- and no field is stale

not_stale : (stale : List (ℕ × ℕ)) → stale ≡ [] → (name index : ℕ) → is_stale stale name index ≡ true → ⊥
not_stale stale none name index e = false≢true (ap (λ pairs. is_stale pairs name index) (sym none) ∙ e)

pub SoundStale-none : (graph : List Item) (place left : FinMap nat_cmp ℕ) (stale : List (ℕ × ℕ)) (cursor : ℕ) → stale ≡ [] →
    SoundStale graph place left stale cursor
SoundStale-none graph place left stale cursor none = record {
  fields = λ n i e. absurd (not_stale stale none n i e);
  unvisited = λ n i a e at. absurd (not_stale stale none n i e);
}

-- a new object stands at an address that none left, and has no stale field

pub SoundLeft-born : (s : State) (root : List ℕ) (fields : ℕ) (guard : Guard) (style : Style) (address : ℕ) →
    SoundLayout s.graph s.heap.place s.heap.pages s.heap.limit → IsFreshSlot s (pool_for fields) address →
    ((name : ℕ) → get s.heap.left name ≢ Some address) → SoundLeft s.graph s.heap.place s.heap.corpses s.heap.left s.heap.pages →
    SoundLeft (s.graph ++ new_item guard style fields ∷ []) (insert s.heap.place (length s.graph + 1) address) s.heap.corpses s.heap.left
    (with_pool s.heap.pages (page_of address) (pool_for fields))
SoundLeft-born s root fields guard style address l f none h = record {
  slots = slots_stay s root fields guard style address l f s.heap.left h.slots;
  present = λ n e. present-insert s.heap.place (length s.graph + 1) address n (h.present n e);
  apart = λ n k a e c. grind (
    arith,
    nat_tests,
    get-insert_name s.heap.place (length s.graph + 1) address n,
    e,
    c,
    none k,
    h.apart n k a,
    cases_eq n (length s.graph + 1),
  );
  apart_corpses = h.apart_corpses;
}

-- a present name isn't the new one
old_place : (s : State) (address name : ℕ) → AreSlots s.graph s.heap.pages s.heap.place → is_some (get s.heap.place name) ≡ true →
    get (insert s.heap.place (length s.graph + 1) address) name ≡ get s.heap.place name
old_place s address name placed p =
    let at = some_get _ p in
    let b = placed.allocated name at.0 at.1 in
    grind (arith, nat_tests, get-insert_name s.heap.place (length s.graph + 1) address name, b, cases_eq name (length s.graph + 1))

pub SoundStale-born : (s : State) (fields : ℕ) (guard : Guard) (style : Style) (address : ℕ) → AreSlots s.graph s.heap.pages s.heap.place →
    SoundStale s.graph s.heap.place s.heap.left s.collector.stale s.collector.cursor →
    SoundStale (s.graph ++ new_item guard style fields ∷ []) (insert s.heap.place (length s.graph + 1) address) s.heap.left s.collector.stale s.collector.cursor
SoundStale-born s fields guard style address placed h = record {
  fields = λ n i e.
      let f = h.fields n i e in
      let at = some_get _ f.present in
      let b = placed.allocated n at.0 at.1 in
      record {
        present = present-insert s.heap.place (length s.graph + 1) address n f.present;
        child = f.child;
        holds = ap (λ (item : Item). slice_get item.values i) (item_of-push s.graph (new_item guard style fields) n b.0 b.1) ∙ f.holds;
        was_left = f.was_left;
      };
  unvisited = λ n i a e at. h.unvisited n i a e (sym (old_place s address n placed (h.fields n i e).present) ∙ at);
}
