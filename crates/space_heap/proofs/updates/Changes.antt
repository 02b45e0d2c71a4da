-- What becomes of the view and of what holds of it where one slot changes.
use Rattle.std.proofs.Common.{◌≡◌, ◌≢◌, inl, inr, ⊎_elim, ℕ, ◌<◌, true, false, not, ◌&&◌, List, length, get_or, set, refl, sym, ap, ◌∙◌, subst, arith, Option, None, Some}
use Rattle.std.specs.Prelude.{is_some}
use Rattle.std.proofs.lemmas.Bool.{cases_eq, cond-true}
use Rattle.std.proofs.lemmas.List.{get_or-set_same, get_or-set_other, length-set}
use Rattle.std.proofs.lemmas.List.FromFn.{fill_by_all}
use Rattle.space_model.specs.declared.object.Guard.{Guard}
use Rattle.space_model.specs.Layout.{page_of}
use Rattle.space_planes.specs.Planes.{bit}
use Rattle.space_planes.proofs.Bits.{bit-set_other}
use Rattle.space_pools.specs.PoolsView.{PoolsView, page_at, pool_at, found_at, with_slot_at}
use Rattle.space_pools.proofs.Places.{page_within}
use Rattle.space_pools.proofs.PoolLaws.{length-with_slot_at, pool_at-with_slot_at, unswept_at-with_slot_at, slots_at-with_slot_at, found_at-with_slot_at_same, found_at-with_slot_at_other}
use Rattle.space_heap.specs.declared.marks.Marks.{Marks}
use Rattle.space_heap.specs.declared.marks.Traits.{Traits}
use Rattle.space_heap.specs.Slots.{SlotView}
use Rattle.space_heap.specs.HeapView.{PageView, HeapView, no_page, page_with, slot_number, is_slot, with_slot_in, with_slot}
use Rattle.space_heap.specs.planes.MarkPlanes.{marks_at, clear_marks, AreWide, slot_from, used_from, traits_from, new_marks, guard_from, colour_from, age_from, is_unprotected}
use Rattle.space_heap.specs.words.SlotPlaces.{IsSlotAt, SlotChanged}
use Rattle.space_heap.specs.Inside.{slot_in, page_in, pages_from, view_with, FitsSlot, AreMarksOf, AreAllMarks, Rest}
use Rattle.space_heap.proofs.fields.Views.{length-pages_from, page_read, is_slot_read, page_changed, same_page}
use Rattle.space_heap.proofs.fields.Readers.{slot_within}
use Rattle.space_heap.proofs.fields.Unswept.{same_unswept}

pub slot_changed : (v : PoolsView) (page slot : ℕ) (found : Option (List ℕ)) → slot < length (page_at v page).slots
    → SlotChanged v (with_slot_at v page slot found) page slot found
slot_changed v page slot found within = record {
  limit = refl;
  count = length-with_slot_at v page slot found;
  pools = pool_at-with_slot_at v page slot found;
  slots = slots_at-with_slot_at v page slot found;
  unswept = unswept_at-with_slot_at v page slot found;
  here = found_at-with_slot_at_same v page slot found within;
  other = found_at-with_slot_at_other v page slot found;
}

-- the slot changes once more
pub changed_again : (v w : PoolsView) (page slot : ℕ) (once found : Option (List ℕ)) → SlotChanged v w page slot once → slot < length (page_at w page).slots
    → SlotChanged v (with_slot_at w page slot found) page slot found
changed_again v w page slot once found h within =
    let g = slot_changed w page slot found within in
    record {
      limit = h.limit;
      count = g.count ∙ h.count;
      pools = λ k. g.pools k ∙ h.pools k;
      slots = λ k. g.slots k ∙ h.slots k;
      unswept = λ k. g.unswept k ∙ h.unswept k;
      here = g.here;
      other = λ k i differ. g.other k i differ ∙ h.other k i differ;
    }

-- the planes tell the same of a slot
pub record SameBits (m n : Marks) (s : ℕ) : Type 0 where
  pub object : bit n.object s ≡ bit m.object s
  pub moved : bit n.moved s ≡ bit m.moved s
  pub traits : traits_from n s ≡ traits_from m s

-- the planes of one page changed at one slot
pub record MarksChanged (ms ns : List Marks) (page slot : ℕ) : Type 0 where
  pub all : length ns ≡ length ms
  pub wide : (n : ℕ) → AreWide (marks_at ms page) n → AreWide (marks_at ns page) n
  pub pages : (k : ℕ) → k ≢ page → marks_at ns k ≡ marks_at ms k
  pub slots : (s : ℕ) → s ≢ slot → SameBits (marks_at ms page) (marks_at ns page) s

pub marks_same : (ms : List Marks) (page slot : ℕ) → MarksChanged ms ms page slot
marks_same ms page slot = record {
  all = refl;
  wide = λ n h. h;
  pages = λ k differ. refl;
  slots =
      λ s differ. record { object = refl; moved = refl; traits = refl };
}

from_same : (found : Option (List ℕ)) (m n : Marks) (s : ℕ) → SameBits m n s → slot_from found n s ≡ slot_from found m s
from_same None m n s h = refl
from_same (Some words) m n s h = ap (λ b. used_from words b (traits_from n s)) h.moved ∙ ap (used_from words (bit m.moved s)) h.traits

fits_same : (found : Option (List ℕ)) (m n : Marks) (s : ℕ) → SameBits m n s → FitsSlot found m s → FitsSlot found n s
fits_same found m n s h f = record {
  object = h.object ∙ f.object ∙ ap (λ b. is_some found && not b) (sym h.moved);
  moved = λ e. f.moved (sym h.moved ∙ e);
  words = λ words e stays. f.words words e (sym h.moved ∙ stays);
  gone = λ e. h.object ∙ f.gone (sym (ap (λ (t : Traits). t.gone) h.traits) ∙ e);
}

module _ (v w : PoolsView) (ms ns : List Marks) (page slot : ℕ) (found : Option (List ℕ)) (h : SlotChanged v w page slot found)
    (g : MarksChanged ms ns page slot) where
  -- the slots of the page but this one
  same_slot : (s : ℕ) → s ≢ slot → slot_in (page_at w page) (marks_at ns page) s ≡ slot_in (page_at v page) (marks_at ms page) s
  same_slot s differ =
      ap (λ f. slot_from f (marks_at ns page) s) (h.other page s (inr differ))
      ∙ from_same (found_at v page s) (marks_at ms page) (marks_at ns page) s (g.slots s differ)

  -- a page but this one
  other_page : (k : ℕ) → k ≢ page → page_in v ms k ≡ page_in w ns k
  other_page k differ = same_page (page_at v k) (page_at w k) (marks_at ms k) (marks_at ns k) (h.pools k) (h.slots k)
      (λ s. ap (λ f. slot_from f (marks_at ns k) s) (h.other k s (inl differ)) ∙ ap (λ m. slot_from (found_at v k s) m s) (g.pages k differ))

  this_page : slot < length (page_at v page).slots → with_slot_in (page_in v ms page) slot (slot_from found (marks_at ns page) slot) ≡ page_in w ns page
  this_page within = page_changed (page_at v page) (page_at w page) (marks_at ms page) (marks_at ns page) slot (slot_from found (marks_at ns page) slot)
      (h.pools page) (h.slots page) within
      (ap (λ f. slot_from f (marks_at ns page) slot) h.here) same_slot

  pages_changed : slot < length (page_at v page).slots
      → set (pages_from v ms) page (with_slot_in (page_in v ms page) slot (slot_from found (marks_at ns page) slot)) ≡ pages_from w ns
  pages_changed within =
      let p : PageView = with_slot_in (page_in v ms page) slot (slot_from found (marks_at ns page) slot) in
      let here : page < length (pages_from v ms) = let l = length-pages_from v ms in let b = page_within v page slot within in omega arith in
      fill_by_all (page_in w ns) (set (pages_from v ms) page p) (length w.pages) no_page
      (length-set (pages_from v ms) page p ∙ length-pages_from v ms ∙ sym h.count) (λ k _. ⊎_elim
      (λ same. ap (λ k. get_or (set (pages_from v ms) page p) k no_page) same ∙ get_or-set_same (pages_from v ms) page p no_page here ∙ this_page within
      ∙ ap (page_in w ns) (sym same))
      (λ differ. get_or-set_other (pages_from v ms) page k p no_page differ ∙ page_read v ms k ∙ other_page k differ)
      (cases_eq k page))

  -- the view after the slot changed
  pub view_changed : (rest : Rest) (a : ℕ) → IsSlotAt v a page slot
      → with_slot (view_with v ms rest) a (slot_from found (marks_at ns page) slot) ≡ view_with w ns rest
  unfolding with_slot
  view_changed rest a at =
      let x : HeapView = view_with v ms rest in
      let t : SlotView = slot_from found (marks_at ns page) slot in
      let some : is_slot x a ≡ true = is_slot_read v ms rest a ∙ at.is in
      let read : page_with x a ≡ page_in v ms page = page_read v ms (page_of a) ∙ ap (page_in v ms) (sym at.on_page) in
      let pages : set (pages_from v ms) (page_of a) (with_slot_in (page_with x a) (slot_number (page_with x a).pool a) t) ≡ pages_from w ns =
      ap (λ (p : PageView). set (pages_from v ms) (page_of a) (with_slot_in p (slot_number p.pool a) t)) read
      ∙ ap (λ k. set (pages_from v ms) (page_of a) (with_slot_in (page_in v ms page) k t)) (ap (λ k. slot_number (pool_at v k) a) at.on_page ∙ sym at.in_slot)
      ∙ ap (λ k. set (pages_from v ms) k (with_slot_in (page_in v ms page) slot t)) (sym at.on_page)
      ∙ pages_changed (slot_within v a page slot at) in
      cond-true (is_slot x a) (record x { pages = set (pages_from v ms) (page_of a) (with_slot_in (page_with x a) (slot_number (page_with x a).pool a) t) })
      x some
      ∙ (λ i. record x { limit = sym h.limit i; pages = pages i; unswept = sym (same_unswept v w h.count h.unswept) i })

  this_fits : AreAllMarks v ms → FitsSlot found (marks_at ns page) slot → (s : ℕ) → FitsSlot (found_at w page s) (marks_at ns page) s
  this_fits all fit s = ⊎_elim
      (λ same. subst (λ s. FitsSlot (found_at w page s) (marks_at ns page) s) (sym same) (subst (λ f. FitsSlot f (marks_at ns page) slot) (sym h.here) fit))
      (λ differ. subst (λ f. FitsSlot f (marks_at ns page) s) (sym (h.other page s (inr differ)))
      (fits_same (found_at v page s) (marks_at ms page) (marks_at ns page) s (g.slots s differ) ((all.of_page page).each s)))
      (cases_eq s slot)

  -- and what holds of the planes
  pub marks_changed : AreAllMarks v ms → FitsSlot found (marks_at ns page) slot → AreAllMarks w ns
  marks_changed all fit = record {
    all = g.all ∙ all.all ∙ sym h.count;
    of_page = λ k. ⊎_elim
        (λ same. subst (λ k. AreMarksOf (page_at w k) (marks_at ns k)) (sym same) (record {
          wide = subst (AreWide (marks_at ns page)) (sym (h.slots page)) (g.wide _ (all.of_page page).wide);
          each = this_fits all fit;
        }))
        (λ differ. record {
          wide = subst (AreWide (marks_at ns k)) (sym (h.slots k)) (subst (λ m. AreWide m (length (page_at v k).slots)) (sym (g.pages k differ))
              (all.of_page k).wide);
          each = λ s. subst (λ f. FitsSlot f (marks_at ns k) s) (sym (h.other k s (inl differ)))
              (subst (λ m. FitsSlot (found_at v k s) m s) (sym (g.pages k differ)) ((all.of_page k).each s));
        })
        (cases_eq k page);
  }

-- the planes of a new object's slot
pub new_wide : (m : Marks) (s n : ℕ) (guard : Guard) → AreWide m n → AreWide (new_marks m s guard) n
new_wide m s n guard h = record {
  object = length-set m.object s true ∙ h.object;
  moved = length-set m.moved s false ∙ h.moved;
  guard = length-set m.guard s (is_unprotected guard) ∙ h.guard;
  marked = length-set m.marked s false ∙ h.marked;
  black = length-set m.black s false ∙ h.black;
  age_low = length-set m.age_low s false ∙ h.age_low;
  age_high = length-set m.age_high s false ∙ h.age_high;
  remembered = length-set m.remembered s false ∙ h.remembered;
  kept = length-set m.kept s false ∙ h.kept;
  pinned = length-set m.pinned s false ∙ h.pinned;
  gone = length-set m.gone s false ∙ h.gone;
}

pub new_other : (m : Marks) (s : ℕ) (guard : Guard) (k : ℕ) → k ≢ s → SameBits m (new_marks m s guard) k
new_other m s guard k differ = record {
  object = bit-set_other m.object s k true differ;
  moved = bit-set_other m.moved s k false differ;
  traits = λ i. record {
    guard = guard_from (bit-set_other m.guard s k (is_unprotected guard) differ i);
    colour = colour_from (bit-set_other m.marked s k false differ i) (bit-set_other m.black s k false differ i);
    age = age_from (bit-set_other m.age_low s k false differ i) (bit-set_other m.age_high s k false differ i);
    remembered = bit-set_other m.remembered s k false differ i;
    kept = bit-set_other m.kept s k false differ i;
    pinned = bit-set_other m.pinned s k false differ i;
    gone = bit-set_other m.gone s k false differ i;
  };
}

pub new_marks_changed : (ms : List Marks) (page slot : ℕ) (guard : Guard) → page < length ms
    → MarksChanged ms (set ms page (new_marks (marks_at ms page) slot guard)) page slot
new_marks_changed ms page slot guard here =
    let m : Marks = new_marks (marks_at ms page) slot guard in
    let read : marks_at (set ms page m) page ≡ m = get_or-set_same ms page m (clear_marks 0) here in
    record {
      all = length-set ms page m;
      wide = λ n h. subst (λ m. AreWide m n) (sym read) (new_wide (marks_at ms page) slot n guard h);
      pages = λ k differ. get_or-set_other ms page k m (clear_marks 0) differ;
      slots = λ s differ. subst (λ n. SameBits (marks_at ms page) n s) (sym read) (new_other (marks_at ms page) slot guard s differ);
    }
