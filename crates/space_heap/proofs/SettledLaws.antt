-- The laws of a verdict, for the callers: what stands where, what is gone, and which pages wait for a sweep.
use Rattle.std.proofs.Common.{◌≡◌, ⊎_elim, ℕ, ◌≤◌, Bool, true, false, not, ◌&&◌, [], length, map, nat_eq, refl, sym, ap, ◌∙◌, subst, arith, Option, None, Some}
use Rattle.std.specs.Prelude.{is_some}
use Rattle.std.specs.List.{range_with_len, IsDistinct}
use Rattle.std.specs.Set.{is_member}
use Rattle.std.proofs.lemmas.Bool.{cases_Bool, cases_lt}
use Rattle.std.proofs.lemmas.Bool.Decides.{nat_tests}
use Rattle.std.proofs.lemmas.List.{get_or_past}
use Rattle.space_model.proofs.Members.{member_filter}
use Rattle.space_model.specs.declared.event.Kind.{Kind}
use Rattle.space_model.specs.Layout.{page_of}
use Rattle.space_heap.specs.Slots.{ObjectView, SlotView, Free, Moved, Object, has_object, has_present, object_in, is_free, map_slot}
use Rattle.space_heap.specs.HeapView.{PageView, HeapView, no_page, pool_at, pool_with, is_slot, is_unswept, slot_at, map_page}
use Rattle.space_heap.specs.Objects.{is_occupied, is_object, is_moved, object_of, resolved}
use Rattle.space_heap.specs.FreeSlots.{is_pool, is_free_at}
use Rattle.space_heap.specs.Marking.{colour_of, IsCoherent}
use Rattle.space_heap.specs.Sweeping.{is_white, is_gone, has_gone, settled_object, pooled_pages, phase_with, minors_after, others_after, settled, HasNoGone}
use Rattle.space_heap.proofs.fields.Unswept.{member_range}
use Rattle.space_heap.proofs.MappedLaws.{pool_at-mapped, count-mapped, test-mapped, is_occupied-mapped, object_of-mapped, stays-mapped, resolved-mapped, is_moved-mapped}
use Rattle.space_heap.proofs.ObjectLaws.{is_object_is}

past_pool : (v : HeapView) (k : ℕ) → length v.pages ≤ k → is_some (pool_at v k) ≡ false
past_pool v k past = ap (λ (p : PageView). is_some p.pool) (get_or_past v.pages k no_page past)

-- a page is in the list of those with a pool where it has one
pub pooled_read : (v : HeapView) (k : ℕ) → is_member nat_eq (pooled_pages v) k ≡ is_some (pool_at v k)
pooled_read v k =
    let m = member_filter (λ page. is_some (pool_at v page)) (range_with_len 0 (length v.pages)) k in
    let r = member_range 0 (length v.pages) k in
    ⊎_elim
    (λ within. grind (arith, nat_tests, m, r))
    (λ past. grind (arith, nat_tests, m, r, past_pool v k past))
    (cases_lt k (length v.pages))

-- where none of the objects that stand is gone each of them can be named
pub none_gone : (v : HeapView) (a : ℕ) → HasNoGone v → is_occupied v a ≡ is_object v a
none_gone v a none = ⊎_elim
    (λ e. e ∙ sym (is_object_is v a ∙ ap (λ b. b && not (object_of v a).gone) e ∙ ap not (none a e)))
    (λ e. e ∙ sym (is_object_is v a ∙ ap (λ b. b && not (object_of v a).gone) e))
    (cases_Bool (is_occupied v a))

module _ (v : HeapView) (kind : Kind) where
  abbrev w : HeapView
  w = settled v kind

  pages-settled : w.pages ≡ map (map_page settled_object) v.pages
  unfolding settled
  pages-settled = refl

  pub pool_at-settled : (page : ℕ) → pool_at w page ≡ pool_at v page
  pool_at-settled = pool_at-mapped settled_object v w pages-settled

  pub count-settled : length w.pages ≡ length v.pages
  count-settled = count-mapped settled_object v w pages-settled

  -- what stands, stands
  pub is_occupied-settled : (a : ℕ) → is_occupied w a ≡ is_occupied v a
  is_occupied-settled = is_occupied-mapped settled_object v w pages-settled

  -- an object is as before, and gone where it is white
  pub object_of-settled : (a : ℕ) → is_occupied v a ≡ true → object_of w a ≡ settled_object (object_of v a)
  object_of-settled = object_of-mapped settled_object v w pages-settled

  -- a part of an object that isn't whether it is gone stays everywhere
  pub stays-settled : {X : Type 0} (f : ObjectView → X) (a : ℕ) → ((o : ObjectView) → f (settled_object o) ≡ f o) → f (object_of w a) ≡ f (object_of v a)
  stays-settled f a same = stays-mapped settled_object v w pages-settled f a same

  pub colour_of-settled : (a : ℕ) → colour_of w a ≡ colour_of v a
  colour_of-settled a = stays-settled (λ (o : ObjectView). o.colour) a (λ o. refl)

  -- an object can be named where it stands and isn't white
  pub is_object-settled : (a : ℕ) → is_object w a ≡ (is_occupied v a && not (is_white (colour_of v a)))
  unfolding is_object is_occupied object_of
  is_object-settled a = test-mapped settled_object v w pages-settled has_present (λ s. has_object s && not (is_white (object_in s).colour)) a present
    where
      present : (s : SlotView) → has_present (map_slot settled_object s) ≡ (has_object s && not (is_white (object_in s).colour))
      present Free = refl
      present (Moved to) = refl
      present (Object o) = refl

  -- so where none was gone, those can be named that could be and that aren't white
  pub is_object-settled_from : (a : ℕ) → HasNoGone v → is_object w a ≡ (is_object v a && not (is_white (colour_of v a)))
  is_object-settled_from a none = is_object-settled a ∙ ap (λ b. b && not (is_white (colour_of v a))) (none_gone v a none)

  -- a gone object is a white one
  pub is_gone-settled : (a : ℕ) → is_gone w a ≡ (is_occupied v a && is_white (colour_of v a))
  unfolding is_occupied object_of
  is_gone-settled a = test-mapped settled_object v w pages-settled has_gone (λ s. has_object s && is_white (object_in s).colour) a gone
    where
      gone : (s : SlotView) → has_gone (map_slot settled_object s) ≡ (has_object s && is_white (object_in s).colour)
      gone Free = refl
      gone (Moved to) = refl
      gone (Object o) = refl

  pub resolved-settled : (word : ℕ) → resolved w word ≡ resolved v word
  resolved-settled = resolved-mapped settled_object v w pages-settled

  pub is_moved-settled : (a : ℕ) → is_moved w a ≡ is_moved v a
  is_moved-settled = is_moved-mapped settled_object v w pages-settled

  -- the pages that have a pool wait for a sweep
  pub is_unswept-settled : (page : ℕ) → is_unswept w page ≡ is_some (pool_at v page)
  unfolding settled
  is_unswept-settled page = pooled_read v page

  pub unswept-settled : w.unswept ≡ pooled_pages v
  unfolding settled
  unswept-settled = refl

  -- so no address is free until there is a sweep
  pub is_free_at-settled : (pool a : ℕ) → is_free_at w pool a ≡ false
  unfolding is_free_at pool_with
  is_free_at-settled pool a = none (is_slot w a) (pool_with w a) (is_free (slot_at w a)) (is_unswept w (page_of a))
      (is_unswept-settled (page_of a) ∙ ap is_some (sym (pool_at-settled (page_of a))))
    where
      none : (slot : Bool) (own : Option ℕ) (free unswept : Bool) → unswept ≡ is_some own → (slot && (is_pool own pool && (free && not unswept))) ≡ false
      none true None free unswept e = refl
      none true (Some own) true unswept e = ap (λ b. nat_eq own pool && not b) e ∙ nothing (nat_eq own pool)
        where
          nothing : (b : Bool) → (b && false) ≡ false
          nothing true = refl
          nothing false = refl
      none true (Some own) false unswept e = nothing (nat_eq own pool)
        where
          nothing : (b : Bool) → (b && false) ≡ false
          nothing true = refl
          nothing false = refl
      none false own free unswept e = refl

  pub limit-settled : w.limit ≡ v.limit
  unfolding settled
  limit-settled = refl

  pub grey-settled : w.grey ≡ v.grey
  unfolding settled
  grey-settled = refl

  pub cursor-settled : w.cursor ≡ v.cursor
  unfolding settled
  cursor-settled = refl

  pub phase-settled : w.phase ≡ phase_with (pooled_pages v)
  unfolding settled
  phase-settled = refl

  pub counters-settled : w.counters ≡ record v.counters {
    minor_verdicts = minors_after kind v.counters.minor_verdicts;
    other_verdicts =
        others_after kind v.counters.other_verdicts;
  }
  unfolding settled
  counters-settled = refl

  -- nothing was grey and nothing is
  pub coherent_settled : v.grey ≡ [] → IsCoherent v → IsCoherent w
  coherent_settled none c =
      let grey : w.grey ≡ v.grey = grey-settled in
      let empty : (a : ℕ) → is_member nat_eq w.grey a ≡ false = λ a. ap (λ xs. is_member nat_eq xs a) (grey ∙ none) in
      record {
        once = subst (IsDistinct nat_eq) (sym grey) c.once;
        grey_listed = λ a g. ap (λ xs. is_member nat_eq xs a) grey ∙ c.grey_listed a (sym (colour_of-settled a) ∙ g);
        listed_grey = λ a m. let e = empty a in cc;
        present = λ a m. let e = empty a in cc;
      }
