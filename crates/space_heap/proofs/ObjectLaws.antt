-- The laws of objects at addresses, for the callers: what stands where after an object changed, after an allocation and after a new page.
use Rattle.std.proofs.Common.{ℕ, ◌+◌, None, Some, cond, ◌≡◌, ◌≢◌, ⊎_elim, Bool, true, false, true≢false, not, ◌&&◌, length, nat_eq, refl, sym, ap, ◌∙◌, subst}
use Rattle.std.specs.Set.{is_member}
use Rattle.std.proofs.lemmas.Bool.{cases_Bool, cases_eq, cond-true, cond-false, and_parts}
use Rattle.space_model.specs.Layout.{page_of}
use Rattle.space_heap.specs.Slots.{ObjectView, SlotView, Free, Moved, Object, has_object, has_present, object_in, is_free, moved_in}
use Rattle.space_heap.specs.HeapView.{Counters, HeapView, pool_at, pool_with, is_slot, is_unswept, slot_at, with_slot}
use Rattle.space_heap.specs.Objects.{is_occupied, is_object, object_of, resolved, with_object, placed}
use Rattle.space_heap.specs.FreeSlots.{is_pool, is_free_at, IsFreeAt}
use Rattle.space_heap.proofs.Laws.{SameRest, rest-with_slot, slot_at-with_slot_same, slot_at-with_slot_other, slot_at_none, is_slot-with_slot, pool_with-with_slot, pool_at-with_slot, count-with_slot}

-- an object that isn't gone is one that stands
pub is_object_is : (v : HeapView) (a : ℕ) → is_object v a ≡ (is_occupied v a && not (object_of v a).gone)
unfolding is_object is_occupied object_of
is_object_is v a = refl

pub occupied_from_object : (v : HeapView) (a : ℕ) → is_object v a ≡ true → is_occupied v a ≡ true
occupied_from_object v a e = (and_parts _ _ (sym (is_object_is v a) ∙ e)).0

-- an object stands in a slot
pub slot_from_occupied : (v : HeapView) (a : ℕ) → is_occupied v a ≡ true → is_slot v a ≡ true
unfolding is_occupied
slot_from_occupied v a e = ⊎_elim
    (λ some. some)
    (λ none. absurd (true≢false (sym e ∙ ap has_object (slot_at_none v a none))))
    (cases_Bool (is_slot v a))

pub with_object_none : (v : HeapView) (a : ℕ) (o : ObjectView) → is_occupied v a ≡ false → with_object v a o ≡ v
unfolding with_object
with_object_none v a o none = cond-false (is_occupied v a) (with_slot v a (Object o)) v none

pub with_object_some : (v : HeapView) (a : ℕ) (o : ObjectView) → is_occupied v a ≡ true → with_object v a o ≡ with_slot v a (Object o)
unfolding with_object
with_object_some v a o some = cond-true (is_occupied v a) (with_slot v a (Object o)) v some

by_cases : (v : HeapView) (a : ℕ) (o : ObjectView) (P : HeapView → Type 0) → P v → (is_occupied v a ≡ true → P (with_slot v a (Object o)))
    → P (with_object v a o)
by_cases v a o P none some = ⊎_elim
    (λ e. subst P (sym (with_object_some v a o e)) (some e))
    (λ e. subst P (sym (with_object_none v a o e)) none)
    (cases_Bool (is_occupied v a))

slot_same : (v : HeapView) (a : ℕ) (o : ObjectView) → is_occupied v a ≡ true → slot_at (with_slot v a (Object o)) a ≡ Object o
slot_same v a o e = slot_at-with_slot_same v a (Object o) (slot_from_occupied v a e)

-- a part of a slot that is the same for all objects stays
pub slot_stays : {X : Type 0} (f : SlotView → X) (v : HeapView) (a : ℕ) (o : ObjectView) (b : ℕ) → (is_occupied v a ≡ true → f (Object o) ≡ f (slot_at v a))
    → f (slot_at (with_object v a o) b) ≡ f (slot_at v b)
slot_stays f v a o b same = by_cases v a o (λ w. f (slot_at w b) ≡ f (slot_at v b)) refl
    (λ e. ⊎_elim
    (λ here. ap (λ b. f (slot_at (with_slot v a (Object o)) b)) here ∙ ap f (slot_same v a o e) ∙ same e ∙ ap (λ b. f (slot_at v b)) (sym here))
    (λ other. ap f (slot_at-with_slot_other v a (Object o) b other))
    (cases_eq b a))

-- a slot with an object
is_object_slot : (s : SlotView) → has_object s ≡ true → s ≡ Object (object_in s)
is_object_slot Free e = cc
is_object_slot (Moved to) e = cc
is_object_slot (Object o) e = refl

pub standing_slot : (v : HeapView) (a : ℕ) → is_occupied v a ≡ true → slot_at v a ≡ Object (object_of v a)
unfolding is_occupied object_of
standing_slot v a e = is_object_slot (slot_at v a) e

-- after an object changed the same addresses hold objects
pub is_occupied-with_object : (v : HeapView) (a : ℕ) (o : ObjectView) (b : ℕ) → is_occupied (with_object v a o) b ≡ is_occupied v b
unfolding is_occupied
is_occupied-with_object v a o b = slot_stays has_object v a o b (λ e. sym (ap has_object (standing_slot v a e)))

pub object_of-with_object_same : (v : HeapView) (a : ℕ) (o : ObjectView) → is_occupied v a ≡ true → object_of (with_object v a o) a ≡ o
unfolding object_of
object_of-with_object_same v a o e = ap (λ w. object_in (slot_at w a)) (with_object_some v a o e) ∙ ap object_in (slot_same v a o e)

pub object_of-with_object_other : (v : HeapView) (a : ℕ) (o : ObjectView) (b : ℕ) → b ≢ a → object_of (with_object v a o) b ≡ object_of v b
unfolding object_of
object_of-with_object_other v a o b differ = by_cases v a o (λ w. object_in (slot_at w b) ≡ object_in (slot_at v b)) refl
    (λ e. ap object_in (slot_at-with_slot_other v a (Object o) b differ))

-- a part of an object that didn't change stays everywhere
pub stays : {X : Type 0} (f : ObjectView → X) (v : HeapView) (a : ℕ) (o : ObjectView) (b : ℕ) → f o ≡ f (object_of v a)
    → f (object_of (with_object v a o) b) ≡ f (object_of v b)
unfolding object_of
stays f v a o b same = slot_stays (λ s. f (object_in s)) v a o b (λ _. same)

pub is_object-with_object : (v : HeapView) (a : ℕ) (o : ObjectView) (b : ℕ) → o.gone ≡ (object_of v a).gone → is_object (with_object v a o) b ≡ is_object v b
is_object-with_object v a o b same =
    is_object_is (with_object v a o) b
    ∙ ap (λ s. s && not (object_of (with_object v a o) b).gone) (is_occupied-with_object v a o b)
    ∙ ap (λ g. is_occupied v b && not g) (stays (λ (o : ObjectView). o.gone) v a o b same)
    ∙ sym (is_object_is v b)

pub resolved-with_object : (v : HeapView) (a : ℕ) (o : ObjectView) (word : ℕ) → resolved (with_object v a o) word ≡ resolved v word
unfolding resolved
resolved-with_object v a o word = slot_stays (moved_in word) v a o word (λ e. sym (ap (moved_in word) (standing_slot v a e)))

pub pool_at-with_object : (v : HeapView) (a : ℕ) (o : ObjectView) (page : ℕ) → pool_at (with_object v a o) page ≡ pool_at v page
pool_at-with_object v a o page = by_cases v a o (λ w. pool_at w page ≡ pool_at v page) refl (λ _. pool_at-with_slot v a (Object o) page)

pub count-with_object : (v : HeapView) (a : ℕ) (o : ObjectView) → length (with_object v a o).pages ≡ length v.pages
count-with_object v a o = by_cases v a o (λ w. length w.pages ≡ length v.pages) refl (λ _. count-with_slot v a (Object o))

pub is_slot-with_object : (v : HeapView) (a : ℕ) (o : ObjectView) (b : ℕ) → is_slot (with_object v a o) b ≡ is_slot v b
is_slot-with_object v a o b = by_cases v a o (λ w. is_slot w b ≡ is_slot v b) refl (λ _. is_slot-with_slot v a (Object o) b)

pool_with-with_object : (v : HeapView) (a : ℕ) (o : ObjectView) (b : ℕ) → pool_with (with_object v a o) b ≡ pool_with v b
pool_with-with_object v a o b = by_cases v a o (λ w. pool_with w b ≡ pool_with v b) refl (λ _. pool_with-with_slot v a (Object o) b)

-- whether an address is free, by the three parts
pub free_by : (v w : HeapView) (pool b : ℕ) → is_slot w b ≡ is_slot v b → pool_with w b ≡ pool_with v b → is_free (slot_at w b) ≡ is_free (slot_at v b)
    → w.unswept ≡ v.unswept → is_free_at w pool b ≡ is_free_at v pool b
unfolding is_free_at
free_by v w pool b slot its free unswept =
    ap (λ x. x && (is_pool (pool_with w b) pool && (is_free (slot_at w b) && not (is_unswept w (page_of b))))) slot
    ∙ ap (λ x. is_slot v b && (is_pool x pool && (is_free (slot_at w b) && not (is_unswept w (page_of b))))) its
    ∙ ap (λ x. is_slot v b && (is_pool (pool_with v b) pool && (x && not (is_unswept w (page_of b))))) free
    ∙ ap (λ x. is_slot v b && (is_pool (pool_with v b) pool && (is_free (slot_at v b) && not (is_member nat_eq x (page_of b))))) unswept

unswept-with_object : (v : HeapView) (a : ℕ) (o : ObjectView) → (with_object v a o).unswept ≡ v.unswept
unswept-with_object v a o = by_cases v a o (λ w. w.unswept ≡ v.unswept) refl (λ _. (rest-with_slot v a (Object o)).unswept)

unswept_placed : (v : HeapView) (a : ℕ) (o : ObjectView) → (placed v a o).unswept ≡ v.unswept
unfolding placed
unswept_placed v a o = (rest-with_slot v a (Object o)).unswept

pub is_free_at-with_object : (v : HeapView) (a : ℕ) (o : ObjectView) (pool b : ℕ) → is_free_at (with_object v a o) pool b ≡ is_free_at v pool b
is_free_at-with_object v a o pool b = free_by v (with_object v a o) pool b (is_slot-with_object v a o b) (pool_with-with_object v a o b)
    (slot_stays is_free v a o b (λ e. sym (ap is_free (standing_slot v a e)))) (unswept-with_object v a o)

-- what a free address tells
pub record FreeParts (v : HeapView) (pool a : ℕ) : Type 0 where
  pub slot : is_slot v a ≡ true
  pub its : is_pool (pool_with v a) pool ≡ true
  pub free : slot_at v a ≡ Free
  pub swept : is_unswept v (page_of a) ≡ false

free_slot : (s : SlotView) → is_free s ≡ true → s ≡ Free
free_slot Free e = refl
free_slot (Moved to) e = cc
free_slot (Object o) e = cc

pub free_parts : (v : HeapView) (pool a : ℕ) → IsFreeAt v pool a → FreeParts v pool a
unfolding is_free_at
free_parts v pool a e =
    let p = and_parts _ _ e in
    let q = and_parts _ _ p.1 in
    let r = and_parts _ _ q.1 in
    record { slot = p.0; its = q.0; free = free_slot (slot_at v a) r.0; swept = not_true (is_unswept v (page_of a)) r.1 }
  where
    not_true : (b : Bool) → not b ≡ true → b ≡ false
    not_true true e = sym e
    not_true false e = refl

-- no object stands at a free address
pub none_occupied_free : (v : HeapView) (pool a : ℕ) → IsFreeAt v pool a → is_occupied v a ≡ false
unfolding is_occupied
none_occupied_free v pool a e = ap has_object (free_parts v pool a e).free

pub resolved_free : (v : HeapView) (pool a : ℕ) → IsFreeAt v pool a → resolved v a ≡ a
unfolding resolved
resolved_free v pool a e = ap (moved_in a) (free_parts v pool a e).free

-- the slots after an allocation
slot_at-placed : (v : HeapView) (a : ℕ) (o : ObjectView) (b : ℕ) → slot_at (placed v a o) b ≡ slot_at (with_slot v a (Object o)) b
unfolding placed slot_at is_slot
slot_at-placed v a o b = refl

is_slot-placed : (v : HeapView) (a : ℕ) (o : ObjectView) (b : ℕ) → is_slot (placed v a o) b ≡ is_slot v b
unfolding placed is_slot
is_slot-placed v a o b = is_slot-with_slot v a (Object o) b

pool_with-placed : (v : HeapView) (a : ℕ) (o : ObjectView) (b : ℕ) → pool_with (placed v a o) b ≡ pool_with v b
unfolding placed pool_with
pool_with-placed v a o b = pool_with-with_slot v a (Object o) b

pub placed_here : (v : HeapView) (pool a : ℕ) (o : ObjectView) → IsFreeAt v pool a → slot_at (placed v a o) a ≡ Object o
placed_here v pool a o e = slot_at-placed v a o a ∙ slot_at-with_slot_same v a (Object o) (free_parts v pool a e).slot

pub placed_other : (v : HeapView) (a : ℕ) (o : ObjectView) (b : ℕ) → b ≢ a → slot_at (placed v a o) b ≡ slot_at v b
placed_other v a o b differ = slot_at-placed v a o b ∙ slot_at-with_slot_other v a (Object o) b differ

pub pool_at-placed : (v : HeapView) (a : ℕ) (o : ObjectView) (page : ℕ) → pool_at (placed v a o) page ≡ pool_at v page
unfolding placed
pool_at-placed v a o page = pool_at-with_slot v a (Object o) page

pub count-placed : (v : HeapView) (a : ℕ) (o : ObjectView) → length (placed v a o).pages ≡ length v.pages
unfolding placed
count-placed v a o = count-with_slot v a (Object o)

pub is_occupied-placed_same : (v : HeapView) (pool a : ℕ) (o : ObjectView) → IsFreeAt v pool a → is_occupied (placed v a o) a ≡ true
unfolding is_occupied
is_occupied-placed_same v pool a o e = ap has_object (placed_here v pool a o e)

pub is_occupied-placed_other : (v : HeapView) (a : ℕ) (o : ObjectView) (b : ℕ) → b ≢ a → is_occupied (placed v a o) b ≡ is_occupied v b
unfolding is_occupied
is_occupied-placed_other v a o b differ = ap has_object (placed_other v a o b differ)

pub object_of-placed_same : (v : HeapView) (pool a : ℕ) (o : ObjectView) → IsFreeAt v pool a → object_of (placed v a o) a ≡ o
unfolding object_of
object_of-placed_same v pool a o e = ap object_in (placed_here v pool a o e)

pub object_of-placed_other : (v : HeapView) (a : ℕ) (o : ObjectView) (b : ℕ) → b ≢ a → object_of (placed v a o) b ≡ object_of v b
unfolding object_of
object_of-placed_other v a o b differ = ap object_in (placed_other v a o b differ)

pub is_object-placed_same : (v : HeapView) (pool a : ℕ) (o : ObjectView) → IsFreeAt v pool a → is_object (placed v a o) a ≡ not o.gone
unfolding is_object
is_object-placed_same v pool a o e = ap has_present (placed_here v pool a o e)

pub is_object-placed_other : (v : HeapView) (a : ℕ) (o : ObjectView) (b : ℕ) → b ≢ a → is_object (placed v a o) b ≡ is_object v b
unfolding is_object
is_object-placed_other v a o b differ = ap has_present (placed_other v a o b differ)

pub resolved-placed : (v : HeapView) (pool a : ℕ) (o : ObjectView) (word : ℕ) → IsFreeAt v pool a → resolved (placed v a o) word ≡ resolved v word
unfolding resolved
resolved-placed v pool a o word e = ⊎_elim
    (λ same. ap (λ b. moved_in word (slot_at (placed v a o) b)) same ∙ ap (moved_in word) (placed_here v pool a o e)
    ∙ sym (ap (moved_in word) (free_parts v pool a e).free) ∙ ap (λ b. moved_in word (slot_at v b)) (sym same))
    (λ other. ap (moved_in word) (placed_other v a o word other))
    (cases_eq word a)

and_false : (b c : Bool) → b && (c && false) ≡ false
and_false true true = refl
and_false true false = refl
and_false false c = refl

pub is_free_at-placed_same : (v : HeapView) (pool a : ℕ) (o : ObjectView) (q : ℕ) → IsFreeAt v pool a → is_free_at (placed v a o) q a ≡ false
unfolding is_free_at
is_free_at-placed_same v pool a o q e =
    ap (λ s. is_slot (placed v a o) a && (is_pool (pool_with (placed v a o) a) q && (is_free s && not (is_unswept (placed v a o) (page_of a)))))
    (placed_here v pool a o e)
    ∙ and_false (is_slot (placed v a o) a) (is_pool (pool_with (placed v a o) a) q)

pub is_free_at-placed_other : (v : HeapView) (a : ℕ) (o : ObjectView) (q b : ℕ) → b ≢ a → is_free_at (placed v a o) q b ≡ is_free_at v q b
is_free_at-placed_other v a o q b differ = free_by v (placed v a o) q b (is_slot-placed v a o b) (pool_with-placed v a o b)
    (ap is_free (placed_other v a o b differ)) (unswept_placed v a o)

-- the word that names an object is the address where it stands
pub object_from_word : (v : HeapView) (word a : ℕ) → cond (is_object v word) (Some word) None ≡ Some a → is_object v a ≡ true
object_from_word v word a e = ⊎_elim
    (λ is. let same : Some word ≡ Some a = sym (cond-true (is_object v word) (Some word) None is)
    ∙ e in let at : word ≡ a = cc in subst (λ a. is_object v a ≡ true) at is)
    (λ none. let never : None ≡ Some a = sym (cond-false (is_object v word) (Some word) None none) ∙ e in cc)
    (cases_Bool (is_object v word))

pub occupied_from_word : (v : HeapView) (word a : ℕ) → cond (is_object v word) (Some word) None ≡ Some a → is_occupied v a ≡ true
occupied_from_word v word a e = occupied_from_object v a (object_from_word v word a e)

-- all but the slots stays
pub rest-with_object : (v : HeapView) (a : ℕ) (o : ObjectView) → SameRest v (with_object v a o)
rest-with_object v a o = by_cases v a o (SameRest v) (record { limit = refl; unswept = refl; grey = refl; phase = refl; cursor = refl; counters = refl })
    (λ _. rest-with_slot v a (Object o))

-- an allocation raises one counter
pub born-placed : (v : HeapView) (a : ℕ) (o : ObjectView) → (placed v a o).counters.born ≡ v.counters.born + 1
unfolding placed
born-placed v a o = ap (λ (c : Counters). c.born + 1) (rest-with_slot v a (Object o)).counters

pub limit-placed : (v : HeapView) (a : ℕ) (o : ObjectView) → (placed v a o).limit ≡ v.limit
unfolding placed
limit-placed v a o = (rest-with_slot v a (Object o)).limit

pub unswept-placed : (v : HeapView) (a : ℕ) (o : ObjectView) → (placed v a o).unswept ≡ v.unswept
unfolding placed
unswept-placed v a o = (rest-with_slot v a (Object o)).unswept

pub grey-placed : (v : HeapView) (a : ℕ) (o : ObjectView) → (placed v a o).grey ≡ v.grey
unfolding placed
grey-placed v a o = (rest-with_slot v a (Object o)).grey

pub phase-placed : (v : HeapView) (a : ℕ) (o : ObjectView) → (placed v a o).phase ≡ v.phase
unfolding placed
phase-placed v a o = (rest-with_slot v a (Object o)).phase

pub cursor-placed : (v : HeapView) (a : ℕ) (o : ObjectView) → (placed v a o).cursor ≡ v.cursor
unfolding placed
cursor-placed v a o = (rest-with_slot v a (Object o)).cursor

pub counters-placed : (v : HeapView) (a : ℕ) (o : ObjectView) → (placed v a o).counters ≡ record v.counters { born = v.counters.born + 1 }
unfolding placed
counters-placed v a o = ap (λ (c : Counters). record c { born = c.born + 1 }) (rest-with_slot v a (Object o)).counters
