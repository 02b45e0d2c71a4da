-- What can be moved before and after a move.
use Rattle.std.proofs.Common.{◌≡◌, ◌≢◌, ◌⊎◌, inl, inr, ⊎_elim, ℕ, ◌+◌, ◌*◌, ◌<◌, Bool, true, false, true≢false, not, nat_eq, refl, sym, ap, ◌∙◌, subst, arith, Option, None, Some, length}
use Rattle.std.proofs.lemmas.Bool.{cases_eq, and_parts, and_from, cond-true, cond-false, eqb-true}
use Rattle.std.proofs.lemmas.Bool.Decides.{nat_tests}
use Rattle.space_model.specs.Layout.{page_of}
use Rattle.space_heap.specs.Slots.{ObjectView, no_object}
use Rattle.space_heap.specs.HeapView.{HeapView, pool_at, pool_with}
use Rattle.space_heap.specs.Objects.{is_object, object_of}
use Rattle.space_heap.specs.FreeSlots.{is_pool, IsFreeAt}
use Rattle.space_heap.specs.LastMovable.{is_movable_in}
use Rattle.space_heap.specs.Relocation.{IsMove, is_movable, relocated}
use Rattle.space_heap.proofs.Laws.{page_in_heap}
use Rattle.space_heap.proofs.ObjectLaws.{free_parts, occupied_from_object, slot_from_occupied}
use Rattle.space_heap.proofs.RelocationLaws.{is_object-relocated, object_of-relocated, is_free_at-relocated, pool_at-relocated}
use Rattle.space_compact.specs.declared.moving.Fingers.{Fingers}
use Rattle.space_compact.specs.Moves.{IsPackedIn, IsMoveIn, AreFingers}

its_pool : (own : Option ℕ) (pool : ℕ) → is_pool own pool ≡ true → own ≡ Some pool
its_pool None pool e = cc
its_pool (Some own) pool e = ap Some (eqb-true own pool e)

-- what it tells that an object can be moved
pub record MovableParts (v : HeapView) (pool a : ℕ) : Type 0 where
  pub object : is_object v a ≡ true
  pub unpinned : (object_of v a).pinned ≡ false
  pub its : pool_at v (page_of a) ≡ Some pool

not_true : (b : Bool) → not b ≡ true → b ≡ false
not_true true e = sym e
not_true false e = refl

pub movable_parts : (v : HeapView) (pool a : ℕ) → is_movable_in v pool a ≡ true → MovableParts v pool a
movable_parts v pool a e =
    let p = and_parts _ _ e in
    let q = and_parts _ _ p.0 in
    record { object = q.0; unpinned = not_true (object_of v a).pinned q.1; its = its_pool (pool_at v (page_of a)) pool p.1 }

pub movable_from : (v : HeapView) (pool a : ℕ) → is_object v a ≡ true → (object_of v a).pinned ≡ false
    → pool_at v (page_of a) ≡ Some pool → is_movable_in v pool a ≡ true
movable_from v pool a o p its = and_from (is_movable v a) (is_pool (pool_at v (page_of a)) pool)
    (and_from (is_object v a) (not (object_of v a).pinned) o (ap not p))
    (ap (λ o. is_pool o pool) its ∙ grind (arith, nat_tests))

-- what can be moved stands below the end of the last page
pub movable_below : (v : HeapView) (pool a : ℕ) → is_movable_in v pool a ≡ true → a < (length v.pages + 1) * 65536
unfolding page_of
movable_below v pool a e =
    let within = page_in_heap v a (slot_from_occupied v a (occupied_from_object v a (movable_parts v pool a e).object)) in
    omega arith

-- where an object of the pool moves
module _ (v : HeapView) (pool from to : ℕ) (m : IsMoveIn v pool from to) where
  parts : MovableParts v pool from
  parts = movable_parts v pool from m.is

  abbrev w : HeapView
  w = relocated v from to

  pub move_is : IsMove v from to
  move_is = record { pool = pool; object = parts.object; its = parts.its; least = m.least }

  to_pool : pool_at v (page_of to) ≡ Some pool
  unfolding pool_with
  to_pool = its_pool (pool_at v (page_of to)) pool (free_parts v pool to m.least.free).its

  -- an object that can be moved after it could be before, or is the one that moved
  pub movable_before : (q a : ℕ) → is_movable_in w q a ≡ true → ((is_movable_in v q a ≡ true) × (a ≢ from)) ⊎ ((a ≡ to) × (q ≡ pool))
  movable_before q a e =
      let p = movable_parts w q a e in
      let is = is_object-relocated v pool from to parts.object m.least.free a in
      let of = object_of-relocated v pool from to parts.object m.least.free a in
      let its : pool_at v (page_of a) ≡ Some q = sym (pool_at-relocated v pool from to parts.object m.least.free (page_of a)) ∙ p.its in
      ⊎_elim
      (λ same. absurd (true≢false (sym p.object ∙ is ∙ cond-true (nat_eq a from) false _ (grind (arith, nat_tests)))))
      (λ apart. ⊎_elim
      (λ there. inr (there, let g : Some q ≡ Some pool = sym its ∙ ap (λ a. pool_at v (page_of a)) there ∙ to_pool in cc))
      (λ other.
      let f : nat_eq a from ≡ false = grind (arith, nat_tests) in
      let t : nat_eq a to ≡ false = grind (arith, nat_tests) in
      inl (
        movable_from v q a
            (sym (is ∙ cond-false (nat_eq a from) false _ f ∙ cond-false (nat_eq a to) true (is_object v a) t) ∙ p.object)
            (sym (ap (λ (o : ObjectView). o.pinned) (of ∙ cond-false (nat_eq a from) no_object _ f
            ∙ cond-false (nat_eq a to) (object_of v from) (object_of v a) t)) ∙ p.unpinned)
            its,
        apart,
      ))
      (cases_eq a to))
      (cases_eq a from)

  -- what is free after it was free before
  pub free_before : (q b : ℕ) → IsFreeAt w q b → IsFreeAt v q b
  free_before q b e = (and_parts _ _ (sym (is_free_at-relocated v pool from to parts.object m.least.free q b) ∙ e)).0

  -- so a pool but this one stays packed
  pub packed_still : (q : ℕ) → q ≢ pool → IsPackedIn v q → IsPackedIn w q
  packed_still q differ packed a b e f = ⊎_elim
      (λ old. packed a b old.0 (free_before q b f))
      (λ new. absurd (differ new.1))
      (movable_before q a e)

  -- and what can be moved in this pool lies below where the object was
  pub lower_still : (a : ℕ) → is_movable_in w pool a ≡ true → a < from
  lower_still a e = ⊎_elim
      (λ old. let h = m.highest a old.0 in let n = old.1 in omega arith)
      (λ new. let l = m.lower in let n = new.0 in omega arith)
      (movable_before pool a e)

  pub fingers_still : (f : Fingers) → f.pool ≡ pool → AreFingers v f → AreFingers w (record f { high = from })
  fingers_still f same h = record {
    done = λ q less. packed_still q (λ e. omega arith) (h.done q less);
    below = λ a e. lower_still a (subst (λ q. is_movable_in w q a ≡ true) same e);
    small = let b = h.small in let under = h.below from (subst (λ q. is_movable_in v q from ≡ true) (sym same) m.is) in omega arith;
  }
