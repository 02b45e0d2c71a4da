-- The graph stays.
use Rattle.std.proofs.Common.{◌≡◌, ℕ, List, [], ◌∷◌, ◌||◌, nat_le, refl, sym, ap, ◌∙◌, arith, not, ◌&&◌}
use Rattle.space_model.specs.Ages.{is_protected_guard}
use Rattle.space_heap.specs.declared.colour.Colour.{Colour}
use Rattle.space_heap.specs.Slots.{ObjectView}
use Rattle.space_heap.specs.HeapView.{HeapView}
use Rattle.space_heap.specs.Objects.{is_occupied, is_object, object_of, with_object}
use Rattle.space_heap.specs.Marking.{whitened, recoloured, unmarked}
use Rattle.space_heap.specs.Generations.{old_marked, is_protected_at, is_young_word}
use Rattle.space_heap.proofs.ObjectLaws.{is_object_is, is_occupied-with_object, stays, resolved-with_object, pool_at-with_object, count-with_object, is_free_at-with_object, rest-with_object}
use Rattle.space_heap.proofs.GenerationLaws.{is_occupied-old_marked, object_of-old_marked, resolved-old_marked, is_free_at-old_marked, is_moved-old_marked, pool_at-old_marked, count-old_marked, state-old_marked}
use Rattle.space_heap.proofs.MarkingLaws.{is_occupied-recoloured, stays-recoloured, resolved-recoloured, is_free_at-recoloured, pool_at-recoloured, count-recoloured, state-recoloured, is_occupied-unmarked, object_of-unmarked, resolved-unmarked, is_free_at-unmarked, pool_at-unmarked, count-unmarked, state-unmarked}
use Rattle.space_heap.proofs.FreeLaws.{is_moved-with_object, is_moved-recoloured, is_moved-unmarked}
use Rattle.space_tracing.specs.Scans.{fields_of, is_aged_at, is_any_young, has_young_child}
use Rattle.space_tracing.specs.Graph.{is_child, SameGraph}

pub SameGraph-refl : (v : HeapView) → SameGraph v v
SameGraph-refl v = record {
  standing = λ a. refl;
  objects = λ a. refl;
  moves = λ word. refl;
  away = λ a. refl;
  free = λ pool a. refl;
  pools = λ page. refl;
  count = refl;
  limit = refl;
  unswept = refl;
  phase = refl;
  cursor = refl;
  counters = refl;
}

pub SameGraph-then : (u v w : HeapView) → SameGraph u v → SameGraph v w → SameGraph u w
SameGraph-then u v w s t = record {
  standing = λ a. t.standing a ∙ s.standing a;
  objects = λ a. t.objects a ∙ s.objects a;
  moves = λ word. t.moves word ∙ s.moves word;
  away = λ a. t.away a ∙ s.away a;
  free = λ pool a. t.free pool a ∙ s.free pool a;
  pools = λ page. t.pools page ∙ s.pools page;
  count = t.count ∙ s.count;
  limit = t.limit ∙ s.limit;
  unswept = t.unswept ∙ s.unswept;
  phase = t.phase ∙ s.phase;
  cursor = t.cursor ∙ s.cursor;
  counters = t.counters ∙ s.counters;
}

pub SameGraph-recoloured : (v : HeapView) (a : ℕ) (c : Colour) (grey : List ℕ) → SameGraph v (recoloured v a c grey)
SameGraph-recoloured v a c grey =
    let s = state-recoloured v a c grey in
    record {
      standing = is_occupied-recoloured v a c grey;
      objects = λ b. stays-recoloured v a c grey whitened b refl;
      moves = resolved-recoloured v a c grey;
      away = is_moved-recoloured v a c grey;
      free = is_free_at-recoloured v a c grey;
      pools = pool_at-recoloured v a c grey;
      count = count-recoloured v a c grey;
      limit = s.limit;
      unswept = s.unswept;
      phase = s.phase;
      cursor = s.cursor;
      counters = s.counters;
    }

pub SameGraph-unmarked : (v : HeapView) → SameGraph v (unmarked v)
SameGraph-unmarked v =
    let s = state-unmarked v in
    record {
      standing = is_occupied-unmarked v;
      objects = λ a. ap whitened (object_of-unmarked v a);
      moves = resolved-unmarked v;
      away = is_moved-unmarked v;
      free = is_free_at-unmarked v;
      pools = pool_at-unmarked v;
      count = count-unmarked v;
      limit = s.limit;
      unswept = s.unswept;
      phase = s.phase;
      cursor = s.cursor;
      counters = s.counters;
    }

pub SameGraph-old_marked : (v : HeapView) → SameGraph v (old_marked v)
SameGraph-old_marked v =
    let s = state-old_marked v in
    record {
      standing = is_occupied-old_marked v;
      objects = λ a. ap whitened (object_of-old_marked v a);
      moves = resolved-old_marked v;
      away = is_moved-old_marked v;
      free = is_free_at-old_marked v;
      pools = pool_at-old_marked v;
      count = count-old_marked v;
      limit = s.limit;
      unswept = s.unswept;
      phase = s.phase;
      cursor = s.cursor;
      counters = s.counters;
    }

-- a mark of an object changed
pub SameGraph-with_object : (v : HeapView) (a : ℕ) (o : ObjectView) → whitened o ≡ whitened (object_of v a) → SameGraph v (with_object v a o)
SameGraph-with_object v a o same =
    let r = rest-with_object v a o in
    record {
      standing = is_occupied-with_object v a o;
      objects = λ b. stays whitened v a o b same;
      moves = resolved-with_object v a o;
      away = is_moved-with_object v a o;
      free = is_free_at-with_object v a o;
      pools = pool_at-with_object v a o;
      count = count-with_object v a o;
      limit = r.limit;
      unswept = r.unswept;
      phase = r.phase;
      cursor = r.cursor;
      counters = r.counters;
    }

-- a part of an object that isn't a mark stays
pub same_part : {X : Type 0} (f : ObjectView → X) (v w : HeapView) (a : ℕ) → SameGraph v w → f (whitened (object_of w a)) ≡ f (whitened (object_of v a))
same_part f v w a s = ap f (s.objects a)

pub fields-same : (v w : HeapView) (a : ℕ) → SameGraph v w → fields_of w a ≡ fields_of v a
fields-same v w a s = same_part (λ (o : ObjectView). o.fields) v w a s

pub is_object-same : (v w : HeapView) (a : ℕ) → SameGraph v w → is_object w a ≡ is_object v a
is_object-same v w a s =
    is_object_is w a
    ∙ ap (λ b. b && not (object_of w a).gone) (s.standing a)
    ∙ ap (λ b. is_occupied v a && not b) (same_part (λ (o : ObjectView). o.gone) v w a s)
    ∙ sym (is_object_is v a)

pub is_child-same : (v w : HeapView) (m n : ℕ) → SameGraph v w → is_child w m n ≡ is_child v m n
is_child-same v w m n s = grind (arith, is_object-same v w n s, fields-same v w m s)

-- the parts of an object that scans rest on stay
pub guard-same : (v w : HeapView) (a : ℕ) → SameGraph v w → is_protected_at w a ≡ is_protected_at v a
guard-same v w a s = same_part (λ (o : ObjectView). is_protected_guard o.guard) v w a s

pub age-same : (v w : HeapView) (a : ℕ) → SameGraph v w → (object_of w a).age ≡ (object_of v a).age
age-same v w a s = same_part (λ (o : ObjectView). o.age) v w a s

pub aged-same : (v w : HeapView) (a : ℕ) → SameGraph v w → is_aged_at w a ≡ is_aged_at v a
aged-same v w a s = ap (λ n. nat_le 2 n) (age-same v w a s)

pub young_word-same : (v w : HeapView) (x : ℕ) → SameGraph v w → is_young_word w x ≡ is_young_word v x
young_word-same v w x s = grind (arith, is_object-same v w x s, guard-same v w x s, age-same v w x s)

any_young-same : (v w : HeapView) (words : List ℕ) → SameGraph v w → is_any_young w words ≡ is_any_young v words
unfolding is_any_young
any_young-same v w [] s = refl
any_young-same v w (x ∷ words) s = λ i. young_word-same v w x s i || any_young-same v w words s i

pub young_child-same : (v w : HeapView) (a : ℕ) → SameGraph v w → has_young_child w a ≡ has_young_child v a
young_child-same v w a s = ap (is_any_young w) (fields-same v w a s) ∙ any_young-same v w (fields_of v a) s

-- remembered and kept marks stay
pub record SameNotes (old new : HeapView) : Type 0 where
  pub remembered : (a : ℕ) → (object_of new a).remembered ≡ (object_of old a).remembered
  pub kept : (a : ℕ) → (object_of new a).kept ≡ (object_of old a).kept

pub SameNotes-refl : (v : HeapView) → SameNotes v v
SameNotes-refl v = record { remembered = λ a. refl; kept = λ a. refl }

pub SameNotes-then : (u v w : HeapView) → SameNotes u v → SameNotes v w → SameNotes u w
SameNotes-then u v w s t = record { remembered = λ a. t.remembered a ∙ s.remembered a; kept = λ a. t.kept a ∙ s.kept a }

pub SameNotes-recoloured : (v : HeapView) (a : ℕ) (c : Colour) (grey : List ℕ) → SameNotes v (recoloured v a c grey)
SameNotes-recoloured v a c grey = record {
  remembered = λ b. stays-recoloured v a c grey (λ (o : ObjectView). o.remembered) b refl;
  kept = λ b. stays-recoloured v a c grey (λ (o : ObjectView). o.kept) b refl;
}
