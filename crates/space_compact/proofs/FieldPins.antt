-- The fields of an object while what they name is pinned, one after another.
use Rattle.std.proofs.Common.{◌≡◌, ℕ, ◌+◌, ◌<◌, ◌≤◌, true, length, map, take, get_or, refl, sym, ap, ◌∙◌, subst, arith}
use Rattle.std.proofs.lemmas.List.{take_all}
use Rattle.space_heap.specs.Slots.{ObjectView}
use Rattle.space_heap.specs.HeapView.{HeapView}
use Rattle.space_heap.specs.Objects.{is_occupied, object_of, resolved}
use Rattle.space_heap.specs.Readings.{Reading, reading_of, IsNextField, IsReadWhole}
use Rattle.space_compact.specs.Pins.{pinned_word, pinned_words, child_words, SameButPins}
use Rattle.space_compact.proofs.PinMarks.{pinned_words-none, same_words, resolved_more}

-- from v to u what the fields name that were read was pinned
pub record ArePinned (v u : HeapView) (a : ℕ) (r : Reading) : Type 0 where
  pub pinned : u ≡ pinned_words v (map (resolved v) (take r.done (object_of v a).fields))
  pub reading : r ≡ record (reading_of v a) { done = r.done }

pub none_pinned : (v : HeapView) (a : ℕ) → ArePinned v v a (reading_of v a)
none_pinned v a = record { pinned = sym (pinned_words-none v); reading = refl }

module _ (v u : HeapView) (a : ℕ) (r : Reading) (p : ArePinned v u a r) where
  same : SameButPins v u
  same = subst (SameButPins v) (sym p.pinned) (same_words (map (resolved v) (take r.done (object_of v a).fields)) v)

  at : r.address ≡ a
  at = ap (λ (r : Reading). r.address) p.reading

  pub still_occupied : is_occupied v a ≡ true → is_occupied u r.address ≡ true
  still_occupied e = ap (is_occupied u) at ∙ same.standing a ∙ e

  fields_stay : (object_of u r.address).fields ≡ (object_of v a).fields
  fields_stay = ap (λ b. (object_of u b).fields) at ∙ ap (λ (o : ObjectView). o.fields) (same.objects a)

  pub count_stays : length (object_of u r.address).fields ≡ r.count
  count_stays = ap length fields_stay ∙ sym (ap (λ (r : Reading). r.count) p.reading)

  pub one_pinned : (after : Reading) (word to : ℕ) → IsNextField u r after word → to ≡ resolved u word → ArePinned v (pinned_word u to) a after
  one_pinned after word to next is =
      let within : r.done < length (object_of v a).fields = let w = next.within in let n = ap (λ (r : Reading). r.count) p.reading in omega arith in
      let read : to ≡ resolved u (get_or (object_of v a).fields r.done 0) = is ∙ ap (resolved u) (next.is ∙ ap (λ xs. get_or xs r.done 0) fields_stay) in
      let done : after.done ≡ r.done + 1 = ap (λ (r : Reading). r.done) next.after_it in
      record {
        pinned = resolved_more v u (object_of v a).fields r.done to within p.pinned read
            ∙ ap (λ n. pinned_words v (map (resolved v) (take n (object_of v a).fields))) (sym done);
        reading = next.after_it ∙ ap (λ (r : Reading). record r { done = r.done + 1 }) p.reading
            ∙ ap (λ n. record (reading_of v a) { done = n }) (sym done);
      }

  pub all_pinned : (after : Reading) → IsReadWhole r after → u ≡ pinned_words v (child_words v a)
  all_pinned after whole =
      let past : length (object_of v a).fields ≤ r.done = let w = whole.whole in let n = ap (λ (r : Reading). r.count) p.reading in omega arith in
      p.pinned ∙ ap (λ xs. pinned_words v (map (resolved v) xs)) (take_all r.done (object_of v a).fields past)
