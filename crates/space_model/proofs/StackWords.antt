-- The word of a value, and the value of a word.
use Rattle.std.proofs.Common.{◌≡◌, ℕ, ◌+◌, ◌*◌, ◌/◌, ◌%◌, ◌^◌, ◌<◌, ◌==◌, ◌&&◌, nat_lt, true, false, List, [], ◌∷◌, ◌++◌, reverse, nat_eq, refl, ap, ◌∙◌, arith, Option, None, Some, Result, Ok, Err, ⊎_elim}
use Rattle.std.specs.Prelude.{◌↔◌, slice_get}
use Rattle.std.specs.Option.{ok_or, unwrap_or}
use Rattle.std.specs.Set.{is_member}
use Rattle.std.specs.Ordering.{nat_cmp}
use Rattle.std.specs.FinMap.{FinMap, get}
use Rattle.std.proofs.lemmas.Bool.{or_left, eq-eqb, ne_eqb, false≢true}
use Rattle.std.proofs.lemmas.Bool.Decides.{nat_tests}
use Rattle.std.proofs.lemmas.List.{reverse-append}
use Rattle.space_model.specs.declared.command.Input.{Input}
use Rattle.space_model.specs.declared.command.Operand.TheVariants.{Word}
use Rattle.space_model.specs.declared.reply.Refusal.{Refusal}
use Rattle.space_model.specs.declared.reply.Refusal.TheVariants.{NotObject}
use Rattle.space_model.specs.declared.reply.Reply.{Reply}
use Rattle.space_model.specs.declared.reply.Reply.TheVariants.{NoMemory, Pushed, Refused}
use Rattle.space_model.specs.declared.value.Value.{Value}
use Rattle.space_model.specs.declared.value.Value.TheVariants.{Nil, Small, Name}
use Rattle.space_model.specs.Graph.{Item}
use Rattle.space_model.specs.Layout.{page_bytes, slot_address, slot_bytes}
use Rattle.space_model.specs.Operands.{named_by, value_word, word_value, word_value_in, operand_value, input_value}
use Rattle.space_model.specs.Reach.{Named}
use Rattle.space_model.specs.Maps.{names_at}
use Rattle.space_model.specs.CommandTexts.{IsWritableInput}
use Rattle.space_model.specs.Places.{pool_of}
use Rattle.space_model.specs.Sound.{Sound, AreSlots, IsSmall}
use Rattle.space_model.specs.StackCommands.{PushesWord, PushReply, Pushes}
use Rattle.space_model.specs.State.{State}
use Rattle.space_model.specs.Words.{small_number_word}
use Rattle.space_model.proofs.MapLaws.{some_get}
use Rattle.space_model.proofs.ReachedLaws.{member-names_at}
use Rattle.space_model.proofs.ValuesHold.{input_holds, first_member}
use Rattle.space_model.proofs.ValuesKept.{IsPresentValue, name_present, present_kept, small_kept}

-- addresses are even, and none is 0

even_address : (page size slot : ℕ) → (page_bytes * (page + 1) + (40 * size) * slot) % 2 ≡ 0
even_address page size slot =
    let whole : page_bytes * (page + 1) + (40 * size) * slot ≡ 2 * (page_bytes / 2 * (page + 1) + 20 * (size * slot)) = omega arith in
    omega (arith, whole)

pub slot_address-even : (page pool slot : ℕ) → slot_address page pool slot % 2 ≡ 0
unfolding slot_address slot_bytes
slot_address-even page pool slot = even_address page (2 ^ pool) slot

pub slot_address-some : (page pool slot : ℕ) → 0 < slot_address page pool slot
unfolding slot_address
slot_address-some page pool slot = omega arith

-- what stands at an address

first_name : (names : List ℕ) (name : ℕ) → is_member nat_eq names name ≡ true → ((n : ℕ) → is_member nat_eq names n ≡ true → n ≡ name) →
    slice_get names 0 ≡ Some name
first_name [] name m same = absurd (false≢true m)
first_name (n ∷ names) name m same = ap Some (same n (or_left _ _ (eq-eqb n n refl)))

no_first : (names : List ℕ) → ((n : ℕ) → is_member nat_eq names n ≡ true → ⊥) → slice_get names 0 ≡ None
no_first [] h = refl
no_first (n ∷ names) h = absurd (h n (or_left _ _ (eq-eqb n n refl)))

-- the address of a name names it
pub named_by-place : (graph : List Item) (pages : List (Option ℕ)) (place : FinMap nat_cmp ℕ) (name word : ℕ) → AreSlots graph pages place →
    get place name ≡ Some word → named_by place word ≡ Some name
named_by-place graph pages place name word slots e =
    first_name (names_at place word) name ((member-names_at place word name).1 e)
    (λ n m. slots.once n name word ((member-names_at place word n).0 m) e)

-- and the name that a word names has the word as its address
pub named_is_told : (s : State) (word name : ℕ) → Sound s → (named_by s.heap.place word ≡ Some name) ↔ Named s word name
named_is_told s word name h = (
  (λ e. (member-names_at s.heap.place word name).0 (first_member (names_at s.heap.place word) name e)),
  (λ e. named_by-place s.graph s.heap.pages s.heap.place name word h.layout.placed e),
)

-- a word that is the address of no name names none
pub named_by-none : (place : FinMap nat_cmp ℕ) (word : ℕ) → ((name : ℕ) → get place name ≡ Some word → ⊥) → named_by place word ≡ None
named_by-none place word h = no_first (names_at place word) (λ n m. h n ((member-names_at place word n).0 m))

-- the word of a value has that value

odd_false : (word : ℕ) → word % 2 ≡ 0 → (nat_lt word (2 ^ 63) && (word % 2 == 1)) ≡ false
odd_false word e = grind (arith, nat_tests, e)

pub word_value-name : (graph : List Item) (pages : List (Option ℕ)) (place : FinMap nat_cmp ℕ) (name word : ℕ) → AreSlots graph pages place →
    get place name ≡ Some word → word_value place word ≡ Some (Name name)
word_value-name graph pages place name word slots e =
    let slot = slots.at name word e in
    let even : word % 2 ≡ 0 = ap (λ (n : ℕ). n % 2) slot.is ∙ slot_address-even slot.page (pool_of graph name) slot.slot in
    let some = slot_address-some slot.page (pool_of graph name) slot.slot in
    let not_nil : (word == 0) ≡ false = ne_eqb word 0 (λ f. omega (arith, f, slot.is, some)) in
    rw (not_nil, odd_false word even, named_by-place graph pages place name word slots e) refl

small_not_nil : (number : ℕ) → (2 * number + 1 == 0) ≡ false
small_not_nil number = ne_eqb (2 * number + 1) 0 (λ f. omega (arith, f))

small_true : (number : ℕ) → number < 2 ^ 62 → (nat_lt (2 * number + 1) (2 ^ 63) && ((2 * number + 1) % 2 == 1)) ≡ true
small_true number low = grind (arith, nat_tests, low)

pub word_value-small : (place : FinMap nat_cmp ℕ) (number : ℕ) → number < 2 ^ 62 → word_value place (small_number_word number) ≡ Some (Small number)
word_value-small place number low =
    let half : (2 * number + 1) / 2 ≡ number = omega arith in
    rw (small_not_nil number, small_true number low, half) refl

pub word_value-back : (s : State) (value : Value) → Sound s → IsPresentValue s.heap.place value → IsSmall value →
    word_value s.heap.place (value_word s.heap.place value) ≡ Some value
word_value-back s Nil h present small = refl
word_value-back s (Small number) h present small = word_value-small s.heap.place number small
word_value-back s (Name name) h present small =
    let at = some_get (get s.heap.place name) (name_present s.heap.place name present) in
    let word : value_word s.heap.place (Name name) ≡ at.0 = ap (λ (o : Option ℕ). unwrap_or o 0) at.1 in
    rw word (word_value-name s.graph s.heap.pages s.heap.place name at.0 h.layout.placed at.1)

-- what was pushed is the value of the top

top_is : (words : List ℕ) (word : ℕ) → slice_get (reverse (words ++ word ∷ [])) 0 ≡ Some word
top_is words word = ap (λ (l : List ℕ). slice_get l 0) (reverse-append words (word ∷ []))

pushed_top : (s t : State) (value : Value) (word : ℕ) (names : Option ℕ) → Sound s → IsPresentValue s.heap.place value → IsSmall value →
    PushesWord s (value_word s.heap.place value) (Pushed word names) t → operand_value t (Word 0) ≡ Ok value
pushed_top s t value word names h present small raws = ⊎_elim
    (λ (_, after).
    let top : operand_value t (Word 0) ≡ word_value_in s.heap.place (Some (value_word s.heap.place value)) =
    rw after (ap (word_value_in s.heap.place) (top_is s.stack (value_word s.heap.place value))) in
    top ∙ ap (λ (o : Option Value). ok_or o NotObject) (word_value-back s value h present small))
    (λ (lacking, _). absurd (no_lack lacking))
    raws
  where
    no_lack : ◌≡◌ {A = Reply} (Pushed word names) NoMemory → ⊥
    no_lack e = cc

no_refusal : (word : ℕ) (names : Option ℕ) (why : Refusal) → ◌≡◌ {A = Reply} (Pushed word names) (Refused why) → ⊥
no_refusal word names why e = cc

pushed_found : (s t : State) (input : Input) (found : Result Value Refusal) (word : ℕ) (names : Option ℕ) → IsWritableInput input → Sound s →
    input_value s input ≡ found → PushReply s found (Pushed word names) t → operand_value t (Word 0) ≡ found
pushed_found s t input (Ok value) word names i h f e =
    pushed_top s t value word names h
    (input_holds s (IsPresentValue s.heap.place) (present_kept s h) input value i f)
    (input_holds s IsSmall (small_kept s h) input value i f)
    e
pushed_found s t input (Err why) word names i h f e = absurd (no_refusal word names why e.reply_is)

pub pushed_is_top : (s t : State) (input : Input) (word : ℕ) (names : Option ℕ) → IsWritableInput input → Sound s → Pushes s input (Pushed word names) t →
    operand_value t (Word 0) ≡ input_value s input
pushed_is_top s t input word names i h e = pushed_found s t input (input_value s input) word names i h refl e
