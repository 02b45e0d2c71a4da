-- Free slots are linked after the walk over them, after an allocation and after a loan, and the words past the last slot stay 0.
use Rattle.std.proofs.Common.{◌≡◌, ◌≢◌, ◌⊎◌, inl, inr, ⊎_elim, ℕ, zero, suc, ◌+◌, ◌<◌, ◌≤◌, Bool, true, false, true≢false, List, [], ◌∷◌, length, drop, get_or, set, refl, sym, ap, ◌∙◌, subst, arith, Option, Some}
use Rattle.std.proofs.lemmas.Bool.{cases_eq, cases_lt}
use Rattle.std.proofs.lemmas.List.{get_or_past, length-set}
use Rattle.space_model.specs.Layout.{page_slots, slot_bytes}
use Rattle.space_planes.specs.Planes.{bit}
use Rattle.space_planes.proofs.Bits.{within_from_bit, bit-set_same, bit-set_other}
use Rattle.space_pages.specs.Slots.{words_of, slots_end, slot_words}
use Rattle.space_pages.proofs.SlotLaws.{length-slot_words, slot_words-with_slot_same, slot_words-with_slot_other, get_or-with_slot_past}
use Rattle.space_pools.specs.Links.{IsLink, IsLinked, AreLinked, IsClearPast, with_link}

-- each slot has room for its link
pub two_words : (pool : ℕ) → pool < 5 → 2 ≤ words_of pool
unfolding slot_bytes
two_words zero known = omega arith
two_words (suc zero) known = omega arith
two_words (suc (suc zero)) known = omega arith
two_words (suc (suc (suc zero))) known = omega arith
two_words (suc (suc (suc (suc zero)))) known = omega arith
two_words (suc (suc (suc (suc (suc pool))))) known = absurd (omega arith)

begins : (xs : List ℕ) (link : ℕ) → 2 ≤ length xs → set (set xs 0 0) 1 link ≡ 0 ∷ link ∷ drop 2 xs
begins [] link h = absurd (omega arith)
begins (x ∷ []) link h = absurd (omega arith)
begins (x ∷ y ∷ xs) link h = refl

-- one step of the walk: the links of the slots below are written, and that of this one is
module _ (pool : ℕ) (free : List Bool) (words : List ℕ) (s link : ℕ) (known : pool < 5) (count : length free ≡ page_slots pool) (whole : length words ≡ 8192)
    (at : bit free s ≡ true) where
  abbrev old : List ℕ
  old = slot_words words pool s

  abbrev written : List ℕ
  written = set (set old 0 0) 1 link

  within : (k : ℕ) → k < length free → k < page_slots pool
  within k inside = omega arith

  inside : s < page_slots pool
  inside = within s (within_from_bit free s at)

  wide : length old ≡ words_of pool
  wide = length-slot_words words pool s whole known inside

  long : length written ≡ words_of pool
  long = length-set (set old 0 0) 1 link ∙ length-set old 0 0 ∙ wide

  other : (k : ℕ) → k < length free → k ≢ s → slot_words (with_link words pool s link) pool k ≡ slot_words words pool k
  other k h differ = slot_words-with_slot_other words pool s written k whole known (within k h) long differ

  linked_here : IsLink free s link → IsLinked free s (slot_words (with_link words pool s link) pool s)
  linked_here is = record {
    link = link;
    rest = drop 2 old;
    begins = slot_words-with_slot_same words pool s written whole known inside long
        ∙ begins old link (let two = two_words pool known in let w = wide in omega (arith, two, w));
    is_link = is;
  }

  pub more_linked : IsLink free s link → ((k : ℕ) → s < k → bit free k ≡ true → IsLinked free k (slot_words words pool k)) → (k : ℕ) → s ≤ k
      → bit free k ≡ true → IsLinked free k (slot_words (with_link words pool s link) pool k)
  more_linked is above k h b = ⊎_elim
      (λ same. subst (λ k. IsLinked free k (slot_words (with_link words pool s link) pool k)) (sym same) (linked_here is))
      (λ differ. subst (IsLinked free k) (sym (other k (within_from_bit free k b) differ)) (above k (omega arith) b))
      (cases_eq k s)

  pub others_kept : (k : ℕ) → k < length free → bit free k ≡ false → slot_words (with_link words pool s link) pool k ≡ slot_words words pool k
  others_kept k h clear = other k h (λ same. true≢false (sym at ∙ ap (bit free) (sym same) ∙ clear))

  pub past_kept : (k : ℕ) → slots_end pool ≤ k → get_or (with_link words pool s link) k 0 ≡ get_or words k 0
  past_kept k h = get_or-with_slot_past words pool s written k 0 inside long h

-- the link to the first free slot from this one on: 0 where there is none, and else 1 plus its number
abbrev pub IsLinkFrom : List Bool → ℕ → ℕ → Type 0
IsLinkFrom free s link = (((other : ℕ) → s ≤ other → bit free other ≡ false) × (link ≡ 0)) ⊎
    ((next : ℕ) × (s ≤ next) × (bit free next ≡ true) × ((other : ℕ) → s ≤ other → other < next → bit free other ≡ false) × (link ≡ 1 + next))

-- it is the link of the slot before
pub link_is : (free : List Bool) (s link : ℕ) → IsLinkFrom free (s + 1) link → IsLink free s link
link_is free s link (inl last) = inl (λ other h. last.0 other (omega arith), last.1)
link_is free s link (inr named) =
    let from = named.1 in
    inr (named.0, record { past = omega arith; is_free = named.2; least = λ other h b. named.3 other (omega arith) b }, named.4)

-- from the end on no slot is free
pub link_end : (free : List Bool) → IsLinkFrom free (length free) 0
link_end free = inl (λ other h. get_or_past free other false h, refl)

-- one slot down
pub link_free : (free : List Bool) (s : ℕ) → bit free s ≡ true → IsLinkFrom free s (1 + s)
link_free free s at = inr (s, omega arith, at, λ other h b. absurd (omega arith), refl)

pub link_used : (free : List Bool) (s link : ℕ) → bit free s ≡ false → IsLinkFrom free (s + 1) link → IsLinkFrom free s link
link_used free s link at (inl last) = inl (
  λ other h.
      ⊎_elim (λ same. ap (bit free) same ∙ at) (λ differ. last.0 other (omega arith)) (cases_eq other s),
  last.1,
)
link_used free s link at (inr named) =
    let from = named.1 in
    inr (
      named.0,
      omega arith,
      named.2,
      λ other h b.
          ⊎_elim (λ same. ap (bit free) same ∙ at) (λ differ. named.3 other (omega arith) b) (cases_eq other s),
      named.4,
    )

-- after an allocation at the first free slot, which no link names
module _ (free : List Bool) (s : ℕ) (at : bit free s ≡ true) (first : (k : ℕ) → k < s → bit free k ≡ false) where
  same_bit : (k : ℕ) → s < k → bit (set free s false) k ≡ bit free k
  same_bit k h = bit-set_other free s k false (λ e. omega arith)

  past_first : (k : ℕ) → bit (set free s false) k ≡ true → s < k
  past_first k b = ⊎_elim
      (λ same. absurd (true≢false (sym b ∙ ap (bit (set free s false)) same ∙ bit-set_same free s false (within_from_bit free s at))))
      (λ differ. ⊎_elim
      (λ lower. absurd (true≢false (sym b ∙ bit-set_other free s k false differ ∙ first k lower)))
      (λ upper. omega arith)
      (cases_lt k s))
      (cases_eq k s)

  still_link : (k link : ℕ) → s < k → IsLink free k link → IsLink (set free s false) k link
  still_link k link above (inl last) = inl (λ other h. same_bit other (omega arith) ∙ last.0 other h, last.1)
  still_link k link above (inr named) =
      let n = named.1 in
      let p = n.past in
      inr (
        named.0,
        record {
          past = p;
          is_free = same_bit named.0 (omega arith) ∙ n.is_free;
          least = λ other h b. same_bit other (omega arith) ∙ n.least other h b;
        },
        named.2,
      )

  pub linked_after_take : (pool : Option ℕ) (words : List ℕ) → AreLinked pool words free → AreLinked pool words (set free s false)
  linked_after_take pool words h k b =
      let above = past_first k b in
      let w = h k (sym (same_bit k above) ∙ b) in
      record { link = w.link; rest = w.rest; begins = w.begins; is_link = still_link k w.link above w.is_link }

-- nothing is free on a page without slots
pub none_linked : (pool : Option ℕ) (words : List ℕ) (free : List Bool) → length free ≡ 0 → AreLinked pool words free
none_linked pool words free none k b = let h = within_from_bit free k b in absurd (omega arith)

-- the words past the last slot of a page of this pool are 0 where each of them is
pub clear_on : (pool : Option ℕ) (its : ℕ) (words : List ℕ) → pool ≡ Some its → ((k : ℕ) → slots_end its ≤ k → get_or words k 0 ≡ 0) → IsClearPast pool words
clear_on pool its words is clear other k e past = let same : other ≡ its = cc in clear k (subst (λ n. slots_end n ≤ k) same past)

-- they are 0 where they stayed
pub clear_after : (pool : Option ℕ) (its : ℕ) (words after : List ℕ) → pool ≡ Some its → ((k : ℕ) → slots_end its ≤ k → get_or after k 0 ≡ get_or words k 0)
    → IsClearPast pool words → IsClearPast pool after
clear_after pool its words after is same clear = clear_on pool its after is (λ k past. same k past ∙ clear its k is past)
