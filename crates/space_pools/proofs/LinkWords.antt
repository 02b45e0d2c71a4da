-- The two words of a free slot, written one after the other.
use Rattle.std.proofs.Common.{◌≡◌, ℕ, ◌+◌, ◌-◌, ◌*◌, ◌<◌, List, length, get_or, set, sym, ap, ◌∙◌, arith, ⊎_elim}
use Rattle.std.proofs.lemmas.Bool.{cases_lt, cases_eq}
use Rattle.std.proofs.lemmas.Grind.{same_number_lists, get_or-set_at}
use Rattle.std.proofs.lemmas.List.{get_or-set_other, length-set}
use Rattle.std.proofs.lemmas.Simd.{get_or-put_chunk_at, get_or-put_chunk_below, get_or-put_chunk_above}
use Rattle.space_model.specs.Layout.{page_slots}
use Rattle.space_pages.specs.Slots.{words_of, slot_words}
use Rattle.space_pages.proofs.Fits.{slot_fits}
use Rattle.space_pages.proofs.SlotLaws.{length-slot_words, length-with_slot, get_or-slot_words}
use Rattle.space_pools.specs.Links.{with_link}
use Rattle.space_pools.proofs.Linked.{two_words}

module _ (page : List ℕ) (pool slot link : ℕ) (known : pool < 5) (within : slot < page_slots pool) (whole : length page ≡ 8192) where
  abbrev at : ℕ
  at = words_of pool * slot

  abbrev written : List ℕ
  written = set (set page at 0) (at + 1) link

  abbrev words : List ℕ
  words = set (set (slot_words page pool slot) 0 0) 1 link

  pub link_fits : at + 1 < 8192
  link_fits = let fits = slot_fits pool slot known within in let two = two_words pool known in omega arith

  long : length words ≡ words_of pool
  long = length-set (set (slot_words page pool slot) 0 0) 1 link ∙ length-set (slot_words page pool slot) 0 0
      ∙ length-slot_words page pool slot whole known within

  in_slot : (j : ℕ) → j < words_of pool → get_or written (at + j) 0 ≡ get_or words j 0
  in_slot j inside =
      let old : List ℕ = slot_words page pool slot in
      let fits = slot_fits pool slot known within in
      let wide = length-slot_words page pool slot whole known within in
      let two = two_words pool known in
      ⊎_elim
      (λ first.
      get_or-set_other (set page at 0) (at + 1) (at + j) link 0 (λ e. omega arith)
      ∙ get_or-set_at page at (at + j) 0 0 (omega arith) (omega arith)
      ∙ sym (get_or-set_other (set old 0 0) 1 j link 0 (λ e. omega arith) ∙ get_or-set_at old 0 j 0 0 (omega arith) (omega arith)))
      (λ later. ⊎_elim
      (λ second.
      get_or-set_at (set page at 0) (at + 1) (at + j) link 0 (omega arith) (let l = length-set page at 0 in omega arith)
      ∙ sym (get_or-set_at (set old 0 0) 1 j link 0 (omega arith) (let l = length-set old 0 0 in omega arith)))
      (λ rest.
      get_or-set_other (set page at 0) (at + 1) (at + j) link 0 (λ e. omega arith)
      ∙ get_or-set_other page at (at + j) 0 0 (λ e. omega arith)
      ∙ sym (get_or-set_other (set old 0 0) 1 j link 0 (λ e. omega arith) ∙ get_or-set_other old 0 j 0 0 (λ e. omega arith)
      ∙ get_or-slot_words page pool slot j 0 inside))
      (cases_eq j 1))
      (cases_eq j 0)

  outside : (k : ℕ) → (k ≡ at → ⊥) → (k ≡ at + 1 → ⊥) → get_or written k 0 ≡ get_or page k 0
  outside k first second = get_or-set_other (set page at 0) (at + 1) k link 0 second ∙ get_or-set_other page at k 0 0 first

  each : (k : ℕ) → k < 8192 → get_or written k 0 ≡ get_or (with_link page pool slot link) k 0
  each k h =
      let two = two_words pool known in
      let fits = slot_fits pool slot known within in
      ⊎_elim
      (λ below. outside k (λ e. omega arith) (λ e. omega arith) ∙ sym (get_or-put_chunk_below at page words k 0 below))
      (λ from. ⊎_elim
      (λ inside.
      let j : ℕ = k - at in
      let e : at + j ≡ k = omega arith in
      let small : j < words_of pool = omega arith in
      ap (λ n. get_or written n 0) (sym e) ∙ in_slot j small
      ∙ sym (get_or-put_chunk_at at page words j 0 (omega (arith, long)) (omega (arith, long, fits, whole)))
      ∙ ap (λ n. get_or (with_link page pool slot link) n 0) e)
      (λ above. outside k (λ e. omega arith) (λ e. omega arith) ∙ sym (get_or-put_chunk_above at page words k 0 (omega (arith, long))))
      (cases_lt k (at + words_of pool)))
      (cases_lt k at)

  pub link_written : written ≡ with_link page pool slot link
  link_written =
      let l : length written ≡ 8192 = length-set (set page at 0) (at + 1) link ∙ length-set page at 0 ∙ whole in
      same_number_lists written (with_link page pool slot link) (l ∙ sym whole ∙ sym (length-with_slot page pool slot words)) (λ k h. each k (omega arith))
