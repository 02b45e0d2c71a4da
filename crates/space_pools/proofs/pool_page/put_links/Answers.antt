use Rattle.std.proofs.Common.{◌≡◌, ℕ, ◌+◌, ◌-◌, ◌*◌, ◌/◌, ◌≤◌, ◌∙◌, refl, sym, ap, subst, length, get_or, true, true≢false, arith, false, ⊎_elim}
use Rattle.std.proofs.lemmas.Bool.{cases_eq}
use Rattle.space_planes.specs.Planes.{bit}
use Rattle.space_planes.proofs.Bits.{within_from_bit}
use Rattle.space_pages.specs.Slots.{words_of, slot_words}
use Rattle.space_pages.proofs.Fits.{slot_fits}
use Rattle.space_pages.proofs.SlotLaws.{length-with_slot}
use Rattle.space_pools.specs.Links.{IsLinked}
use Rattle.space_pools.proofs.Linked.{IsLinkFrom, link_is, link_end, link_free, link_used, more_linked, others_kept, past_kept}
use Rattle.space_pools.proofs.pool_page.put_links.Goals as goal

pub slots-init : goal.slots-init
slots-init c = record {
  within = let l = c.len-s.ensures.len in omega arith;
  link = subst (λ n. IsLinkFrom c.args.free.now n 0) (sym c.len-s.ensures.len) (link_end c.args.free.now);
  whole = c.requires.whole;
  linked = λ slot h b. let w = within_from_bit c.args.free.now slot b in let l = c.len-s.ensures.len in absurd (omega arith);
  others = λ slot h clear. refl;
  past = λ k h. refl;
}

pub overflow_mul-width : goal.overflow_mul-width
overflow_mul-width c =
    let w = c.slots.invariant.within in
    let slots = c.requires.slots in
    let f = slot_fits c.args.pool (c.slots.s - 1) c.requires.pool (omega arith) in
    let e : c.slot_bytes.result / 8 * (c.slots.s - 1) ≡ words_of c.args.pool * (c.slots.s - 1) = ap (λ n. n / 8 * (c.slots.s - 1)) c.slot_bytes.ensures in
    record { fits = omega arith }

pub slots-preserved-then-get : goal.slots-preserved-then-get
slots-preserved-then-get c =
    let free = c.args.free.now in
    let pool = c.args.pool in
    let words = c.slots.words in
    let s = c.slots.s - 1 in
    let link = c.slots.link in
    let before = c.slots.invariant in
    let more : s + 1 ≡ c.slots.s = omega arith in
    let at : bit free s ≡ true = sym c.get.ensures ∙ c.if-get.true in
    let is = link_is free s link (subst (λ n. IsLinkFrom free n link) (sym more) before.link) in
    let put = c.put_link.ensures in
    record {
      within = let w = before.within in omega arith;
      link = subst (IsLinkFrom free s) (let e = c.from-link.ensures in omega arith) (link_free free s at);
      whole = ap length put ∙ length-with_slot words pool s _ ∙ before.whole;
      linked = subst (λ after. (k : ℕ) → s ≤ k → bit free k ≡ true → IsLinked free k (slot_words after pool k)) (sym put)
          (more_linked pool free words s link c.requires.pool c.requires.slots before.whole at is (λ k h b. before.linked k (omega arith) b));
      others = λ k h clear. ap (λ after. slot_words after pool k) put
          ∙ others_kept pool free words s link c.requires.pool c.requires.slots before.whole at k h clear ∙ before.others k h clear;
      past = λ k h. ap (λ after. get_or after k 0) put ∙ past_kept pool free words s link c.requires.pool c.requires.slots before.whole at k h
          ∙ before.past k h;
    }

pub slots-preserved : goal.slots-preserved
slots-preserved c =
    let free = c.args.free.now in
    let s = c.slots.s - 1 in
    let before = c.slots.invariant in
    let more : s + 1 ≡ c.slots.s = omega arith in
    let at : bit free s ≡ false = sym c.get.ensures ∙ c.if-get.false in
    record {
      within = let w = before.within in omega arith;
      link = link_used free s c.slots.link at (subst (λ n. IsLinkFrom free n c.slots.link) (sym more) before.link);
      whole = before.whole;
      linked = λ k h b. ⊎_elim
          (λ same. absurd (true≢false (sym b ∙ ap (bit free) same ∙ at)))
          (λ differ. before.linked k (omega arith) b)
          (cases_eq k s);
      others = before.others;
      past = before.past;
    }
