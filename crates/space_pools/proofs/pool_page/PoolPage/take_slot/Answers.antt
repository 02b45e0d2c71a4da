use Rattle.std.proofs.Common.{◌≡◌, ℕ, ◌<◌, ap, subst, sym, ◌∙◌, arith, refl, true, false, length, set, ⊎_elim, cond, None, Some}
use Rattle.std.proofs.lemmas.Bool.{cases_eq, cases_lt, cond-false}
use Rattle.std.proofs.lemmas.List.{length-set}
use Rattle.space_planes.specs.Planes.{bit}
use Rattle.space_planes.proofs.Bits.{within_from_bit, bit-set_same, bit-set_other}
use Rattle.space_pools.specs.declared.pool_page.PoolPage.TheInside.{Inside}
use Rattle.space_pools.specs.PageSlots.{free_in}
use Rattle.space_pools.specs.Links.{slot_on, AreLinked}
use Rattle.space_pools.proofs.Pages.{free_is, few_slots, one_slot, long_slot}
use Rattle.space_pools.proofs.Linked.{linked_after_take}
use Rattle.space_pools.proofs.pool_page.PoolPage.take_slot.Goals as goal

pub overflow_add-s : goal.overflow_add-s
overflow_add-s c =
    let set : bit c.self.inside.free c.args.s ≡ true = sym (free_is c.self.inside c.args.s) ∙ ap (λ q. free_in q c.args.s) c.self.view_is
    ∙ c.requires.is_free in
    let inside = within_from_bit c.self.inside.free c.args.s set in
    let few = few_slots c.self.inside c.self.invariant in
    omega arith

pub free_from-self-inside-requires : goal.free_from-self-inside-requires
free_from-self-inside-requires c =
    let set : bit c.self.inside.free c.args.s ≡ true = sym (free_is c.self.inside c.args.s) ∙ ap (λ q. free_in q c.args.s) c.self.view_is
    ∙ c.requires.is_free in
    let inside = within_from_bit c.self.inside.free c.args.s set in
    omega arith

pub clear-requires : goal.clear-requires
clear-requires c = omega arith

abbrev after : goal.After-clear → Inside
after c = record {
  words = c.self.inside.words;
  pool = c.self.inside.pool;
  free = c.clear.new.self;
  lowest = c.free_from-self-inside.result;
  unswept =
      c.self.inside.unswept;
}

pub invariant_of-self : goal.invariant_of-self
invariant_of-self c =
    let free = c.self.inside.free in
    let s = c.args.s in
    let long : length c.clear.new.self ≡ length free = ap length c.clear.ensures ∙ length-set free s false in
    let is : (k : ℕ) → bit c.clear.new.self k ≡ bit (set free s false) k = λ k. ap (λ plane. bit plane k) c.clear.ensures in
    let next = c.free_from-self-inside.ensures in
    record {
      whole = c.self.invariant.whole;
      clear_past = c.self.invariant.clear_past;
      known = c.self.invariant.known;
      long = long ∙ c.self.invariant.long;
      within = omega arith;
      clear_below = λ k h. is k ∙ ⊎_elim
          (λ same. ap (bit (set free s false)) same ∙ bit-set_same free s false (omega arith))
          (λ other. bit-set_other free s k false other ∙ ⊎_elim
          (λ below. sym (free_is c.self.inside k) ∙ ap (λ q. free_in q k) c.self.view_is ∙ c.requires.below k below)
          (λ above. next.clear k (omega arith) h)
          (cases_lt k s))
          (cases_eq k s);
      linked = subst (λ plane. AreLinked c.self.inside.pool c.self.inside.words plane) (sym c.clear.ensures)
          (linked_after_take free s (sym (free_is c.self.inside s) ∙ ap (λ q. free_in q s) c.self.view_is ∙ c.requires.is_free)
          (λ k h. sym (free_is c.self.inside k) ∙ ap (λ q. free_in q k) c.self.view_is ∙ c.requires.below k h) c.self.inside.pool c.self.inside.words
          c.self.invariant.linked);
      set_at = λ h. is c.free_from-self-inside.result ∙ bit-set_other free s c.free_from-self-inside.result false (λ e. omega arith) ∙ next.set (omega arith);
    }

pub returns : goal.returns
returns c =
    let free = c.self.inside.free in
    let s = c.args.s in
    let p = c.self.inside in
    let within : s < length free = omega arith in
    let long : length c.clear.new.self ≡ length free = ap length c.clear.ensures ∙ length-set free s false in
    let is : (k : ℕ) → bit c.clear.new.self k ≡ bit (set free s false) k = λ k. ap (λ plane. bit plane k) c.clear.ensures in
    rw (← c.self.view_is) (record {
      words = slot_on p.pool p.words s;
      long = long_slot p s c.self.invariant within;
      becomes = one_slot p (after c) s (Some (slot_on p.pool p.words s)) refl refl long within
          (cond-false _ None _ (is s ∙ bit-set_same free s false within))
          (λ k h d. ap (λ b. cond b None (Some (slot_on p.pool p.words k))) (is k ∙ bit-set_other free s k false d));
    })
