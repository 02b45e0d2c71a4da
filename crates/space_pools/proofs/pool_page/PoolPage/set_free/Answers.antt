use Rattle.std.proofs.Common.{◌≡◌, ℕ, ◌<◌, ◌≤◌, false, length, refl, sym, ap, ◌∙◌, subst, arith}
use Rattle.space_pools.specs.PageSlots.{PageSlots, HasEachFree, count_of, freed_in}
use Rattle.space_planes.specs.Planes.{bit}
use Rattle.space_pools.specs.Links.{slot_on, AreLinked}
use Rattle.space_pools.specs.Inside.{page_from}
use Rattle.space_pools.proofs.Pages.{length-slots, freed}
use Rattle.space_pools.proofs.Linked.{clear_after}
use Rattle.space_pools.proofs.pool_page.PoolPage.set_free.Goals as goal

pub put_links-requires-clause-slots : goal.put_links-requires-clause-slots
put_links-requires-clause-slots c =
    c.requires.len ∙ sym (ap (λ (p : PageSlots). length p.slots) c.self.view_is) ∙ length-slots c.self.inside ∙ c.self.invariant.long
    ∙ ap count_of c.known.ensures

pub copy_from-requires : goal.copy_from-requires
copy_from-requires c = c.requires.len ∙ sym (ap (λ (p : PageSlots). length p.slots) c.self.view_is) ∙ length-slots c.self.inside

-- where no further slot is free only the wait for a sweep ends
pub invariant_of-self : goal.invariant_of-self
invariant_of-self c =
    let h = c.self.invariant in
    record {
      whole = h.whole;
      known = h.known;
      long = h.long;
      within = h.within;
      clear_below = h.clear_below;
      set_at = h.set_at;
      linked =
          h.linked;
      clear_past = h.clear_past;
    }

pub returns-then-is_same : goal.returns-then-is_same
returns-then-is_same c =
    let p = c.self.inside in
    let same : c.args.free.now ≡ p.free = c.is_same.ensures.0 c.if-is_same.true in
    let each : HasEachFree (page_from p) p.free = subst (HasEachFree (page_from p)) same
    (subst (λ p. HasEachFree p c.args.free.now) (sym c.self.view_is) c.requires.each) in
    freed p p.words p.free p.lowest refl each (λ k h clear. refl) ∙ ap (freed_in (page_from p)) (sym same) ∙ ap (λ p. freed_in p c.args.free.now) c.self.view_is

pub invariant_of-self-2 : goal.invariant_of-self-2
invariant_of-self-2 c =
    let free = c.args.free.now in
    let words = c.put_links.new.words in
    let long : length free ≡ length c.self.inside.free = c.requires.len ∙ sym (ap (λ (p : PageSlots). length p.slots) c.self.view_is)
    ∙ length-slots c.self.inside in
    let is = c.copy_from.ensures in
    let first = c.free_from-self-inside.ensures in
    record {
      whole = c.put_links.ensures.whole;
      known = c.self.invariant.known;
      long = ap length is ∙ long ∙ c.self.invariant.long;
      within = subst (λ plane. c.free_from-self-inside.result ≤ length plane) (sym is) first.within;
      clear_below = λ k h. ap (λ plane. bit plane k) is ∙ first.clear k (omega arith) h;
      set_at = λ h. ap (λ plane. bit plane c.free_from-self-inside.result) is ∙ first.set (subst (λ plane. c.free_from-self-inside.result < length plane) is h);
      clear_past = clear_after c.self.inside.pool c.known.result c.self.inside.words words c.known.ensures c.put_links.ensures.past c.self.invariant.clear_past;
      linked = subst (AreLinked c.self.inside.pool words) (sym is) (subst (λ pool. AreLinked pool words free) (sym c.known.ensures) c.put_links.ensures.linked);
    }

pub returns : goal.returns
returns c =
    let free = c.args.free.now in
    let p = c.self.inside in
    let words = c.put_links.new.words in
    let long : length free ≡ length p.free = c.requires.len ∙ sym (ap (λ (p : PageSlots). length p.slots) c.self.view_is) ∙ length-slots p in
    let each : HasEachFree (page_from p) free = subst (λ p. HasEachFree p free) (sym c.self.view_is) c.requires.each in
    let same : (k : ℕ) → k < length free → bit free k ≡ false → slot_on p.pool words k ≡ slot_on p.pool p.words k = λ k h clear.
    ap (λ pool. slot_on pool words k) c.known.ensures ∙ c.put_links.ensures.others k h clear ∙ sym (ap (λ pool. slot_on pool p.words k) c.known.ensures) in
    ap (λ plane. page_from (record p { words = words; free = plane; lowest = c.free_from-self-inside.result; unswept = false })) c.copy_from.ensures
    ∙ freed p words free c.free_from-self-inside.result long each same
    ∙ ap (λ p. freed_in p free) c.self.view_is
