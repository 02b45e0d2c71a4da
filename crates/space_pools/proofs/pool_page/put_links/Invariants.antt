use Rattle.std.proofs.Common.{◌≡◌, ℕ, ◌<◌, ◌≤◌, length, get_or, true, false}
use Rattle.space_planes.specs.Planes.{bit}
use Rattle.space_pages.specs.Slots.{slots_end, slot_words}
use Rattle.space_pools.specs.Links.{IsLinked}
use Rattle.space_pools.proofs.Linked.{IsLinkFrom}
use Rattle.space_pools.proofs.pool_page.put_links.Given as goal

abbrev pub invariant-slots : goal.invariant-slots
invariant-slots l = record {
  within : l.s ≤ length l.free;
  link : IsLinkFrom l.free l.s l.link;
  whole : length l.words ≡ 8192;
  linked : (slot : ℕ) → l.s ≤ slot → bit l.free slot ≡ true → IsLinked l.free slot (slot_words l.words l.pool slot);
  others : (slot : ℕ) → slot < length l.free → bit l.free slot ≡ false → slot_words l.words l.pool slot ≡ slot_words l.fn.words l.pool slot;
  past : (k : ℕ) → slots_end l.pool ≤ k → get_or l.words k 0 ≡ get_or l.fn.words k 0;
}

abbrev pub decreases-slots : goal.decreases-slots
decreases-slots l = l.s
