-- What a page is after a slot of it was lent.
use Rattle.std.specs.Prelude.{ℕ, List}
use Rattle.std.specs.Borrow.{Lends, MutBor, Array, Fml, u64}
use Rattle.std.specs.Simd.Lanes.{put_chunk}
use Rattle.space_pages.specs.Slots.{slot_words, with_slot}
use Rattle.space_pages.specs.contracts.page.SlotPage.{the_row as words_row}
use Rattle.space_pools.specs.PageSlots.{PageSlots, written_in}
use Rattle.space_pools.specs.contracts.pool_page.PoolPage.{the_row}

-- the words of a page after words were written from the start of a slot on, none of them past its end
abbrev pub written_within : List ℕ → ℕ → ℕ → List ℕ → List ℕ
written_within page pool slot words = with_slot page pool slot (put_chunk 0 (slot_words page pool slot) words)

-- the words of the page end with the words that are left behind the result in that slot
abbrev pub LendsWithin : MutBor (List ℕ) → ℕ → ℕ → MutBor (List ℕ) → Fml
LendsWithin page pool slot result = Lends words_row (Array u64 0) page result (written_within page.now pool slot)

-- the page ends with the words that are left behind the result, from the start of that slot on
abbrev pub LendsOnPage : MutBor PageSlots → ℕ → MutBor (List ℕ) → Fml
LendsOnPage page slot result = Lends the_row (Array u64 0) page result (written_in page.now slot)
