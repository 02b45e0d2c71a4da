-- Where the slots of a page stand. The sizes are those of CRuby 3.3; that a page has no header is this project's own.
use Rattle.std.specs.Prelude.{ℕ, ◌+◌, ◌-◌, ◌*◌, ◌/◌, ◌^◌, nat_le, if◌then◌else◌}

-- the most fields of an object, which are those of the last pool
abbrev pub most_fields : ℕ
most_fields = 78

-- the bytes of a page
abbrev pub page_bytes : ℕ
page_bytes = 65536

-- the words of a page, of 8 bytes each
abbrev pub page_words : ℕ
page_words = 8192

-- the most slots of a page, which are those of the first pool
abbrev pub most_page_slots : ℕ
most_page_slots = 1638

-- the most pages that a limit may allow
abbrev pub most_pages : ℕ
most_pages = 4096

-- the bytes of a slot of the pool: 40, 80, 160, 320, 640
unfoldable pub slot_bytes : ℕ → ℕ
slot_bytes pool = 40 * 2 ^ pool

-- the most fields of an object in the pool: the words of a slot but for the first two
unfoldable pub fields_of : ℕ → ℕ
fields_of pool = slot_bytes pool / 8 - 2

-- the slots of a page of the pool
unfoldable pub page_slots : ℕ → ℕ
page_slots pool = page_bytes / slot_bytes pool

-- the first pool whose objects may have so many fields, which are `most_fields` at most: the bounds are `fields_of` each pool
unfoldable pub pool_for : ℕ → ℕ
pool_for fields = if nat_le fields 3 then 0 else if nat_le fields 8 then 1 else if nat_le fields 18 then 2 else if nat_le fields 38 then 3 else 4

-- the address of a slot of a page whose pool this is; the first page begins at the address `page_bytes`
unfoldable pub slot_address : ℕ → ℕ → ℕ → ℕ
slot_address page pool slot = page_bytes * (page + 1) + slot_bytes pool * slot

-- the page that an address is on, which is `page_bytes` or more
unfoldable pub page_of : ℕ → ℕ
page_of address = address / page_bytes - 1
