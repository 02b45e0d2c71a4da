-- The heap after a verdict, and after the sweep of a page.
use Rattle.std.specs.Prelude.{◌≡◌, ℕ, ◌+◌, Bool, true, false, not, ◌&&◌, List, [], ◌∷◌, length, map, nat_eq, is_some, count_by, Option, slice_set, if◌then◌else◌}
use Rattle.std.specs.List.{range_with_len, filter, list_all}
use Rattle.space_model.specs.declared.event.Kind.{Kind}
use Rattle.space_model.specs.declared.event.Kind.TheVariants.{Minor, Major, Full}
use Rattle.space_model.specs.Layout.{page_of}
use Rattle.space_model.specs.declared.phase.Phase.{Phase}
use Rattle.space_model.specs.declared.phase.Phase.TheVariants.{Idle, Sweeping}
use Rattle.space_heap.specs.Slots.{ObjectView, SlotView, Free, Moved, Object, has_object, object_in, is_free}
use Rattle.space_heap.specs.HeapView.{PageView, HeapView, no_page, page_at, pool_at, map_page}
use Rattle.space_heap.specs.Objects.{is_occupied, object_of}
pub use Rattle.space_heap.specs.Marking.{is_white}
use Rattle.space_heap.specs.Generations.{raised_age}

-- the object after a verdict: it is gone where it is white, and a protected one that isn't is one older, up to age 3
abbrev pub settled_object : ObjectView → ObjectView
settled_object o = record o { gone = is_white o.colour; age = if is_white o.colour then o.age else raised_age o.guard o.age }

-- the pages with a pool, ascending
abbrev pub pooled_pages : HeapView → List ℕ
pooled_pages v = filter (λ page. is_some (pool_at v page)) (range_with_len 0 (length v.pages))

-- the phase after a verdict for which these pages wait for a sweep
abbrev pub phase_with : List ℕ → Phase
phase_with [] = Idle
phase_with (page ∷ pages) = Sweeping

-- how many minor verdicts there were after one of this kind
abbrev pub minors_after : Kind → ℕ → ℕ
minors_after Minor n = n + 1
minors_after Major n = n
minors_after Full n = n

-- how many major and full verdicts there were after one of this kind
abbrev pub others_after : Kind → ℕ → ℕ
others_after Minor n = n
others_after Major n = n + 1
others_after Full n = n + 1

-- the heap after a verdict: each white object is gone, each protected other one is older, each page with a pool waits for a sweep, and the verdict is counted
unfoldable pub settled : HeapView → Kind → HeapView
settled v kind = record v {
  pages = map (map_page settled_object) v.pages;
  unswept = pooled_pages v;
  phase = phase_with (pooled_pages v);
  counters = record v.counters { minor_verdicts = minors_after kind v.counters.minor_verdicts; other_verdicts = others_after kind v.counters.other_verdicts };
}

-- the first of the pages that wait for a sweep
abbrev pub IsFirstUnswept : HeapView → ℕ → Type 0
IsFirstUnswept v page = (others : List ℕ) × (v.unswept ≡ page ∷ others)

-- no object that stands is gone
abbrev pub HasNoGone : HeapView → Type 0
HasNoGone v = (a : ℕ) → is_occupied v a ≡ true → (object_of v a).gone ≡ false

-- whether a gone object stands at the address
abbrev pub is_gone : HeapView → ℕ → Bool
is_gone v a = is_occupied v a && (object_of v a).gone

-- a gone object stands at the address
abbrev pub IsGone : HeapView → ℕ → Type 0
IsGone v a = is_gone v a ≡ true

-- a gone object stands at the address, on the page
abbrev pub IsGoneOn : HeapView → ℕ → ℕ → Type 0
IsGoneOn v page a = (is_gone v a ≡ true) × (page_of a ≡ page)

-- whether the slot holds a gone object
abbrev pub has_gone : SlotView → Bool
has_gone slot = has_object slot && (object_in slot).gone

-- the slot after a sweep: it is free where its object was gone
abbrev pub swept_slot : SlotView → SlotView
swept_slot Free = Free
swept_slot (Moved to) = Moved to
swept_slot (Object o) = if o.gone then Free else Object o

-- the page with this pool and these slots; where all are free it is spare
abbrev pub page_with_slots : Option ℕ → List SlotView → PageView
page_with_slots pool slots = if list_all is_free slots then no_page else record { pool = pool; slots = slots }

-- the page after the slots of its gone objects became free
abbrev pub swept_page : PageView → PageView
swept_page p = page_with_slots p.pool (map swept_slot p.slots)

-- the heap after the sweep of a page, whose freed slots are counted
unfoldable pub swept : HeapView → ℕ → HeapView
swept v page = record v {
  pages = slice_set v.pages page (swept_page (page_at v page));
  unswept = filter (λ other. not (nat_eq other page)) v.unswept;
  counters = record v.counters { freed = v.counters.freed + count_by has_gone (page_at v page).slots };
}
