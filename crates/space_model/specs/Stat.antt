-- What `stat` counts. The names of the counts are those of CRuby's GC.stat; that a gone object that isn't swept is neither live nor free is
-- this project's own.
use Rattle.std.specs.Prelude.{◌≡◌, ◌≢◌, ℕ, ◌+◌, ◌≤◌, true, false, length, nat_eq, Some}
use Rattle.std.specs.Set.{is_member}
use Rattle.std.specs.FinMap.{get}
use Rattle.space_model.specs.declared.reply.Reply.{Reply}
use Rattle.space_model.specs.declared.reply.Reply.TheVariants.{StatLine}
use Rattle.space_model.specs.declared.stat.Stat.{Stat}
use Rattle.space_model.specs.Ages.{is_protected, is_old}
use Rattle.space_model.specs.Counts.{CountIs}
use Rattle.space_model.specs.Places.{IsSlot}
use Rattle.space_model.specs.State.{State, is_present}

-- the address is a slot of a page that has a pool, swept or not, and nothing stands, lies or was left there
pub record IsVacant (s : State) (address : ℕ) : Type 0 where
  pub pool : ℕ
  pub at : IsSlot s.heap.pages pool address
  pub no_place : (name : ℕ) → get s.heap.place name ≢ Some address
  pub no_corpse : (name : ℕ) → get s.heap.corpses name ≢ Some address
  pub not_left : (name : ℕ) → get s.heap.left name ≢ Some address

-- the name is kept for certain
abbrev pub IsKept : State → ℕ → Type 0
IsKept s name = is_member nat_eq s.collector.kept name ≡ true

-- the name is present, and the write barrier doesn't protect it
abbrev pub IsUnprotected : State → ℕ → Type 0
IsUnprotected s name = (is_present s name ≡ true) × (is_protected s.graph name ≡ false)

-- the number of kept objects: that of the names kept for certain, where no others may be; else at least that, and at most the number of
-- present unprotected names
pub record IsKeptCount (s : State) (kept : ℕ) : Type 0 where
  pub certain : ℕ
  pub certain_are : CountIs (IsKept s) certain
  pub unprotected : ℕ
  pub unprotected_are : CountIs (IsUnprotected s) unprotected
  pub exact : s.collector.vague ≡ 0 → kept ≡ certain
  pub at_least : certain ≤ kept
  pub at_most : kept ≤ unprotected

-- the twelve numbers are those of the state
pub record AreCounts (s : State) (stat : Stat) : Type 0 where
  pub count : stat.count ≡ stat.minor_gc_count + stat.major_gc_count
  pub minor_verdicts : stat.minor_gc_count ≡ s.counters.minor_verdicts
  pub other_verdicts : stat.major_gc_count ≡ s.counters.other_verdicts
  pub pages : stat.heap_allocated_pages ≡ length s.heap.pages
  pub live : CountIs (λ name. is_present s name ≡ true) stat.heap_live_slots
  pub free : CountIs (IsVacant s) stat.heap_free_slots
  pub allocated : stat.total_allocated_objects ≡ length s.graph
  pub freed : stat.total_freed_objects ≡ s.counters.freed
  pub old : CountIs (λ name. is_old s name ≡ true) stat.old_objects
  pub kept : IsKeptCount s stat.remembered_wb_unprotected_objects
  pub compactions : stat.compact_count ≡ s.counters.compactions
  pub moves : stat.total_moved_objects ≡ s.counters.moves

-- `stat` tells the counts, and changes nothing
abbrev pub AnswersStat : State → Reply → State → Type 0
AnswersStat s (StatLine stat) t = AreCounts s stat × (t ≡ s)
AnswersStat s _ t = ⊥
