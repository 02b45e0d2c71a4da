-- A space as its heap, its roots, its stack, its object ids, its weak maps and its finalizers; and how many commands it was given.
use Rattle.std.specs.Prelude.{ℕ, Bool, false, List, [], ◌∷◌, ◌++◌, if◌then◌else◌}
use Rattle.space_model.specs.declared.phase.Phase.TheVariants.{Idle, Moving, Fixing}
use Rattle.space_heap.specs.HeapView.{HeapView, empty_heap}
use Rattle.space_heap.specs.Objects.{written}
use Rattle.space_heap.specs.Relocation.{ended}
use Rattle.space_compact.specs.Visits.{resolved_roots}
use Rattle.space_barrier.specs.Barrier.{is_marking, stored, unprotected}
use Rattle.space_roots.specs.WordRoots.{with_root_word, without_root}
use Rattle.space_finals.specs.FinalLists.{FinalLists}
use Rattle.space_ids.specs.GivenIds.{GivenIds, with_id, purged as purged_ids, refixed as refixed_ids}
use Rattle.space_weak.specs.WeakEntries.{Entry, purged as purged_entries, refixed as refixed_entries}

-- the parts of a space
pub record View : Type 0 where
  pub heap : HeapView
  -- the names of roots and the words that they hold
  pub roots : List (List ℕ × ℕ)
  -- the words of the stack, from the bottom to the top
  pub stack : List ℕ
  -- the names with an id, and the addresses that are kept of their objects
  pub ids : GivenIds
  -- the entries of weak maps, with the addresses that are kept of their objects
  pub weak : List Entry
  -- the finalizers that are defined, and those that wait to run
  pub finals : FinalLists

-- nothing is there yet
abbrev pub empty_view : ℕ → View
empty_view limit = record { heap = empty_heap limit; roots = []; stack = []; ids = []; weak = []; finals = record { finals = []; queue = [] } }

-- the heap is this one; all else stays
abbrev pub with_heap : View → HeapView → View
with_heap v heap = record v { heap = heap }

-- the finalizers are these
abbrev pub with_finals : View → FinalLists → View
with_finals v finals = record v { finals = finals }

-- these finalizers wait to run
abbrev pub with_queue : View → List (ℕ × List ℕ) → View
with_queue v queue = record v { finals = record v.finals { queue = queue } }

-- the heap and the finalizers are these, in which pages were swept
abbrev pub with_swept : View → HeapView → FinalLists → View
with_swept v heap finals = record v { heap = heap; finals = finals }

-- no root and no stack word is left
abbrev pub without_starts : View → View
without_starts v = record v { roots = []; stack = [] }

-- the root holds the word: it keeps its place, and a new one comes last
abbrev pub with_root_written : View → List ℕ → ℕ → View
with_root_written v root word = record v { roots = with_root_word v.roots root word }

-- there is a place for a root: a new one comes last, with the word 0
abbrev pub with_root_reserved : View → List ℕ → Bool → View
with_root_reserved v root is_new = record v { roots = if is_new then v.roots ++ (root, 0) ∷ [] else v.roots }

-- the root was taken away, where there is one
abbrev pub with_root_dropped : View → List ℕ → View
with_root_dropped v root = record v { roots = without_root v.roots root }

-- the stack has these words
abbrev pub with_stack : View → List ℕ → View
with_stack v words = record v { stack = words }

-- the name, whose object stands at this address, has an id
abbrev pub with_given_id : View → ℕ → ℕ → View
with_given_id v name address = record v { ids = with_id v.ids name address }

-- the weak maps have these entries
abbrev pub with_weak : View → List Entry → View
with_weak v entries = record v { weak = entries }

-- the heap is this one, in which a verdict left objects gone: of their ids no address is kept any more, and no weak map has an entry of them
abbrev pub with_judged : View → HeapView → View
with_judged v heap = record v { heap = heap; ids = purged_ids heap v.ids; weak = purged_entries heap v.weak }

-- the heap and the finalizers are these, in which what was under way was completed: in a marking by a verdict
abbrev pub with_completed : View → HeapView → FinalLists → View
with_completed v heap finals = if is_marking v.heap.phase then with_finals (with_judged v heap) finals else with_swept v heap finals

-- objects may move from now on
abbrev pub moving_begun : View → View
moving_begun v = with_heap v (record v.heap { phase = Moving })

-- the correction of references begins
abbrev pub fixing_begun : View → View
fixing_begun v = with_heap v (record v.heap { phase = Fixing; cursor = 0 })

-- a compaction ended: the words of roots and the addresses that are kept of ids and weak maps are resolved, and the slots that objects left are free
abbrev pub compaction_ended : View → View
compaction_ended v = record v {
  heap = record (ended v.heap) { phase = Idle; cursor = 0 };
  roots = resolved_roots v.heap v.roots;
  ids = refixed_ids v.heap v.ids;
  weak = refixed_entries v.heap v.weak;
}

-- a field of the object at this address got the word, by the write barrier's rules
abbrev pub with_field : View → ℕ → ℕ → ℕ → View
with_field v address index word = with_heap v (stored v.heap address index word)

-- a field of the object at this address got the word, and nothing else changed
abbrev pub with_raw_field : View → ℕ → ℕ → ℕ → View
with_raw_field v address index word = with_heap v (written v.heap address index word)

-- the write barrier protects the object at this address no more
abbrev pub with_unprotected : View → ℕ → View
with_unprotected v address = with_heap v (unprotected v.heap address)

-- the whole space
pub record SpaceView : Type 0 where
  pub parts : View
  -- the number of commands so far
  pub turns : ℕ
  -- a write failed, and no command may be given any more
  pub is_spent : Bool

-- no command was given yet
abbrev pub empty_space : ℕ → SpaceView
empty_space limit = record { parts = empty_view limit; turns = 0; is_spent = false }
