-- The sweep of pages, in ascending order of their numbers. Sweeping page by page is CRuby's; its order is this project's own.
use Rattle.std.specs.Prelude.{◌≡◌, ◌↔◌, ℕ, zero, suc, ◌+◌, min, true, List, [], ◌∷◌, ◌++◌, length, nat_eq}
use Rattle.std.specs.Ordering.{nat_cmp}
use Rattle.std.specs.Set.{is_member}
use Rattle.std.specs.FinMap.{FinMap}
use Rattle.space_model.specs.declared.phase.Phase.{Phase}
use Rattle.space_model.specs.declared.phase.Phase.TheVariants.{Idle, Sweeping}
use Rattle.space_model.specs.declared.reply.Reply.{Reply}
use Rattle.space_model.specs.declared.reply.Reply.TheVariants.{SweepCount}
use Rattle.space_model.specs.Finalizers.{without_names, pairs_of_names}
use Rattle.space_model.specs.Maps.{IsRising, without}
use Rattle.space_model.specs.Moments.{noted}
use Rattle.space_model.specs.Pages.{StandsOn, spared}
use Rattle.space_model.specs.State.{State}

-- the phase where these pages wait for a sweep: Sweeping, or Idle where none does
abbrev pub sweep_phase : List ℕ → Phase
sweep_phase [] = Idle
sweep_phase (page ∷ pages) = Sweeping

-- the names of the corpses on the page, in ascending order of address
pub record AreCorpsesOn (corpses : FinMap nat_cmp ℕ) (page : ℕ) (names : List ℕ) : Type 0 where
  pub are : (name : ℕ) → (is_member nat_eq names name ≡ true) ↔ StandsOn corpses page name
  pub rising : IsRising corpses names

-- a page was swept, the others still wait, and the corpses that were on it are freed. Their finalizers go to the end of the queue, in this
-- order of names, and for each name in order of definition
abbrev pub swept : State → ℕ → List ℕ → List ℕ → State
swept s page others freed = record s {
  heap = record s.heap {
    corpses = without s.heap.corpses freed;
    pages = spared s.heap.place page s.heap.pages;
    unswept = others;
  };
  collector = record s.collector { phase = sweep_phase others };
  tables = record s.tables {
    finals = without_names s.tables.finals freed;
    queue = s.tables.queue ++ pairs_of_names s.tables.finals freed;
  };
  counters = record s.counters { freed = s.counters.freed + length freed };
}

-- the first page that waits is swept
pub record Sweep1 (s : State) (freed : List ℕ) (t : State) : Type 0 where
  pub page : ℕ
  pub others : List ℕ
  pub first : s.heap.unswept ≡ page ∷ others
  pub corpses : AreCorpsesOn s.heap.corpses page freed
  pub after : t ≡ noted (swept s page others freed)

-- so many pages are swept, one after another
abbrev pub Sweeps : ℕ → State → List ℕ → State → Type 0
Sweeps zero s freed t = (freed ≡ []) × (t ≡ s)
Sweeps (suc pages) s freed t =
    (now : List ℕ) × (later : List ℕ) × (mid : State) × (freed ≡ now ++ later) × Sweep1 s now mid × Sweeps pages mid later t

-- every page that waits is swept
abbrev pub SweepAll : State → List ℕ → State → Type 0
SweepAll s freed t = Sweeps (length s.heap.unswept) s freed t

-- `sweep`: so many pages are swept, or all that wait where fewer do; it tells how many slots were freed, and how many pages still wait
abbrev pub AnswersSweep : State → ℕ → Reply → State → Type 0
AnswersSweep s count (SweepCount freed left) t =
    (names : List ℕ) × Sweeps (min count (length s.heap.unswept)) s names t × (freed ≡ length names) × (left ≡ length t.heap.unswept)
AnswersSweep s count _ t = ⊥
