-- What is noted after each piece of work: the names reached, and the names with a child that isn't old.
use Rattle.std.specs.Prelude.{◌≡◌, ℕ, not, List, ◌++◌, nat_eq}
use Rattle.std.specs.List.{filter, list_any}
use Rattle.std.specs.Ordering.{nat_cmp}
use Rattle.std.specs.Set.{is_member}
use Rattle.std.specs.FinMap.{FinMap, keys}
use Rattle.space_model.specs.Ages.{is_old_in}
use Rattle.space_model.specs.Graph.{Item, children}
use Rattle.space_model.specs.State.{State}
use Rattle.space_model.specs.Reached.{reached_names}

-- the present names with a child that isn't old
unfoldable pub mixed_in : List Item → FinMap nat_cmp ℕ → List ℕ → List ℕ
mixed_in graph place outlived =
    filter (λ name. list_any (λ child. not (is_old_in graph place outlived child)) (children graph name)) (keys place)

-- the present names of the state with a child that isn't old
abbrev pub mixed_names : State → List ℕ
mixed_names s = mixed_in s.graph s.heap.place s.collector.outlived

-- the names, after those of the first list that aren't among them
unfoldable pub with_names : List ℕ → List ℕ → List ℕ
with_names more names = filter (λ name. not (is_member nat_eq names name)) more ++ names

-- the state after it was noted what is reached now, and who has a child now that isn't old
abbrev pub noted : State → State
noted s = record s {
  history = record s.history {
    seen = with_names (reached_names s) s.history.seen;
    mixed = with_names (mixed_names s) s.history.mixed;
  };
}

-- a change that touches nothing on which rests what is reached and who has a child that isn't old
pub record SameMoments (s t : State) : Type 0 where
  pub graph : t.graph ≡ s.graph
  pub roots : t.roots ≡ s.roots
  pub stack : t.stack ≡ s.stack
  pub place : t.heap.place ≡ s.heap.place
  pub outlived : t.collector.outlived ≡ s.collector.outlived
  pub seen : t.history.seen ≡ s.history.seen
  pub mixed : t.history.mixed ≡ s.history.mixed
