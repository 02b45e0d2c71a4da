-- A space before the first command.
use Rattle.std.proofs.Common.{[], ◌≢◌, ℕ, lit≤, true≢false, refl, sym, ◌∙◌}
use Rattle.std.specs.List.{IsDistinct}
use Rattle.std.specs.Ordering.{nat_cmp}
use Rattle.std.specs.FinMap.{get-empty}
use Rattle.std.proofs.lemmas.Bool.{and_parts}
use Rattle.space_model.specs.declared.phase.Phase.TheVariants.{Idle, Marking, Sweeping}
use Rattle.space_model.specs.State.{opening}
use Rattle.space_model.proofs.SoundKept.{Sound-opening}
use Rattle.space_heap.specs.declared.colour.Colour.TheVariants.{White, Grey}
use Rattle.space_heap.specs.HeapView.{empty_heap}
use Rattle.space_heap.proofs.FreeLaws.{is_moved-empty}
use Rattle.space_heap.proofs.EmptyHeaps.{is_occupied-empty, is_object-empty}
use Rattle.space_collector.proofs.QuiescentLaws.{white_where_none}
use Rattle.space_weak.specs.WeakEntries.{AreApart}
use Rattle.space_engine.specs.Stands.{Holds}
use Rattle.space_engine.specs.Turns.{IsWithinTurns}
use Rattle.space_engine.specs.Views.{empty_view}
use Rattle.space_engine.proofs.Outcomes.{none_some}

-- no entries are apart
none_apart : AreApart []
unfolding IsDistinct
none_apart = tt

pub opening_held : (limit : ℕ) → Holds (empty_view limit) (opening limit)
opening_held limit = record {
  represents = record {
    heap = record {
      objects = record {
        stands = λ name address e. absurd (none_some address (sym (get-empty nat_cmp name) ∙ e));
        is = λ name address e. absurd (none_some address (sym (get-empty nat_cmp name) ∙ e));
        only = λ address e. absurd (true≢false (sym e ∙ is_object-empty limit address));
      };
      corpses = record {
        lies = λ name address e. absurd (none_some address (sym (get-empty nat_cmp name) ∙ e));
        gone = λ name address e. absurd (none_some address (sym (get-empty nat_cmp name) ∙ e));
        named = λ name address e. absurd (none_some address (sym (get-empty nat_cmp name) ∙ e));
        only = λ address e f. absurd (true≢false (sym e ∙ is_occupied-empty limit address));
      };
      left = record {
        lies = λ name address e. absurd (none_some address (sym (get-empty nat_cmp name) ∙ e));
        leads = λ name address e. absurd (none_some address (sym (get-empty nat_cmp name) ∙ e));
        only = λ address e. absurd (true≢false (sym e ∙ is_moved-empty limit address));
      };
      pages = record { count = refl; pools = λ page. refl; limited = refl; waiting = refl };
      progress = record { at = refl; until = refl; none_grey = λ phase. refl };
      counted = record { allocated = refl; minor_verdicts = refl; other_verdicts = refl; freed = refl; compactions = refl; moves = refl };
    };
    generations = record {
      ages = λ name address e. absurd (none_some address (sym (get-empty nat_cmp name) ∙ e));
      kept = record {
        certain = λ name address e m. absurd (none_some address (sym (get-empty nat_cmp name) ∙ e));
        only = λ vague name address e k. absurd (none_some address (sym (get-empty nat_cmp name) ∙ e));
        unprotected = λ name address e k. absurd (none_some address (sym (get-empty nat_cmp name) ∙ e));
        outlived = λ rests name address e k. absurd (none_some address (sym (get-empty nat_cmp name) ∙ e));
      };
      remembered = record {
        aged = λ name address e r. absurd (none_some address (sym (get-empty nat_cmp name) ∙ e));
        mixed_since = λ name address e r. absurd (none_some address (sym (get-empty nat_cmp name) ∙ e));
      };
      old_children = λ rests parent child a c at there is old out. absurd (none_some a (sym (get-empty nat_cmp parent) ∙ at));
      aged_children = λ marking parent child a c at there is black aged out. absurd (none_some a (sym (get-empty nat_cmp parent) ∙ at));
    };
    colours = λ marking. absurd (idle_marking marking);
    roots = refl;
    stack = refl;
    ids = record { names = refl; kept = tt };
    weak = record { apart = none_apart; values = λ map_name key. refl; at = λ map_name key entry found. absurd (cc) };
    finals = record { defined = λ name. refl; waiting = refl };
  };
  sound = Sound-opening limit;
}
  where
    idle_marking : Idle ≢ Marking
    idle_marking e = cc

-- and its heap
pub opening_within : (limit : ℕ) → IsWithinTurns (empty_heap limit) 0
opening_within limit = record {
  quiescent = record {
    gone_wait = λ a e. absurd (true≢false (sym (and_parts _ _ e).0 ∙ is_occupied-empty limit a));
    none_waits = λ phase. refl;
    some_wait = λ e none. idle_sweeping e;
    none_moved = λ moving fixing. is_moved-empty limit;
    none_grey = λ phase. record { listed = refl; objects = λ a e. white_grey (sym (white_where_none (empty_heap limit) a (is_occupied-empty limit a)) ∙ e) };
  };
  born = lit≤ tt;
  minor_verdicts = lit≤ tt;
  other_verdicts = lit≤ tt;
  freed = lit≤ tt;
  compactions = lit≤ tt;
  moves = lit≤ tt;
}
  where
    idle_sweeping : Idle ≢ Sweeping
    idle_sweeping e = cc

    white_grey : White ≢ Grey
    white_grey e = cc
