-- What a view has after a root or the stack was written: its heap is as it was.
use Rattle.std.proofs.Common.{◌≡◌, ℕ, List, refl, sym, ap, ◌∙◌}
use Rattle.space_model.specs.declared.value.Value.{Value}
use Rattle.space_model.specs.Moments.{mixed_names, with_names, noted}
use Rattle.space_model.specs.Operands.{value_word}
use Rattle.space_model.specs.Pieces.{root_written, root_dropped, stack_replaced}
use Rattle.space_model.specs.Reached.{reached_names}
use Rattle.space_model.specs.State.{State, History}
use Rattle.space_model.proofs.ValuesKept.{IsPresentValue}
use Rattle.space_heap.specs.Objects.{resolved}
use Rattle.space_roots.specs.WordRoots.{with_root_word, without_root as without_word}
use Rattle.space_engine.specs.Colours.{HasColours}
use Rattle.space_engine.specs.Generations.{HasGenerations}
use Rattle.space_engine.specs.Stands.{Represents, Holds}
use Rattle.space_engine.specs.Views.{View, with_root_written, with_root_dropped, with_stack}
use Rattle.space_engine.specs.Words.{resolved_roots}
use Rattle.space_engine.proofs.ColoursKept.{colours_noted}
use Rattle.space_engine.proofs.GenerationsByName.{generations_noted, noted_more}
use Rattle.space_engine.proofs.ResolvedRoots.{with_root_word-resolved, without_word-resolved}
use Rattle.space_engine.proofs.Resolving.{value_resolved}
use Rattle.space_engine.proofs.RootWords.{with_root_word-word_roots, without_word-word_roots}

module _ (v : View) (s : State) (h : Holds v s) where
  -- no object changed, and no name got a child
  same_generations : HasGenerations s.graph s.heap.place s.collector (with_names (mixed_names s) s.history.mixed) v.heap
  same_generations = generations_noted s.graph s.heap.place s.collector s.history.mixed (mixed_names s) v.heap h.represents.generations

  -- no object changed its colour, and more was seen
  same_colours : (t : State) → HasColours s.graph s.heap.place (let past : History = s.history in record past {
    seen = with_names (reached_names t) past.seen;
    mixed = with_names (mixed_names s) past.mixed;
  }) s.collector.phase v.heap
  same_colours t phase =
      colours_noted s.graph s.heap.place s.history (with_names (reached_names t) s.history.seen) (with_names (mixed_names s) s.history.mixed) v.heap
      (noted_more (reached_names t) s.history.seen) (h.represents.colours phase)

  -- a root got the word of a present value
  pub after_root_written : (root : List ℕ) (value : Value) (word : ℕ) → word ≡ value_word s.heap.place value → IsPresentValue s.heap.place value →
      Represents (with_root_written v root word) (noted (root_written s root value))
  after_root_written root value word e present = record {
    heap = h.represents.heap;
    generations = same_generations;
    colours = same_colours (root_written s root value);
    roots =
        sym (with_root_word-resolved v.heap v.roots root word)
        ∙ ap (with_root_word (resolved_roots v.heap v.roots) root) (ap (resolved v.heap) e ∙ value_resolved v s h value present)
        ∙ ap (λ words. with_root_word words root (value_word s.heap.place value)) h.represents.roots
        ∙ with_root_word-word_roots s.heap.place s.roots root value;
    stack = h.represents.stack;
    ids = h.represents.ids;
    weak = h.represents.weak;
    finals = h.represents.finals;
  }

  -- a root was taken away
  pub after_root_dropped : (root : List ℕ) → Represents (with_root_dropped v root) (noted (root_dropped s root))
  after_root_dropped root = record {
    heap = h.represents.heap;
    generations = same_generations;
    colours = same_colours (root_dropped s root);
    roots = sym (without_word-resolved v.heap v.roots root) ∙ ap (λ words. without_word words root) h.represents.roots
        ∙ without_word-word_roots s.heap.place s.roots root;
    stack = h.represents.stack;
    ids = h.represents.ids;
    weak = h.represents.weak;
    finals = h.represents.finals;
  }

  -- the stack has other words
  pub after_stack_replaced : (words : List ℕ) → Represents (with_stack v words) (noted (stack_replaced s words))
  after_stack_replaced words = record {
    heap = h.represents.heap;
    generations = same_generations;
    colours = same_colours (stack_replaced s words);
    roots = h.represents.roots;
    stack = refl;
    ids = h.represents.ids;
    weak = h.represents.weak;
    finals = h.represents.finals;
  }
