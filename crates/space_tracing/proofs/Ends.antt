-- What is marked where nothing is grey any more, and how many were scanned.
use Rattle.std.proofs.Common.{◌≡◌, ◌≢◌, ◌↔◌, ⊎_elim, ℕ, false, List, length, nat_eq, refl}
use Rattle.std.specs.Set.{is_member}
use Rattle.space_model.specs.Counts.{CountIs}
use Rattle.space_model.specs.Reach.{IsReached}
use Rattle.space_model.proofs.Reaching.{IsReached-least}
use Rattle.space_heap.specs.declared.colour.Colour.TheVariants.{Grey, Black}
use Rattle.space_heap.specs.HeapView.{HeapView}
use Rattle.space_heap.specs.Marking.{colour_of}
use Rattle.space_tracing.specs.Graph.{IsChild}
use Rattle.space_tracing.specs.Marking.{IsMarked, Marking}
use Rattle.space_tracing.proofs.Steps.{From}
use Rattle.space_tracing.proofs.Bundles.{closed_drained, colours}

-- what is marked in the end
pub marked_exactly : (old new : HeapView) (words again done : List ℕ) → Marking old new words again done → ((n : ℕ) → colour_of new n ≢ Grey)
    → ((m n : ℕ) → colour_of old m ≡ Black → is_member nat_eq again m ≡ false → IsChild old m n → IsMarked new n) → (n : ℕ)
    → IsMarked new n ↔ IsReached (IsChild old) (From old words) n
marked_exactly old new words again done p none before n = (
  p.sound n,
  IsReached-least (IsChild old) (From old words) (IsMarked new) (closed_drained old new words again done p none before)
      (λ q f. ⊎_elim (p.kept q) (p.named q) f) n,
)

-- how many were scanned for the first time
pub count_done : (old new : HeapView) (words again done : List ℕ) → Marking old new words again done → ((n : ℕ) → colour_of new n ≢ Grey)
    → CountIs (λ n. IsMarked new n × (colour_of old n ≢ Black)) (length done)
count_done old new words again done p none = record {
  names = done;
  once = p.once;
  are = λ n. (
    (λ d. let b = p.done_black n d in ((λ w. cc), p.done_new n d)),
    (λ h. ⊎_elim (λ w. absurd (h.0 w)) (λ q. ⊎_elim (λ g. absurd (none n g)) (λ b. p.black_done n b h.1) q) (colours (colour_of new n))),
  );
  long = refl;
}

pub count_same : (P Q : ℕ → Type 0) (k : ℕ) → ((n : ℕ) → P n → Q n) → ((n : ℕ) → Q n → P n) → CountIs P k → CountIs Q k
count_same P Q k to from c = record { names = c.names; once = c.once; are = λ n. ((λ m. to n ((c.are n).0 m)), (λ q. (c.are n).1 (from n q))); long = c.long }
