-- What a state is like after all its pages were swept.
use Rattle.std.proofs.Common.{◌≡◌, ℕ, zero, suc, ◌+◌, ◌||◌, cond, true, List, [], ◌∷◌, ◌++◌, length, nat_eq, refl, sym, ap, ◌∙◌, subst, arith, Option, None, ⊎_elim}
use Rattle.std.specs.Set.{is_member}
use Rattle.std.specs.Ordering.{nat_cmp}
use Rattle.std.specs.FinMap.{FinMap}
use Rattle.std.proofs.lemmas.Bool.{cases_Bool, cases_eq, or_left, eq-eqb, ne_eqb}
use Rattle.std.proofs.lemmas.List.{length-append}
use Rattle.space_model.specs.declared.phase.Phase.TheVariants.{Idle}
use Rattle.space_model.specs.Sweeps.{sweep_phase, swept, Sweep1, Sweeps, SweepAll}
use Rattle.space_model.specs.Moments.{noted}
use Rattle.space_model.specs.Pages.{pool_at, is_used, spared}
use Rattle.space_model.specs.State.{State}
use Rattle.space_model.proofs.PageLaws.{pool_at-spared, pool_at-spared_page, length-spared}

-- after the sweep of these pages: one of them is spare where nothing stands on it, and what roots, fields and stack words stand for
-- is as it was
pub record IsSwept (unswept freed : List ℕ) (s t : State) : Type 0 where
  pub graph : t.graph ≡ s.graph
  pub roots : t.roots ≡ s.roots
  pub stack : t.stack ≡ s.stack
  pub place : t.heap.place ≡ s.heap.place
  pub left : t.heap.left ≡ s.heap.left
  pub limit : t.heap.limit ≡ s.heap.limit
  pub none_waits : t.heap.unswept ≡ []
  pub pools : (q : ℕ) →
      pool_at t.heap.pages q ≡ cond (is_member nat_eq unswept q) (cond (is_used s.heap.place q) (pool_at s.heap.pages q) None) (pool_at s.heap.pages q)
  pub page_count : length t.heap.pages ≡ length s.heap.pages
  pub outlived : t.collector.outlived ≡ s.collector.outlived
  pub phase : s.collector.phase ≡ sweep_phase unswept → t.collector.phase ≡ Idle
  pub total : t.counters.freed ≡ s.counters.freed + length freed

pools_swept : (place : FinMap nat_cmp ℕ) (pages : List (Option ℕ)) (page : ℕ) (others : List ℕ) (q : ℕ) →
    cond (is_member nat_eq others q) (cond (is_used place q) (pool_at (spared place page pages) q) None) (pool_at (spared place page pages) q)
    ≡ cond (is_member nat_eq (page ∷ others) q) (cond (is_used place q) (pool_at pages q) None) (pool_at pages q)
pools_swept place pages page others q = ⊎_elim
    (λ same.
    let e : pool_at (spared place page pages) q ≡ cond (is_used place q) (pool_at pages q) None =
    subst (λ x. pool_at (spared place page pages) x ≡ cond (is_used place x) (pool_at pages x) None) (sym same) (pool_at-spared_page place page pages) in
    let m : is_member nat_eq (page ∷ others) q ≡ true = or_left _ _ (eq-eqb q page same) in
    grind (arith, e, m, cases_Bool (is_used place q), cases_Bool (is_member nat_eq others q)))
    (λ other.
    let m : is_member nat_eq (page ∷ others) q ≡ is_member nat_eq others q = ap (λ b. b || is_member nat_eq others q) (ne_eqb q page other) in
    ⊎_elim
    (λ e. ap (λ o. cond (is_member nat_eq others q) (cond (is_used place q) o None) o) e
    ∙ ap (λ b. cond b (cond (is_used place q) (pool_at pages q) None) (pool_at pages q)) (sym m))
    (λ (e, _). absurd (other e))
    (pool_at-spared place page pages q))
    (cases_eq q page)

swept_one : (s t : State) (now : List ℕ) (page : ℕ) (others : List ℕ) → s.heap.unswept ≡ page ∷ others → Sweep1 s now t → t ≡ noted (swept s page others now)
swept_one s t now page others e step =
    let both : step.page ∷ step.others ≡ page ∷ others = sym step.first ∙ e in
    let p : step.page ≡ page = cc in
    let o : step.others ≡ others = cc in
    subst (λ x. t ≡ noted (swept s x others now)) p (subst (λ xs. t ≡ noted (swept s step.page xs now)) o step.after)

pub Sweeps-swept : (pages : List ℕ) (s t : State) (freed : List ℕ) → s.heap.unswept ≡ pages → Sweeps (length pages) s freed t → IsSwept pages freed s t
Sweeps-swept [] s t freed e (none, same) = subst (λ u. IsSwept [] freed s u) (sym same) (subst (λ xs. IsSwept [] xs s s) (sym none) (record {
  graph = refl;
  roots = refl;
  stack = refl;
  place = refl;
  left = refl;
  limit = refl;
  none_waits = e;
  pools = λ q. refl;
  page_count = refl;
  outlived = refl;
  phase = λ p. p;
  total = omega arith;
}))
Sweeps-swept (page ∷ others) s t freed e (now, later, mid, both, step, more) =
    let after : mid ≡ noted (swept s page others now) = swept_one s mid now page others e step in
    let rest : Sweeps (length others) (noted (swept s page others now)) later t = subst (λ u. Sweeps (length others) u later t) after more in
    let k = Sweeps-swept others (noted (swept s page others now)) t later refl rest in
    record {
      graph = k.graph;
      roots = k.roots;
      stack = k.stack;
      place = k.place;
      left = k.left;
      limit = k.limit;
      none_waits = k.none_waits;
      pools = λ q. k.pools q ∙ pools_swept s.heap.place s.heap.pages page others q;
      page_count = k.page_count ∙ length-spared s.heap.place page s.heap.pages;
      outlived = k.outlived;
      phase = λ p. k.phase refl;
      total = (let a = k.total in let b : length freed ≡ length (now ++ later) = ap length both in let c = length-append now later in omega arith);
    }

-- sweeps move and take no object
pub Sweeps-place : (pages : ℕ) (s t : State) (freed : List ℕ) → Sweeps pages s freed t → t.heap.place ≡ s.heap.place
Sweeps-place zero s t freed (none, same) = ap (λ (u : State). u.heap.place) same
Sweeps-place (suc pages) s t freed (now, later, mid, both, step, more) =
    Sweeps-place pages mid t later more ∙ ap (λ (u : State). u.heap.place) step.after

pub SweepAll-swept : (s t : State) (freed : List ℕ) → SweepAll s freed t → IsSwept s.heap.unswept freed s t
SweepAll-swept s t freed h = Sweeps-swept s.heap.unswept s t freed refl h

-- after sweeps the phase is that of the pages that wait, where it was before
pub Sweeps-phase : (pages : ℕ) (s t : State) (freed : List ℕ) → Sweeps pages s freed t → s.collector.phase ≡ sweep_phase s.heap.unswept →
    t.collector.phase ≡ sweep_phase t.heap.unswept
Sweeps-phase zero s t freed (none, same) e = subst (λ (u : State). u.collector.phase ≡ sweep_phase u.heap.unswept) (sym same) e
Sweeps-phase (suc pages) s t freed (now, later, mid, both, step, more) e =
    Sweeps-phase pages mid t later more (subst (λ (u : State). u.collector.phase ≡ sweep_phase u.heap.unswept) (sym step.after) refl)

-- each page that is swept waits no more, and each corpse that is freed is counted
pub Sweeps-counted : (pages : ℕ) (s t : State) (freed : List ℕ) → Sweeps pages s freed t →
    (length t.heap.unswept + pages ≡ length s.heap.unswept) × (t.counters.freed ≡ s.counters.freed + length freed)
Sweeps-counted zero s t freed (none, same) =
    subst (λ (u : State). (length u.heap.unswept + 0 ≡ length s.heap.unswept) × (u.counters.freed ≡ s.counters.freed + length freed)) (sym same)
    (omega arith, (let a : length freed ≡ 0 = ap length none in omega arith))
Sweeps-counted (suc pages) s t freed (now, later, mid, both, step, more) =
    let (left, total) = Sweeps-counted pages mid t later more in
    let waits : length mid.heap.unswept ≡ length step.others = ap (λ (u : State). length u.heap.unswept) step.after in
    let first : length s.heap.unswept ≡ length (step.page ∷ step.others) = ap length step.first in
    let counted : mid.counters.freed ≡ s.counters.freed + length now = ap (λ (u : State). u.counters.freed) step.after in
    let long : length freed ≡ length (now ++ later) = ap length both in
    let parts = length-append now later in
    (omega arith, omega arith)
