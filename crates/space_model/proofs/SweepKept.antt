-- Which pages wait for a sweep, and which are used.
use Rattle.std.proofs.Common.{◌≡◌, ◌≢◌, ◌⊎◌, ℕ, suc, ◌+◌, ◌<◌, ◌≤◌, cond, true, List, [], ◌∷◌, length, nat_eq, refl, sym, ap, ◌∙◌, subst, arith, Option, None, Some, ⊎_elim, inl, inr}
use Rattle.std.specs.Prelude.{is_some}
use Rattle.std.specs.List.{AllPairs}
use Rattle.std.specs.Set.{is_member}
use Rattle.std.specs.Cmp.{unsigned_Decides}
use Rattle.std.specs.Ordering.{nat_cmp}
use Rattle.std.specs.FinMap.{FinMap, get, insert}
use Rattle.std.proofs.lemmas.Bool.{cases_Bool, cases_eq, false≢true, or_right, or_from, ne_eqb}
use Rattle.std.proofs.lemmas.Bool.Decides.{nat_tests}
use Rattle.std.proofs.lemmas.Map.Made.{is_member-Decides}
use Rattle.space_model.specs.declared.phase.Phase.{Phase}
use Rattle.space_model.specs.declared.phase.Phase.TheVariants.{Idle, Marking, Sweeping, Moving, Fixing}
use Rattle.space_model.specs.Sweeps.{sweep_phase}
use Rattle.space_model.specs.Graph.{Item}
use Rattle.space_model.specs.Layout.{page_of}
use Rattle.space_model.specs.Pages.{pool_at, with_pool, pool_pages, is_used, spared}
use Rattle.space_model.specs.Sound.{AreSlots, SoundCorpses, SoundSweep, SoundUsed}
use Rattle.space_model.proofs.MapLaws.{get-insert_name}
use Rattle.space_model.proofs.PageLaws.{pool_at-with_pool, member-pool_pages, rising-pool_pages, pool_at-spared, pool_at-spared_page, user, used_by}

sweep_phase-some : (pages : List ℕ) → sweep_phase pages ≡ Sweeping → pages ≢ []
sweep_phase-some [] e p = cc
sweep_phase-some (page ∷ pages) e p = cc

sweep_phase-none : (pages : List ℕ) → sweep_phase pages ≢ Sweeping → pages ≡ []
sweep_phase-none [] e = refl
sweep_phase-none (page ∷ pages) e = absurd (e refl)

pub is_sweeping : (phase : Phase) → (phase ≡ Sweeping) ⊎ (phase ≢ Sweeping)
is_sweeping Idle = inr (λ e. cc)
is_sweeping Marking = inr (λ e. cc)
is_sweeping Sweeping = inl refl
is_sweeping Moving = inr (λ e. cc)
is_sweeping Fixing = inr (λ e. cc)

-- where a page waits for a sweep, the phase is Sweeping
pub sweeping : (phase : Phase) (pages : List (Option ℕ)) (page : ℕ) (others : List ℕ) → SoundSweep phase pages (page ∷ others) → phase ≡ Sweeping
sweeping phase pages page others h = ⊎_elim (λ p. p) (λ n. absurd (let w = h.none n in cc)) (is_sweeping phase)

-- outside Sweeping there is no corpse
pub no_corpse : (graph : List Item) (place corpses : FinMap nat_cmp ℕ) (phase : Phase) (pages : List (Option ℕ)) (unswept : List ℕ) →
    SoundCorpses graph place corpses pages unswept → SoundSweep phase pages unswept → phase ≢ Sweeping → (n a : ℕ) → get corpses n ≡ Some a → ⊥
no_corpse graph place corpses phase pages unswept c h p n a e = false≢true (sym (ap (λ ps. is_member nat_eq ps (page_of a)) (h.none p)) ∙ c.on_unswept n a e)

-- the first of ascending numbers is below the others
pub below_others : (first : ℕ) (others : List ℕ) (n : ℕ) → AllPairs (λ x y. x < y) (first ∷ others) → is_member nat_eq others n ≡ true → first < n
below_others first others n h m =
    let c = (is_member-Decides unsigned_Decides others n).0 m in
    let k = h 0 (suc c.0) n (omega arith) (let l = c.1 in omega arith) in
    subst (λ x. first < x) c.2 k

rising_others : (first : ℕ) (others : List ℕ) → AllPairs (λ x y. x < y) (first ∷ others) → AllPairs (λ x y. x < y) others
rising_others first others h = λ i j d l m. h (suc i) (suc j) d (omega arith) (omega arith)

pub SoundSweep-born : (phase : Phase) (pages : List (Option ℕ)) (unswept : List ℕ) (page pool : ℕ) → page ≤ length pages → SoundSweep phase pages unswept →
    SoundSweep phase (with_pool pages page pool) unswept
SoundSweep-born phase pages unswept page pool below h = record {
  rising = h.rising;
  have_pools = λ p m. let q = pool_at-with_pool pages page pool p below in let k = h.have_pools p m in grind (arith, nat_tests, q, k, cases_eq p page);
  some = h.some;
  none = h.none;
}

pub SoundSweep-took : (pages : List (Option ℕ)) → SoundSweep (sweep_phase (pool_pages pages)) pages (pool_pages pages)
SoundSweep-took pages = record {
  rising = rising-pool_pages pages;
  have_pools = λ p m. sym (member-pool_pages pages p) ∙ m;
  some = sweep_phase-some (pool_pages pages);
  none = sweep_phase-none (pool_pages pages);
}

pub SoundSweep-swept : (phase : Phase) (place : FinMap nat_cmp ℕ) (pages : List (Option ℕ)) (page : ℕ) (others : List ℕ) →
    SoundSweep phase pages (page ∷ others) → SoundSweep (sweep_phase others) (spared place page pages) others
SoundSweep-swept phase place pages page others h = record {
  rising = rising_others page others h.rising;
  have_pools = λ p m. let b = below_others page others p h.rising m in
      let k = h.have_pools p (or_right (nat_eq p page) _ m) in
      ⊎_elim (λ same. ap is_some same ∙ k) (λ (on, unused). absurd (omega arith)) (pool_at-spared place page pages p);
  some = sweep_phase-some others;
  none = sweep_phase-none others;
}

pub SoundUsed-born : (graph : List Item) (phase : Phase) (pages : List (Option ℕ)) (unswept : List ℕ) (place : FinMap nat_cmp ℕ) (address pool : ℕ) →
    page_of address ≤ length pages → AreSlots graph pages place → SoundUsed phase pages unswept place →
    SoundUsed phase (with_pool pages (page_of address) pool) unswept (insert place (length graph + 1) address)
SoundUsed-born graph phase pages unswept place address pool below l h m x page p u = ⊎_elim
    (λ same. used_by (insert place (length graph + 1) address) page (length graph + 1) address
    (let g = get-insert_name place (length graph + 1) address (length graph + 1) in grind (arith, nat_tests, g)) (sym same))
    (λ other. let q = pool_at-with_pool pages (page_of address) pool page below in
    let k = user place page (h m x page (grind (arith, nat_tests, q, p, other)) u) in
    ⊎_elim
    (λ e. absurd (let b = l.allocated k.0 k.1 k.2 in omega arith))
    (λ d. used_by (insert place (length graph + 1) address) page k.0 k.1
    (let g = get-insert_name place (length graph + 1) address k.0 in let w = k.2 in grind (arith, nat_tests, g, w, d)) k.3)
    (cases_eq k.0 (length graph + 1)))
    (cases_eq page (page_of address))

pub SoundUsed-took : (phase : Phase) (pages : List (Option ℕ)) (place : FinMap nat_cmp ℕ) → SoundUsed phase pages (pool_pages pages) place
SoundUsed-took phase pages place m x page p u = absurd (let e = member-pool_pages pages page in cc)

pub SoundUsed-swept : (phase : Phase) (place : FinMap nat_cmp ℕ) (pages : List (Option ℕ)) (page : ℕ) (others : List ℕ) → phase ≢ Moving → phase ≢ Fixing →
    SoundUsed phase pages (page ∷ others) place → SoundUsed (sweep_phase others) (spared place page pages) others place
SoundUsed-swept phase place pages page others a b h m x p e u = ⊎_elim
    (λ same. stands p same e)
    (λ other. ⊎_elim
    (λ q. h a b p (sym (ap is_some q) ∙ e) (or_from _ _ (ne_eqb p page other) u))
    (λ (q, _). absurd (other q))
    (pool_at-spared place page pages p))
    (cases_eq p page)
  where
    stands : (p : ℕ) → p ≡ page → is_some (pool_at (spared place page pages) p) ≡ true → is_used place p ≡ true
    stands p same e = ⊎_elim
        (λ t. ap (is_used place) same ∙ t)
        (λ f. absurd (false≢true (sym (ap is_some
        (ap (pool_at (spared place page pages)) same ∙ pool_at-spared_page place page pages ∙ ap (λ c. cond c (pool_at pages page) None) f)) ∙ e)))
        (cases_Bool (is_used place page))
