-- Of a state: a compaction that was completed in need of a free address, and what sweeps in need find after it.
use Rattle.std.proofs.Common.{◌≡◌, ◌⊎◌, ℕ, zero, suc, List, [], refl, sym, ◌∙◌, subst, ⊎_elim, inl, inr}
use Rattle.space_model.specs.declared.event.Event.{Event}
use Rattle.space_model.specs.Completions.{Completes}
use Rattle.space_model.specs.NewCommand.{SweepsInNeed, IsCompacting}
use Rattle.space_model.specs.Places.{IsNewAt, HasNoFreeAddress}
use Rattle.space_model.specs.Sound.{Sound}
use Rattle.space_model.specs.State.{State}
use Rattle.space_model.proofs.Stages.{IsSweptInVain, IsTriedInVain, IsNewPlace, still_in_need}
use Rattle.space_model.proofs.WholeLaws.{completed_idle}

-- the compaction that was under way was completed, since no address was free for the pool, and no page waited before or after it
pub record IsNeeded (s : State) (pool : ℕ) (events : List Event) (t : State) : Type 0 where
  pub compacting : IsCompacting s
  pub none_free : HasNoFreeAddress s pool
  pub none_waits : s.heap.unswept ≡ []
  pub completes : Completes s events t
  pub none_waits_after : t.heap.unswept ≡ []

-- no compaction was under way or an address was free, and nothing was done
pub record IsUnneeded (s : State) (pool : ℕ) (events : List Event) (t : State) : Type 0 where
  pub unneeded : IsCompacting s → HasNoFreeAddress s pool → ⊥
  pub silent : events ≡ []
  pub same : t ≡ s

abbrev pub IsTriedInNeed : State → ℕ → List Event → State → Type 0
IsTriedInNeed s pool events t = IsNeeded s pool events t ⊎ IsUnneeded s pool events t

-- from what is known of the compaction alone
pub needed : (s : State) (pool : ℕ) (events : List Event) (t : State) → Sound s → Sound t → IsCompacting s → HasNoFreeAddress s pool →
    Completes s events t → IsNeeded s pool events t
needed s pool events t h after compacting none completes = record {
  compacting = compacting;
  none_free = none;
  none_waits = h.sweep.none (λ sweeping. ⊎_elim (λ moving. cc) (λ fixing. cc) compacting);
  completes = completes;
  none_waits_after = after.sweep.none (λ sweeping. (let idle = completed_idle s t events completes h in cc));
}

-- where no compaction is under way nothing is to be done
pub unneeded_still : (s : State) (pool : ℕ) → (IsCompacting s → ⊥) → IsTriedInNeed s pool [] s
unneeded_still s pool still = inr (record { unneeded = λ compacting none. still compacting; silent = refl; same = refl })

-- where no page waits none is swept
in_need_none : (pages : ℕ) (s : State) (pool : ℕ) (t : State) → s.heap.unswept ≡ [] → SweepsInNeed pages s pool t → t ≡ s
in_need_none zero s pool t none same = same
in_need_none (suc pages) s pool t none (full, freed, mid, first, others) = (let some = sym none ∙ first.first in absurd (cc))

-- where no address is free after sweeps in need, none was before
none_before : (pages : ℕ) (s : State) (pool : ℕ) (t : State) → SweepsInNeed pages s pool t → HasNoFreeAddress t pool → HasNoFreeAddress s pool
none_before zero s pool t same none = subst (λ u. HasNoFreeAddress u pool) same none
none_before (suc pages) s pool t (full, freed, mid, first, others) none = full

module _ (s : State) (pool : ℕ) (events : List Event) (t u : State) where
  -- all pages were swept in vain too
  pub tried_in_vain : IsTriedInNeed s pool events t → IsSweptInVain t pool u → IsTriedInVain s pool events u
  tried_in_vain tried vain = ⊎_elim
      (λ need.
      let same : u ≡ t = in_need_none vain.pages t pool u need.none_waits_after vain.sweeps in
      record {
        swept = s;
        vain = record { pages = 0; sweeps = refl; none_free = need.none_free; none_waits = need.none_waits };
        completes = inl (need.compacting, subst (λ u. Completes s events u) (sym same) need.completes);
        none_free = vain.none_free;
      })
      (λ (none : IsUnneeded s pool events t).
      let sweeps : SweepsInNeed vain.pages s pool u = subst (λ t. SweepsInNeed vain.pages t pool u) none.same vain.sweeps in
      record {
        swept = u;
        vain = record { pages = vain.pages; sweeps = sweeps; none_free = vain.none_free; none_waits = vain.none_waits };
        completes = inr (
          still_in_need vain.pages s pool u sweeps
              (λ compacting. none.unneeded compacting (none_before vain.pages s pool u sweeps vain.none_free)),
          none.silent,
          refl,
        );
        none_free = vain.none_free;
      })
      tried

  -- an address is free after sweeps in need
  pub free_in_need : IsTriedInNeed s pool events t → (pages : ℕ) → SweepsInNeed pages t pool u → (address : ℕ) → IsNewAt u pool address →
      IsNewPlace s pool events u address
  free_in_need tried pages sweeps address new = ⊎_elim
      (λ need.
      let same : u ≡ t = in_need_none pages t pool u need.none_waits_after sweeps in
      inr (inl (record {
        swept = s;
        vain = record { pages = 0; sweeps = refl; none_free = need.none_free; none_waits = need.none_waits };
        compacting = need.compacting;
        completes = subst (λ u. Completes s events u) (sym same) need.completes;
        new = new;
      })))
      (λ (none : IsUnneeded s pool events t). inl (record {
        silent = none.silent;
        pages = pages;
        sweeps = subst (λ t. SweepsInNeed pages t pool u) none.same sweeps;
        new = new;
      }))
      tried
