-- Where an object is allocated, and what the view has after it; and where there is no room for one.
use Rattle.std.proofs.Common.{◌≡◌, ◌⊎◌, ℕ, ◌+◌, ◌<◌, ◌≤◌, List, length, ap, ◌∙◌, sym, subst, refl, arith, nat_eq, Option, Some, ⊎_elim, inl, inr}
use Rattle.std.proofs.lemmas.Bool.{cases_eq, cond-true, cond-false}
use Rattle.std.proofs.lemmas.Bool.Decides.{nat_tests}
use Rattle.std.proofs.lemmas.Grind.{common_steps}
use Rattle.space_model.specs.declared.object.Guard.{Guard}
use Rattle.space_model.specs.declared.object.Style.{Style}
use Rattle.space_model.specs.Layout.{page_of, pool_for, slot_address}
use Rattle.space_model.specs.Moments.{noted}
use Rattle.space_model.specs.NewCommand.{NeedsPage}
use Rattle.space_model.specs.Pages.{pool_at as pool_of_page, with_pool}
use Rattle.space_model.specs.Pieces.{born, Born}
use Rattle.space_model.specs.Places.{IsNewAt, HasNoSpare, IsFreshPage}
use Rattle.space_model.specs.Sound.{Sound}
use Rattle.space_model.specs.State.{State}
use Rattle.space_model.proofs.Stages.{IsTriedInVain, IsNewPlace, IsAtLimit}
use Rattle.space_model.specs.declared.event.Event.{Event}
use Rattle.space_model.proofs.PageLaws.{pool_at-with_pool, page_of-slot_address}
use Rattle.space_finals.specs.FinalLists.{FinalLists}
use Rattle.space_heap.specs.Slots.{new_object}
use Rattle.space_heap.specs.HeapView.{HeapView, with_page}
use Rattle.space_heap.specs.Objects.{placed}
use Rattle.space_heap.specs.FreeSlots.{IsFreeAt, IsLeastFree, HasNoFree}
use Rattle.space_heap.specs.SoundHeap.{IsSoundHeap}
use Rattle.space_heap.specs.NewPages.{IsLeastSpare, HasNoSpare as HasNoSpareHeap}
use Rattle.space_heap.proofs.FreeLaws.{is_moved-with_page}
use Rattle.space_heap.proofs.NewPageLaws.{is_occupied-with_page, is_object-with_page, object_of-with_page, resolved-with_page}
use Rattle.space_heap.proofs.NewPageSlots.{rest-with_page}
use Rattle.space_heap.specs.Allocations.{GetsPage, IsAllocation, LacksRoom, NeedsNewPage}
use Rattle.space_engine.specs.Allocations.{IsRootedAllocation}
use Rattle.space_engine.specs.Stands.{Represents, Holds}
use Rattle.space_engine.specs.Views.{View, with_heap, with_swept, with_root_written}
use Rattle.space_engine.proofs.Addresses.{has_slot, known_pool}
use Rattle.space_engine.proofs.FreshPages.{fresh_pages, first_of_page, fresh_page}
use Rattle.space_engine.proofs.FreeAddresses.{free_agrees}
use Rattle.space_engine.proofs.SweptInNeed.{SweepsUntilFreeTo, until_free_holds}
use Rattle.space_engine.proofs.NeededCompletions.{IsTriedInNeed, tried_in_vain, free_in_need}
use Rattle.space_engine.proofs.NewObjects.{IsPrepared, after_allocation}

-- a page with a pool gets it again
within_pages : (pages : List (Option ℕ)) (page pool : ℕ) → pool_of_page pages page ≡ Some pool → page < length pages
within_pages pages page pool e = grind (arith, common_steps)

same_length : (pages : List (Option ℕ)) (page pool : ℕ) → page < length pages → length (with_pool pages page pool) ≡ length pages
unfolding with_pool
same_length pages page pool lt = grind (arith, nat_tests, common_steps)

same_pools : (pages : List (Option ℕ)) (page pool : ℕ) → pool_of_page pages page ≡ Some pool → (k : ℕ) →
    pool_of_page (with_pool pages page pool) k ≡ pool_of_page pages k
same_pools pages page pool e k =
    let lt = within_pages pages page pool e in
    pool_at-with_pool pages page pool k (omega arith)
    ∙ ⊎_elim
    (λ same. cond-true (nat_eq k page) (Some pool) (pool_of_page pages k) (grind (arith, nat_tests)) ∙ sym e ∙ ap (pool_of_page pages) (sym same))
    (λ other. cond-false (nat_eq k page) (Some pool) (pool_of_page pages k) (grind (arith, nat_tests)))
    (cases_eq k page)

-- the address that an object of the pool gets, once pages were swept: the least that is free; or, where none is in the heap, the first one of a
-- fresh page
abbrev pub IsPlaceFor : HeapView → State → ℕ → ℕ → Type 0
IsPlaceFor heap s pool a = IsNewAt s pool a ⊎ (HasNoFree heap pool × (page : ℕ) × IsFreshPage s page × (a ≡ slot_address page pool 0))

-- the view has what the state has after a compaction was completed and pages were swept, each in need, and then an object was allocated
pub record IsMadeFrom (w : View) (s : State) (events : List Event) (root : List ℕ) (fields : ℕ) (guard : Guard) (style : Style) (name a : ℕ) : Type 0 where
  pub ready : State
  pub state : State
  pub represents : Represents w state
  pub next : name ≡ length ready.graph + 1
  pub place : IsNewPlace s (pool_for fields) events ready a
  pub made : Born ready root fields guard style a state

-- where an object is allocated, and the heap there before
pub record IsPlaceOf (v w : View) (s : State) (fields : ℕ) (guard : Guard) (style : Style) (name a : ℕ) : Type 0 where
  pub place : IsPlaceFor v.heap s (pool_for fields) a
  pub heap : HeapView
  pub prepared : IsPrepared v s (with_pool s.heap.pages (page_of a) (pool_for fields)) heap
  pub free : IsFreeAt heap (pool_for fields) a
  pub becomes : w.heap ≡ placed heap a (new_object name fields guard style)

module _ (v w : View) (s : State) (held : Holds v s) (sound_heap : IsSoundHeap v.heap) (root : List ℕ) (fields : ℕ) (guard : Guard) (style : Style)
    (name a : ℕ) where
  abbrev h : Represents v s
  h = held.represents

  abbrev sound : Sound s
  sound = held.sound

  abbrev its_pool : ℕ
  its_pool = pool_for fields

  at_free : IsLeastFree v.heap its_pool a → w.heap ≡ placed v.heap a (new_object name fields guard style) → IsPlaceOf v w s fields guard style name a
  at_free l becomes =
      let free = (free_agrees s v.heap h.heap sound_heap its_pool a).1 l.free in
      let on : page_of a ≡ free.at.page = ap page_of free.at.is ∙ page_of-slot_address free.at.page its_pool free.at.slot free.at.on_page in
      let its : pool_of_page s.heap.pages (page_of a) ≡ Some its_pool = ap (pool_of_page s.heap.pages) on ∙ free.at.has_pool in
      record {
        place = inl (record { free = free; least = λ other f. l.least other ((free_agrees s v.heap h.heap sound_heap its_pool other).0 f) });
        heap = v.heap;
        prepared = record {
          has = record {
            count = same_length s.heap.pages (page_of a) its_pool (within_pages s.heap.pages (page_of a) its_pool its) ∙ h.heap.pages.count;
            pools = λ page. same_pools s.heap.pages (page_of a) its_pool its page ∙ h.heap.pages.pools page;
            limited = h.heap.pages.limited;
            waiting = h.heap.pages.waiting;
          };
          standing = λ b. refl;
          same = λ b. refl;
          objects = λ b. refl;
          moved = λ b. refl;
          leads = λ word. refl;
          progress = h.heap.progress;
          counters = refl;
        };
        free = l.free;
        becomes = becomes;
      }

  on_page : (page : ℕ) → GetsPage v.heap (with_page v.heap page its_pool) its_pool page → IsLeastFree (with_page v.heap page its_pool) its_pool a →
      w.heap ≡ placed (with_page v.heap page its_pool) a (new_object name fields guard style) → IsPlaceOf v w s fields guard style name a
  on_page page g l becomes =
      let within : page ≤ length v.heap.pages =
      ⊎_elim (λ (x : IsLeastSpare v.heap page). let lt = x.spare.0 in omega arith) (λ (none, next, below). omega arith) g.next in
      let first = first_of_page v s h page its_pool g (known_pool fields) a (has_slot fields) l in
      let others = rest-with_page v.heap page its_pool in
      record {
        place = inr (g.none_free, page, fresh_page v s h page its_pool g, first.1);
        heap = with_page v.heap page its_pool;
        prepared = subst (λ k. IsPrepared v s (with_pool s.heap.pages k its_pool) (with_page v.heap page its_pool)) (sym first.0) (record {
          has = fresh_pages v s h page its_pool g;
          standing = is_occupied-with_page v.heap page its_pool within g.empty;
          same = is_object-with_page v.heap page its_pool within g.empty;
          objects = object_of-with_page v.heap page its_pool within g.empty;
          moved = is_moved-with_page v.heap page its_pool within g.empty;
          leads = resolved-with_page v.heap page its_pool within g.empty;
          progress = record {
            at = others.phase ∙ h.heap.progress.at;
            until = others.cursor ∙ h.heap.progress.until;
            none_grey = λ phase. others.grey ∙ h.heap.progress.none_grey phase;
          };
          counters = others.counters;
        });
        free = l.free;
        becomes = becomes;
      }

  place_of : IsAllocation v.heap w.heap fields guard style name a → IsPlaceOf v w s fields guard style name a
  place_of b = ⊎_elim
      (λ same. at_free (subst (λ heap. IsLeastFree heap its_pool a) same b.least)
      (b.becomes ∙ ap (λ heap. placed heap a (new_object name fields guard style)) same))
      (λ (page, g).
      on_page page (record { none_free = g.none_free; next = g.next; empty = g.empty; swept = g.swept; becomes = refl })
      (subst (λ heap. IsLeastFree heap its_pool a) g.becomes b.least) (b.becomes ∙ ap (λ heap. placed heap a (new_object name fields guard style)) g.becomes))
      b.room

-- where no page is spare in the heap, none is in the state
none_spare_there : (v : View) (s : State) → Represents v s → HasNoSpareHeap v.heap → HasNoSpare s
none_spare_there v s h spares = λ page spare.
    spares page (let c = h.heap.pages.count in let lt = spare.0 in omega arith, sym (h.heap.pages.pools page) ∙ spare.1)

-- the space `v` stands for the state `t`, to which a compaction that was completed in need led from `s`
module _ (v : View) (s t : State) (pool : ℕ) (events : List Event) (tried : IsTriedInNeed s pool events t) (z : HeapView) (g : FinalLists)
    (to : SweepsUntilFreeTo v t z g pool) where
  -- the place in words of the state before that
  place_after : (a : ℕ) → IsPlaceFor z to.state pool a → IsNewPlace s pool events to.state a
  place_after a place = ⊎_elim
      (λ new. free_in_need s pool events t to.state tried to.pages to.sweeps a new)
      (λ (none, page, fresh, is).
      inr (inr (record { vain = tried_in_vain s pool events t to.state tried (to.vain none); page = page; fresh = fresh; is = is })))
      place

  -- where there is no room in the heap after the sweeps, the state is at the limit
  pub full_state : LacksRoom z pool → IsAtLimit s pool events to.state
  full_state (none, full) = record {
    vain = tried_in_vain s pool events t to.state tried (to.vain none);
    none_spare = none_spare_there (with_swept v z g) to.state to.holds.represents full.0;
    limit =
        let pages = to.holds.represents.heap.pages in
        pages.count ∙ full.1 ∙ sym pages.limited;
  }

  -- where an object needs a new page in the heap after the sweeps, it needs one in the state
  pub needs_page : NeedsNewPage z pool → IsTriedInVain s pool events to.state × NeedsPage to.state
  needs_page w =
      let pages = to.holds.represents.heap.pages in (
        tried_in_vain s pool events t to.state tried (to.vain w.none_free),
        record {
          none_spare = none_spare_there (with_swept v z g) to.state to.holds.represents w.none_spare;
          below =
              let most = to.holds.sound.layout.limited in
              let other : length to.state.heap.pages ≡ to.state.heap.limit → ⊥ = λ e. w.below (sym pages.count ∙ e ∙ pages.limited) in
              omega arith;
        },
      )

-- the state after that, the sweeps and the allocation
pub made_from : (v w : View) (s t : State) (root : List ℕ) (fields : ℕ) (guard : Guard) (style : Style) (name a : ℕ) (events : List Event) →
    Holds v t → IsTriedInNeed s (pool_for fields) events t → IsRootedAllocation v w root fields guard style name a →
    IsMadeFrom w s events root fields guard style name a
made_from v w s t root fields guard style name a events held tried r =
    let to = until_free_holds v t r.swept w.finals (pool_for fields) held r.was_sound r.sound r.sweeps in
    let u = with_swept v r.swept w.finals in
    let p = place_of u w to.state to.holds r.sound root fields guard style name a r.allocation in
    let place = place_after v s t (pool_for fields) events tried r.swept w.finals to a p.place in
    let named : name ≡ length to.state.graph + 1 = r.allocation.named ∙ ap (λ n. n + 1) to.holds.represents.heap.counted.allocated in
    let heap : w.heap ≡ placed p.heap a (new_object (length to.state.graph + 1) fields guard style) =
    p.becomes ∙ ap (λ n. placed p.heap a (new_object n fields guard style)) named in
    let is : w ≡ with_root_written (with_heap u (placed p.heap a (new_object (length to.state.graph + 1) fields guard style))) root a =
    r.becomes ∙ ap (λ heap. with_root_written (with_swept v heap w.finals) root a) heap in
    record {
      ready = to.state;
      state = noted (born to.state root fields guard style a);
      represents = subst (λ w. Represents w (noted (born to.state root fields guard style a))) (sym is)
          (after_allocation u to.state to.holds root fields guard style a (with_pool to.state.heap.pages (page_of a) (pool_for fields)) p.heap p.prepared
          p.free refl);
      next = named;
      place = place;
      made = refl;
    }
