-- That a name moves once in a compaction stays so after each piece of work.
use Rattle.std.proofs.Common.{◌≡◌, ◌≢◌, ℕ, ◌+◌, ◌≤◌, cond, true, List, [], ◌∷◌, ◌++◌, length, nat_eq, sym, ap, ◌∙◌, subst, arith, Some, ⊎_elim}
use Rattle.std.specs.Prelude.{is_some}
use Rattle.std.specs.Set.{is_member}
use Rattle.std.specs.FinMap.{get}
use Rattle.std.proofs.lemmas.Bool.{cases_eq, eq-eqb}
use Rattle.std.proofs.lemmas.Bool.Decides.{nat_tests}
use Rattle.space_model.specs.declared.object.Guard.{Guard}
use Rattle.space_model.specs.declared.object.Style.{Style}
use Rattle.space_model.specs.declared.phase.Phase.TheVariants.{Moving}
use Rattle.space_model.specs.Graph.{Item}
use Rattle.space_model.specs.Layout.{page_of, pool_for}
use Rattle.space_model.specs.Pages.{pool_at, with_pool}
use Rattle.space_model.specs.Pieces.{new_item, born}
use Rattle.space_model.specs.Places.{pool_of, IsSlot, IsFree}
use Rattle.space_model.specs.Sound.{AreSlots, SoundMoves}
use Rattle.space_model.specs.State.{State, Heap}
use Rattle.space_model.specs.Sweeps.{sweep_phase}
use Rattle.space_model.proofs.MapLaws.{get-insert_name, some_get}
use Rattle.space_model.proofs.PageLaws.{pool_at-with_pool, page_of-slot_address}
use Rattle.space_model.proofs.SlotLaws.{item_of-push}

-- where no objects may move nothing is asked
pub SoundMoves-still : (s : State) → s.collector.phase ≢ Moving → SoundMoves s
SoundMoves-still s still moves = absurd (still moves)

-- so it is where pages wait or nothing is under way
pub sweeps_move_none : (pages : List ℕ) → sweep_phase pages ≡ Moving → ⊥
sweeps_move_none [] e = cc
sweeps_move_none (page ∷ pages) e = cc

-- what is free in a state is free in another of the same heap
pub IsFree-same : (s t : State) (pool address : ℕ) → t.heap ≡ s.heap → IsFree t pool address → IsFree s pool address
IsFree-same s t pool address e f = record {
  at = subst (λ (heap : Heap). IsSlot heap.pages pool address) e f.at;
  swept = ap (λ (heap : Heap). is_member nat_eq heap.unswept (page_of address)) (sym e) ∙ f.swept;
  no_place = λ name at. f.no_place name (ap (λ (heap : Heap). get heap.place name) e ∙ at);
  no_corpse = λ name at. f.no_corpse name (ap (λ (heap : Heap). get heap.corpses name) e ∙ at);
  not_left = λ name at. f.not_left name (ap (λ (heap : Heap). get heap.left name) e ∙ at);
}

-- where the heap stays, and the pools of the names that left an address
pub SoundMoves-shaped : (s t : State) → (t.collector.phase ≡ Moving → s.collector.phase ≡ Moving) → t.heap ≡ s.heap →
    ((name : ℕ) → is_some (get s.heap.left name) ≡ true → pool_of t.graph name ≡ pool_of s.graph name) → SoundMoves s → SoundMoves t
SoundMoves-shaped s t phase e pools h moves name address free left at f =
    let left_before : is_some (get s.heap.left name) ≡ true = ap (λ (heap : Heap). is_some (get heap.left name)) (sym e) ∙ left in
    h (phase moves) name address free left_before (ap (λ (heap : Heap). get heap.place name) (sym e) ∙ at)
    (IsFree-same s t (pool_of s.graph name) free e (subst (λ pool. IsFree t pool free) (pools name left_before) f))

-- where the heap and the graph stay
pub SoundMoves-same : (s t : State) → (t.collector.phase ≡ Moving → s.collector.phase ≡ Moving) → t.heap ≡ s.heap → t.graph ≡ s.graph → SoundMoves s →
    SoundMoves t
SoundMoves-same s t phase e graph h = SoundMoves-shaped s t phase e (λ name left. ap (λ graph. pool_of graph name) graph) h

-- a new object stands at an address that was free
module _ (s : State) (root : List ℕ) (fields : ℕ) (guard : Guard) (style : Style) (address : ℕ) (fresh : IsFree s (pool_for fields) address)
    (below : page_of address ≤ length s.heap.pages) where
  on : page_of address ≡ fresh.at.page
  on = ap page_of fresh.at.is ∙ page_of-slot_address fresh.at.page (pool_for fields) fresh.at.slot fresh.at.on_page

  -- its page had the pool before
  pools_stay : (page : ℕ) → pool_at (with_pool s.heap.pages (page_of address) (pool_for fields)) page ≡ pool_at s.heap.pages page
  pools_stay page =
      let q = pool_at-with_pool s.heap.pages (page_of address) (pool_for fields) page below in
      ⊎_elim
      (λ same. q ∙ ap (λ b. cond b (Some (pool_for fields)) (pool_at s.heap.pages page)) (eq-eqb page (page_of address) same)
      ∙ sym (ap (pool_at s.heap.pages) (same ∙ on) ∙ fresh.at.has_pool))
      (λ other. grind (arith, nat_tests, q, other))
      (cases_eq page (page_of address))

  -- so what is free after it was free before
  free_before : AreSlots s.graph s.heap.pages s.heap.place → (pool free : ℕ) → IsFree (born s root fields guard style address) pool free → IsFree s pool free
  free_before placed pool free f = record {
    at = record {
      page = f.at.page;
      slot = f.at.slot;
      has_pool = sym (pools_stay f.at.page) ∙ f.at.has_pool;
      on_page = f.at.on_page;
      is = f.at.is;
    };
    swept = f.swept;
    no_place = λ name at.
        let b = placed.allocated name free at in
        let g = get-insert_name s.heap.place (length s.graph + 1) address name in
        f.no_place name (grind (arith, nat_tests, g, b, at, cases_eq name (length s.graph + 1)));
    no_corpse = f.no_corpse;
    not_left = f.not_left;
  }

pub SoundMoves-born : (s : State) (root : List ℕ) (fields : ℕ) (guard : Guard) (style : Style) (address : ℕ) →
    (s.collector.phase ≡ Moving → IsFree s (pool_for fields) address) → page_of address ≤ length s.heap.pages → AreSlots s.graph s.heap.pages s.heap.place →
    AreSlots s.graph s.heap.pages s.heap.left → SoundMoves s → SoundMoves (born s root fields guard style address)
SoundMoves-born s root fields guard style address fresh below placed left_slots h moves name place free left at f =
    let gone = some_get (get s.heap.left name) left in
    let b = left_slots.allocated name gone.0 gone.1 in
    let pool : pool_of (s.graph ++ new_item guard style fields ∷ []) name ≡ pool_of s.graph name =
    ap (λ (item : Item). pool_for (length item.values)) (item_of-push s.graph (new_item guard style fields) name b.0 b.1) in
    let g = get-insert_name s.heap.place (length s.graph + 1) address name in
    h moves name place free left (grind (arith, nat_tests, g, b, at, cases_eq name (length s.graph + 1)))
    (free_before s root fields guard style address (fresh moves) below placed (pool_of s.graph name) free
    (subst (λ pool. IsFree (born s root fields guard style address) pool free) pool f))
