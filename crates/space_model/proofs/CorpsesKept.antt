-- A new object, a verdict and the sweep of a page keep corpses where they may be.
use Rattle.std.proofs.Common.{◌≡◌, ◌≢◌, ℕ, ◌+◌, true, List, [], ◌∷◌, ◌++◌, length, nat_eq, refl, sym, ap, ◌∙◌, subst, arith, Option, Some, ⊎_elim}
use Rattle.std.specs.Prelude.{is_some}
use Rattle.std.specs.Set.{is_member}
use Rattle.std.specs.Ordering.{nat_cmp}
use Rattle.std.specs.FinMap.{FinMap, get, insert}
use Rattle.std.proofs.lemmas.Bool.{cases_eq, or_cases, eqb-true}
use Rattle.std.proofs.lemmas.Bool.Decides.{nat_tests}
use Rattle.space_model.specs.declared.object.Guard.{Guard}
use Rattle.space_model.specs.declared.object.Style.{Style}
use Rattle.space_model.specs.Graph.{Item}
use Rattle.space_model.specs.Layout.{page_of, pool_for}
use Rattle.space_model.specs.Maps.{without, carried_over}
use Rattle.space_model.specs.Pages.{with_pool, pool_pages, is_used, spared}
use Rattle.space_model.specs.Pieces.{new_item}
use Rattle.space_model.specs.Sound.{AreSlots, SoundLayout, SoundCorpses}
use Rattle.space_model.specs.State.{State}
use Rattle.space_model.proofs.LayoutKept.{IsFreshSlot, slots_stay}
use Rattle.space_model.proofs.MapLaws.{get-insert_name, get-without, held_over, held_without}
use Rattle.space_model.proofs.PageLaws.{member-pool_pages, pool_at-spared, used}
use Rattle.space_model.proofs.SlotLaws.{held_pool, AreSlots-part, AreSlots-same, AreSlots-over}

pub SoundCorpses-born : (s : State) (root : List ℕ) (fields : ℕ) (guard : Guard) (style : Style) (address : ℕ) →
    SoundLayout s.graph s.heap.place s.heap.pages s.heap.limit → IsFreshSlot s (pool_for fields) address →
    ((name : ℕ) → get s.heap.corpses name ≢ Some address) → SoundCorpses s.graph s.heap.place s.heap.corpses s.heap.pages s.heap.unswept →
    SoundCorpses (s.graph ++ new_item guard style fields ∷ []) (insert s.heap.place (length s.graph + 1) address) s.heap.corpses
    (with_pool s.heap.pages (page_of address) (pool_for fields)) s.heap.unswept
SoundCorpses-born s root fields guard style address l f none h = record {
  slots = slots_stay s root fields guard style address l f s.heap.corpses h.slots;
  gone = λ n a e. let b = h.slots.allocated n a e in let k = h.gone n a e in let g = get-insert_name s.heap.place (length s.graph + 1) address n in
      grind (arith, nat_tests, g, k, b, cases_eq n (length s.graph + 1));
  apart = λ n k a e c. grind (
    arith,
    nat_tests,
    get-insert_name s.heap.place (length s.graph + 1) address n,
    e,
    c,
    none k,
    h.apart n k a,
    cases_eq n (length s.graph + 1),
  );
  on_unswept = h.on_unswept;
}

-- names that are taken become corpses
module _ (graph : List Item) (place corpses : FinMap nat_cmp ℕ) (pages : List (Option ℕ)) (unswept taken : List ℕ)
    (present : (n : ℕ) → is_member nat_eq taken n ≡ true → is_some (get place n) ≡ true) (placed : AreSlots graph pages place)
    (h : SoundCorpses graph place corpses pages unswept) where
  pub SoundCorpses-took : SoundCorpses graph (without place taken) (carried_over place corpses taken) pages (pool_pages pages)
  SoundCorpses-took = record {
    slots = AreSlots-over graph pages place corpses taken present h.apart placed h.slots;
    gone = λ n a e. let g = get-without place taken n in ⊎_elim
        (λ (d, t). grind (arith, g, t))
        (λ (d, t). let k = h.gone n a d in grind (arith, g, t, k))
        (held_over place corpses taken n a present e);
    apart = λ n k a e c. let x = held_without place taken n a e in ⊎_elim
        (λ (d, t). let same = placed.once n k a x.0 d in
        absurd (let q : is_member nat_eq taken n ≡ true = subst (λ y. is_member nat_eq taken y ≡ true) (sym same) t in let w = x.1 in cc))
        (λ (d, t). h.apart n k a x.0 d)
        (held_over place corpses taken k a present c);
    on_unswept = λ n a e. ⊎_elim
        (λ (d, t). member-pool_pages pages (page_of a) ∙ ap is_some (held_pool graph pages n a (placed.at n a d)))
        (λ (d, t). member-pool_pages pages (page_of a) ∙ ap is_some (held_pool graph pages n a (h.slots.at n a d)))
        (held_over place corpses taken n a present e);
  }

-- the corpses of a page are freed
module _ (graph : List Item) (place corpses : FinMap nat_cmp ℕ) (pages : List (Option ℕ)) (page : ℕ) (others freed : List ℕ)
    (all : (n a : ℕ) → get corpses n ≡ Some a → page_of a ≡ page → is_member nat_eq freed n ≡ true) where
  pub placed_swept : AreSlots graph pages place → AreSlots graph (spared place page pages) place
  placed_swept placed = AreSlots-same graph graph pages (spared place page pages) place (omega arith) (λ n _ _. refl)
      (λ n a e. ⊎_elim
      (λ same. same)
      (λ (on, unused). absurd (let u = used place n a e in let v : is_used place (page_of a) ≡ is_used place page = ap (is_used place) on in cc))
      (pool_at-spared place page pages (page_of a)))
      placed

  pub SoundCorpses-swept : SoundCorpses graph place corpses pages (page ∷ others) →
      SoundCorpses graph place (without corpses freed) (spared place page pages) others
  SoundCorpses-swept h = record {
    slots = AreSlots-same graph graph pages (spared place page pages) (without corpses freed) (omega arith) (λ n _ _. refl)
        (λ n a e. let x = held_without corpses freed n a e in ⊎_elim
        (λ same. same)
        (λ (on, unused). absurd (let m = all n a x.0 on in let w = x.1 in cc))
        (pool_at-spared place page pages (page_of a)))
        (AreSlots-part graph pages corpses (without corpses freed) (λ n a e. (held_without corpses freed n a e).0) h.slots);
    gone = λ n a e. h.gone n a (held_without corpses freed n a e).0;
    apart = λ n k a e c. h.apart n k a e (held_without corpses freed k a c).0;
    on_unswept = λ n a e. let x = held_without corpses freed n a e in ⊎_elim
        (λ q. absurd (let f = all n a x.0 (eqb-true (page_of a) page q) in let w = x.1 in cc))
        (λ q. q)
        (or_cases _ _ (h.on_unswept n a x.0));
  }
