-- The gone objects on a page: the list of their addresses, and how it grows from one to the next.
use Rattle.std.proofs.Common.{◌≡◌, ℕ, ◌+◌, ◌-◌, ◌*◌, ◌<◌, ◌≤◌, ◌&&◌, Bool, true, false, true≢false, List, [], ◌∷◌, ◌++◌, length, map, nat_eq, nat_le, nat_lt, append-nil, refl, sym, ap, ◌∙◌, subst, ⊎_elim, arith}
use Rattle.std.specs.List.{AllPairs, range_with_len, filter}
use Rattle.std.specs.Set.{is_member}
use Rattle.std.proofs.lemmas.Bool.{cases_Bool, cases_lt, or_left, and_parts, and_from, cond-true, cond-false, false_from_ne_true, eqb-true, eq-eqb}
use Rattle.std.proofs.lemmas.Bool.Decides.{nat_tests}
use Rattle.std.proofs.lemmas.List.{map-append}
use Rattle.std.proofs.lemmas.List.Elements.{filter-append}
use Rattle.std.proofs.lemmas.List.Kept.{AllPairs-filter}
use Rattle.space_model.specs.Layout.{page_bytes, page_of}
use Rattle.space_model.proofs.Members.{member_filter}
use Rattle.space_finals.specs.FinalLists.{FinalLists, QueuesName, QueuesNames}
use Rattle.space_finals.proofs.ModelFinals.{queued_more, queued_nothing}
use Rattle.space_heap.specs.declared.heap.walking.Found.{Found}
use Rattle.space_heap.specs.HeapView.{HeapView, is_unswept}
use Rattle.space_heap.specs.Objects.{object_of}
use Rattle.space_heap.specs.SoundHeap.{IsSoundHeap}
use Rattle.space_heap.specs.Sweeping.{is_gone, IsGoneOn}
use Rattle.space_heap.specs.Walks.{HasNoGoneOn, IsFoundGoneOn, IsNextOn}
use Rattle.space_collector.specs.GoneNames.{name_at, AreGoneOn}
use Rattle.space_collector.proofs.GoneLists.{none_pass, member_range, rising_range, range_split, gone_small}

module _ (v : HeapView) (page : ℕ) where
  -- whether a gone object stands there, on the page
  abbrev is_gone_on : ℕ → Bool
  is_gone_on a = is_gone v a && nat_eq (page_of a) page

  -- those below an address
  abbrev pub on_below : ℕ → List ℕ
  on_below bound = filter is_gone_on (range_with_len 0 bound)

  on_split : (m k : ℕ) → on_below (m + k) ≡ on_below m ++ filter is_gone_on (range_with_len m k)
  on_split m k =
      let e : 0 + m ≡ m = omega arith in
      ap (filter is_gone_on) (range_split 0 m k ∙ ap (λ b. range_with_len 0 m ++ range_with_len b k) e)
      ∙ filter-append is_gone_on (range_with_len 0 m) (range_with_len m k)

  on_same : (m n : ℕ) → m ≤ n → ((b : ℕ) → m ≤ b → b < n → is_gone_on b ≡ false) → on_below n ≡ on_below m
  on_same m n le none =
      let e : n ≡ m + (n - m) = omega arith in
      ap on_below e
      ∙ on_split m (n - m)
      ∙ ap (λ xs. on_below m ++ xs) (none_pass is_gone_on m (n - m) (λ b there below. none b there (omega arith)))
      ∙ append-nil (on_below m)

  not_on : (b : ℕ) → (page_of b ≡ page → is_gone v b ≡ false) → is_gone_on b ≡ false
  not_on b none = false_from_ne_true _ (λ t. let parts = and_parts _ _ t in true≢false (sym parts.0 ∙ none (eqb-true (page_of b) page parts.1)))

  on_next : (from a : ℕ) → IsNextOn (is_gone v) page from a → on_below (a + 1) ≡ on_below from ++ a ∷ []
  on_next from a n =
      on_split a 1
      ∙ ap (λ xs. on_below a ++ xs) (cond-true (is_gone_on a) (a ∷ []) [] (and_from _ _ n.is (eq-eqb (page_of a) page n.on)))
      ∙ ap (λ xs. xs ++ a ∷ []) (on_same from a n.from_there (λ b there below. not_on b (λ on. n.before b on there below)))

  -- where no other stands on the page, the list has all
  on_all : (bound : ℕ) → ((a : ℕ) → IsGoneOn v page a → a < bound) → AreGoneOn v page (map (name_at v) (on_below bound))
  on_all bound small = record {
    addresses = on_below bound;
    are = λ a. (
      λ m.
          let parts = and_parts _ _ (passes a m) in
          (parts.0, eqb-true (page_of a) page parts.1),
      λ g.
          let t = and_from _ _ g.0 (eq-eqb (page_of a) page g.1) in
          let below = small a g in
          let m = member_filter is_gone_on (range_with_len 0 bound) a in
          let r = member_range 0 bound a in
          grind (arith, nat_tests, m, r, t),
    );
    rising = AllPairs-filter (λ x y. x < y) is_gone_on (range_with_len 0 bound) (rising_range 0 bound);
    names_are = refl;
  }
    where
      passes : (a : ℕ) → is_member nat_eq (on_below bound) a ≡ true → is_gone_on a ≡ true
      passes a t = ⊎_elim
          (λ passes. passes)
          (λ f. let m = member_filter is_gone_on (range_with_len 0 bound) a in let r = member_range 0 bound a in grind (arith, nat_tests, m, r, t, f))
          (cases_Bool (is_gone_on a))

  -- what was queued so far: the finalizers of the names below an address
  abbrev pub IsQueuedBelow : FinalLists → ℕ → FinalLists → Type 0
  IsQueuedBelow f from g = QueuesNames f (map (name_at v) (on_below from)) g

  pub queued_next : (f g h : FinalLists) (from : ℕ) (found : Found) → IsFoundGoneOn v page from found → IsQueuedBelow f from g →
      QueuesName g found.name h → IsQueuedBelow f (found.address + 1) h
  queued_next f g h from found next so_far last =
      subst (λ names. QueuesNames f names h)
      (sym (ap (map (name_at v)) (on_next from found.address next.0) ∙ map-append (name_at v) (on_below from) (found.address ∷ [])))
      (queued_more f (map (name_at v) (on_below from)) g h (name_at v found.address) so_far (subst (λ n. QueuesName g n h) next.1 last))

  pub queued_all : (f g : FinalLists) (from : ℕ) → HasNoGoneOn v page from → IsQueuedBelow f from g →
      (names : List ℕ) × AreGoneOn v page names × QueuesNames f names g
  queued_all f g from none so_far = (
    map (name_at v) (on_below from),
    on_all from (λ a on. ⊎_elim (λ below. below) (λ past. absurd (true≢false (sym on.0 ∙ none a on.1 past))) (cases_lt a from)),
    so_far,
  )

  -- where none is defined, nothing is to be done
  pub queued_none : (f : FinalLists) → f.finals ≡ [] → (names : List ℕ) × AreGoneOn v page names × QueuesNames f names f
  queued_none f none =
      let end : ℕ = page_bytes * (length v.pages + 1) in
      (map (name_at v) (on_below end), on_all end (λ a on. gone_small v a on.0), queued_nothing f (map (name_at v) (on_below end)) none)

-- a page that waits is one of the heap's
pub waits_within : (v : HeapView) (page : ℕ) (others : List ℕ) → IsSoundHeap v → v.unswept ≡ page ∷ others → page < length v.pages
waits_within v page others sound first =
    let here : is_member nat_eq (page ∷ others) page ≡ true = or_left (nat_eq page page) _ (eq-eqb page page refl) in
    let waits = ap (λ pages. is_member nat_eq pages page) (sym sound.waiting ∙ first) ∙ here in
    let m = member_filter (is_unswept v) (range_with_len 0 (length v.pages)) page in
    let r = member_range 0 (length v.pages) page in
    grind (arith, nat_tests, m, r, waits)
