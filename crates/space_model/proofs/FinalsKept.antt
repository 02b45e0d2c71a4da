-- A birth, a verdict and the sweep of a page keep finalizers where they may be: those of objects that aren't swept are defined, and those of
-- swept ones wait to run.
use Rattle.std.proofs.Common.{◌≡◌, ℕ, ◌<◌, ◌≤◌, true, false, List, [], ◌∷◌, ◌++◌, length, drop, nat_eq, sym, ap, ◌∙◌, arith, ⊎_elim, inl, inr, Option, None}
use Rattle.std.specs.Prelude.{is_some}
use Rattle.std.specs.Set.{is_member}
use Rattle.std.specs.Ordering.{nat_cmp}
use Rattle.std.specs.FinMap.{FinMap, get, insert}
use Rattle.std.proofs.lemmas.Bool.{cases_Bool, cases_eq, false≢true, false_from_ne_true, eqb-true, or_cases}
use Rattle.std.proofs.lemmas.Bool.Decides.{nat_tests}
use Rattle.space_model.specs.Finalizers.{without_name, without_names, pairs_of_names}
use Rattle.space_model.specs.Graph.{Item}
use Rattle.space_model.specs.Maps.{without, carried_over}
use Rattle.space_model.specs.Pages.{StandsOn}
use Rattle.space_model.specs.Sound.{SoundCorpses, SoundFinals, SoundQueue}
use Rattle.space_model.proofs.FinalNames.{names-cases, names-without_name, names-without_names, names-pairs_of_names, names-drop}
use Rattle.space_model.proofs.MapLaws.{get-insert_name, get-without, get-carried_over, present-insert, present-without}

-- a name that isn't there, in a map to which it doesn't come
none_there : (b : Option ℕ) → is_some b ≡ true → b ≡ None → ⊥
none_there b some none = false≢true (sym (ap is_some none) ∙ some)

-- a birth

pub SoundFinals-born : (place corpses : FinMap nat_cmp ℕ) (finals : List (ℕ × List ℕ)) (name address : ℕ) → SoundFinals place corpses finals →
    SoundFinals (insert place name address) corpses finals
SoundFinals-born place corpses finals name address h = λ n m. ⊎_elim
    (λ there. inl (present-insert place name address n there))
    (λ lies. inr lies)
    (h n m)

pub SoundQueue-born : (graph later : List Item) (place corpses : FinMap nat_cmp ℕ) (queue : List (ℕ × List ℕ)) (name address : ℕ) →
    length graph ≤ length later → length graph < name → SoundQueue graph place corpses queue → SoundQueue later (insert place name address) corpses queue
SoundQueue-born graph later place corpses queue name address long new h = λ n m.
    let k = h n m in
    record {
      allocated = (k.allocated.0, (let b = k.allocated.1 in omega (arith, b, long)));
      gone = let g = get-insert_name place name address n in let b = k.allocated.1 in let e = k.gone in grind (arith, nat_tests, g, b, e, new, cases_eq n name);
      freed = k.freed;
    }

-- of a graph that is no shorter
pub SoundQueue-longer : (graph later : List Item) (place corpses : FinMap nat_cmp ℕ) (queue : List (ℕ × List ℕ)) → length graph ≤ length later →
    SoundQueue graph place corpses queue → SoundQueue later place corpses queue
SoundQueue-longer graph later place corpses queue long h = λ n m.
    let k = h n m in
    record { allocated = (k.allocated.0, (let b = k.allocated.1 in omega (arith, b, long))); gone = k.gone; freed = k.freed }

-- a verdict

module _ (place corpses : FinMap nat_cmp ℕ) (taken : List ℕ) where
  pub SoundFinals-took : (finals : List (ℕ × List ℕ)) → SoundFinals place corpses finals →
      SoundFinals (without place taken) (carried_over place corpses taken) finals
  SoundFinals-took finals h = λ n m. ⊎_elim
      (λ (t : is_member nat_eq taken n ≡ true). inr (let g = get-carried_over place corpses taken n in grind (arith, g, t)))
      (λ (f : is_member nat_eq taken n ≡ false). ⊎_elim
      (λ there. inl (present-without place taken n there f))
      (λ lies. inr (let g = get-carried_over place corpses taken n in grind (arith, g, f, lies)))
      (h n m))
      (cases_Bool (is_member nat_eq taken n))

  pub SoundQueue-took : (graph : List Item) (queue : List (ℕ × List ℕ)) → ((n : ℕ) → is_member nat_eq taken n ≡ true → is_some (get place n) ≡ true) →
      SoundQueue graph place corpses queue → SoundQueue graph (without place taken) (carried_over place corpses taken) queue
  SoundQueue-took graph queue present h = λ n m.
      let k = h n m in
      let out : is_member nat_eq taken n ≡ false = false_from_ne_true _ (λ t. none_there (get place n) (present n t) k.gone) in
      record {
        allocated = k.allocated;
        gone = let g = get-without place taken n in let e = k.gone in grind (arith, g, e, out);
        freed = let g = get-carried_over place corpses taken n in let e = k.freed in grind (arith, g, e, out);
      }

-- the sweep of a page

module _ (place corpses : FinMap nat_cmp ℕ) (freed : List ℕ) where
  pub SoundFinals-swept : (finals : List (ℕ × List ℕ)) → SoundFinals place corpses finals →
      SoundFinals place (without corpses freed) (without_names finals freed)
  SoundFinals-swept finals h = λ n m.
      let both = names-without_names finals freed n m in
      ⊎_elim (λ there. inl there) (λ lies. inr (present-without corpses freed n lies both.1)) (h n both.0)

  pub SoundQueue-swept : (graph : List Item) (pages : List (Option ℕ)) (unswept : List ℕ) (page : ℕ) (finals queue : List (ℕ × List ℕ)) →
      SoundCorpses graph place corpses pages unswept → ((n : ℕ) → is_member nat_eq freed n ≡ true → StandsOn corpses page n) →
      SoundQueue graph place corpses queue → SoundQueue graph place (without corpses freed) (queue ++ pairs_of_names finals freed)
  SoundQueue-swept graph pages unswept page finals queue c lie h = λ n m. ⊎_elim
      (λ waited.
      let k = h n waited in
      record { allocated = k.allocated; gone = k.gone; freed = let g = get-without corpses freed n in let e = k.freed in grind (arith, g, e, cases_Bool (is_member nat_eq freed n)) })
      (λ queued.
      let swept = names-pairs_of_names finals freed n queued in
      let (address, at, on) = lie n swept in
      record {
        allocated = c.slots.allocated n address at;
        gone = c.gone n address at;
        freed = let g = get-without corpses freed n in grind (arith, g, swept);
      })
      (names-cases queue (pairs_of_names finals freed) n m)

-- commands on finalizers

pub SoundFinals-defined : (place corpses : FinMap nat_cmp ℕ) (finals : List (ℕ × List ℕ)) (name : ℕ) (label : List ℕ) → is_some (get place name) ≡ true →
    SoundFinals place corpses finals → SoundFinals place corpses (finals ++ (name, label) ∷ [])
SoundFinals-defined place corpses finals name label there h = λ n m. ⊎_elim
    (λ before. h n before)
    (λ last. ⊎_elim
    (λ same. inl (ap (λ n. is_some (get place n)) (eqb-true n name same) ∙ there))
    (λ none. absurd (false≢true none))
    (or_cases _ _ last))
    (names-cases finals ((name, label) ∷ []) n m)

pub SoundFinals-taken : (place corpses : FinMap nat_cmp ℕ) (finals : List (ℕ × List ℕ)) (name : ℕ) → SoundFinals place corpses finals →
    SoundFinals place corpses (without_name finals name)
SoundFinals-taken place corpses finals name h = λ n m. h n (names-without_name finals name n m)

pub SoundQueue-run : (graph : List Item) (place corpses : FinMap nat_cmp ℕ) (queue : List (ℕ × List ℕ)) (count : ℕ) → SoundQueue graph place corpses queue →
    SoundQueue graph place corpses (drop count queue)
SoundQueue-run graph place corpses queue count h = λ n m. h n (names-drop count queue n m)
