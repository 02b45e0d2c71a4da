-- The corpses on a page, in ascending order of address: each sound state has such a list for each page, so a sweep goes on.
use Rattle.std.proofs.Common.{◌≡◌, ℕ, zero, suc, ◌≤◌, true, List, [], ◌∷◌, ◌++◌, length, nat_eq, refl, sym, ap, ◌∙◌, arith, Option, None, Some}
use mathlib.Core.List.{append_assoc}
use Rattle.std.proofs.lemmas.List.{append-nil}
use Rattle.std.specs.Prelude.{is_some, unwrap_or}
use Rattle.std.specs.List.{filter}
use Rattle.std.specs.Set.{is_member}
use Rattle.std.specs.Ordering.{nat_cmp}
use Rattle.std.specs.FinMap.{FinMap, get, keys}
use Rattle.std.proofs.lemmas.Bool.{and_parts, and_from, false≢true, eqb-true, eq-eqb}
use Rattle.space_model.specs.Sweeps.{AreCorpsesOn, swept, Sweep1, Sweeps, SweepAll}
use Rattle.space_model.specs.Graph.{Item}
use Rattle.space_model.specs.Layout.{page_of}
use Rattle.space_model.specs.Maps.{address_in}
use Rattle.space_model.specs.Moments.{noted}
use Rattle.space_model.specs.Pages.{is_on}
use Rattle.space_model.specs.Sound.{AreSlots, Sound}
use Rattle.space_model.specs.State.{State}
use Rattle.space_model.proofs.CollectionsKept.{Sound-swept}
use Rattle.space_model.proofs.Members.{member_filter}
use Rattle.space_model.proofs.ReachedLaws.{member-keys}
use Rattle.space_model.proofs.RisingNames.{rising_names, IsRising-rising_names, member-rising_names}

abbrev names_on : FinMap nat_cmp ℕ → ℕ → List ℕ
names_on corpses page = filter (λ name. is_on page (get corpses name)) (keys corpses)

-- the names of the corpses on a page
unfoldable pub corpse_names : FinMap nat_cmp ℕ → ℕ → List ℕ
corpse_names corpses page = rising_names corpses (filter (λ name. is_on page (get corpses name)) (keys corpses))

on_it : (page : ℕ) (o : Option ℕ) → is_on page o ≡ true → (a : ℕ) × (o ≡ Some a) × (page_of a ≡ page)
on_it page None e = absurd (false≢true e)
on_it page (Some a) e = (a, refl, eqb-true (page_of a) page e)

module _ (graph : List Item) (pages : List (Option ℕ)) (corpses : FinMap nat_cmp ℕ) (page : ℕ) (h : AreSlots graph pages corpses) where
  named : (n : ℕ) → is_member nat_eq (names_on corpses page) n ≡ true → (a : ℕ) × (get corpses n ≡ Some a) × (page_of a ≡ page)
  named n m = on_it page (get corpses n) (and_parts _ _ (sym (member_filter (λ name. is_on page (get corpses name)) (keys corpses) n) ∙ m)).1

  there : (n a : ℕ) → get corpses n ≡ Some a → page_of a ≡ page → is_member nat_eq (names_on corpses page) n ≡ true
  there n a e p = member_filter (λ name. is_on page (get corpses name)) (keys corpses) n
      ∙ and_from _ _ (member-keys corpses n ∙ ap is_some e) (ap (is_on page) e ∙ eq-eqb (page_of a) page p)

  one : (x y : ℕ) → is_member nat_eq (names_on corpses page) x ≡ true → is_member nat_eq (names_on corpses page) y ≡ true →
      address_in corpses x ≡ address_in corpses y → x ≡ y
  one x y m k e =
      let a = named x m in let b = named y k in
      let p : address_in corpses x ≡ a.0 = ap (λ o. unwrap_or o 0) a.1 in
      let q : address_in corpses y ≡ b.0 = ap (λ o. unwrap_or o 0) b.1 in
      h.once x y a.0 a.1 (b.1 ∙ ap Some (sym q ∙ sym e ∙ p))

  pub corpse_names-are : AreCorpsesOn corpses page (corpse_names corpses page)
  unfolding corpse_names
  corpse_names-are = record {
    are = λ n. let e = member-rising_names corpses (names_on corpses page) one n in (
      (λ m. named n (sym e ∙ m)),
      (λ c. e ∙ there n c.0 c.1 c.2),
    );
    rising = IsRising-rising_names corpses (names_on corpses page);
  }

-- the state after the pages were swept, one after another
abbrev pub swept_pages : List ℕ → State → State
swept_pages [] s = s
swept_pages (page ∷ others) s = swept_pages others (noted (swept s page others (corpse_names s.heap.corpses page)))

-- the corpses that were freed by it
abbrev pub freed_pages : List ℕ → State → List ℕ
freed_pages [] s = []
freed_pages (page ∷ others) s = corpse_names s.heap.corpses page ++ freed_pages others (noted (swept s page others (corpse_names s.heap.corpses page)))

-- the sweep of the first page
pub Sweep1-there : (s : State) (page : ℕ) (others : List ℕ) → s.heap.unswept ≡ page ∷ others → Sound s →
    Sweep1 s (corpse_names s.heap.corpses page) (noted (swept s page others (corpse_names s.heap.corpses page)))
Sweep1-there s page others e h = record {
  page = page;
  others = others;
  first = e;
  corpses = corpse_names-are s.graph s.heap.pages s.heap.corpses page h.corpses.slots;
  after = refl;
}

Sweeps-there : (pages : List ℕ) (s : State) → s.heap.unswept ≡ pages → Sound s → Sweeps (length pages) s (freed_pages pages s) (swept_pages pages s)
Sweeps-there [] s e h = (refl, refl)
Sweeps-there (page ∷ others) s e h =
    let now = Sweep1-there s page others e h in
    let mid : State = noted (swept s page others (corpse_names s.heap.corpses page)) in (
      corpse_names s.heap.corpses page,
      freed_pages others mid,
      mid,
      refl,
      now,
      Sweeps-there others mid refl (Sound-swept s mid (corpse_names s.heap.corpses page) now h),
    )

-- a sound state has a sweep of all pages
pub SweepAll-there : (s : State) → Sound s → SweepAll s (freed_pages s.heap.unswept s) (swept_pages s.heap.unswept s)
SweepAll-there s h = Sweeps-there s.heap.unswept s refl h

-- and one of fewer pages
pub Sweeps-some : (count : ℕ) (pages : List ℕ) (s : State) → s.heap.unswept ≡ pages → count ≤ length pages → Sound s →
    (freed : List ℕ) × (t : State) × Sweeps count s freed t
Sweeps-some zero pages s e few h = ([], s, (refl, refl))
Sweeps-some (suc count) [] s e few h = absurd (omega (arith, few))
Sweeps-some (suc count) (page ∷ others) s e few h =
    let now = Sweep1-there s page others e h in
    let mid : State = noted (swept s page others (corpse_names s.heap.corpses page)) in
    let (later, t, rest) = Sweeps-some count others mid refl (omega (arith, few)) (Sound-swept s mid (corpse_names s.heap.corpses page) now h) in
    (corpse_names s.heap.corpses page ++ later, t, (corpse_names s.heap.corpses page, later, mid, refl, now, rest))

-- one more sweep
pub Sweeps-more : (pages : ℕ) (s m t : State) (before now : List ℕ) → Sweeps pages s before m → Sweep1 m now t → Sweeps (suc pages) s (before ++ now) t
Sweeps-more zero s m t before now (none, same) step =
    (now, [], t, (let e : before ++ now ≡ now = ap (λ xs. xs ++ now) none in e ∙ sym (append-nil now)), rw same at step, (refl, refl))
Sweeps-more (suc pages) s m t before now (first, later, mid, e, step1, rest) step =
    (first, later ++ now, mid, ap (λ xs. xs ++ now) e ∙ append_assoc first later now, step1, Sweeps-more pages mid m t later now rest step)
