-- The stages of `new`: what they leave, and how they are told from what happens at the limit.
use Rattle.std.proofs.Common.{◌≡◌, ◌⊎◌, ℕ, zero, suc, ◌≤◌, List, [], ◌∷◌, ◌++◌, length, refl, sym, ap, ◌∙◌, subst, ⊎_elim}
use mathlib.Core.List.{append_assoc}
use Rattle.std.proofs.lemmas.List.{append-nil}
use Rattle.space_model.specs.declared.event.Event.{Event}
use Rattle.space_model.specs.declared.event.Kind.TheVariants.{Full}
use Rattle.space_model.specs.Collections.{IsCollection}
use Rattle.space_model.specs.Completions.{Completes}
use Rattle.space_model.specs.Layout.{most_fields, pool_for, slot_address}
use Rattle.space_model.specs.NewCommand.{Stage, FreeAddress, WaitingPages, CompletedCompaction, FreshPage, Collection, stages_before_page, all_stages, SweepsInNeed, IsCompacting, CompletesCompaction, Finds, Passes, PassesAll, FindsPlace, MakesNone, NeedsPage, LacksPage}
use Rattle.space_model.specs.Places.{IsFree, IsNewAt, HasNoFreeAddress, HasNoSpare, IsFreshPage}
use Rattle.space_model.specs.Sound.{Sound}
use Rattle.space_model.specs.State.{State}
use Rattle.space_model.specs.Sweeps.{sweep_phase, Sweep1, Sweeps}
use Rattle.space_model.proofs.CollectionsKept.{Sound-sweeps}
use Rattle.space_model.proofs.Leaving.{Leaves, leaves_same, leaves_swept, leaves_then}
use Rattle.space_model.proofs.WholeLaws.{Sound-completed, Sound-collection, completed_idle, collection_phase, leaves_completed, leaves_collection}

-- sweeps in need

-- they are sweeps, and free some corpses
pub in_need_sweeps : (pages : ℕ) (s : State) (pool : ℕ) (t : State) → SweepsInNeed pages s pool t → (freed : List ℕ) × Sweeps pages s freed t
in_need_sweeps zero s pool t same = ([], (refl, same))
in_need_sweeps (suc pages) s pool t (full, now, mid, step, more) =
    let (later, others) = in_need_sweeps pages mid pool t more in
    (now ++ later, (now, later, mid, refl, step, others))

-- where no address is free after them, none was before
none_free_before : (pages : ℕ) (s : State) (pool : ℕ) (t : State) → SweepsInNeed pages s pool t → HasNoFreeAddress t pool → HasNoFreeAddress s pool
none_free_before zero s pool t same full = subst (λ u. HasNoFreeAddress u pool) same full
none_free_before (suc pages) s pool t (before, now, mid, step, more) full = before

-- one more
pub SweepsInNeed-more : (pages : ℕ) (s : State) (pool : ℕ) (m t : State) (freed : List ℕ) → SweepsInNeed pages s pool m → HasNoFreeAddress m pool →
    Sweep1 m freed t → SweepsInNeed (suc pages) s pool t
SweepsInNeed-more zero s pool m t freed same full step =
    (subst (λ u. HasNoFreeAddress u pool) same full, freed, t, subst (λ u. Sweep1 u freed t) same step, refl)
SweepsInNeed-more (suc pages) s pool m t freed (before, now, mid, first, more) full step =
    (before, now, mid, first, SweepsInNeed-more pages mid pool m t freed more full step)

in_need_leaves : (pages : ℕ) (s : State) (pool : ℕ) (t : State) → SweepsInNeed pages s pool t → Leaves s [] t
in_need_leaves pages s pool t sweeps = let (freed, are) = in_need_sweeps pages s pool t sweeps in leaves_swept pages s t freed are

in_need_sound : (pages : ℕ) (s : State) (pool : ℕ) (t : State) → SweepsInNeed pages s pool t → Sound s → Sound t
in_need_sound pages s pool t sweeps h = let (freed, are) = in_need_sweeps pages s pool t sweeps in Sound-sweeps pages s t freed are h

-- a compaction that is completed, where one is under way

compaction_leaves : (s : State) (events : List Event) (t : State) → CompletesCompaction s events t → Leaves s events t
compaction_leaves s events t c = ⊎_elim
    (λ (_, completes). leaves_completed s t events completes)
    (λ (_, none, same). subst (λ events. Leaves s events t) (sym none) (leaves_same s t same))
    c

pub compaction_sound : (s : State) (events : List Event) (t : State) → CompletesCompaction s events t → Sound s → Sound t
compaction_sound s events t c h = ⊎_elim (λ (_, completes). Sound-completed s t events completes h) (λ (_, none, same). subst Sound (sym same) h) c

-- nothing else of a compaction is under way after it
pub compaction_ends : (s : State) (events : List Event) (t : State) → CompletesCompaction s events t → Sound s → IsCompacting t → ⊥
compaction_ends s events t c h compacting = ⊎_elim
    (λ (_, completes). let idle = completed_idle s t events completes h in ⊎_elim (λ moves. cc) (λ fixes. cc) compacting)
    (λ (still, none, same). still (subst IsCompacting same compacting))
    c

-- what stages leave

passes_leaves : (stage : Stage) (s : State) (pool : ℕ) (events : List Event) (t : State) → Passes stage s pool events t → Leaves s events t
passes_leaves FreeAddress s pool events t (full, none, same) = subst (λ events. Leaves s events t) (sym none) (leaves_same s t same)
passes_leaves WaitingPages s pool events t (pages, sweeps, full, none_waits, none) =
    subst (λ events. Leaves s events t) (sym none) (in_need_leaves pages s pool t sweeps)
passes_leaves CompletedCompaction s pool events t (completes, full) = compaction_leaves s events t completes
passes_leaves FreshPage s pool events t (no_spare, limit, none, same) = subst (λ events. Leaves s events t) (sym none) (leaves_same s t same)
passes_leaves Collection s pool events t (scans, collects) = leaves_collection s t Full events scans collects

pub passed_leaves : (stages : List Stage) (s : State) (pool : ℕ) (events : List Event) (t : State) → PassesAll stages s pool events t → Leaves s events t
passed_leaves [] s pool events t (none, same) = subst (λ events. Leaves s events t) (sym none) (leaves_same s t same)
passed_leaves (stage ∷ stages) s pool events t (now, later, mid, both, first, others) =
    subst (λ events. Leaves s events t) (sym both)
    (leaves_then s mid t now later (passes_leaves stage s pool now mid first) (passed_leaves stages mid pool later t others))

passes_sound : (stage : Stage) (s : State) (pool : ℕ) (events : List Event) (t : State) → Passes stage s pool events t → Sound s → Sound t
passes_sound FreeAddress s pool events t (full, none, same) h = subst Sound (sym same) h
passes_sound WaitingPages s pool events t (pages, sweeps, full, none_waits, none) h = in_need_sound pages s pool t sweeps h
passes_sound CompletedCompaction s pool events t (completes, full) h = compaction_sound s events t completes h
passes_sound FreshPage s pool events t (no_spare, limit, none, same) h = subst Sound (sym same) h
passes_sound Collection s pool events t (scans, collects) h = Sound-collection s t Full events scans collects h

pub passed_sound : (stages : List Stage) (s : State) (pool : ℕ) (events : List Event) (t : State) → PassesAll stages s pool events t → Sound s → Sound t
passed_sound [] s pool events t (none, same) h = subst Sound (sym same) h
passed_sound (stage ∷ stages) s pool events t (now, later, mid, both, first, others) h =
    passed_sound stages mid pool later t others (passes_sound stage s pool now mid first h)

-- where no compaction is under way, none is after any stage

still_phase : (pages : List ℕ) (s : State) → s.collector.phase ≡ sweep_phase pages → IsCompacting s → ⊥
still_phase [] s e compacting = ⊎_elim (λ moves. cc) (λ fixes. cc) compacting
still_phase (page ∷ pages) s e compacting = ⊎_elim (λ moves. cc) (λ fixes. cc) compacting

pub still_swept : (pages : ℕ) (s t : State) (freed : List ℕ) → Sweeps pages s freed t → (IsCompacting s → ⊥) → IsCompacting t → ⊥
still_swept zero s t freed (none, same) still compacting = still (subst IsCompacting same compacting)
still_swept (suc pages) s t freed (now, later, mid, both, step, more) still compacting =
    still_swept pages mid t later more (still_phase step.others mid (ap (λ (u : State). u.collector.phase) step.after)) compacting

pub still_in_need : (pages : ℕ) (s : State) (pool : ℕ) (t : State) → SweepsInNeed pages s pool t → (IsCompacting s → ⊥) → IsCompacting t → ⊥
still_in_need pages s pool t sweeps still compacting =
    let (freed, are) = in_need_sweeps pages s pool t sweeps in still_swept pages s t freed are still compacting

-- and none is after a collection
pub still_collected : (s t : State) (events : List Event) (scans : ℕ) → IsCollection s Full events scans t → IsCompacting t → ⊥
still_collected s t events scans collects compacting =
    still_phase t.heap.unswept t (collection_phase s t Full events scans collects) compacting

passes_still : (stage : Stage) (s : State) (pool : ℕ) (events : List Event) (t : State) → Passes stage s pool events t → (IsCompacting s → ⊥) →
    IsCompacting t → ⊥
passes_still FreeAddress s pool events t (full, none, same) still compacting = still (subst IsCompacting same compacting)
passes_still WaitingPages s pool events t (pages, sweeps, full, none_waits, none) still compacting =
    still_in_need pages s pool t sweeps still compacting
passes_still CompletedCompaction s pool events t (completes, full) still compacting =
    ⊎_elim (λ (before, _). still before) (λ (_, none, same). still (subst IsCompacting same compacting)) completes
passes_still FreshPage s pool events t (no_spare, limit, none, same) still compacting = still (subst IsCompacting same compacting)
passes_still Collection s pool events t (scans, collects) still compacting = still_collected s t events scans collects compacting

passed_still : (stages : List Stage) (s : State) (pool : ℕ) (events : List Event) (t : State) → PassesAll stages s pool events t →
    (IsCompacting s → ⊥) → IsCompacting t → ⊥
passed_still [] s pool events t (none, same) still compacting = still (subst IsCompacting same compacting)
passed_still (stage ∷ stages) s pool events t (now, later, mid, both, first, others) still compacting =
    passed_still stages mid pool later t others (passes_still stage s pool now mid first still) compacting

-- so none is where a fresh page is tried: a compaction is completed before it
fresh_still : (before after : List Stage) (s : State) (pool : ℕ) (events : List Event) (t : State) → all_stages ≡ before ++ FreshPage ∷ after →
    PassesAll before s pool events t → Sound s → IsCompacting t → ⊥
fresh_still [] after s pool events t order passed h compacting = cc
fresh_still (one ∷ []) after s pool events t order passed h compacting = cc
fresh_still (one ∷ two ∷ []) after s pool events t order passed h compacting = cc
fresh_still (one ∷ two ∷ three ∷ stages) after s pool events t order
    (e1, l1, a, j1, p1, (e2, l2, b, j2, p2, (e3, l3, c, j3, p3, others))) h compacting =
    let is : three ≡ CompletedCompaction = cc in
    let completed : Passes CompletedCompaction b pool e3 c = subst (λ stage. Passes stage b pool e3 c) is p3 in
    let sound : Sound b = passes_sound two a pool e2 b p2 (passes_sound one s pool e1 a p1 h) in
    passed_still stages c pool l3 t others (compaction_ends b e3 c completed.0 sound) compacting

-- what the stage leaves that finds an address

found_leaves : (stage : Stage) (s : State) (pool : ℕ) (events : List Event) (t : State) (address : ℕ) → Finds stage s pool events t address →
    Leaves s events t
found_leaves FreeAddress s pool events t address (none, same, new) = subst (λ events. Leaves s events t) (sym none) (leaves_same s t same)
found_leaves WaitingPages s pool events t address (none, pages, sweeps, new) =
    subst (λ events. Leaves s events t) (sym none) (in_need_leaves pages s pool t sweeps)
found_leaves CompletedCompaction s pool events t address (compacting, completes, new) = leaves_completed s t events completes
found_leaves FreshPage s pool events t address (none, same, _, _, _) = subst (λ events. Leaves s events t) (sym none) (leaves_same s t same)
found_leaves Collection s pool events t address found = absurd found

found_sound : (stage : Stage) (s : State) (pool : ℕ) (events : List Event) (t : State) (address : ℕ) → Finds stage s pool events t address →
    Sound s → Sound t
found_sound FreeAddress s pool events t address (none, same, new) h = subst Sound (sym same) h
found_sound WaitingPages s pool events t address (none, pages, sweeps, new) h = in_need_sound pages s pool t sweeps h
found_sound CompletedCompaction s pool events t address (compacting, completes, new) h = Sound-completed s t events completes h
found_sound FreshPage s pool events t address (none, same, _, _, _) h = subst Sound (sym same) h
found_sound Collection s pool events t address found h = absurd found

pub place_leaves : (s : State) (pool : ℕ) (events : List Event) (ready : State) (address : ℕ) → FindsPlace s pool events ready address →
    Leaves s events ready
place_leaves s pool events ready address f =
    subst (λ events. Leaves s events ready) (sym f.events_are)
    (leaves_then s f.tried ready f.told f.finding (passed_leaves f.before s pool f.told f.tried f.passed)
    (found_leaves f.stage f.tried pool f.finding ready address f.found))

pub place_sound : (s : State) (pool : ℕ) (events : List Event) (ready : State) (address : ℕ) → FindsPlace s pool events ready address →
    Sound s → Sound ready
place_sound s pool events ready address f h =
    found_sound f.stage f.tried pool f.finding ready address f.found (passed_sound f.before s pool f.told f.tried f.passed h)

found_free : (stage : Stage) (before after : List Stage) (s tried : State) (pool : ℕ) (told events : List Event) (t : State) (address : ℕ) →
    all_stages ≡ before ++ stage ∷ after → PassesAll before s pool told tried → Finds stage tried pool events t address → Sound s → IsCompacting t →
    IsFree t pool address
found_free FreeAddress before after s tried pool told events t address order passed (none, same, new) h compacting = new.free
found_free WaitingPages before after s tried pool told events t address order passed (none, pages, sweeps, new) h compacting = new.free
found_free CompletedCompaction before after s tried pool told events t address order passed (before_it, completes, new) h compacting = new.free
found_free FreshPage before after s tried pool told events t address order passed (none, same, _, _, _) h compacting =
    absurd (fresh_still before after s pool told tried order passed h (subst IsCompacting same compacting))
found_free Collection before after s tried pool told events t address order passed found h compacting = absurd found

-- where a compaction is under way then, the address that is found is free
pub place_free : (s : State) (pool : ℕ) (events : List Event) (ready : State) (address : ℕ) → FindsPlace s pool events ready address → Sound s →
    IsCompacting ready → IsFree ready pool address
place_free s pool events ready address f h compacting =
    found_free f.stage f.before f.after s f.tried pool f.told f.finding ready address f.order f.passed f.found h compacting

-- stages, and then others
PassesAll-append : (stages others : List Stage) (s : State) (pool : ℕ) (now later : List Event) (m t : State) → PassesAll stages s pool now m →
    PassesAll others m pool later t → PassesAll (stages ++ others) s pool (now ++ later) t
PassesAll-append [] others s pool now later m t (none, same) k =
    subst (λ events. PassesAll others s pool (events ++ later) t) (sym none) (subst (λ u. PassesAll others u pool later t) same k)
PassesAll-append (stage ∷ stages) others s pool now later m t (first, second, mid, both, passes, more) k = (
  first,
  second ++ later,
  mid,
  subst (λ events. events ++ later ≡ first ++ (second ++ later)) (sym both) (append_assoc first second later),
  passes,
  PassesAll-append stages others mid pool second later m t more k,
)

-- each page that waited was swept while no address was free for the pool, and none is free after it
pub record IsSweptInVain (s : State) (pool : ℕ) (t : State) : Type 0 where
  pub pages : ℕ
  pub sweeps : SweepsInNeed pages s pool t
  pub none_free : HasNoFreeAddress t pool
  pub none_waits : t.heap.unswept ≡ []

-- so the stages that come first pass
passed_swept : (s : State) (pool : ℕ) (t : State) → IsSweptInVain s pool t → PassesAll (FreeAddress ∷ WaitingPages ∷ []) s pool [] t
passed_swept s pool t vain =
    let waiting : PassesAll (WaitingPages ∷ []) s pool [] t =
    ([], [], t, refl, (vain.pages, vain.sweeps, vain.none_free, vain.none_waits, refl), (refl, refl)) in
    ([], [], s, refl, (none_free_before vain.pages s pool t vain.sweeps vain.none_free, refl, refl), waiting)

-- and then a compaction was completed, if one was under way; and no address is free after that
pub record IsTriedInVain (s : State) (pool : ℕ) (events : List Event) (t : State) : Type 0 where
  pub swept : State
  pub vain : IsSweptInVain s pool swept
  pub completes : CompletesCompaction swept events t
  pub none_free : HasNoFreeAddress t pool

-- so the stages before a page is taken pass
passed_before_page : (s : State) (pool : ℕ) (events : List Event) (t : State) → IsTriedInVain s pool events t →
    PassesAll stages_before_page s pool events t
passed_before_page s pool events t tried =
    let completed : PassesAll (CompletedCompaction ∷ []) tried.swept pool events t =
    (events, [], t, sym (append-nil events), (tried.completes, tried.none_free), (refl, refl)) in
    PassesAll-append (FreeAddress ∷ WaitingPages ∷ []) (CompletedCompaction ∷ []) s pool [] events tried.swept t
    (passed_swept s pool tried.swept tried.vain) completed

-- where no compaction was under way, only pages were swept, and there is no event
pub tried_swept : (s : State) (pool : ℕ) (events : List Event) (t : State) → IsTriedInVain s pool events t → (IsCompacting s → ⊥) →
    (events ≡ []) × IsSweptInVain s pool t
tried_swept s pool events t tried still = ⊎_elim
    (λ (compacting, _). absurd (still_in_need tried.vain.pages s pool tried.swept tried.vain.sweeps still compacting))
    (λ (_, none, same). (none, subst (IsSweptInVain s pool) (sym same) tried.vain))
    tried.completes

-- the least address that is free after these sweeps in need, of which there may be none
pub record IsFreeAfterSweeps (s : State) (pool : ℕ) (events : List Event) (ready : State) (address : ℕ) : Type 0 where
  pub silent : events ≡ []
  pub pages : ℕ
  pub sweeps : SweepsInNeed pages s pool ready
  pub new : IsNewAt ready pool address

-- all pages were swept in vain, and this is the least address that is free after the compaction that was under way was completed
pub record IsFreeAfterCompaction (s : State) (pool : ℕ) (events : List Event) (ready : State) (address : ℕ) : Type 0 where
  pub swept : State
  pub vain : IsSweptInVain s pool swept
  pub compacting : IsCompacting swept
  pub completes : Completes swept events ready
  pub new : IsNewAt ready pool address

-- all that comes before was in vain, and this is the first address of the page that gets the pool
pub record IsOnFreshPage (s : State) (pool : ℕ) (events : List Event) (ready : State) (address : ℕ) : Type 0 where
  pub vain : IsTriedInVain s pool events ready
  pub page : ℕ
  pub fresh : IsFreshPage ready page
  pub is : address ≡ slot_address page pool 0

-- the least address that is free at once, after sweeps in need, or after a compaction; or, where none is, the first of a fresh page
abbrev pub IsNewPlace : State → ℕ → List Event → State → ℕ → Type 0
IsNewPlace s pool events ready address =
    IsFreeAfterSweeps s pool events ready address ⊎ IsFreeAfterCompaction s pool events ready address ⊎ IsOnFreshPage s pool events ready address

-- all that comes before a page is in vain, no page is spare, and there are as many pages as may be
pub record IsAtLimit (s : State) (pool : ℕ) (events : List Event) (t : State) : Type 0 where
  pub vain : IsTriedInVain s pool events t
  pub none_spare : HasNoSpare t
  pub limit : length t.heap.pages ≡ t.heap.limit

-- so a fresh page is tried in vain
passed_fresh : (s : State) (pool : ℕ) (events : List Event) (t : State) → IsAtLimit s pool events t → PassesAll (FreshPage ∷ []) t pool [] t
passed_fresh s pool events t limit = ([], [], t, refl, (limit.none_spare, limit.limit, refl, refl), (refl, refl))

-- the stages up to a page
abbrev stages_to_page : List Stage
stages_to_page = stages_before_page ++ FreshPage ∷ []

passed_page : (s : State) (pool : ℕ) (events : List Event) (t : State) → IsAtLimit s pool events t → PassesAll stages_to_page s pool events t
passed_page s pool events t limit =
    subst (λ events. PassesAll stages_to_page s pool events t) (append-nil events)
    (PassesAll-append stages_before_page (FreshPage ∷ []) s pool events [] t t (passed_before_page s pool events t limit.vain)
    (passed_fresh s pool events t limit))

-- the stages that are tried after a collection
abbrev stages_again : List Stage
stages_again = FreeAddress ∷ WaitingPages ∷ FreshPage ∷ []

-- the one of these stages that finds the address
record IsFoundAmong (stages : List Stage) (s : State) (pool : ℕ) (events : List Event) (ready : State) (address : ℕ) : Type 0 where
  before : List Stage
  stage : Stage
  after : List Stage
  order : stages ≡ before ++ stage ∷ after
  tried : State
  told : List Event
  passed : PassesAll before s pool told tried
  finding : List Event
  found : Finds stage tried pool finding ready address
  events_are : events ≡ told ++ finding

-- where it is the first
found_first : (stage : Stage) (stages : List Stage) (s : State) (pool : ℕ) (events : List Event) (ready : State) (address : ℕ) →
    Finds stage s pool events ready address → IsFoundAmong (stage ∷ stages) s pool events ready address
found_first stage stages s pool events ready address found = record {
  before = [];
  stage = stage;
  after = stages;
  order = refl;
  tried = s;
  told = [];
  passed = (refl, refl);
  finding = events;
  found = found;
  events_are = refl;
}

-- where it comes after others
found_after : (first others : List Stage) (s m : State) (pool : ℕ) (now later : List Event) (ready : State) (address : ℕ) →
    PassesAll first s pool now m → IsFoundAmong others m pool later ready address → IsFoundAmong (first ++ others) s pool (now ++ later) ready address
found_after first others s m pool now later ready address passed f = record {
  before = first ++ f.before;
  stage = f.stage;
  after = f.after;
  order = ap (λ stages. first ++ stages) f.order ∙ sym (append_assoc first f.before (f.stage ∷ f.after));
  tried = f.tried;
  told = now ++ f.told;
  passed = PassesAll-append first f.before s pool now f.told m f.tried passed f.passed;
  finding = f.finding;
  found = f.found;
  events_are = ap (λ events. now ++ events) f.events_are ∙ sym (append_assoc now f.told f.finding);
}

found_place : (s : State) (pool : ℕ) (events : List Event) (ready : State) (address : ℕ) → IsFoundAmong all_stages s pool events ready address →
    FindsPlace s pool events ready address
found_place s pool events ready address f = record {
  before = f.before;
  stage = f.stage;
  after = f.after;
  order = f.order;
  tried = f.tried;
  told = f.told;
  passed = f.passed;
  finding = f.finding;
  found = f.found;
  events_are = f.events_are;
}

free_among : (stages : List Stage) (pages : ℕ) (s : State) (pool : ℕ) (ready : State) (address : ℕ) → SweepsInNeed pages s pool ready →
    IsNewAt ready pool address → IsFoundAmong (FreeAddress ∷ WaitingPages ∷ stages) s pool [] ready address
free_among stages zero s pool ready address same new =
    found_first FreeAddress (WaitingPages ∷ stages) s pool [] ready address (refl, same, new)
free_among stages (suc pages) s pool ready address sweeps new =
    found_after (FreeAddress ∷ []) (WaitingPages ∷ stages) s s pool [] [] ready address ([], [], s, refl, (sweeps.0, refl, refl), (refl, refl))
    (found_first WaitingPages stages s pool [] ready address (refl, suc pages, sweeps, new))

-- the stages after the completion of a compaction
abbrev stages_from_page : List Stage
stages_from_page = FreshPage ∷ Collection ∷ stages_again

-- an address that is there at once, after sweeps in need, after a compaction, or on a fresh page after all that was in vain
pub finds_at_once : (s : State) (pool : ℕ) (events : List Event) (ready : State) (address : ℕ) → IsNewPlace s pool events ready address →
    FindsPlace s pool events ready address
finds_at_once s pool events ready address place = found_place s pool events ready address (⊎_elim
    (λ free. subst (λ events. IsFoundAmong all_stages s pool events ready address) (sym free.silent)
    (free_among (CompletedCompaction ∷ stages_from_page) free.pages s pool ready address free.sweeps free.new))
    (λ rest. ⊎_elim
    (λ free.
    found_after (FreeAddress ∷ WaitingPages ∷ []) (CompletedCompaction ∷ stages_from_page) s free.swept pool [] events ready address
    (passed_swept s pool free.swept free.vain)
    (found_first CompletedCompaction stages_from_page free.swept pool events ready address (free.compacting, free.completes, free.new)))
    (λ fresh.
    subst (λ events. IsFoundAmong all_stages s pool events ready address) (append-nil events)
    (found_after stages_before_page stages_from_page s ready pool events [] ready address (passed_before_page s pool events ready fresh.vain)
    (found_first FreshPage (Collection ∷ stages_again) ready pool [] ready address (refl, refl, fresh.page, fresh.fresh, fresh.is))))
    rest)
    place)

-- the same, where no compaction was under way: there is no event, and no stage that completes one
found_again : (s : State) (pool : ℕ) (events : List Event) (ready : State) (address : ℕ) → IsNewPlace s pool events ready address →
    (IsCompacting s → ⊥) → (events ≡ []) × IsFoundAmong stages_again s pool [] ready address
found_again s pool events ready address place still = ⊎_elim
    (λ free. (free.silent, free_among (FreshPage ∷ []) free.pages s pool ready address free.sweeps free.new))
    (λ rest. ⊎_elim
    (λ free. absurd (still_in_need free.vain.pages s pool free.swept free.vain.sweeps still free.compacting))
    (λ fresh.
    let tried = tried_swept s pool events ready fresh.vain still in (
      tried.0,
      found_after (FreeAddress ∷ WaitingPages ∷ []) (FreshPage ∷ []) s ready pool [] [] ready address (passed_swept s pool ready tried.1)
          (found_first FreshPage [] ready pool [] ready address (refl, refl, fresh.page, fresh.fresh, fresh.is)),
    ))
    rest)
    place

-- so it is told without an event
pub silent_again : (s : State) (pool : ℕ) (events : List Event) (ready : State) (address : ℕ) → IsNewPlace s pool events ready address →
    (IsCompacting s → ⊥) → events ≡ []
silent_again s pool events ready address place still = (found_again s pool events ready address place still).0

module _ (s limited collected : State) (pool : ℕ) (first told : List Event) (scans : ℕ) (limit : IsAtLimit s pool first limited)
    (collects : IsCollection limited Full told scans collected) where
  -- the collection, after all that was in vain
  passed_collection : PassesAll (stages_to_page ++ Collection ∷ []) s pool (first ++ told) collected
  passed_collection =
      PassesAll-append stages_to_page (Collection ∷ []) s pool first told limited collected (passed_page s pool first limited limit)
      (told, [], collected, sym (append-nil told), (scans, collects), (refl, refl))

  still_now : IsCompacting collected → ⊥
  still_now compacting = still_collected limited collected told scans collects compacting

  -- an address that is there after a whole collection
  pub finds_late : (later : List Event) (ready : State) (address : ℕ) → IsNewPlace collected pool later ready address →
      FindsPlace s pool (first ++ told) ready address
  finds_late later ready address place =
      let found = found_again collected pool later ready address place still_now in
      found_place s pool (first ++ told) ready address
      (subst (λ events. IsFoundAmong all_stages s pool events ready address) (append-nil (first ++ told))
      (found_after (stages_to_page ++ Collection ∷ []) stages_again s collected pool (first ++ told) [] ready address passed_collection found.1))

  -- none is there after it either
  pub makes_none : (later : List Event) (t : State) (fields : ℕ) → fields ≤ most_fields → pool ≡ pool_for fields → IsAtLimit collected pool later t →
      MakesNone s fields (first ++ told) t
  makes_none later t fields few its still =
      let tried = tried_swept collected pool later t still.vain still_now in
      let again : PassesAll stages_again collected pool [] t =
      PassesAll-append (FreeAddress ∷ WaitingPages ∷ []) (FreshPage ∷ []) collected pool [] [] t t (passed_swept collected pool t tried.1)
      (passed_fresh collected pool later t still) in
      record {
        few = few;
        passed = subst (λ pool. PassesAll all_stages s pool (first ++ told) t) its
            (subst (λ events. PassesAll all_stages s pool events t) (append-nil (first ++ told))
            (PassesAll-append (stages_to_page ++ Collection ∷ []) stages_again s pool (first ++ told) [] collected t passed_collection again));
        limit = still.limit;
      }

-- a page is needed, and there is no memory for it
pub lacks_page : (s : State) (fields : ℕ) (events : List Event) (t : State) → IsTriedInVain s (pool_for fields) events t → NeedsPage t →
    LacksPage s fields events t
lacks_page s fields events t tried needs = record { passed = passed_before_page s (pool_for fields) events t tried; needs = needs }

-- what was done where all stages passed: a whole collection at the limit, and the sweep of all pages, in vain
pub record CollectedInVain (s : State) (pool : ℕ) (t : State) : Type 0 where
  pub limited : State
  pub first : List Event
  pub at_limit : IsAtLimit s pool first limited
  pub scans : ℕ
  pub told : List Event
  pub collected : State
  pub collects : IsCollection limited Full told scans collected
  pub vain : IsSweptInVain collected pool t
  pub none_spare : HasNoSpare t

-- where these stages pass, each page that waited was swept in vain
swept_in_vain : (s a t : State) (pool : ℕ) (now later : List Event) → Passes FreeAddress s pool now a → Passes WaitingPages a pool later t →
    IsSweptInVain s pool t
swept_in_vain s a t pool now later (full, none, same) (pages, sweeps, full_after, none_waits, silent) = record {
  pages = pages;
  sweeps = subst (λ u. SweepsInNeed pages u pool t) same sweeps;
  none_free = full_after;
  none_waits = none_waits;
}

pub passed_all : (s : State) (pool : ℕ) (events : List Event) (t : State) → PassesAll all_stages s pool events t → CollectedInVain s pool t
passed_all s pool events t (
  e1,
  l1,
  a,
  j1,
  p1,
  (
    e2,
    l2,
    b,
    j2,
    p2,
    (
      e3,
      l3,
      c,
      j3,
      p3,
      (
        e4,
        l4,
        d,
        j4,
        (none_spare, full, n4, s4),
        (
          e5,
          l5,
          f,
          j5,
          (scans, collects),
          (e6, l6, g, j6, p6, (e7, l7, i, j7, p7, (e8, l8, k, j8, (spare_after, m8, n8, s8), (n9, s9)))),
        ),
      ),
    ),
  ),
) =
    let same : i ≡ t = sym (subst (λ u. t ≡ u) s8 s9) in
    record {
      limited = c;
      first = e3;
      at_limit = record {
        vain = record { swept = b; vain = swept_in_vain s a b pool e1 e2 p1 p2; completes = p3.0; none_free = p3.1 };
        none_spare = none_spare;
        limit = full;
      };
      scans = scans;
      told = e5;
      collected = f;
      collects = subst (λ u. IsCollection u Full e5 scans f) s4 collects;
      vain = subst (λ u. IsSweptInVain f pool u) same (swept_in_vain f g i pool e6 e7 p6 p7);
      none_spare = subst HasNoSpare same spare_after;
    }
