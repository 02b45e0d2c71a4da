-- What a command does to the tables: ids stay, and entries of weak maps go with their keys and values.
use Rattle.std.proofs.Common.{◌≡◌, ℕ, zero, suc, ◌+◌, ◌*◌, true, false, List, [], ◌∷◌, ◌++◌, take, nat_eq, refl, sym, ap, ◌∙◌, subst, ⊎_elim, arith, Some}
use Rattle.std.specs.Prelude.{◌↔◌, slice_get}
use Rattle.std.specs.List.{IsDistinct}
use Rattle.std.specs.Set.{is_member}
use Rattle.std.proofs.lemmas.Bool.{false≢true, false_from_ne_true, true_from_ne_false, or_left, or_right, eq-eqb}
use Rattle.std.proofs.lemmas.List.{append-nil}
use Rattle.std.proofs.lemmas.Map.Keys.{IsDistinct-tail}
use Rattle.space_model.specs.declared.command.Command.{Command}
use Rattle.space_model.specs.declared.command.Command.TheVariants.{New, Run, Minor, Gc, Major, Finish, Compact, Move, Dump, Peek, Exit}
use Rattle.space_model.specs.declared.event.Event.{Event}
use Rattle.space_model.specs.declared.event.Kind.{Kind}
use Rattle.space_model.specs.declared.event.Kind.TheVariants.{Minor as MinorKind, Full as FullKind}
use Rattle.space_model.specs.declared.object.Guard.{Guard}
use Rattle.space_model.specs.declared.object.Style.{Style}
use Rattle.space_model.specs.declared.reply.Reply.{Reply}
use Rattle.space_model.specs.declared.reply.Reply.TheVariants.{Made, Full, NoMemory, RanCount, Scanned, ExitRan, Refused}
use Rattle.space_model.specs.Collections.{Collects}
use Rattle.space_model.specs.CompactCommands.{AnswersCompact}
use Rattle.space_model.specs.Exit.{AnswersExit}
use Rattle.space_model.specs.FinalCommands.{ran_events, RunsFinals}
use Rattle.space_model.specs.IdCommands.{IsIdOf}
use Rattle.space_model.specs.Lawful.{Effects, Lawful}
use Rattle.space_model.specs.Layout.{pool_for}
use Rattle.space_model.specs.NewCommand.{stages_before_page, all_stages, AnswersNew}
use Rattle.space_model.specs.Outputs.{Output, gone_in}
use Rattle.space_model.specs.Pieces.{Born}
use Rattle.space_model.specs.Sound.{Sound}
use Rattle.space_model.specs.State.{State, Tables, is_present}
use Rattle.space_model.specs.TableLaws.{ChangesMap}
use Rattle.space_model.specs.WeakMaps.{weak_value, entries_left}
use Rattle.space_model.proofs.CompactionNames.{leaves_move_answer, leaves_fix_answer}
use Rattle.space_model.proofs.EntryLaws.{all_left, left_value, value_left}
use Rattle.space_model.proofs.ExitLaws.{gone_among-ran, exit_takes}
use Rattle.space_model.proofs.FinalNames.{head_apart}
use Rattle.space_model.proofs.Leaving.{Leaves, leaves_swept}
use Rattle.space_model.proofs.MajorLaws.{major_leaves, finish_leaves}
use Rattle.space_model.proofs.PlacesAfter.{leaves_before_moves, lawful_told, gone_told}
use Rattle.space_model.proofs.RepliedPieces.{AreIdsKept, IsPiece, Nothing, Root, Dropped, Stack, Field, Guard as GuardPiece, Tabled, Swept, Scans, Fixed, replied_piece}
use Rattle.space_model.proofs.Stages.{passed_leaves, place_leaves}
use Rattle.space_model.proofs.TablesKept.{weak_key-present, weak_value-present}
use Rattle.space_model.proofs.ToldNames.{gone_among, gone_among-append}
use Rattle.space_model.proofs.WholeLaws.{leaves_collection}

get_member : (names : List ℕ) (k name : ℕ) → slice_get names k ≡ Some name → is_member nat_eq names name ≡ true
get_member [] k name e = absurd (cc)
get_member (n ∷ names) zero name e = or_left _ _ (eq-eqb name n (sym (let same : n ≡ name = cc in same)))
get_member (n ∷ names) (suc k) name e = or_right (nat_eq name n) _ (get_member names k name e)

-- each id stays, and a map that the command doesn't change has the entries that are left of it
record TablesAfter (command : Command) (s : State) (events : List Event) (t : State) : Type 0 where
  ids : AreIdsKept s.tables.ids t.tables.ids
  values : (weak : List ℕ) (key : ℕ) → (ChangesMap command weak → ⊥) →
      weak_value t.tables.weak weak key ≡ weak_value (entries_left (gone_among events) s.tables.weak) weak key

module _ (command : Command) (s t : State) (events : List Event) where
  -- after work of the collector
  worked : Leaves s events t → TablesAfter command s events t
  worked h = record {
    ids = λ k name e. ap (λ ids. slice_get ids k) h.ids ∙ e;
    values = λ weak key other.
        ap (λ entries. weak_value entries weak key) (h.weak ∙ ap (λ names. entries_left names s.tables.weak) (sym h.told));
  }

  -- where nothing goes
  none_goes : gone_among events ≡ [] → t.tables.ids ≡ s.tables.ids → t.tables.weak ≡ s.tables.weak → TablesAfter command s events t
  none_goes none ids weak = record {
    ids = λ k name e. ap (λ ids. slice_get ids k) ids ∙ e;
    values = λ map key other.
        ap (λ entries. weak_value entries map key)
        (weak ∙ sym (all_left s.tables.weak) ∙ ap (λ names. entries_left names s.tables.weak) (sym none));
  }

  same_tables : events ≡ [] → t.tables ≡ s.tables → TablesAfter command s events t
  same_tables none same =
      none_goes (ap gone_among none) (ap (λ (tables : Tables). tables.ids) same) (ap (λ (tables : Tables). tables.weak) same)

  same_state : events ≡ [] → t ≡ s → TablesAfter command s events t
  same_state none same = same_tables none (ap (λ (u : State). u.tables) same)

  piece_tables : events ≡ [] → IsPiece command s t → TablesAfter command s events t
  piece_tables none (Nothing same) = same_state none same
  piece_tables none (Root root value ident valid after) = same_tables none (ap (λ (u : State). u.tables) after)
  piece_tables none (Dropped root after) = same_tables none (ap (λ (u : State). u.tables) after)
  piece_tables none (Stack words after) = same_tables none (ap (λ (u : State). u.tables) after)
  piece_tables none (Field name index value object valid reached after) = same_tables none (ap (λ (u : State). u.tables) after)
  piece_tables none (GuardPiece name object after) = same_tables none (ap (λ (u : State). u.tables) after)
  piece_tables none (Tabled tables sound ids maps finals queue after) = subst (λ events. TablesAfter command s events t) (sym none) (record {
    ids = λ k name e. ap (λ (u : State). slice_get u.tables.ids k) after ∙ ids k name e;
    values = λ weak key other.
        ap (λ (u : State). weak_value u.tables.weak weak key) after
        ∙ maps weak key other
        ∙ ap (λ entries. weak_value entries weak key) (sym (all_left s.tables.weak));
  })
  piece_tables none (Swept pages freed sweeps) = worked (subst (λ events. Leaves s events t) (sym none) (leaves_swept pages s t freed sweeps))
  piece_tables none (Scans scans few after) = same_tables none (ap (λ (u : State). u.tables) after)
  piece_tables none (Fixed count reply fixes) = worked (subst (λ events. Leaves s events t) (sym none) (leaves_fix_answer s t count reply fixes))

  -- an object is made after work of the collector
  made_tables : (ready : State) (root : List ℕ) (fields : ℕ) (guard : Guard) (style : Style) (address : ℕ) → Leaves s events ready →
      Born ready root fields guard style address t → TablesAfter command s events t
  made_tables ready root fields guard style address h born = record {
    ids = λ k name e. ap (λ (u : State). slice_get u.tables.ids k) born ∙ ap (λ ids. slice_get ids k) h.ids ∙ e;
    values = λ weak key other.
        ap (λ (u : State). weak_value u.tables.weak weak key) born
        ∙ ap (λ entries. weak_value entries weak key) (h.weak ∙ ap (λ names. entries_left names s.tables.weak) (sym h.told));
  }

  new_tables : (root : List ℕ) (fields : ℕ) (guard : Guard) (style : Style) (reply : Reply) → AnswersNew s root fields guard style events reply t →
      TablesAfter command s events t
  new_tables root fields guard style (Made name address) e =
      made_tables e.ready root fields guard style address (place_leaves s (pool_for fields) events e.ready address e.place) e.made
  new_tables root fields guard style Full e = worked (passed_leaves all_stages s (pool_for fields) events t e.passed)
  new_tables root fields guard style NoMemory e = ⊎_elim
      (λ lacks. same_state lacks.silent lacks.unchanged)
      (λ lacks. worked (passed_leaves stages_before_page s (pool_for fields) events t lacks.passed))
      e.1
  new_tables root fields guard style (Refused why) e = same_state e.2 e.3
  new_tables root fields guard style _ e = absurd e

  collects_tables : (kind : Kind) (reply : Reply) → Collects s kind events reply t → TablesAfter command s events t
  collects_tables kind (Scanned scans) e = worked (leaves_collection s t kind events scans e)
  collects_tables kind _ e = absurd e

  -- a compaction begins after a collection
  compact_tables : (reply : Reply) → AnswersCompact s events reply t → TablesAfter command s events t
  compact_tables (Scanned scans) e =
      let before = leaves_before_moves s events scans t e in
      record {
        ids = λ k name at. ap (λ (u : State). slice_get u.tables.ids k) e.begins ∙ ap (λ ids. slice_get ids k) before.ids ∙ at;
        values = λ weak key other.
            ap (λ (u : State). weak_value u.tables.weak weak key) e.begins
            ∙ ap (λ entries. weak_value entries weak key) (before.weak ∙ ap (λ names. entries_left names s.tables.weak) (sym before.told));
      }
  compact_tables _ e = absurd e

  runs_tables : (count : ℕ) (reply : Reply) → RunsFinals s count events reply t → TablesAfter command s events t
  runs_tables count (RanCount ran) e =
      none_goes (ap gone_among e.0 ∙ gone_among-ran (take count s.tables.queue)) (ap (λ (u : State). u.tables.ids) e.2)
      (ap (λ (u : State). u.tables.weak) e.2)
  runs_tables count _ e = absurd e

  exit_tables : (reply : Reply) → AnswersExit s events reply t → TablesAfter command s events t
  exit_tables (ExitRan ran) e =
      let x = exit_takes s t events ran e in
      let told : gone_among events ≡ x.taken =
      ap gone_among x.events_are
      ∙ gone_among-append x.told (ran_events x.swept.tables.queue)
      ∙ ap (λ names. gone_among x.told ++ names) (gone_among-ran x.swept.tables.queue)
      ∙ append-nil (gone_among x.told)
      ∙ x.takes.told in
      record {
        ids = λ k name e. ap (λ (u : State). slice_get u.tables.ids k) x.after ∙ ap (λ ids. slice_get ids k) x.takes.ids ∙ e;
        values = λ weak key other.
            ap (λ (u : State). weak_value u.tables.weak weak key) x.after
            ∙ ap (λ entries. weak_value entries weak key) (x.takes.weak ∙ ap (λ names. entries_left names s.tables.weak) (sym told));
      }
  exit_tables _ e = absurd e

effects_tables : (s t : State) (command : Command) (events : List Event) (answer : List Output) → Effects s command events answer t →
    TablesAfter command s events t
effects_tables s t (New root fields guard style) events answer e =
    new_tables (New root fields guard style) s t events root fields guard style e.reply e.is
effects_tables s t (Run count) events answer e = runs_tables (Run count) s t events count e.reply e.is
effects_tables s t Minor events answer e = collects_tables Minor s t events MinorKind e.reply e.is
effects_tables s t Gc events answer e = collects_tables Gc s t events FullKind e.reply e.is
effects_tables s t Major events answer e = worked Major s t events (major_leaves s t events e.reply e.is)
effects_tables s t Finish events answer e = worked Finish s t events (finish_leaves s t events e.reply e.is)
effects_tables s t Compact events answer e = compact_tables Compact s t events e.reply e.is
effects_tables s t (Move count) events answer e = worked (Move count) s t events (leaves_move_answer s t count events e.reply e.is)
effects_tables s t Dump events answer e = same_state Dump s t events e.0 e.1.unchanged
effects_tables s t (Peek object) events answer e = same_state (Peek object) s t events e.0 e.1.1
effects_tables s t Exit events answer e = exit_tables Exit s t events e.reply e.is
effects_tables s t command events answer e = piece_tables command s t events e.0 (replied_piece s t command e.1.reply e.1.is)

pub ids_stay : (s t : State) (command : Command) (outputs : List Output) → Lawful s command outputs t → (name id : ℕ) → IsIdOf s.tables.ids name id →
    IsIdOf t.tables.ids name id
ids_stay s t command outputs l name id (k, at, is) = (k, (effects_tables s t command l.events l.answer l.effects).ids k name at, is)

not_later : (name : ℕ) (names : List ℕ) (k : ℕ) → is_member nat_eq names name ≡ false → slice_get names k ≡ Some name → ⊥
not_later name names k out at = false≢true (sym out ∙ get_member names k name at)

-- a name stands at one place
same_place : (names : List ℕ) (k j name : ℕ) → IsDistinct nat_eq names → slice_get names k ≡ Some name → slice_get names j ≡ Some name → k ≡ j
same_place [] k j name once at from = absurd (cc)
same_place (n ∷ names) zero zero name once at from = refl
same_place (n ∷ names) zero (suc j) name once at from =
    let same : n ≡ name = cc in
    absurd (not_later n names j (head_apart n names once) (from ∙ ap Some (sym same)))
same_place (n ∷ names) (suc k) zero name once at from =
    let same : n ≡ name = cc in
    absurd (not_later n names k (head_apart n names once) (at ∙ ap Some (sym same)))
same_place (n ∷ names) (suc k) (suc j) name once at from = ap suc (same_place names k j name (IsDistinct-tail nat_eq n names once) at from)

pub ids_one : (s : State) (name other id next : ℕ) → Sound s → IsIdOf s.tables.ids name id → IsIdOf s.tables.ids other next → (name ≡ other) ↔ (id ≡ next)
ids_one s name other id next h (k, at, is) (j, from, was) = (
  (λ e. is ∙ ap (λ k. 8 * (k + 1)) (same_place s.tables.ids k j other h.ids.once (at ∙ ap Some e) from) ∙ sym was),
  (λ e.
      let same : k ≡ j = omega (arith, is, was, e) in
      let found : Some name ≡ Some other = sym at ∙ ap (slice_get s.tables.ids) same ∙ from in
      cc),
)

module _ (s t : State) (command : Command) (outputs : List Output) (l : Lawful s command outputs t) (h : Sound s) where
  gone : ℕ → Type 0
  gone n = is_member nat_eq (gone_in outputs) n ≡ true

  there : (n : ℕ) → is_present s n ≡ true → is_member nat_eq (gone_among l.events) n ≡ false → is_present t n ≡ true
  there n p out = true_from_ne_false _ (λ absent.
      false≢true (sym out ∙ ap (λ names. is_member nat_eq names n) (sym (gone_told s t command outputs l)) ∙ (lawful_told s t command outputs l h n).1 (p, absent)))

  stays : (n : ℕ) → is_present t n ≡ true → is_member nat_eq (gone_among l.events) n ≡ false
  stays n p = false_from_ne_true _ (λ taken.
      let both = (lawful_told s t command outputs l h n).0 (ap (λ names. is_member nat_eq names n) (gone_told s t command outputs l) ∙ taken) in
      false≢true (sym both.1 ∙ p))

  pub entries_go : (weak : List ℕ) → (ChangesMap command weak → ⊥) → (key value : ℕ) →
      (weak_value t.tables.weak weak key ≡ Some value)
      ↔ ((weak_value s.tables.weak weak key ≡ Some value) × (is_present t key ≡ true) × (is_present t value ≡ true))
  entries_go weak other key value =
      let same = (effects_tables s t command l.events l.answer l.effects).values weak key other in (
        (λ e.
            let (before, k, v) = left_value s.heap.place (gone_among l.events) s.tables.weak weak key value h.weak (sym same ∙ e) in (
              before,
              there key (weak_key-present s.heap.place s.tables.weak weak key value before h.weak) k,
              there value (weak_value-present s.heap.place s.tables.weak weak key value before h.weak) v,
            )),
        (λ (before, k, v). same ∙ value_left (gone_among l.events) s.tables.weak weak key value before (stays key k) (stays value v)),
      )
