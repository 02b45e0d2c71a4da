-- The opening is sound, and lawful commands keep states so.
use Rattle.std.proofs.Common.{◌≡◌, ℕ, ◌+◌, ◌≤◌, true, List, [], ◌∷◌, ◌++◌, length, drop, nat_eq, refl, sym, ap, ◌∙◌, subst, arith, ⊎_elim, inl, None, Some}
use Rattle.std.specs.Prelude.{is_some}
use Rattle.std.specs.List.{IsDistinct}
use Rattle.std.specs.Set.{is_member}
use Rattle.std.specs.Ordering.{nat_cmp}
use Rattle.std.specs.FinMap.{FinMap, get, insert, keys, empty, get-empty}
use Rattle.std.proofs.lemmas.Bool.{false≢true, and_parts}
use Rattle.std.proofs.lemmas.List.{length-append}
use Rattle.space_model.specs.declared.command.Command.{Command}
use Rattle.space_model.specs.declared.command.Command.TheVariants.{New, Run, Minor, Gc, Major, Finish, Compact, Move, Dump, Peek, Exit}
use Rattle.space_model.specs.declared.object.Guard.{Guard}
use Rattle.space_model.specs.declared.object.Style.{Style}
use Rattle.space_model.specs.declared.event.Event.{Event}
use Rattle.space_model.specs.declared.event.Kind.TheVariants.{Minor as MinorKind, Full as FullKind}
use Rattle.space_model.specs.declared.phase.Phase.TheVariants.{Moving}
use Rattle.space_model.specs.declared.reply.Reply.{Reply}
use Rattle.space_model.specs.declared.reply.Reply.TheVariants.{Made, Full, NoMemory, RanCount, Refused}
use Rattle.space_model.specs.declared.value.Value.{Value}
use Rattle.space_model.specs.declared.value.Value.TheVariants.{Name}
use Rattle.space_model.specs.FinalCommands.{RunsFinals}
use Rattle.space_model.specs.Graph.{IsChild, item_of, with_item}
use Rattle.space_model.specs.Idents.{IsIdent}
use Rattle.space_model.specs.Lawful.{Effects, Lawful, LawfulAll}
use Rattle.space_model.specs.Layout.{most_fields, page_of, pool_for}
use Rattle.space_model.specs.Moments.{noted, mixed_in}
use Rattle.space_model.specs.NewCommand.{stages_before_page, all_stages, AnswersNew}
use Rattle.space_model.specs.Outputs.{Output}
use Rattle.space_model.specs.Pieces.{new_item, item_written, item_unprotected, born, root_written, root_dropped, stack_replaced, field_written, unprotected}
use Rattle.space_model.specs.Places.{IsFree}
use Rattle.space_model.specs.Reach.{IsStart, Reach}
use Rattle.space_model.specs.Roots.{root_names}
use Rattle.space_model.specs.Given.{IsGiven, AreGiven}
use Rattle.space_model.specs.Sound.{AreSlots, Sound, IsSmall}
use Rattle.space_model.specs.State.{State, opening}
use Rattle.space_model.specs.StoredWords.{without_pair}
use Rattle.space_model.proofs.AfterPieces.{heap_of, tables_of, Sound-tables_replaced, after_piece}
use Rattle.space_model.proofs.CollectionsKept.{Sound-sweeps}
use Rattle.space_model.proofs.CorpsesKept.{SoundCorpses-born}
use Rattle.space_model.proofs.CompactAnswers.{compact_sound, move_sound, fix_sound}
use Rattle.space_model.proofs.ExitLaws.{answers_exit_sound}
use Rattle.space_model.proofs.FinalsKept.{SoundFinals-born, SoundQueue-born, SoundQueue-longer, SoundQueue-run}
use Rattle.space_model.proofs.KeptNames.{SoundKept-born}
use Rattle.space_model.proofs.LayoutKept.{IsFoundAt, found_at, fresh_slot, fresh_corpse, fresh_left, SoundLayout-born}
use Rattle.space_model.proofs.LeftKept.{SoundLeft-none, SoundStale-none, SoundLeft-born, SoundStale-born}
use Rattle.space_model.proofs.MajorLaws.{Sound-scans_told, major_sound, finish_sound}
use Rattle.space_model.proofs.MapLaws.{some_get, present-insert}
use Rattle.space_model.proofs.MarkingKept.{SoundMarking-born, SoundMarking-field_written, SoundMarking-unprotected}
use Rattle.space_model.proofs.MovesKept.{SoundMoves-still, SoundMoves-same, SoundMoves-shaped, SoundMoves-born}
use Rattle.space_model.proofs.NamesKept.{written_shape, written_long, SoundNames-born, SoundNames-root_written, SoundNames-root_dropped, SoundNames-field_written, SoundStale-field_written, SoundKept-field_written}
use Rattle.space_model.proofs.SweepKept.{SoundSweep-born, SoundUsed-born}
use Rattle.space_model.proofs.Members.{member_filter}
use Rattle.space_model.proofs.TablesKept.{SoundIds-longer, AreSoundEntries-present}
use Rattle.space_model.proofs.ReachedLaws.{member-keys}
use Rattle.space_model.proofs.Reaching.{IsReached-least}
use Rattle.space_model.proofs.RepliedPieces.{IsPiece, Nothing, Root, Dropped, Stack, Field, Guard as GuardPiece, Tabled, Swept, Scans, Fixed, replied_piece}
use Rattle.space_model.proofs.SameShapes.{SoundLayout-shaped, SoundCorpses-shaped, SoundLeft-shaped}
use Rattle.space_model.proofs.Stages.{passed_sound, place_free, place_sound}
use Rattle.space_model.proofs.UnprotectedNames.{unprotected_shape, unprotected_long, SoundNames-unprotected, SoundStale-unprotected, SoundKept-unprotected, AreSoundItems-unprotected}
use Rattle.space_model.proofs.WholeLaws.{collects_sound}
use Rattle.space_model.proofs.ValuesKept.{IsPresentValue, IsReachedValue, name_present, AreSoundItems-push, AreSoundItems-field_written, AreSoundRoots-with_root, AreSoundRoots-without_root}

abbrev none_yet : FinMap nat_cmp ℕ
none_yet = empty

none_in_empty : (name address : ℕ) → get none_yet name ≡ Some address → ⊥
none_in_empty name address e = let f : None ≡ Some address = sym (get-empty nat_cmp name) ∙ e in cc

nothing_present : (name : ℕ) → is_some (get none_yet name) ≡ true → ⊥
nothing_present name e = let a = some_get _ e in none_in_empty name a.0 a.1

no_root : (name : ℕ) → is_member nat_eq (root_names []) name ≡ true → ⊥
unfolding root_names
no_root name m = false≢true m

nothing_reached : (limit : ℕ) (name : ℕ) → Reach (opening limit) name → ⊥
nothing_reached limit = IsReached-least (IsChild []) (IsStart (opening limit)) (λ n. ⊥)
    (λ m n none c. none)
    no_start
  where
    no_start : (n : ℕ) → IsStart (opening limit) n → ⊥
    no_start n start = ⊎_elim (λ r. no_root n r) (λ w. false≢true w.1) start

no_parents : (name : ℕ) → is_member nat_eq (mixed_in [] none_yet []) name ≡ true → ⊥
unfolding mixed_in
no_parents name m = nothing_present name (sym (member-keys none_yet name) ∙ (and_parts _ _ (sym (member_filter _ (keys none_yet) name) ∙ m)).0)

none_slots : AreSlots [] [] none_yet
none_slots = record {
  allocated = λ n a e. absurd (none_in_empty n a e);
  at = λ n a e. absurd (none_in_empty n a e);
  once = λ n k a e f. absurd (none_in_empty n a e);
}

pub Sound-opening : (limit : ℕ) → Sound (opening limit)
unfolding IsDistinct
Sound-opening limit = record {
  layout = record { placed = none_slots; limited = omega arith };
  corpses = record {
    slots = none_slots;
    gone = λ n a e. absurd (none_in_empty n a e);
    apart = λ n k a e f. none_in_empty n a e;
    on_unswept = λ n a e. absurd (none_in_empty n a e);
  };
  sweep = record {
    rising = λ i j d l m. absurd (omega arith);
    have_pools = λ page m. absurd (false≢true m);
    some = λ e. absurd (cc);
    none = λ e. refl;
  };
  used = λ a b page e m. absurd (false≢true e);
  resting = λ a b. (refl, refl);
  cursor = λ e. refl;
  left = SoundLeft-none [] none_yet none_yet none_yet [] refl;
  stale = SoundStale-none [] none_yet none_yet [] 0 refl;
  moves = SoundMoves-still (opening limit) (λ e. cc);
  items = tt;
  roots = tt;
  ids = record { allocated = λ n m. absurd (false≢true m); once = tt };
  weak = tt;
  finals = λ n m. absurd (false≢true m);
  queue = λ n m. absurd (false≢true m);
  names = record {
    children_present = λ m n p c. absurd (nothing_present m p);
    roots_present = λ n m. absurd (no_root n m);
  };
  kept = λ n m. absurd (false≢true m);
  outlived = refl;
  moments = record {
    seen = λ n r. absurd (nothing_reached limit n r);
    once = tt;
    mixed = λ n m. absurd (no_parents n m);
  };
  marking = λ e. absurd (cc);
}

pub Sound-born : (s t : State) (root : List ℕ) (fields : ℕ) (guard : Guard) (style : Style) (address : ℕ) → IsIdent root →
    fields ≤ most_fields → IsFoundAt s (pool_for fields) address → (s.collector.phase ≡ Moving → IsFree s (pool_for fields) address) →
    t ≡ noted (born s root fields guard style address) → Sound s → Sound t
Sound-born s t root fields guard style address ident few found free e h =
    let fresh = fresh_slot s fields address h.layout found in
    let longer = length-append s.graph (new_item guard style fields ∷ []) in
    let older = length-append s.collector.outlived (0 ∷ []) in
    after_piece (born s root fields guard style address) t e (record {
      heap = record {
        layout = SoundLayout-born s root fields guard style address h.layout fresh;
        corpses = SoundCorpses-born s root fields guard style address h.layout fresh (fresh_corpse s fields address h.corpses.slots found) h.corpses;
        sweep = SoundSweep-born s.collector.phase s.heap.pages s.heap.unswept (page_of address) (pool_for fields) fresh.below h.sweep;
        used = SoundUsed-born s.graph s.collector.phase s.heap.pages s.heap.unswept s.heap.place address (pool_for fields) fresh.below h.layout.placed h.used;
        resting = h.resting;
        cursor = h.cursor;
        left = SoundLeft-born s root fields guard style address h.layout fresh (fresh_left s fields address h.left.slots found) h.left;
        stale = SoundStale-born s fields guard style address h.layout.placed h.stale;
        kept = SoundKept-born s.graph s.heap.pages s.heap.place s.collector.kept (new_item guard style fields) (length s.graph + 1) address h.layout.placed
            h.kept;
        outlived = (let a = h.outlived in omega arith);
      };
      moves = SoundMoves-born s root fields guard style address free fresh.below h.layout.placed h.left.slots h.moves;
      names = SoundNames-born s root fields guard style address h.layout.placed h.names;
      items = AreSoundItems-push s.graph guard style fields few h.items;
      roots = AreSoundRoots-with_root s.roots root (Name (length s.graph + 1)) ident tt h.roots;
      tables = record {
        ids = SoundIds-longer s.graph (s.graph ++ new_item guard style fields ∷ []) s.tables.ids (omega arith) h.ids;
        weak = AreSoundEntries-present s.heap.place (insert s.heap.place (length s.graph + 1) address) s.tables.weak
            (present-insert s.heap.place (length s.graph + 1) address) h.weak;
        finals = SoundFinals-born s.heap.place s.heap.corpses s.tables.finals (length s.graph + 1) address h.finals;
        queue = SoundQueue-born s.graph (s.graph ++ new_item guard style fields ∷ []) s.heap.place s.heap.corpses s.tables.queue (length s.graph + 1) address
            (omega arith) (omega arith) h.queue;
      };
      once = h.moments.once;
      marking = λ e. SoundMarking-born s fields guard style address h.layout.placed (h.marking e);
    })

pub Sound-root_written : (s t : State) (root : List ℕ) (value : Value) → IsIdent root → IsPresentValue s.heap.place value → IsSmall value →
    t ≡ noted (root_written s root value) → Sound s → Sound t
Sound-root_written s t root value ident present small e h = after_piece (root_written s root value) t e (record {
  heap = heap_of s h;
  moves = SoundMoves-same s (root_written s root value) (λ e. e) refl refl h.moves;
  names = SoundNames-root_written s.graph s.roots s.heap.place root value present h.names;
  items = h.items;
  roots = AreSoundRoots-with_root s.roots root value ident small h.roots;
  tables = tables_of s h;
  once = h.moments.once;
  marking = h.marking;
})

pub Sound-root_dropped : (s t : State) (root : List ℕ) → t ≡ noted (root_dropped s root) → Sound s → Sound t
Sound-root_dropped s t root e h = after_piece (root_dropped s root) t e (record {
  heap = heap_of s h;
  moves = SoundMoves-same s (root_dropped s root) (λ e. e) refl refl h.moves;
  names = SoundNames-root_dropped s.graph s.roots s.heap.place root h.names;
  items = h.items;
  roots = AreSoundRoots-without_root s.roots root h.roots;
  tables = tables_of s h;
  once = h.moments.once;
  marking = h.marking;
})

-- any words may be on the stack
pub Sound-stack_replaced : (s t : State) (words : List ℕ) → t ≡ noted (stack_replaced s words) → Sound s → Sound t
Sound-stack_replaced s t words e h = after_piece (stack_replaced s words) t e (record {
  heap = heap_of s h;
  moves = SoundMoves-same s (stack_replaced s words) (λ e. e) refl refl h.moves;
  names = h.names;
  items = h.items;
  roots = h.roots;
  tables = tables_of s h;
  once = h.moments.once;
  marking = h.marking;
})

pub Sound-field_written : (s t : State) (name index : ℕ) (value : Value) → is_some (get s.heap.place name) ≡ true → IsPresentValue s.heap.place value →
    IsSmall value → IsReachedValue s value → t ≡ noted (field_written s name index value) → Sound s → Sound t
Sound-field_written s t name index value there present small reached e h =
    let at = some_get (get s.heap.place name) there in
    let b = h.layout.placed.allocated name at.0 at.1 in
    let written = with_item s.graph name (item_written (item_of s.graph name) index value) in
    let shape = written_shape s name index value h.layout.placed b.0 b.1 in
    let long = written_long s name index value h.layout.placed b.0 b.1 in
    after_piece (field_written s name index value) t e (record {
      heap = record {
        layout = SoundLayout-shaped s.graph written long shape s.heap.place s.heap.pages s.heap.limit h.layout;
        corpses = SoundCorpses-shaped s.graph written long shape s.heap.place s.heap.corpses s.heap.pages s.heap.unswept h.corpses;
        sweep = h.sweep;
        used = h.used;
        resting = λ a b. let rests = h.resting a b in (rests.0, ap (λ stale. without_pair stale name index) rests.1);
        cursor = h.cursor;
        left = SoundLeft-shaped s.graph written long shape s.heap.place s.heap.corpses s.heap.left s.heap.pages h.left;
        stale = SoundStale-field_written s name index value h.layout.placed b.0 b.1 h.stale;
        kept = SoundKept-field_written s name index value h.layout.placed b.0 b.1 h.kept;
        outlived = h.outlived ∙ sym long;
      };
      moves = SoundMoves-shaped s (field_written s name index value) (λ e. e) refl
          (λ n left. let gone = some_get _ left in ap pool_for (shape n (h.left.slots.allocated n gone.0 gone.1).0)) h.moves;
      names = SoundNames-field_written s name index value h.layout.placed b.0 b.1 present h.names;
      items = AreSoundItems-field_written s.graph name index value small h.items;
      roots = h.roots;
      tables = record {
        ids = SoundIds-longer s.graph written s.tables.ids (omega (arith, long)) h.ids;
        weak = h.weak;
        finals = h.finals;
        queue = SoundQueue-longer s.graph written s.heap.place s.heap.corpses s.tables.queue (omega (arith, long)) h.queue;
      };
      once = h.moments.once;
      marking = λ m. SoundMarking-field_written s name index value h.layout.placed b.0 b.1 reached h.moments (h.marking m);
    })

pub Sound-unprotected : (s t : State) (name : ℕ) → is_some (get s.heap.place name) ≡ true → t ≡ noted (unprotected s name) → Sound s → Sound t
Sound-unprotected s t name there e h =
    let now = with_item s.graph name (item_unprotected (item_of s.graph name)) in
    let shape = unprotected_shape s name h.layout.placed there in
    let long = unprotected_long s name h.layout.placed there in
    after_piece (unprotected s name) t e (record {
      heap = record {
        layout = SoundLayout-shaped s.graph now long shape s.heap.place s.heap.pages s.heap.limit h.layout;
        corpses = SoundCorpses-shaped s.graph now long shape s.heap.place s.heap.corpses s.heap.pages s.heap.unswept h.corpses;
        sweep = h.sweep;
        used = h.used;
        resting = h.resting;
        cursor = h.cursor;
        left = SoundLeft-shaped s.graph now long shape s.heap.place s.heap.corpses s.heap.left s.heap.pages h.left;
        stale = SoundStale-unprotected s name h.layout.placed there h.stale;
        kept = SoundKept-unprotected s name h.layout.placed there h.kept;
        outlived = h.outlived ∙ sym long;
      };
      moves = SoundMoves-shaped s (unprotected s name) (λ e. e) refl
          (λ n left. let gone = some_get _ left in ap pool_for (shape n (h.left.slots.allocated n gone.0 gone.1).0)) h.moves;
      names = SoundNames-unprotected s name h.layout.placed there h.names;
      items = AreSoundItems-unprotected s name h.layout.placed there h.items;
      roots = h.roots;
      tables = record {
        ids = SoundIds-longer s.graph now s.tables.ids (omega (arith, long)) h.ids;
        weak = h.weak;
        finals = h.finals;
        queue = SoundQueue-longer s.graph now s.heap.place s.heap.corpses s.tables.queue (omega (arith, long)) h.queue;
      };
      once = h.moments.once;
      marking = λ m. SoundMarking-unprotected s name h.layout.placed there (h.marking m);
    })

new_sound : (s t : State) (root : List ℕ) (fields : ℕ) (guard : Guard) (style : Style) (events : List Event) (reply : Reply) → IsIdent root →
    AnswersNew s root fields guard style events reply t → Sound s → Sound t
new_sound s t root fields guard style events (Made name address) ident e h =
    Sound-born e.ready t root fields guard style address ident e.few
    (found_at e.place.stage e.place.tried (pool_for fields) e.place.finding e.ready address e.place.found)
    (λ moves. place_free s (pool_for fields) events e.ready address e.place h (inl moves)) e.made
    (place_sound s (pool_for fields) events e.ready address e.place h)
new_sound s t root fields guard style events Full ident e h = passed_sound all_stages s (pool_for fields) events t e.passed h
new_sound s t root fields guard style events NoMemory ident e h = ⊎_elim
    (λ lacks. subst Sound (sym lacks.unchanged) h)
    (λ lacks. passed_sound stages_before_page s (pool_for fields) events t lacks.passed h)
    e.1
new_sound s t root fields guard style events (Refused why) ident e h = subst Sound (sym e.3) h
new_sound s t root fields guard style events _ ident e h = absurd e

runs_sound : (s t : State) (count : ℕ) (events : List Event) (reply : Reply) → RunsFinals s count events reply t → Sound s → Sound t
runs_sound s t count events (RanCount ran) e h =
    Sound-tables_replaced s t (record s.tables { queue = drop count s.tables.queue })
    (record {
      ids = h.ids;
      weak = h.weak;
      finals = h.finals;
      queue = SoundQueue-run s.graph s.heap.place s.heap.corpses s.tables.queue count h.queue;
    })
    e.2 h
runs_sound s t count events _ e h = absurd e

piece_sound : (command : Command) (s t : State) → IsGiven command → IsPiece command s t → Sound s → Sound t
piece_sound command s t i (Nothing same) h = subst Sound (sym same) h
piece_sound command s t i (Root root value ident valid after) h = let v = valid i h in Sound-root_written s t root value (ident i) v.0 v.1 after h
piece_sound command s t i (Dropped root after) h = Sound-root_dropped s t root after h
piece_sound command s t i (Stack words after) h = Sound-stack_replaced s t words after h
piece_sound command s t i (Field name index value object valid reached after) h =
    let v = valid i h in
    Sound-field_written s t name index value (name_present s.heap.place name (object i h).0) v.0 v.1 (reached i) after h
piece_sound command s t i (GuardPiece name object after) h = Sound-unprotected s t name (name_present s.heap.place name (object i h).0) after h
piece_sound command s t i (Tabled tables sound ids maps finals queue after) h = Sound-tables_replaced s t tables (sound h) after h
piece_sound command s t i (Swept pages freed sweeps) h = Sound-sweeps pages s t freed sweeps h
piece_sound command s t i (Scans scans few after) h = Sound-scans_told s t scans few after h
piece_sound command s t i (Fixed count reply fixes) h = fix_sound s t count reply fixes h

effects_sound : (s t : State) (command : Command) (events : List Event) (answer : List Output) → IsGiven command → Effects s command events answer t →
    Sound s → Sound t
effects_sound s t (New root fields guard style) events answer i e h = new_sound s t root fields guard style events e.reply i.1.0 e.is h
effects_sound s t (Run count) events answer i e h = runs_sound s t count events e.reply e.is h
effects_sound s t Minor events answer i e h = collects_sound s t MinorKind events e.reply e.is h
effects_sound s t Gc events answer i e h = collects_sound s t FullKind events e.reply e.is h
effects_sound s t Major events answer i e h = major_sound s t events e.reply e.is h
effects_sound s t Finish events answer i e h = finish_sound s t events e.reply e.is h
effects_sound s t Compact events answer i e h = compact_sound s t events e.reply e.is h
effects_sound s t (Move count) events answer i e h = move_sound s t count events e.reply e.is h
effects_sound s t Dump events answer i e h = subst Sound (sym e.1.unchanged) h
effects_sound s t (Peek object) events answer i e h = subst Sound (sym e.1.1) h
effects_sound s t Exit events answer i e h = answers_exit_sound s t events e.reply e.is h
effects_sound s t command events answer i e h = piece_sound command s t i (replied_piece s t command e.1.reply e.1.is) h

pub lawful_sound : (s t : State) (command : Command) (outputs : List Output) → IsGiven command → Lawful s command outputs t → Sound s → Sound t
lawful_sound s t command outputs i l h = effects_sound s t command l.events l.answer i l.effects h

pub lawful_all_sound : (s t : State) (commands : List Command) (outputs : List Output) → AreGiven commands → LawfulAll s commands outputs t → Sound s →
    Sound t
lawful_all_sound s t [] outputs i (_, e) h = subst Sound (sym e) h
lawful_all_sound s t (command ∷ commands) outputs i (now, later, mid, e, step, rest) h =
    lawful_all_sound mid t commands later i.1 rest (lawful_sound s mid command now i.0 step h)
