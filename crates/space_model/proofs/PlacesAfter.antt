-- What a command does to where objects stand: what is reached is present and stays, and what goes is told.
use Rattle.std.proofs.Common.{◌≡◌, ◌≢◌, ℕ, ◌+◌, ◌≤◌, ◌&&◌, not, Bool, true, false, List, [], ◌∷◌, ◌++◌, length, map, take, subst, nat_eq, refl, sym, ap, ◌∙◌, arith, ⊎_elim, Some, Result, Ok, Err}
use Rattle.std.specs.Prelude.{is_some, ◌↔◌}
use Rattle.std.specs.List.{IsDistinct}
use Rattle.std.specs.Set.{is_member}
use Rattle.std.specs.Ordering.{nat_cmp}
use Rattle.std.specs.FinMap.{FinMap, get}
use Rattle.std.proofs.lemmas.Bool.{ne_eqb, cond-false, false≢true, false_from_ne_true, true_from_ne_false}
use Rattle.std.proofs.lemmas.List.{append-nil, map-append}
use Rattle.space_model.specs.declared.command.Command.{Command}
use Rattle.space_model.specs.declared.command.Command.TheVariants.{New, Run, Minor, Gc, Major, Finish, Compact, Move, Dump, Peek, Exit}
use Rattle.space_model.specs.declared.event.Event.{Event}
use Rattle.space_model.specs.declared.event.Kind.{Kind}
use Rattle.space_model.specs.declared.event.Kind.TheVariants.{Minor as MinorKind, Full as FullKind}
use Rattle.space_model.specs.declared.object.Guard.{Guard}
use Rattle.space_model.specs.declared.object.Style.{Style}
use Rattle.space_model.specs.declared.reply.Refusal.{Refusal}
use Rattle.space_model.specs.declared.reply.Reply.{Reply}
use Rattle.space_model.specs.declared.reply.Reply.TheVariants.{Made, Full, NoMemory, RanCount, Scanned, Dumped, ExitRan, Refused}
use Rattle.space_model.specs.Collections.{Collects}
use Rattle.space_model.specs.Compaction.{IsPinned}
use Rattle.space_model.specs.CompactCommands.{BeginsCompaction, AnswersCompact}
use Rattle.space_model.specs.Dumps.{dump_lines, Dumps, peek_answer}
use Rattle.space_model.specs.Exit.{AnswersExit}
use Rattle.space_model.specs.FinalCommands.{ran_events, RunsFinals}
use Rattle.space_model.specs.Graph.{IsChild}
use Rattle.space_model.specs.Lawful.{Replies, Effects, Lawful}
use Rattle.space_model.specs.Layout.{pool_for}
use Rattle.space_model.specs.NewCommand.{stages_before_page, all_stages, AnswersNew}
use Rattle.space_model.specs.Operands.{object_of}
use Rattle.space_model.specs.Outputs.{Output, Told, Listed, Peeked, Replied, gone_in, moved_in, ran_in}
use Rattle.space_model.specs.Pieces.{Born}
use Rattle.space_model.specs.Reach.{IsStart, Reach}
use Rattle.space_model.specs.Sound.{Sound}
use Rattle.space_model.specs.State.{State, Heap, is_present}
use Rattle.space_model.specs.ToldInOrder.{AreToldInOrder}
use Rattle.space_model.proofs.CompactionNames.{leaves_move_answer, leaves_fix_answer}
use Rattle.space_model.proofs.ExitLaws.{gone_among-ran, moved_among-ran, ran_in_order, exit_takes}
use Rattle.space_model.proofs.Leaving.{Leaves, leaves_swept, leaves_then}
use Rattle.space_model.proofs.MajorLaws.{major_leaves, finish_leaves}
use Rattle.space_model.proofs.MapLaws.{get-insert_name, some_get}
use Rattle.space_model.proofs.Reaching.{IsReached-least}
use Rattle.space_model.proofs.RepliedPieces.{IsPiece, Nothing, Root, Dropped, Stack, Field, Guard as GuardPiece, Tabled, Swept, Scans, Fixed, replied_piece}
use Rattle.space_model.proofs.Stages.{passed_leaves, place_leaves}
use Rattle.space_model.proofs.ToldNames.{gone_among, gone_among-append, gone_outputs, moved_among, moved_among-append, moved_outputs, told_place, told_place-append, told_place-unmoved, AreToldInOrder-append}
use Rattle.space_model.proofs.WholeLaws.{leaves_collection}

pub reached_present : (s : State) → Sound s → (n : ℕ) → Reach s n → is_present s n ≡ true
reached_present s h = IsReached-least (IsChild s.graph) (IsStart s) (λ n. is_present s n ≡ true)
    (λ m n p c. h.names.children_present m n p c)
    (λ n start. ⊎_elim (λ r. h.names.roots_present n r) (λ (word, m, at). ap is_some at) start)

-- names go and are told, reached ones by `exit` alone, which leaves no stack word; each other one that was allocated and present is, and stands
-- where the moves that were told put it, which are moves of no name that is pinned; and the limit stays
pub record PlacesAfter (s : State) (command : Command) (events : List Event) (t : State) : Type 0 where
  taken : List ℕ
  told : gone_among events ≡ taken
  present : (n : ℕ) → is_member nat_eq taken n ≡ true → is_present s n ≡ true
  unreached : (n : ℕ) → is_member nat_eq taken n ≡ true → Reach s n → (command ≡ Exit) × (t.stack ≡ [])
  order : AreToldInOrder s.heap.place [] (map Told events)
  once : IsDistinct nat_eq taken
  there : (n : ℕ) → n ≤ length s.graph → is_present t n ≡ (not (is_member nat_eq taken n) && is_present s n)
  place : (n : ℕ) → n ≤ length s.graph → is_present t n ≡ true → get t.heap.place n ≡ get (told_place s.heap.place events) n
  pinned : Sound s → (n : ℕ) → IsPinned s n → is_member nat_eq (moved_among events) n ≡ false
  limit : t.heap.limit ≡ s.heap.limit

-- after work of the collector
worked : (command : Command) (s t : State) (events : List Event) → Leaves s events t → PlacesAfter s command events t
worked command s t events h = record {
  taken = h.taken;
  told = h.told;
  present = h.present;
  unreached = λ n m r. absurd (h.unreached n m r);
  order = h.order;
  once = h.once;
  there = λ n old. h.there n;
  place = λ n old. h.place n;
  pinned = λ sound. h.pinned;
  limit = h.limit;
}

-- the heap of t is that of s
abbrev SameHeap : State → State → Type 0
SameHeap s t = t.heap ≡ s.heap

-- the events tell nothing to be gone, and no move
record AreQuiet (events : List Event) : Type 0 where
  none : gone_among events ≡ []
  moved : moved_among events ≡ []
  order : (place : FinMap nat_cmp ℕ) → AreToldInOrder place [] (map Told events)

quiet_none : (events : List Event) → events ≡ [] → AreQuiet events
quiet_none events e = subst AreQuiet (sym e) (record { none = refl; moved = refl; order = λ place. refl })

quiet_ran : (events : List Event) (pairs : List (ℕ × List ℕ)) → events ≡ ran_events pairs → AreQuiet events
quiet_ran events pairs e = subst AreQuiet (sym e) (record { none = gone_among-ran pairs; moved = moved_among-ran pairs; order = λ place. ran_in_order place pairs })

-- where nothing goes
same_after : (command : Command) (s t : State) (events : List Event) → AreQuiet events → SameHeap s t → PlacesAfter s command events t
unfolding IsDistinct
same_after command s t events quiet e = record {
  taken = [];
  told = quiet.none;
  present = λ n m. absurd (false≢true m);
  unreached = λ n m r. absurd (false≢true m);
  order = quiet.order s.heap.place;
  once = tt;
  there = λ n old. ap (λ (heap : Heap). is_some (get heap.place n)) e;
  place = λ n old p.
      ap (λ (heap : Heap). get heap.place n) e
      ∙ sym (told_place-unmoved s.heap.place events n (ap (λ names. is_member nat_eq names n) quiet.moved));
  pinned = λ sound n pin. ap (λ names. is_member nat_eq names n) quiet.moved;
  limit = ap (λ (heap : Heap). heap.limit) e;
}

same_heap : (s t : State) → t ≡ s → SameHeap s t
same_heap s t e = ap (λ (u : State). u.heap) e

-- so it is after a piece of work of a command without events
piece_after : (command : Command) (s t : State) (events : List Event) → events ≡ [] → IsPiece command s t → PlacesAfter s command events t
piece_after command s t events none (Nothing same) = same_after command s t events (quiet_none events none) (same_heap s t same)
piece_after command s t events none (Root root value ident valid after) =
    same_after command s t events (quiet_none events none) (ap (λ (u : State). u.heap) after)
piece_after command s t events none (Dropped root after) = same_after command s t events (quiet_none events none) (ap (λ (u : State). u.heap) after)
piece_after command s t events none (Stack words after) = same_after command s t events (quiet_none events none) (ap (λ (u : State). u.heap) after)
piece_after command s t events none (Field name index value object valid reached after) =
    same_after command s t events (quiet_none events none) (ap (λ (u : State). u.heap) after)
piece_after command s t events none (GuardPiece name object after) =
    same_after command s t events (quiet_none events none) (ap (λ (u : State). u.heap) after)
piece_after command s t events none (Tabled tables sound ids maps finals queue after) =
    same_after command s t events (quiet_none events none) (ap (λ (u : State). u.heap) after)
piece_after command s t events none (Swept pages freed sweeps) =
    worked command s t events (subst (λ events. Leaves s events t) (sym none) (leaves_swept pages s t freed sweeps))
piece_after command s t events none (Scans scans few after) = same_after command s t events (quiet_none events none) (ap (λ (u : State). u.heap) after)
piece_after command s t events none (Fixed count reply fixes) =
    worked command s t events (subst (λ events. Leaves s events t) (sym none) (leaves_fix_answer s t count reply fixes))

-- what is present was allocated
present_old : (s : State) → Sound s → (n : ℕ) → is_present s n ≡ true → n ≤ length s.graph
present_old s h n p = let at = some_get (get s.heap.place n) p in (h.layout.placed.allocated n at.0 at.1).1

-- an object is made after that
made_after : (command : Command) (s ready t : State) (root : List ℕ) (fields : ℕ) (guard : Guard) (style : Style) (address : ℕ) (events : List Event) →
    Leaves s events ready → Born ready root fields guard style address t → PlacesAfter s command events t
made_after command s ready t root fields guard style address events after e = record {
  taken = after.taken;
  told = after.told;
  present = after.present;
  unreached = λ n m r. absurd (after.unreached n m r);
  order = after.order;
  once = after.once;
  there = λ n old. ap is_some (as_ready n old) ∙ after.there n;
  place = λ n old p. as_ready n old ∙ after.place n (ap is_some (sym (as_ready n old)) ∙ p);
  pinned = λ sound. after.pinned;
  limit = ap (λ (u : State). u.heap.limit) e ∙ after.limit;
}
  where
    as_ready : (n : ℕ) → n ≤ length s.graph → get t.heap.place n ≡ get ready.heap.place n
    as_ready n old =
        let other : n ≡ length ready.graph + 1 → ⊥ = λ is. let long = ap length after.graph in omega (arith, is, long, old) in
        ap (λ (u : State). get u.heap.place n) e
        ∙ get-insert_name ready.heap.place (length ready.graph + 1) address n
        ∙ cond-false (nat_eq n (length ready.graph + 1)) (Some address) (get ready.heap.place n) (ne_eqb n (length ready.graph + 1) other)

new_after : (command : Command) (s t : State) (root : List ℕ) (fields : ℕ) (guard : Guard) (style : Style) (events : List Event) (reply : Reply) →
    AnswersNew s root fields guard style events reply t → PlacesAfter s command events t
new_after command s t root fields guard style events (Made name address) e =
    made_after command s e.ready t root fields guard style address events (place_leaves s (pool_for fields) events e.ready address e.place) e.made
new_after command s t root fields guard style events Full e = worked command s t events (passed_leaves all_stages s (pool_for fields) events t e.passed)
new_after command s t root fields guard style events NoMemory e = ⊎_elim
    (λ lacks. same_after command s t events (quiet_none events lacks.silent) (same_heap s t lacks.unchanged))
    (λ lacks. worked command s t events (passed_leaves stages_before_page s (pool_for fields) events t lacks.passed))
    e.1
new_after command s t root fields guard style events (Refused why) e = same_after command s t events (quiet_none events e.2) (same_heap s t e.3)
new_after command s t root fields guard style events _ e = absurd e

collects_after : (command : Command) (s t : State) (kind : Kind) (events : List Event) (reply : Reply) → Collects s kind events reply t → PlacesAfter s command events t
collects_after command s t kind events (Scanned scans) e = worked command s t events (leaves_collection s t kind events scans e)
collects_after command s t kind events _ e = absurd e

-- what is left before a compaction may move objects: a collection was made, and its pages swept
pub leaves_before_moves : (s : State) (events : List Event) (scans : ℕ) (t : State) (b : BeginsCompaction s events scans t) → Leaves s events b.swept
leaves_before_moves s events scans t b =
    subst (λ told. Leaves s told b.swept) (append-nil events)
    (leaves_then s b.collected b.swept events [] (leaves_collection s b.collected FullKind events scans b.collects)
    (leaves_swept _ b.collected b.swept b.freed b.sweeps))

compact_after : (s t : State) (events : List Event) (reply : Reply) → AnswersCompact s events reply t → PlacesAfter s Compact events t
compact_after s t events (Scanned scans) e =
    let before = leaves_before_moves s events scans t e in
    record {
      taken = before.taken;
      told = before.told;
      present = before.present;
      unreached = λ n m r. absurd (before.unreached n m r);
      order = before.order;
      once = before.once;
      there = λ n old. ap (λ (u : State). is_present u n) e.begins ∙ before.there n;
      place = λ n old p. ap (λ (u : State). get u.heap.place n) e.begins ∙ before.place n (ap (λ (u : State). is_present u n) (sym e.begins) ∙ p);
      pinned = λ sound. before.pinned;
      limit = ap (λ (u : State). u.heap.limit) e.begins ∙ before.limit;
    }
compact_after s t events _ e = absurd e

-- a command without events takes nothing
replies_after : (s t : State) (command : Command) (events : List Event) (reply : Reply) → events ≡ [] → Replies s command reply t → PlacesAfter s command events t
replies_after s t command events reply none e = piece_after command s t events none (replied_piece s t command reply e)

-- finalizers run
runs_after : (command : Command) (s t : State) (count : ℕ) (events : List Event) (reply : Reply) → RunsFinals s count events reply t →
    PlacesAfter s command events t
runs_after command s t count events (RanCount ran) e =
    same_after command s t events (quiet_ran events (take count s.tables.queue) e.0) (ap (λ (u : State). u.heap) e.2)
runs_after command s t count events _ e = absurd e

-- events of finalizers tell no move
told_place-ran : (place : FinMap nat_cmp ℕ) (pairs : List (ℕ × List ℕ)) → told_place place (ran_events pairs) ≡ place
told_place-ran place [] = refl
told_place-ran place (pair ∷ pairs) = told_place-ran place pairs

moves_before_ran : (place : FinMap nat_cmp ℕ) (told : List Event) (pairs : List (ℕ × List ℕ)) → told_place place (told ++ ran_events pairs) ≡ told_place place told
moves_before_ran place told pairs = told_place-append place told (ran_events pairs) ∙ told_place-ran (told_place place told) pairs

exit_after : (s t : State) (events : List Event) (reply : Reply) → AnswersExit s events reply t → PlacesAfter s Exit events t
exit_after s t events (ExitRan ran) e =
    let x = exit_takes s t events ran e in
    let ran = ran_events x.swept.tables.queue in
    record {
      taken = x.taken;
      told = ap gone_among x.events_are
          ∙ gone_among-append x.told ran
          ∙ ap (λ names. gone_among x.told ++ names) (gone_among-ran x.swept.tables.queue)
          ∙ append-nil (gone_among x.told)
          ∙ x.takes.told;
      present = x.takes.present;
      unreached = λ n m r. (refl, x.stack);
      order = subst (λ events. AreToldInOrder s.heap.place [] (map Told events)) (sym x.events_are)
          (subst (AreToldInOrder s.heap.place []) (sym (map-append Told x.told ran))
          (AreToldInOrder-append s.heap.place [] x.told (map Told ran) x.takes.order (ran_in_order (told_place s.heap.place x.told) x.swept.tables.queue)));
      once = x.takes.once;
      there = λ n old. ap (λ (u : State). is_present u n) x.after ∙ x.takes.there n;
      place = λ n old p.
          ap (λ (u : State). get u.heap.place n) x.after
          ∙ x.takes.place n (ap (λ (u : State). is_present u n) (sym x.after) ∙ p)
          ∙ ap (λ place. get place n) (sym (moves_before_ran s.heap.place x.told x.swept.tables.queue) ∙ ap (told_place s.heap.place) (sym x.events_are));
      pinned = λ sound n pin.
          ap (λ names. is_member nat_eq names n)
          (ap moved_among x.events_are
          ∙ moved_among-append x.told ran
          ∙ ap (λ names. moved_among x.told ++ names) (moved_among-ran x.swept.tables.queue)
          ∙ append-nil (moved_among x.told))
          ∙ x.pinned sound n pin;
      limit = ap (λ (u : State). u.heap.limit) x.after ∙ x.takes.limit;
    }
exit_after s t events _ e = absurd e

-- no output tells an event
abbrev pub TellNone : List Output → Type 0
TellNone [] = Unit {0}
TellNone (Told event ∷ outputs) = ⊥
TellNone (_ ∷ outputs) = TellNone outputs

tell_none : (outputs : List Output) → TellNone outputs → gone_in outputs ≡ []
tell_none [] h = refl
tell_none (Told event ∷ outputs) h = absurd h
tell_none (Listed line ∷ outputs) h = tell_none outputs h
tell_none (Peeked address words ∷ outputs) h = tell_none outputs h
tell_none (Replied reply ∷ outputs) h = tell_none outputs h

moves_none : (outputs : List Output) → TellNone outputs → moved_in outputs ≡ []
moves_none [] h = refl
moves_none (Told event ∷ outputs) h = absurd h
moves_none (Listed line ∷ outputs) h = moves_none outputs h
moves_none (Peeked address words ∷ outputs) h = moves_none outputs h
moves_none (Replied reply ∷ outputs) h = moves_none outputs h

pub runs_none : (outputs : List Output) → TellNone outputs → ran_in outputs ≡ []
runs_none [] h = refl
runs_none (Told event ∷ outputs) h = absurd h
runs_none (Listed line ∷ outputs) h = runs_none outputs h
runs_none (Peeked address words ∷ outputs) h = runs_none outputs h
runs_none (Replied reply ∷ outputs) h = runs_none outputs h

none_in_order : (place : FinMap nat_cmp ℕ) (outputs : List Output) → TellNone outputs → AreToldInOrder place [] outputs
none_in_order place [] h = refl
none_in_order place (Told event ∷ outputs) h = absurd h
none_in_order place (Listed line ∷ outputs) h = none_in_order place outputs h
none_in_order place (Peeked address words ∷ outputs) h = none_in_order place outputs h
none_in_order place (Replied reply ∷ outputs) h = none_in_order place outputs h

dump_tells_none : (s : State) (names : List ℕ) (reply : Reply) → TellNone (dump_lines s names ++ Replied reply ∷ [])
dump_tells_none s [] reply = tt
dump_tells_none s (name ∷ names) reply = dump_tells_none s names reply

dumps_none : (s t : State) (answer : List Output) → Dumps s answer t → TellNone answer
dumps_none s t answer d = ⊎_elim
    (λ all. subst TellNone (sym all) (dump_tells_none s d.names (Dumped (length d.names))))
    (λ some. subst TellNone (sym some.answer_is) (dump_tells_none s some.before NoMemory))
    d.lines

peek_none : (s : State) (found : Result ℕ Refusal) → TellNone (peek_answer s found)
peek_none s (Ok name) = tt
peek_none s (Err why) = tt

one_reply : (reply : Reply) (answer : List Output) → answer ≡ Replied reply ∷ [] → TellNone answer
one_reply reply answer e = subst TellNone (sym e) tt

-- what a command does to places, and its answer, which tells no event
pub record EffectsAfter (s : State) (command : Command) (events : List Event) (answer : List Output) (t : State) : Type 0 where
  pub after : PlacesAfter s command events t
  pub none : TellNone answer

pub effects_after : (s t : State) (command : Command) (events : List Event) (answer : List Output) → Effects s command events answer t →
    EffectsAfter s command events answer t
effects_after s t (New root fields guard style) events answer e = record {
  after = new_after (New root fields guard style) s t root fields guard style events e.reply e.is;
  none = one_reply e.reply answer e.answer_is;
}
effects_after s t (Run count) events answer e =
    record { after = runs_after (Run count) s t count events e.reply e.is; none = one_reply e.reply answer e.answer_is }
effects_after s t Minor events answer e =
    record { after = collects_after Minor s t MinorKind events e.reply e.is; none = one_reply e.reply answer e.answer_is }
effects_after s t Gc events answer e =
    record { after = collects_after Gc s t FullKind events e.reply e.is; none = one_reply e.reply answer e.answer_is }
effects_after s t Major events answer e =
    record { after = worked Major s t events (major_leaves s t events e.reply e.is); none = one_reply e.reply answer e.answer_is }
effects_after s t Finish events answer e =
    record { after = worked Finish s t events (finish_leaves s t events e.reply e.is); none = one_reply e.reply answer e.answer_is }
effects_after s t Compact events answer e =
    record { after = compact_after s t events e.reply e.is; none = one_reply e.reply answer e.answer_is }
effects_after s t (Move count) events answer e = record {
  after = worked (Move count) s t events (leaves_move_answer s t count events e.reply e.is);
  none = one_reply e.reply answer e.answer_is;
}
effects_after s t Dump events answer e =
    record { after = same_after Dump s t events (quiet_none events e.0) (same_heap s t e.1.unchanged); none = dumps_none s t answer e.1 }
effects_after s t (Peek object) events answer e = record {
  after = same_after (Peek object) s t events (quiet_none events e.0) (same_heap s t e.1.1);
  none = subst TellNone (sym e.1.0) (peek_none s (object_of s object));
}
effects_after s t Exit events answer e = record { after = exit_after s t events e.reply e.is; none = one_reply e.reply answer e.answer_is }
effects_after s t command events answer e =
    record { after = replies_after s t command events e.1.reply e.0 e.1.is; none = one_reply e.1.reply answer e.1.answer_is }

-- who is gone stays gone
pub gone_stay : (s t : State) (command : Command) (outputs : List Output) → Lawful s command outputs t → (n : ℕ) → n ≤ length s.graph →
    is_present s n ≡ false → is_present t n ≡ false
gone_stay s t command outputs l n old gone =
    let its = effects_after s t command l.events l.answer l.effects in
    its.after.there n old ∙ none_left (is_member nat_eq its.after.taken n) (is_present s n) gone
  where
    none_left : (b present : Bool) → present ≡ false → (not b && present) ≡ false
    none_left true present none = refl
    none_left false present none = none

-- the names that the outputs tell to be gone are those of the events
pub gone_told : (s t : State) (command : Command) (outputs : List Output) (l : Lawful s command outputs t) → gone_in outputs ≡ gone_among l.events
gone_told s t command outputs l =
    let its = effects_after s t command l.events l.answer l.effects in
    ap gone_in l.outputs_are ∙ gone_outputs l.events l.answer (tell_none l.answer its.none)

-- the names that the outputs tell to be moved are those of the events
moved_told : (s t : State) (command : Command) (outputs : List Output) (l : Lawful s command outputs t) → moved_in outputs ≡ moved_among l.events
moved_told s t command outputs l =
    let its = effects_after s t command l.events l.answer l.effects in
    ap moved_in l.outputs_are ∙ moved_outputs l.events l.answer (moves_none l.answer its.none)

module _ (s t : State) (command : Command) (outputs : List Output) (l : Lawful s command outputs t) (h : Sound s) where
  its : EffectsAfter s command l.events l.answer t
  its = effects_after s t command l.events l.answer l.effects

  told : gone_in outputs ≡ its.after.taken
  told = gone_told s t command outputs l ∙ its.after.told

  -- whether a present name is after the command
  there_after : (n : ℕ) → is_present s n ≡ true → is_present t n ≡ not (is_member nat_eq its.after.taken n)
  there_after n p = its.after.there n (present_old s h n p) ∙ also (not (is_member nat_eq its.after.taken n)) (is_present s n) p
    where
      also : (b present : Bool) → present ≡ true → (b && present) ≡ b
      also true present p = p
      also false present p = refl

  there_stays : (n : ℕ) → is_present s n ≡ true → is_member nat_eq its.after.taken n ≡ false → is_present t n ≡ true
  there_stays n p out = there_after n p ∙ ap not out

  there_gone : (n : ℕ) → is_present s n ≡ true → is_member nat_eq its.after.taken n ≡ true → is_present t n ≡ false
  there_gone n p taken = there_after n p ∙ ap not taken

  -- a name that is pinned isn't moved
  pub pinned_stays : (n : ℕ) → IsPinned s n → is_member nat_eq (moved_in outputs) n ≡ false
  pinned_stays n pin = ap (λ names. is_member nat_eq names n) (moved_told s t command outputs l) ∙ its.after.pinned h n pin

  -- what is reached is present, unless by `exit`, which leaves no stack word
  reached_left : ((command ≡ Exit) × (t.stack ≡ []) → ⊥) → (n : ℕ) → Reach s n → is_present t n ≡ true
  reached_left other n r = there_stays n (reached_present s h n r) (false_from_ne_true _ (λ taken. other (its.after.unreached n taken r)))

  pub reached_there : command ≢ Exit → (n : ℕ) → Reach s n → is_present t n ≡ true
  reached_there other n r = reached_left (λ (exit, none). other exit) n r

  -- what is present after it, and isn't moved, stands where it stood
  pub present_stays : (n : ℕ) → is_present s n ≡ true → is_present t n ≡ true → is_member nat_eq (moved_in outputs) n ≡ false →
      get t.heap.place n ≡ get s.heap.place n
  present_stays n p q unmoved =
      its.after.place n (present_old s h n p) q
      ∙ told_place-unmoved s.heap.place l.events n (ap (λ names. is_member nat_eq names n) (sym (moved_told s t command outputs l)) ∙ unmoved)

  -- and so does what is reached and pinned
  pub reached_stays : ((command ≡ Exit) × (t.stack ≡ []) → ⊥) → (n : ℕ) → Reach s n → IsPinned s n → get t.heap.place n ≡ get s.heap.place n
  reached_stays other n r pin = present_stays n (reached_present s h n r) (reached_left other n r) (pinned_stays n pin)

  -- what goes is told
  pub lawful_told : (n : ℕ) → (is_member nat_eq (gone_in outputs) n ≡ true) ↔ ((is_present s n ≡ true) × (is_present t n ≡ false))
  lawful_told n = (
    (λ m.
        let taken : is_member nat_eq its.after.taken n ≡ true = ap (λ names. is_member nat_eq names n) (sym told) ∙ m in
        let p = its.after.present n taken in
        (p, there_gone n p taken)),
    (λ (p, gone). ap (λ names. is_member nat_eq names n) told ∙ true_from_ne_false _ (λ stays. false≢true (sym gone ∙ there_stays n p stays))),
  )

  pub lawful_order : AreToldInOrder s.heap.place [] outputs
  lawful_order = subst (AreToldInOrder s.heap.place []) (sym l.outputs_are)
      (AreToldInOrder-append s.heap.place [] l.events l.answer its.after.order (none_in_order (told_place s.heap.place l.events) l.answer its.none))

  pub lawful_once : IsDistinct nat_eq (gone_in outputs)
  lawful_once = subst (IsDistinct nat_eq) (sym told) its.after.once

-- the limit stays, from any state
pub limit_stays : (s t : State) (command : Command) (outputs : List Output) → Lawful s command outputs t → t.heap.limit ≡ s.heap.limit
limit_stays s t command outputs l = (effects_after s t command l.events l.answer l.effects).after.limit
