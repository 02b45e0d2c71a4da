-- An object that was made for a root, or not, from what was done to the space and what was written.
use Rattle.std.proofs.Common.{◌≡◌, ℕ, ◌+◌, ◌<◌, ◌≤◌, ◌^◌, Bool, true, false, if◌then◌else◌, List, [], ◌++◌, length, map, refl, sym, ap, ◌∙◌, subst, arith, Option, Result, Ok, Err, OnErr, ⊎_elim, inl, inr}
use Rattle.std.specs.Prelude.{IfOk}
use Rattle.std.specs.Io.KnownBytes.{Appends}
use Rattle.std.proofs.KnownBytes.{Appends-nil, Appends-trans}
use Rattle.std.proofs.lemmas.List.{map-append}
use Rattle.space_io.specs.Sinks.{AppendsPrefix}
use Rattle.space_model.specs.declared.command.Command.TheVariants.{New}
use Rattle.space_model.specs.declared.event.Event.{Event}
use Rattle.space_model.specs.declared.event.Kind.{Kind}
use Rattle.space_model.specs.declared.event.Kind.TheVariants.{Major, Full}
use Rattle.space_model.specs.declared.object.Guard.{Guard}
use Rattle.space_model.specs.declared.object.Style.{Style}
use Rattle.space_model.specs.declared.phase.Phase.{Phase}
use Rattle.space_model.specs.declared.phase.Phase.TheVariants.{Marking}
use Rattle.space_model.specs.declared.reply.Reply.{Reply}
use Rattle.space_model.specs.Layout.{most_fields, pool_for}
use Rattle.space_model.specs.Outputs.{Told}
use Rattle.space_model.specs.Spelling.{IsSpelled}
use Rattle.space_model.specs.Texts.{text_of, reply_pieces}
use Rattle.space_heap.specs.Allocations.{LacksRoom, NeedsNewPage}
use Rattle.space_heap.specs.HeapView.{HeapView}
use Rattle.space_roots.specs.WordRoots.{root_words}
use Rattle.space_collector.specs.GoneNames.{gone_names}
use Rattle.space_collector.proofs.ToldLines.{text_of-append, prefix_after, prefix_longer}
use Rattle.space_engine.specs.Allocations.{IsReserved, IsSwept, IsCompletedInNeed, IsTickedInNeed, IsGivenUp, IsLastReply, IsRetried, IsFirstReply, IsCreation, IsCreated, IsTickedCreation}
use Rattle.space_engine.specs.Answered.{IsAnswered, IsCutOff}
use Rattle.space_engine.specs.Counting.{no_counts, counts_of}
use Rattle.space_engine.specs.declared.counts.Counts.{Counts}
use Rattle.space_engine.specs.HeapCollections.{IsHeapCompletion, IsCollected, IsTickedCollection, AreTold, AreCut}
use Rattle.space_engine.specs.Turns.{IsAtRest, IsWork, IsQuietWork}
use Rattle.space_engine.specs.Views.{View, with_root_dropped}
use Rattle.space_engine.proofs.NewCommand.{lawful, ticked_so}
use Rattle.space_engine.proofs.NewTurns.{first_spelled, last_spelled}
use Rattle.space_engine.proofs.OutputLists.{counted_names, counted_both}
use Rattle.space_engine.proofs.ReservedRoots.{heap_reserved}

-- whether its lines were written or not, there are events of which it holds
pub either_way : {T E : Type 0} (result : Result T E) (P : T → List Event → Type 0) (Q : List Event → Type 0) (gone moves : T → ℕ)
    (before after : Option (List ℕ)) → ((value : T) (events : List Event) → P value events → Q events) →
    IfOk result (λ value. AreTold (P value) (gone value) (moves value) before after) → OnErr result (AreCut Q before after) →
    (events : List Event) × Q events
either_way (Ok value) P Q gone moves before after so told cut = (told.events, so value told.events told.are)
either_way (Err fault) P Q gone moves before after so told cut = (cut.events, cut.are)

-- outside a compaction a collection tells of no move
module _ (v new : View) (kind : Kind) (ended scans : ℕ) (events : List Event) (rests : IsAtRest v.heap) (c : IsCollected v new kind ended scans events) where
  its_completion : IsHeapCompletion v.heap v.finals c.idle.heap c.idle.finals (root_words v.roots) v.stack ended c.completion
  its_completion = (c.completes.rests rests).heap

  -- so many objects are gone by the completion
  gone_by : (phase : Phase) → v.heap.phase ≡ phase → (gone : ℕ) × (counts_of (map Told c.completion) ≡ record no_counts { gone = gone })
  gone_by Marking at =
      let tells = (its_completion.marking at).tells in
      let names : List ℕ = gone_names (its_completion.marking at).judged in
      (length names, ap (λ events. counts_of (map Told events)) tells.events_are ∙ counted_names Major names (length names))
  gone_by _ at = (0, ap (λ events. counts_of (map Told events)) (its_completion.others (λ e. cc)).no_events)

  no_moves : (gone moves : ℕ) → counts_of (map Told events) ≡ record no_counts { gone = gone; moves = moves } → moves ≡ 0
  no_moves gone moves counted =
      let (some, first) = gone_by v.heap.phase refl in
      let names : List ℕ = gone_names new.heap in
      let second = ap (λ events. counts_of (map Told events)) c.tells.events_are ∙ counted_names kind names (length names) in
      let both = ap (λ events. counts_of (map Told events)) c.events_are ∙ counted_both c.completion c.told some 0 (length names) first second in
      ap (λ (c : Counts). c.moves) (sym counted ∙ both)

-- a collection and one more allocation
module _ (v collected w : View) (root : List ℕ) (is_new : Bool) (fields : ℕ) (guard : Guard) (style : Style) (reply : Reply) (rests : IsAtRest v.heap)
    (last : IsLastReply collected w root is_new fields guard style reply) (before after : Option (List ℕ)) where
  pub retried_told : (scans gone moves ticks ticked : ℕ) → AreTold (IsTickedCollection v collected Full scans ticks ticked) gone moves before after →
      AreTold (λ events. (ended scans : ℕ) × IsRetried v w root is_new fields guard style reply ended scans events × (ticked ≡ ticks + ended + scans))
      gone 0 before after
  retried_told scans gone moves ticks ticked told =
      let its = told.are in
      let none = no_moves v collected Full its.ended scans told.events rests its.collects gone moves told.counted in
      record {
        events = told.events;
        are = (its.ended, scans, record { collected = collected; collects = its.collects; last = last }, its.rose);
        counted = told.counted ∙ ap (λ n. record no_counts { gone = gone; moves = n }) none;
        written = told.written;
      }

  pub retried_cut : AreCut (λ events. (ended scans : ℕ) × IsCollected v collected Full ended scans events) before after →
      AreCut (λ events. (reply : Reply) × (ended scans : ℕ) × IsRetried v w root is_new fields guard style reply ended scans events) before after
  retried_cut cut =
      let (ended, scans, its) = cut.are in
      record {
        events = cut.events;
        are = (reply, ended, scans, record { collected = collected; collects = its; last = last });
        prefix = cut.prefix;
      }

-- there was no memory for a page, and a root that is new was taken away again
pub given_up : (v u w : View) (root : List ℕ) (is_new : Bool) (pool : ℕ) → IsSwept v u pool → w ≡ (if is_new then with_root_dropped u root else u) →
    NeedsNewPage u.heap pool → NeedsNewPage w.heap pool × IsGivenUp v w root is_new pool
given_up v u w root is_new pool swept dropped needs =
    subst (λ (w : View). NeedsNewPage w.heap pool × IsGivenUp v w root is_new pool) (sym dropped) (by_new is_new)
  where
    by_new : (is_new : Bool) → NeedsNewPage (if is_new then with_root_dropped u root else u).heap pool
        × IsGivenUp v (if is_new then with_root_dropped u root else u) root is_new pool
    by_new true = (
      needs,
      record {
        was_sound = swept.was_sound;
        sweeps = swept.sweeps;
        sound = swept.sound;
        becomes = ap (λ (u : View). with_root_dropped u root) swept.becomes;
      },
    )
    by_new false = (needs, record { was_sound = swept.was_sound; sweeps = swept.sweeps; sound = swept.sound; becomes = swept.becomes })

-- the replies of the first allocation, and of one after a collection
module _ (v w : View) (root : List ℕ) (is_new : Bool) (fields : ℕ) (guard : Guard) (style : Style) where
  pub first_told : (reply : Reply) (before : Option (List ℕ)) (ticks : ℕ) → IsFirstReply v w root is_new fields guard style reply →
      AreTold (IsTickedCreation v w root is_new fields guard style reply ticks ticks) 0 0 before before
  first_told reply before ticks first = record {
    events = [];
    are = record { scans = 0; creates = inl (first, refl, refl); rose = omega arith };
    counted = refl;
    written = Appends-nil before;
  }

  module _ (limited : View) (swept : IsSwept v limited (pool_for fields)) (lacks : LacksRoom limited.heap (pool_for fields))
      (before after : Option (List ℕ)) where
    pub late_told : (reply : Reply) (gone ticks ticked : ℕ) →
        AreTold (λ events. (ended scans : ℕ) × IsRetried limited w root is_new fields guard style reply ended scans events
        × (ticked ≡ ticks + ended + scans)) gone 0 before after →
        AreTold (IsTickedCreation v w root is_new fields guard style reply ticks ticked) gone 0 before after
    late_told reply gone ticks ticked told =
        let (ended, scans, its, rose) = told.are in
        record {
          events = told.events;
          are = record {
            scans = ended + scans;
            creates = inr (ended, scans, record { limited = limited; swept = swept; lacks = lacks; retried = its }, refl);
            rose = omega (arith, rose);
          };
          counted = told.counted;
          written = told.written;
        }

    pub late_cut : AreCut (λ events. (reply : Reply) × (ended scans : ℕ) × IsRetried limited w root is_new fields guard style reply ended scans events)
        before after →
        AreCut (IsCreated v w root is_new fields guard style) before after
    late_cut cut =
        let (reply, ended, scans, its) = cut.are in
        record {
          events = cut.events;
          are = record {
            reply = reply;
            scans = ended + scans;
            creates = inr (ended, scans, record { limited = limited; swept = swept; lacks = lacks; retried = its }, refl);
          };
          prefix = cut.prefix;
        }

  -- without the ledger's count
  pub ticked_created : (reply : Reply) (ticks ticked : ℕ) (events : List Event) →
      IsTickedCreation v w root is_new fields guard style reply ticks ticked events → IsCreated v w root is_new fields guard style events
  ticked_created reply ticks ticked events t = record { reply = reply; scans = t.scans; creates = t.creates }

  -- the reply can be written
  creation_spelled : (reply : Reply) (scans : ℕ) (events : List Event) → IsCreation v w root is_new fields guard style reply scans events →
      w.heap.counters.born ≤ 2 ^ 62 → IsSpelled (reply_pieces reply)
  creation_spelled reply scans events creates few = ⊎_elim
      (λ (first, none, no_scans). first_spelled v w root is_new fields guard style reply first few)
      (λ (ended, whole, late, sum). last_spelled late.retried.collected w root is_new fields guard style reply late.retried.last few)
      creates

-- the text of both
both_texts : (xs ys : List Event) → text_of (map Told (xs ++ ys)) ≡ text_of (map Told xs) ++ text_of (map Told ys)
both_texts xs ys = ap text_of (map-append Told xs ys) ∙ text_of-append (map Told xs) (map Told ys)

-- `v` is the space before a place was made for the root, `place` the one after it, and `r` the one after a compaction was completed in need
module _ (v place r w : View) (root : List ℕ) (is_new : Bool) (fields : ℕ) (guard : Guard) (style : Style) (reserved : IsReserved v place root is_new)
    (few : fields ≤ most_fields) (born : place.heap.counters.born < 2 ^ 62) (first_work : IsQuietWork 0 1 place.heap r.heap)
    (later_work : IsWork 3 1 r.heap w.heap) where
  abbrev pool : ℕ
  pool = pool_for fields

  born_before : v.heap.counters.born < 2 ^ 62
  born_before = subst (λ (heap : HeapView). heap.counters.born < 2 ^ 62) (heap_reserved v place root is_new reserved) born

  born_between : r.heap.counters.born < 2 ^ 62
  born_between = let first = first_work.born in omega (arith, first, born)

  born_after : w.heap.counters.born ≤ 2 ^ 62
  born_after = let first = first_work.born in let later = later_work.born in omega (arith, first, later, born)

  pub creation_answered : (reply : Reply) (moves gone ticks middle ticked : ℕ) (before between after : Option (List ℕ)) →
      AreTold (IsTickedInNeed place r pool ticks middle) 0 moves before between →
      AreTold (IsTickedCreation r w root is_new fields guard style reply middle ticked) gone 0 between after →
      IsAnswered v w (New root fields guard style) reply gone moves before after ticks ticked
  creation_answered reply moves gone ticks middle ticked before between after first second = record {
    events = first.events ++ second.events;
    lawful = lawful root fields guard style v place r w is_new reserved first.events first.are.completed few reply second.are.scans second.events
        second.are.creates born_before born_between;
    counted = counted_both first.events second.events 0 moves gone first.counted second.counted
        ∙ ap (λ n. record no_counts { gone = n; moves = moves }) (omega arith);
    written = subst (Appends before after) (sym (both_texts first.events second.events))
        (Appends-trans before between after (text_of (map Told first.events)) (text_of (map Told second.events)) first.written second.written);
    ticks_are = ticked_so root fields guard style v place r w is_new reserved first.events first.are.completed few reply second.are.scans second.events
        second.are.creates ticks middle ticked first.are.still second.are.rose;
  }

  -- a prefix of the lines was written
  cut_by : (told events : List Event) → IsCompletedInNeed place r pool told → IsCreated r w root is_new fields guard style events →
      (before after : Option (List ℕ)) → AppendsPrefix before after (text_of (map Told told) ++ text_of (map Told events)) →
      IsCutOff v w (New root fields guard style) before after
  cut_by told events c created before after prefix = record {
    events = told ++ events;
    reply = created.reply;
    lawful = lawful root fields guard style v place r w is_new reserved told c few created.reply created.scans events created.creates born_before born_between;
    reply_spelled = creation_spelled r w root is_new fields guard style created.reply created.scans events created.creates born_after;
    prefix = subst (AppendsPrefix before after) (sym (both_texts told events)) prefix;
  }

  -- those of the completion were cut off, and no others were written
  pub completion_cut_off : (before after : Option (List ℕ)) → AreCut (IsCompletedInNeed place r pool) before after →
      (events : List Event) × IsCreated r w root is_new fields guard style events → IsCutOff v w (New root fields guard style) before after
  completion_cut_off before after cut (events, created) =
      cut_by cut.events events cut.are created before after
      (prefix_longer before after (text_of (map Told cut.events)) (text_of (map Told events)) cut.prefix)

  -- those after it were cut off
  pub creation_cut_off : (moves ticks middle : ℕ) (before between after : Option (List ℕ)) →
      AreTold (IsTickedInNeed place r pool ticks middle) 0 moves before between →
      AreCut (IsCreated r w root is_new fields guard style) between after → IsCutOff v w (New root fields guard style) before after
  creation_cut_off moves ticks middle before between after first cut =
      cut_by first.events cut.events first.are.completed cut.are before after
      (prefix_after before between after (text_of (map Told first.events)) (text_of (map Told cut.events)) first.written cut.prefix)
