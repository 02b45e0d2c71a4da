-- The events of a line, and its text.
use Rattle.std.proofs.Common.{◌≡◌, List, [], ◌∷◌, ◌++◌, Some, sym, ap, ◌∙◌, subst, append-nil}
use mathlib.Core.List.{append_assoc}
use Rattle.serde.specs.Event.{Event, Log}
use Rattle.space_model.specs.DumpLines.{DumpLine}
use Rattle.space_dump.specs.LineEvents.{SendsAll, first_events, flag_events, name_events, reference_events, last_events, line_events}

-- what is sent after what was sent
pub sends_append : (es fs : List Event) (old mid new : Log) → SendsAll es old mid → SendsAll fs mid new → SendsAll (es ++ fs) old new
sends_append [] fs old mid new first more = subst (λ l. SendsAll fs l new) first more
sends_append (e ∷ es) fs old mid new first more = (first.0, first.1, sends_append es fs first.0 mid new first.2 more)

-- where the events before are known, so are those after
pub known : (es before : List Event) (new : Log) → SendsAll es (Some before) new → new ≡ Some (before ++ es)
known [] before new sent = sent ∙ ap Some (sym (append-nil before))
known (e ∷ es) before new sent =
    known es (before ++ e ∷ []) new (subst (λ l. SendsAll es l new) sent.1 sent.2) ∙ ap Some (append_assoc before (e ∷ []) es)

-- the parts of a line, one after another
pub sends_line : (line : DumpLine) (start flags name references last end : Log) →
    SendsAll (first_events line) start flags → SendsAll (flag_events line) flags name → SendsAll (name_events line) name references →
    SendsAll (reference_events line.references) references last → SendsAll (last_events line) last end → SendsAll (line_events line) start end
sends_line line start flags name references last end a b c d e =
    let after_name = reference_events line.references ++ last_events line in
    sends_append (first_events line) (flag_events line ++ (name_events line ++ after_name)) start flags end a
    (sends_append (flag_events line) (name_events line ++ after_name) flags name end b
    (sends_append (name_events line) after_name name references end c
    (sends_append (reference_events line.references) (last_events line) references last end d e)))
