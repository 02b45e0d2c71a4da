use Rattle.std.proofs.Common.{◌∙◌, ap, sym, inl}
use Rattle.space_engine.specs.Views.{SpaceView}
use Rattle.space_run.proofs.Inputs.{completes, stops}
use Rattle.space_run.proofs.Statuses.{at_limit, is_complete, is_malformed, is_read_fault, is_write_fault, is_input_limit, ends_once, no_fault}
use Rattle.space_run.proofs.WordsLemmas.{texts_of, one_limit}
use Rattle.space_run.proofs.replay.run.Goals as goal

pub returns-in_default-clause-complete : goal.returns-in_default-clause-complete
returns-in_default-clause-complete g c = λ limit words input calm. absurd (c.in_default.ensures limit words)

pub returns-in_default-clause-stops : goal.returns-in_default-clause-stops
returns-in_default-clause-stops g c = λ limit lines words input calm. absurd (c.in_default.ensures limit words)

pub returns-clause-refused : goal.returns-clause-refused
returns-clause-refused g c = λ none. absurd (none c.in-Some.limit c.in-Some.ensures)

pub returns-clause-done : goal.returns-clause-done
returns-clause-done g c = λ limit words status.
    let end = is_complete c.replay.result (sym c.status.ensures ∙ status) in
    let done = rw end at (at_limit _ limit _ _ _ _ _ _ c.replay.result
    (ap (λ (v : SpaceView). v.parts.heap.limit) c.in-Ok-new.ensures.view
    ∙ one_limit (texts_of c.args.words.now.items) c.in-Some.limit limit c.in-Some.ensures words) c.replay.ensures.ends) in
    done.0

pub returns-clause-malformed : goal.returns-clause-malformed
returns-clause-malformed g c = λ limit words status.
    let end = is_malformed c.replay.result (sym c.status.ensures ∙ status) in
    rw end at (at_limit _ limit _ _ _ _ _ _ c.replay.result
    (ap (λ (v : SpaceView). v.parts.heap.limit) c.in-Ok-new.ensures.view
    ∙ one_limit (texts_of c.args.words.now.items) c.in-Some.limit limit c.in-Some.ensures words) c.replay.ensures.ends)

pub returns-clause-answered : goal.returns-clause-answered
returns-clause-answered g c = λ limit words status.
    let end = is_read_fault c.replay.result (sym c.status.ensures ∙ status) in
    let failed = rw end at
    (at_limit _ limit _ _ _ _ _ _ c.replay.result
    (ap (λ (v : SpaceView). v.parts.heap.limit) c.in-Ok-new.ensures.view
    ∙ one_limit (texts_of c.args.words.now.items) c.in-Some.limit limit c.in-Some.ensures words) c.replay.ensures.ends) in
    failed.0

pub returns-clause-prefix : goal.returns-clause-prefix
returns-clause-prefix g c = λ limit words status.
    let end = is_write_fault c.replay.result (sym c.status.ensures ∙ status) in
    rw end at (at_limit _ limit _ _ _ _ _ _ c.replay.result
    (ap (λ (v : SpaceView). v.parts.heap.limit) c.in-Ok-new.ensures.view
    ∙ one_limit (texts_of c.args.words.now.items) c.in-Some.limit limit c.in-Some.ensures words) c.replay.ensures.ends)

pub returns-clause-limit : goal.returns-clause-limit
returns-clause-limit g c = λ limit words status.
    let end = is_input_limit c.replay.result (sym c.status.ensures ∙ status) in
    let reached = rw end at
    (at_limit _ limit _ _ _ _ _ _ c.replay.result
    (ap (λ (v : SpaceView). v.parts.heap.limit) c.in-Ok-new.ensures.view
    ∙ one_limit (texts_of c.args.words.now.items) c.in-Some.limit limit c.in-Some.ensures words) c.replay.ensures.ends) in
    reached.0

pub returns-clause-ended_once : goal.returns-clause-ended_once
returns-clause-ended_once g c = ends_once _ _ _ _ _ _ _ c.replay.result c.replay.ensures.ends

pub returns-clause-complete : goal.returns-clause-complete
returns-clause-complete g c = λ limit words input calm.
    inl (c.status.ensures
    ∙ completes _ _ _ _ _ _ _ c.replay.result input (no_fault _ _ _ _ c.replay.result c.replay.ensures.failed calm).0
    (no_fault _ _ _ _ c.replay.result c.replay.ensures.failed calm).1 c.replay.ensures.ends)

pub returns-clause-stops : goal.returns-clause-stops
returns-clause-stops g c = λ limit lines words input calm.
    let ends = at_limit _ limit _ _ _ _ _ _ c.replay.result
    (ap (λ (v : SpaceView). v.parts.heap.limit) c.in-Ok-new.ensures.view
    ∙ one_limit (texts_of c.args.words.now.items) c.in-Some.limit limit c.in-Some.ensures words) c.replay.ensures.ends in
    let none = no_fault _ _ _ _ c.replay.result c.replay.ensures.failed calm in
    let there = stops limit _ _ _ _ _ _ c.replay.result lines input none.0 none.1 ends in
    inl (c.status.ensures ∙ there.0, there.1)
