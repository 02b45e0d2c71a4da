use Rattle.std.proofs.Common.{◌||◌, take, get_or, sym, ap, ◌∙◌, subst}
use Rattle.space_heap.specs.Readings.{Reading}
use Rattle.space_heap.specs.Generations.{is_young_word, visited_by_aged}
use Rattle.space_tracing.specs.Scans.{fields_of, is_any_young, visited_all_by_aged}
use Rattle.space_tracing.proofs.Same.{young_word-same}
use Rattle.space_tracing.proofs.AgedVisits.{aged_all, visited_all_by_aged-more, visited_all_by_aged-none, young-more, young-none}
use Rattle.space_tracing.proofs.FieldVisits.{AreVisited, same, still_occupied, count_stays, next_within, next_word, one_more, none_yet}
use Rattle.space_tracing.proofs.tracing.visit_fields_of_aged.Goals as goal

pub fields-init : goal.fields-init
fields-init g c = record {
  visits = subst (AreVisited visited_by_aged visited_all_by_aged c.args.heap.now c.args.heap.now c.args.address) (sym c.read_fields-fields.ensures.begins)
      (none_yet visited_by_aged visited_all_by_aged c.args.heap.now c.args.address (visited_all_by_aged-none c.args.heap.now));
  young = sym (ap (λ (r : Reading). is_any_young c.args.heap.now (take r.done (fields_of c.args.heap.now c.args.address))) c.read_fields-fields.ensures.begins
      ∙ young-none c.args.heap.now);
}

pub next_field-requires-clause-object : goal.next_field-requires-clause-object
next_field-requires-clause-object g c =
    still_occupied visited_by_aged visited_all_by_aged (λ v words. (aged_all v words).same) c.args.heap.now c.fields.heap c.args.address c.fields.fields
    c.fields.invariant.visits c.requires.object

pub next_field-requires-clause-fields : goal.next_field-requires-clause-fields
next_field-requires-clause-fields g c =
    count_stays visited_by_aged visited_all_by_aged (λ v words. (aged_all v words).same) c.args.heap.now c.fields.heap c.args.address c.fields.fields
    c.fields.invariant.visits

pub fields-preserved : goal.fields-preserved
fields-preserved g c =
    let v = c.args.heap.now in
    let a = c.args.address in
    let graph = same visited_by_aged visited_all_by_aged (λ v words. (aged_all v words).same) v c.fields.heap a c.fields.fields c.fields.invariant.visits in
    let word = next_word visited_by_aged visited_all_by_aged (λ v words. (aged_all v words).same) v c.fields.heap a c.fields.fields
    c.fields.invariant.visits c.next_field.new.reader c.in-Some.word c.in-Some.ensures in
    let within = next_within visited_by_aged visited_all_by_aged (λ v words. (aged_all v words).same) v c.fields.heap a c.fields.fields
    c.fields.invariant.visits c.next_field.new.reader c.in-Some.word c.in-Some.ensures in
    record {
      visits = subst (λ u. AreVisited visited_by_aged visited_all_by_aged v u a c.next_field.new.reader)
          (sym c.visit_from_aged-young.ensures.visited)
          (one_more visited_by_aged visited_all_by_aged (λ v words. (aged_all v words).same) v c.fields.heap a c.fields.fields c.fields.invariant.visits
          (visited_all_by_aged-more v) c.next_field.new.reader c.in-Some.word c.in-Some.ensures);
      young =
          ap (λ b. b || c.fields.young) (c.visit_from_aged-young.ensures.young ∙ young_word-same v c.fields.heap c.in-Some.word graph ∙ ap (is_young_word v) word)
          ∙ ap (λ b. is_young_word v (get_or (fields_of v a) c.fields.fields.done 0) || b) c.fields.invariant.young
          ∙ sym (young-more v (fields_of v a) c.fields.fields.done within)
          ∙ ap (λ (r : Reading). is_any_young v (take r.done (fields_of v a))) (sym c.in-Some.ensures.after_it);
    }

pub remember-requires : goal.remember-requires
remember-requires g c =
    (same visited_by_aged visited_all_by_aged (λ v words. (aged_all v words).same) c.args.heap.now c.fields.heap c.args.address c.fields.fields
    c.fields.invariant.visits).standing c.args.address ∙ c.requires.object
