-- The line of `stat`, count by count.
use Rattle.std.proofs.Common.{◌≡◌, ℕ, List, [], ◌∷◌, ◌++◌, codes, sym, ap, ◌∙◌}
use Rattle.space_model.specs.declared.reply.Reply.TheVariants.{StatLine}
use Rattle.space_model.specs.declared.stat.Stat.{Stat}
use Rattle.space_model.specs.Spelling.{Piece, Say, text_of_pieces, IsSpelled}
use Rattle.space_model.specs.Texts.{count_pieces, stat_pieces, reply_pieces}
use Rattle.space_trace.proofs.PieceLemmas.{text_of_pieces_append, spelled_append}

-- the line is the text of the pieces, which are spelled
pub record IsLine (line : List ℕ) (pieces : List Piece) : Type 0 where
  pub is : line ≡ text_of_pieces pieces
  pub spelled : IsSpelled pieces

-- a count was put at the end of the line
pub record IsCountPut (line : List ℕ) (name : List ℕ) (number : ℕ) (next : List ℕ) : Type 0 where
  pub items : next ≡ line ++ text_of_pieces (count_pieces name number)
  pub spelled : IsSpelled (count_pieces name number)

count_put : {line name : List ℕ} {number : ℕ} {next : List ℕ} (pieces : List Piece) → IsLine line pieces → IsCountPut line name number next →
    IsLine next (pieces ++ count_pieces name number)
count_put {line} {name} {number} {next} pieces h put = record {
  is = put.items ∙ ap (λ text. text ++ text_of_pieces (count_pieces name number)) h.is
      ∙ sym (text_of_pieces_append pieces (count_pieces name number));
  spelled = spelled_append pieces (count_pieces name number) h.spelled put.spelled;
}

-- the line after all counts were put behind its first word
pub stat_put : {l0 l1 l2 l3 l4 l5 l6 l7 l8 l9 l10 l11 l12 : List ℕ} (stat : Stat) → l0 ≡ codes "stat" →
    IsCountPut l0 (codes "count") stat.count l1 →
    IsCountPut l1 (codes "minor_gc_count") stat.minor_gc_count l2 →
    IsCountPut l2 (codes "major_gc_count") stat.major_gc_count l3 →
    IsCountPut l3 (codes "heap_allocated_pages") stat.heap_allocated_pages l4 →
    IsCountPut l4 (codes "heap_live_slots") stat.heap_live_slots l5 →
    IsCountPut l5 (codes "heap_free_slots") stat.heap_free_slots l6 →
    IsCountPut l6 (codes "total_allocated_objects") stat.total_allocated_objects l7 →
    IsCountPut l7 (codes "total_freed_objects") stat.total_freed_objects l8 →
    IsCountPut l8 (codes "old_objects") stat.old_objects l9 →
    IsCountPut l9 (codes "remembered_wb_unprotected_objects") stat.remembered_wb_unprotected_objects l10 →
    IsCountPut l10 (codes "compact_count") stat.compact_count l11 →
    IsCountPut l11 (codes "total_moved_objects") stat.total_moved_objects l12 →
    IsLine l12 (reply_pieces (StatLine stat))
unfolding stat_pieces
stat_put stat first p1 p2 p3 p4 p5 p6 p7 p8 p9 p10 p11 p12 =
    let d0 = Say (codes "stat") ∷ [] in
    let d1 = d0 ++ count_pieces (codes "count") stat.count in
    let d2 = d1 ++ count_pieces (codes "minor_gc_count") stat.minor_gc_count in
    let d3 = d2 ++ count_pieces (codes "major_gc_count") stat.major_gc_count in
    let d4 = d3 ++ count_pieces (codes "heap_allocated_pages") stat.heap_allocated_pages in
    let d5 = d4 ++ count_pieces (codes "heap_live_slots") stat.heap_live_slots in
    let d6 = d5 ++ count_pieces (codes "heap_free_slots") stat.heap_free_slots in
    let d7 = d6 ++ count_pieces (codes "total_allocated_objects") stat.total_allocated_objects in
    let d8 = d7 ++ count_pieces (codes "total_freed_objects") stat.total_freed_objects in
    let d9 = d8 ++ count_pieces (codes "old_objects") stat.old_objects in
    let d10 = d9 ++ count_pieces (codes "remembered_wb_unprotected_objects") stat.remembered_wb_unprotected_objects in
    let d11 = d10 ++ count_pieces (codes "compact_count") stat.compact_count in
    let h0 : IsLine _ d0 = record { is = first; spelled = tt } in
    let h1 : IsLine _ d1 = count_put d0 h0 p1 in
    let h2 : IsLine _ d2 = count_put d1 h1 p2 in
    let h3 : IsLine _ d3 = count_put d2 h2 p3 in
    let h4 : IsLine _ d4 = count_put d3 h3 p4 in
    let h5 : IsLine _ d5 = count_put d4 h4 p5 in
    let h6 : IsLine _ d6 = count_put d5 h5 p6 in
    let h7 : IsLine _ d7 = count_put d6 h6 p7 in
    let h8 : IsLine _ d8 = count_put d7 h7 p8 in
    let h9 : IsLine _ d9 = count_put d8 h8 p9 in
    let h10 : IsLine _ d10 = count_put d9 h9 p10 in
    let h11 : IsLine _ d11 = count_put d10 h10 p11 in
    count_put d11 h11 p12
