use Rattle.std.proofs.Common.{◌≡◌, sym, ◌∙◌, subst, true}
use Rattle.std.specs.Vec.{with_item}
use Rattle.std.proofs.lemmas.List.{get_or_read}
use Rattle.space_pools.specs.PageSlots.{spare_page, written_in}
use Rattle.space_pools.specs.PoolsView.{page_at, used_at}
use Rattle.space_pools.specs.InsidePools.{view_from, ArePools}
use Rattle.space_pools.proofs.Places.{used_within, page_within}
use Rattle.space_pools.proofs.Kept.{sound_written_at, full_written_at, waiting_written_at, spares_written_at}
use Rattle.space_pools.proofs.pools.Pools.slot_mut.Goals as goal

pub invariant_of-self-lent : goal.invariant_of-self-lent
invariant_of-self-lent c =
    let v = view_from c.self.inside in
    let used : used_at v c.args.page c.args.s ≡ true = subst (λ v. used_at v c.args.page c.args.s ≡ true) (sym c.self.view_is) c.requires in
    let within = used_within (page_at v c.args.page) c.args.s used in
    let here = page_within v c.args.page c.args.s within in
    let read : c.index_mut-page.result.now ≡ page_at v c.args.page =
    get_or_read v.pages c.args.page c.index_mut-page.result.now here c.index_mut-page.ensures.value spare_page in
    let known = c.self.invariant in
    λ w. subst (λ p. ArePools (record {
      alloc = c.self.inside.alloc;
      limit = c.self.inside.limit;
      pages = with_item c.self.inside.pages c.args.page (written_in p c.args.s w);
      cursors = c.self.inside.cursors;
      spare = c.self.inside.spare;
      first_unswept = c.self.inside.first_unswept;
      unswept = c.self.inside.unswept;
    })) (sym read) (record {
      sound = sound_written_at v c.args.page c.args.s w here known.sound;
      room = known.room;
      spares = known.spares ∙ sym (spares_written_at v c.args.page c.args.s w here);
      waiting = waiting_written_at v c.args.page c.args.s w here c.self.inside.first_unswept c.self.inside.unswept known.waiting;
      full = full_written_at v c.args.page c.args.s w here c.self.inside.cursors known.full;
    })
