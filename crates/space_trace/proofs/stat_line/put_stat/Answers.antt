use Rattle.std.proofs.Common.{◌∙◌, ◌++◌, codes, ap}
use Rattle.space_model.specs.declared.reply.Reply.TheVariants.{StatLine}
use Rattle.space_model.specs.Texts.{reply_pieces}
use Rattle.space_trace.proofs.StatLemmas.{IsLine, stat_put}
use Rattle.space_trace.proofs.stat_line.put_stat.Goals as goal

counts_put : (c : goal.After-put_count-12) → IsLine c.put_count-12.new.line.items (reply_pieces (StatLine c.args.stat.now))
counts_put c = stat_put c.args.stat.now
    (c.put.ensures.items ∙ ap (λ text. text ++ codes "stat") c.requires)
    (record { items = c.put_count.ensures.items; spelled = c.put_count.ensures.spelled })
    (record { items = c.put_count-2.ensures.items; spelled = c.put_count-2.ensures.spelled })
    (record { items = c.put_count-3.ensures.items; spelled = c.put_count-3.ensures.spelled })
    (record { items = c.put_count-4.ensures.items; spelled = c.put_count-4.ensures.spelled })
    (record { items = c.put_count-5.ensures.items; spelled = c.put_count-5.ensures.spelled })
    (record { items = c.put_count-6.ensures.items; spelled = c.put_count-6.ensures.spelled })
    (record { items = c.put_count-7.ensures.items; spelled = c.put_count-7.ensures.spelled })
    (record { items = c.put_count-8.ensures.items; spelled = c.put_count-8.ensures.spelled })
    (record { items = c.put_count-9.ensures.items; spelled = c.put_count-9.ensures.spelled })
    (record { items = c.put_count-10.ensures.items; spelled = c.put_count-10.ensures.spelled })
    (record { items = c.put_count-11.ensures.items; spelled = c.put_count-11.ensures.spelled })
    (record { items = c.put_count-12.ensures.items; spelled = c.put_count-12.ensures.spelled })

pub returns-clause-items : goal.returns-clause-items
returns-clause-items c = (counts_put c).is

pub returns-clause-spelled : goal.returns-clause-spelled
returns-clause-spelled c = (counts_put c).spelled
