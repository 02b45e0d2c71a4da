-- The reply that is longer than the others.
use Rattle.std.specs.Prelude.{Bool, true, false}
use Rattle.space_model.specs.declared.reply.Reply.{Reply}
use Rattle.space_model.specs.declared.reply.Reply.TheVariants.{StatLine}

-- whether the reply tells the counts
abbrev pub is_stat : Reply → Bool
is_stat (StatLine stat) = true
is_stat _ = false
