use Rattle.std.proofs.Common.{◌<◌, subst, sym}
use Rattle.space_heap.proofs.starts.Starts.{some_bytes}
use Rattle.space_heap.proofs.addresses.slot_start.Goals as goal

pub nonzero_div-slot : goal.nonzero_div-slot
nonzero_div-slot c = subst (λ n. 0 < n) (sym c.slot_bytes-bytes.ensures) (some_bytes c.args.pool c.requires.known)
