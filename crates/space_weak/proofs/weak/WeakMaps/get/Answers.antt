use Rattle.std.proofs.Common.{refl}
use Rattle.space_weak.proofs.EntryLemmas.{entry_of-entries_in, AreApart-entries_in}
use Rattle.space_weak.proofs.weak.WeakMaps.get.Goals as goal

pub returns-in_err-get-clause-value : goal.returns-in_err-get-clause-value
returns-in_err-get-clause-value c =
    rw (c.from_residual.ensures, ← c.self.view_is)
    (rw (entry_of-entries_in _ _ c.args.weak c.args.key c.self.invariant.distinct) (rw (← c.in_err-get.ensures.value) refl))

pub returns-in_err-link-clause-value : goal.returns-in_err-link-clause-value
returns-in_err-link-clause-value c =
    rw (c.from_residual-in_err-link.ensures, ← c.self.view_is)
    (rw (entry_of-entries_in _ _ c.args.weak c.args.key c.self.invariant.distinct)
    (rw (← c.in_ok-get.ensures.value) (rw (← c.in_err-link.ensures.value) refl)))

pub returns-clause-value : goal.returns-clause-value
returns-clause-value c =
    rw (← c.self.view_is)
    (rw (entry_of-entries_in _ _ c.args.weak c.args.key c.self.invariant.distinct)
    (rw (← c.in_ok-get.ensures.value) (rw (← c.in_ok-link.ensures.value) refl)))

pub returns-in_err-get-clause-apart : goal.returns-in_err-get-clause-apart
returns-in_err-get-clause-apart c = rw (← c.self.view_is) (AreApart-entries_in _ _ c.self.invariant.distinct c.self.invariant.own_keys)

pub returns-in_err-link-clause-apart : goal.returns-in_err-link-clause-apart
returns-in_err-link-clause-apart c = rw (← c.self.view_is) (AreApart-entries_in _ _ c.self.invariant.distinct c.self.invariant.own_keys)

pub returns-clause-apart : goal.returns-clause-apart
returns-clause-apart c = rw (← c.self.view_is) (AreApart-entries_in _ _ c.self.invariant.distinct c.self.invariant.own_keys)
