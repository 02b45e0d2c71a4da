use Rattle.std.proofs.Common.{refl}
use Rattle.space_weak.proofs.EntryLemmas.{size_of-entries_in, AreApart-entries_in}
use Rattle.space_weak.proofs.weak.WeakMaps.size.Goals as goal

pub returns-in-Some-clause-size : goal.returns-in-Some-clause-size
returns-in-Some-clause-size c =
    rw (← c.self.view_is) (rw (size_of-entries_in _ _ c.args.weak c.self.invariant.distinct) (rw (← c.in-Some.ensures.value) c.len.ensures.len))

pub returns-in-Some-clause-apart : goal.returns-in-Some-clause-apart
returns-in-Some-clause-apart c = rw (← c.self.view_is) (AreApart-entries_in _ _ c.self.invariant.distinct c.self.invariant.own_keys)

pub returns-in-None-clause-size : goal.returns-in-None-clause-size
returns-in-None-clause-size c = rw (← c.self.view_is) (rw (size_of-entries_in _ _ c.args.weak c.self.invariant.distinct) (rw (← c.in-None.ensures.value) refl))

pub returns-in-None-clause-apart : goal.returns-in-None-clause-apart
returns-in-None-clause-apart c = rw (← c.self.view_is) (AreApart-entries_in _ _ c.self.invariant.distinct c.self.invariant.own_keys)
