-- Each arm hands on what its command's method tells.
use Rattle.space_engine.proofs.ObjectCommands.{compared}
use Rattle.space_engine.proofs.engine.Engine.reply.Goals as goal

pub returns-in-Set-clause-answers : goal.returns-in-Set-clause-answers
returns-in-Set-clause-answers g c = λ s h. rw c.in-Set.is (c.set.ensures.answers s h)

pub returns-in-DropRoot-clause-answers : goal.returns-in-DropRoot-clause-answers
returns-in-DropRoot-clause-answers g c = λ s h. rw c.in-DropRoot.is (c.drop_root.ensures.answers s h)

pub returns-in-Push-clause-answers : goal.returns-in-Push-clause-answers
returns-in-Push-clause-answers g c = λ s h. rw c.in-Push.is (c.push.ensures.answers s h)

pub returns-in-Raw-clause-answers : goal.returns-in-Raw-clause-answers
returns-in-Raw-clause-answers g c = λ s h. rw c.in-Raw.is (c.raw.ensures.answers s h)

pub returns-in-Pop-clause-answers : goal.returns-in-Pop-clause-answers
returns-in-Pop-clause-answers g c = λ s h. rw c.in-Pop.is (c.pop.ensures.answers s h)

pub returns-in-Store-clause-answers : goal.returns-in-Store-clause-answers
returns-in-Store-clause-answers g c = λ s h. rw c.in-Store.is (c.store.ensures.answers s h)

pub returns-in-RawStore-clause-answers : goal.returns-in-RawStore-clause-answers
returns-in-RawStore-clause-answers g c = λ s h. rw c.in-RawStore.is (c.raw_store.ensures.answers s h)

pub returns-in-Unprotect-clause-answers : goal.returns-in-Unprotect-clause-answers
returns-in-Unprotect-clause-answers g c = λ s h. rw c.in-Unprotect.is (c.unprotect.ensures.answers s h)

pub returns-in-Load-clause-answers : goal.returns-in-Load-clause-answers
returns-in-Load-clause-answers g c = λ s h. rw c.in-Load.is (c.load.ensures.answers s h)

pub returns-in-Same-clause-answers : goal.returns-in-Same-clause-answers
returns-in-Same-clause-answers g c = λ s h. rw c.in-Same.is (compared c.args.self.now s h _ _ _ (c.compare.ensures s h))

pub returns-in-Mark-clause-answers : goal.returns-in-Mark-clause-answers
returns-in-Mark-clause-answers g c = λ s h. rw c.in-Mark.is (c.mark.ensures.answers s h)

pub returns-in-Fix-clause-answers : goal.returns-in-Fix-clause-answers
returns-in-Fix-clause-answers g c = λ s h. rw c.in-Fix.is (c.fix.ensures.answers s h)

pub returns-in-Sweep-clause-answers : goal.returns-in-Sweep-clause-answers
returns-in-Sweep-clause-answers g c = λ s h. rw c.in-Sweep.is (c.sweep.ensures.answers s h)

pub returns-in-Stat-clause-answers : goal.returns-in-Stat-clause-answers
returns-in-Stat-clause-answers g c = λ s h. rw c.in-Stat.is (c.stat.ensures.answers s h)

pub returns-in-Id-clause-answers : goal.returns-in-Id-clause-answers
returns-in-Id-clause-answers g c = λ s h. rw c.in-Id.is (c.id.ensures.answers s h)

pub returns-in-ById-clause-answers : goal.returns-in-ById-clause-answers
returns-in-ById-clause-answers g c = λ s h. rw c.in-ById.is (c.by_id.ensures.answers s h)

pub returns-in-WeakSet-clause-answers : goal.returns-in-WeakSet-clause-answers
returns-in-WeakSet-clause-answers g c = λ s h. rw c.in-WeakSet.is (c.weak_set.ensures.answers s h)

pub returns-in-WeakGet-clause-answers : goal.returns-in-WeakGet-clause-answers
returns-in-WeakGet-clause-answers g c = λ s h. rw c.in-WeakGet.is (c.weak_get.ensures.answers s h)

pub returns-in-WeakKey-clause-answers : goal.returns-in-WeakKey-clause-answers
returns-in-WeakKey-clause-answers g c = λ s h. rw c.in-WeakKey.is (c.weak_key.ensures.answers s h)

pub returns-in-WeakSize-clause-answers : goal.returns-in-WeakSize-clause-answers
returns-in-WeakSize-clause-answers g c = λ s h. rw c.in-WeakSize.is (c.weak_size.ensures.answers s h)

pub returns-in-WeakDelete-clause-answers : goal.returns-in-WeakDelete-clause-answers
returns-in-WeakDelete-clause-answers g c = λ s h. rw c.in-WeakDelete.is (c.weak_delete.ensures.answers s h)

pub returns-in-Final-clause-answers : goal.returns-in-Final-clause-answers
returns-in-Final-clause-answers g c = λ s h. rw c.in-Final.is (c.define_final.ensures.answers s h)

pub returns-in-Unfinal-clause-answers : goal.returns-in-Unfinal-clause-answers
returns-in-Unfinal-clause-answers g c = λ s h. rw c.in-Unfinal.is (c.take_finals.ensures.answers s h)
