use Rattle.std.proofs.Common.{◌∙◌}
use Rattle.lock_core.specs.Kinds.{wakes_alone}
use Rattle.kept_words.specs.Laws.Keeping.{opened}
use Rattle.kept_words.proofs.opening.write_first.Goals as goal

pub commit-requires-clause-change : goal.commit-requires-clause-change
commit-requires-clause-change g c = let k = c.store_all.ensures.kept in
    c.requires.opens.may (g.L.SiteLock.view c.store_all.new.pass).hand (k.task ∙ c.requires.task) (k.done ∙ c.requires.undone) c.store_all.ensures.known

pub returns-clause-task : goal.returns-clause-task
returns-clause-task g c = let k = c.store_all.ensures.kept in
    opened g.L.SiteLock.sits g.L.SiteLock.calls_on g.L.SiteLock.view c.args.lock.now c.store_all.new.pass c.release_alone.new.pass c.release_alone.ensures.on.own g.O.Object.WORDS c.requires.planned.0 (g.L.SiteLock.view c.store_all.new.pass).hand (wakes_alone g.L.SleepLock.kind) c.commit.new.pass c.requires.planned.1
    (k.task ∙ c.requires.task) (k.done ∙ c.requires.undone) (k.sent ∙ c.requires.sent) (k.consumed ∙ c.requires.consumed) c.commit.ensures.kept (g.met.L.SleepLock.stands c.args.lock.now c.commit.new.pass c.commit.ensures.on.own).shorter c.release_alone.ensures.released
