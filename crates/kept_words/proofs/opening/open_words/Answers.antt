use Rattle.std.proofs.Common.{◌∙◌, ap, length, arith}
use Rattle.kept_words.specs.Types.{Hand}
use Rattle.kept_words.proofs.opening.open_words.Goals as goal

pub begin-requires-clause-there : goal.begin-requires-clause-there
begin-requires-clause-there g c = let l = ap length c.requires.planned.1 in omega (arith, l)

pub store_first-requires-clause-task : goal.store_first-requires-clause-task
store_first-requires-clause-task g c = ap (λ (h : Hand). h.task) c.begin.ensures.became.4

pub store_first-requires-clause-out : goal.store_first-requires-clause-out
store_first-requires-clause-out g c = ap (λ (h : Hand). h.held) c.begin.ensures.became.4 ∙ ((g.met.L.SleepLock.stands c.args.lock.now c.args.pass.now c.requires.own).nameless c.requires.nameless).0

pub store_first-requires-clause-sent : goal.store_first-requires-clause-sent
store_first-requires-clause-sent g c = ap (λ (h : Hand). h.sent) c.begin.ensures.became.4 ∙ ((g.met.L.SleepLock.stands c.args.lock.now c.args.pass.now c.requires.own).nameless c.requires.nameless).1

pub store_first-requires-clause-consumed : goal.store_first-requires-clause-consumed
store_first-requires-clause-consumed g c = ap (λ (h : Hand). h.consumed) c.begin.ensures.became.4 ∙ ((g.met.L.SleepLock.stands c.args.lock.now c.args.pass.now c.requires.own).nameless c.requires.nameless).2

pub store_first-requires-clause-begins : goal.store_first-requires-clause-begins
store_first-requires-clause-begins g c = c.requires.opens.first (g.L.SiteLock.view c.args.pass.now).hand (g.L.SiteLock.view c.begin.new.pass).hand c.begin.ensures.became c.requires.new
