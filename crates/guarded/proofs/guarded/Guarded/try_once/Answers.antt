use Rattle.std.proofs.Common.{sym, subst}
use Rattle.lock_core.specs.Pasts.{GoesOn}
use Rattle.lock_core.specs.Shown.{StepsOn}
use Rattle.guarded.proofs.guarded.Guarded.try_once.Goals.{then-reads, else-reads}
use Rattle.guarded.proofs.guarded.Guarded.try_once.Goals as goal

pub returns-in-Ok-clause-on : goal.returns-in-Ok-clause-on
returns-in-Ok-clause-on g c = elim c.if-reads.branch [
  | then-reads w ↦ subst (λ p. StepsOn g.L.SiteLock.sits g.L.SiteLock.view c.args.self.now.lock c.args.pass.now p) (sym w.pass-is) w.try_shared-got.ensures.on
  | else-reads w ↦ subst (λ p. StepsOn g.L.SiteLock.sits g.L.SiteLock.view c.args.self.now.lock c.args.pass.now p) (sym w.pass-is) w.try_alone-got.ensures.on
]

pub returns-in-Err-clause-on : goal.returns-in-Err-clause-on
returns-in-Err-clause-on g c = elim c.if-reads.branch [
  | then-reads w ↦ subst (λ p. StepsOn g.L.SiteLock.sits g.L.SiteLock.view c.args.self.now.lock c.args.pass.now p) (sym w.pass-is) w.try_shared-got.ensures.on
  | else-reads w ↦ subst (λ p. StepsOn g.L.SiteLock.sits g.L.SiteLock.view c.args.self.now.lock c.args.pass.now p) (sym w.pass-is) w.try_alone-got.ensures.on
]

pub returns-in-Ok-clause-queue : goal.returns-in-Ok-clause-queue
returns-in-Ok-clause-queue g c = elim c.if-reads.branch [
  | then-reads w ↦ subst (λ p. GoesOn (g.L.SleepLock.spun c.args.pass.now) (g.L.SleepLock.spun p)) (sym w.pass-is) w.try_shared-got.ensures.queue
  | else-reads w ↦ subst (λ p. GoesOn (g.L.SleepLock.spun c.args.pass.now) (g.L.SleepLock.spun p)) (sym w.pass-is) w.try_alone-got.ensures.queue
]

pub returns-in-Err-clause-queue : goal.returns-in-Err-clause-queue
returns-in-Err-clause-queue g c = elim c.if-reads.branch [
  | then-reads w ↦ subst (λ p. GoesOn (g.L.SleepLock.spun c.args.pass.now) (g.L.SleepLock.spun p)) (sym w.pass-is) w.try_shared-got.ensures.queue
  | else-reads w ↦ subst (λ p. GoesOn (g.L.SleepLock.spun c.args.pass.now) (g.L.SleepLock.spun p)) (sym w.pass-is) w.try_alone-got.ensures.queue
]
