use Rattle.std.proofs.Common.{◌≡◌, ℕ, ◌+◌, ◌*◌, subst, arith}
use Rattle.lock_core.specs.SiteHandles.{view_of}
use Rattle.qspin_word.specs.SpinWordHandles.{OwnsPendingAt}
use Rattle.qspin_queue.proofs.Contending.{first-gained}
use Rattle.qspin_queue.specs.SpinQueueHandles.{QueuesBehind}
use Rattle.qspin_queue.proofs.queue.lock.Goals as goal

pub returns-clause-gained : goal.returns-clause-gained
returns-clause-gained g c = first-gained (view_of c.args.pass.now) (view_of c.lock_with.new.pass) c.lock_with.ensures.gained

pub returns-clause-asked : goal.returns-clause-asked
returns-clause-asked g c = λ e. let f : ℕ = g.H.SpinHost.FIRST in let same : f + 8 * 0 ≡ f = omega arith in subst (λ (at : ℕ). OwnsPendingAt 0 2 at c.args.pass.now c.lock_with.new.pass) same (c.lock_with.ensures.asked e)

pub returns-clause-queued : goal.returns-clause-queued
returns-clause-queued g c = λ e. let f : ℕ = g.H.SpinHost.FIRST in let same : f + 8 * 0 ≡ f = omega arith in subst (λ (at : ℕ). QueuesBehind 0 (Unit {0}) at c.args.pass.now c.lock_with.new.pass) same (c.lock_with.ensures.queued e)
