use Rattle.std.proofs.Common.{◌∙◌, ap, sym, subst}
use Rattle.lock_core.specs.Nothings.{nothing}
use Rattle.lock_core.specs.Plans.{appended}
use Rattle.lock_core.specs.Records.{IsPlan}
use Rattle.lock_tests.proofs.Plans.{signal, four-tasks}
use Rattle.lock_tests.proofs.semaphore.handoff_tests.open_four.Goals as goal

pub returns-clause-planned : goal.returns-clause-planned
returns-clause-planned g c = subst (IsPlan nothing) (sym (c.in_ok-sem.ensures.plan ∙ (c.in_ok-push.ensures.ok ∙ ap (λ k. appended k 0 signal) c.in_ok-plan.ensures))) four-tasks
