use Rattle.std.proofs.Common.{◌≡◌, false}
use Rattle.lock_core.specs.declared.view.Held.TheVariants.{No}
use Rattle.percpu_rwsem.specs.PercpuHandles.{blocks_in}
use Rattle.step_tests.specs.TestPercpuPasses.{IsAt}
use Rattle.step_tests.proofs.percpu_thread_tests.all_calls.Given as goal

abbrev pub invariant-loop : goal.invariant-loop
invariant-loop g l = IsAt l.job.task No l.crewed.lock l.pass × (blocks_in l.pass ≡ false)
