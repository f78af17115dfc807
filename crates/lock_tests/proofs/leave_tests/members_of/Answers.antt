use Rattle.std.proofs.Common.{rules}
use Rattle.lock_tests.specs.OsqStanding.{IsIdle}
use Rattle.lock_tests.proofs.Pushes.{one-more}
use Rattle.lock_tests.proofs.leave_tests.members_of.Goals as goal

pub loop-task-preserved : goal.loop-task-preserved
loop-task-preserved g c = (
  c.another-pass.ensures.first,
  one-more (λ m. IsIdle c.args.osq.now m.0) c.loop-task.members.items c.push.new.self.items (c.another-pass.result, c.in_ok-cpu.cpu) c.in_ok-push.ensures.items c.loop-task.invariant.1 c.another-pass.ensures.other,
  search rules,
)
