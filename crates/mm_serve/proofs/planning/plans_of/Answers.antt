use Rattle.std.proofs.Common.{arith, length}
use Rattle.std.specs.Prelude.{max, slice_index_or}
use Rattle.mm_serve.proofs.Filling.{all-planned, none-planned, planned-more, room-at-first}
use Rattle.mm_serve.proofs.planning.plans_of.Goals as goal

pub loop-task-init : goal.loop-task-init
loop-task-init c =
    let script = c.args.script.now in
    let plans = c.in_ok-plans.plans.items in (
      (c.in_ok-plans.ensures.many, λ k d lt. none-planned script k (slice_index_or plans k d) (c.in_ok-plans.ensures.empty k d lt)),
      room-at-first (max (length script.tasks) 1) plans c.in_ok-plans.ensures.empty,
    )

pub loop-task-preserved : goal.loop-task-preserved
loop-task-preserved c =
    let count = c.tasks-task-end.ensures.count in
    let below = c.loop-task-test.true in (
      planned-more c.args.script.now c.loop-task.task c.calls.result.now c.loop-task.plans.items c.plan_task.new.plans.items (omega (arith, count, below)) c.calls.ensures.calls c.loop-task.invariant.0 c.in_ok-plan_task.ensures.planned,
      c.in_ok-plan_task.ensures.left,
    )

pub returns : goal.returns
returns c =
    let count = c.tasks-task-end.ensures.count in
    let end = c.loop-task-test.false in (
      c.loop-task.invariant.0.0,
      λ k d lt. all-planned c.args.script.now k c.loop-task.task (slice_index_or c.loop-task.plans.items k d) (omega (arith, count, end)) (c.loop-task.invariant.0.1 k d lt),
    )
