use Rattle.std.proofs.Common.{◌≡◌, take, length}
use Rattle.mm_serve.specs.ObjectsOpening.{AddsLines, HaveRoom, HaveTask}
use Rattle.mm_serve.proofs.planning.plan_task.Given as goal

abbrev pub invariant-loop-line : goal.invariant-loop-line
invariant-loop-line l =
    (length l.plans.items ≡ length l.fn.plans.items)
    × HaveTask l.task l.plans.items
    × HaveRoom l.room l.plans.items
    × AddsLines l.task (take l.line-index l.lines) l.fn.plans.items l.plans.items
