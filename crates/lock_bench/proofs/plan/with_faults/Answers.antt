use Rattle.std.proofs.Common.{◌≡◌, ◌+◌, ℕ, arith, subst}
use Rattle.lock_bench.proofs.Planned.{HasFaultsBelow, are-calls, have-faults, maps-area, more-faults, no-calls, no-faults, room-for-more}
use Rattle.lock_bench.proofs.plan.with_faults.Goals as goal

pub push-requires-clause-room : goal.push-requires-clause-room
push-requires-clause-room c = let none = no-calls (c.args.tasks + 1) c.in_ok-plan.plan c.in_ok-plan.ensures in omega (arith, none)

pub loop-task-init : goal.loop-task-init
loop-task-init c = no-faults c.args.tasks c.args.count c.in_ok-plan.plan c.push.new.self c.new-map.result c.in_ok-plan.ensures c.in_ok-push.ensures.ok c.new-map.ensures.words

pub push_faults-requires-clause-room : goal.push_faults-requires-clause-room
push_faults-requires-clause-room c = room-for-more c.args.tasks c.args.count c.loop-task.task c.loop-task.plan c.loop-task-test.true c.requires.room c.loop-task.invariant

pub loop-task-preserved : goal.loop-task-preserved
loop-task-preserved c = let did = c.in_ok-push_faults.ensures in more-faults c.args.tasks c.args.count c.loop-task.task c.loop-task.plan c.push_faults.new.plan c.loop-task-test.true c.loop-task.invariant (record { long = did.tasks; total = did.total; mine = did.mine; others = did.others })

-- behind the loop all tasks have their faults
pub returns-clause-plan : goal.returns-clause-plan
returns-clause-plan c = let all : c.loop-task.task ≡ c.args.tasks = omega (arith, c.loop-task-test.false, c.loop-task.auto.task-end) in are-calls c.args.tasks c.args.count c.loop-task.plan (subst (λ (n : ℕ). HasFaultsBelow c.args.tasks c.args.count n c.loop-task.plan) all c.loop-task.invariant)

pub returns-clause-maps : goal.returns-clause-maps
returns-clause-maps c = let all : c.loop-task.task ≡ c.args.tasks = omega (arith, c.loop-task-test.false, c.loop-task.auto.task-end) in maps-area c.args.tasks c.args.count c.loop-task.plan (subst (λ (n : ℕ). HasFaultsBelow c.args.tasks c.args.count n c.loop-task.plan) all c.loop-task.invariant)

pub returns-clause-faults : goal.returns-clause-faults
returns-clause-faults c = let all : c.loop-task.task ≡ c.args.tasks = omega (arith, c.loop-task-test.false, c.loop-task.auto.task-end) in have-faults c.args.tasks c.args.count c.loop-task.plan (subst (λ (n : ℕ). HasFaultsBelow c.args.tasks c.args.count n c.loop-task.plan) all c.loop-task.invariant)
