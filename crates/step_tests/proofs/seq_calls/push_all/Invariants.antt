use Rattle.std.proofs.Common.{◌≡◌, ◌+◌, length}
use Rattle.lock_core.specs.Plans.{calls_in}
use Rattle.lock_core.specs.Records.{IsPlan}
use Rattle.vma_map.specs.Spaces.{space}
use Rattle.step_tests.proofs.seq_calls.push_all.Given as goal

abbrev pub invariant-loop-words : goal.invariant-loop-words
invariant-loop-words l =
    (length l.plan ≡ length l.fn.plan)
    × (calls_in l.plan ≡ calls_in l.fn.plan + l.words-index)
    × IsPlan space l.plan
