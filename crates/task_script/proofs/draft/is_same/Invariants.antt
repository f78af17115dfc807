-- From the byte on that was compared last, the two are the same.
use Rattle.std.proofs.Common.{◌≡◌, ℕ, ◌<◌, ◌≤◌, length, get_or}
use Rattle.task_script.proofs.draft.is_same.Given as goal

abbrev pub invariant-loop-left : goal.invariant-loop-left
invariant-loop-left l = (l.left ≤ length l.name)
    × ((i : ℕ) → l.left ≤ i → i < length l.name → get_or l.text i 0 ≡ get_or l.name i 0)

abbrev pub decreases-loop-left : goal.decreases-loop-left
decreases-loop-left l = l.left
