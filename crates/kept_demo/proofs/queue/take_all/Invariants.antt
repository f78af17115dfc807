use Rattle.std.proofs.Common.{◌≡◌, ◌≤◌, ◌<◌, ℕ, slice_index, vec_len}
use Rattle.std.specs.Vec.{vec_capacity}
use Rattle.kept_demo.proofs.queue.take_all.Given as goal

abbrev pub invariant-loop : goal.invariant-loop
invariant-loop g l =
    (l.count ≤ vec_capacity l.taken)
    × (vec_len l.taken ≤ l.count)
    × ((i : ℕ) → i < vec_len l.taken → slice_index l.taken.items i ≡ g.T.Items.item i)
