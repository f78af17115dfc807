use Rattle.std.proofs.Common.{rules}
use Rattle.kept_demo.proofs.SameItems.{more-items}
use Rattle.kept_demo.proofs.queue.take_all.Goals as goal

pub loop-preserved-in-Some-take_alone : goal.loop-preserved-in-Some-take_alone
loop-preserved-in-Some-take_alone g c =
    let all = more-items g.T.Items.item c.loop.taken.items c.in-Some-take_alone.item (search rules) (search rules) in (
      search rules,
      search rules,
      (λ i inside. rw c.push_reserved.ensures.items (all i (search rules))),
    )
