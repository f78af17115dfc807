use Rattle.std.proofs.Common.{length}
use Rattle.percpu_rwsem.proofs.Calling.{sleeps-both}
use Rattle.percpu_rwsem.proofs.site.PercpuRwSem.down_write.Goals as goal

pub returns-clause-sleeps : goal.returns-clause-sleeps
returns-clause-sleeps g c = let sleeps = g.C.C.Cpu.sleeps in
    sleeps-both (length c.args.self.now.site.table.shared.key) c.args.pass.now.pass.seat.me.0.view.steps c.wait_to_block.new.pass.pass.seat.me.0.view.steps c.wait_to_drain.new.pass.pass.seat.me.0.view.steps (sleeps c.args.cpu.now) (sleeps c.wait_to_block.new.cpu) (sleeps c.wait_to_drain.new.cpu) c.wait_to_block.ensures.sleeps (c.wait_to_drain.ensures.sleeps 0 c.wait_to_block.ensures.seen)
