use Rattle.std.proofs.Common.{rules, ◌∙◌, ◌+◌, ap, arith}
use Rattle.percpu_rwsem.specs.PercpuHandles.{after}
use Rattle.percpu_rwsem.specs.PercpuRuled.{V}
use Rattle.percpu_rwsem.specs.Types.{Idle}
use Rattle.percpu_rwsem.proofs.Calling.{tries-again}
use Rattle.percpu_rwsem.proofs.site.PercpuRwSem.down_read.Goals as goal

pub loop-preserved : goal.loop-preserved
loop-preserved g c = let i = c.loop.invariant in let v = c.args.pass.now.pass.seat.me.0.view in let x = c.loop.pass.pass.seat.me.0.view in let w = c.read_try.new.pass.pass.seat.me.0.view in let sleeps = g.C.C.Cpu.sleeps in
    let back = c.in-Err.ensures.back in let later = i.9 in (
      search rules,
      search rules,
      search rules,
      search rules,
      search rules,
      search rules,
      search rules,
      tries-again v.steps x.steps w.steps (sleeps c.args.cpu.now) (sleeps c.loop.cpu) (sleeps c.sleep.new.self) i.7 (ap (λ (z : V). z.steps) back) c.sleep.ensures.sleeps,
      i.8 + 3,
      omega (arith, later),
      back ∙ ap (λ (z : V). after 3 z z.hand Idle) i.10,
    )
