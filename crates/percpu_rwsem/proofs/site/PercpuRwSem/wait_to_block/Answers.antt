use Rattle.std.proofs.Common.{rules, ◌∙◌, ◌+◌, ap, sym, arith}
use Rattle.lock_core.specs.Views.{ticked}
use Rattle.percpu_rwsem.specs.PercpuRuled.{V}
use Rattle.percpu_rwsem.proofs.Calling.{err-of, sleeps-again}
use Rattle.percpu_rwsem.proofs.site.PercpuRwSem.wait_to_block.Goals as goal

pub loop-preserved : goal.loop-preserved
loop-preserved g c = let i = c.loop.invariant in let v = c.args.pass.now.pass.seat.me.0.view in let x = c.loop.pass.pass.seat.me.0.view in let w = c.block.new.pass.pass.seat.me.0.view in let sleeps = g.U.Cpu.sleeps in
    let kept = (err-of c.block.result (sym c.is_ok.ensures.value ∙ c.if-is_ok.false) c.block.ensures.kept).1 in let more = ap (λ (z : V). z.steps) kept in let later = i.9 in (
      search rules,
      search rules,
      search rules,
      search rules,
      search rules,
      search rules,
      search rules,
      sleeps-again v.steps x.steps w.steps (sleeps c.args.cpu.now) (sleeps c.loop.cpu) (sleeps c.sleep.new.self) i.7 (omega (arith, more)) c.sleep.ensures.sleeps,
      i.8 + 1,
      omega (arith, later),
      kept ∙ ap (λ (z : V). ticked z) i.10,
    )
