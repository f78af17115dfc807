use Rattle.std.proofs.Common.{◌∙◌, arith, ap, sym, length}
use Rattle.lock_core.proofs.Sitting.{its-number}
use Rattle.percpu_rwsem.specs.PercpuRuled.{V}
use Rattle.percpu_rwsem.proofs.Calling.{blocks-phased}
use Rattle.percpu_rwsem.proofs.site.PercpuRwSem.block.Goals as goal

pub block-requires-clause-small : goal.block-requires-clause-small
block-requires-clause-small g c = its-number c.args.self.now.site.small c.requires.own.seat c.in-Some.task (sym c.task.ensures ∙ c.in-Some.is)

pub returns-clause-on : goal.returns-clause-on
returns-clause-on g c = let e = c.in_ok-block.ensures.blocks in let own = c.requires.own.seat in let is = sym c.task.ensures ∙ c.in-Some.is in record { own = record { seat = c.in_ok-block.ensures.on.own; phased = blocks-phased (length c.args.self.now.site.table.shared.key) c.in-Some.task 0 c.block.new.pass.seat.me.0.view (ap (λ (v : V). v.ext) e) (ap (λ (v : V). v.hand.held) e ∙ (sym own.held ∙ c.requires.out)) (ap (λ (v : V). v.hand.task) e ∙ (sym own.task ∙ is)) (let l = (own.planned c.in-Some.task is).0 in omega (arith, l)) }; goes_on = c.in_ok-block.ensures.on.goes_on }
