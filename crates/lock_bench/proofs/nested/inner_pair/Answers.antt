use Rattle.std.proofs.Common.{◌<◌, ap, ◌∙◌, arith}
use Rattle.lock_core.specs.declared.view.View.{View}
use Rattle.qspin_queue.proofs.Interrupting.{taken-idles}
use Rattle.lock_bench.proofs.nested.inner_pair.Goals as goal

pub returns-clause-idles : goal.returns-clause-idles
returns-clause-idles g c = let b = c.lock_with.new.pass in let d = c.unlock_at.new.pass in let many : 1 < 8 = omega arith in
    taken-idles 1 (Unit {0}) c.args.pass.now b d c.requires.out c.lock_with.ensures.gained c.unlock_at.ensures.kept c.args.site.now c.requires.ready.told c.unlock_at.ensures.on.own c.lock_with.ensures.face c.unlock_at.ensures.face
    c.lock_with.ensures.on.goes_on c.unlock_at.ensures.on.goes_on (c.unlock_at.ensures.told many (c.lock_with.ensures.told many c.requires.ready.told)) c.lock_with.ensures.nodes

pub returns-clause-once : goal.returns-clause-once
returns-clause-once g c = ap (λ (x : View _). x.spin.entries) c.unlock_at.ensures.kept ∙ c.lock_with.ensures.gained.counted tt
