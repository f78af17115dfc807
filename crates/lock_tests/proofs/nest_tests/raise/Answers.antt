use Rattle.std.proofs.Common.{◌<◌, arith}
use Rattle.qspin_queue.proofs.Interrupting.{taken-alike, taken-idles, out-alike}
use Rattle.lock_tests.proofs.nest_tests.raise.Goals as goal

pub returns-clause-idles : goal.returns-clause-idles
returns-clause-idles g c = let b = c.lock_with-way.new.pass in let d = c.unlock_at.new.pass in let many : 1 < 8 = omega arith in
    taken-idles c.args.lock g.I.Interrupt.silent c.args.pass.now b d c.requires.out c.lock_with-way.ensures.gained c.unlock_at.ensures.kept c.args.site.now c.requires.ready.told c.unlock_at.ensures.on.own c.lock_with-way.ensures.face c.unlock_at.ensures.face
    c.lock_with-way.ensures.on.goes_on c.unlock_at.ensures.on.goes_on (c.unlock_at.ensures.told many (c.lock_with-way.ensures.told many c.requires.ready.told)) c.lock_with-way.ensures.nodes

pub returns-clause-out : goal.returns-clause-out
returns-clause-out g c = λ out. out-alike c.args.pass.now c.unlock_at.new.pass (taken-alike c.args.lock g.I.Interrupt.silent c.args.pass.now c.lock_with-way.new.pass c.unlock_at.new.pass c.requires.out c.lock_with-way.ensures.gained c.unlock_at.ensures.kept) out
