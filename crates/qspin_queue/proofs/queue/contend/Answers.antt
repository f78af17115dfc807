use Rattle.std.proofs.Common.{◌+◌, arith, rules}
use Rattle.lock_core.specs.Spins.{word_at}
use Rattle.qspin_queue.proofs.Contending.{queues-behind}
use Rattle.qspin_queue.proofs.queue.contend.Goals as goal

pub returns-then-seen-lt-PENDING-clause-on : goal.returns-then-seen-lt-PENDING-clause-on
returns-then-seen-lt-PENDING-clause-on g c = record { own = search rules; goes_on = λ p t. c.take_by_queue.ensures.takes.goes_on p (c.take_by_pending.ensures.on.goes_on p t); last = search rules }

pub returns-then-seen-lt-PENDING-clause-rival : goal.returns-then-seen-lt-PENDING-clause-rival
returns-then-seen-lt-PENDING-clause-rival g c = λ _ _. let a = c.args.pass.now in let r = c.take_by_pending.new.pass in let q = c.take_by_queue.new.pass in let took = c.take_by_queue.ensures.takes.gained.took in
    queues-behind c.args.lock g.I.Interrupt.silent (g.H.SpinHost.FIRST + word_at c.args.lock) a r q (c.take_by_pending.ensures.found c.if-take_by_pending.false) (c.take_by_pending.ensures.quick c.if-take_by_pending.false)
    c.take_by_queue.ensures.takes.saw (let x = took.0 in let y = took.1 in omega (arith, x, y)) c.take_by_queue.ensures.takes.goes_on c.take_by_queue.ensures.in_turn
