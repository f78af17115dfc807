use Rattle.std.proofs.Common.{arith}
use Rattle.lock_core.specs.Pasts.{GoesOn}
use Rattle.mm_serve.proofs.Each.{get-set-other, set-related}
use Rattle.mm_serve.proofs.copying.recall.Goals as goal

pub returns-clause-others : goal.returns-clause-others
returns-clause-others g c = λ k ne. get-set-other c.args.gathered.now.items c.args.object k c.recall.new.pass ne

pub returns-clause-goes_on : goal.returns-clause-goes_on
returns-clause-goes_on g c =
    let past = g.S.SharedObject.past in
    let many = c.requires.rest.0 in
    let there = c.requires.there in
    set-related (λ p q. GoesOn (past p) (past q)) c.args.gathered.now.items c.args.object c.index_mut.result.now c.recall.new.pass (λ p q t. t) (omega (arith, many, there)) c.index_mut.ensures.value c.recall.ensures.goes_on

pub returns-clause-queues : goal.returns-clause-queues
returns-clause-queues g c =
    let spun = g.S.SharedObject.spun in
    let many = c.requires.rest.0 in
    let there = c.requires.there in
    set-related (λ p q. GoesOn (spun p) (spun q)) c.args.gathered.now.items c.args.object c.index_mut.result.now c.recall.new.pass (λ p q t. t) (omega (arith, many, there)) c.index_mut.ensures.value c.recall.ensures.queue
