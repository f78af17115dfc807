use Rattle.std.proofs.Common.{arith, ◌∙◌}
use Rattle.std.proofs.Math.ListN.{length-set}
use Rattle.lock_core.specs.Pasts.{GoesOn}
use Rattle.mm_serve.specs.MachineCopying.{IsCopied, IsToCopy}
use Rattle.mm_serve.proofs.Each.{between-none, between-at, between-all, get-of, set-related}
use Rattle.mm_serve.proofs.Copies.{copies, still-blank}
use Rattle.mm_serve.proofs.copying.snapshot_all.Goals as goal

pub loop-object-init : goal.loop-object-init
loop-object-init g c = (c.requires.long, between-none (IsCopied g.S.SharedObject.idle g.S.SharedObject.hand g.S.SharedObject.past g.S.SharedObject.is_space g.S.SharedObject.calls_on c.args.results.now) (IsToCopy g.S.SharedObject.idle g.S.SharedObject.hand g.S.SharedObject.is_space g.S.SharedObject.calls_on c.args.results.now) c.args.sites.now c.args.gathered.now.items c.requires.gathered, (λ k p q t. t), (λ k p q t. t))

pub snapshot-requires-clause-own : goal.snapshot-requires-clause-own
snapshot-requires-clause-own g c = (between-at (IsCopied g.S.SharedObject.idle g.S.SharedObject.hand g.S.SharedObject.past g.S.SharedObject.is_space g.S.SharedObject.calls_on c.loop-object.results) (IsToCopy g.S.SharedObject.idle g.S.SharedObject.hand g.S.SharedObject.is_space g.S.SharedObject.calls_on c.loop-object.results) c.args.sites.now c.loop-object.gathered.items c.loop-object.object c.index-sites-object.result c.index_mut.result.now c.loop-object.invariant.1 c.loop-object-test.true c.index-sites-object.is c.index_mut.ensures.value).0

pub snapshot-requires-clause-done : goal.snapshot-requires-clause-done
snapshot-requires-clause-done g c = (between-at (IsCopied g.S.SharedObject.idle g.S.SharedObject.hand g.S.SharedObject.past g.S.SharedObject.is_space g.S.SharedObject.calls_on c.loop-object.results) (IsToCopy g.S.SharedObject.idle g.S.SharedObject.hand g.S.SharedObject.is_space g.S.SharedObject.calls_on c.loop-object.results) c.args.sites.now c.loop-object.gathered.items c.loop-object.object c.index-sites-object.result c.index_mut.result.now c.loop-object.invariant.1 c.loop-object-test.true c.index-sites-object.is c.index_mut.ensures.value).1

pub snapshot-requires-clause-some : goal.snapshot-requires-clause-some
snapshot-requires-clause-some g c = c.requires.some c.loop-object.object c.index-sites-object.result (get-of c.args.sites.now c.loop-object.object c.index-sites-object.result c.loop-object-test.true c.index-sites-object.is)

pub snapshot-requires-clause-blank : goal.snapshot-requires-clause-blank
snapshot-requires-clause-blank g c = still-blank g.S.SharedObject.idle g.S.SharedObject.hand g.S.SharedObject.past g.S.SharedObject.is_space g.S.SharedObject.calls_on c.args.sites.now c.loop-object.gathered.items c.loop-object.results c.loop-object.object c.index-sites-object.result c.index_mut.result.now c.snapshot_mut.result.now c.loop-object.invariant.1 c.loop-object-test.true c.index-sites-object.is c.index_mut.ensures.value c.snapshot_mut.ensures.value

pub loop-object-preserved : goal.loop-object-preserved
loop-object-preserved g c = let spun = g.S.SharedObject.spun in let past = g.S.SharedObject.past in let many = c.loop-object.invariant.1.0 in let there = c.loop-object-test.true in (
  length-set c.loop-object.results c.loop-object.object c.snapshot.new.out ∙ c.loop-object.invariant.0,
  copies g.S.SharedObject.idle g.S.SharedObject.hand g.S.SharedObject.past g.S.SharedObject.is_space g.S.SharedObject.calls_on c.args.sites.now c.loop-object.gathered.items c.loop-object.results c.loop-object.object c.index-sites-object.result c.snapshot.new.pass c.snapshot.new.out c.loop-object.invariant.1 c.loop-object-test.true c.loop-object.invariant.0 c.index-sites-object.is c.snapshot.ensures.own c.snapshot.ensures.copied c.snapshot.ensures.held,
  (λ k p q t. set-related (λ p q. GoesOn (spun p) (spun q)) c.loop-object.gathered.items c.loop-object.object c.index_mut.result.now c.snapshot.new.pass (λ p q t. t) (omega (arith, many, there)) c.index_mut.ensures.value c.snapshot.ensures.queue k p q (c.loop-object.invariant.2 k p q t)),
  (λ k p q t. set-related (λ p q. GoesOn (past p) (past q)) c.loop-object.gathered.items c.loop-object.object c.index_mut.result.now c.snapshot.new.pass (λ p q t. t) (omega (arith, many, there)) c.index_mut.ensures.value c.snapshot.ensures.goes_on k p q (c.loop-object.invariant.3 k p q t)),
)

pub returns-clause-copied : goal.returns-clause-copied
returns-clause-copied g c = between-all (IsCopied g.S.SharedObject.idle g.S.SharedObject.hand g.S.SharedObject.past g.S.SharedObject.is_space g.S.SharedObject.calls_on c.loop-object.results) (IsToCopy g.S.SharedObject.idle g.S.SharedObject.hand g.S.SharedObject.is_space g.S.SharedObject.calls_on c.loop-object.results) c.args.sites.now c.loop-object.gathered.items c.loop-object.object (omega (arith, c.loop-object-test.false)) c.loop-object.invariant.1

pub returns-clause-goes_on : goal.returns-clause-goes_on
returns-clause-goes_on g c = c.loop-object.invariant.3

pub returns-clause-queues : goal.returns-clause-queues
returns-clause-queues g c = c.loop-object.invariant.2
