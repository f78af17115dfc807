use Rattle.std.proofs.Common.{◌≡◌, [], arith}
use Rattle.mm_serve.proofs.Each.{between-none, between-at, between-next, between-all, get-of}
use Rattle.mm_serve.proofs.worker.begin_all.Goals as goal

pub loop-object-init : goal.loop-object-init
loop-object-init g c = between-none (λ k s p. g.S.SharedObject.serving s p c.args.task × ((g.S.SharedObject.hand p).done ≡ 0)) (λ k s p. g.S.SharedObject.idle s p × ((g.S.SharedObject.hand p).seen ≡ [])) c.args.sites.now c.args.passes.now.items c.requires.passes

pub begin-requires-clause-own : goal.begin-requires-clause-own
begin-requires-clause-own g c = (between-at (λ k s p. g.S.SharedObject.serving s p c.args.task × ((g.S.SharedObject.hand p).done ≡ 0)) (λ k s p. g.S.SharedObject.idle s p × ((g.S.SharedObject.hand p).seen ≡ [])) c.args.sites.now c.loop-object.passes.items c.loop-object.object c.index-sites-object.result c.index_mut.result.now c.loop-object.invariant c.loop-object-test.true c.index-sites-object.is c.index_mut.ensures.value).0

pub begin-requires-clause-unseen : goal.begin-requires-clause-unseen
begin-requires-clause-unseen g c = (between-at (λ k s p. g.S.SharedObject.serving s p c.args.task × ((g.S.SharedObject.hand p).done ≡ 0)) (λ k s p. g.S.SharedObject.idle s p × ((g.S.SharedObject.hand p).seen ≡ [])) c.args.sites.now c.loop-object.passes.items c.loop-object.object c.index-sites-object.result c.index_mut.result.now c.loop-object.invariant c.loop-object-test.true c.index-sites-object.is c.index_mut.ensures.value).1

pub begin-requires-clause-there : goal.begin-requires-clause-there
begin-requires-clause-there g c = c.requires.there c.loop-object.object c.index-sites-object.result (get-of c.args.sites.now c.loop-object.object c.index-sites-object.result c.loop-object-test.true c.index-sites-object.is)

pub loop-object-preserved : goal.loop-object-preserved
loop-object-preserved g c = between-next (λ k s p. g.S.SharedObject.serving s p c.args.task × ((g.S.SharedObject.hand p).done ≡ 0)) (λ k s p. g.S.SharedObject.idle s p × ((g.S.SharedObject.hand p).seen ≡ [])) c.args.sites.now c.loop-object.passes.items c.loop-object.object c.index-sites-object.result c.begin.new.pass c.loop-object.invariant c.loop-object-test.true c.index-sites-object.is (c.begin.ensures.own, c.begin.ensures.none)

pub returns : goal.returns
returns g c = between-all (λ k s p. g.S.SharedObject.serving s p c.args.task × ((g.S.SharedObject.hand p).done ≡ 0)) (λ k s p. g.S.SharedObject.idle s p × ((g.S.SharedObject.hand p).seen ≡ [])) c.args.sites.now c.loop-object.passes.items c.loop-object.object (omega (arith, c.loop-object-test.false)) c.loop-object.invariant
