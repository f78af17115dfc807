use Rattle.std.proofs.Common.{◌≡◌, ◌+◌, [], List, ap, sym, ◌∙◌, subst, arith}
use Rattle.mm_serve.specs.Types.{Hand}
use Rattle.mm_serve.proofs.Each.{each-at, each-set}
use Rattle.mm_serve.proofs.Opens.{FilledTo, filled-more, all-filled}
use Rattle.mm_serve.proofs.opening.split_all.Goals as goal

pub split-requires-clause-unseen : goal.split-requires-clause-unseen
split-requires-clause-unseen g c = (each-at (λ k s p. g.S.SharedObject.idle s p × ((g.S.SharedObject.hand p).seen ≡ [])) c.args.sites.now c.loop-object.gathered.items c.loop-object.object c.index-sites-object.result c.index_mut.result.now c.loop-object.invariant.0 c.loop-object-test.true c.index-sites-object.is c.index_mut.ensures.value).1

pub loop-object-preserved : goal.loop-object-preserved
loop-object-preserved g c = (
  each-set (λ k s p. g.S.SharedObject.idle s p × ((g.S.SharedObject.hand p).seen ≡ [])) (λ k s p. g.S.SharedObject.idle s p × ((g.S.SharedObject.hand p).seen ≡ [])) c.args.sites.now c.loop-object.gathered.items c.loop-object.object c.index-sites-object.result c.split.new.pass c.loop-object.invariant.0 c.loop-object-test.true c.index-sites-object.is
      (c.split.ensures.own, ap {A = Hand} (λ h. h.seen) c.split.ensures.kept ∙ (each-at (λ k s p. g.S.SharedObject.idle s p × ((g.S.SharedObject.hand p).seen ≡ [])) c.args.sites.now c.loop-object.gathered.items c.loop-object.object c.index-sites-object.result c.index_mut.result.now c.loop-object.invariant.0 c.loop-object-test.true c.index-sites-object.is c.index_mut.ensures.value).1)
      (λ k t p lt ne r. r),
  subst (λ (passes : List g.row.S-Pass.Denot). FilledTo (λ k s p. g.S.SharedObject.idle s p × ((g.S.SharedObject.hand p).seen ≡ [])) (c.loop-object.object + 1) c.args.sites.now passes) (sym c.in_ok-push.ensures.items)
      (filled-more (λ k s p. g.S.SharedObject.idle s p × ((g.S.SharedObject.hand p).seen ≡ [])) c.loop-object.object c.args.sites.now c.loop-object.passes.items c.index-sites-object.result c.split.result c.loop-object.invariant.1 c.loop-object-test.true c.index-sites-object.is c.split.ensures.given),
)

pub returns-clause-passes : goal.returns-clause-passes
returns-clause-passes g c = all-filled (λ k s p. g.S.SharedObject.idle s p × ((g.S.SharedObject.hand p).seen ≡ [])) c.loop-object.object c.args.sites.now c.loop-object.passes.items (omega (arith, c.loop-object-test.false, c.loop-object.auto.object-end)) c.loop-object.invariant.1
