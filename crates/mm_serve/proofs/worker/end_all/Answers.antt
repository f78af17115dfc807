use Rattle.std.proofs.Common.{◌≡◌, arith, length}
use Rattle.lock_core.specs.Records.{row}
use Rattle.mm_serve.specs.MachineHistories.{HasDoneOn}
use Rattle.mm_serve.specs.MachineQueues.{GoesBackToTask}
use Rattle.mm_serve.proofs.Each.{between-none, between-at, between-next, between-all}
use Rattle.mm_serve.proofs.worker.end_all.Goals as goal

pub loop-object-init : goal.loop-object-init
loop-object-init g c = between-none (λ k s p. g.S.SharedObject.idle s p × HasDoneOn (g.S.SharedObject.is_space s) (g.S.SharedObject.calls_on s) (g.S.SharedObject.hand p) c.args.task × GoesBackToTask g.S.SharedObject.looked_back g.S.SharedObject.past g.S.SharedObject.spun s c.args.task p) (λ k s p. g.S.SharedObject.serving s p c.args.task × ((g.S.SharedObject.hand p).done ≡ length (row (g.S.SharedObject.calls_on s) c.args.task))) c.args.sites.now c.args.passes.now.items c.requires.passes

pub end-requires-clause-own : goal.end-requires-clause-own
end-requires-clause-own g c = (between-at (λ k s p. g.S.SharedObject.idle s p × HasDoneOn (g.S.SharedObject.is_space s) (g.S.SharedObject.calls_on s) (g.S.SharedObject.hand p) c.args.task × GoesBackToTask g.S.SharedObject.looked_back g.S.SharedObject.past g.S.SharedObject.spun s c.args.task p) (λ k s p. g.S.SharedObject.serving s p c.args.task × ((g.S.SharedObject.hand p).done ≡ length (row (g.S.SharedObject.calls_on s) c.args.task))) c.args.sites.now c.loop-object.passes.items c.loop-object.object c.index-sites-object.result c.index_mut.result.now c.loop-object.invariant c.loop-object-test.true c.index-sites-object.is c.index_mut.ensures.value).0

pub end-requires-clause-all : goal.end-requires-clause-all
end-requires-clause-all g c = (between-at (λ k s p. g.S.SharedObject.idle s p × HasDoneOn (g.S.SharedObject.is_space s) (g.S.SharedObject.calls_on s) (g.S.SharedObject.hand p) c.args.task × GoesBackToTask g.S.SharedObject.looked_back g.S.SharedObject.past g.S.SharedObject.spun s c.args.task p) (λ k s p. g.S.SharedObject.serving s p c.args.task × ((g.S.SharedObject.hand p).done ≡ length (row (g.S.SharedObject.calls_on s) c.args.task))) c.args.sites.now c.loop-object.passes.items c.loop-object.object c.index-sites-object.result c.index_mut.result.now c.loop-object.invariant c.loop-object-test.true c.index-sites-object.is c.index_mut.ensures.value).1

pub loop-object-preserved : goal.loop-object-preserved
loop-object-preserved g c = between-next (λ k s p. g.S.SharedObject.idle s p × HasDoneOn (g.S.SharedObject.is_space s) (g.S.SharedObject.calls_on s) (g.S.SharedObject.hand p) c.args.task × GoesBackToTask g.S.SharedObject.looked_back g.S.SharedObject.past g.S.SharedObject.spun s c.args.task p) (λ k s p. g.S.SharedObject.serving s p c.args.task × ((g.S.SharedObject.hand p).done ≡ length (row (g.S.SharedObject.calls_on s) c.args.task))) c.args.sites.now c.loop-object.passes.items c.loop-object.object c.index-sites-object.result c.end.new.pass c.loop-object.invariant c.loop-object-test.true c.index-sites-object.is (c.end.ensures.own, c.end.ensures.done, c.end.ensures.looks)

pub returns : goal.returns
returns g c = between-all (λ k s p. g.S.SharedObject.idle s p × HasDoneOn (g.S.SharedObject.is_space s) (g.S.SharedObject.calls_on s) (g.S.SharedObject.hand p) c.args.task × GoesBackToTask g.S.SharedObject.looked_back g.S.SharedObject.past g.S.SharedObject.spun s c.args.task p) (λ k s p. g.S.SharedObject.serving s p c.args.task × ((g.S.SharedObject.hand p).done ≡ length (row (g.S.SharedObject.calls_on s) c.args.task))) c.args.sites.now c.loop-object.passes.items c.loop-object.object (omega (arith, c.loop-object-test.false)) c.loop-object.invariant
