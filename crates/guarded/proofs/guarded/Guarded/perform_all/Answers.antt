use Rattle.std.proofs.Common.{[], ◌∷◌, ◌++◌, ◌∙◌, arith}
use Rattle.word_bits.proofs.States.{IsLawful}
use Rattle.lock_core.specs.Kinds.{unavailable}
use Rattle.guarded.proofs.Chained.{one-more, none-done, next-there}
use Rattle.guarded.proofs.guarded.Guarded.perform_all.Given as given
use Rattle.guarded.proofs.guarded.Guarded.perform_all.Goals as goal

lawful : (g : given.Over) → IsLawful g.O.Object.object
lawful g = record {
  starts = g.met.O.Object.starts;
  called = g.met.O.Object.called;
  goes_on = g.met.O.Object.goes_on;
  replies = g.met.O.Object.replies;
}

pub loop-call-init : goal.loop-call-init
loop-call-init g c = (
  c.requires.own,
  (λ p t. t),
  c.requires.numbered,
  c.requires.out,
  c.requires.sent,
  c.requires.consumed,
  ([], none-done g.O.Object.object (unavailable g.L.SleepLock.kind) (g.L.SiteLock.calls_on c.args.self.now.lock) (g.L.SiteLock.view c.args.pass.now).hand c.args.task c.requires.none_done c.requires.none_seen),
  (λ p t. t),
)

pub loop-call-preserved : goal.loop-call-preserved
loop-call-preserved g c =
    let p = c.perform.ensures.performs in
    let done = c.loop-call.invariant.6 in
    let v = g.L.SiteLock.view c.loop-call.pass in
    let u = g.L.SiteLock.view c.perform.new.pass in (
      c.perform.ensures.on.own,
      (λ q t. c.perform.ensures.on.goes_on q (c.loop-call.invariant.1 q t)),
      p.task ∙ c.loop-call.invariant.2,
      p.out,
      p.accounted.0,
      p.accounted.1,
      (done.0 ++ p.rec ∷ [], one-more g.O.Object.object (lawful g) g.L.SleepLock.kind g.L.SleepLock.word_at (g.L.SiteLock.calls_on c.args.self.now.lock) c.args.task c.loop-call.call c.perform.result done.0 v u c.loop-call.invariant.2 p done.1),
      (λ q t. c.perform.ensures.queue q (c.loop-call.invariant.7 q t)),
    )

pub perform-requires-clause-there : goal.perform-requires-clause-there
perform-requires-clause-there g c =
    let l = c.loop-call-test.true in
    let end = c.calls-call-end.ensures in
    next-there (g.L.SiteLock.calls_on c.args.self.now.lock) (g.L.SiteLock.view c.loop-call.pass).hand c.args.task c.loop-call.call c.loop-call.invariant.2 (omega (arith, l, end))
