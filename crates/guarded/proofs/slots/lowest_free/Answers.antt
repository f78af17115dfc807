-- The first word that is 0 is that of the lowest free descriptor.
use Rattle.std.proofs.Common.{◌<◌, slice_index, ap, ◌∙◌, arith}
use Rattle.guarded.specs.Types.{Hand}
use Rattle.guarded.proofs.Passing.{looks-trans, spun-goes-on}
use Rattle.guarded.proofs.Descriptors.{slot-at, slot-none, slot-open, lowest-found, lowest-none, open-more}
use Rattle.guarded.proofs.slots.lowest_free.Goals as goal

pub returns-then-word-eq0-clause-value : goal.returns-then-word-eq0-clause-value
returns-then-word-eq0-clause-value g c = λ m is same.
    let v = g.L.SiteLock.view c.args.pass.now in
    let fd = c.loop-fd.fd in
    let below : fd < 64 = let test = c.loop-fd-test.true in omega (arith, test) in
    let value = c.word.ensures.value ∙ ap {A = Hand} (λ h. slice_index h.known fd) c.loop-fd.invariant.1.0 in
    lowest-found m fd below (slot-none (m fd) c.word.result (slot-at m v.hand.known fd c.word.result below same value) c.if-word-eq0.true) (c.loop-fd.invariant.3 m is same)

pub loop-fd-preserved : goal.loop-fd-preserved
loop-fd-preserved g c =
    let v = g.L.SiteLock.view c.args.pass.now in
    let u = g.L.SiteLock.view c.loop-fd.pass in
    let w = g.L.SiteLock.view c.word.new.pass in
    let fd = c.loop-fd.fd in
    let below : fd < 64 = let test = c.loop-fd-test.true in omega (arith, test) in
    let value = c.word.ensures.value ∙ ap {A = Hand} (λ h. slice_index h.known fd) c.loop-fd.invariant.1.0 in (
      c.word.ensures.on.own,
      looks-trans v u w c.loop-fd.invariant.1 c.word.ensures.kept,
      (λ p t. c.word.ensures.on.goes_on p (c.loop-fd.invariant.2 p t)),
      (λ m is same. open-more m fd (slot-open (m fd) c.word.result (slot-at m v.hand.known fd c.word.result below same value) c.if-word-eq0.false) (c.loop-fd.invariant.3 m is same)),
      (λ p t. spun-goes-on g.L.SleepLock.spun g.L.SiteLock.with_seat g.met.L.SleepLock.leaves c.loop-fd.pass c.word.new.pass _ c.word.ensures.beside p (c.loop-fd.invariant.4 p t)),
    )

pub returns-clause-value : goal.returns-clause-value
returns-clause-value g c = λ m is same. let out = c.loop-fd-test.false in lowest-none m (λ k l. c.loop-fd.invariant.3 m is same k (omega (arith, out, l)))

pub returns-then-word-eq0-clause-queue : goal.returns-then-word-eq0-clause-queue
returns-then-word-eq0-clause-queue g c = λ p t. spun-goes-on g.L.SleepLock.spun g.L.SiteLock.with_seat g.met.L.SleepLock.leaves c.loop-fd.pass c.word.new.pass _ c.word.ensures.beside p (c.loop-fd.invariant.4 p t)
