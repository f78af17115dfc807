use Rattle.std.proofs.Common.{◌∙◌, refl, ap, arith, rules}
use Rattle.rwsem_slow.specs.Types.{Hand}
use Rattle.rwsem_wake.specs.RwSemViews.{V}
use Rattle.rwsem_wake.specs.RwSemPlaces.{seen_of}
use Rattle.lock_core.proofs.Within.{pending-within}
use Rattle.cpu_task.proofs.SleepCounts.{dozes-again}
use Rattle.rwsem_slow.proofs.Counting.{between-again, between-on}
use Rattle.rwsem_slow.proofs.ReaderSteps.{dozes-since, waits-again}
use Rattle.rwsem_slow.proofs.WaitStates.{reader-sleeps, tried-same}
use Rattle.rwsem_slow.proofs.reader.sleep.wait.Goals as goal

pub returns-then-quit-clause-pending : goal.returns-then-quit-clause-pending
returns-then-quit-clause-pending g c = let i = c.loop.invariant in let a = i.2.steps in let b = c.hear.ensures.later in let q = c.quit.ensures.on.steps in
    pending-within (seen_of c.args.pass.now) (seen_of c.hear.new.pass) (seen_of c.pending.new.pass) (seen_of c.quit.new.pass)
    (ap (λ (z : V). z.hand.task) (c.hear.ensures.missed c.if-hear.false).is ∙ ap (λ (h : Hand). h.task) i.5.hand) (omega (arith, a, b)) (λ p t. c.hear.ensures.goes_on p (i.2.goes_on p t)) c.in-Some-pending.ensures.pending q c.quit.ensures.on.goes_on

pub returns-then-hear-clause-sleeps : goal.returns-then-hear-clause-sleeps
returns-then-hear-clause-sleeps g c = let hears = c.hear.ensures.later in between-on _ _ _ _ _ _ _ _ c.loop.invariant.7 (omega arith) (omega (arith, hears)) refl refl

pub returns-then-quit-clause-sleeps : goal.returns-then-quit-clause-sleeps
returns-then-quit-clause-sleeps g c = let hears = c.hear.ensures.later in let listens = c.pending.ensures.on.steps in let quits = c.quit.ensures.on.steps in between-on _ _ _ _ _ _ _ _ c.loop.invariant.7 (omega arith) (omega (arith, hears, listens, quits)) refl c.quit.ensures.sleeps

pub doze-requires-clause-tried : goal.doze-requires-clause-tried
doze-requires-clause-tried g c = let u = c.loop.pass.seat.me.0.view in let h = c.hear.new.pass.seat.me.0.view in let p = c.pending.new.pass.seat.me.0.view in let listens = c.pending.ensures.listens in
    reader-sleeps u h p c.loop.invariant.5.line (c.hear.ensures.missed c.if-hear.false) listens (tried-same h p (ap (λ (z : V). z.ext.wake) listens) (c.hear.ensures.tried c.if-hear.false))

-- it sleeps behind its look at the grant word
pub loop-preserved : goal.loop-preserved
loop-preserved g c = let i = c.loop.invariant in let u = c.loop.pass.seat.me.0.view in let h = c.hear.new.pass.seat.me.0.view in let p = c.pending.new.pass.seat.me.0.view in let d = c.doze.new.pass.seat.me.0.view in let tries = c.hear.ensures.missed c.if-hear.false in let listens = c.pending.ensures.listens in
    let hears = c.hear.ensures.later in let pends = c.pending.ensures.on.steps in let sleeps = ap (λ (z : V). z.steps) c.doze.ensures.tries.1 in let tried = tried-same h p (ap (λ (z : V). z.ext.wake) listens) (c.hear.ensures.tried c.if-hear.false) in (
      tt,
      tt,
      search rules,
      search rules,
      search rules,
      waits-again c.args.pass.now.seat.me.0.view u h p d i.5 tries listens tried (omega (arith, hears)) pends c.doze.ensures.tries,
      search rules,
      between-again _ _ _ _ _ _ _ _ i.7 (omega (arith, hears, pends, sleeps)) c.doze.ensures.dozed,
      search rules,
      search rules,
      dozes-again _ _ _ _ _ _ _ i.10 (dozes-since u h p tries listens) c.doze.ensures.dozed,
    )
