use Rattle.std.proofs.Common.{◌∙◌, refl, ap, arith, rules}
use Rattle.rwsem_wake.specs.RwSemViews.{V}
use Rattle.rwsem_wake.specs.RwSemPlaces.{seen_of}
use Rattle.lock_core.proofs.Within.{pending-within}
use Rattle.rwsem_slow.specs.RwSemOpening.{IsOpen}
use Rattle.rwsem_slow.specs.Types.{Hand, Slept, Alone, SemWake}
use Rattle.cpu_task.proofs.SleepCounts.{dozes-again, once-within, turns-again, turns-moved}
use Rattle.rwsem_slow.proofs.Opening.{takes-behind}
use Rattle.rwsem_slow.proofs.writer.sleep.wait.Goals as goal

pub returns-in-Some-sleep-clause-pending : goal.returns-in-Some-sleep-clause-pending
returns-in-Some-sleep-clause-pending g c = let i = c.loop.invariant in let a = i.2.steps in let missed = c.try_queued.ensures.missed c.if-try_queued.false in let b = missed.later in
    pending-within (seen_of c.args.pass.now) (seen_of c.try_queued.new.pass) (seen_of c.sleep.new.pass) (seen_of c.sleep.new.pass)
    (ap (λ (z : V). z.hand.task) missed.is ∙ ap (λ (h : Hand). h.task) i.6.hand) (omega (arith, a, b)) (λ p t. c.try_queued.ensures.goes_on p (i.2.goes_on p t)) c.in-Some-sleep.ensures.pending (omega arith) (λ p t. t)

pub returns-then-try_queued-clause-opened : goal.returns-then-try_queued-clause-opened
returns-then-try_queued-clause-opened g c = let on = c.loop.invariant.2 in
    takes-behind c.args.site.now Alone (IsOpen Slept) c.args.pass.now c.loop.pass c.try_queued.new.pass c.requires.own on.own on.task on.steps on.goes_on (c.try_queued.ensures.opened c.if-try_queued.true)

pub returns-then-try_queued-clause-slept : goal.returns-then-try_queued-clause-slept
returns-then-try_queued-clause-slept g c = let tries = c.try_queued.ensures.entries in turns-moved _ _ _ _ _ _ _ _ c.loop.invariant.7 (omega (arith, tries)) refl c.try_queued.ensures.sleeps

pub returns-in-Some-sleep-clause-awake : goal.returns-in-Some-sleep-clause-awake
returns-in-Some-sleep-clause-awake g c = let tries = c.try_queued.ensures.entries in let enters = c.sleep.ensures.entries in
    turns-moved _ _ _ _ _ _ _ _ c.loop.invariant.7 (omega (arith, tries, enters)) refl (c.in-Some-sleep.ensures.awake ∙ c.try_queued.ensures.sleeps)

pub returns-in-Some-sleep-clause-dozed : goal.returns-in-Some-sleep-clause-dozed
returns-in-Some-sleep-clause-dozed g c = dozes-again _ _ _ _ _ _ _ c.loop.invariant.10 refl (once-within _ _ _ _ _ _ _ _ c.try_queued.ensures.sleeps (ap (λ (b : SemWake). b.dozes) c.try_queued.ensures.waits.is) c.in-Some-sleep.ensures.dozed refl refl)

-- it sleeps, and takes the wait lock anew
pub loop-preserved : goal.loop-preserved
loop-preserved g c = let tries = c.try_queued.ensures.entries in let enters = c.sleep.ensures.entries in let i = c.loop.invariant in
    let once = once-within _ _ _ _ _ _ _ _ c.try_queued.ensures.sleeps (ap (λ (b : SemWake). b.dozes) c.try_queued.ensures.waits.is) c.in_default.ensures.dozed refl refl in (
      tt,
      tt,
      search rules,
      search rules,
      search rules,
      search rules,
      search rules,
      turns-again _ _ _ _ _ _ _ _ i.7 (omega (arith, tries, enters)) once,
      search rules,
      search rules,
      dozes-again _ _ _ _ _ _ _ i.10 refl once,
    )
