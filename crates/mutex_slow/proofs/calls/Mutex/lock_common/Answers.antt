use Rattle.std.proofs.Common.{◌≡◌, arith, ap, refl, subst, sym, ◌∙◌, ◌+◌, ℕ, Bool}
use Rattle.std.specs.Prelude.{Ok}
use Rattle.lock_core.specs.Kinds.{mutex}
use Rattle.lock_core.specs.Locking.{Interrupts}
use Rattle.osq_nodes.specs.OsqHandles.{fronts_in, swaps_in}
use Rattle.mutex_slow.specs.Mutexes.{owner_at}
use Rattle.mutex_slow.specs.MutexHandles.{shown_of}
use Rattle.cpu_task.specs.CpuCounting.{SleepsInTurns}
use Rattle.mutex_slow.specs.MutexPlaces.{seen_of}
use Rattle.lock_core.proofs.Within.{err-map, interrupts-fronts, tallies-answer, tried-fronts, tried-interrupts, tried-then}
use Rattle.mutex_slow.specs.MutexPlaces.{CountsBy, CountsInLine, GotInLine, TakesOpen}
use Rattle.mutex_slow.specs.Types.{Interrupted, How, Spun}
use Rattle.cpu_task.proofs.SleepCounts.{dozes-none, dozes-within, rises-on}
use Rattle.mutex_slow.proofs.Opening.{counts-in-line, ok-both, ok-map, opens-within}
use Rattle.mutex_slow.proofs.calls.Mutex.lock_common.Goals as goal

pub returns-clause-interrupted : goal.returns-clause-interrupted
returns-clause-interrupted g c = let before = shown_of c.args.pass.now in let spun = shown_of c.spin.new.pass in let after = shown_of (record { pass = c.lock_in_line-got.new.pass; queue = c.spin.new.pass.queue; tally = c.answer.new.self; wakes = c.spin.new.pass.wakes; dozes = c.lock_in_line-got.new.dozes }) in
    err-map (λ (why : Interrupted). (reads : Bool) → Interrupts mutex reads owner_at why (seen_of c.spin.new.pass.pass) (seen_of c.lock_in_line-got.new.pass)) (λ (why : Interrupted). (reads : Bool) → Interrupts mutex reads owner_at why before after) c.lock_in_line-got.result
    (λ why i reads. tried-interrupts before spun after
    (tried-then (tried-fronts (seen_of c.args.pass.now.pass) (seen_of c.try_outside.new.pass) (fronts_in c.args.pass.now.queue) (fronts_in c.args.pass.now.queue) (swaps_in c.args.pass.now.queue) (swaps_in c.args.pass.now.queue) c.args.pass.now.tally c.args.pass.now.tally (omega arith) c.in-Err.ensures.tried) (c.spin.ensures.missed c.if-spin.false))
    (c.spin.ensures.line ∙ ap (λ (n : ℕ). record { appends = n }) c.try_outside.ensures.same.appends)
    (λ p t. c.spin.ensures.on.goes_on p (c.try_outside.ensures.on.goes_on p t)) (interrupts-fronts (seen_of c.spin.new.pass.pass) (seen_of c.lock_in_line-got.new.pass) (fronts_in c.spin.new.pass.queue) (fronts_in c.spin.new.pass.queue) (swaps_in c.spin.new.pass.queue) (swaps_in c.spin.new.pass.queue) c.spin.new.pass.tally c.answer.new.self (omega arith) (i reads)))
    c.lock_in_line-got.ensures.interrupted

pub returns-then-spin-clause-opened : goal.returns-then-spin-clause-opened
returns-then-spin-clause-opened g c = let before = shown_of c.args.pass.now in let after = shown_of c.spin.new.pass in let mid = shown_of (record { pass = c.try_outside.new.pass; queue = c.args.pass.now.queue; tally = c.args.pass.now.tally; wakes = c.args.pass.now.wakes; dozes = c.args.pass.now.dozes }) in
    opens-within before mid after after c.in-Err.ensures.tried.keeps.task c.in-Err.ensures.tried.keeps.counts.steps c.try_outside.ensures.on.goes_on (c.spin.ensures.opened c.if-spin.true) (omega arith) (λ p t. t)

pub returns-then-spin-clause-counts : goal.returns-then-spin-clause-counts
returns-then-spin-clause-counts g c = let front = c.spin.ensures.front c.if-spin.true in (c.spin.ensures.sleeps, c.spin.ensures.rescheds, λ same. absurd (omega (arith, front, same)))

pub returns-clause-opened : goal.returns-clause-opened
returns-clause-opened g c = let before = shown_of c.args.pass.now in let spun = shown_of c.spin.new.pass in let after = shown_of (record { pass = c.lock_in_line-got.new.pass; queue = c.spin.new.pass.queue; tally = c.answer.new.self; wakes = c.spin.new.pass.wakes; dozes = c.lock_in_line-got.new.dozes }) in
    let tried = tried-then (tried-fronts (seen_of c.args.pass.now.pass) (seen_of c.try_outside.new.pass) (fronts_in c.args.pass.now.queue) (fronts_in c.args.pass.now.queue) (swaps_in c.args.pass.now.queue) (swaps_in c.args.pass.now.queue) c.args.pass.now.tally c.args.pass.now.tally (omega arith) c.in-Err.ensures.tried) (c.spin.ensures.missed c.if-spin.false) in
    ok-map (λ (how : How). TakesOpen (seen_of c.spin.new.pass.pass) (seen_of c.lock_in_line-got.new.pass)) (λ (how : How). TakesOpen before after) c.lock_in_line-got.result
    (λ how f. opens-within before spun after after tried.keeps.task tried.keeps.counts.steps (λ p t. c.spin.ensures.on.goes_on p (c.try_outside.ensures.on.goes_on p t)) f (omega arith) (λ p t. t)) c.lock_in_line-got.ensures.opened

pub returns-clause-counts : goal.returns-clause-counts
returns-clause-counts g c = let sleeps = g.C.Cpu.sleeps in let rescheds = g.C.Cpu.rescheds in let before = shown_of c.args.pass.now in let spun = seen_of c.spin.new.pass.pass in let after = seen_of c.lock_in_line-got.new.pass in let spins = c.spin.ensures.entries in let tries = c.try_outside.ensures.same.entries in
    ok-both (λ (how : How). GotInLine how spun after) (λ (how : How). how ≡ Spun → sleeps c.lock_in_line-got.new.cpu ≡ sleeps c.spin.new.cpu) (λ (how : How). CountsBy how (sleeps c.args.cpu.now) (sleeps c.lock_in_line-got.new.cpu) (rescheds c.args.cpu.now) (rescheds c.lock_in_line-got.new.cpu) before (shown_of (record { pass = c.lock_in_line-got.new.pass; queue = c.spin.new.pass.queue; tally = c.answer.new.self; wakes = c.spin.new.pass.wakes; dozes = c.lock_in_line-got.new.dozes }))) c.lock_in_line-got.result
    (λ how got awake. counts-in-line how (sleeps c.args.cpu.now) (sleeps c.lock_in_line-got.new.cpu) (rescheds c.args.cpu.now) (rescheds c.spin.new.cpu) (rescheds c.lock_in_line-got.new.cpu) before spun after (shown_of (record { pass = c.lock_in_line-got.new.pass; queue = c.spin.new.pass.queue; tally = c.answer.new.self; wakes = c.spin.new.pass.wakes; dozes = c.lock_in_line-got.new.dozes })) got (omega (arith, spins, tries))
    (subst (λ (n : ℕ). SleepsInTurns (spun.spin.entries + 1) after.spin.entries n (sleeps c.lock_in_line-got.new.cpu)) c.spin.ensures.sleeps c.lock_in_line-got.ensures.sleeps) (λ is. awake is ∙ c.spin.ensures.sleeps) c.spin.ensures.rescheds (c.spin.ensures.stops c.if-spin.false) c.lock_in_line-got.ensures.rescheds)
    c.lock_in_line-got.ensures.how c.lock_in_line-got.ensures.awake

pub returns-clause-slept : goal.returns-clause-slept
returns-clause-slept g c = let sleeps = g.C.Cpu.sleeps in let rescheds = g.C.Cpu.rescheds in let before = shown_of c.args.pass.now in let spun = seen_of c.spin.new.pass.pass in let after = seen_of c.lock_in_line-got.new.pass in let spins = c.spin.ensures.entries in let tries = c.try_outside.ensures.same.entries in
    let turns = subst (λ (n : ℕ). SleepsInTurns (spun.spin.entries + 1) after.spin.entries n (sleeps c.lock_in_line-got.new.cpu)) c.spin.ensures.sleeps c.lock_in_line-got.ensures.sleeps in let is = turns.1 in let less = c.spin.ensures.rescheds in let more = c.lock_in_line-got.ensures.rescheds in
    err-map (λ (why : Interrupted). (reads : Bool) → Interrupts mutex reads owner_at why spun after) (λ (why : Interrupted). CountsInLine (sleeps c.args.cpu.now) (sleeps c.lock_in_line-got.new.cpu) (rescheds c.args.cpu.now) (rescheds c.lock_in_line-got.new.cpu) before (shown_of (record { pass = c.lock_in_line-got.new.pass; queue = c.spin.new.pass.queue; tally = c.answer.new.self; wakes = c.spin.new.pass.wakes; dozes = c.lock_in_line-got.new.dozes }))) c.lock_in_line-got.result
    (λ why _. ((turns.0, omega (arith, is, spins, tries), turns.2), omega (arith, less, more), rises-on (rescheds c.args.cpu.now) (rescheds c.spin.new.cpu) (rescheds c.lock_in_line-got.new.cpu) (c.spin.ensures.stops c.if-spin.false) more))
    c.lock_in_line-got.ensures.interrupted

pub returns-then-spin-clause-on : goal.returns-then-spin-clause-on
returns-then-spin-clause-on g c = record { own = c.spin.ensures.on.own; goes_on = λ p t. c.spin.ensures.on.goes_on p (c.try_outside.ensures.on.goes_on p t) }

pub returns-clause-tallied : goal.returns-clause-tallied
returns-clause-tallied g c = tallies-answer c.lock_in_line-got.result (shown_of c.args.pass.now) (shown_of c.spin.new.pass) (shown_of (record { pass = c.lock_in_line-got.new.pass; queue = c.spin.new.pass.queue; tally = c.answer.new.self; wakes = c.spin.new.pass.wakes; dozes = c.lock_in_line-got.new.dozes })) c.spin.ensures.tallied c.answer.ensures refl refl

pub returns-clause-left : goal.returns-clause-left
returns-clause-left g c = let rescheds = g.C.Cpu.rescheds in λ _. rises-on (rescheds c.args.cpu.now) (rescheds c.spin.new.cpu) (rescheds c.lock_in_line-got.new.cpu) (c.spin.ensures.stops c.if-spin.false) c.lock_in_line-got.ensures.rescheds

pub returns-then-spin-clause-tallied : goal.returns-then-spin-clause-tallied
returns-then-spin-clause-tallied g c = tallies-answer (Ok Spun) (shown_of c.args.pass.now) (shown_of c.spin.new.pass) (shown_of c.spin.new.pass) c.spin.ensures.tallied refl refl refl

pub returns-then-spin-clause-dozed : goal.returns-then-spin-clause-dozed
returns-then-spin-clause-dozed g c = dozes-none _ _ _ _ c.spin.ensures.sleeps c.spin.ensures.still.dozes

pub returns-clause-dozed : goal.returns-clause-dozed
returns-clause-dozed g c = let sleeps = g.C.Cpu.sleeps in dozes-within _ _ (sleeps c.lock_in_line-got.new.cpu) (sleeps c.lock_in_line-got.new.cpu) _ _ _ _ c.spin.ensures.sleeps (sym c.spin.ensures.on.own.dozed ∙ c.spin.ensures.still.dozes) c.lock_in_line-got.ensures.dozed refl c.lock_in_line-got.ensures.counted
