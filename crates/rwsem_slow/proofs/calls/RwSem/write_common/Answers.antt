use Rattle.std.proofs.Common.{◌≡◌, ◌∙◌, ℕ, false, refl, sym, ap, subst, arith, rules}
use Rattle.std.specs.Prelude.{Ok}
use Rattle.cpu_task.specs.CpuCounting.{Rises}
use Rattle.lock_core.proofs.Within.{err-all, tallies-answer, tried-then}
use Rattle.osq_nodes.specs.OsqHandles.{fronts_in, swaps_in}
use Rattle.rwsem_slow.specs.RwSemHandles.{shown_of}
use Rattle.rwsem_wake.specs.RwSemViews.{V}
use Rattle.cpu_task.proofs.SleepCounts.{dozes-none}
use Rattle.rwsem_slow.proofs.Counting.{err-turns, left-counts, ok-turns, slept-counts}
use Rattle.rwsem_slow.proofs.Showing.{first-sees, first-tried, spun-sees, waits-quit}
use Rattle.rwsem_slow.specs.RwSemOpening.{IsOpen}
use Rattle.rwsem_slow.specs.Types.{Tally, Fast, Spun, Alone}
use Rattle.rwsem_slow.proofs.Opening.{slept-takes, takes-within, took-since}
use Rattle.rwsem_slow.proofs.calls.RwSem.write_common.Goals as goal

pub returns-clause-interrupted : goal.returns-clause-interrupted
returns-clause-interrupted g c = let fronts = fronts_in c.args.pass.now.queue in let swaps = swaps_in c.args.pass.now.queue in let tally = c.args.pass.now.tally in let word = c.in-Err.field-0 in let v = c.args.pass.now.pass.seat.me.0 in let a = c.write_try.new.pass.seat.me.0 in let m = c.spin.new.pass.pass.seat.me.0 in let u = c.write_in_line-got.new.pass.seat.me.0 in
    let first = shown_of (record { pass = c.write_try.new.pass; queue = c.args.pass.now.queue; tally = c.args.pass.now.tally; counts = c.args.pass.now.counts }) in let spun = shown_of c.spin.new.pass in
    let is = c.in-Err.ensures.missed in let shut = c.in-Err.ensures.shut in let hand = ap (λ (z : V). z.hand) is in let steps = ap (λ (z : V). z.steps) is in let appends = ap (λ (z : V). z.ext.appends) is in
    let tried = first-tried fronts swaps tally word v.view a.view v.past a.past hand steps (ap (λ (z : V). z.spin.entries) is) appends in let failed = c.spin.ensures.missed c.if-spin.false in
    let sees = spun-sees (shown_of c.args.pass.now) first spun word tried c.write_try.ensures.on.goes_on (first-sees fronts swaps tally word v.view a.view v.past a.past hand steps false c.write_try.ensures.on.last c.in-Err.ensures.found c.write_try.ensures.on.goes_on (shut.1, shut.0)) failed c.spin.ensures.on.goes_on (c.spin.ensures.saw c.if-spin.false) in
    waits-quit (fronts_in c.spin.new.pass.queue) (swaps_in c.spin.new.pass.queue) c.spin.new.pass.tally c.answer.new.self false sees.0 (shown_of c.args.pass.now) m.view u.view m.past u.past
    (tried-then tried failed) (c.spin.ensures.line ∙ ap (λ (n : ℕ). record { appends = n }) appends) (λ p t. c.spin.ensures.on.goes_on p (c.write_try.ensures.on.goes_on p t)) (c.spin.ensures.out c.if-spin.false) sees.1
    c.write_in_line-got.ensures.on.steps c.write_in_line-got.ensures.on.goes_on
    c.write_in_line-got.result (err-all c.write_in_line-got.result c.write_in_line-got.ensures.lock) c.write_in_line-got.ensures.waited c.write_in_line-got.ensures.consumed c.write_in_line-got.ensures.pending

pub returns-in_default-clause-opened : goal.returns-in_default-clause-opened
returns-in_default-clause-opened g c = let v = c.args.pass.now.pass.seat.me.0 in let u = c.write_try.new.pass.seat.me.0 in let shown_v = shown_of c.args.pass.now in let noted = ap (λ (z : V). z.steps) c.note_writer.ensures.kept in
    takes-within Alone (IsOpen Fast) shown_v shown_v (shown_of (record { pass = c.write_try.new.pass; queue = c.args.pass.now.queue; tally = c.args.pass.now.tally; counts = c.args.pass.now.counts })) (shown_of (record { pass = c.note_writer.new.pass; queue = c.args.pass.now.queue; tally = c.args.pass.now.tally; counts = c.args.pass.now.counts })) refl (omega arith) (λ p t. t)
    (took-since g.O.Object.object c.args.self.now.site.table.shared.key Alone (IsOpen Fast) v.view u.view v.past u.past 0 (v.view.steps, omega arith, c.in_default.ensures.took) c.write_try.ensures.on.last c.write_try.ensures.on.goes_on c.in_default.ensures.free refl)
    (omega (arith, noted)) c.note_writer.ensures.on.goes_on

pub returns-then-spin-clause-opened : goal.returns-then-spin-clause-opened
returns-then-spin-clause-opened g c = let is = c.in-Err.ensures.missed in let steps = ap (λ (z : V). z.steps) is in let after = shown_of c.spin.new.pass in
    takes-within Alone (IsOpen Spun) (shown_of c.args.pass.now) (shown_of (record { pass = c.write_try.new.pass; queue = c.args.pass.now.queue; tally = c.args.pass.now.tally; counts = c.args.pass.now.counts })) after after
    (ap (λ (z : V). z.hand.task) is) (omega (arith, steps)) c.write_try.ensures.on.goes_on (c.spin.ensures.opened c.if-spin.true) (omega arith) (λ p t. t)

pub returns-clause-opened : goal.returns-clause-opened
returns-clause-opened g c = let is = c.in-Err.ensures.missed in let steps = ap (λ (z : V). z.steps) is in let failed = c.spin.ensures.missed c.if-spin.false in let more = failed.keeps.counts.steps in let after = shown_of (record { pass = c.write_in_line-got.new.pass; queue = c.spin.new.pass.queue; tally = c.answer.new.self; counts = c.write_in_line-got.new.counts }) in
    slept-takes (shown_of c.args.pass.now) (shown_of c.spin.new.pass) after after c.write_in_line-got.result (failed.keeps.task ∙ ap (λ (z : V). z.hand.task) is) (omega (arith, steps, more)) (λ p t. c.spin.ensures.on.goes_on p (c.write_try.ensures.on.goes_on p t)) (omega arith) (λ p t. t) c.write_in_line-got.ensures.slept c.write_in_line-got.ensures.opened

-- the entries of the wait lock up to the list
pub returns-clause-counts : goal.returns-clause-counts
returns-clause-counts g c = let entries : c.spin.new.pass.pass.seat.me.0.view.spin.entries ≡ c.args.pass.now.pass.seat.me.0.view.spin.entries = c.spin.ensures.entries ∙ ap (λ (z : V). z.spin.entries) c.in-Err.ensures.missed in let spun = c.spin.ensures.rescheds in let same = c.write_in_line-got.ensures.rescheds in
    slept-counts _ _ _ _ (shown_of c.args.pass.now) (shown_of (record { pass = c.write_in_line-got.new.pass; queue = c.spin.new.pass.queue; tally = c.answer.new.self; counts = c.write_in_line-got.new.counts })) c.write_in_line-got.result c.write_in_line-got.ensures.slept
    (ok-turns 1 _ _ _ _ _ _ c.write_in_line-got.result entries c.spin.ensures.sleeps c.write_in_line-got.ensures.turns) (omega (arith, spun, same))

pub returns-clause-slept : goal.returns-clause-slept
returns-clause-slept g c = let entries : c.spin.new.pass.pass.seat.me.0.view.spin.entries ≡ c.args.pass.now.pass.seat.me.0.view.spin.entries = c.spin.ensures.entries ∙ ap (λ (z : V). z.spin.entries) c.in-Err.ensures.missed in let spun = c.spin.ensures.rescheds in let same = c.write_in_line-got.ensures.rescheds in
    left-counts _ _ _ _ (shown_of c.args.pass.now) (shown_of (record { pass = c.write_in_line-got.new.pass; queue = c.spin.new.pass.queue; tally = c.answer.new.self; counts = c.write_in_line-got.new.counts })) c.write_in_line-got.result
    (err-turns 2 _ _ _ _ _ _ c.write_in_line-got.result entries c.spin.ensures.sleeps c.write_in_line-got.ensures.awake) (omega (arith, spun, same))

pub returns-then-spin-clause-on : goal.returns-then-spin-clause-on
returns-then-spin-clause-on g c = record { own = c.spin.ensures.on.own; goes_on = λ p t. c.spin.ensures.on.goes_on p (c.write_try.ensures.on.goes_on p t) }

pub returns-clause-on : goal.returns-clause-on
returns-clause-on g c = record { own = search rules; goes_on = λ p t. c.write_in_line-got.ensures.on.goes_on p (c.spin.ensures.on.goes_on p (c.write_try.ensures.on.goes_on p t)) }

pub returns-then-spin-clause-tallied : goal.returns-then-spin-clause-tallied
returns-then-spin-clause-tallied g c = tallies-answer (Ok Spun) (shown_of c.args.pass.now) (shown_of c.spin.new.pass) (shown_of c.spin.new.pass) c.spin.ensures.tallied refl refl refl

pub returns-clause-tallied : goal.returns-clause-tallied
returns-clause-tallied g c = tallies-answer c.write_in_line-got.result (shown_of c.args.pass.now) (shown_of c.spin.new.pass) (shown_of (record { pass = c.write_in_line-got.new.pass; queue = c.spin.new.pass.queue; tally = c.answer.new.self; counts = c.write_in_line-got.new.counts })) c.spin.ensures.tallied c.answer.ensures refl refl

pub returns-clause-left : goal.returns-clause-left
returns-clause-left g c = λ other. subst (Rises (g.C.C.Cpu.rescheds c.args.cpu.now)) (sym c.write_in_line-got.ensures.rescheds) (c.spin.ensures.left (λ same. other (ap (λ (t : Tally). t.left) c.answer.ensures ∙ same)))

pub returns-then-spin-clause-dozed : goal.returns-then-spin-clause-dozed
returns-then-spin-clause-dozed g c = dozes-none _ _ _ _ c.spin.ensures.sleeps c.spin.ensures.still.dozes
