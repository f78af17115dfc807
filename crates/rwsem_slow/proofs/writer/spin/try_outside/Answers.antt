use Rattle.std.proofs.Common.{◌∙◌, false, sym, ap, arith}
use Rattle.lock_core.specs.Shown.{shown}
use Rattle.lock_core.specs.Tallies.{no_tally}
use Rattle.lock_core.proofs.Within.{sees-fronts}
use Rattle.rwsem_wake.specs.RwSemPlaces.{line_of}
use Rattle.rwsem_wake.specs.RwSemViews.{V}
use Rattle.rwsem_slow.proofs.Showing.{misses-by}
use Rattle.rwsem_slow.proofs.Unqueued.{misses-tried}
use Rattle.rwsem_slow.specs.RwSemOpening.{IsOpen}
use Rattle.rwsem_slow.specs.Types.{Spun, Alone}
use Rattle.rwsem_slow.proofs.Opening.{took-since}
use Rattle.rwsem_slow.proofs.writer.spin.try_outside.Goals as goal

pub returns-in-Err-clause-missed : goal.returns-in-Err-clause-missed
returns-in-Err-clause-missed g c = λ is. misses-tried c.args.pass.now.seat.me.0.view.fronts c.try_unqueued.new.pass.seat.me.0.view.fronts c.args.pass.now.seat.me.0.view c.try_unqueued.new.pass.seat.me.0.view c.args.pass.now.seat.me.0.past c.try_unqueued.new.pass.seat.me.0.past c.in-Err.field-0 (let e = ap (λ (z : V). z.fronts) c.in-Err.ensures.missed.2 in omega (arith, e)) c.in-Err.ensures.missed

pub returns-in-Err-clause-saw : goal.returns-in-Err-clause-saw
returns-in-Err-clause-saw g c = λ is. let v = c.args.pass.now.seat.me.0 in let u = c.try_unqueued.new.pass.seat.me.0 in let missed = c.in-Err.ensures.missed in (
  c.in-Err.field-0,
  sees-fronts (shown line_of v.view.fronts v.view v.past) (shown line_of v.view.fronts u.view u.past) v.view.fronts u.view.fronts 0 0 no_tally no_tally
      (misses-by v.view.fronts 0 no_tally v.view u.view v.past u.past (sym c.requires.own.held ∙ c.requires.out) c.try_unqueued.ensures.on.last c.try_unqueued.ensures.on.goes_on false c.in-Err.field-0 missed.0 missed.1 missed.2 c.in-Err.ensures.found c.in-Err.ensures.shut).sees,
)

pub returns-in-Ok-clause-opened : goal.returns-in-Ok-clause-opened
returns-in-Ok-clause-opened g c = λ _. let v = c.args.pass.now.seat.me.0 in let u = c.try_unqueued.new.pass.seat.me.0 in let free = c.in-Ok.ensures.opened in
    took-since g.O.Object.object c.args.site.now.table.shared.key Alone (IsOpen Spun) v.view u.view v.past u.past free.0 c.in-Ok.ensures.took c.try_unqueued.ensures.on.last c.try_unqueued.ensures.on.goes_on free.1 free.2
