use Rattle.std.proofs.Common.{subst, sym, ap, ◌∙◌, ◌<◌, Option, Bool, ℕ, IfSome, rules}
use Rattle.mutex_word.specs.OwnerTries.{IsFail, IsOpen, Says}
use Rattle.mutex_word.specs.Types.{Face}
use Rattle.word_bits.specs.declared.TheConstants.{MAX_TASKS}
use Rattle.mutex_word.proofs.Sitting.{its-number}
use Rattle.mutex_word.proofs.Table.{owner-of, says}
use Rattle.mutex_word.proofs.Trying.{may-on, saw-again, came}
use Rattle.mutex_word.proofs.tries.attempt.Goals as goal

pub try_step-requires-clause-word : goal.try_step-requires-clause-word
try_step-requires-clause-word g c = owner-of c.loop.word c.loop.invariant.7.lawful.small

pub try_step-requires-clause-me : goal.try_step-requires-clause-me
try_step-requires-clause-me g c = subst (λ t. IfSome t (λ (n : ℕ). n < MAX_TASKS)) c.requires.numbered (its-number c.args.site.now.small c.requires.own)

pub act-requires-clause-says : goal.act-requires-clause-says
act-requires-clause-says g c = subst (λ (p : Bool × Option ℕ). Says p.0 p.1 c.loop.word c.try_step.result) (λ i. (c.requires.asks i, sym (ap (λ (f : Face). f.task) c.loop.invariant.3 ∙ c.requires.numbered) i)) (says c.loop.word c.args.me c.args.asks c.loop.invariant.7.lawful c.try_step.result c.try_step.ensures.table)

pub act-requires-clause-may : goal.act-requires-clause-may
act-requires-clause-may g c = λ on. may-on g.H.OwnerHost.turned g.H.OwnerHost.may_own g.H.OwnerHost.may_miss g.A.TryKind.asks g.A.TryKind.counts c.args.pass.now.seat.me.0.view c.loop.pass.seat.me.0.view c.loop.word c.requires.may c.loop.invariant.7 (λ f. on (subst (λ (t : Option ℕ). IsFail g.A.TryKind.asks t c.loop.word) (sym (ap (λ (f : Face). f.task) c.loop.invariant.3 ∙ c.requires.own.task)) f))

pub returns-in-Ok-clause-came : goal.returns-in-Ok-clause-came
returns-in-Ok-clause-came g c = came g.H.OwnerHost.turned g.H.OwnerHost.may_own g.H.OwnerHost.may_miss g.A.TryKind.asks g.A.TryKind.counts g.H.O.Object.object c.args.site.now.table.shared.key c.args.pass.now.seat.me.0.view c.loop.pass.seat.me.0.view c.act.new.pass.seat.me.0.view c.loop.word c.in-Ok.end c.loop.invariant.7 c.in-Ok.ensures.ended

pub returns-in-Ok-clause-opened : goal.returns-in-Ok-clause-opened
returns-in-Ok-clause-opened g c = λ took. (c.loop.word, c.in-Ok.ensures.ends, subst (λ (t : Option ℕ). IsOpen t c.loop.word) (ap (λ (f : Face). f.task) c.loop.invariant.3 ∙ c.requires.numbered) (c.in-Ok.ensures.opened took))

pub returns-in-Ok-clause-on : goal.returns-in-Ok-clause-on
returns-in-Ok-clause-on g c = record { own = search rules; goes_on = λ p t. c.act.ensures.on.goes_on p (c.loop.invariant.4 p t); last = search rules }

pub loop-preserved : goal.loop-preserved
loop-preserved g c = (
  tt,
  tt,
  c.act.ensures.on.own,
  c.in-Err.ensures.face ∙ c.loop.invariant.3,
  (λ p t. c.act.ensures.on.goes_on p (c.loop.invariant.4 p t)),
  c.act.ensures.on.last,
  c.in-Err.ensures.found,
  saw-again g.H.OwnerHost.turned g.H.OwnerHost.may_own g.H.OwnerHost.may_miss g.A.TryKind.asks g.A.TryKind.counts c.args.pass.now.seat.me.0.view c.loop.pass.seat.me.0.view c.act.new.pass.seat.me.0.view c.loop.word c.in-Err.found c.loop.invariant.7
      (λ f. c.in-Err.ensures.fits (subst (λ (t : Option ℕ). IsFail g.A.TryKind.asks t c.loop.word) (sym (ap (λ (f : Face). f.task) c.loop.invariant.3 ∙ c.requires.own.task)) f)) c.in-Err.ensures.saw,
)

pub look-word-requires-clause-fails : goal.look-word-requires-clause-fails
look-word-requires-clause-fails g c = λ n f. c.requires.may.fails c.args.pass.now.seat.me.0.view.steps n f
