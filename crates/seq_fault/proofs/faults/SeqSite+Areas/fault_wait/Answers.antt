-- Before each try the pass knows what it knew before the first.
use Rattle.std.proofs.Common.{◌∙◌, IsSome, ap, arith, refl, subst, sym}
use Rattle.seq_fault.specs.SeqRuled.{V}
use Rattle.seq_fault.specs.SeqSteps.{HasNextFault}
use Rattle.seq_fault.specs.Types.{Face, Hand}
use Rattle.seq_fault.proofs.Faulting.{one-word-since}
use Rattle.seq_fault.proofs.faults.SeqSite+Areas.fault_wait.Goals as goal

pub loop-init : goal.loop-init
loop-init g c = (tt, tt, c.requires.own, refl, (λ p t. t), (c.args.pass.now.pass.seat.me.0.view.steps, c.args.pass.now.pass.seat.me.0.view.ext, omega arith, refl))

pub loop-preserved : goal.loop-preserved
loop-preserved g c = let was = c.loop.invariant.5 in let kept = c.in_default.ensures.kept in let more = kept.2 in let before = was.2 in let steps = ap (λ (v : V). v.steps) was.3 in (
  tt,
  tt,
  c.fault.ensures.on.own,
  c.in_default.ensures.face ∙ c.loop.invariant.3,
  (λ p t. c.fault.ensures.on.goes_on p (c.loop.invariant.4 p t)),
  (kept.0, kept.1, omega (arith, more, before, steps), kept.3 ∙ ap (λ (v : V). record v { steps = kept.0; ext = kept.1 }) was.3),
)

pub fault-requires-clause-own : goal.fault-requires-clause-own
fault-requires-clause-own g c = c.loop.invariant.2

pub fault-requires-clause-numbered : goal.fault-requires-clause-numbered
fault-requires-clause-numbered g c = subst IsSome (sym (ap (λ (f : Face). f.task) c.loop.invariant.3)) c.requires.numbered

pub fault-requires-clause-out : goal.fault-requires-clause-out
fault-requires-clause-out g c = ap (λ (f : Face). f.held) c.loop.invariant.3 ∙ c.requires.out

pub fault-requires-clause-call : goal.fault-requires-clause-call
fault-requires-clause-call g c = c.requires.call ∙ sym (ap (λ (f : Face). f.done) c.loop.invariant.3)

pub fault-requires-clause-recorded : goal.fault-requires-clause-recorded
fault-requires-clause-recorded g c = (ap (λ (v : V). v.hand.sent) c.loop.invariant.5.3 ∙ c.requires.recorded.0, ap (λ (v : V). v.hand.consumed) c.loop.invariant.5.3 ∙ c.requires.recorded.1)

pub fault-requires-clause-next : goal.fault-requires-clause-next
fault-requires-clause-next g c = subst (λ (h : Hand). HasNextFault c.args.self.now.site.table.shared.key h) (sym (ap (λ (v : V). v.hand) c.loop.invariant.5.3)) c.requires.next

pub returns-in-Ok-clause-read : goal.returns-in-Ok-clause-read
returns-in-Ok-clause-read g c = let i = c.loop.invariant in (c.loop.pass.pass.seat.me.0.view, i.5, one-word-since 2 c.fault.new.pass.pass.face.front c.loop.pass.pass.seat.me.0.view c.fault.new.pass.pass.seat.me.0.view _ _ _ i.4 c.in-Ok.ensures.read)

pub returns-in-Ok-clause-on : goal.returns-in-Ok-clause-on
returns-in-Ok-clause-on g c = record { own = c.fault.ensures.on.own; goes_on = λ p t. c.fault.ensures.on.goes_on p (c.loop.invariant.4 p t) }
