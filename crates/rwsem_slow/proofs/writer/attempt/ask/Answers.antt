use Rattle.std.proofs.Common.{◌∙◌, ap}
use Rattle.rwsem_slow.specs.Types.{SemHand}
use Rattle.rwsem_wake.specs.RwSemViews.{V}
use Rattle.rwsem_slow.proofs.WaitStates.{tried-same}
use Rattle.rwsem_slow.proofs.WriterSteps.{ask-done}
use Rattle.rwsem_slow.proofs.Joining.{code-waits}
use Rattle.rwsem_slow.proofs.writer.attempt.ask.Goals as goal

pub ask-found-requires-clause-may : goal.ask-found-requires-clause-may
ask-found-requires-clause-may g c = record { knows = c.requires.list.knows; waiting = code-waits c.args.pass.now.seat.me.0.view.ext.list.list c.args.first c.requires.first; stage = ap (λ (s : SemHand). s.stage) c.requires.queued; writes = ap (λ (s : SemHand). s.wait) c.requires.queued; unasked = c.requires.unasked; is = c.requires.asks }

pub mark_asked-requires-clause-asked : goal.mark_asked-requires-clause-asked
mark_asked-requires-clause-asked g c = ap (λ (s : SemHand). s.stage) (ask-done c.args.pass.now.seat.me.0.view c.ask-found.new.pass.seat.me.0.view c.args.old c.ask-found.result c.requires.queued c.ask-found.ensures.kept c.if-found-old.false)

pub mark_asked-requires-clause-writes : goal.mark_asked-requires-clause-writes
mark_asked-requires-clause-writes g c = ap (λ (s : SemHand). s.wait) (ask-done c.args.pass.now.seat.me.0.view c.ask-found.new.pass.seat.me.0.view c.args.old c.ask-found.result c.requires.queued c.ask-found.ensures.kept c.if-found-old.false)

pub mark_asked-requires-clause-clear : goal.mark_asked-requires-clause-clear
mark_asked-requires-clause-clear g c = ap (λ (s : SemHand). s.bias) (ask-done c.args.pass.now.seat.me.0.view c.ask-found.new.pass.seat.me.0.view c.args.old c.ask-found.result c.requires.queued c.ask-found.ensures.kept c.if-found-old.false)

pub returns-clause-tried : goal.returns-clause-tried
returns-clause-tried g c = tried-same c.args.pass.now.seat.me.0.view c.mark_asked.new.pass.seat.me.0.view (ap (λ (z : V). z.ext.wake) c.mark_asked.ensures.kept ∙ ap (λ (z : V). z.ext.wake) c.ask-found.ensures.kept) c.requires.tried
