use Rattle.std.proofs.Common.{◌∙◌, sym, ap, inl}
use Rattle.rwsem_slow.specs.Types.{SemHand}
use Rattle.rwsem_slow.proofs.WriterSteps.{quit-cleared, quit-sem, quit-unmarked}
use Rattle.rwsem_slow.proofs.writer.queue.quit_taken.Goals as goal

pub remove-requires-clause-task : goal.remove-requires-clause-task
remove-requires-clause-task g c = (c.requires.own.planned c.in-Some.task (sym c.task.ensures ∙ c.in-Some.is)).0

pub remove-requires-clause-host : goal.remove-requires-clause-host
remove-requires-clause-host g c = λ l same. inl (ap (λ (s : SemHand). s.stage) c.requires.took, sym c.requires.own.task ∙ (sym c.task.ensures ∙ c.in-Some.is), ap (λ (s : SemHand). s.wait) c.requires.took, ap (λ (s : SemHand). s.bias) c.requires.took)

pub look_own-requires-clause-removed : goal.look_own-requires-clause-removed
look_own-requires-clause-removed g c = ap (λ (s : SemHand). s.stage) (quit-sem c.args.pass.now.seat.me.0.view c.remove.new.pass.seat.me.0.view c.in-Some.task c.requires.took c.requires.locked c.remove.ensures.later c.remove.ensures.kept)

pub look_own-requires-clause-clear : goal.look_own-requires-clause-clear
look_own-requires-clause-clear g c = ap (λ (s : SemHand). s.bias) (quit-sem c.args.pass.now.seat.me.0.view c.remove.new.pass.seat.me.0.view c.in-Some.task c.requires.took c.requires.locked c.remove.ensures.later c.remove.ensures.kept)

pub look_own-requires-clause-task : goal.look_own-requires-clause-task
look_own-requires-clause-task g c = (c.requires.own.planned c.in-Some.task (sym c.task.ensures ∙ c.in-Some.is)).0

pub clear_own-requires-clause-task : goal.clear_own-requires-clause-task
clear_own-requires-clause-task g c = (c.requires.own.planned c.in-Some.task (sym c.task.ensures ∙ c.in-Some.is)).0

pub returns-then-look_own-ne0-clause-gone : goal.returns-then-look_own-ne0-clause-gone
returns-then-look_own-ne0-clause-gone g c = quit-cleared c.args.pass.now.seat.me.0.view c.remove.new.pass.seat.me.0.view c.in-Some.task c.requires.took c.requires.locked c.remove.ensures.later c.remove.ensures.kept c.look_own.new.pass.seat.me.0.view c.look_own.result c.if-look_own-ne0.true c.look_own.ensures.kept c.clear_own.new.pass.seat.me.0.view c.clear_own.ensures.kept

pub returns-else-look_own-ne0-clause-gone : goal.returns-else-look_own-ne0-clause-gone
returns-else-look_own-ne0-clause-gone g c = quit-unmarked c.args.pass.now.seat.me.0.view c.remove.new.pass.seat.me.0.view c.in-Some.task c.requires.took c.requires.locked c.remove.ensures.later c.remove.ensures.kept c.look_own.new.pass.seat.me.0.view c.look_own.result c.if-look_own-ne0.false c.look_own.ensures.kept
