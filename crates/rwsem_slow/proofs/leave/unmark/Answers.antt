use Rattle.std.proofs.Common.{◌∙◌, inl, sym, ap, Bool}
use Rattle.rwsem_wake.specs.Duties.{saw_mark}
use Rattle.rwsem_slow.proofs.WaitStates.{sees-own, attends-turns}
use Rattle.rwsem_slow.proofs.Quitting.{leaves-look, look-again, unmarked-cleared, unmarked-none}
use Rattle.rwsem_slow.proofs.leave.unmark.Goals as goal

pub look_first-requires-clause-may : goal.look_first-requires-clause-may
look_first-requires-clause-may g c = leaves-look c.args.pass.now.seat.me.0.view c.args.task c.requires.may c.requires.list c.requires.first

pub clear_first-requires-clause-may : goal.clear_first-requires-clause-may
clear_first-requires-clause-may g c = look-again c.args.pass.now.seat.me.0.view c.look_first.new.pass.seat.me.0.view c.args.task c.look_first.result (attends-turns c.args.pass.now.seat.me.0.view c.look_first.new.pass.seat.me.0.view _ _ (ap (λ (b : Bool). saw_mark b c.look_first.result c.args.pass.now.seat.me.0.view.ext.wake) (sees-own c.args.pass.now.seat.me.0.view c.args.task (sym c.requires.own.task ∙ c.requires.mine) c.requires.first)) c.look_first.ensures.kept) c.if-look_first-ne0.true (leaves-look c.args.pass.now.seat.me.0.view c.args.task c.requires.may c.requires.list c.requires.first)

pub returns-then-look_first-ne0-clause-kept : goal.returns-then-look_first-ne0-clause-kept
returns-then-look_first-ne0-clause-kept g c = unmarked-cleared c.args.pass.now.seat.me.0.view c.look_first.new.pass.seat.me.0.view c.args.task c.look_first.result (attends-turns c.args.pass.now.seat.me.0.view c.look_first.new.pass.seat.me.0.view _ _ (ap (λ (b : Bool). saw_mark b c.look_first.result c.args.pass.now.seat.me.0.view.ext.wake) (sees-own c.args.pass.now.seat.me.0.view c.args.task (sym c.requires.own.task ∙ c.requires.mine) c.requires.first)) c.look_first.ensures.kept) c.if-look_first-ne0.true c.clear_first.new.pass.seat.me.0.view c.clear_first.ensures.kept

pub returns-else-look_first-ne0-clause-kept : goal.returns-else-look_first-ne0-clause-kept
returns-else-look_first-ne0-clause-kept g c = unmarked-none c.args.pass.now.seat.me.0.view c.look_first.new.pass.seat.me.0.view c.args.task c.look_first.result (attends-turns c.args.pass.now.seat.me.0.view c.look_first.new.pass.seat.me.0.view _ _ (ap (λ (b : Bool). saw_mark b c.look_first.result c.args.pass.now.seat.me.0.view.ext.wake) (sees-own c.args.pass.now.seat.me.0.view c.args.task (sym c.requires.own.task ∙ c.requires.mine) c.requires.first)) c.look_first.ensures.kept) c.if-look_first-ne0.false

pub look_first-requires-clause-waits : goal.look_first-requires-clause-waits
look_first-requires-clause-waits g c = inl (sees-own c.args.pass.now.seat.me.0.view c.args.task (sym c.requires.own.task ∙ c.requires.mine) c.requires.first)
