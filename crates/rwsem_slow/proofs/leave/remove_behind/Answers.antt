use Rattle.std.proofs.Common.{◌∙◌, sym}
use Rattle.rwsem_slow.proofs.Quitting.{behind-allowed, removed-behind}
use Rattle.rwsem_slow.proofs.leave.remove_behind.Goals as goal

pub remove-requires-clause-host : goal.remove-requires-clause-host
remove-requires-clause-host g c = behind-allowed c.args.pass.now.seat.me.0.view c.args.task c.requires.may c.requires.list (sym c.requires.own.task ∙ c.requires.mine) c.requires.behind

pub returns-clause-gone : goal.returns-clause-gone
returns-clause-gone g c = removed-behind c.args.pass.now.seat.me.0.view c.remove.new.pass.seat.me.0.view c.args.task c.requires.may c.requires.locked c.remove.ensures.later c.remove.ensures.kept
