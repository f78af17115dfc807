use Rattle.mutex_slow.proofs.Duties.{drowses-count, drowses-on}
use Rattle.mutex_slow.proofs.sleep.drowse.Goals as goal

pub returns-clause-listed : goal.returns-clause-listed
returns-clause-listed g c = drowses-on c.args.pass.now.seat.me.0.view c.drowse.new.pass.seat.me.0.view c.drowse.ensures.asleep.word c.drowse.ensures.asleep.view c.requires.tried c.requires.listed

pub returns-clause-dozes : goal.returns-clause-dozes
returns-clause-dozes g c = drowses-count c.args.pass.now.seat.me.0.view c.drowse.new.pass.seat.me.0.view c.drowse.ensures.asleep.word c.drowse.result c.drowse.ensures.asleep.view c.drowse.ensures.asleep.tells
