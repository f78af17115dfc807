use Rattle.std.proofs.Common.{subst}
use Rattle.mutex_word.specs.OwnerTries.{Says}
use Rattle.mutex_word.proofs.Owning.{take-on, ask-on}
use Rattle.mutex_word.proofs.tries.act.Goals as goal

pub ask-found-requires-clause-may : goal.ask-found-requires-clause-may
ask-found-requires-clause-may g c = let s = subst (Says g.A.TryKind.asks c.args.pass.now.face.task c.args.word) c.in-Ask.is c.requires.says in
    (c.requires.may (ask-on g.A.TryKind.asks c.args.pass.now.face.task c.args.word c.in-Ask.new s.0 s.1)).begs s.0 c.args.pass.now.seat.me.0.view.steps c.args.word c.in-Ask.new s.1

pub ask-found-requires-clause-fails : goal.ask-found-requires-clause-fails
ask-found-requires-clause-fails g c = let s = subst (Says g.A.TryKind.asks c.args.pass.now.face.task c.args.word) c.in-Ask.is c.requires.says in
    λ n f. (c.requires.may (ask-on g.A.TryKind.asks c.args.pass.now.face.task c.args.word c.in-Ask.new s.0 s.1)).fails c.args.pass.now.seat.me.0.view.steps n f

pub take-found-requires-clause-fails : goal.take-found-requires-clause-fails
take-found-requires-clause-fails g c = let s = subst (Says g.A.TryKind.asks c.args.pass.now.face.task c.args.word) c.in-Take.is c.requires.says in
    λ n f. (c.requires.may (take-on g.A.TryKind.asks c.args.pass.now.face.task s.0 c.args.word c.in-Take.new s.1 s.2)).fails c.args.pass.now.seat.me.0.view.steps n f
