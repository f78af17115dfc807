use Rattle.rwsem_wake.proofs.Walking.{finds-steps}
use Rattle.rwsem_slow.proofs.WriterSteps.{first-there, only-none, only-some}
use Rattle.std.proofs.Common.{None, Some}
use Rattle.rwsem_slow.proofs.writer.attempt.is_alone.Goals as goal

pub next-requires-clause-there : goal.next-requires-clause-there
next-requires-clause-there g c = (c.requires.list.knows, first-there c.args.pass.now.seat.me.0.view.ext.list.list c.args.first c.requires.first)

pub returns-in-None-clause-kept : goal.returns-in-None-clause-kept
returns-in-None-clause-kept g c = finds-steps c.args.pass.now.seat.me.0.view c.requires.list c.args.first.task None c.next.new.pass.seat.me.0.view c.in-None.ensures.told

pub returns-in-None-clause-only : goal.returns-in-None-clause-only
returns-in-None-clause-only g c = only-none c.args.pass.now.seat.me.0.view c.requires.list c.args.first c.requires.first c.next.new.pass.seat.me.0.view c.in-None.ensures.told

pub returns-in-Some-clause-kept : goal.returns-in-Some-clause-kept
returns-in-Some-clause-kept g c = finds-steps c.args.pass.now.seat.me.0.view c.requires.list c.args.first.task (Some c.in-Some.field-0) c.next.new.pass.seat.me.0.view c.in-Some.ensures.told

pub returns-in-Some-clause-only : goal.returns-in-Some-clause-only
returns-in-Some-clause-only g c = only-some c.args.pass.now.seat.me.0.view c.requires.list c.args.first c.requires.first c.next.new.pass.seat.me.0.view c.in-Some.field-0 c.in-Some.ensures.told
