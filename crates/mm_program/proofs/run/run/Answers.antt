use Rattle.mm_program.specs.CommandLine.{line_asks_help, said_by_line}
use Rattle.mm_program.specs.Requests.{request}
use Rattle.mm_program.proofs.Inputs.{answers_memory, completes_memory}
use Rattle.mm_program.proofs.run.run.Goals as goal

pub returns-in_default-clause-answer : goal.returns-in_default-clause-answer
returns-in_default-clause-answer g c = answers_memory _ c.args.kept.now (request (line_asks_help c.args.line) (said_by_line c.args.line)) (g.S.Source.left c.args.source.now) _ _ (g.K.Sink.written c.args.sink.now) c.requires

pub returns-in_default-clause-complete : goal.returns-in_default-clause-complete
returns-in_default-clause-complete g c = completes_memory _ c.args.kept.now (said_by_line c.args.line) (g.S.Source.left c.args.source.now) _ _ _ _

pub returns-in_default-new-clause-answer : goal.returns-in_default-new-clause-answer
returns-in_default-new-clause-answer g c = answers_memory _ c.args.kept.now (request (line_asks_help c.args.line) (said_by_line c.args.line)) (g.S.Source.left c.args.source.now) _ _ (g.K.Sink.written c.args.sink.now) c.requires

pub returns-in_default-new-clause-complete : goal.returns-in_default-new-clause-complete
returns-in_default-new-clause-complete g c = completes_memory _ c.args.kept.now (said_by_line c.args.line) (g.S.Source.left c.args.source.now) _ _ _ _
