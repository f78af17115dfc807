use Rattle.std.proofs.Common.{ap}
use Rattle.task_script.specs.Grammar.{Refusal, script_of}
use Rattle.mm_program.specs.ProgramKept.{HasServed}
use Rattle.mm_program.specs.Requests.{accepted, refused, request_of}
use Rattle.mm_program.proofs.Inputs.{refused_by, said, said_no_memory, said_unkept}
use Rattle.mm_program.proofs.program.answer.Goals as goal

pub returns-in-Ok-clause-says : goal.returns-in-Ok-clause-says
returns-in-Ok-clause-says g c =
    said (HasServed g.O.SharedObject.is_space g.O.SharedObject.calls_on g.O.SharedObject.hand g.O.SharedObject.past g.O.SharedObject.spun g.O.SharedObject.idle g.O.SharedObject.looked_back g.O.SharedObject.knows_past) c.run_on_threads.new.kept (accepted c.args.options.now.summary c.in-Ok.script) (request_of c.args.options.now.summary (script_of c.args.input.now)) _ _ _ _ c.run_on_threads.result
    (ap (request_of c.args.options.now.summary) c.in-Ok.ensures.reads) c.run_on_threads.ensures.says

pub returns-in-Err-Refused-clause-says : goal.returns-in-Err-Refused-clause-says
returns-in-Err-Refused-clause-says g c =
    let refusal : Refusal = record { line = c.in-Err-Refused.line; reason = c.in-Err-Refused.reason } in
    said (HasServed g.O.SharedObject.is_space g.O.SharedObject.calls_on g.O.SharedObject.hand g.O.SharedObject.past g.O.SharedObject.spun g.O.SharedObject.idle g.O.SharedObject.looked_back g.O.SharedObject.knows_past) c.args.kept.now (refused refusal) (request_of c.args.options.now.summary (script_of c.args.input.now)) _ _ _ _ c.refuse.result
    (ap (request_of c.args.options.now.summary) (refused_by (script_of c.args.input.now) c.in-Err-Refused.field-0 c.in-Err-Refused.line c.in-Err-Refused.reason c.in-Err-Refused.field-0-is c.in-Err-Refused.ensures.reads))
    (said_unkept (HasServed g.O.SharedObject.is_space g.O.SharedObject.calls_on g.O.SharedObject.hand g.O.SharedObject.past g.O.SharedObject.spun g.O.SharedObject.idle g.O.SharedObject.looked_back g.O.SharedObject.knows_past) c.args.kept.now (refused refusal) ⊥ _ _ _ c.refuse.result c.requires c.refuse.ensures.says)

pub returns-in-Err-Memory-clause-says : goal.returns-in-Err-Memory-clause-says
returns-in-Err-Memory-clause-says g c = said_no_memory (HasServed g.O.SharedObject.is_space g.O.SharedObject.calls_on g.O.SharedObject.hand g.O.SharedObject.past g.O.SharedObject.spun g.O.SharedObject.idle g.O.SharedObject.looked_back g.O.SharedObject.knows_past) c.args.kept.now (request_of c.args.options.now.summary (script_of c.args.input.now)) _ _ (g.K.Sink.written c.args.sink.now) c.requires
