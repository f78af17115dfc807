use Rattle.std.proofs.Common.{ap, sym}
use Rattle.task_script.specs.Generated.{generated}
use Rattle.mm_program.specs.ProgramKept.{HasServed}
use Rattle.mm_program.specs.Requests.{accepted}
use Rattle.mm_program.proofs.Inputs.{said}
use Rattle.mm_program.proofs.program.answer_generated.Goals as goal

pub returns-in-Ok-clause-says : goal.returns-in-Ok-clause-says
returns-in-Ok-clause-says g c =
    said (HasServed g.O.SharedObject.is_space g.O.SharedObject.calls_on g.O.SharedObject.hand g.O.SharedObject.past g.O.SharedObject.spun g.O.SharedObject.idle g.O.SharedObject.looked_back g.O.SharedObject.knows_past) c.run_on_threads.new.kept (accepted c.args.options.now.summary c.in-Ok.script) (accepted c.args.options.now.summary (generated c.args.number)) _ _ _ _ c.run_on_threads.result (ap (accepted c.args.options.now.summary) (sym c.in-Ok.ensures.script)) c.run_on_threads.ensures.says
