use Rattle.std.proofs.Common.{◌∙◌, ap, sym, rules}
use Rattle.task_script.specs.Grammar.{script_of}
use Rattle.mm_program.specs.ProgramKept.{HasServed}
use Rattle.mm_program.specs.Requests.{request_of}
use Rattle.mm_program.proofs.Inputs.{answers_memory, any_input, never_read, said, said_failed, same_input}
use Rattle.mm_program.proofs.program.answer_input.Goals as goal

pub returns-in-Ok-clause-answer : goal.returns-in-Ok-clause-answer
returns-in-Ok-clause-answer g c =
    let r = c.in-Ok.ensures in
    let asked = request_of c.args.options.now.summary in
    let s = same_input (g.S.Source.left c.args.source.now) (g.S.Source.left c.read_all.new.source) c.in-Ok.input.items r.bytes r.most r.enough in (
      s.0,
      s.1,
      said (HasServed g.O.SharedObject.is_space g.O.SharedObject.calls_on g.O.SharedObject.hand g.O.SharedObject.past g.O.SharedObject.spun g.O.SharedObject.idle g.O.SharedObject.looked_back g.O.SharedObject.knows_past) c.answer.new.kept (asked (script_of c.as_slice.result.now)) (asked (script_of s.0)) _ _ _ _ c.answer.result
          (ap asked (s.2 ∙ ap script_of (sym c.as_slice.ensures.value))) c.answer.ensures.says,
    )

pub returns-in-Err-Memory-clause-answer : goal.returns-in-Err-Memory-clause-answer
returns-in-Err-Memory-clause-answer g c =
    answers_memory (HasServed g.O.SharedObject.is_space g.O.SharedObject.calls_on g.O.SharedObject.hand g.O.SharedObject.past g.O.SharedObject.spun g.O.SharedObject.idle g.O.SharedObject.looked_back g.O.SharedObject.knows_past) c.args.kept.now (λ input. request_of c.args.options.now.summary (script_of input)) (g.S.Source.left c.args.source.now) _ _ (g.K.Sink.written c.args.sink.now) c.requires

pub returns-in-Err-Failed-clause-answer : goal.returns-in-Err-Failed-clause-answer
returns-in-Err-Failed-clause-answer g c =
    let t = any_input (g.S.Source.left c.args.source.now) in (
      t.0,
      t.1,
      said_failed (HasServed g.O.SharedObject.is_space g.O.SharedObject.calls_on g.O.SharedObject.hand g.O.SharedObject.past g.O.SharedObject.spun g.O.SharedObject.idle g.O.SharedObject.looked_back g.O.SharedObject.knows_past) c.args.kept.now t.0 c.args.options.now.summary _ _ (g.K.Sink.written c.args.sink.now) c.requires (search rules),
    )

pub returns-in-Ok-clause-read_faults : goal.returns-in-Ok-clause-read_faults
returns-in-Ok-clause-read_faults g c =
    c.in-Ok.ensures.faults ∙ sym (never_read (HasServed g.O.SharedObject.is_space g.O.SharedObject.calls_on g.O.SharedObject.hand g.O.SharedObject.past g.O.SharedObject.spun g.O.SharedObject.idle g.O.SharedObject.looked_back g.O.SharedObject.knows_past) c.answer.new.kept (request_of c.args.options.now.summary (script_of c.as_slice.result.now)) _ _ _ c.answer.result (g.S.Source.faults c.args.source.now) c.answer.ensures.says)
