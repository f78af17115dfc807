use Rattle.std.proofs.Common.{false, ap, map, sym, ◌∙◌}
use Rattle.std.proofs.lemmas.Bool.{false≢true}
use Rattle.std.specs.Prelude.{string_bytes}
use Rattle.task_script.specs.Generated.{generated}
use Rattle.task_script.specs.Grammar.{script_of}
use Rattle.mm_program.specs.CommandLine.{is_question, options_of}
use Rattle.mm_program.specs.ProgramKept.{HasServed}
use Rattle.mm_program.specs.Requests.{accepted, helped, misused, reads_input, request, request_of}
use Rattle.mm_program.proofs.CommandLines.{misused_says, questions_say_nothing}
use Rattle.mm_program.proofs.Inputs.{answers_any, answers_as, answers_memory, answers_unasked, asks_generated, asks_input, completes, completes_nothing, said_unkept}
use Rattle.mm_program.proofs.program.serve_words.Goals as goal

pub returns-then-asks_help-clause-answer : goal.returns-then-asks_help-clause-answer
returns-then-asks_help-clause-answer g c =
    let words = map string_bytes c.args.words.now in
    answers_any (HasServed g.O.SharedObject.is_space g.O.SharedObject.calls_on g.O.SharedObject.hand g.O.SharedObject.past g.O.SharedObject.spun g.O.SharedObject.idle g.O.SharedObject.looked_back g.O.SharedObject.knows_past) c.args.kept.now (request (is_question words) (options_of words)) helped (g.S.Source.left c.args.source.now) _ _ _ _ c.help.result (λ input. ap (λ asks. request asks (options_of words) input) (sym c.asks_help.ensures ∙ c.if-asks_help.true))
    (said_unkept (HasServed g.O.SharedObject.is_space g.O.SharedObject.calls_on g.O.SharedObject.hand g.O.SharedObject.past g.O.SharedObject.spun g.O.SharedObject.idle g.O.SharedObject.looked_back g.O.SharedObject.knows_past) c.args.kept.now helped ⊥ _ _ _ c.help.result c.requires c.help.ensures.says)

pub returns-then-asks_help-clause-complete : goal.returns-then-asks_help-clause-complete
returns-then-asks_help-clause-complete g c =
    completes_nothing (HasServed g.O.SharedObject.is_space g.O.SharedObject.calls_on g.O.SharedObject.hand g.O.SharedObject.past g.O.SharedObject.spun g.O.SharedObject.idle g.O.SharedObject.looked_back g.O.SharedObject.knows_past) c.args.kept.now _ _ _ _ _ _ _ (questions_say_nothing (map string_bytes c.args.words.now) (sym c.asks_help.ensures ∙ c.if-asks_help.true))

pub returns-then-asks_help-clause-whole : goal.returns-then-asks_help-clause-whole
returns-then-asks_help-clause-whole g c = λ done reads. absurd (false≢true (sym (ap reads_input (questions_say_nothing (map string_bytes c.args.words.now) (sym c.asks_help.ensures ∙ c.if-asks_help.true))) ∙ reads))

pub returns-in-Err-Misused-clause-answer : goal.returns-in-Err-Misused-clause-answer
returns-in-Err-Misused-clause-answer g c =
    let said = options_of (map string_bytes c.args.words.now) in
    answers_unasked (HasServed g.O.SharedObject.is_space g.O.SharedObject.calls_on g.O.SharedObject.hand g.O.SharedObject.past g.O.SharedObject.spun g.O.SharedObject.idle g.O.SharedObject.looked_back g.O.SharedObject.knows_past) c.args.kept.now _ said (g.S.Source.left c.args.source.now) _ _ _ _ c.usage.result (sym c.asks_help.ensures ∙ c.if-asks_help.false)
    (answers_any (HasServed g.O.SharedObject.is_space g.O.SharedObject.calls_on g.O.SharedObject.hand g.O.SharedObject.past g.O.SharedObject.spun g.O.SharedObject.idle g.O.SharedObject.looked_back g.O.SharedObject.knows_past) c.args.kept.now (request false said) misused (g.S.Source.left c.args.source.now) _ _ _ _ c.usage.result (λ input. ap (λ q. request false q input) (misused_says said c.in-Err-Misused.field-0 c.in-Err-Misused.field-0-is c.in-Err-Misused.ensures))
    (said_unkept (HasServed g.O.SharedObject.is_space g.O.SharedObject.calls_on g.O.SharedObject.hand g.O.SharedObject.past g.O.SharedObject.spun g.O.SharedObject.idle g.O.SharedObject.looked_back g.O.SharedObject.knows_past) c.args.kept.now misused ⊥ _ _ _ c.usage.result c.requires c.usage.ensures.says))

pub returns-in-Err-Memory-clause-answer : goal.returns-in-Err-Memory-clause-answer
returns-in-Err-Memory-clause-answer g c =
    let words = map string_bytes c.args.words.now in
    answers_memory (HasServed g.O.SharedObject.is_space g.O.SharedObject.calls_on g.O.SharedObject.hand g.O.SharedObject.past g.O.SharedObject.spun g.O.SharedObject.idle g.O.SharedObject.looked_back g.O.SharedObject.knows_past) c.args.kept.now (request (is_question words) (options_of words)) (g.S.Source.left c.args.source.now) _ _ (g.K.Sink.written c.args.sink.now) c.requires

pub returns-in-Some-clause-answer : goal.returns-in-Some-clause-answer
returns-in-Some-clause-answer g c =
    let said = options_of (map string_bytes c.args.words.now) in
    answers_any (HasServed g.O.SharedObject.is_space g.O.SharedObject.calls_on g.O.SharedObject.hand g.O.SharedObject.past g.O.SharedObject.spun g.O.SharedObject.idle g.O.SharedObject.looked_back g.O.SharedObject.knows_past) c.answer_generated.new.kept (request _ said) (accepted c.in-Ok.options.summary (generated c.in-Some.number)) (g.S.Source.left c.args.source.now) _ _ _ _ c.answer_generated.result
    (λ input. ap (λ asks. request asks said input) (sym c.asks_help.ensures ∙ c.if-asks_help.false) ∙ asks_generated said c.in-Ok.options c.in-Some.number input c.in-Ok.ensures c.in-Some.is) c.answer_generated.ensures.says

pub returns-in-Some-clause-complete : goal.returns-in-Some-clause-complete
returns-in-Some-clause-complete g c =
    let said = options_of (map string_bytes c.args.words.now) in
    completes (HasServed g.O.SharedObject.is_space g.O.SharedObject.calls_on g.O.SharedObject.hand g.O.SharedObject.past g.O.SharedObject.spun g.O.SharedObject.idle g.O.SharedObject.looked_back g.O.SharedObject.knows_past) c.answer_generated.new.kept said (g.S.Source.left c.args.source.now) _ _ _ _ c.answer_generated.result
    (answers_any (HasServed g.O.SharedObject.is_space g.O.SharedObject.calls_on g.O.SharedObject.hand g.O.SharedObject.past g.O.SharedObject.spun g.O.SharedObject.idle g.O.SharedObject.looked_back g.O.SharedObject.knows_past) c.answer_generated.new.kept (request false said) (accepted c.in-Ok.options.summary (generated c.in-Some.number)) (g.S.Source.left c.args.source.now) _ _ _ _ c.answer_generated.result
    (λ input. asks_generated said c.in-Ok.options c.in-Some.number input c.in-Ok.ensures c.in-Some.is) c.answer_generated.ensures.says)

pub returns-in-None-clause-answer : goal.returns-in-None-clause-answer
returns-in-None-clause-answer g c =
    let said = options_of (map string_bytes c.args.words.now) in
    answers_unasked (HasServed g.O.SharedObject.is_space g.O.SharedObject.calls_on g.O.SharedObject.hand g.O.SharedObject.past g.O.SharedObject.spun g.O.SharedObject.idle g.O.SharedObject.looked_back g.O.SharedObject.knows_past) c.answer_input.new.kept _ said (g.S.Source.left c.args.source.now) _ _ _ _ c.answer_input.result (sym c.asks_help.ensures ∙ c.if-asks_help.false)
    (answers_as (HasServed g.O.SharedObject.is_space g.O.SharedObject.calls_on g.O.SharedObject.hand g.O.SharedObject.past g.O.SharedObject.spun g.O.SharedObject.idle g.O.SharedObject.looked_back g.O.SharedObject.knows_past) c.answer_input.new.kept said (λ input. request_of c.in-Ok.options.summary (script_of input)) (g.S.Source.left c.args.source.now) _ _ _ _ c.answer_input.result
    (λ input. sym (asks_input said c.in-Ok.options input c.in-Ok.ensures c.in-None.is)) c.answer_input.ensures.answer)

pub returns-in-None-clause-complete : goal.returns-in-None-clause-complete
returns-in-None-clause-complete g c =
    let said = options_of (map string_bytes c.args.words.now) in
    completes (HasServed g.O.SharedObject.is_space g.O.SharedObject.calls_on g.O.SharedObject.hand g.O.SharedObject.past g.O.SharedObject.spun g.O.SharedObject.idle g.O.SharedObject.looked_back g.O.SharedObject.knows_past) c.answer_input.new.kept said (g.S.Source.left c.args.source.now) _ _ _ _ c.answer_input.result
    (answers_as (HasServed g.O.SharedObject.is_space g.O.SharedObject.calls_on g.O.SharedObject.hand g.O.SharedObject.past g.O.SharedObject.spun g.O.SharedObject.idle g.O.SharedObject.looked_back g.O.SharedObject.knows_past) c.answer_input.new.kept said (λ input. request_of c.in-Ok.options.summary (script_of input)) (g.S.Source.left c.args.source.now) _ _ _ _ c.answer_input.result
    (λ input. sym (asks_input said c.in-Ok.options input c.in-Ok.ensures c.in-None.is)) c.answer_input.ensures.answer)
