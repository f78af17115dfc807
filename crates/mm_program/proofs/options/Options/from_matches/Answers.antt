use Rattle.std.proofs.Common.{◌∙◌, sym, refl, codes, None, Some}
use Rattle.clap.specs.Matches.{found_of}
use Rattle.mm_program.proofs.CommandLines.{number_found, number_used, options_are, use_found}
use Rattle.mm_program.proofs.options.Options.from_matches.Goals as goal

pub returns-in_err-number_or : goal.returns-in_err-number_or
returns-in_err-number_or c =
    let f = found_of c.args.matches.now in
    let spin = number_found f (codes "spin") c.get_str.result 100 1000000 c.number_or.result None c.get_str.ensures c.number_or.ensures c.in_err-number_or.was in
    c.from_residual.ensures ∙ sym (options_are f None _ _ _ spin refl refl refl)

pub returns-in_err-number_or-2 : goal.returns-in_err-number_or-2
returns-in_err-number_or-2 c =
    let f = found_of c.args.matches.now in
    let spin = number_found f (codes "spin") c.get_str.result 100 1000000 c.number_or.result (Some c.in_ok-number_or.field-0) c.get_str.ensures c.number_or.ensures c.in_ok-number_or.was in
    let overdue = number_found f (codes "overdue") c.get_str-2.result 4 1000000 c.number_or-2.result None c.get_str-2.ensures c.number_or-2.ensures c.in_err-number_or-2.was in
    c.from_residual-in_err-number_or-2.ensures ∙ sym (options_are f (Some c.in_ok-number_or.field-0) None _ _ spin overdue refl refl)

pub returns-in_err-number_if_used : goal.returns-in_err-number_if_used
returns-in_err-number_if_used c =
    let f = found_of c.args.matches.now in
    let spin = number_found f (codes "spin") c.get_str.result 100 1000000 c.number_or.result (Some c.in_ok-number_or.field-0) c.get_str.ensures c.number_or.ensures c.in_ok-number_or.was in
    let overdue = number_found f (codes "overdue") c.get_str-2.result 4 1000000 c.number_or-2.result (Some c.in_ok-number_or-2.field-0) c.get_str-2.ensures c.number_or-2.ensures c.in_ok-number_or-2.was in
    let generate = number_used f (codes "generate") c.get_str-3.result c.number_if_used.result None c.get_str-3.ensures c.number_if_used.ensures c.in_err-number_if_used.was in
    c.from_residual-in_err-number_if_used.ensures ∙ sym (options_are f (Some c.in_ok-number_or.field-0) (Some c.in_ok-number_or-2.field-0) None _ spin overdue generate refl)

pub returns : goal.returns
returns c =
    let f = found_of c.args.matches.now in
    let spin = number_found f (codes "spin") c.get_str.result 100 1000000 c.number_or.result (Some c.in_ok-number_or.field-0) c.get_str.ensures c.number_or.ensures c.in_ok-number_or.was in
    let overdue = number_found f (codes "overdue") c.get_str-2.result 4 1000000 c.number_or-2.result (Some c.in_ok-number_or-2.field-0) c.get_str-2.ensures c.number_or-2.ensures c.in_ok-number_or-2.was in
    let generate = number_used f (codes "generate") c.get_str-3.result c.number_if_used.result (Some c.in_ok-number_if_used.field-0) c.get_str-3.ensures c.number_if_used.ensures c.in_ok-number_if_used.was in
    let summary = use_found f (codes "summary") c.value_source.result c.value_source.ensures in
    sym (options_are f (Some c.in_ok-number_or.field-0) (Some c.in_ok-number_or-2.field-0) (Some c.in_ok-number_if_used.field-0) c.is_from_words.result spin overdue generate (sym summary ∙ sym c.is_from_words.ensures))
