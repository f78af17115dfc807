use Rattle.std.proofs.Common.{◌≡◌, ◌∙◌, ap, ap₂, rules, codes, true}
use Rattle.std.proofs.lemmas.Result.{IfOk-weaker}
use Rattle.clap.specs.Walk.{rule_of}
use Rattle.clap.specs.Simple.{app_of, app_of_fields, on_top, with_rule}
use Rattle.mm_program.specs.CommandLine.{flag_rule, no_options, value_rule}
use Rattle.mm_program.proofs.options.command.Goals as goal

pub returns : goal.returns
returns c =
    let spin : rule_of c.option.result ≡ value_rule (codes "spin") = search rules in
    let overdue : rule_of c.option-2.result ≡ value_rule (codes "overdue") = search rules in
    let generate : rule_of c.option-3.result ≡ value_rule (codes "generate") = search rules in
    let summary : rule_of c.flag.result ≡ flag_rule (codes "summary") = search rules in
    let begun : app_of c.disable_help_flag.result ≡ no_options =
    ap app_of_fields c.disable_help_flag.ensures ∙ ap (λ f. app_of_fields (record f { disable_help_flag = true })) c.no_binary_name.ensures
    ∙ ap (on_top (λ s. record s { no_binary_name = true; disable_help_flag = true })) c.new.ensures.app in
    let one = c.in_ok-arg.ensures.shape c.option.ensures.local ∙ ap₂ with_rule begun spin in
    let two = c.in_ok-arg-2.ensures.shape c.option-2.ensures.local ∙ ap₂ with_rule one overdue in
    let three = c.in_ok-arg-3.ensures.shape c.option-3.ensures.local ∙ ap₂ with_rule two generate in
    IfOk-weaker c.arg-4.result _ _ (λ command adds. adds.shape c.flag.ensures.local ∙ ap₂ with_rule three summary) c.arg-4.ensures
