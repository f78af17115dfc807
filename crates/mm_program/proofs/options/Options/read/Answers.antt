use Rattle.std.proofs.Common.{◌≡◌, ◌∙◌, ap, map, sym, subst, [], Err}
use Rattle.std.specs.Prelude.{string_bytes}
use Rattle.clap.specs.Faults.{fault_of, is_simple_and_free}
use Rattle.clap.specs.Simple.{app_of, is_simple as is_simple_command, matches_of}
use Rattle.clap.specs.Values.{kind_of}
use Rattle.clap.specs.Matches.{found_of}
use Rattle.clap.specs.Walk.{rows_of}
use Rattle.mm_program.specs.CommandLine.{options_of, the_command}
use Rattle.mm_program.specs.Parsed.{Gives}
use Rattle.mm_program.proofs.CommandLines.{fault_found, gives_fault, gives_found, is_plain, is_simple, words_taken}
use Rattle.mm_program.proofs.options.Options.read.Goals as goal

pub returns-in-Ok-try_get_matches_from : goal.returns-in-Ok-try_get_matches_from
returns-in-Ok-try_get_matches_from c =
    let words = map string_bytes c.args.words.now in
    let app = c.in-Ok.ensures in
    let rows = rows_of (found_of c.in-Ok-try_get_matches_from.matches) in
    let none : fault_of the_command words ≡ [] = sym (ap (λ a. fault_of a words) app) ∙ c.in-Ok-try_get_matches_from.ensures.kinds (ap is_simple_and_free app ∙ is_simple) in
    let found : rows ≡ matches_of the_command words = (c.in-Ok-try_get_matches_from.ensures.matches (ap is_simple_command app ∙ is_plain)).0 ∙ ap (λ a. matches_of a words) app in
    gives_found (options_of words) c.from_matches.result c.ok_or.result (words_taken words rows none found ∙ sym c.from_matches.ensures) c.ok_or.ensures.value

pub returns-in-Err : goal.returns-in-Err
returns-in-Err c =
    let words = map string_bytes c.args.words.now in
    let app = c.in-Ok.ensures in
    let kind = c.kind.result in
    let fault = fault_found (app_of c.in-Ok.command) words kind (kind_of c.in-Err.error) app c.kind.ensures (c.in-Err.ensures.kinds (ap is_simple_and_free app ∙ is_simple)) in
    subst (λ e. Gives (options_of words) (Err e)) (sym c.of_kind.ensures) (gives_fault words kind fault)
