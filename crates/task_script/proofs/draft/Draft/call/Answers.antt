use Rattle.std.proofs.Common.{◌≡◌, ◌∷◌, Some, None, Err, true, false, sym, ap, ◌∙◌, subst, arith}
use Rattle.std.proofs.lemmas.Grind.{common_steps}
use Rattle.task_script.specs.Cuts.{is_empty}
use Rattle.task_script.specs.Tokens.{is_name}
use Rattle.task_script.specs.declared.draft.LineError.TheVariants.{Refused}
use Rattle.task_script.specs.LineParts.{all_words}
use Rattle.task_script.specs.Grammar.{call_line, place_of}
use Rattle.task_script.specs.Readings.{Becomes}
use Rattle.task_script.proofs.Verbs.{line_called, line_unknown}
use Rattle.task_script.proofs.draft.Draft.call.Goals as goal

pub returns : goal.returns
returns c =
    let some : is_empty c.args.self.now.tasks ≡ false = grind (arith, common_steps) in
    let named : is_name c.in_ok-name.name.now ≡ true = grind (arith, common_steps) in
    let place : place_of c.in_ok-name.name.now c.args.self.now.objects ≡ Some c.in-Some.object = grind (arith, common_steps) in
    let all : all_words c.args.name c.args.words ≡ c.in_ok-name.name.now ∷ c.args.words = grind (arith, common_steps) in
    subst (Becomes c.call_on.result c.call_on.new.self) (sym (ap (call_line c.args.mode c.args.self.now) all ∙ line_called c.args.mode c.args.self.now c.in_ok-name.name.now c.in-Some.object c.args.words some named place)) c.call_on.ensures

pub returns-in_default : goal.returns-in_default
returns-in_default c =
    let some : is_empty c.args.self.now.tasks ≡ false = grind (arith, common_steps) in
    let none : place_of c.in_ok-name.name.now c.args.self.now.objects ≡ None = grind (arith, common_steps) in
    let all : all_words c.args.name c.args.words ≡ c.in_ok-name.name.now ∷ c.args.words = grind (arith, common_steps) in
    let refused : c.into-in_default.result ≡ Refused c.unknown.result = grind (arith, common_steps) in
    rw refused (ap (call_line c.args.mode c.args.self.now) all ∙ line_unknown c.args.mode c.args.self.now c.in_ok-name.name.now c.args.words some none ∙ ap Err (sym c.unknown.ensures))
