use Rattle.std.proofs.Common.{sym, arith}
use Rattle.std.proofs.lemmas.List.{ext_get_or}
use Rattle.std.proofs.lemmas.Slice.Eq.{bytes_eq-Decides}
use Rattle.task_script.proofs.draft.is_same.Goals as goal

pub returns : goal.returns
returns c =
    let done = c.loop-left-test.false in
    let name = c.args.name.now in
    let text = c.args.text.now in
    sym ((bytes_eq-Decides name text).1 (ext_get_or 0 name text (sym c.requires) (λ i inside. sym (c.loop-left.invariant.1 i (omega (arith, done)) inside))))
