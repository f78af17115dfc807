use Rattle.std.proofs.Common.{[], sym, ap, ◌∙◌, Some}
use Rattle.task_script.proofs.Listings.{name_kept, named_at}
use Rattle.task_script.proofs.Names.{name_is_short}
use Rattle.task_script.proofs.script.Script.name.Goals as goal

pub returns-clause-name : goal.returns-clause-name
returns-clause-name c =
    rw (← c.self.view_is) (name_kept c.self.inside.objects.entries c.args.object _ (rw c.unwrap.ensures at c.get_index.ensures.entry) ∙ ap Some (sym c.as_str.ensures.value))

pub returns-clause-some : goal.returns-clause-some
returns-clause-some c =
    let kept = name_kept c.self.inside.objects.entries c.args.object _ (rw c.unwrap.ensures at c.get_index.ensures.entry) in
    rw c.as_str.ensures.value (name_is_short _ (named_at [] _ c.args.object _ c.self.invariant.sound.named kept)).0
