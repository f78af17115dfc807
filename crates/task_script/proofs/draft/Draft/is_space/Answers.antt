use Rattle.std.proofs.Common.{◌≡◌, true, false, sym, ◌∙◌}
use Rattle.task_script.specs.Inside.{is_space_kind}
use Rattle.task_script.proofs.Listings.{is_space_kept, table_other}
use Rattle.task_script.proofs.draft.Draft.is_space.Goals as goal

pub returns-in-Space : goal.returns-in-Space
returns-in-Space c =
    let kind : is_space_kind c.index.result.now ≡ true = rw c.in-Space.is in
    rw (← c.self.view_is) (sym kind ∙ is_space_kept c.self.inside.objects.entries c.args.object c.index.result.now c.index.ensures)

pub returns-in_default : goal.returns-in_default
returns-in_default c =
    let kind : is_space_kind c.index.result.now ≡ false = table_other c.index.result.now c.in_default.not-Space in
    rw (← c.self.view_is) (sym kind ∙ is_space_kept c.self.inside.objects.entries c.args.object c.index.result.now c.index.ensures)
