use Rattle.std.proofs.Common.{◌∙◌, sym}
use Rattle.task_script.proofs.Listings.{found_named, place_kept}
use Rattle.task_script.proofs.draft.Draft.place.Goals as goal

pub returns-in_err-place-clause-place : goal.returns-in_err-place-clause-place
returns-in_err-place-clause-place c =
    rw (← c.self.view_is) (c.from_residual.ensures ∙ sym c.in_err-place.was ∙ c.place_of.ensures ∙ place_kept c.args.name.now c.self.inside.objects.entries)

pub returns-clause-place : goal.returns-clause-place
returns-clause-place c =
    rw (← c.self.view_is) (sym (c.in_ok-place.was) ∙ c.place_of.ensures ∙ place_kept c.args.name.now c.self.inside.objects.entries)

pub returns-clause-named : goal.returns-clause-named
returns-clause-named c = found_named c.args.name.now _ c.in_ok-place.place c.self.invariant.1 (sym (place_kept c.args.name.now c.self.inside.objects.entries) ∙ sym c.place_of.ensures ∙ c.in_ok-place.was)
