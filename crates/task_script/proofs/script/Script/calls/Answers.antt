use Rattle.task_script.proofs.Listings.{mapped_at, task_declared}
use Rattle.task_script.proofs.script.Script.calls.Goals as goal

pub returns-clause-on_objects : goal.returns-clause-on_objects
returns-clause-on_objects c =
    let within = rw (← c.self.view_is) at c.requires in
    rw (← c.self.view_is, c.as_slice.ensures.value) (task_declared _ _ _ c.args.task _ c.self.invariant.sound.calls (mapped_at (λ v. v.items) c.self.inside.tasks.items c.args.task c.index.result.now within c.index.ensures))
