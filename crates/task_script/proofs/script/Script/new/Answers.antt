use Rattle.task_script.proofs.Listings.{objects_few}
use Rattle.task_script.proofs.script.Script.new.Goals as goal

pub link_calls-requires : goal.link_calls-requires
link_calls-requires c = record { on_objects = rw c.deref.ensures.value (objects_few c.args.version c.args.objects.entries c.args.tasks.items c.requires.sound) }
