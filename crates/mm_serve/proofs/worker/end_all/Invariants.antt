use Rattle.std.proofs.Common.{◌≡◌, length}
use Rattle.lock_core.specs.Records.{row}
use Rattle.mm_serve.specs.MachineHistories.{HasDoneOn}
use Rattle.mm_serve.specs.MachineQueues.{GoesBackToTask}
use Rattle.mm_serve.specs.Workers.{EachOf}
use Rattle.mm_serve.proofs.Each.{Between}
use Rattle.mm_serve.proofs.worker.end_all.Given as goal

abbrev pub invariant-loop-object : goal.invariant-loop-object
invariant-loop-object g l = EachOf (Between (λ k s p. g.S.SharedObject.idle s p × HasDoneOn (g.S.SharedObject.is_space s) (g.S.SharedObject.calls_on s) (g.S.SharedObject.hand p) l.task × GoesBackToTask g.S.SharedObject.looked_back g.S.SharedObject.past g.S.SharedObject.spun s l.task p) (λ k s p. g.S.SharedObject.serving s p l.task × ((g.S.SharedObject.hand p).done ≡ length (row (g.S.SharedObject.calls_on s) l.task))) l.object) l.sites l.passes.items
