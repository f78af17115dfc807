use Rattle.std.proofs.Common.{◌∙◌, ◌∷◌, [], All, List, ap, arith, length, length-append, subst, sym, map}
use Rattle.word_bits.specs.Histories.{Plan}
use Rattle.mm_serve.specs.declared.worker.Worker.{Worker}
use Rattle.mm_serve.specs.Workers.{AreNumbered, IsReady}
use Rattle.mm_serve.proofs.Filling.{staffed-tasks}
use Rattle.mm_serve.proofs.Opens.{at-more, calls-planned, numbered-more, objects-inside}
use Rattle.mm_serve.proofs.opening.open_workers.Goals as goal

pub loop-task-preserved : goal.loop-task-preserved
loop-task-preserved g c =
    let script = c.args.script.now in
    let sites = c.args.sites.now in
    let olds = c.loop-task.workers.items in
    let inv = c.loop-task.invariant in
    let task = c.loop-task.task in
    let w : Worker g.row.C-C.Denot g.row.S-Pass.Denot = record { cpu = c.in_ok-cpu.cpu; passes = c.in_ok-passes.passes; objects = c.in_ok-objects.objects; task = task } in
    let items = c.in_ok-push.ensures.items in
    let long = length-append olds (w ∷ []) in
    let ready : IsReady g.S.SharedObject.idle g.S.SharedObject.hand g.S.SharedObject.calls_on sites w = record {
      task = λ k s at.
          let many = ap (λ (p : Plan). length p) (c.requires.sites.plans k s at) ∙ staffed-tasks script k in
          let below = c.loop-task-test.true in
          let end = c.max-task-end.ensures in
          let count = c.tasks.ensures.count in
          omega (arith, many, below, end, count);
      objects = objects-inside (length sites) (length script.objects) c.lines_of.result.now c.in_ok-objects.objects.items c.requires.sites.many c.lines_of.ensures.on_objects c.in_ok-objects.ensures;
      calls = calls-planned g.S.SharedObject.is_space g.S.SharedObject.calls_on script sites task c.in_ok-objects.objects.items c.requires.sites (c.in_ok-objects.ensures ∙ ap (λ ls. map (λ line. line.object) ls) c.lines_of.ensures.lines);
      passes = c.in_ok-passes.ensures.passes;
    } in (
      ap length items ∙ (let count = inv.0 in omega (arith, long, count)),
      c.in_ok-passes.ensures.kept,
      subst (λ (ws : List (Worker g.row.C-C.Denot g.row.S-Pass.Denot)). All (IsReady g.S.SharedObject.idle g.S.SharedObject.hand g.S.SharedObject.calls_on sites) ws) (sym items)
          (λ k d lt. at-more (λ n x. IsReady g.S.SharedObject.idle g.S.SharedObject.hand g.S.SharedObject.calls_on sites x) olds w inv.2 ready k d (omega (arith, lt, long))),
      subst (λ (ws : List (Worker g.row.C-C.Denot g.row.S-Pass.Denot)). AreNumbered ws) (sym items) (numbered-more olds w inv.3 (sym inv.0)),
    )
