use Rattle.std.proofs.Common.{◌∙◌, sym, ap, subst}
use Rattle.rwsem_slow.specs.Types.{Hand}
use Rattle.lock_core.specs.Pasts.{BeganWith, EachMoment, Ran}
use Rattle.osq_nodes.specs.OsqHandles.{past_of, tasks_of}
use Rattle.osq_nodes.specs.OsqPlaces.{node_marks}
use Rattle.osq_nodes.specs.OsqRuled.{IsOsqMove, newest}
use Rattle.osq_nodes.specs.OsqStated.{IsSpinQueue}
use Rattle.osq_unqueue.proofs.Fronts.{each-head, out-of-queue}
use Rattle.rwsem_slow.proofs.calls.RwSem.recall_spin_queue.Goals as goal

pub returns-clause-begins : goal.returns-clause-begins
returns-clause-begins g c = subst (λ tasks. BeganWith (newest tasks) (past_of c.recall_queue.new.pass)) c.args.self.now.sized c.recall_queue.ensures.begins

pub returns-clause-always : goal.returns-clause-always
returns-clause-always g c = subst (λ tasks. EachMoment (IsSpinQueue tasks) (past_of c.recall_queue.new.pass)) c.args.self.now.sized c.recall_queue.ensures.always

pub returns-clause-fronts : goal.returns-clause-fronts
returns-clause-fronts g c = each-head (tasks_of c.args.self.now.osq) (past_of c.recall_queue.new.pass) c.recall_queue.ensures.always

pub returns-clause-counts : goal.returns-clause-counts
returns-clause-counts g c = subst (λ tasks. Ran node_marks (newest tasks) (IsOsqMove tasks) (past_of c.recall_queue.new.pass)) c.args.self.now.sized c.recall_queue.ensures.counts

pub returns-clause-out : goal.returns-clause-out
returns-clause-out g c = let e = c.recall_queue.ensures in let was = c.requires.own in let said = ap {A = Hand} (λ h. h.task) e.on.number.1 ∙ (sym was.queued.sits.task ∙ (was.same ∙ was.sits.task)) in
    out-of-queue c.args.self.now.osq c.recall_queue.new.pass _ e.on.own e.mine said (ap (λ x. x.place) e.node.0 ∙ was.off)
