use Rattle.std.proofs.Common.{subst, length, sym, ◌∙◌}
use Rattle.word_bits.specs.Histories.{Plan}
use Rattle.lock_core.specs.Pasts.{EachMoment, Moves, Ran, opening}
use Rattle.lock_core.specs.Laws.SiteRun.{ran-each, ran-so}
use Rattle.osq_nodes.specs.OsqPlaces.{node_marks}
use Rattle.osq_nodes.specs.OsqStated.{IsSpinQueue}
use Rattle.osq_nodes.specs.OsqRuled.{OsqKept, OsqMoves, IsOsqMove, idle, newest, no_calls}
use Rattle.osq_nodes.specs.Laws.OsqRuled.{osq-states, place-back, swaps-back, its-place}
use Rattle.osq_nodes.proofs.Chaining.{becomes}
use Rattle.osq_nodes.proofs.queue.Osq.recall_queue.Goals as goal

pub returns-clause-always : goal.returns-clause-always
returns-clause-always c = let k = c.args.self.now.site.table.shared.key in let own = c.recall.ensures.on.last in
    ran-each node_marks (OsqKept k) (OsqMoves k) (IsSpinQueue (length k)) (osq-states k) (opening node_marks k idle) own.now own.before own.rest _ own.past_is c.recall.ensures.run

pub returns-clause-queues : goal.returns-clause-queues
returns-clause-queues c = let k = c.args.self.now.site.table.shared.key in let past = c.recall.new.pass.seat.me.0.past in
    becomes (length k) past (subst (λ (z : Plan). Ran node_marks (opening node_marks z idle) (Moves (OsqKept z) (OsqMoves z)) past) c.args.self.now.plain c.recall.ensures.run)

pub returns-clause-counts : goal.returns-clause-counts
returns-clause-counts c = let k = c.args.self.now.site.table.shared.key in let n = length k in let past = c.recall.new.pass.seat.me.0.past in
    ran-so node_marks (newest n) (Moves (OsqKept (no_calls n)) (OsqMoves (no_calls n))) (IsOsqMove n) (λ x y m. (m.0, m.3, m.4)) past (subst (λ (z : Plan). Ran node_marks (opening node_marks z idle) (Moves (OsqKept z) (OsqMoves z)) past) c.args.self.now.plain c.recall.ensures.run)

pub returns-clause-mine : goal.returns-clause-mine
returns-clause-mine c = let n = length c.args.self.now.site.table.shared.key in let v = c.recall.new.pass.seat.me.0.view in let x = v.ext in let is = c.recall.ensures.marked in let counts = swaps-back x.place x.swaps x.found in
    let own = is.own in let so : IsSpinQueue n own.now = (subst (EachMoment (IsSpinQueue n)) own.past_is (returns-clause-always c)).0 in record {
      own = own;
      node = record { numbers = node_marks x };
      node_is = is.kept;
      place = place-back x.place x.swaps x.found;
      swaps = counts.0;
      found = counts.1;
      task = λ t e. its-place t own.now.hands own.now.marks own.seat v.hand (record { numbers = node_marks x }) own.hand is.kept (sym c.recall.ensures.on.own.task ∙ e) (so.named t) ∙ place-back x.place x.swaps x.found;
    }
