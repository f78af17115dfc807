use Rattle.qspin_queue.proofs.Entering.{cleared-point, cleared-code, clear-waits, clear-enters, clear-top, clear-told, clear-quick}
use Rattle.qspin_queue.proofs.queue.clear_node.Goals as goal

pub clear_next-requires-clause-point : goal.clear_next-requires-clause-point
clear_next-requires-clause-point g c = cleared-point c.args.site.now c.args.lock (Unit {0}) c.args.pass.now c.clear_locked.new.pass c.args.code c.requires.out c.requires.node c.clear_locked.ensures.steps

pub clear_next-requires-clause-node : goal.clear_next-requires-clause-node
clear_next-requires-clause-node g c = cleared-code c.args.site.now c.args.lock (Unit {0}) c.args.pass.now c.clear_locked.new.pass c.args.code c.requires.out c.requires.node c.clear_locked.ensures.steps

pub returns-clause-waits : goal.returns-clause-waits
returns-clause-waits g c = clear-waits c.args.site.now c.args.lock (Unit {0}) c.args.pass.now c.clear_locked.new.pass c.args.code c.requires.out c.requires.node c.clear_locked.ensures.steps c.clear_next.new.pass c.clear_next.ensures.steps c.note_depth.new.self c.note_lock.new.self c.depth-depth.result c.depth-depth.ensures c.note_depth.ensures c.note_lock.ensures

pub returns-clause-enters : goal.returns-clause-enters
returns-clause-enters g c = clear-enters c.args.site.now c.args.lock (Unit {0}) c.args.pass.now c.clear_locked.new.pass c.args.code c.requires.out c.requires.node c.clear_locked.ensures.steps c.clear_next.new.pass c.clear_next.ensures.steps c.note_depth.new.self c.note_lock.new.self c.depth-depth.result c.depth-depth.ensures c.note_depth.ensures c.note_lock.ensures c.requires.told

pub returns-clause-top : goal.returns-clause-top
returns-clause-top g c = clear-top c.args.site.now c.args.lock (Unit {0}) c.args.pass.now c.clear_locked.new.pass c.args.code c.requires.out c.requires.node c.clear_locked.ensures.steps c.clear_next.new.pass c.clear_next.ensures.steps c.note_depth.new.self c.note_lock.new.self c.depth-depth.result c.depth-depth.ensures c.note_depth.ensures c.note_lock.ensures

pub returns-clause-told : goal.returns-clause-told
returns-clause-told g c = clear-told c.args.site.now c.args.lock (Unit {0}) c.args.pass.now c.clear_locked.new.pass c.args.code c.requires.out c.requires.node c.clear_locked.ensures.steps c.clear_next.new.pass c.clear_next.ensures.steps c.note_depth.new.self c.note_lock.new.self c.depth-depth.result c.depth-depth.ensures c.note_depth.ensures c.note_lock.ensures c.requires.told

pub returns-clause-quick : goal.returns-clause-quick
returns-clause-quick g c = clear-quick c.args.site.now c.args.lock (Unit {0}) c.args.pass.now c.clear_locked.new.pass c.args.code c.requires.out c.requires.node c.clear_locked.ensures.steps c.clear_next.new.pass c.clear_next.ensures.steps c.note_depth.new.self c.note_lock.new.self c.depth-depth.result c.depth-depth.ensures c.note_depth.ensures c.note_lock.ensures
