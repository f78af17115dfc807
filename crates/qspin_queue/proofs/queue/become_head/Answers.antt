use Rattle.std.proofs.Common.{◌∙◌, arith}
use Rattle.qspin_queue.proofs.HeadSteps.{link-told, link-point, link-code, waited-code, become-waits, become-nodes, become-told}
use Rattle.qspin_queue.proofs.queue.become_head.Goals as goal

pub wait_head-requires-clause-told : goal.wait_head-requires-clause-told
wait_head-requires-clause-told g c = link-told c.args.site.now c.args.lock g.I.Interrupt.silent c.args.pass.now c.link.new.pass c.requires.point c.link.ensures.steps (let there = c.requires.there in let eight = g.H.SpinHost.spin_eight in omega (arith, there, eight)) c.requires.told

pub wait_head-requires-clause-point : goal.wait_head-requires-clause-point
wait_head-requires-clause-point g c = link-point c.args.site.now c.args.lock g.I.Interrupt.silent c.args.pass.now c.link.new.pass c.requires.point c.link.ensures.steps

pub wait_head-requires-clause-node : goal.wait_head-requires-clause-node
wait_head-requires-clause-node g c = link-code c.args.site.now c.args.lock g.I.Interrupt.silent c.args.pass.now c.link.new.pass c.requires.point c.link.ensures.steps ∙ c.requires.node

pub load_next-requires-clause-node : goal.load_next-requires-clause-node
load_next-requires-clause-node g c = waited-code c.args.site.now c.args.lock g.I.Interrupt.silent c.args.pass.now c.link.new.pass c.requires.point c.link.ensures.steps c.wait_head.new.pass c.wait_head.new.pass 0 c.wait_head.ensures.waits ∙ c.requires.node

pub returns-clause-waits : goal.returns-clause-waits
returns-clause-waits g c = become-waits c.args.site.now c.args.lock g.I.Interrupt.silent c.args.pass.now c.link.new.pass c.requires.point c.link.ensures.steps c.wait_head.new.pass c.load_next.new.pass c.load_next.result c.wait_head.ensures.waits c.load_next.ensures.steps

pub returns-clause-nodes : goal.returns-clause-nodes
returns-clause-nodes g c = become-nodes c.args.site.now c.args.lock g.I.Interrupt.silent c.args.pass.now c.link.new.pass c.requires.point c.link.ensures.steps c.wait_head.new.pass c.load_next.new.pass c.load_next.result c.wait_head.ensures.waits c.requires.told.depth c.wait_head.ensures.nodes c.load_next.ensures.steps

pub returns-clause-told : goal.returns-clause-told
returns-clause-told g c = become-told c.args.site.now c.args.lock g.I.Interrupt.silent c.args.pass.now c.link.new.pass c.requires.point c.link.ensures.steps c.wait_head.new.pass c.load_next.new.pass c.load_next.result c.wait_head.ensures.waits (let there = c.requires.there in let eight = g.H.SpinHost.spin_eight in omega (arith, there, eight)) c.wait_head.ensures.told c.load_next.ensures.steps
