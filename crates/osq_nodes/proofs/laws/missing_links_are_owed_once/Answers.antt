use Rattle.osq_nodes.proofs.laws.missing_links_are_owed_once.Goals as goal

pub returns : goal.returns
returns c = λ tasks m r x y. r.linked.owed x y
