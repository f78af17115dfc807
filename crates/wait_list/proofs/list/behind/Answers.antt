use Rattle.std.proofs.Common.{ap, arith, refl, ◌+◌, ◌*◌, ◌-◌}
use Rattle.wait_list.proofs.Finding.{finds-none, finds-some, finds-word, next-few, next-small}
use Rattle.wait_list.proofs.Waiters.{code-of}
use Rattle.wait_list.proofs.list.behind.Goals as goal

pub prev_at-requires : goal.prev_at-requires
prev_at-requires g c = let t = c.word-next.ensures.told in next-small g.H.ListHost.list g.H.ListHost.with_list g.H.ListHost.list_back g.H.ListHost.list_over c.args.pass.now.seat.me.0.view c.word-next.new.pass.seat.me.0.view t.0 t.1 t.3 c.requires.still c.args.code c.word-next.result c.next_at.result (code-of _ _ c.args.site.now.small.tasks c.requires.code) c.next_at.ensures t.2 t.5

pub returns-then-next-eq0-clause-told : goal.returns-then-next-eq0-clause-told
returns-then-next-eq0-clause-told g c = let t = c.word-next.ensures.told in finds-none g.H.ListHost.list g.H.ListHost.with_list g.H.ListHost.list_back g.H.ListHost.list_over c.args.pass.now.seat.me.0.view c.word-next.new.pass.seat.me.0.view t.0 t.1 t.3 c.requires.still c.args.code c.word-next.result c.next_at.result (code-of _ _ c.args.site.now.small.tasks c.requires.code) c.next_at.ensures t.2 t.5 c.if-next-eq0.true

pub returns-clause-told : goal.returns-clause-told
returns-clause-told g c = let t = c.word-next.ensures.told in let u = c.word-prev.ensures.told in
    finds-some g.H.ListHost.list g.H.ListHost.with_list g.H.ListHost.list_back g.H.ListHost.list_over c.args.pass.now.seat.me.0.view c.word-next.new.pass.seat.me.0.view t.0 t.1 t.3 c.requires.still c.args.code c.word-next.result c.next_at.result (code-of _ _ c.args.site.now.small.tasks c.requires.code) c.next_at.ensures t.2 t.5 c.word-prev.result (c.word-next.result - 1) c.prev_at.result c.word-prev.new.pass.seat.me.0.view u.0 c.if-next-eq0.false refl c.prev_at.ensures u.1 u.2 u.3

pub returns-then-next-eq0-clause-found : goal.returns-then-next-eq0-clause-found
returns-then-next-eq0-clause-found g c = let t = c.word-next.ensures.told in
    finds-word g.H.ListHost.with_list c.args.pass.now.seat.me.0.view c.word-next.new.pass.seat.me.0.view t.0 g.H.ListHost.LIST c.next_at.result (8 * c.args.code) c.word-next.result 0 c.word-next.new.pass.seat.me.0.view.steps c.args.pass.now.seat.me.0.past c.word-next.new.pass.seat.me.0.past c.word-next.new.pass.seat.me.0.past
    t.3 (omega arith) c.word-next.ensures.on.last c.word-next.ensures.found c.next_at.ensures c.if-next-eq0.true c.word-next.ensures.on.goes_on (λ p e. e)

pub returns-clause-found : goal.returns-clause-found
returns-clause-found g c = let t = c.word-next.ensures.told in let later = ap (λ v. v.steps) c.word-prev.ensures.told.3 in let some = c.if-next-eq0.false in
    finds-word g.H.ListHost.with_list c.args.pass.now.seat.me.0.view c.word-next.new.pass.seat.me.0.view t.0 g.H.ListHost.LIST c.next_at.result (8 * c.args.code) c.word-next.result (c.word-next.result - 1 + 1) c.word-prev.new.pass.seat.me.0.view.steps c.args.pass.now.seat.me.0.past c.word-next.new.pass.seat.me.0.past c.word-prev.new.pass.seat.me.0.past
    t.3 (omega (arith, later)) c.word-next.ensures.on.last c.word-next.ensures.found c.next_at.ensures (omega (arith, some)) c.word-next.ensures.on.goes_on c.word-prev.ensures.on.goes_on

pub word-prev-requires-clause-inside : goal.word-prev-requires-clause-inside
word-prev-requires-clause-inside g c = let t = c.word-next.ensures.told in let f = next-few g.H.ListHost.list g.H.ListHost.with_list g.H.ListHost.list_back g.H.ListHost.list_over c.args.pass.now.seat.me.0.view c.word-next.new.pass.seat.me.0.view t.0 t.1 t.3 c.requires.still c.args.code c.word-next.result c.next_at.result (code-of _ _ c.args.site.now.small.tasks c.requires.code) c.next_at.ensures t.2 t.5 c.args.site.now.table.shared.key c.requires.own.plan c.requires.there in let e = c.prev_at.ensures in omega (arith, f, e)

pub returns-clause-small : goal.returns-clause-small
returns-clause-small g c = let t = c.word-next.ensures.told in let f = next-few g.H.ListHost.list g.H.ListHost.with_list g.H.ListHost.list_back g.H.ListHost.list_over c.args.pass.now.seat.me.0.view c.word-next.new.pass.seat.me.0.view t.0 t.1 t.3 c.requires.still c.args.code c.word-next.result c.next_at.result (code-of _ _ c.args.site.now.small.tasks c.requires.code) c.next_at.ensures t.2 t.5 c.args.site.now.table.shared.key c.requires.own.plan c.requires.there in let some = c.if-next-eq0.false in omega (arith, f, some)
