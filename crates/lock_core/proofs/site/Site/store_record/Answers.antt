use Rattle.std.proofs.Common.{◌≡◌, ℕ, ◌+◌, inl, set, sym, ap, subst, arith}
use Rattle.lock_core.specs.Plans.{start}
use Rattle.lock_core.specs.Layout.{lay, recs_at}
use Rattle.lock_core.specs.Records.{row}
use Rattle.lock_core.specs.Sites.{SiteKept, SiteStep}
use Rattle.lock_core.specs.Types.{Hand}
use Rattle.lock_core.proofs.RowLaws.{some-inside, row-task}
use Rattle.lock_core.proofs.WordLaws.{records-there}
use Rattle.lock_core.proofs.site.Site.store_record.Goals as goal
use Rattle.lock_core.specs.declared.layout.TheConstants.{ENTRIES_AT}

pub place-requires-clause-task : goal.place-requires-clause-task
place-requires-clause-task g c = row-task c.args.self.now.table.shared.key c.args.entry.task c.args.entry.call (some-inside (row c.args.self.now.table.shared.key c.args.entry.task) c.args.entry.call c.requires.may.0 c.requires.may.1.planned)

pub place-requires-clause-call : goal.place-requires-clause-call
place-requires-clause-call g c = some-inside (row c.args.self.now.table.shared.key c.args.entry.task) c.args.entry.call c.requires.may.0 c.requires.may.1.planned

pub put-requires-clause-holds : goal.put-requires-clause-holds
put-requires-clause-holds g c = let same = c.requires.hand in let task = ap (λ (h : Hand). h.task) same in (ap (λ (h : Hand). h.held) same, inl task, (ap (λ (h : Hand). h.misses) same, inl (ap (λ (h : Hand). h.saw) same, task)))

pub put-requires-clause-keeps : goal.put-requires-clause-keeps
put-requires-clause-keeps g c = λ s hs r at. let k = c.args.self.now.table.shared.key in let e = c.args.entry in let v = c.args.pass.now.seat.me.0.view in let n = c.args.self.now.counted in let p = c.place.ensures.place in
    let index : recs_at k + (start k e.task + e.call) ≡ ENTRIES_AT + c.args.self.now.count + c.place.result = omega (arith, n, p) in
    subst (λ (z : ℕ × ℕ × Hand). SiteKept g.R.O.Object.object g.R.SiteRule.unavailable g.R.O.Object.WORDS k (lay k (set s z.0 z.1)) (set hs c.args.pass.now.seat.id z.2) × SiteStep g.R.SiteRule.reads_unheld (v.steps + 1) (lay k s) (lay k (set s z.0 z.1)) v.hand z.2)
    (λ i. (index i, sym c.pack.ensures i, sym c.requires.hand i)) (records-there g.R.O.Object.object g.R.SiteRule.unavailable g.R.O.Object.WORDS c.args.self.now.table.shared.key s hs c.args.pass.now.seat.id v.hand e c.requires.may.0 c.args.rec g.P.Puts.hand.seen r at c.requires.planned c.requires.may.1)
