use Rattle.std.proofs.Common.{◌≡◌, ap, sym, subst, ◌∙◌, arith}
use Rattle.lock_core.specs.Records.{row}
use Rattle.lock_core.specs.SitePasses.{MayNote}
use Rattle.lock_core.specs.Types.{Entry}
use Rattle.lock_core.proofs.RowLaws.{some-inside, start-below}
use Rattle.lock_core.proofs.Recording.{next-is, unheld-may, unheld-noted, unheld-planned}
use Rattle.lock_core.proofs.site.Site.note_unheld.Goals as goal

pub settle_unheld-requires-clause-may : goal.settle_unheld-requires-clause-may
settle_unheld-requires-clause-may g c = let k = c.args.self.now.table.shared.key in let m = g.met.R.O.Object in let o = g.R.O.Object.object in let u = g.R.SiteRule.unavailable in let own = c.requires.own in let h = c.args.pass.now.seat.me.0.view.hand in
    let named = sym own.task ∙ c.in-Some.is in let done = sym own.done ∙ sym c.requires.call in let e : Entry = record { task = c.in-Some.task; call = c.args.call } in
    let front = own.front in let near = own.shorter in let limit = c.args.self.now.small.calls in
    unheld-may o u m.starts m.called m.goes_on m.replies k h e c.args.pass.now.face.front c.args.reply c.requires.unheld (subst (λ (z : Entry). MayNote o u k h z c.args.reply) (next-is h c.in-Some.task c.args.call named done) c.requires.next) c.requires.unsent named done own.stage own.front (omega (arith, front, near, limit)) own.saw

pub overflow_add-pass : goal.overflow_add-pass
overflow_add-pass g c = let k = c.args.self.now.table.shared.key in let own = c.requires.own in let h = c.args.pass.now.seat.me.0.view.hand in
    let named = sym own.task ∙ c.in-Some.is in let done = sym own.done ∙ sym c.requires.call in let limit = c.args.self.now.small.calls in
    let q = unheld-planned g.R.O.Object.object g.R.SiteRule.unavailable k h (record { task = c.in-Some.task; call = c.args.call }) c.args.reply c.requires.unheld (subst (λ (z : Entry). MayNote g.R.O.Object.object g.R.SiteRule.unavailable k h z c.args.reply) (next-is h c.in-Some.task c.args.call named done) c.requires.next) in
    let b = start-below k c.in-Some.task c.args.call (some-inside (row k c.in-Some.task) c.args.call q.0 q.1) in let d = c.requires.call in
    let face : c.settle_unheld.new.pass.face.done ≡ c.args.pass.now.face.done = ap (λ f. f.done) c.settle_unheld.ensures.face in omega (arith, b, d, limit, face)

pub returns-in-Some-clause-kept : goal.returns-in-Some-clause-kept
returns-in-Some-clause-kept g c = let own = c.requires.own in let v = c.args.pass.now.seat.me.0.view in
    c.settle_unheld.ensures.kept ∙ unheld-noted v (record { task = c.in-Some.task; call = c.args.call }) c.args.pass.now.face.front c.args.reply c.requires.unheld (next-is v.hand c.in-Some.task c.args.call (sym own.task ∙ c.in-Some.is) (sym own.done ∙ sym c.requires.call)) own.front
