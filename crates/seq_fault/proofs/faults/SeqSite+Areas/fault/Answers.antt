-- What the steps behind the loads of the call's words found, steps of the whole call found.
use Rattle.std.proofs.Common.{◌≡◌, ◌∙◌, ◌%◌, ◌+◌, ℕ, arith, ap, inl, inr, subst, sym}
use Rattle.lock_core.specs.Layout.{length_place}
use Rattle.lock_core.specs.Pasts.{FoundAtStep}
use Rattle.seq_fault.specs.SeqRuled.{V, seq_at}
use Rattle.seq_fault.specs.SeqSteps.{Faults}
use Rattle.seq_fault.proofs.Faulting.{err-maps, ok-joins, faults-since, finds-before, found-longer, one-word-before, reads-at-one-word, steps-on, turned-on}
use Rattle.seq_fault.proofs.faults.SeqSite+Areas.fault.Goals as goal

pub returns-clause-on : goal.returns-clause-on
returns-clause-on c = record { own = c.validate.ensures.on.own; goes_on = λ p t. c.validate.ensures.on.goes_on p (c.read_optimistically.ensures.on.goes_on p (c.next_fault-page.ensures.on.goes_on p t)) }

pub returns-clause-ok : goal.returns-clause-ok
returns-clause-ok c =
    let k = c.args.self.now.site.table.shared.key in
    let x = c.next_fault-page.new.pass.seat.me.0.view in
    let u = c.read_optimistically.new.pass.seat.me.0.view in
    let z = c.validate.new.pass.seat.me.0.view in
    ok-joins c.validate.result (λ reply f two. subst (λ (y : V). Faults k y reply z) c.next_fault-page.ensures.kept (faults-since k x u z reply c.read_optimistically.ensures.few two f)) c.validate.ensures.ok c.validate.ensures.counted

pub returns-clause-read : goal.returns-clause-read
returns-clause-read c =
    let v = c.args.pass.now.pass.seat.me.0.view in
    let x = c.next_fault-page.new.pass.seat.me.0.view in
    let u = c.read_optimistically.new.pass.seat.me.0.view in
    let z = c.validate.new.pass.seat.me.0.view in
    let px = c.next_fault-page.new.pass.seat.me.0.past in
    let pu = c.read_optimistically.new.pass.seat.me.0.past in
    let pz = c.validate.new.pass.seat.me.0.past in
    let before = c.in-Ok.read.before in
    let front = c.validate.new.pass.face.front in
    let e = c.in-Ok.ensures in
    ok-joins c.validate.result (λ reply (t : (front ≡ c.in-Ok.read.front) × FoundAtStep u.hand.task (u.steps + 1) seq_at before pu pz) two. one-word-before v x _ _ _ c.next_fault-page.ensures.kept c.next_fault-page.ensures.on.goes_on front z
    (reads-at-one-word x u z before front px pu pz c.read_optimistically.ensures.few e.two e.even e.first (subst (λ (n : ℕ). FoundAtStep x.hand.task (x.steps + 2) length_place n px pu) (sym t.0) e.measured) t.1 c.read_optimistically.ensures.on.goes_on c.validate.ensures.on.goes_on two))
    (ok-joins c.validate.result (λ reply same again. (same, again)) c.validate.ensures.front c.validate.ensures.again) c.validate.ensures.counted

pub returns-clause-raced : goal.returns-clause-raced
returns-clause-raced c = err-maps c.validate.result (λ why t. inr (subst (λ (n : ℕ). n % 2 ≡ 0) (sym t.0) c.in-Ok.ensures.even, λ e. t.1 (e ∙ t.0))) c.validate.ensures.raced

pub returns-clause-first : goal.returns-clause-first
returns-clause-first c =
    let v = c.args.pass.now.pass.seat.me.0.view in
    let x = c.next_fault-page.new.pass.seat.me.0.view in
    let px = c.next_fault-page.new.pass.seat.me.0.past in
    let pu = c.read_optimistically.new.pass.seat.me.0.past in
    err-maps c.validate.result (λ why t. finds-before v x _ _ _ c.next_fault-page.ensures.kept c.next_fault-page.ensures.on.goes_on 1 seq_at why.before
    (found-longer px pu _ (subst (λ (n : ℕ). FoundAtStep x.hand.task (x.steps + 1) seq_at n px pu) (sym t.0) c.in-Ok.ensures.first) c.validate.ensures.on.goes_on)) c.validate.ensures.raced

pub returns-clause-kept : goal.returns-clause-kept
returns-clause-kept c =
    let v = c.args.pass.now.pass.seat.me.0.view in
    let x = c.next_fault-page.new.pass.seat.me.0.view in
    let u = c.read_optimistically.new.pass.seat.me.0.view in
    let z = c.validate.new.pass.seat.me.0.view in
    err-maps c.validate.result (λ why e. turned-on v u z (steps-on v x u c.next_fault-page.ensures.kept c.read_optimistically.ensures.few) e) c.validate.ensures.kept

pub returns-clause-face : goal.returns-clause-face
returns-clause-face c = err-maps c.validate.result (λ why e. e ∙ (c.read_optimistically.ensures.face ∙ c.next_fault-page.ensures.face)) c.validate.ensures.face

pub returns-clause-few : goal.returns-clause-few
returns-clause-few c =
    let v = c.args.pass.now.pass.seat.me.0.view in
    let most = c.read_optimistically.ensures.few.few in
    let more = ap (λ (z : V). z.steps) c.read_optimistically.ensures.few.is in
    let two = ap (λ (z : V). z.steps) c.next_fault-page.ensures.kept in
    err-maps c.validate.result (λ why e. let one = ap (λ (z : V). z.steps) e in omega (arith, most, more, two, one)) c.validate.ensures.kept

pub returns-in-Err-clause-on : goal.returns-in-Err-clause-on
returns-in-Err-clause-on c = record { own = c.read_optimistically.ensures.on.own; goes_on = λ p t. c.read_optimistically.ensures.on.goes_on p (c.next_fault-page.ensures.on.goes_on p t) }

pub returns-in-Err-clause-raced : goal.returns-in-Err-clause-raced
returns-in-Err-clause-raced c = inl c.in-Err.ensures.odd

pub returns-in-Err-clause-first : goal.returns-in-Err-clause-first
returns-in-Err-clause-first c = finds-before c.args.pass.now.pass.seat.me.0.view c.next_fault-page.new.pass.seat.me.0.view _ _ _ c.next_fault-page.ensures.kept c.next_fault-page.ensures.on.goes_on 1 seq_at c.in-Err.raced.before c.in-Err.ensures.raced

pub returns-in-Err-clause-kept : goal.returns-in-Err-clause-kept
returns-in-Err-clause-kept c = steps-on c.args.pass.now.pass.seat.me.0.view c.next_fault-page.new.pass.seat.me.0.view c.read_optimistically.new.pass.seat.me.0.view c.next_fault-page.ensures.kept c.read_optimistically.ensures.few

pub returns-in-Err-clause-face : goal.returns-in-Err-clause-face
returns-in-Err-clause-face c = c.read_optimistically.ensures.face ∙ c.next_fault-page.ensures.face

pub returns-in-Err-clause-few : goal.returns-in-Err-clause-few
returns-in-Err-clause-few c =
    let most = c.read_optimistically.ensures.few.few in
    let more = ap (λ (z : V). z.steps) c.read_optimistically.ensures.few.is in
    let two = ap (λ (z : V). z.steps) c.next_fault-page.ensures.kept in
    omega (arith, most, more, two)
