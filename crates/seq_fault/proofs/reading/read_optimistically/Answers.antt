-- What each load of a fault tells.
use Rattle.std.proofs.Common.{◌≡◌, ◌∙◌, ◌%◌, length, arith, ap, inl, inr, rules}
use Rattle.word_bits.proofs.States.{state_is_state}
use Rattle.lock_core.specs.Layout.{length_place}
use Rattle.lock_core.specs.Views.{ticked}
use Rattle.vma_map.specs.Laws.Space.{starts, called, goes_on, replies}
use Rattle.vma_map.specs.Spaces.{space}
use Rattle.seq_fault.specs.SeqPlays.{glance, staled}
use Rattle.seq_fault.specs.SeqRuled.{V, seq_at}
use Rattle.seq_fault.proofs.Faulting.{finds, gathers, gathered-few, gathered-two, gathered-read, told-next}
use Rattle.seq_fault.proofs.reading.read_optimistically.Goals as goal

pub returns-then-before-eq1-clause-few : goal.returns-then-before-eq1-clause-few
returns-then-before-eq1-clause-few c =
    let v = c.args.pass.now.seat.me.0.view in
    let is = c.watch-before.ensures.odd (λ z. let n = c.if-before-eq1.true in omega (arith, z, n)) in
    record { steps = 1; few = omega arith; watch = v.ext; is = is }

pub returns-then-before-eq1-clause-raced : goal.returns-then-before-eq1-clause-raced
returns-then-before-eq1-clause-raced c =
    let v = c.args.pass.now.seat.me.0.view in
    let x = c.watch-before.new.pass.seat.me.0.view in
    let is = c.watch-before.ensures.odd (λ z. let n = c.if-before-eq1.true in omega (arith, z, n)) in
    let one = ap (λ (z : V). z.steps) is in
    finds v x 1 seq_at c.watch-before.result _ _ _ (ap (λ (z : V). z.hand.task) is) one c.watch-before.ensures.on.last c.watch-before.ensures.found c.watch-before.ensures.on.goes_on (λ p t. t)

pub measure-front-requires-clause-watching : goal.measure-front-requires-clause-watching
measure-front-requires-clause-watching c =
    let before = c.watch-before.result in
    let even : before % 2 ≡ 0 = (let n = c.if-before-eq1.false in omega (arith, n)) in
    let b = c.watch-before.ensures.even even in
    (glance before b.0 b.1, ap (λ (z : V). z.ext) b.3)

pub search_words-requires-clause-watching : goal.search_words-requires-clause-watching
search_words-requires-clause-watching c =
    let before = c.watch-before.result in
    let even : before % 2 ≡ 0 = (let n = c.if-before-eq1.false in omega (arith, n)) in
    let b = c.watch-before.ensures.even even in
    elim (c.measure-front.ensures.told (glance before b.0 b.1) (ap (λ (z : V). z.ext) b.3)) [
      | inl t ↦ (glance before b.0 b.1, ap (λ (z : V). z.ext) (t.1 ∙ ap ticked b.3))
      | inr t ↦ (staled (glance before b.0 b.1), ap (λ (z : V). z.ext) t)
    ]

pub returns-clause-on : goal.returns-clause-on
returns-clause-on c = record { own = search rules; goes_on = λ p t. c.search_words.ensures.on.goes_on p (c.measure-front.ensures.on.goes_on p (c.watch-before.ensures.on.goes_on p t)); last = search rules }

pub returns-clause-few : goal.returns-clause-few
returns-clause-few c =
    let v = c.args.pass.now.seat.me.0.view in
    let before = c.watch-before.result in
    let even : before % 2 ≡ 0 = (let n = c.if-before-eq1.false in omega (arith, n)) in
    let b = c.watch-before.ensures.even even in
    let u = c.search_words.new.pass.seat.me.0.view in
    let s = c.search_words.new.search in
    let r = gathers v c.watch-before.new.pass.seat.me.0.view c.measure-front.new.pass.seat.me.0.view u before c.measure-front.result s b.0 b.1 b.3 c.measure-front.ensures.told c.search_words.ensures.searched in
    gathered-few v u before c.measure-front.result s b.0 b.1 r

pub returns-clause-two : goal.returns-clause-two
returns-clause-two c =
    let v = c.args.pass.now.seat.me.0.view in
    let before = c.watch-before.result in
    let even : before % 2 ≡ 0 = (let n = c.if-before-eq1.false in omega (arith, n)) in
    let b = c.watch-before.ensures.even even in
    let u = c.search_words.new.pass.seat.me.0.view in
    let s = c.search_words.new.search in
    let r = gathers v c.watch-before.new.pass.seat.me.0.view c.measure-front.new.pass.seat.me.0.view u before c.measure-front.result s b.0 b.1 b.3 c.measure-front.ensures.told c.search_words.ensures.searched in
    gathered-two v u before c.measure-front.result s b.0 b.1 r

pub returns-clause-read : goal.returns-clause-read
returns-clause-read c =
    let v = c.args.pass.now.seat.me.0.view in
    let before = c.watch-before.result in
    let even : before % 2 ≡ 0 = (let n = c.if-before-eq1.false in omega (arith, n)) in
    let b = c.watch-before.ensures.even even in
    let u = c.search_words.new.pass.seat.me.0.view in
    let s = c.search_words.new.search in
    let r = gathers v c.watch-before.new.pass.seat.me.0.view c.measure-front.new.pass.seat.me.0.view u before c.measure-front.result s b.0 b.1 b.3 c.measure-front.ensures.told c.search_words.ensures.searched in
    let k = c.args.site.now.table.shared.key in
    let state = state_is_state space record { starts = starts; called = called; goes_on = goes_on; replies = replies } k b.1 in
    let page = c.search_words.ensures.page ∙ c.new-search.ensures.page in
    gathered-read v u before c.measure-front.result s b.0 b.1 r k c.args.page c.args.access c.requires.next b.2 state c.met-reply.result page c.met-reply.ensures

pub returns-clause-first : goal.returns-clause-first
returns-clause-first c =
    let v = c.args.pass.now.seat.me.0.view in
    let before = c.watch-before.result in
    let even : before % 2 ≡ 0 = (let n = c.if-before-eq1.false in omega (arith, n)) in
    let is = (c.watch-before.ensures.even even).3 in
    finds v c.watch-before.new.pass.seat.me.0.view 1 seq_at before _ _ _ (ap (λ (z : V). z.hand.task) is) (ap (λ (z : V). z.steps) is) c.watch-before.ensures.on.last c.watch-before.ensures.found c.watch-before.ensures.on.goes_on (λ p t. c.search_words.ensures.on.goes_on p (c.measure-front.ensures.on.goes_on p t))

pub returns-clause-measured : goal.returns-clause-measured
returns-clause-measured c =
    let v = c.args.pass.now.seat.me.0.view in
    let before = c.watch-before.result in
    let even : before % 2 ≡ 0 = (let n = c.if-before-eq1.false in omega (arith, n)) in
    let b = c.watch-before.ensures.even even in
    let x = c.watch-before.new.pass.seat.me.0.view in
    let y = c.measure-front.new.pass.seat.me.0.view in
    let front = c.measure-front.result in
    let then = told-next (λ g. front ≡ length g.log) (glance before b.0 b.1) x y (ap (λ (z : V). z.ext) b.3) c.measure-front.ensures.told in
    let one = ap (λ (z : V). z.steps) b.3 in
    let two = then.1 in
    finds v y 2 length_place front _ _ _ (then.0 ∙ ap (λ (z : V). z.hand.task) b.3) (omega (arith, one, two)) c.measure-front.ensures.on.last c.measure-front.ensures.found (λ p t. c.measure-front.ensures.on.goes_on p (c.watch-before.ensures.on.goes_on p t)) c.search_words.ensures.on.goes_on
