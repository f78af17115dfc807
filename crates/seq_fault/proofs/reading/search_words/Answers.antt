-- Each word that was loaded stands at the place that the search wanted.
use Rattle.std.proofs.Common.{◌∙◌, refl, sym}
use Rattle.seq_fault.proofs.Faulting.{searched-none, searched-more, still-watching}
use Rattle.seq_fault.proofs.reading.search_words.Goals as goal

pub loop-at-init : goal.loop-at-init
loop-at-init c = (c.requires.own, refl, (λ p t. t), c.requires.latest, refl, λ m on. searched-none m c.args.search.now c.args.pass.now.seat.me.0.view c.requires.begins c.requires.agrees on)

pub peek-word-requires-clause-watching : goal.peek-word-requires-clause-watching
peek-word-requires-clause-watching c = still-watching c.requires.watching.0 c.loop-at.search c.args.pass.now.seat.me.0.view c.loop-at.pass.seat.me.0.view (c.loop-at.invariant.5 c.requires.watching.0 c.requires.watching.1)

pub loop-at-preserved : goal.loop-at-preserved
loop-at-preserved c = (
  c.peek-word.ensures.on.own,
  c.peek-word.ensures.face ∙ c.loop-at.invariant.1,
  (λ p t. c.peek-word.ensures.on.goes_on p (c.loop-at.invariant.2 p t)),
  c.peek-word.ensures.on.last,
  c.give.ensures.page ∙ c.loop-at.invariant.4,
  λ m on. searched-more m c.loop-at.search c.give.new.self c.in-Some.at c.peek-word.result c.args.pass.now.seat.me.0.view c.loop-at.pass.seat.me.0.view c.peek-word.new.pass.seat.me.0.view (sym c.want.ensures.is ∙ c.in-Some.is) c.give.ensures.more c.give.ensures.agrees (c.loop-at.invariant.5 m on) c.peek-word.ensures.told,
)
