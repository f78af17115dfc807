use Rattle.std.proofs.Common.{ℕ, ◌+◌, subst, arith, rules}
use Rattle.lock_core.specs.Spins.{word_at}
use Rattle.lock_core.specs.Pasts.{FoundAt}
use Rattle.lock_core.specs.SiteHandles.{past_of}
use Rattle.qspin_word.proofs.Noting.{same-past}
use Rattle.qspin_word.proofs.Going.{first_found, tries-told}
use Rattle.qspin_word.proofs.word.trylock_at.Goals as goal

pub returns-clause-on : goal.returns-clause-on
returns-clause-on g c = record {
  own = search rules;
  goes_on = λ p t. same-past c.exchange_free-found.new.pass c.note.new.pass c.note.ensures.same p (c.exchange_free-found.ensures.steps.goes_on p (c.look-seen.ensures.steps.goes_on p t));
  last = search rules;
}

pub returns-clause-told : goal.returns-clause-told
returns-clause-told g c = λ many told. tries-told c.args.lock c.args.pass.now c.look-seen.new.pass c.exchange_free-found.new.pass c.note.new.pass c.look-seen.result c.exchange_free-found.result c.requires.out (let there = c.requires.there in let eight = g.H.SpinHost.spin_eight in omega (arith, there, eight)) c.args.site.now c.look-seen.ensures.steps c.exchange_free-found.ensures.steps (c.note.ensures.noted many) c.if-found-ne0.false told

pub returns-clause-loaded : goal.returns-clause-loaded
returns-clause-loaded g c = let mid = c.look-seen.new.pass in let i = g.H.SpinHost.FIRST + word_at c.args.lock in let last = c.note.new.pass in
    first_found c.args.site.now c.args.pass.now mid last _ i c.look-seen.ensures.steps (subst (λ (n : ℕ). FoundAt i n (past_of mid)) c.if-seen-ne0.false c.look-seen.ensures.found) (λ p t. same-past c.exchange_free-found.new.pass last c.note.ensures.same p (c.exchange_free-found.ensures.steps.goes_on p t))

pub returns-then-found-ne0-clause-exchanged : goal.returns-then-found-ne0-clause-exchanged
returns-then-found-ne0-clause-exchanged g c = λ _. let mid = c.look-seen.new.pass in let i = g.H.SpinHost.FIRST + word_at c.args.lock in
    first_found c.args.site.now c.args.pass.now mid c.exchange_free-found.new.pass _ i c.look-seen.ensures.steps (subst (λ (n : ℕ). FoundAt i n (past_of mid)) c.if-seen-ne0.false c.look-seen.ensures.found) c.exchange_free-found.ensures.steps.goes_on
