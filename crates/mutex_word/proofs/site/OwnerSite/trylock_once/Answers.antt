use Rattle.std.proofs.Common.{◌≡◌, ℕ, ◌*◌, ◌+◌, ◌<◌, Bool, List, sym, ap, ◌∙◌, arith}
use Rattle.std.specs.Prelude.{Result, Ok, Err, IfErr}
use Rattle.word_bits.specs.declared.TheConstants.{MAX_TASKS}
use Rattle.lock_core.specs.Kinds.{mutex}
use Rattle.lock_core.specs.Locking.{Misses}
use Rattle.lock_core.specs.Pasts.{GoesOn, FoundAt, IsOwnStep}
use Rattle.lock_core.specs.Shown.{no_line, shown}
use Rattle.lock_core.proofs.Showing.{missed-misses}
use Rattle.mutex_word.specs.Holders.{MissesOwner}
use Rattle.mutex_word.specs.OwnerRuled.{V, IsPlain, owner_at}
use Rattle.mutex_word.specs.Types.{Moment, No}
use Rattle.mutex_word.proofs.site.OwnerSite.trylock_once.Goals as goal

misses-err : (r : Result (Unit {0}) ℕ) (v u : V) (p q : List Moment) → v.hand.held ≡ No → IsOwnStep u q → GoesOn p q → IfErr r (λ word. MissesOwner v word u) → IfErr r (λ word. FoundAt owner_at word q) → IfErr r (λ word. (word < 8 * MAX_TASKS + 8) × IsPlain word)
    → IfErr r (λ word. (reads : Bool) → Misses mutex reads owner_at word (shown (λ x. no_line) v.fronts v p) (shown (λ x. no_line) u.fronts u q))
misses-err (Ok x) v u p q out own goes missed found fits = tt
misses-err (Err word) v u p q out own goes missed found fits = λ reads. let some = missed.0 in let few = fits.0 in let plain = fits.1 in missed-misses (λ x. no_line) v.fronts u.fronts (ap {A = V} (λ w. w.fronts) missed.1) mutex reads owner_at word v u p q missed.1 own found goes (omega (arith, some, plain), omega (arith, few)) out

pub returns-clause-misses : goal.returns-clause-misses
returns-clause-misses g c = misses-err c.take_free.result c.args.pass.now.pass.seat.me.0.view c.take_free.new.pass.seat.me.0.view c.args.pass.now.pass.seat.me.0.past c.take_free.new.pass.seat.me.0.past
    (sym c.requires.own.held ∙ c.requires.out) c.take_free.ensures.on.last c.take_free.ensures.on.goes_on c.take_free.ensures.missed c.take_free.ensures.found c.take_free.ensures.word
