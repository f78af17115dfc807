use Rattle.std.proofs.Common.{ap, sym, ◌∙◌}
use Rattle.mutex_slow.specs.Mutexes.{V}
use Rattle.mutex_slow.proofs.Ending.{ends-flags, ends-plain, looks-asked}
use Rattle.mutex_slow.proofs.release.release.Goals as goal

pub returns-in_default-clause-ends : goal.returns-in_default-clause-ends
returns-in_default-clause-ends g c = λ _. ends-plain c.args.pass.now.seat.me.0.view c.release_plain.new.pass.seat.me.0.view c.args.pass.now.seat.me.0.past c.release_plain.new.pass.seat.me.0.past c.args.pass.now.face.task c.requires.own.task
    c.in_default.ensures.released c.in_default.ensures.own_code c.release_plain.ensures.on.last c.release_plain.ensures.on.goes_on

pub returns-in-Ok-eq0-clause-ends : goal.returns-in-Ok-eq0-clause-ends
returns-in-Ok-eq0-clause-ends g c = λ _. ends-flags c.args.pass.now.seat.me.0.view c.release_plain.new.pass.seat.me.0.view c.release.new.pass.seat.me.0.view c.args.pass.now.seat.me.0.past c.release_plain.new.pass.seat.me.0.past c.release.new.pass.seat.me.0.past c.release_plain.new.pass.face.task c.in-Ok-eq0.field-0 (c.release_plain.ensures.on.own.task ∙ ap (λ (v : V). v.hand.task) c.in-Err.ensures.looked)
    c.in-Err.ensures.looked c.in-Ok-eq0.ensures.flags c.in-Ok-eq0.ensures.left c.release.ensures.on.last c.release_plain.ensures.on.goes_on c.release.ensures.on.goes_on c.release.ensures.unasked

pub returns-in-Ok-clause-ends : goal.returns-in-Ok-clause-ends
returns-in-Ok-clause-ends g c = λ _. ends-flags c.args.pass.now.seat.me.0.view c.release_plain.new.pass.seat.me.0.view c.release.new.pass.seat.me.0.view c.args.pass.now.seat.me.0.past c.release_plain.new.pass.seat.me.0.past c.release.new.pass.seat.me.0.past c.release_plain.new.pass.face.task c.in-Ok.field-0 (c.release_plain.ensures.on.own.task ∙ ap (λ (v : V). v.hand.task) c.in-Err.ensures.looked)
    c.in-Err.ensures.looked c.in-Ok.ensures.flags c.in-Ok.ensures.left c.release.ensures.on.last c.release_plain.ensures.on.goes_on c.release.ensures.on.goes_on c.release.ensures.unasked

pub returns-in-Err-release-clause-found : goal.returns-in-Err-release-clause-found
returns-in-Err-release-clause-found g c = λ _. looks-asked c.args.pass.now.seat.me.0.view c.release_plain.new.pass.seat.me.0.view c.release.new.pass.seat.me.0.view c.args.pass.now.seat.me.0.past c.release_plain.new.pass.seat.me.0.past c.release.new.pass.seat.me.0.past c.release_plain.new.pass.face.task c.in-Err-release.field-0 (c.release_plain.ensures.on.own.task ∙ ap (λ (v : V). v.hand.task) c.in-Err.ensures.looked)
    (sym c.requires.own.held ∙ c.requires.held) c.in-Err.ensures.looked c.in-Err-release.ensures.asked c.in-Err-release.ensures.found c.release.ensures.on.last c.release_plain.ensures.on.goes_on c.release.ensures.on.goes_on c.release.ensures.unasked
