use Rattle.std.proofs.Common.{◌∙◌, sym, subst, ap, inl, refl}
use Rattle.rwsem_slow.specs.Queued.{IsListed}
use Rattle.rwsem_slow.specs.Types.{RwSemHand}
use Rattle.rwsem_wake.specs.RwSemViews.{V}
use Rattle.rwsem_slow.proofs.Quitting.{heard-on, ungranted-leaves}
use Rattle.rwsem_slow.proofs.reader.sleep.quit.Goals as goal

pub lock-requires-clause-told : goal.lock-requires-clause-told
lock-requires-clause-told g c = inl refl

pub interrupt-requires-clause-may : goal.interrupt-requires-clause-may
interrupt-requires-clause-may g c = ungranted-leaves c.lock.new.pass.seat.me.0.view c.hear_locked.new.pass.seat.me.0.view (ap (λ (e : RwSemHand). e.list.changes) c.lock.ensures.gained.ext ∙ c.requires.listed.still) (subst IsListed (sym (ap (λ (e : RwSemHand). e.wake) c.lock.ensures.gained.ext)) c.requires.listed.listed) (c.hear_locked.ensures.missed c.if-hear_locked.false)

pub interrupt-requires-clause-heard : goal.interrupt-requires-clause-heard
interrupt-requires-clause-heard g c = heard-on c.args.why c.args.pass.now.seat.me.0.view.hand c.hear_locked.new.pass.seat.me.0.view.hand (ap (λ (z : V). z.hand) (c.hear_locked.ensures.missed c.if-hear_locked.false) ∙ c.lock.ensures.gained.hand) c.requires.heard
