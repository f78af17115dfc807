use Rattle.std.proofs.Common.{◌∙◌, Bool, true, false, refl, sym, subst}
use Rattle.lock_core.specs.Pasts.{GoesOn}
use Rattle.lock_core.specs.Shown.{StepsOn}
use Rattle.guarded.specs.Performing.{Refuses, TalliesCall}
use Rattle.guarded.specs.Types.{Int, Intr}
use Rattle.guarded.proofs.Recording.{tallies-ok, tallies-err}
use Rattle.guarded.proofs.guarded.Guarded.wait_int.Goals.{then-reads, else-reads}
use Rattle.guarded.proofs.guarded.Guarded.wait_int.Goals as goal

pub returns-in-Ok-clause-on : goal.returns-in-Ok-clause-on
returns-in-Ok-clause-on g c = elim c.if-reads.branch [
  | then-reads w ↦ subst (λ p. StepsOn g.L.SiteLock.sits g.L.SiteLock.view c.args.self.now.lock c.args.pass.now p) (sym w.pass-is) w.shared_int-got.ensures.on
  | else-reads w ↦ subst (λ p. StepsOn g.L.SiteLock.sits g.L.SiteLock.view c.args.self.now.lock c.args.pass.now p) (sym w.pass-is) w.alone_int-got.ensures.on
]

pub returns-in-Err-clause-on : goal.returns-in-Err-clause-on
returns-in-Err-clause-on g c = elim c.if-reads.branch [
  | then-reads w ↦ subst (λ p. StepsOn g.L.SiteLock.sits g.L.SiteLock.view c.args.self.now.lock c.args.pass.now p) (sym w.pass-is) w.shared_int-got.ensures.on
  | else-reads w ↦ subst (λ p. StepsOn g.L.SiteLock.sits g.L.SiteLock.view c.args.self.now.lock c.args.pass.now p) (sym w.pass-is) w.alone_int-got.ensures.on
]

pub returns-in-Ok-clause-counted : goal.returns-in-Ok-clause-counted
returns-in-Ok-clause-counted g c = elim c.if-reads.branch [
  | then-reads w ↦
      let v = g.L.SiteLock.view c.args.pass.now in
      let u = g.L.SiteLock.view w.shared_int-got.new.pass in
      subst (λ p. TalliesCall false v (g.L.SiteLock.view p)) (sym w.pass-is)
      (tallies-ok w.shared_int-got.result c.in-Ok.field-0 v u (sym w.got-is ∙ c.in-Ok.is) w.shared_int-got.ensures.tallied w.shared_int-got.ensures.how)
  | else-reads w ↦
      let v = g.L.SiteLock.view c.args.pass.now in
      let u = g.L.SiteLock.view w.alone_int-got.new.pass in
      subst (λ p. TalliesCall false v (g.L.SiteLock.view p)) (sym w.pass-is)
      (tallies-ok w.alone_int-got.result c.in-Ok.field-0 v u (sym w.got-is ∙ c.in-Ok.is) w.alone_int-got.ensures.tallied w.alone_int-got.ensures.how)
]

pub returns-in-Err-clause-refused : goal.returns-in-Err-clause-refused
returns-in-Err-clause-refused g c = elim c.if-reads.branch [
  | then-reads w ↦
      let v = g.L.SiteLock.view c.args.pass.now in
      let u = g.L.SiteLock.view w.shared_int-got.new.pass in
      let both = tallies-err g.L.SleepLock.kind true g.L.SleepLock.word_at w.shared_int-got.result c.in-Err.field-0 v u (sym w.got-is ∙ c.in-Err.is) w.shared_int-got.ensures.tallied w.shared_int-got.ensures.interrupted in
      subst (λ p. Refuses g.L.SleepLock.kind g.L.SleepLock.word_at Int c.args.reads Intr v (g.L.SiteLock.view p)) (sym w.pass-is)
      (subst (λ (b : Bool). Refuses g.L.SleepLock.kind g.L.SleepLock.word_at Int b Intr v u) (sym w.if-reads.true)
      (refl, (c.in-Err.field-0, both.0), both.1))
  | else-reads w ↦
      let v = g.L.SiteLock.view c.args.pass.now in
      let u = g.L.SiteLock.view w.alone_int-got.new.pass in
      let both = tallies-err g.L.SleepLock.kind false g.L.SleepLock.word_at w.alone_int-got.result c.in-Err.field-0 v u (sym w.got-is ∙ c.in-Err.is) w.alone_int-got.ensures.tallied w.alone_int-got.ensures.interrupted in
      subst (λ p. Refuses g.L.SleepLock.kind g.L.SleepLock.word_at Int c.args.reads Intr v (g.L.SiteLock.view p)) (sym w.pass-is)
      (subst (λ (b : Bool). Refuses g.L.SleepLock.kind g.L.SleepLock.word_at Int b Intr v u) (sym w.if-reads.false)
      (refl, (c.in-Err.field-0, both.0), both.1))
]

pub returns-in-Ok-clause-queue : goal.returns-in-Ok-clause-queue
returns-in-Ok-clause-queue g c = elim c.if-reads.branch [
  | then-reads w ↦ subst (λ p. GoesOn (g.L.SleepLock.spun c.args.pass.now) (g.L.SleepLock.spun p)) (sym w.pass-is) w.shared_int-got.ensures.queue
  | else-reads w ↦ subst (λ p. GoesOn (g.L.SleepLock.spun c.args.pass.now) (g.L.SleepLock.spun p)) (sym w.pass-is) w.alone_int-got.ensures.queue
]

pub returns-in-Err-clause-queue : goal.returns-in-Err-clause-queue
returns-in-Err-clause-queue g c = elim c.if-reads.branch [
  | then-reads w ↦ subst (λ p. GoesOn (g.L.SleepLock.spun c.args.pass.now) (g.L.SleepLock.spun p)) (sym w.pass-is) w.shared_int-got.ensures.queue
  | else-reads w ↦ subst (λ p. GoesOn (g.L.SleepLock.spun c.args.pass.now) (g.L.SleepLock.spun p)) (sym w.pass-is) w.alone_int-got.ensures.queue
]
