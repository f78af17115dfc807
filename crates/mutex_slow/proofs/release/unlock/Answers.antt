use Rattle.std.proofs.Common.{arith, ℕ, Option, ap, refl, sym, inl, inr, ◌≢◌, ◌∙◌}
use Rattle.word_bits.specs.OwnerWord.{task_code}
use Rattle.mutex_slow.specs.declared.release.Released.TheVariants.{Done, Waiters, Asked}
use Rattle.mutex_slow.specs.MutexPlaces.{seen_of, task_of, wakes_after}
use Rattle.mutex_slow.specs.Types.{Hand, SpinHand, MutexHand}
use Rattle.mutex_slow.proofs.Ending.{asked-then, looks-within, named-looks, names-nobody, named-within, unasked-then}
use Rattle.mutex_slow.proofs.release.unlock.Goals as goal

unasked : Waiters ≢ Asked
unasked e = cc

waits-asked : Done ≢ Asked
waits-asked e = cc

pub returns-in-Done-clause-wakes : goal.returns-in-Done-clause-wakes
returns-in-Done-clause-wakes g c = let even = (c.in-Done.ensures.done refl).1 in let few = (c.in-Done.ensures.ends waits-asked).0 in ((λ _. c.release.ensures.counts.wakes), (λ some. absurd (some (omega (arith, even, few)))))

pub returns-in-Waiters-clause-wakes : goal.returns-in-Waiters-clause-wakes
returns-in-Waiters-clause-wakes g c = let releases = c.release.ensures.on.steps in let looks = c.choose-first.ensures.on.steps in let leaves = c.unlock.ensures.on.steps in let wakes = c.wake.ensures.on.steps in
    let since = c.unlock.ensures.since in let held = ap (λ (s : SpinHand). s.took) c.choose-first.ensures.same.spin in let still = ap (λ (s : SpinHand). s.took) c.wake.ensures.same.spin in let later = c.lock.ensures.gained.took.0 in let by_now = c.lock.ensures.gained.took.1 in
    let left = ap (λ (h : Hand). h.freed) (c.wake.ensures.hand ∙ (c.unlock.ensures.hand ∙ (c.choose-first.ensures.hand ∙ c.lock.ensures.gained.hand))) in
    let a = c.wake.ensures.wakes.wakes in let b = ap (λ (e : MutexHand). e.wake.wakes) c.unlock.ensures.ext in let d = c.choose-first.ensures.counts.wakes in let e = ap (λ (e : MutexHand). e.wake.wakes) c.lock.ensures.gained.ext in let f = c.release.ensures.counts.wakes in (
      (λ none. absurd (c.in-Waiters.ensures.some refl (sym left ∙ none))),
      (λ some. (
        omega (arith, releases, since, held, still, later),
        (
          c.choose-first.result,
          looks-within (task_code c.choose-first.result) (seen_of c.args.pass.now) (seen_of c.lock.new.pass) (seen_of c.choose-first.new.pass) (seen_of c.wake.new.pass)
              (ap (λ (h : Hand). h.task) c.lock.ensures.gained.hand ∙ ap (λ (h : Hand). h.task) (c.in-Waiters.ensures.waiters refl)) (λ p t. c.lock.ensures.on.goes_on p (c.release.ensures.on.goes_on p t)) (omega (arith, since, held, still, by_now))
              c.choose-first.ensures.found (omega (arith, leaves, wakes)) (λ p t. c.wake.ensures.on.goes_on p (c.unlock.ensures.on.goes_on p t)),
          a ∙ ap (wakes_after c.choose-first.result) (b ∙ (d ∙ (e ∙ f))),
        ),
      )),
    )

pub returns-in-Asked-clause-wakes : goal.returns-in-Asked-clause-wakes
returns-in-Asked-clause-wakes g c = let releases = c.release.ensures.on.steps in let enters = c.lock-in-Asked.ensures.on.steps in let leaves = c.unlock-in-Asked.ensures.on.steps in let wakes = c.wake-in-Asked.ensures.on.steps in
    let since = c.unlock-in-Asked.ensures.since in let held = ap (λ (s : SpinHand). s.took) c.hand_over-first.ensures.same.spin in let still = ap (λ (s : SpinHand). s.took) c.wake-in-Asked.ensures.same.spin in let later = c.lock-in-Asked.ensures.gained.took.0 in let by_now = c.lock-in-Asked.ensures.gained.took.1 in
    let a = c.wake-in-Asked.ensures.wakes.wakes in let b = ap (λ (e : MutexHand). e.wake.wakes) c.unlock-in-Asked.ensures.ext in let d = c.hand_over-first.ensures.counts.wakes in let e = ap (λ (e : MutexHand). e.wake.wakes) c.lock-in-Asked.ensures.gained.ext in let f = c.release.ensures.counts.wakes in
    let target = λ (n : ℕ). ap (λ (t : Option ℕ). wakes_after t n) c.named.ensures in
    let named = named-within (seen_of c.wake-in-Asked.new.pass).spin.took c.hand_over-first.result (seen_of c.args.pass.now) (seen_of c.lock-in-Asked.new.pass) (seen_of c.hand_over-first.new.pass) (seen_of c.wake-in-Asked.new.pass)
    (ap (λ (h : Hand). h.task) (c.lock-in-Asked.ensures.gained.hand ∙ c.in-Asked.ensures.asked refl)) (omega (arith, releases, enters)) (omega (arith, since, held, by_now, still)) (λ p t. c.lock-in-Asked.ensures.on.goes_on p (c.release.ensures.on.goes_on p t))
    c.hand_over-first.ensures.named (ap (λ (h : Hand). h.freed) (c.wake-in-Asked.ensures.hand ∙ c.unlock-in-Asked.ensures.hand)) (omega (arith, leaves, wakes)) (λ p t. c.wake-in-Asked.ensures.on.goes_on p (c.unlock-in-Asked.ensures.on.goes_on p t)) in
    let sets = a ∙ (target _ ∙ ap (wakes_after (task_of c.hand_over-first.result)) (b ∙ (d ∙ (e ∙ f)))) in (
      (λ none. sets ∙ names-nobody c.hand_over-first.result (seen_of c.wake-in-Asked.new.pass).hand.freed _ named.1 none),
      (λ some. (omega (arith, releases, since, held, still, later), (task_of c.hand_over-first.result, named-looks c.hand_over-first.result (seen_of c.args.pass.now) (seen_of c.wake-in-Asked.new.pass) named, sets))),
    )

pub returns-in-Waiters-clause-ended : goal.returns-in-Waiters-clause-ended
returns-in-Waiters-clause-ended g c = let enters = c.lock.ensures.on.steps in let looks = c.choose-first.ensures.on.steps in let leaves = c.unlock.ensures.on.steps in let wakes = c.wake.ensures.on.steps in
    inl (unasked-then (seen_of c.args.pass.now) (seen_of c.release.new.pass) (seen_of c.wake.new.pass) (c.in-Waiters.ensures.ends unasked)
    (ap (λ (h : Hand). h.freed) (c.wake.ensures.hand ∙ (c.unlock.ensures.hand ∙ (c.choose-first.ensures.hand ∙ c.lock.ensures.gained.hand)))) (λ none. absurd (c.in-Waiters.ensures.some refl none)) (omega (arith, enters, looks, leaves, wakes))
    (λ p t. c.wake.ensures.on.goes_on p (c.unlock.ensures.on.goes_on p (c.choose-first.ensures.on.goes_on p (c.lock.ensures.on.goes_on p t)))))

pub returns-in-Asked-clause-ended : goal.returns-in-Asked-clause-ended
returns-in-Asked-clause-ended g c = let releases = c.release.ensures.on.steps in let enters = c.lock-in-Asked.ensures.on.steps in let names = c.hand_over-first.ensures.on.steps in let leaves = c.unlock-in-Asked.ensures.on.steps in let wakes = c.wake-in-Asked.ensures.on.steps in let ends = c.wake-in-Asked.ensures.same.entries in let still = ap (λ (s : SpinHand). s.took) c.wake-in-Asked.ensures.same.spin in
    let before = c.release.ensures.same.entries in let more = c.lock-in-Asked.ensures.gained.counted in let same = c.hand_over-first.ensures.same.entries in let after = c.unlock-in-Asked.ensures.entries in
    let since = c.unlock-in-Asked.ensures.since in let held = ap (λ (s : SpinHand). s.took) c.hand_over-first.ensures.same.spin in let later = c.lock-in-Asked.ensures.gained.took.0 in let by_now = c.lock-in-Asked.ensures.gained.took.1 in
    let step : ℕ = c.release.new.pass.seat.me.0.view.steps in inr (
      omega (arith, before, more, same, after, ends),
      (
        step,
        asked-then step (seen_of c.args.pass.now) (seen_of c.release.new.pass) (seen_of c.wake-in-Asked.new.pass) (c.in-Asked.ensures.found refl) (omega (arith, enters, names, leaves, wakes))
            (λ p t. c.wake-in-Asked.ensures.on.goes_on p (c.unlock-in-Asked.ensures.on.goes_on p (c.hand_over-first.ensures.on.goes_on p (c.lock-in-Asked.ensures.on.goes_on p t)))),
        omega (arith, since, held, later, still),
      ),
      (
        c.hand_over-first.result,
        named-within (seen_of c.wake-in-Asked.new.pass).spin.took c.hand_over-first.result (seen_of c.args.pass.now) (seen_of c.lock-in-Asked.new.pass) (seen_of c.hand_over-first.new.pass) (seen_of c.wake-in-Asked.new.pass)
            (ap (λ (h : Hand). h.task) (c.lock-in-Asked.ensures.gained.hand ∙ c.in-Asked.ensures.asked refl)) (omega (arith, releases, enters)) (omega (arith, since, held, by_now, still)) (λ p t. c.lock-in-Asked.ensures.on.goes_on p (c.release.ensures.on.goes_on p t))
            c.hand_over-first.ensures.named (ap (λ (h : Hand). h.freed) (c.wake-in-Asked.ensures.hand ∙ c.unlock-in-Asked.ensures.hand)) (omega (arith, leaves, wakes)) (λ p t. c.wake-in-Asked.ensures.on.goes_on p (c.unlock-in-Asked.ensures.on.goes_on p t)),
      ),
    )
