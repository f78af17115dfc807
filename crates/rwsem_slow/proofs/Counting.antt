-- What a call counts on its CPU.
use Rattle.std.proofs.Common.{◌≡◌, ◌∙◌, ℕ, ◌+◌, ◌≤◌, refl, sym, ap, subst, arith}
use Rattle.std.specs.Prelude.{Result, Ok, Err, IfOk, IfErr}
use Rattle.cpu_task.proofs.SleepCounts.{sleeps-once, turns-same}
use Rattle.cpu_task.specs.CpuCounting.{DozesOnce, SleepsInTurns, slept}
use Rattle.lock_core.specs.Shown.{Shown}
use Rattle.rwsem_slow.specs.SleepCounting.{CountsLeaving, CountsReading, CountsWriting, SleepsBetween}
use Rattle.rwsem_slow.specs.Stealing.{WentOn}
use Rattle.rwsem_slow.specs.Types.{How, Fast, Spun, Slept, Interrupted}

pub ok-turns : {A B : Type 0} (more entries from to sleeps sleeps' now : ℕ) (r : Result A B) → from ≡ entries → sleeps' ≡ sleeps → IfOk r (λ _. SleepsInTurns (from + more) to sleeps' now) → IfOk r (λ _. SleepsInTurns (entries + more) to sleeps now)
ok-turns more entries from to sleeps sleeps' now (Ok a) same still s = turns-same more entries from to sleeps sleeps' now same still s
ok-turns more entries from to sleeps sleeps' now (Err b) same still s = tt

pub err-turns : {A B : Type 0} (more entries from to sleeps sleeps' now : ℕ) (r : Result A B) → from ≡ entries → sleeps' ≡ sleeps → IfErr r (λ _. SleepsInTurns (from + more) to sleeps' now) → IfErr r (λ _. SleepsInTurns (entries + more) to sleeps now)
err-turns more entries from to sleeps sleeps' now (Ok a) same still s = tt
err-turns more entries from to sleeps sleeps' now (Err b) same still s = turns-same more entries from to sleeps sleeps' now same still s

-- no sleep
pub between-none : (steps steps' sleeps sleeps' : ℕ) → steps ≤ steps' → sleeps' ≡ sleeps → SleepsBetween steps steps' sleeps sleeps'
between-none steps steps' sleeps sleeps' later still = (0, omega (arith, later), record { times = 0; few = omega arith; is = still })

-- one turn more, behind a step
pub between-again : (steps made made' sleeps now now' dozes dozes' : ℕ) → SleepsBetween steps made sleeps now → made + 1 ≤ made' → DozesOnce now now' dozes dozes' → SleepsBetween steps made' sleeps now'
between-again steps made made' sleeps now now' dozes dozes' s more once = let is = s.1 in (s.0 + 1, omega (arith, is, more), sleeps-once s.0 sleeps now now' dozes dozes' s.2 once)

-- more steps
pub between-on : (steps made from to sleeps now sleeps' now' : ℕ) → SleepsBetween from to sleeps' now' → steps ≤ from → to ≤ made → sleeps' ≡ sleeps → now ≡ now' → SleepsBetween steps made sleeps now
between-on steps made from to sleeps now sleeps' now' s before behind was is = let turns = s.1 in (s.0, omega (arith, turns, before, behind), record { times = s.2.times; few = s.2.few; is = is ∙ (s.2.is ∙ ap (slept s.2.times) was) })

-- a reader, by how it went on behind its addition
pub counts-reading : (left s s' r r' : ℕ) (v u a b : Shown) (result : Result How Interrupted) → IfOk result (λ how. WentOn left how a b) → SleepsBetween v.steps u.steps s s' → r' ≡ r → IfOk result (λ how. how ≡ Spun → s' ≡ s) → IfOk result (λ how. CountsReading how s s' r r' v u)
counts-reading left s s' r r' v u a b (Ok Fast) went sleeps asks awake = absurd went
counts-reading left s s' r r' v u a b (Ok Spun) went sleeps asks awake = (awake refl, asks)
counts-reading left s s' r r' v u a b (Ok Slept) went sleeps asks awake = (sleeps, asks)
counts-reading left s s' r r' v u a b (Err why) went sleeps asks awake = tt

-- a writer that stood in the list
pub slept-counts : (s s' r r' : ℕ) (v u : Shown) (result : Result How Interrupted) → IfOk result (λ how. how ≡ Slept) → IfOk result (λ _. SleepsInTurns (v.spin.entries + 1) u.spin.entries s s') → r ≤ r' → IfOk result (λ how. CountsWriting how s s' r r' v u)
slept-counts s s' r r' v u (Ok how) slept turns more = subst (λ (h : How). CountsWriting h s s' r r' v u) (sym slept) (turns, more)
slept-counts s s' r r' v u (Err why) slept turns more = tt

pub left-counts : (s s' r r' : ℕ) (v u : Shown) (result : Result How Interrupted) → IfErr result (λ _. SleepsInTurns (v.spin.entries + 2) u.spin.entries s s') → r ≤ r' → IfErr result (λ _. CountsLeaving s s' r r' v u)
left-counts s s' r r' v u (Ok how) turns more = tt
left-counts s s' r r' v u (Err why) turns more = (turns, more)
