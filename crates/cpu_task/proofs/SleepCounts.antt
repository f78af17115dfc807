-- How the counts of a CPU go on, and what a pass counts beside them.
use Rattle.std.proofs.Common.{◌≡◌, ◌∙◌, ℕ, suc, ◌+◌, ◌<◌, ◌≤◌, inl, inr, ⊎_elim, Bool, true, false, ap, arith}
use Rattle.cpu_task.specs.CpuCounting.{Dozes, DozesOnce, Rises, SleepsAtMost, SleepsInTurns, one_more, rescheds_after, slept}

-- an answer lets the count fall by nothing
pub answers-rise : (n n' : ℕ) (answer : Bool) → n' ≡ rescheds_after answer n → n ≤ n'
answers-rise n n' true e = omega (arith, e)
answers-rise n n' false e = omega (arith, e)

-- a count that rose goes on
pub rises-on : (m n k : ℕ) → Rises m n → n ≤ k → Rises m k
rises-on m n k r more = ⊎_elim (λ (l : m < n). inl (omega (arith, l, more))) (λ (last : 18446744073709551615 ≤ n). inr (omega (arith, last, more))) r

pub rises-behind : (l m n : ℕ) → l ≤ m → Rises m n → Rises l n
rises-behind l m n less r = ⊎_elim (λ (k : m < n). inl (omega (arith, k, less))) (λ (last : 18446744073709551615 ≤ n). inr last) r

-- one turn more, in which the CPU slept or not
pub sleeps-once : (turns sleeps now now' dozes dozes' : ℕ) → SleepsAtMost turns sleeps now → DozesOnce now now' dozes dozes' → SleepsAtMost (turns + 1) sleeps now'
sleeps-once turns sleeps now now' dozes dozes' s once = let few = s.few in ⊎_elim
    (λ (same : (now' ≡ now) × (dozes' ≡ dozes)). record { times = s.times; few = omega (arith, few); is = same.0 ∙ s.is })
    (λ (again : (now' ≡ one_more now) × (dozes' ≡ one_more dozes)). record { times = suc s.times; few = omega (arith, few); is = again.0 ∙ ap one_more s.is }) once

-- the same count of sleeps before it
pub sleeps-same : (turns sleeps sleeps' now : ℕ) → sleeps' ≡ sleeps → SleepsAtMost turns sleeps' now → SleepsAtMost turns sleeps now
sleeps-same turns sleeps sleeps' now still s = record { times = s.times; few = s.few; is = s.is ∙ ap (slept s.times) still }

-- the wait lock is taken once more
pub turns-again : (entries taken taken' sleeps now now' dozes dozes' : ℕ) → SleepsInTurns entries taken sleeps now → taken' ≡ taken + 1 → DozesOnce now now' dozes dozes' → SleepsInTurns entries taken' sleeps now'
turns-again entries taken taken' sleeps now now' dozes dozes' s more once = let is = s.1 in (s.0 + 1, omega (arith, is, more), sleeps-once s.0 sleeps now now' dozes dozes' s.2 once)

-- as many turns, told from other counts
pub turns-moved : (entries entries' taken taken' sleeps sleeps' now now' : ℕ) → SleepsInTurns entries taken sleeps now → taken' + entries ≡ taken + entries' → sleeps ≡ sleeps' → now' ≡ now → SleepsInTurns entries' taken' sleeps' now'
turns-moved entries entries' taken taken' sleeps sleeps' now now' s as_many same still = let is = s.1 in (s.0, omega (arith, is, as_many), record { times = s.2.times; few = s.2.few; is = still ∙ (s.2.is ∙ ap (slept s.2.times) same) })

-- the same count of sleeps and of times before them
pub turns-same : (more entries from to sleeps sleeps' now : ℕ) → from ≡ entries → sleeps' ≡ sleeps → SleepsInTurns (from + more) to sleeps' now → SleepsInTurns (entries + more) to sleeps now
turns-same more entries from to sleeps sleeps' now same still s = let is = s.1 in (s.0, omega (arith, is, same), sleeps-same s.0 sleeps sleeps' now still s.2)

-- it fell asleep once more
pub dozes-again : (sleeps now now' dozes from to d : ℕ) → Dozes sleeps now dozes d → from ≡ d → DozesOnce now now' from to → Dozes sleeps now' dozes to
dozes-again sleeps now now' dozes from to d s same once = ⊎_elim
    (λ (still : (now' ≡ now) × (to ≡ from)). record { times = s.times; asleep = still.0 ∙ s.asleep; counted = still.1 ∙ (same ∙ s.counted) })
    (λ (again : (now' ≡ one_more now) × (to ≡ one_more from)). record { times = suc s.times; asleep = again.0 ∙ ap one_more s.asleep; counted = again.1 ∙ ap one_more (same ∙ s.counted) }) once

pub dozes-none : (sleeps sleeps' dozes dozes' : ℕ) → sleeps' ≡ sleeps → dozes' ≡ dozes → Dozes sleeps sleeps' dozes dozes'
dozes-none sleeps sleeps' dozes dozes' still dozed = record { times = 0; asleep = still; counted = dozed }

-- more steps, by which it doesn't fall asleep
pub once-within : (sleeps sleeps' now now' before from to after : ℕ) → sleeps' ≡ sleeps → from ≡ before → DozesOnce sleeps' now from to → now' ≡ now → after ≡ to → DozesOnce sleeps now' before after
once-within sleeps sleeps' now now' before from to after still was once same is = ⊎_elim
    (λ (none : (now ≡ sleeps') × (to ≡ from)). inl (same ∙ (none.0 ∙ still), is ∙ (none.1 ∙ was)))
    (λ (again : (now ≡ one_more sleeps') × (to ≡ one_more from)). inr (same ∙ (again.0 ∙ ap one_more still), is ∙ (again.1 ∙ ap one_more was))) once

pub dozes-within : (sleeps start now now' before from to after : ℕ) → start ≡ sleeps → from ≡ before → Dozes start now from to → now' ≡ now → after ≡ to → Dozes sleeps now' before after
dozes-within sleeps start now now' before from to after begun was d same is = record { times = d.times; asleep = same ∙ (d.asleep ∙ ap (slept d.times) begun); counted = is ∙ (d.counted ∙ ap (slept d.times) was) }
