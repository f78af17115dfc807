-- How the two counts of a CPU rise. No count ever falls.
use Rattle.std.specs.Prelude.{◌≡◌, ℕ, zero, suc, ◌+◌, ◌-◌, ◌^◌, ◌<◌, ◌≤◌, ◌⊎◌, min, Bool, if◌then◌else◌}

-- one more, unless the count stands at the last value of a u64
abbrev pub one_more : ℕ → ℕ
one_more n = n + min 1 (2 ^ 64 - 1 - n)

-- a count that rose, or stands at the last value of a u64
abbrev pub Rises : ℕ → ℕ → Type 0
Rises m n = (m < n) ⊎ (2 ^ 64 - 1 ≤ n)

-- the count of sleeps, after so many more
abbrev pub slept : (turns sleeps : ℕ) → ℕ
slept zero sleeps = sleeps
slept (suc turns) sleeps = one_more (slept turns sleeps)

-- the count of true answers, after one answer more
abbrev pub rescheds_after : Bool → ℕ → ℕ
rescheds_after answer n = if answer then one_more n else n

-- a CPU slept so many times at most
pub record SleepsAtMost (turns sleeps sleeps' : ℕ) : Type 0 where
  pub times : ℕ
  pub few : times ≤ turns
  pub is : sleeps' ≡ slept times sleeps

-- the CPU slept once at most for each time that the pass took the wait lock anew
abbrev pub SleepsInTurns : (entries entries' sleeps sleeps' : ℕ) → Type 0
SleepsInTurns entries entries' sleeps sleeps' = (turns : ℕ) × (entries' ≡ entries + turns) × SleepsAtMost turns sleeps sleeps'

-- the CPU slept as often as the pass fell asleep: both counts rose by one for each time, until they stand at the last value of a u64
pub record Dozes (sleeps sleeps' dozes dozes' : ℕ) : Type 0 where
  pub times : ℕ
  pub asleep : sleeps' ≡ slept times sleeps
  pub counted : dozes' ≡ slept times dozes

-- so they did by one at most
abbrev pub DozesOnce : (sleeps sleeps' dozes dozes' : ℕ) → Type 0
DozesOnce sleeps sleeps' dozes dozes' = ((sleeps' ≡ sleeps) × (dozes' ≡ dozes)) ⊎ ((sleeps' ≡ one_more sleeps) × (dozes' ≡ one_more dozes))
