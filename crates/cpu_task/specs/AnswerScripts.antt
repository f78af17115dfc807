-- CPUs that answer from lists.
use Rattle.std.specs.Prelude.{ℕ, Bool, true, List, [], ◌∷◌}

-- what the CPUs of a crew answer
pub record Scripts : Type 0 where
  pub resched : List Bool
  pub overdue : List Bool

-- a CPU, with the answers that it has left
pub record ScriptedCpuState : Type 0 where
  pub rescheds : ℕ
  pub sleeps : ℕ
  pub resched : List Bool
  pub overdue : List Bool

-- the next answer, which is true after the end
abbrev pub next_answer : List Bool → Bool
next_answer [] = true
next_answer (answer ∷ _) = answer
