-- A question that is answered true after so many false answers, and then anew.
use Rattle.std.specs.Prelude.{◌≡◌, ℕ, ◌-◌, ◌↔◌, Bool, IsTrue, if◌then◌else◌}
use Rattle.cpu_task.specs.declared.countdown.Countdown.{Countdown}

-- a countdown before any answer
abbrev pub full : ℕ → Countdown
full from = record { from = from; left = from }

pub record Answers (old : Countdown) (answer : Bool) (new : Countdown) : Type 0 where
  -- true exactly where no false answer is left before it
  pub due : IsTrue answer ↔ (old.left ≡ 0)
  -- then it counts anew
  pub next : new ≡ record old { left = (if answer then old.from else old.left - 1) }
