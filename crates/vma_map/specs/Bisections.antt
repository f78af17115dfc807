-- What a search by halves has left.
use Rattle.std.specs.Prelude.{ℕ, ◌+◌, ◌-◌, ◌/◌}
use Rattle.vma_map.specs.declared.bisection.Bisection.{Bisection}

-- how many places pass the test, at least
abbrev pub least : Bisection → ℕ
least b = b.low

-- how many pass it, at most
abbrev pub most : Bisection → ℕ
most b = b.high

-- the place that is tested next
abbrev pub middle_of : Bisection → ℕ
middle_of b = b.low + (b.high - b.low) / 2
