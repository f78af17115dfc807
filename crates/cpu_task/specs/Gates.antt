-- What contracts see of a gate that holds tasks up.
use Rattle.std.specs.Prelude.{ℕ}

pub record HoldSetup : Type 0 where
  pub object : ℕ
  -- how many shared holders it waits for
  pub want : ℕ
  -- for how many turns of its loop each of them waits
  pub turns : ℕ
