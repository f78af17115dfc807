-- The word of an area.
use Rattle.std.specs.Prelude.{ℕ, ◌+◌, ◌*◌, ◌^◌, ◌<◌, ◌≤◌}
use Rattle.word_bits.specs.declared.area.Area.{Area}

-- a run of at least one page below 1,048,576, with a protection of the three bits
pub record IsArea (a : Area) : Type 0 where
  pub prot : a.prot < 8
  pub some : a.start < a.end
  pub within : a.end ≤ 1048576

abbrev pub area_word : Area → ℕ
area_word a = a.prot + a.end * 2 ^ 3 + a.start * 2 ^ 24
