-- The word of an entry of the log.
use Rattle.std.specs.Prelude.{ℕ, ◌+◌, ◌*◌, ◌^◌, ◌<◌, ◌==◌, ◌&&◌, Bool}
use Rattle.word_bits.specs.declared.entry.Entry.{Entry}
use Rattle.word_bits.specs.declared.TheConstants.{MAX_TASKS}

pub record IsEntry (e : Entry) : Type 0 where
  pub call : e.call < 2 ^ 18
  pub task : e.task < MAX_TASKS

abbrev pub entry_word : Entry → ℕ
entry_word e = e.call + e.task * 2 ^ 18

abbrev pub entry_eq : Entry → Entry → Bool
entry_eq d e = (d.task == e.task) && (d.call == e.call)
