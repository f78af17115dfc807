-- What queueing and leaving make of an owner word.
use Rattle.std.specs.Prelude.{true, false}
use Rattle.word_bits.specs.declared.owner.Owner.{Owner}

abbrev pub with_waiters : Owner → Owner
with_waiters o = record o { waiters = true }

abbrev pub flagless : Owner → Owner
flagless o = record o { waiters = false; handoff = false; pickup = false }
