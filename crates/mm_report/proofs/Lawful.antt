-- The laws of the objects, as histories need them.
use Rattle.word_bits.proofs.States.{IsLawful}
use Rattle.vma_map.specs.Spaces.{space}
use Rattle.vma_map.specs.Laws.Space.{starts, called, goes_on, replies}
use Rattle.fd_table.specs.Tables.{table}
use Rattle.fd_table.specs.Laws.Table.{starts as table_starts, called as table_called, goes_on as table_goes_on, replies as table_replies}

-- an address space is lawful
pub space_lawful : IsLawful space
space_lawful = record { starts = starts; called = called; goes_on = goes_on; replies = replies }

-- so is a table
pub table_lawful : IsLawful table
table_lawful = record { starts = table_starts; called = table_called; goes_on = table_goes_on; replies = table_replies }
