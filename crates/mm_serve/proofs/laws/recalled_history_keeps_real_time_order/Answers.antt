use Rattle.word_bits.specs.LockWords.{counted, owned}
use Rattle.vma_map.specs.Spaces.{space}
use Rattle.fd_table.specs.Tables.{table}
use Rattle.mm_serve.proofs.RealTime.{recalled_in_real_time_order}
use Rattle.mm_serve.proofs.laws.recalled_history_keeps_real_time_order.Goals as goal

pub returns-clause-space : goal.returns-clause-space
returns-clause-space g c = recalled_in_real_time_order space counted g.A.SleepLock.kind 257 g.A.SleepLock.word_at g.A.SleepLock.waits g.A.SleepLock.opened

pub returns-clause-table : goal.returns-clause-table
returns-clause-table g c = recalled_in_real_time_order table owned g.T.SleepLock.kind 64 g.T.SleepLock.word_at g.T.SleepLock.waits g.T.SleepLock.opened
