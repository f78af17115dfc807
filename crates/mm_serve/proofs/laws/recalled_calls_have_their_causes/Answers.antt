use Rattle.vma_map.specs.Spaces.{space}
use Rattle.fd_table.specs.Tables.{table}
use Rattle.mm_serve.proofs.Causing.{recalled_causes}
use Rattle.mm_serve.proofs.laws.recalled_calls_have_their_causes.Goals as goal

pub returns-clause-space : goal.returns-clause-space
returns-clause-space g c = recalled_causes space g.A.SleepLock.kind 257 g.A.SleepLock.word_at g.A.SleepLock.waits g.A.SleepLock.opened

pub returns-clause-table : goal.returns-clause-table
returns-clause-table g c = recalled_causes table g.T.SleepLock.kind 64 g.T.SleepLock.word_at g.T.SleepLock.waits g.T.SleepLock.opened
