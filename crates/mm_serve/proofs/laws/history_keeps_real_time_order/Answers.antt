use Rattle.word_bits.specs.LockWords.{counted, owned}
use Rattle.vma_map.specs.Spaces.{space}
use Rattle.fd_table.specs.Tables.{table}
use Rattle.mm_serve.proofs.RealTime.{keeps_real_time_order}
use Rattle.mm_serve.proofs.laws.history_keeps_real_time_order.Goals as goal

pub returns-clause-space : goal.returns-clause-space
returns-clause-space c = keeps_real_time_order space counted

pub returns-clause-table : goal.returns-clause-table
returns-clause-table c = keeps_real_time_order table owned
