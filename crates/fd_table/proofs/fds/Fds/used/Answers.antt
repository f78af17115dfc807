-- The descriptors that are open are counted.
use Rattle.std.proofs.Common.{ℕ, is_some, ◌∙◌, rules, arith}
use borrow.Author.Tests.{tests}
use Rattle.std.proofs.lemmas.Iterator.{YieldsList-from_range}
use Rattle.std.proofs.lemmas.Iterator.Consumers.{YieldsList-from_filter, count_from_yields_List}
use Rattle.std.proofs.lemmas.List.Sums.{length-filter}
use Rattle.std.specs.List.{range_with_len}
use Rattle.fd_table.specs.Tables.{fd_map, used_from}
use Rattle.fd_table.proofs.fds.Fds.used.Goals as goal

pub returns : goal.returns
unfolding used_from
returns c =
    let is_open = λ (fd : ℕ). is_some (fd_map c.args.self.now fd) in
    count_from_yields_List c.filter.result _ c.count.ensures.ran (YieldsList-from_filter _ is_open (YieldsList-from_range 0 64 64 (cc) (omega arith)) c.filter.ensures.closure (λ x b q k. search (rules, tests))) ∙ length-filter is_open (range_with_len 0 64)
