-- What is found is the lowest free descriptor, which is the lowest that isn't open.
use Rattle.std.proofs.Common.{◌≡◌, is_none, MatchOption, sym, ◌∙◌, subst, rules, arith}
use borrow.Author.Tests.{tests}
use Rattle.std.proofs.lemmas.Iterator.{YieldsList-from_range}
use Rattle.std.proofs.lemmas.Iterator.Adapters.{option_map_id}
use Rattle.std.proofs.lemmas.Iterator.Search.{find_from_yields_List}
use Rattle.fd_table.specs.Tables.{IsFull, IsLowestFree, fd_map, lowest_from, lowest_free}
use Rattle.fd_table.specs.Laws.Table.{lowest_free-lowest}
use Rattle.fd_table.proofs.fds.Fds.lowest_free.Goals as goal
use Rattle.fd_table.proofs.fds.Fds.lowest_free.Goals.{After-find}

-- it is the lowest free descriptor
value : (c : After-find) → c.find.result ≡ lowest_free (fd_map c.args.self.now)
unfolding lowest_from
value c =
    sym (option_map_id c.find.result) ∙ find_from_yields_List (λ fd. is_none (fd_map c.args.self.now fd)) _ _ c.find.result c.find.ensures.ran (YieldsList-from_range 0 64 64 (cc) (omega arith)) (λ x b q k. search (rules, tests))

pub returns-clause-value : goal.returns-clause-value
returns-clause-value c = value c

pub returns-clause-lowest : goal.returns-clause-lowest
returns-clause-lowest c =
    let m = fd_map c.args.self.now in
    subst (λ found. MatchOption found (IsFull m) (IsLowestFree m)) (sym (value c)) (lowest_free-lowest m)
