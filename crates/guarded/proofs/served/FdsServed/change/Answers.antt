-- Each call does to the words what it means for the table that they store.
use Rattle.std.proofs.Common.{sym, ap, subst, ◌∙◌}
use Rattle.word_bits.specs.Histories.{state_after}
use Rattle.word_bits.proofs.States.{IsLawful, state_is_state}
use Rattle.fd_table.specs.Tables.{table, meaning, stores}
use Rattle.fd_table.specs.Laws.Table.{starts, called, goes_on, replies}
use Rattle.guarded.specs.Performing.{HasStored}
use Rattle.guarded.specs.Types.{TableCall}
use Rattle.guarded.proofs.served.FdsServed.change.Goals as goal

lawful : IsLawful table
lawful = record { starts = starts; called = called; goes_on = goes_on; replies = replies }

pub open-requires-clause-table : goal.open-requires-clause-table
open-requires-clause-table g c =
    let k = g.L.SiteLock.calls_on c.args.lock.now in
    let v = g.L.SiteLock.view c.args.pass.now in
    let m = state_after table k v.hand.log in
    let is = state_is_state table lawful k v.hand.log in
    (m, is, sym c.requires.stored)

pub returns-in-Open-clause-stored : goal.returns-in-Open-clause-stored
returns-in-Open-clause-stored g c =
    let k = g.L.SiteLock.calls_on c.args.lock.now in
    let v = g.L.SiteLock.view c.args.pass.now in
    let m = state_after table k v.hand.log in
    let is = state_is_state table lawful k v.hand.log in
    let u = g.L.SiteLock.view c.open.new.pass in
    subst (λ (x : TableCall). HasStored (stores (meaning m x).0) v u) (sym c.in-Open.is) (c.open.ensures.done m is (sym c.requires.stored)).stored

pub returns-in-Open-clause-reply : goal.returns-in-Open-clause-reply
returns-in-Open-clause-reply g c =
    let k = g.L.SiteLock.calls_on c.args.lock.now in
    let v = g.L.SiteLock.view c.args.pass.now in
    let m = state_after table k v.hand.log in
    let is = state_is_state table lawful k v.hand.log in
    (c.open.ensures.done m is (sym c.requires.stored)).replies ∙ ap (λ (x : TableCall). (meaning m x).1) (sym c.in-Open.is)

pub close-requires-clause-table : goal.close-requires-clause-table
close-requires-clause-table g c =
    let k = g.L.SiteLock.calls_on c.args.lock.now in
    let v = g.L.SiteLock.view c.args.pass.now in
    let m = state_after table k v.hand.log in
    let is = state_is_state table lawful k v.hand.log in
    (m, is, sym c.requires.stored)

pub returns-in-Close-clause-stored : goal.returns-in-Close-clause-stored
returns-in-Close-clause-stored g c =
    let k = g.L.SiteLock.calls_on c.args.lock.now in
    let v = g.L.SiteLock.view c.args.pass.now in
    let m = state_after table k v.hand.log in
    let is = state_is_state table lawful k v.hand.log in
    let u = g.L.SiteLock.view c.close.new.pass in
    subst (λ (x : TableCall). HasStored (stores (meaning m x).0) v u) (sym c.in-Close.is) (c.close.ensures.done m is (sym c.requires.stored)).stored

pub returns-in-Close-clause-reply : goal.returns-in-Close-clause-reply
returns-in-Close-clause-reply g c =
    let k = g.L.SiteLock.calls_on c.args.lock.now in
    let v = g.L.SiteLock.view c.args.pass.now in
    let m = state_after table k v.hand.log in
    let is = state_is_state table lawful k v.hand.log in
    (c.close.ensures.done m is (sym c.requires.stored)).replies ∙ ap (λ (x : TableCall). (meaning m x).1) (sym c.in-Close.is)

pub dup-requires-clause-table : goal.dup-requires-clause-table
dup-requires-clause-table g c =
    let k = g.L.SiteLock.calls_on c.args.lock.now in
    let v = g.L.SiteLock.view c.args.pass.now in
    let m = state_after table k v.hand.log in
    let is = state_is_state table lawful k v.hand.log in
    (m, is, sym c.requires.stored)

pub returns-in-Dup-clause-stored : goal.returns-in-Dup-clause-stored
returns-in-Dup-clause-stored g c =
    let k = g.L.SiteLock.calls_on c.args.lock.now in
    let v = g.L.SiteLock.view c.args.pass.now in
    let m = state_after table k v.hand.log in
    let is = state_is_state table lawful k v.hand.log in
    let u = g.L.SiteLock.view c.dup.new.pass in
    subst (λ (x : TableCall). HasStored (stores (meaning m x).0) v u) (sym c.in-Dup.is) (c.dup.ensures.done m is (sym c.requires.stored)).stored

pub returns-in-Dup-clause-reply : goal.returns-in-Dup-clause-reply
returns-in-Dup-clause-reply g c =
    let k = g.L.SiteLock.calls_on c.args.lock.now in
    let v = g.L.SiteLock.view c.args.pass.now in
    let m = state_after table k v.hand.log in
    let is = state_is_state table lawful k v.hand.log in
    (c.dup.ensures.done m is (sym c.requires.stored)).replies ∙ ap (λ (x : TableCall). (meaning m x).1) (sym c.in-Dup.is)

pub dup2-requires-clause-table : goal.dup2-requires-clause-table
dup2-requires-clause-table g c =
    let k = g.L.SiteLock.calls_on c.args.lock.now in
    let v = g.L.SiteLock.view c.args.pass.now in
    let m = state_after table k v.hand.log in
    let is = state_is_state table lawful k v.hand.log in
    (m, is, sym c.requires.stored)

pub returns-in-Dup2-clause-stored : goal.returns-in-Dup2-clause-stored
returns-in-Dup2-clause-stored g c =
    let k = g.L.SiteLock.calls_on c.args.lock.now in
    let v = g.L.SiteLock.view c.args.pass.now in
    let m = state_after table k v.hand.log in
    let is = state_is_state table lawful k v.hand.log in
    let u = g.L.SiteLock.view c.dup2.new.pass in
    subst (λ (x : TableCall). HasStored (stores (meaning m x).0) v u) (sym c.in-Dup2.is) (c.dup2.ensures.done m is (sym c.requires.stored)).stored

pub returns-in-Dup2-clause-reply : goal.returns-in-Dup2-clause-reply
returns-in-Dup2-clause-reply g c =
    let k = g.L.SiteLock.calls_on c.args.lock.now in
    let v = g.L.SiteLock.view c.args.pass.now in
    let m = state_after table k v.hand.log in
    let is = state_is_state table lawful k v.hand.log in
    (c.dup2.ensures.done m is (sym c.requires.stored)).replies ∙ ap (λ (x : TableCall). (meaning m x).1) (sym c.in-Dup2.is)
