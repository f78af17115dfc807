use Rattle.std.proofs.Common.{◌∙◌, ℕ, List, length, sym, ap, subst, arith}
use Rattle.wait_list.proofs.Waiters.{few-tasks}
use Rattle.rwsem_wake.specs.Batches.{batch_of}
use Rattle.rwsem_wake.specs.Grants.{AreTaskNumbers, KeepsOut}
use Rattle.rwsem_wake.specs.RwSemViews.{V, MayPick, sem_of}
use Rattle.rwsem_wake.specs.Removals.{AreHeads, BeginsWith, RemovesAll, without_all}
use Rattle.rwsem_wake.specs.Types.{Waiter}
use Rattle.rwsem_wake.proofs.Removing.{batch-begins, batch-heads, batch-some, empty-is, first-reads, heads-among, heads-few, length-all, removes-since}
use Rattle.rwsem_wake.proofs.Walking.{knows-on}
use Rattle.rwsem_wake.proofs.wake.remove_batch.Goals as goal
use Rattle.rwsem_wake.specs.declared.batches.TheConstants.{MAX_READERS_WAKEUP}

pub remove_all-requires-clause-list : goal.remove_all-requires-clause-list
remove_all-requires-clause-list g c = knows-on c.args.pass.now.seat.me.0.view c.read_list.new.pass.seat.me.0.view c.requires.list c.read_list.ensures.kept

pub remove_all-requires-clause-may : goal.remove_all-requires-clause-may
remove_all-requires-clause-may g c = subst (λ (z : V). MayPick z.ext.sem) (sym c.read_list.ensures.kept) c.requires.may

pub remove_all-requires-clause-keeps : goal.remove_all-requires-clause-keeps
remove_all-requires-clause-keeps g c = subst (KeepsOut sem_of) (sym c.read_list.ensures.kept) c.requires.keeps

pub remove_all-requires-clause-few : goal.remove_all-requires-clause-few
remove_all-requires-clause-few g c = let l = c.args.pass.now.seat.me.0.view.ext.list.list in let is = c.as_slice-picked.ensures.value ∙ (c.batch.ensures ∙ ap (batch_of MAX_READERS_WAKEUP) (c.as_slice-known.ensures.value ∙ c.read_list.ensures.read)) in
    let few = heads-few (batch_of MAX_READERS_WAKEUP l) l (batch-heads MAX_READERS_WAKEUP l) in let all = few-tasks l c.requires.list.sound in let n = ap (λ (z : List ℕ). length z) is in omega (arith, few, all, n)

pub remove_all-requires-clause-tasks : goal.remove_all-requires-clause-tasks
remove_all-requires-clause-tasks g c = let l = c.args.pass.now.seat.me.0.view.ext.list.list in let is = c.as_slice-picked.ensures.value ∙ (c.batch.ensures ∙ ap (batch_of MAX_READERS_WAKEUP) (c.as_slice-known.ensures.value ∙ c.read_list.ensures.read)) in
    subst (AreTaskNumbers c.args.site.now.table.shared.key) (sym is) (heads-among (length c.args.site.now.table.shared.key) (batch_of MAX_READERS_WAKEUP l) l c.read_list.ensures.tasks (batch-heads MAX_READERS_WAKEUP l))

pub remove_all-requires-clause-heads : goal.remove_all-requires-clause-heads
remove_all-requires-clause-heads g c = let l = c.args.pass.now.seat.me.0.view.ext.list.list in let is = c.as_slice-picked.ensures.value ∙ (c.batch.ensures ∙ ap (batch_of MAX_READERS_WAKEUP) (c.as_slice-known.ensures.value ∙ c.read_list.ensures.read)) in
    subst (λ (z : List ℕ). AreHeads z c.read_list.new.pass.seat.me.0.view.ext.list.list) (sym is) (subst (AreHeads (batch_of MAX_READERS_WAKEUP l)) (sym (ap (λ (z : V). z.ext.list.list) c.read_list.ensures.kept)) (batch-heads MAX_READERS_WAKEUP l))

pub remove_all-requires-clause-begins : goal.remove_all-requires-clause-begins
remove_all-requires-clause-begins g c = let l = c.args.pass.now.seat.me.0.view.ext.list.list in let is = c.as_slice-picked.ensures.value ∙ (c.batch.ensures ∙ ap (batch_of MAX_READERS_WAKEUP) (c.as_slice-known.ensures.value ∙ c.read_list.ensures.read)) in
    subst (λ (z : List ℕ). BeginsWith z c.read_list.new.pass.seat.me.0.view.ext.list.list) (sym is) (subst (BeginsWith (batch_of MAX_READERS_WAKEUP l)) (sym (ap (λ (z : V). z.ext.list.list) c.read_list.ensures.kept)) (batch-begins 256 l))

pub returns-clause-removed : goal.returns-clause-removed
returns-clause-removed g c = let l = c.args.pass.now.seat.me.0.view.ext.list.list in let is = c.as_slice-picked.ensures.value ∙ (c.batch.ensures ∙ ap (batch_of MAX_READERS_WAKEUP) (c.as_slice-known.ensures.value ∙ c.read_list.ensures.read)) in let w = c.read_list.new.pass.seat.me.0.view in
    removes-since c.args.pass.now.seat.me.0.view w c.remove_all.new.pass.seat.me.0.view (batch_of MAX_READERS_WAKEUP l) c.read_list.ensures.later c.read_list.ensures.kept (subst (λ (z : List ℕ). RemovesAll w z c.remove_all.new.pass.seat.me.0.view) is c.remove_all.ensures.removed)

pub returns-clause-none_left : goal.returns-clause-none_left
returns-clause-none_left g c = let l = c.args.pass.now.seat.me.0.view.ext.list.list in let is = c.as_slice-picked.ensures.value ∙ (c.batch.ensures ∙ ap (batch_of MAX_READERS_WAKEUP) (c.as_slice-known.ensures.value ∙ c.read_list.ensures.read)) in let w = c.read_list.new.pass.seat.me.0.view in let all = length-all (batch_of MAX_READERS_WAKEUP l) l c.requires.list.sound (batch-heads MAX_READERS_WAKEUP l) in
    let left = ap (λ (z : List Waiter). length z) (c.remove_all.ensures.removed.are ∙ (λ i. without_all (is i) (c.read_list.ensures.kept i).ext.list.list)) in let picked = ap (λ (z : List ℕ). length z) is in let known = ap (λ (z : List Waiter). length z) (c.as_slice-known.ensures.value ∙ c.read_list.ensures.read) in
    empty-is c.remove_all.new.pass.seat.me.0.view.ext.list.list (length c.as_slice-picked.result.now) (length c.as_slice-known.result.now) (omega (arith, all, left, picked, known))

pub returns-clause-some : goal.returns-clause-some
returns-clause-some g c = let l = c.args.pass.now.seat.me.0.view.ext.list.list in let are = c.batch.ensures ∙ ap (batch_of MAX_READERS_WAKEUP) (c.as_slice-known.ensures.value ∙ c.read_list.ensures.read) in let some = batch-some 255 l (first-reads l c.args.first c.requires.first c.requires.reader) in let n = ap (λ (z : List ℕ). length z) (are ∙ some.2) in omega (arith, n)

pub returns-clause-few : goal.returns-clause-few
returns-clause-few g c = let l = c.args.pass.now.seat.me.0.view.ext.list.list in let are = c.batch.ensures ∙ ap (batch_of MAX_READERS_WAKEUP) (c.as_slice-known.ensures.value ∙ c.read_list.ensures.read) in let few = heads-few (batch_of MAX_READERS_WAKEUP l) l (batch-heads MAX_READERS_WAKEUP l) in let all = few-tasks l c.requires.list.sound in let n = ap (λ (z : List ℕ). length z) are in omega (arith, few, all, n)

pub returns-clause-tasks : goal.returns-clause-tasks
returns-clause-tasks g c = let l = c.args.pass.now.seat.me.0.view.ext.list.list in let are = c.batch.ensures ∙ ap (batch_of MAX_READERS_WAKEUP) (c.as_slice-known.ensures.value ∙ c.read_list.ensures.read) in subst (AreTaskNumbers c.args.site.now.table.shared.key) (sym are) (heads-among (length c.args.site.now.table.shared.key) (batch_of MAX_READERS_WAKEUP l) l c.read_list.ensures.tasks (batch-heads MAX_READERS_WAKEUP l))
