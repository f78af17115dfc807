use Rattle.std.proofs.Common.{◌∙◌, ℕ, ◌+◌, List, length, sym, subst, ap, arith}
use Rattle.lock_core.specs.Records.{bit}
use Rattle.wait_list.specs.Lists.{Knows, list_part}
use Rattle.rwsem_count.specs.Counts.{early_weight}
use Rattle.rwsem_wake.specs.Grants.{HasWholeBatch, IsRemoved, KeepsOut, all_granted}
use Rattle.rwsem_wake.specs.SemParts.{some_of}
use Rattle.rwsem_wake.specs.Types.{ListHand, RwSemHand, SemHand}
use Rattle.rwsem_wake.proofs.Hosting.{only-sem}
use Rattle.rwsem_wake.proofs.Granting.{is-removed, keeps-out, has-whole}
use Rattle.rwsem_wake.proofs.Removing.{first-reads, grants-removed}
use Rattle.rwsem_wake.proofs.wake.grant.Goals as goal

pub grant_removed-requires-clause-removed : goal.grant_removed-requires-clause-removed
grant_removed-requires-clause-removed g c = let v = c.args.pass.now.seat.me.0.view in let e = c.remove_batch-empty.ensures in let n = ap (λ (z : List ℕ). length z) c.as_slice.ensures.value in let some = e.some in let few = e.few in
    subst (λ (s : RwSemHand → SemHand). IsRemoved (s c.remove_batch-empty.new.pass.seat.me.0.view.ext) c.as_slice.result.now) (sym g.met.H.WakeHost.sem_parts.0) (is-removed v c.remove_batch-empty.new.pass.seat.me.0.view c.requires.list (first-reads v.ext.list.list c.args.first c.requires.first c.requires.reader) e.removed _ (c.as_slice.ensures.value ∙ e.batch) (omega (arith, n, some)) (omega (arith, n, few)))

pub grant_removed-requires-clause-keeps : goal.grant_removed-requires-clause-keeps
grant_removed-requires-clause-keeps g c = let v = c.args.pass.now.seat.me.0.view in
    subst (λ (s : RwSemHand → SemHand). KeepsOut s c.remove_batch-empty.new.pass.seat.me.0.view) (sym g.met.H.WakeHost.sem_parts.0) (keeps-out v c.remove_batch-empty.new.pass.seat.me.0.view c.requires.list (first-reads v.ext.list.list c.args.first c.requires.first c.requires.reader) c.remove_batch-empty.ensures.removed c.requires.keeps)

pub grant_removed-requires-clause-knows : goal.grant_removed-requires-clause-knows
grant_removed-requires-clause-knows g c = subst (λ (l : RwSemHand → ListHand). Knows (list_part l c.remove_batch-empty.new.pass.seat.me.0.view)) (sym g.met.H.WakeHost.list_parts.0) c.remove_batch-empty.ensures.removed.list.knows

pub grant_removed-requires-clause-reserved : goal.grant_removed-requires-clause-reserved
grant_removed-requires-clause-reserved g c = c.requires.reserved ∙ (ap early_weight (sym c.remove_batch-empty.ensures.removed.bias) ∙ (λ i. early_weight (sym g.met.H.WakeHost.sem_parts.0 i c.remove_batch-empty.new.pass.seat.me.0.view.ext).bias))

pub grant_removed-requires-clause-empty : goal.grant_removed-requires-clause-empty
grant_removed-requires-clause-empty g c = (λ i. bit c.remove_batch-empty.result + some_of (g.met.H.WakeHost.list_parts.0 i c.remove_batch-empty.new.pass.seat.me.0.view.ext).list) ∙ c.remove_batch-empty.ensures.none_left

pub grant_removed-requires-clause-whole : goal.grant_removed-requires-clause-whole
grant_removed-requires-clause-whole g c = let v = c.args.pass.now.seat.me.0.view in
    subst (λ (z : (RwSemHand → ListHand) × (RwSemHand → SemHand)). HasWholeBatch z.0 z.1 c.remove_batch-empty.new.pass.seat.me.0.view) (λ i. (sym g.met.H.WakeHost.list_parts.0 i, sym g.met.H.WakeHost.sem_parts.0 i)) (has-whole v c.remove_batch-empty.new.pass.seat.me.0.view c.requires.list (first-reads v.ext.list.list c.args.first c.requires.first c.requires.reader) c.remove_batch-empty.ensures.removed)

pub returns-clause-granted : goal.returns-clause-granted
returns-clause-granted g c = grants-removed c.args.pass.now.seat.me.0.view c.remove_batch-empty.new.pass.seat.me.0.view c.grant_removed.new.pass.seat.me.0.view c.grant_removed.ensures.later (let n = ap (λ (z : List ℕ). length z) c.remove_batch-empty.ensures.batch in let some = c.remove_batch-empty.ensures.some in omega (arith, n, some)) c.remove_batch-empty.ensures.removed (only-sem g.H.GrantHost.sem g.H.GrantHost.with_sem g.met.H.WakeHost.sem_parts.0 g.met.H.WakeHost.sem_parts.1 c.remove_batch-empty.new.pass.seat.me.0.view all_granted c.grant_removed.new.pass.seat.me.0.view c.grant_removed.ensures.kept)
