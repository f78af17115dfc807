use Rattle.std.proofs.Common.{◌-◌, sym, ap, ◌∙◌}
use Rattle.guarded.specs.Types.{Refused, BadF, Hand, Dup}
use Rattle.guarded.proofs.Descriptors.{slot-none, slot-some, does-nothing, dupped-none, dupped-then}
use Rattle.guarded.proofs.slots.dup.Goals as goal

pub returns-then-word-eq0-clause-done : goal.returns-then-word-eq0-clause-done
returns-then-word-eq0-clause-done g c = λ m is same.
    let v = g.L.SiteLock.view c.args.pass.now in
    let r = g.L.SiteLock.view c.slot-word.new.pass in
    let fd = c.args.fd in
    does-nothing m v r r c.slot-word.ensures.kept is same (Dup fd) (Refused BadF) (dupped-none m fd (slot-none (m fd) c.slot-word.result (c.slot-word.ensures.value m is same) c.if-word-eq0.true))

pub open-requires-clause-table : goal.open-requires-clause-table
open-requires-clause-table g c =
    let (m, is, same) = c.requires.table in
    (m, is, same ∙ sym (ap {A = Hand} (λ h. h.known) c.slot-word.ensures.kept.0))

pub returns-clause-done : goal.returns-clause-done
returns-clause-done g c = λ m is same.
    let v = g.L.SiteLock.view c.args.pass.now in
    let r = g.L.SiteLock.view c.slot-word.new.pass in
    let u = g.L.SiteLock.view c.open.new.pass in
    let fd = c.args.fd in
    let word = c.slot-word.result in
    let value = c.slot-word.ensures.value m is same in
    let done = c.open.ensures.done m is (same ∙ sym (ap {A = Hand} (λ h. h.known) c.slot-word.ensures.kept.0)) in
    dupped-then m v r u c.slot-word.ensures.kept fd (word - 1) c.open.result (slot-some (m fd) word value c.if-word-eq0.false) done
