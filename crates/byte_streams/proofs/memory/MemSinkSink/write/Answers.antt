use Rattle.std.proofs.Common.{◌≡◌, true, false, arith}
use Rattle.std.proofs.lemmas.Grind.{common_steps}
use Rattle.byte_streams.proofs.memory.MemSinkSink.write.Goals as goal
use Rattle.byte_streams.proofs.memory.MemSinkSink.write.Goals.{then-count-eq0-via-then-count-eq0, then-count-eq0-via-else-count-eq0+then-contains}

pub returns-then-count-eq0-clause-stores : goal.returns-then-count-eq0-clause-stores
returns-then-count-eq0-clause-stores c = (
  λ among. elim c.then-count-eq0.branch [
    | then-count-eq0-via-then-count-eq0 w ↦ rw (← c.self.view_is) (omega arith)
    | then-count-eq0-via-else-count-eq0+then-contains w ↦ let none = rw (← c.self.view_is) at among in let e : true ≡ false = rw (← w.if-contains.true, w.contains.ensures.value, w.deref.ensures.value) none in cc
  ],
  grind (arith, common_steps),
)
