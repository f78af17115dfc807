-- The words of the call are those of a fault.
use Rattle.std.proofs.Common.{◌∙◌, Some, ap, sym}
use Rattle.vma_map.specs.declared.call.SpaceCall.{SpaceCall}
use Rattle.seq_fault.specs.SeqSteps.{IsNextFault}
use Rattle.step_tests.proofs.seq_calls.fault.Goals as goal

pub fault-requires-clause-next : goal.fault-requires-clause-next
fault-requires-clause-next c = let call = c.in-Some-Fault in (
  call.field-0-0,
  call.field-0-1,
  record { words = c.in_ok-words.words; planned = c.in_ok-words.ensures.words; is = sym c.call_of.ensures.value ∙ (call.is ∙ ap (λ (x : SpaceCall). Some x) call.field-0-is) },
)
