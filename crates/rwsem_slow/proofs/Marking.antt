-- A task that queued has chosen others, and sets their wake words.
use Rattle.std.proofs.Common.{◌≡◌, ◌∙◌, ℕ, ◌++◌, List, [], ap}
use Rattle.wake_duty.specs.DutyWakes.{waits}
use Rattle.rwsem_wake.specs.RwSemViews.{V}
use Rattle.rwsem_wake.specs.Removals.{StaysBeside}
use Rattle.rwsem_wake.specs.RwSemWakes.{HasChosenAll, IsAtRest, SetsAll}
use Rattle.rwsem_slow.specs.Queued.{IsInLine, IsInLineToWake}
use Rattle.rwsem_slow.specs.Types.{Wait, SemWake}

-- it looked whom to wake, and is to wake those
pub marks : (wait : Wait) (tasks : List ℕ) (v u : V) → v.ext.sem.wait ≡ wait → v.ext.wake.chosen ≡ [] → waits v.ext.wake.wait_state ≡ 1 → StaysBeside v u → IsAtRest u → HasChosenAll tasks v u → IsInLineToWake wait tasks u
marks wait tasks v u waits_so none wait_state beside rests chosen = record {
  waits = λ i. record { wait = (beside.wait ∙ waits_so) i; bias = rests.clear i; stage = rests.stage i; rest = rests.none i };
  still = rests.still;
  clear = chosen.clear;
  chosen = ap (λ (b : SemWake). b.chosen) chosen.chose ∙ ap (λ (ts : List ℕ). ts ++ tasks) none;
  wait_state = ap (λ (b : SemWake). waits b.wait_state) chosen.chose ∙ wait_state;
}

-- it has set their wake words since, and waits in line
pub marked : (wait : Wait) (tasks : List ℕ) (many : ℕ) (u m w : V) → IsInLineToWake wait tasks u → m.ext ≡ u.ext → SetsAll many m w → IsInLine wait w
marked wait tasks many u m w to_wake same sets = record {
  waits = ap (λ (z : V). z.ext.sem) sets.is ∙ (ap (λ e. e.sem) same ∙ to_wake.waits);
  still = ap (λ (z : V). z.ext.list.changes) sets.is ∙ (ap (λ e. e.list.changes) same ∙ to_wake.still);
  listed = record {
    clear = ap (λ (z : V). z.ext.wake.owing) sets.is ∙ (ap (λ e. e.wake.owing) same ∙ to_wake.clear);
    none = ap (λ (z : V). z.ext.wake.chosen) sets.is;
    waits = ap (λ (z : V). waits z.ext.wake.wait_state) sets.is ∙ (ap (λ e. waits e.wake.wait_state) same ∙ to_wake.wait_state);
  };
}
