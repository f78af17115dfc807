-- That the calls of a machine's objects which reply busy, interrupted or sent have their causes, by what a pass knows that has looked back.
use Rattle.std.specs.Prelude.{ℕ, ◌≤◌, List, length}
use Rattle.word_bits.specs.declared.TheConstants.{MAX_TASKS}
use Rattle.word_bits.specs.Objects.{Obj}
use Rattle.word_bits.specs.Histories.{Plan, Records, Event}
use Rattle.lock_core.specs.Causes.{HasCause}
use Rattle.lock_core.specs.Kinds.{Kind}
use Rattle.lock_core.specs.Shown.{Shown}
use Rattle.guarded.specs.ObjectCopying.{AreKnown}
use Rattle.mm_report.specs.Orders.{IsEventOf}
use Rattle.mm_serve.specs.MachinePasts.{KnowsPast}
use Rattle.mm_serve.specs.Types.{Moment}

-- A pass that knows each record which is told goes back to the cause of each call that is told: to the failed try, or to the signal that it consumed or sent. What the lock tells of its own isn't
-- asked for.
abbrev pub RecalledCauses : {Call : Type 0} → Obj Call → Kind → (size word_at : ℕ) → (waits : Plan → Moment → List ℕ → Type 0) → (opened : Plan → Moment) → Type 0
RecalledCauses o kind size word_at waits opened =
    (k : Plan) (u : Shown) (records : Records) (v : Event) → length k ≤ MAX_TASKS
    → KnowsPast o kind size word_at waits (λ k u. Unit {0}) opened k u → AreKnown u.hand records → IsEventOf k records v
    → HasCause k word_at u.past v.entry.task v.entry.call v.told.reply
