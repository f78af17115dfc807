-- That a history keeps the order in which its calls took effect. Each took effect at one step on the object's table, the one that stores its record (`IsLinearizable`). Of a call by `perform` that
-- step is one of the call (`Performs.stored`), so this order has the real-time order in it: a call that was over before another began comes first.
use Rattle.std.specs.Prelude.{◌≡◌, ◌≢◌, ◌⊎◌, ℕ, false, List, ◌∷◌}
use Rattle.word_bits.specs.LockWords.{Unavailable}
use Rattle.word_bits.specs.Objects.{Obj, IsObjectReply}
use Rattle.word_bits.specs.Histories.{Plan, Records, Event, changes, history}
use Rattle.word_bits.specs.Legal.{IsLegal}
use Rattle.lock_core.specs.Kinds.{Kind}
use Rattle.lock_core.specs.Linear.{IsLinearizable}
use Rattle.lock_core.specs.Orders.{record_in, IsServed}
use Rattle.lock_core.specs.Pasts.{Tail, BeganWith}
use Rattle.lock_core.specs.Shown.{Shown}
use Rattle.lock_core.specs.SiteStated.{IsNew}
use Rattle.guarded.specs.ObjectCopying.{AreKnown}
use Rattle.mm_report.specs.Orders.{IsEventOf, Before}
use Rattle.mm_serve.specs.MachinePasts.{KnowsPast}
use Rattle.mm_serve.specs.Types.{Entry, Moment}

-- By this moment the call has taken effect under a hold: it is recorded, with another reply than busy, EINTR and sent.
abbrev pub HasTakenEffect : Plan → Moment → Event → Type 0
HasTakenEffect k m v = IsServed k m v.entry.task v.entry.call v.words v.told

-- The first of two calls took effect before the second. At an early moment of this past the first had taken effect, and the second wasn't recorded. By a late one the second had taken effect too.
pub record TookEffectBefore (k : Plan) (past : List Moment) (first second : Event) : Type 0 where
  -- the late moment, and those before it
  pub late : Moment
  pub until : List Moment
  pub is_late : Tail (late ∷ until) past
  -- the early one, likewise
  pub early : Moment
  pub before : List Moment
  pub is_early : Tail (early ∷ before) (late ∷ until)
  pub first_has : HasTakenEffect k early first
  pub second_not_yet : record_in k early second.entry.task second.entry.call ≡ 0
  pub second_has : HasTakenEffect k late second

-- Both calls only read, and stand behind the same entries of the log. So both replied by one state and left it: in either order they are one thread's history.
pub record ReadAtOnePlace {Call : Type 0} (o : Obj Call) (first second : Event) : Type 0 where
  pub first_reads : changes o first.words ≡ false
  pub second_reads : changes o second.words ≡ false
  pub place : first.told.k ≡ second.told.k

-- In the history of a linearizable past, of two calls that held, the one that took effect first stands first. Only two calls that read at one place may stand the other way round.
abbrev pub KeepsRealTimeOrder : {Call : Type 0} → Obj Call → Unavailable → Type 0
KeepsRealTimeOrder o unavailable =
    (size : ℕ) (k : Plan) (new : Moment) (past : List Moment) (records : Records) (log : List Entry) (state : List ℕ) (first second : Event)
    → IsLinearizable o size k past → IsNew o size k new → BeganWith new past → IsLegal o unavailable k records log state
    → IsEventOf k records first → IsEventOf k records second → TookEffectBefore k past first second
    → Before (history o k records log) first second ⊎ ReadAtOnePlace o first second

-- At a moment of this past the first of two calls was recorded, and the second wasn't.
pub record WasRecordedBefore (k : Plan) (past : List Moment) (first second : Event) : Type 0 where
  pub moment : Moment
  pub before : List Moment
  pub is : Tail (moment ∷ before) past
  pub first_recorded : record_in k moment first.entry.task first.entry.call ≢ 0
  pub second_not_yet : record_in k moment second.entry.task second.entry.call ≡ 0

-- The same by what a pass knows that has looked back, if it knows each record that is told. What its lock tells of its own isn't asked for: there `KnowsPast` may say nothing.
abbrev pub RecalledInRealTimeOrder : {Call : Type 0} → (o : Obj Call) → Unavailable → Kind → (size word_at : ℕ) → (waits : Plan → Moment → List ℕ → Type 0) → (opened : Plan → Moment) → Type 0
RecalledInRealTimeOrder o unavailable kind size word_at waits opened =
    (k : Plan) (u : Shown) (records : Records) (log : List Entry) (state : List ℕ) (first second : Event)
    → KnowsPast o kind size word_at waits (λ k u. Unit {0}) opened k u → AreKnown u.hand records → IsLegal o unavailable k records log state
    → IsEventOf k records first → IsEventOf k records second → IsObjectReply first.told.reply → IsObjectReply second.told.reply → WasRecordedBefore k u.past first second
    → Before (history o k records log) first second ⊎ ReadAtOnePlace o first second
