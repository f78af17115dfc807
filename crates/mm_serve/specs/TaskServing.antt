-- A pass of one lock, between the calls of its task.
use Rattle.std.specs.Prelude.{◌≡◌, ℕ, ◌<◌, List, length, Some, None}
use Rattle.mm_serve.specs.Types.{Rec, Hand, No}
use Rattle.word_bits.specs.LockWords.{Unavailable}
use Rattle.word_bits.specs.Objects.{Obj}
use Rattle.word_bits.specs.Histories.{Plan}
use Rattle.guarded.specs.Gathering.{HasDoneAll, HasDoneSoFar}

-- it holds nothing, and each signal that it sent or consumed is recorded
pub record IsQuiet (h : Hand) : Type 0 where
  pub out : h.held ≡ No
  pub sent : h.sent ≡ None
  pub consumed : h.consumed ≡ 0

-- beside that, it has no task's number
pub record IsIdle (h : Hand) : Type 0 where
  pub numberless : h.task ≡ None
  pub quiet : IsQuiet h

-- it has the task's number, and knows the records of all calls that the task has done
pub record IsServing {Call : Type 0} (o : Obj Call) (unavailable : Unavailable) (k : Plan) (h : Hand) (t : ℕ) : Type 0 where
  pub numbered : h.task ≡ Some t
  pub quiet : IsQuiet h
  pub made : List Rec
  pub done : HasDoneSoFar o unavailable k h t h.done made

-- it knows the records of all calls of all tasks
abbrev pub AllTasksDone : {Call : Type 0} → Obj Call → Unavailable → Plan → Hand → Type 0
AllTasksDone o unavailable k h = (t : ℕ) → t < length k → HasDoneAll o unavailable k h t
