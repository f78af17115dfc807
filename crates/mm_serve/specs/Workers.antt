-- Workers: what each has before and after it did its task.
use Rattle.std.specs.Prelude.{◌≡◌, ℕ, ◌==◌, ◌<◌, ◌≤◌, Bool, List, [], All, count_by, length, slice_get, slice_index_or, Some}
use Rattle.word_bits.specs.Histories.{Plan}
use Rattle.lock_core.specs.Pasts.{GoesOn}
use Rattle.lock_core.specs.Records.{row}
use Rattle.lock_core.specs.Views.{Knows}
use Rattle.mm_serve.specs.declared.worker.Worker.{Worker}
use Rattle.mm_serve.specs.MachineHistories.{HasDoneOn, AllHaveDone}
use Rattle.mm_serve.specs.MachineQueues.{GoesBackToTask}
use Rattle.mm_serve.specs.Types.{Entry, Rec, Hand, Moment}

-- there is a pass of each object, and this is so of each object's number, the object and its pass
abbrev pub EachOf : {S P : Type 0} → (ℕ → S → P → Type 0) → List S → List P → Type 0
EachOf {S} {P} R sites passes = (length passes ≡ length sites) × ((k : ℕ) (s : S) (p : P) → k < length sites → R k (slice_index_or sites k s) (slice_index_or passes k p))

-- each of the passes is idle, and has seen no entry
abbrev pub HaveSeenNothing : {S P : Type 0} → (S → P → Type 0) → (P → Hand) → List S → List P → Type 0
HaveSeenNothing idle hand sites passes = EachOf (λ k s p. idle s p × ((hand p).seen ≡ [])) sites passes

-- how many of the calls are on the object, where each is given by its object's number
abbrev pub calls_to : ℕ → List ℕ → ℕ
calls_to k objects = count_by (λ object. object == k) objects

-- the first pass knew less than the second
abbrev pub KnowsMore : Hand → Hand → Type 0
KnowsMore old new = (e : Entry) (r : Rec) → Knows old e r → Knows new e r

-- beside that, the second goes back to all that the first did on the object's table and on the spin queue of its lock
abbrev pub TakesUp : {P : Type 0} → (P → Hand) → (past spun : P → List Moment) → P → P → Type 0
TakesUp hand past spun p q = KnowsMore (hand p) (hand q) × GoesOn (past p) (past q) × GoesOn (spun p) (spun q)

module _ {P Q S : Type 0} (idle : S → Q → Type 0) (hand : Q → Hand) (calls_on : S → Plan) (sites : List S) where
  -- its task is one of each object's plan, it has as many calls on each object as the plan has of the task, and its passes are idle and have seen no entry
  pub record IsReady (w : Worker P Q) : Type 0 where
    pub task : (k : ℕ) (s : S) → slice_get sites k ≡ Some s → w.task < length (calls_on s)
    pub objects : All (λ object. object < length sites) w.objects.items
    pub calls : (k : ℕ) (s : S) → slice_get sites k ≡ Some s → length (row (calls_on s) w.task) ≡ calls_to k w.objects.items
    pub passes : HaveSeenNothing idle hand sites w.passes.items

module _ {P Q S : Type 0} (idle : S → Q → Type 0) (hand : Q → Hand) (looked_back : S → Q → ℕ → Type 0) (past spun : Q → List Moment) (is_space : S → Bool) (calls_on : S → Plan) (sites : List S) where
  -- it has done all calls of its task, and on each object its pass goes back to a pass with the task's number that looked back
  pub record HasDoneItsTask (old new : Worker P Q) : Type 0 where
    pub task : new.task ≡ old.task
    pub passes : EachOf (λ k s p. idle s p × HasDoneOn (is_space s) (calls_on s) (hand p) new.task × GoesBackToTask looked_back past spun s new.task p) sites new.passes.items

  -- each of them has
  abbrev pub HaveDoneTheirTasks : (olds news : List (Worker P Q)) → Type 0
  HaveDoneTheirTasks olds news = (length news ≡ length olds) × ((i : ℕ) (d : Worker P Q) → i < length olds → HasDoneItsTask (slice_index_or olds i d) (slice_index_or news i d))

-- each worker's passes are idle
abbrev pub AllIdle : {P Q S : Type 0} → (S → Q → Type 0) → List S → List (Worker P Q) → Type 0
AllIdle {P} {Q} idle sites workers = (i : ℕ) (d : Worker P Q) → i < length workers → EachOf (λ k s p. idle s p) sites (slice_index_or workers i d).passes.items

-- the workers are those of tasks 0, 1 and so on
abbrev pub AreNumbered : {P Q : Type 0} → List (Worker P Q) → Type 0
AreNumbered {P} {Q} workers = (i : ℕ) (d : Worker P Q) → i < length workers → (slice_index_or workers i d).task ≡ i

-- from the object of this number on, each pass has taken in the other one of its object, and the others are as before
abbrev pub HaveGathered : {S P : Type 0} → (S → P → Type 0) → (takes_up : P → P → Type 0) → ℕ → List S → (olds others news : List P) → Type 0
HaveGathered {S} {P} idle takes_up n sites olds others news =
    EachOf (λ k s p. idle s p × (k < n → p ≡ slice_index_or olds k p) × (n ≤ k → takes_up (slice_index_or olds k p) p × takes_up (slice_index_or others k p) p)) sites news

-- the pass takes up what the passes of the object of this number knew and did, from the worker of number n on
abbrev pub KnowsFrom : {P Q : Type 0} → (takes_up : Q → Q → Type 0) → (n : ℕ) → List (Worker P Q) → ℕ → Q → Type 0
KnowsFrom {P} {Q} takes_up n workers k p = (i : ℕ) (d : Worker P Q) (q : Q) → n ≤ i → i < length workers → takes_up (slice_index_or (slice_index_or workers i d).passes.items k q) p

-- the pass knows that all tasks have done all their calls on the object
abbrev pub KnowsAllDone : {S P : Type 0} → (P → Hand) → (S → Bool) → (S → Plan) → S → P → Type 0
KnowsAllDone hand is_space calls_on s p = AllHaveDone (is_space s) (calls_on s) (hand p)
