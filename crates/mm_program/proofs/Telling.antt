-- What is known under locks that tell something is known under locks that tell what follows from it.
use Rattle.std.proofs.Common.{ℕ, List}
use Rattle.word_bits.specs.Histories.{Plan}
use Rattle.lock_core.specs.Shown.{Shown}
use Rattle.sleep_lock.specs.LockMembers.{LockMembers}
use Rattle.task_script.specs.Scripts.{Listing}
use Rattle.mm_report.specs.Results.{Told}
use Rattle.mm_serve.specs.MachineQueues.{GoesBackToTask}
use Rattle.mm_serve.specs.UnderLocks.{HasLookedBackUnder, KnowsPastUnder, LockedObject, past_under, spun_under}
use Rattle.mm_program.specs.ProgramKept.{HasServedUnder, LockedMachine}
use Rattle.mm_program.specs.Types.{Moment, Space, Table, SpaceOrTablePass, OfSpace, OfTable}

-- such locks, which tell this
abbrev pub telling : {L P : Type 0} → LockMembers L P → (Plan → Shown → Type 0) → (Plan → Shown → List Moment → Type 0) → LockMembers L P
telling locks tells tells_queue = record locks { tells = tells; tells_queue = tells_queue }

module _ {A S R X P E C T F G Y Q H D : Type 0} (spaces : LockMembers A P) (tables : LockMembers T Q)
    (space_tells table_tells : Plan → Shown → Type 0) (space_queue table_queue : Plan → Shown → List Moment → Type 0)
    (space : (k : Plan) (u : Shown) → spaces.tells k u → space_tells k u)
    (table : (k : Plan) (u : Shown) → tables.tells k u → table_tells k u)
    (of_space : (k : Plan) (u : Shown) (spun : List Moment) → spaces.tells_queue k u spun → space_queue k u spun)
    (of_table : (k : Plan) (u : Shown) (spun : List Moment) → tables.tells_queue k u spun → table_queue k u spun) where
  past-under : (s : LockedObject A S R X P E C T F G Y Q H D) (p : SpaceOrTablePass P Q) → KnowsPastUnder spaces tables s p
      → KnowsPastUnder (telling spaces space_tells space_queue) (telling tables table_tells table_queue) s p
  past-under (Space s) (OfSpace p) h = (record { last = h.0.last; new = h.0.new; begins = h.0.begins; always = h.0.always; moves = h.0.moves; linear = h.0.linear; told = space _ _ h.0.told }, of_space _ _ _ h.1)
  past-under (Space s) (OfTable p) h = h
  past-under (Table s) (OfSpace p) h = h
  past-under (Table s) (OfTable p) h = (record { last = h.0.last; new = h.0.new; begins = h.0.begins; always = h.0.always; moves = h.0.moves; linear = h.0.linear; told = table _ _ h.0.told }, of_table _ _ _ h.1)

  look-under : (s : LockedObject A S R X P E C T F G Y Q H D) (p : SpaceOrTablePass P Q) (t : ℕ) → HasLookedBackUnder spaces tables s p t
      → HasLookedBackUnder (telling spaces space_tells space_queue) (telling tables table_tells table_queue) s p t
  look-under (Space s) (OfSpace p) t h = record { own = h.own; serving = h.serving; all = h.all; last = h.last; queue = of_space _ _ _ h.queue }
  look-under (Space s) (OfTable p) t h = h
  look-under (Table s) (OfSpace p) t h = h
  look-under (Table s) (OfTable p) t h = record { own = h.own; serving = h.serving; all = h.all; last = h.last; queue = of_table _ _ _ h.queue }

  task-under : (s : LockedObject A S R X P E C T F G Y Q H D) (t : ℕ) (p : SpaceOrTablePass P Q) → GoesBackToTask (HasLookedBackUnder spaces tables) (past_under spaces tables) (spun_under spaces tables) s t p
      → GoesBackToTask (HasLookedBackUnder (telling spaces space_tells space_queue) (telling tables table_tells table_queue)) (past_under spaces tables) (spun_under spaces tables) s t p
  task-under s t p g = record { pass = g.pass; looked = look-under s g.pass t g.looked; table = g.table; queue = g.queue }

  module _ {B U : Type 0} where
    pub served-under : (script : Listing) (told : List Told) (m : LockedMachine A S R X P E C T F G Y Q H D B U) → HasServedUnder spaces tables script told m
        → HasServedUnder (telling spaces space_tells space_queue) (telling tables table_tells table_queue) script told m
    served-under script told m served = record {
      of = served.of;
      legal = served.legal;
      known = served.known;
      held = served.held;
      past = λ k s p at_s at_p. past-under s p (served.past k s p at_s at_p);
      tasks = (served.tasks.0, λ k s p l t there. task-under _ t _ (served.tasks.1 k s p l t there));
      rest = served.rest;
    }
