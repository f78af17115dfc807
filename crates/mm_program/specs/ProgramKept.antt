-- The machine that a run of a script leaves.
use Rattle.std.specs.Prelude.{ℕ, Bool, List}
use Rattle.word_bits.specs.Histories.{Plan}
use Rattle.mm_program.specs.Types.{Hand, Moment, Machine, SpaceOrTablePass}
use Rattle.sleep_lock.specs.LockMembers.{LockMembers}
use Rattle.task_script.specs.Scripts.{Listing}
use Rattle.mm_report.specs.Results.{Told, AreLegal}
use Rattle.mm_serve.specs.Machines.{IsMachineOf, IsAtRest, AreAllKnown, AreHeld, GoBackToTasks, KnowsPasts, gathered_of, results_of}
use Rattle.mm_serve.specs.MachineSites.{holds_space}
use Rattle.mm_serve.specs.UnderLocks.{HasLookedBackUnder, IsIdleUnder, KnowsPastUnder, LockedObject, calls_under, hand_under, past_under, spun_under}

-- over objects of any kind, by what a machine knows of an object and of its pass
module _ {S C P U : Type 0} (is_space : S → Bool) (calls_on : S → Plan) (hand : P → Hand) (moments_of spun : P → List Moment) (idle : S → P → Type 0) (looked_back : S → P → ℕ → Type 0)
    (knows_past : S → P → Type 0) where
  -- the machine has done all calls of the script, and its results tell this of the objects
  pub record HasServed (script : Listing) (told : List Told) (m : Machine S C P U) : Type 0 where
    -- its objects are those of the script, each with the calls on it
    pub of : IsMachineOf is_space calls_on script m
    -- what its results tell are legal histories of the script
    pub legal : AreLegal script (results_of m) told
    -- the gathered pass of an object knows each record that is told of the object
    pub known : AreAllKnown hand (gathered_of m) told
    -- The log and the state that are told of an object are those of the object's table at a moment that this pass goes back to. At that moment a pass held alone, didn't write, and knew each record
    -- that is told.
    pub held : AreHeld hand moments_of m
    -- The gathered pass knows all that was so of the object's table, from its opening on. Under locks that is who held, what the lock's word stated, what the lock tells of its own, and who stood in
    -- the lock's spin queue, up to a look there.
    pub past : KnowsPasts knows_past m
    -- It goes back to a pass with each task's number. Under locks it goes back to a step of this pass on the object's table by which all the task's calls were recorded. At the last moment that this
    -- pass knows of the spin queue the task's number was outside the queue, and the pass had entered it and been its head as often as it says.
    pub tasks : GoBackToTasks looked_back moments_of spun calls_on m
    -- no gathered pass has a task's number or owes anything
    pub rest : IsAtRest idle m

-- a machine over spaces under locks of one kind and tables under locks of another
abbrev pub LockedMachine : (A S R X P E C T F G Y Q H D B U : Type 0) → Type 0
LockedMachine A S R X P E C T F G Y Q H D B U = Machine (LockedObject A S R X P E C T F G Y Q H D) B (SpaceOrTablePass P Q) U

module _ {A S R X P E C T F G Y Q H D B U : Type 0} (spaces : LockMembers A P) (tables : LockMembers T Q) where
  -- `HasServed` of such a machine, by what the trait of locks tells of the two kinds
  abbrev pub HasServedUnder : (script : Listing) (told : List Told) → LockedMachine A S R X P E C T F G Y Q H D B U → Type 0
  HasServedUnder = HasServed holds_space (calls_under spaces tables) (hand_under spaces tables) (past_under spaces tables) (spun_under spaces tables) (IsIdleUnder spaces tables)
      (HasLookedBackUnder spaces tables) (KnowsPastUnder spaces tables)
