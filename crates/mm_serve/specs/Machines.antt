-- What a machine is before and after it has run.
use Rattle.std.specs.Prelude.{◌≡◌, ◌≢◌, ℕ, ◌<◌, Bool, List, [], ◌∷◌, All, length, slice_get, slice_index_or, Some}
use Rattle.word_bits.specs.Histories.{Plan}
use Rattle.word_bits.specs.Snapshots.{Words}
use Rattle.guarded.specs.ObjectCopying.{AreKnown}
use Rattle.lock_core.specs.Pasts.{GoesOn}
use Rattle.mm_report.specs.Results.{Told, AreLegal, AreComplete}
use Rattle.task_script.specs.Scripts.{Declared, Listing, plan_of}
use Rattle.mm_serve.specs.declared.machine.Machine.{Machine}
use Rattle.mm_serve.specs.MachineCopying.{AreBlank, IsCopied, KnowPasts, WasHeldWith}
use Rattle.mm_serve.specs.MachineQueues.{GoesBackToTasks}
use Rattle.mm_serve.specs.Types.{Hand, Moment}
use Rattle.mm_serve.specs.Workers.{EachOf, IsReady, AreNumbered}

-- one task at least, as which the histories are copied
abbrev pub staffed : Plan → Plan
staffed [] = [] ∷ []
staffed (ws ∷ wss) = ws ∷ wss

-- what is told of each object is known to the object's pass
abbrev pub AreAllKnown : {P : Type 0} → (P → Hand) → List P → List Told → Type 0
AreAllKnown {P} hand passes tolds = (k : ℕ) (t : Told) (p : P) → slice_get tolds k ≡ Some t → slice_get passes k ≡ Some p → AreKnown (hand p) t.records

-- these are the objects of the script, each of its kind and with the calls on it
pub record AreSitesOf {S : Type 0} (is_space : S → Bool) (calls_on : S → Plan) (script : Listing) (sites : List S) : Type 0 where
  pub many : length sites ≡ length script.objects
  pub plans : (k : ℕ) (s : S) → slice_get sites k ≡ Some s → calls_on s ≡ staffed (plan_of script k)
  pub kinds : (k : ℕ) (s : S) (d : Declared) → slice_get sites k ≡ Some s → slice_get script.objects k ≡ Some d → is_space s ≡ d.is_space

module _ {S C P U : Type 0} where
  -- its objects
  abbrev pub sites_of : Machine S C P U → List S
  sites_of m = m.sites.items

  -- the pass of each object that takes in those of all tasks
  abbrev pub gathered_of : Machine S C P U → List P
  gathered_of m = m.gathered.items

  -- what each object leaves
  abbrev pub results_of : Machine S C P U → List Words
  results_of m = m.results

  -- its objects are those of the script, each with the calls on it
  abbrev pub IsMachineOf : (S → Bool) → (S → Plan) → Listing → Machine S C P U → Type 0
  IsMachineOf is_space calls_on script m = AreSitesOf is_space calls_on script (sites_of m)

  module _ (idle : S → P → Type 0) (hand : P → Hand) (is_space : S → Bool) (calls_on : S → Plan) where
    -- No pass of the machine has a number or has seen an entry: there is a worker for each task of the plans, one at least, with the task's calls counted by object and with a pass of each object, and
    -- the results are blank.
    pub record IsFresh (m : Machine S C P U) : Type 0 where
      pub gathered : EachOf (λ k s p. idle s p) (sites_of m) (gathered_of m)
      pub ready : All (IsReady idle hand calls_on (sites_of m)) m.workers.items
      pub numbered : AreNumbered m.workers.items
      pub some : 0 < length m.workers.items
      pub tasks : (k : ℕ) (s : S) → slice_get (sites_of m) k ≡ Some s → length (calls_on s) ≡ length m.workers.items
      pub blank : AreBlank is_space calls_on (sites_of m) (results_of m)

  -- The objects are the same. All tasks have done their calls, and the results of each object are one thread's history, of which the gathered pass knows each record. The results of each have the log
  -- and the state of its table at one moment, at which a pass held alone and knew the same records.
  pub record HasRun (idle : S → P → Type 0) (hand : P → Hand) (past : P → List Moment) (is_space : S → Bool) (calls_on : S → Plan) (old new : Machine S C P U) : Type 0 where
    pub sites : sites_of new ≡ sites_of old
    pub long : length (results_of new) ≡ length (sites_of new)
    pub copied : EachOf (IsCopied idle hand past is_space calls_on (results_of new)) (sites_of new) (gathered_of new)

  -- The log and the state in the results of each object are those of the object's table at a moment that its gathered pass goes back to. At that moment a pass held alone, didn't write, and knew just
  -- the records that the gathered pass knows.
  abbrev pub AreHeld : (P → Hand) → (P → List Moment) → Machine S C P U → Type 0
  AreHeld hand past m = (k : ℕ) (w : Words) (p : P) → slice_get (results_of m) k ≡ Some w → slice_get (gathered_of m) k ≡ Some p → WasHeldWith w (hand p).records (past p)

  -- The results are legal histories of the script, and each record in those of an object is one that the object's gathered pass knows.
  pub record HasLegalResults (hand : P → Hand) (script : Listing) (m : Machine S C P U) : Type 0 where
    pub complete : AreComplete script (results_of m)
    pub told : List Told
    pub legal : AreLegal script (results_of m) told
    pub known : AreAllKnown hand (gathered_of m) told

  -- The gathered pass of each object goes back to a pass with each task's number. On the object's table it goes back to a step by which all the task's calls were recorded. On the spin queue it goes
  -- back to a look, of which no clause says when it was.
  abbrev pub GoBackToTasks : (looked_back : S → P → ℕ → Type 0) → (past spun : P → List Moment) → (S → Plan) → Machine S C P U → Type 0
  GoBackToTasks looked_back past spun calls_on m = EachOf (λ k s p. GoesBackToTasks looked_back past spun calls_on s p) (sites_of m) (gathered_of m)

  -- no gathered pass has a task's number or owes anything
  abbrev pub IsAtRest : (S → P → Type 0) → Machine S C P U → Type 0
  IsAtRest idle m = EachOf (λ k s p. idle s p) (sites_of m) (gathered_of m)

  -- each gathered pass knows the past of its object's table
  abbrev pub KnowsPasts : (S → P → Type 0) → Machine S C P U → Type 0
  KnowsPasts knows_past m = KnowPasts knows_past (sites_of m) (gathered_of m)

  -- The pass of one object knows the past of the object's table, has the hand that it had, and goes back to all that it did, on the lock's spin queue too; all else is as before.
  pub record HasRecalled (hand : P → Hand) (past spun : P → List Moment) (knows_past : S → P → Type 0) (object : ℕ) (old new : Machine S C P U) : Type 0 where
    pub rest : new ≡ record old { gathered = new.gathered }
    pub others : (k : ℕ) → k ≢ object → slice_get (gathered_of new) k ≡ slice_get (gathered_of old) k
    pub hands : (k : ℕ) (p : P) → hand (slice_index_or (gathered_of new) k p) ≡ hand (slice_index_or (gathered_of old) k p)
    pub goes_on : (k : ℕ) (p : P) → GoesOn (past (slice_index_or (gathered_of old) k p)) (past (slice_index_or (gathered_of new) k p))
    pub queues : (k : ℕ) (p : P) → GoesOn (spun (slice_index_or (gathered_of old) k p)) (spun (slice_index_or (gathered_of new) k p))
    pub known : (s : S) (p : P) → slice_get (sites_of new) object ≡ Some s → slice_get (gathered_of new) object ≡ Some p → knows_past s p
