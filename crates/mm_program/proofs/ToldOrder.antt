-- The histories that a machine's results tell keep the order in which their calls took effect.
use Rattle.std.proofs.Common.{◌≡◌, ℕ, zero, suc, ◌+◌, Bool, true, false, List, [], ◌∷◌, slice_get, Some, refl, sym, ◌∙◌, subst, arith, add-zero, zero-add}
use Rattle.std.proofs.lemmas.Bool.{false≢true}
use Rattle.word_bits.specs.LockWords.{counted, owned}
use Rattle.word_bits.specs.Objects.{IsObjectReply}
use Rattle.word_bits.specs.Snapshots.{Words}
use Rattle.word_bits.specs.Histories.{Plan, Records, Event}
use Rattle.vma_map.specs.Spaces.{space}
use Rattle.fd_table.specs.Tables.{table}
use Rattle.lock_core.proofs.RowLaws.{none-some, same-some, some-inside, get-there}
use Rattle.guarded.specs.ObjectCopying.{AreKnown}
use Rattle.sleep_lock.specs.LockMembers.{LockMembers}
use Rattle.task_script.specs.Scripts.{Declared, Listing, plan_of}
use Rattle.mm_report.specs.Orders.{IsEventOf}
use Rattle.mm_report.specs.Results.{Told, AreLegalFrom, IsLegalOn}
use Rattle.mm_serve.specs.Machines.{results_of, sites_of, staffed}
use Rattle.mm_serve.specs.MachinePasts.{KnowsPast}
use Rattle.mm_serve.specs.MachineSites.{holds_space}
use Rattle.mm_serve.specs.RealTimeOrder.{WasRecordedBefore}
use Rattle.mm_serve.specs.UnderLocks.{KnowsPastUnder, LockedObject, calls_under, hand_under, past_under}
use Rattle.mm_serve.proofs.RealTime.{recalled_in_real_time_order, without_told}
use Rattle.mm_program.specs.ProgramKept.{LockedMachine}
use Rattle.mm_program.specs.ToldOrder.{StandInOrder, TellsInRealTimeOrder}
use Rattle.mm_program.specs.Types.{Space, Table, SpaceOrTablePass, OfSpace, OfTable}

-- what is told of one object is legal
legal-at : (s : Listing) (object i : ℕ) (ds : List Declared) (ws : List Words) (ts : List Told) (d : Declared) (t : Told) → AreLegalFrom s object ds ws ts → slice_get ds i ≡ Some d → slice_get ts i ≡ Some t
    → (w : Words) × IsLegalOn d.is_space (plan_of s (object + i)) t w.state
legal-at s object i [] ws ts d t legal at is = none-some d at
legal-at s object i (x ∷ ds) [] ts d t legal at is = absurd legal
legal-at s object i (x ∷ ds) (w ∷ ws) [] d t legal at is = none-some t is
legal-at s object zero (x ∷ ds) (w ∷ ws) (y ∷ ts) d t legal at is =
    let here = subst (λ (z : Declared). IsLegalOn z.is_space (plan_of s object) y w.state) (same-some x d at) legal.1 in
    (w, subst (λ (n : ℕ). IsLegalOn d.is_space (plan_of s n) t w.state) (sym (add-zero object)) (subst (λ (z : Told). IsLegalOn d.is_space (plan_of s object) z w.state) (same-some y t is) here))
legal-at s object (suc i) (x ∷ ds) (w ∷ ws) (y ∷ ts) d t legal at is =
    let later = legal-at s (object + 1) i ds ws ts d t legal.2 at is in
    let place : object + 1 + i ≡ object + suc i = omega arith in
    (later.0, subst (λ (n : ℕ). IsLegalOn d.is_space (plan_of s n) t later.0.state) place later.1)

-- a plan with a call has a task
pub has-task : (plan : Plan) (records : Records) (v : Event) → IsEventOf plan records v → staffed plan ≡ plan
has-task [] records v is = none-some v.words is.planned
has-task (ws ∷ plan) records v is = refl

module _ {A S R X P E C T F G Y Q H D : Type 0} (spaces : LockMembers A P) (tables : LockMembers T Q) where
  in-order : (s : LockedObject A S R X P E C T F G Y Q H D) (p : SpaceOrTablePass P Q) (b : Bool) (plan : Plan) (t : Told) (state : List ℕ) (first second : Event)
      → holds_space s ≡ b → calls_under spaces tables s ≡ plan → KnowsPastUnder spaces tables s p → AreKnown (hand_under spaces tables p) t.records → IsLegalOn b plan t state
      → IsEventOf plan t.records first → IsEventOf plan t.records second → IsObjectReply first.told.reply → IsObjectReply second.told.reply
      → WasRecordedBefore plan (past_under spaces tables p) first second → StandInOrder b plan t first second
  in-order (Space s) (OfSpace p) true plan t state first second kind calls knows =
      recalled_in_real_time_order space counted spaces.kind 257 spaces.word_at spaces.waits spaces.opened plan (spaces.view p) t.records t.log state first second
      (subst (λ (k : Plan). KnowsPast space spaces.kind 257 spaces.word_at spaces.waits (λ k u. Unit {0}) spaces.opened k (spaces.view p)) calls
      (without_told space spaces.kind 257 spaces.word_at spaces.waits spaces.tells spaces.opened _ _ knows.0))
  in-order (Table s) (OfTable p) false plan t state first second kind calls knows =
      recalled_in_real_time_order table owned tables.kind 64 tables.word_at tables.waits tables.opened plan (tables.view p) t.records t.log state first second
      (subst (λ (k : Plan). KnowsPast table tables.kind 64 tables.word_at tables.waits (λ k u. Unit {0}) tables.opened k (tables.view p)) calls
      (without_told table tables.kind 64 tables.word_at tables.waits tables.tells tables.opened _ _ knows.0))
  in-order (Space s) (OfSpace p) false plan t state first second kind calls knows = absurd (false≢true (sym kind))
  in-order (Table s) (OfTable p) true plan t state first second kind calls knows = absurd (false≢true kind)
  in-order (Space s) (OfTable p) b plan t state first second kind calls knows = absurd knows
  in-order (Table s) (OfSpace p) b plan t state first second kind calls knows = absurd knows

  module _ {B U : Type 0} where
    pub tells_in_real_time_order : (m : LockedMachine A S R X P E C T F G Y Q H D B U) → TellsInRealTimeOrder spaces tables m
    tells_in_real_time_order m script told object d t p first second served declared tells gathered is are first_held second_held order =
        let many = served.of.many in
        let inside = some-inside script.objects object d declared in
        let there = get-there (sites_of m) object (omega (arith, many, inside)) in
        let legal = legal-at script 0 object script.objects (results_of m) told d t served.legal declared tells in
        let plan = plan_of script object in
        in-order there.0 p d.is_space plan t legal.0.state first second (served.of.kinds object there.0 d there.1 declared) (served.of.plans object there.0 there.1 ∙ has-task plan t.records first is)
        (served.past object there.0 p there.1 gathered) (served.known object t p tells gathered)
        (subst (λ (n : ℕ). IsLegalOn d.is_space (plan_of script n) t legal.0.state) (zero-add object) legal.1) is are first_held second_held order
