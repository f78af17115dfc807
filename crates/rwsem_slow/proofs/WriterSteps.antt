-- The tries of a queued writer.
use Rattle.std.proofs.Common.{◌≡◌, ◌≢◌, ◌∙◌, ℕ, ◌+◌, ◌/◌, ◌%◌, ◌<◌, ◌≤◌, ◌==◌, ◌⊎◌, ◌↔◌, inl, inr, Bool, true, false, List, [], ◌∷◌, length, Option, Some, None, sym, refl, ap, subst, arith, eq-eqb, ne_eqb, if◌then◌else◌}
use mathlib.Core.Logic.{dite}
use native.Mathlib.Decide.{ℕ_discrete}
use Rattle.word_bits.specs.LockWords.{IsLawfulCount}
use Rattle.word_bits.specs.Objects.{Obj}
use Rattle.word_bits.specs.Histories.{Plan}
use Rattle.lock_core.specs.Holding.{Learns}
use Rattle.lock_core.specs.Records.{bit}
use Rattle.lock_core.proofs.HandLaws.{not-both}
use Rattle.wait_list.specs.Lists.{FindsFirst, FindsNext, IsList, Knows, Removes, counted, first_code, first_of, next_of}
use Rattle.wait_list.proofs.Waiters.{sound-changed}
use Rattle.rwsem_count.specs.CountWordSteps.{HasFlags, HasHandoff, Writes as WritesBy}
use Rattle.wake_duty.specs.WakeSteps.{HasTried}
use Rattle.rwsem_count.specs.CountWordSteps.{IsLocked}
use Rattle.rwsem_wake.specs.Duties.{exchanged, saw_count}
use Rattle.rwsem_wake.specs.SemParts.{apart_hand}
use Rattle.lock_core.specs.Views.{SpinHolds, took}
use Rattle.rwsem_wake.specs.Grants.{ChangesTo, TurnsTo, with_changes}
use Rattle.rwsem_wake.specs.GrantQueues.{HoldsBy, MayTake, asked, own_unmarked, rested, taken}
use Rattle.rwsem_slow.specs.Queued.{Becomes, HasTaken, HasTriedAt, IsInLine, IsListed, IsTrying, KeepsWaiting, KnowsMark, Rests, Stays, Tries, waiting}
use Rattle.rwsem_wake.specs.Removals.{KnowsList}
use Rattle.rwsem_wake.specs.RwSemViews.{V, leaves_wake, list_of, parted, parted_wake, sem_of, with_list, with_sem, with_wake}
use Rattle.rwsem_slow.specs.RwSems.{wait_state_of}
use Rattle.rwsem_slow.specs.Types.{Hand, Alone, Leave, ListHand, Waiter, Fail, Mark, Take, SemWake, SemHand, Rest, Marking, Took, Removed, Summing, Wait, Writes}
use Rattle.wait_list.proofs.Joining.{holds-one}
use Rattle.rwsem_slow.proofs.Joining.{code-waits}
use Rattle.rwsem_wake.proofs.Walking.{finds-next}
use Rattle.rwsem_slow.proofs.WaitStates.{exchanged-other, exchanged-same, keeps-of, keeps-on, locked-left, saw-keeps, tried-at, tried-same}

-- it knows the list as before where the list and the spin lock are
pub knows-same : (v u : V) → KnowsList v → u.spin ≡ v.spin → u.ext.list ≡ v.ext.list → KnowsList u
knows-same v u list spin same = record {
  knows = subst Knows (λ i. (sym spin i, sym same i)) list.knows;
  still = ap (λ (h : ListHand). h.changes) same ∙ list.still;
  sound = subst IsList (sym (ap (λ (h : ListHand). h.list) same)) list.sound;
}

-- a step that left the part
pub stays-turn : (v u : V) (s : SemHand) → s ≡ v.ext.sem → TurnsTo with_sem v s u → Stays v u
stays-turn v u s same turns = turns ∙ (λ i. record v { steps = sym (ap (λ (z : V). z.steps) turns) i; ext = with_sem v.ext (same i) })

-- it has only made steps, and waits as it did
pub stays-tries : (v u : V) → Stays v u → Tries v u
stays-tries v u s = record { is = s ∙ (λ i. record v { steps = u.steps; ext = record v.ext { wake = sym (ap (λ (z : V). z.ext.wake) s) i } }); keeps = keeps-of v.ext.wake u.ext.wake (ap (λ (z : V). z.ext.wake) s) }

pub tries-on : (v u w : V) → Tries v u → Tries u w → Tries v w
tries-on v u w t m = record { is = m.is ∙ (λ i. record (t.is i) { steps = w.steps; ext = record (t.is i).ext { wake = w.ext.wake } }); keeps = keeps-on v.ext.wake u.ext.wake w.ext.wake t.keeps m.keeps }

-- a look at the count, by a queued writer
pub looks-tries : (v u : V) (word : ℕ) → ChangesTo with_sem with_wake v v.ext.sem (saw_count word v.ext.wake) u → Tries v u
looks-tries v u word attends = let wake = ap (λ (z : V). z.ext.wake) attends in record {
  is = attends ∙ (λ i. record v { steps = sym (ap (λ (z : V). z.steps) attends) i; ext = record v.ext { wake = sym wake i } });
  keeps = subst (KeepsWaiting v.ext.wake) (sym wake) (saw-keeps word v.ext.wake);
}

-- an exchange that asks for a handoff failed, or the first waiter was marked then
module _ (v u : V) (old found : ℕ) (queued : v.ext.sem ≡ waiting Writes) (turns : TurnsTo with_sem v (asked v.ext.sem old found) u) where
  pub ask-missed : found ≢ old → Stays v u
  ask-missed other = stays-turn v u (asked v.ext.sem old found) (ap (λ (b : Bool). if b then record v.ext.sem { stage = Marking } else v.ext.sem) (ne_eqb found old other)) turns

  pub ask-done : found ≡ old → u.ext.sem ≡ record (waiting Writes) { stage = Marking }
  ask-done is = ap (λ (z : V). z.ext.sem) turns ∙ (ap (λ (b : Bool). if b then record v.ext.sem { stage = Marking } else v.ext.sem) (eq-eqb found old is) ∙ ap (λ (s : SemHand). record s { stage = Marking }) queued)

  pub ask-marked : (w : V) → found ≡ old → TurnsTo with_sem u (rested u.ext.sem) w → Stays v w
  ask-marked w is more = let sem : rested u.ext.sem ≡ v.ext.sem = ap rested (ask-done is) ∙ sym queued in
      more ∙ (λ i. record (turns i) { steps = sym (ap (λ (z : V). z.steps) more) i; ext = record (turns i).ext { sem = sem i } })

-- a writer's taking exchange
trying-rests : (s : SemHand) → IsTrying s → rested s ≡ waiting Writes
trying-rests s t = elim t [ inl is ↦ ap rested is | inr is ↦ ap rested is ]

trying-took : (s : SemHand) → IsTrying s → record s { stage = Took } ≡ record (waiting Writes) { stage = Took }
trying-took s t = elim t [ inl is ↦ ap (λ (z : SemHand). record z { stage = Took }) is | inr is ↦ ap (λ (z : SemHand). record z { stage = Took }) is ]

module _ (v u : V) (old found : ℕ) (t : IsTrying v.ext.sem) where
  pub take-missed : found ≢ old → ChangesTo with_sem with_wake v (taken v.ext.sem old found) (exchanged old found v.ext.wake) u → Rests v u
  take-missed other turns = let wake = ap (λ (z : V). z.ext.wake) turns in let sem : taken v.ext.sem old found ≡ waiting Writes = ap (λ (b : Bool). record v.ext.sem { stage = if b then Took else Rest }) (ne_eqb found old other) ∙ trying-rests v.ext.sem t in
      record {
        is = turns ∙ (λ i. record v { steps = sym (ap (λ (z : V). z.steps) turns) i; ext = record v.ext { sem = sem i; wake = sym wake i } });
        keeps = subst (KeepsWaiting v.ext.wake) (sym (wake ∙ exchanged-other old found v.ext.wake other)) (saw-keeps found v.ext.wake);
      }

  pub take-again : found ≢ old → IsListed v.ext.wake → ChangesTo with_sem with_wake v (taken v.ext.sem old found) (exchanged old found v.ext.wake) u → HasTriedAt found u
  take-again other listed turns = tried-at found v.ext.wake u listed.waits (ap (λ (z : V). z.ext.wake) turns ∙ exchanged-other old found v.ext.wake other)

  pub take-done : {Call : Type 0} (o : Obj Call) (k : Plan) → KnowsList v → found ≡ old → HoldsBy with_sem with_wake o k Alone (taken v.ext.sem old found) (exchanged old found v.ext.wake) v u → HasTaken o k v u
  take-done o k list is holds = let sem : taken v.ext.sem old found ≡ record (waiting Writes) { stage = Took } = ap (λ (b : Bool). record v.ext.sem { stage = if b then Took else Rest }) (eq-eqb found old is) ∙ trying-took v.ext.sem t in
      let view = holds.3 in let same = ap (λ (z : V). z.ext.list) view in record {
        known = holds.0;
        log = holds.1;
        learns = holds.2;
        later = let n = ap (λ (z : V). z.steps) view in omega (arith, n);
        list = knows-same v u list (ap (λ (z : V). z.spin) view) same;
        is = view ∙ (λ i. record (with_changes with_sem with_wake v (took v.hand Alone holds.0 holds.1) (taken v.ext.sem old found) (exchanged old found v.ext.wake)) { steps = sym (ap (λ (z : V). z.steps) view) i; ext = record { list = sym same i; sem = sem i; appends = v.ext.appends; wake = sym (ap (λ (z : V). z.ext.wake) view) i } });
        waits = keeps-of v.ext.wake u.ext.wake (ap (λ (z : V). z.ext.wake) view ∙ exchanged-same old found v.ext.wake is);
      }

-- whether the first of a list is alone there, by a look behind it
alone-none : (q : List Waiter) (w : Waiter) → Some w ≡ first_of q → None ≡ next_of w.task q → length q ≡ 1
alone-none [] w e none = absurd cc
alone-none (x ∷ q) w e none = go q (none ∙ ap (λ (b : Bool). if b then first_of q else next_of w.task q) (eq-eqb x.task w.task (head e)))
  where
    head : Some w ≡ Some x → x.task ≡ w.task
    head e = cc

    go : (q : List Waiter) → None ≡ first_of q → length (x ∷ q) ≡ 1
    go [] e = refl
    go (y ∷ q) e = absurd cc

alone-some : (q : List Waiter) (w y : Waiter) → Some w ≡ first_of q → Some y ≡ next_of w.task q → length q ≢ 1
alone-some [] w y e more = absurd cc
alone-some (x ∷ q) w y e more = go q (more ∙ ap (λ (b : Bool). if b then first_of q else next_of w.task q) (eq-eqb x.task w.task (head e)))
  where
    head : Some w ≡ Some x → x.task ≡ w.task
    head e = cc

    go : (q : List Waiter) → Some y ≡ first_of q → length (x ∷ q) ≢ 1
    go [] e one = absurd cc
    go (z ∷ q) e one = omega (arith, one)

pub first-there : (q : List Waiter) (w : Waiter) → Some w ≡ first_of q → 0 < counted w.task q
first-there [] w e = absurd cc
first-there (x ∷ q) w e = let b : bit (x.task == w.task) ≡ 1 = ap bit (eq-eqb x.task w.task (head e)) in omega (arith, b)
  where
    head : Some w ≡ Some x → x.task ≡ w.task
    head e = cc

module _ (v : V) (list : KnowsList v) (w : Waiter) (first : Some w ≡ first_of v.ext.list.list) (u : V) where
  pub only-none : FindsNext list_of with_list v w.task None u → (true ≡ true) ↔ (length v.ext.list.list ≡ 1)
  only-none f = ((λ _. alone-none v.ext.list.list w first (finds-next v list w.task None u f (first-there v.ext.list.list w first))), λ _. refl)

  pub only-some : (y : Waiter) → FindsNext list_of with_list v w.task (Some y) u → (false ≡ true) ↔ (length v.ext.list.list ≡ 1)
  only-some y f = ((λ e. not-both false refl e), λ one. absurd (alone-some v.ext.list.list w y first (finds-next v list w.task (Some y) u f (first-there v.ext.list.list w first)) one))

-- a look at the first waiter, by a pass at rest
module _ (v u : V) (wait : Wait) (line : IsInLine wait v) (first : Option Waiter) (later : v.steps ≤ u.steps) (f : FindsFirst list_of with_list v first u) where
  pub finds-first : first ≡ first_of u.ext.list.list
  finds-first = f.is ∙ sym (ap (λ (z : V). first_of z.ext.list.list) f.view)

  pub looks-first : Becomes v 0 (waiting wait) v.ext.wake u
  looks-first = let spin = ap (λ (z : V). z.spin) f.view in let same = ap (λ (z : V). z.ext.list) f.view in record {
    later = later;
    list = record { knows = subst Knows (λ i. (sym spin i, sym same i)) f.learnt.knows; still = ap (λ (h : ListHand). h.changes) same ∙ (f.learnt.changes ∙ line.still); sound = subst IsList (sym (ap (λ (h : ListHand). h.list) same)) f.learnt.sound };
    is = f.view ∙ (λ i. record v { steps = u.steps; ext = record { list = sym same i; sem = line.waits i; appends = zero-more v.ext.appends i; wake = v.ext.wake } });
  }
    where
      zero-more : (n : ℕ) → n ≡ n + 0
      zero-more n = omega arith

-- and steps behind it
pub becomes-stays : (v u w : V) (n : ℕ) (s : SemHand) (c : SemWake) → Becomes v n s c u → Stays u w → u.steps ≤ w.steps → Becomes v n s c w
becomes-stays v u w n s c b stays later = let same = ap (λ (z : V). z.ext.list) stays in record {
  later = let l = b.later in omega (arith, l, later);
  list = knows-same u w b.list (ap (λ (z : V). z.spin) stays) same;
  is = stays ∙ (λ i. record (b.is i) { steps = w.steps; ext = record (b.is i).ext { list = sym same i } });
}

pub becomes-tries : (v u w : V) (n : ℕ) (s : SemHand) (c : SemWake) → Becomes v n s c u → Tries u w → u.steps ≤ w.steps → Becomes v n s w.ext.wake w
becomes-tries v u w n s c b tries later = let same = ap (λ (z : V). z.ext.list) tries.is in record {
  later = let l = b.later in omega (arith, l, later);
  list = knows-same u w b.list (ap (λ (z : V). z.spin) tries.is) same;
  is = tries.is ∙ (λ i. record (b.is i) { steps = w.steps; ext = record (b.is i).ext { list = sym same i; wake = w.ext.wake } });
}

-- what a writer may do at a count of which it knows enough
module _ (v u : V) (queued : v.ext.sem ≡ waiting Writes) (list : KnowsList v) (me first : ℕ) (code : first_code v.ext.list.list ≡ first + 1) (alone overdue : Bool) (only : (alone ≡ true) ↔ (length v.ext.list.list ≡ 1)) (count : ℕ) (lawful : IsLawfulCount count) (tried : HasTriedAt count v) (marked : Bool) (mark : KnowsMark me first count marked v u) where
  steps-list : (u.ext.list ≡ v.ext.list) × (u.spin ≡ v.spin)
  steps-list = go marked mark
    where
      go : (b : Bool) → KnowsMark me first count b v u → (u.ext.list ≡ v.ext.list) × (u.spin ≡ v.spin)
      go true k = (ap (λ (z : V). z.ext.list) k.0.is, ap (λ (z : V). z.spin) k.0.is)
      go false (inl k) = (ap (λ (z : V). z.ext.list) k.0, ap (λ (z : V). z.spin) k.0)
      go false (inr k) = (ap (λ (z : V). z.ext.list) k.0, ap (λ (z : V). z.spin) k.0)

  pub mark-list : KnowsList u
  mark-list = knows-same v u list steps-list.1 steps-list.0

  pub mark-code : first_code u.ext.list.list ≡ first + 1
  mark-code = ap (λ (h : ListHand). first_code h.list) steps-list.0 ∙ code

  -- it has tried at a count that it can't have
  abbrev Tired : Type 0
  Tired = Tries v u × HasTried wait_state_of u

  tired-at : Stays v u → IsLocked count → Tired
  tired-at k locked = (stays-tries v u k, tried-same v u (ap (λ (z : V). z.ext.wake) k) (tried (locked-left count lawful locked)))

  pub mark-fails : WritesBy count (me == first) marked alone overdue Fail → Tries v u × HasTried wait_state_of u
  mark-fails w = go marked mark w
    where
      go : (b : Bool) → KnowsMark me first count b v u → WritesBy count (me == first) b alone overdue Fail → Tired
      go true k w = k
      go false (inl k) w = elim w [ inl anothers ↦ not-both false refl anothers.1 | inr locked ↦ tired-at k.0 locked.0 ]
      go false (inr k) w = elim w [ inl anothers ↦ not-both false refl anothers.1 | inr locked ↦ absurd (k.1 locked.0) ]

  pub mark-asks : (new : ℕ) → WritesBy count (me == first) marked alone overdue (Mark new) → (Tries v u × HasTried wait_state_of u) × (HasHandoff count → ⊥) × (new ≡ count + 4)
  mark-asks new w = (go marked mark w, w.2, sum w.2 w.3)
    where
      go : (b : Bool) → KnowsMark me first count b v u → WritesBy count (me == first) b alone overdue (Mark new) → Tired
      go true k w = k
      go false (inl k) w = tired-at k.0 w.0
      go false (inr k) w = absurd (k.1 w.0)

      sum : (HasHandoff count → ⊥) → HasFlags count new (count % 2) (count / 2 % 2) 1 → new ≡ count + 4
      sum not f = let a = f.rest in let b = f.writer_is in let c = f.waiters_is in let d = f.handoff_is in let n : count / 4 % 2 ≢ 1 = not in omega (arith, a, b, c, d, n)

  pub mark-takes : (new : ℕ) → WritesBy count (me == first) marked alone overdue (Take new) → IsTrying u.ext.sem × MayTake list_of sem_of u me alone count new
  mark-takes new w = (
    t,
    record {
      knows = mark-list.knows;
      waiting = code-waits u.ext.list.list first mark-code;
      only = subst (λ (h : ListHand). (alone ≡ true) ↔ (length h.list ≡ 1)) (sym steps-list.0) only;
      writes = elim t [ inl is ↦ ap (λ (s : SemHand). s.wait) is | inr is ↦ ap (λ (s : SemHand). s.wait) is ];
      clear = elim t [ inl is ↦ ap (λ (s : SemHand). s.bias) is | inr is ↦ ap (λ (s : SemHand). s.bias) is ];
      rest = elim t [ inl is ↦ ap (λ (s : SemHand). s.rest) is | inr is ↦ ap (λ (s : SemHand). s.rest) is ];
      may = may marked mark w;
      free = w.0;
      flags = w.2;
    },
  )
    where
      same : Tries v u → u.ext.sem ≡ waiting Writes
      same k = ap (λ (z : V). z.ext.sem) k.is ∙ queued

      trying : (b : Bool) → KnowsMark me first count b v u → IsTrying u.ext.sem
      trying true k = inl (same k.0)
      trying false (inl k) = inl (same (stays-tries v u k.0))
      trying false (inr k) = inr (ap (λ (z : V). z.ext.sem) k.0)

      t : IsTrying u.ext.sem
      t = trying marked mark

      Enough : Type 0
      Enough = (u.ext.sem.stage ≡ Summing) ⊎ ((u.ext.sem.stage ≡ Rest) × ((HasHandoff count → ⊥) ⊎ (first_code u.ext.list.list ≡ me + 1)))

      rests : Tries v u → u.ext.sem.stage ≡ Rest
      rests k = ap (λ (s : SemHand). s.stage) (same k)

      mine : me ≡ first → first_code u.ext.list.list ≡ me + 1
      mine is = mark-code ∙ ap (λ (n : ℕ). n + 1) (sym is)

      may : (b : Bool) → KnowsMark me first count b v u → WritesBy count (me == first) b alone overdue (Take new) → Enough
      may true k w = inr (rests k.0, dite (ℕ_discrete me first) (λ is. inr (mine is)) (λ other. inl (λ h. w.1 (h, refl, ne_eqb me first other))))
      may false (inl k) w = inr (rests (stays-tries v u k.0), elim k.1 [ inl is ↦ inr (mine is) | inr more ↦ elim more [ inl locked ↦ absurd (w.0 locked) | inr unasked ↦ inl unasked ] ])
      may false (inr k) w = inl (ap (λ (z : V). z.ext.sem.stage) k.0)

  -- the hand and what it knows of wakes, by what it knows of the mark
  pub mark-waits : KeepsWaiting v.ext.wake u.ext.wake
  mark-waits = go marked mark
    where
      go : (b : Bool) → KnowsMark me first count b v u → KeepsWaiting v.ext.wake u.ext.wake
      go true k = k.0.keeps
      go false (inl k) = keeps-of v.ext.wake u.ext.wake (ap (λ (z : V). z.ext.wake) k.0)
      go false (inr k) = keeps-of v.ext.wake u.ext.wake (ap (λ (z : V). z.ext.wake) k.0)

  -- but for the steps, the list and these two it is as before
  abbrev Beside : Type 0
  Beside = (h : Hand) (s : SemHand) (x : V) → record u { hand = h; steps = x.steps; ext = record { list = x.ext.list; sem = s; appends = u.ext.appends; wake = x.ext.wake } } ≡ record v { hand = h; steps = x.steps; ext = record { list = x.ext.list; sem = s; appends = v.ext.appends; wake = x.ext.wake } }

  same-beside : (u.hand ≡ v.hand) × Beside
  same-beside = go marked mark
    where
      go : (b : Bool) → KnowsMark me first count b v u → (u.hand ≡ v.hand) × Beside
      go true k = (ap (λ (z : V). z.hand) k.0.is, λ h s x i. record (k.0.is i) { hand = h; steps = x.steps; ext = record { list = x.ext.list; sem = s; appends = (k.0.is i).ext.appends; wake = x.ext.wake } })
      go false (inl k) = (ap (λ (z : V). z.hand) k.0, λ h s x i. record (k.0 i) { hand = h; steps = x.steps; ext = record { list = x.ext.list; sem = s; appends = (k.0 i).ext.appends; wake = x.ext.wake } })
      go false (inr k) = (ap (λ (z : V). z.hand) k.0, λ h s x i. record (k.0 i) { hand = h; steps = x.steps; ext = record { list = x.ext.list; sem = s; appends = (k.0 i).ext.appends; wake = x.ext.wake } })

  pub taken-since : {Call : Type 0} (o : Obj Call) (k : Plan) (x : V) → v.steps ≤ u.steps → HasTaken o k u x → HasTaken o k v x
  taken-since o k x later h = record {
    known = h.known;
    log = h.log;
    learns = subst (λ (z : Hand). Learns o k z h.known h.log) same-beside.0 h.learns;
    later = let l = h.later in omega (arith, l, later);
    list = h.list;
    is = h.is ∙ ((λ i. record u { hand = took (same-beside.0 i) Alone h.known h.log; steps = x.steps; ext = record { list = x.ext.list; sem = record (waiting Writes) { stage = Took }; appends = u.ext.appends; wake = x.ext.wake } }) ∙ same-beside.1 (took v.hand Alone h.known h.log) (record (waiting Writes) { stage = Took }) x);
    waits = keeps-on v.ext.wake u.ext.wake x.ext.wake mark-waits h.waits;
  }

  -- an exchange that took nothing
  pub rests-since : (x : V) → Rests u x → Tries v x
  rests-since x r = let same = ap (λ (z : V). z.ext.list) r.is in record {
    is = r.is ∙ ((λ i. record u { hand = same-beside.0 i; steps = x.steps; ext = record { list = sym same i; sem = waiting Writes; appends = u.ext.appends; wake = x.ext.wake } }) ∙ (same-beside.1 v.hand (waiting Writes) x ∙ (λ i. record v { steps = x.steps; ext = record { list = (same ∙ steps-list.0) i; sem = sym queued i; appends = v.ext.appends; wake = x.ext.wake } })));
    keeps = keeps-on v.ext.wake u.ext.wake x.ext.wake mark-waits r.keeps;
  }

-- who removed a waiter knows the list
pub removed-list : (v u : V) (t : ℕ) → SpinHolds v.spin → Removes list_of with_list v t u → KnowsList u
removed-list v u t locked r = let spin = ap (λ (z : V). z.spin) r.view in let same = ap (λ (z : V). z.ext.list) r.view in record {
  knows = subst Knows (λ i. (sym spin i, sym same i)) (holds-one v locked, r.since);
  still = ap (λ (h : ListHand). h.changes) same ∙ r.still;
  sound = subst IsList (sym (ap (λ (h : ListHand). h.list) same ∙ r.now)) (sound-changed (Leave t) r.was r.sound r.there);
}

-- a writer that took leaves the list
module _ (v u : V) (t : ℕ) (took_it : v.ext.sem ≡ record (waiting Writes) { stage = Took }) (locked : SpinHolds v.spin) (later : v.steps ≤ u.steps) (r : Removes list_of with_list v t u) where
  pub quit-sem : u.ext.sem ≡ record apart_hand { stage = Removed }
  quit-sem = ap (λ (z : V). z.ext.sem) r.view ∙ ap (λ (s : SemHand). parted s.stage s.wait t (length r.hand.list) s) took_it

  pub quit-list : KnowsList u
  quit-list = removed-list v u t locked r

  quit-wake : u.ext.wake ≡ leaves_wake v.ext.wake.owing v.ext.wake
  quit-wake = ap (λ (z : V). z.ext.wake) r.view ∙ ap (λ (s : SemHand). parted_wake s.stage s.wait t v.ext.wake) took_it

  pub quit-rests : (w : V) (s : SemHand) → s ≡ apart_hand → TurnsTo with_sem u s w → Becomes v 0 apart_hand (leaves_wake v.ext.wake.owing v.ext.wake) w
  quit-rests w s is turns = let same = ap (λ (z : V). z.ext.list) turns in let steps = ap (λ (z : V). z.steps) turns in record {
    later = omega (arith, later, steps);
    list = knows-same u w quit-list (ap (λ (z : V). z.spin) turns) same;
    is = turns ∙ (λ i. record (r.view i) { steps = sym steps i; ext = record { list = sym same i; sem = is i; appends = zero-more (r.view i).ext.appends i; wake = quit-wake i } });
  }
    where
      zero-more : (n : ℕ) → n ≡ n + 0
      zero-more n = omega arith

  pub quit-unmarked : (w : V) (mark : ℕ) → mark ≡ 0 → TurnsTo with_sem u (own_unmarked u.ext.sem mark) w → Becomes v 0 apart_hand (leaves_wake v.ext.wake.owing v.ext.wake) w
  quit-unmarked w mark none turns = quit-rests w (own_unmarked u.ext.sem mark) (ap (λ (b : Bool). if b then rested u.ext.sem else u.ext.sem) (eq-eqb mark 0 none) ∙ ap rested quit-sem) turns

  module _ (w : V) (mark : ℕ) (some_mark : mark ≢ 0) (turns : TurnsTo with_sem u (own_unmarked u.ext.sem mark) w) where
    pub quit-marked : w.ext.sem ≡ record apart_hand { stage = Removed }
    quit-marked = ap (λ (z : V). z.ext.sem) turns ∙ (ap (λ (b : Bool). if b then rested u.ext.sem else u.ext.sem) (ne_eqb mark 0 some_mark) ∙ quit-sem)

    pub quit-cleared : (x : V) → TurnsTo with_sem w (rested w.ext.sem) x → Becomes v 0 apart_hand (leaves_wake v.ext.wake.owing v.ext.wake) x
    quit-cleared x more = let a = ap (λ (z : V). z.steps) turns in let b = ap (λ (z : V). z.steps) more in let same = ap (λ (z : V). z.ext.list) more ∙ ap (λ (z : V). z.ext.list) turns in record {
      later = omega (arith, later, a, b);
      list = knows-same u x quit-list (ap (λ (z : V). z.spin) more ∙ ap (λ (z : V). z.spin) turns) same;
      is = more ∙ ((λ i. record (turns i) { steps = sym b i; ext = record { list = (ap (λ (z : V). z.ext.list) turns ∙ sym same) i; sem = rested (quit-marked i); appends = (turns i).ext.appends; wake = (turns i).ext.wake } }) ∙ (λ i. record (r.view i) { steps = x.steps; ext = record { list = x.ext.list; sem = apart_hand; appends = zero-more (r.view i).ext.appends i; wake = quit-wake i } }));
    }
      where
        zero-more : (n : ℕ) → n ≡ n + 0
        zero-more n = omega arith
