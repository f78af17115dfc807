-- What a wake comes to, from its look at the first waiter on.
use Rattle.std.proofs.Common.{◌≡◌, ◌≢◌, ◌∙◌, ℕ, ◌≤◌, ◌⊎◌, ◌++◌, ◌&&◌, inl, inr, eq-eqb, Bool, true, false, List, [], ◌∷◌, map, filter, take, Option, Some, None, refl, sym, ap, subst, arith, if◌then◌else◌}
use Rattle.std.proofs.lemmas.List.{append-nil}
use Rattle.lock_core.specs.SiteHandles.{view_of, Finds, KeepsPast}
use Rattle.lock_core.specs.Pasts.{IsStepBy}
use Rattle.lock_core.specs.Records.{bit}
use Rattle.wait_list.specs.Lists.{FindsFirst, IsList, Knows, first_code, first_of, list_part, sighted, waiter_code}
use Rattle.lock_core.specs.Spins.{holds_in}
use Rattle.rwsem_count.specs.Counts.{shared_weight}
use Rattle.rwsem_wake.specs.Duties.{paid}
use Rattle.rwsem_wake.specs.Batches.{reads, starts_with_reader, task_of}
use Rattle.rwsem_wake.specs.RwSemViews.{V, chooses_task, has_number, is_clear, list_at, list_of, looked, looks_at, may_look, saw_first, with_list}
use Rattle.rwsem_wake.specs.RwSemPlaces.{seen_of}
use Rattle.rwsem_wake.specs.Removals.{KnowsList, without_all}
use Rattle.rwsem_wake.specs.RwSemWakes.{Grants, HasChosenAll, IsAtRest, Looks, MayWake, SawWriter, Wakes, first_woken, readers_woken}
use Rattle.rwsem_wake.specs.Types.{Pass, Waiter, ListHand, Held, No, Shared, Alone, Clear, SemWake, RwSemHand, WakeType, Any, Readers, ReadOwned}
use Rattle.rwsem_wake.specs.declared.batches.TheConstants.{MAX_READERS_WAKEUP}

-- the first of a list

pub code-of : (q : List Waiter) → waiter_code (first_of q) ≡ first_code q
code-of [] = refl
code-of (w ∷ q) = refl

pub none-starts : (q : List Waiter) → None ≡ first_of q → starts_with_reader q ≡ false
none-starts [] e = refl
none-starts (x ∷ q) e = absurd cc

pub none-woken : (kind : WakeType) (q : List Waiter) → None ≡ first_of q → [] ≡ first_woken kind q
none-woken Any [] e = refl
none-woken Any (x ∷ q) e = absurd cc
none-woken Readers q e = refl
none-woken ReadOwned q e = refl

pub writer-starts : (q : List Waiter) (w : Waiter) → Some w ≡ first_of q → w.writer ≡ true → starts_with_reader q ≡ false
writer-starts [] w e writes = absurd cc
writer-starts (x ∷ q) w e writes = ap (λ (b : Bool). if b then false else true) (ap {A = Waiter} (λ z. z.writer) (let is : x ≡ w = cc in is) ∙ writes)

pub any-woken : (kind : WakeType) (q : List Waiter) (w : Waiter) → kind ≡ Any → Some w ≡ first_of q → w.task ∷ [] ≡ first_woken kind q
any-woken kind [] w any e = absurd cc
any-woken kind (x ∷ q) w any e = ap {A = Waiter} (λ z. z.task ∷ []) (let is : w ≡ x = cc in is) ∙ sym (ap (λ (k : WakeType). first_woken k (x ∷ q)) any)

pub others-woken : (kind : WakeType) (q : List Waiter) → (kind ≡ Readers) ⊎ (kind ≡ ReadOwned) → [] ≡ first_woken kind q
others-woken kind q (inl is) = sym (ap (λ (k : WakeType). first_woken k q) is)
others-woken kind q (inr is) = sym (ap (λ (k : WakeType). first_woken k q) is)

-- whom it has chosen by its look

pub chosen-none : (v u : V) → u.ext.wake ≡ paid v.ext.wake → HasChosenAll [] v u
chosen-none v u is = record {
  chose = is ∙ (λ j. record v.ext.wake { owing = sym (ap (λ (z : SemWake). z.owing) is) j; chosen = sym (append-nil v.ext.wake.chosen) j });
  clear = ap (λ (z : SemWake). z.owing) is;
}

pub chosen-same : (v u : V) → u.ext.wake ≡ v.ext.wake → v.ext.wake.owing ≡ false → HasChosenAll [] v u
chosen-same v u is clear = record {
  chose = is ∙ (λ j. record v.ext.wake { owing = sym (ap (λ (z : SemWake). z.owing) is) j; chosen = sym (append-nil v.ext.wake.chosen) j });
  clear = ap (λ (z : SemWake). z.owing) is ∙ clear;
}

pub chosen-one : (v u : V) (t : ℕ) → u.ext.wake ≡ chooses_task t v.ext.wake → HasChosenAll (t ∷ []) v u
chosen-one v u t is = record {
  chose = is ∙ (λ j. record v.ext.wake { owing = sym (ap (λ (z : SemWake). z.owing) is) j; chosen = v.ext.wake.chosen ++ t ∷ [] });
  clear = ap (λ (z : SemWake). z.owing) is;
}

pub looked-none : (held : Held) (q : List Waiter) (b : SemWake) → None ≡ first_of q → looked true held q b ≡ paid b
looked-none held [] b e = refl
looked-none held (x ∷ q) b e = absurd cc

looks-alone : (held : Held) (t : ℕ) (b : SemWake) → shared_weight held ≡ 0 → looks_at held true t b ≡ chooses_task t b
looks-alone No t b out = refl
looks-alone Alone t b out = refl
looks-alone Shared t b out = absurd (omega (arith, out))

looks-shared : (held : Held) (t : ℕ) (b : SemWake) → shared_weight held ≡ 1 → looks_at held true t b ≡ paid b
looks-shared No t b one = absurd (omega (arith, one))
looks-shared Alone t b one = absurd (omega (arith, one))
looks-shared Shared t b one = refl

pub looked-writer : (held : Held) (q : List Waiter) (b : SemWake) (w : Waiter) → Some w ≡ first_of q → w.writer ≡ true → shared_weight held ≡ 0 → looked true held q b ≡ chooses_task w.task b
looked-writer held [] b w e writes out = absurd cc
looked-writer held (x ∷ q) b w e writes out = let is : x ≡ w = cc in (λ j. looks_at held (is j).writer (is j).task b) ∙ ((λ j. looks_at held (writes j) w.task b) ∙ looks-alone held w.task b out)

pub looked-shared : (held : Held) (q : List Waiter) (b : SemWake) (w : Waiter) → Some w ≡ first_of q → w.writer ≡ true → shared_weight held ≡ 1 → looked true held q b ≡ paid b
looked-shared held [] b w e writes one = absurd cc
looked-shared held (x ∷ q) b w e writes one = let is : x ≡ w = cc in (λ j. looks_at held (is j).writer (is j).task b) ∙ ((λ j. looks_at held (writes j) w.task b) ∙ looks-shared held w.task b one)

-- a pass with the wait lock and a number that knows the list, and has no bias, looks
pub may-looks : (v : V) (own : ℕ) → Knows (list_part list_of v) → v.ext.sem.bias ≡ Clear → v.hand.task ≡ Some own → may_look v ≡ true
may-looks v own knows clear has = λ i. (eq-eqb (holds_in v.spin) 1 knows.0 i) && (eq-eqb v.ext.list.since v.spin.entries knows.1 i) && is_clear (clear i) && has_number (has i)

pub looks-by : (v u : V) (own n : ℕ) → KnowsList v → IsAtRest v → v.hand.task ≡ Some own → u ≡ sighted saw_first v n → Looks v u
looks-by v u own n list rests has is = let may = may-looks v own list.knows rests.clear has in let steps = ap (λ (z : V). z.steps) is in record {
  later = omega (arith, steps);
  is = is ∙ (λ i. record v { steps = sym steps i; ext = record v.ext { wake = looked (may i) v.hand.held v.ext.list.list v.ext.wake } });
}

pub any-other : Any ≢ ReadOwned
any-other e = cc

readers-other : Readers ≢ ReadOwned
readers-other e = cc

pub not-owned : (kind : WakeType) → (kind ≡ Any) ⊎ (kind ≡ Readers) → kind ≢ ReadOwned
not-owned kind (inl is) owned = any-other (sym is ∙ owned)
not-owned kind (inr is) owned = readers-other (sym is ∙ owned)

module _ {R O C : Type 0} (old mid : Pass R O RwSemHand C) (rests : IsAtRest (view_of old)) (first : Option Waiter) (f : FindsFirst list_of with_list (view_of old) first (view_of mid)) (later : (view_of old).steps ≤ (view_of mid).steps) (found : Finds list_at (waiter_code first) old mid) where
  list-is : (view_of mid).ext.list ≡ f.hand
  list-is = ap (λ (z : V). z.ext.list) f.view

  pub looked-rests : IsAtRest (view_of mid)
  looked-rests = record {
    stage = ap (λ (z : V). z.ext.sem.stage) f.view ∙ rests.stage;
    clear = ap (λ (z : V). z.ext.sem.bias) f.view ∙ rests.clear;
    none = ap (λ (z : V). z.ext.sem.rest) f.view ∙ rests.none;
    still = ap (λ (z : V). z.ext.list.changes) f.view ∙ (f.learnt.changes ∙ rests.still);
  }

  pub looked-list : KnowsList (view_of mid)
  looked-list = let spin = ap (λ (z : V). z.spin) f.view in record {
    knows = subst Knows (λ i. (sym spin i, sym list-is i)) f.learnt.knows;
    still = looked-rests.still;
    sound = subst IsList (sym (ap (λ (b : ListHand). b.list) list-is)) f.learnt.sound;
  }

  pub looked-first : first ≡ first_of (view_of mid).ext.list.list
  looked-first = f.is ∙ sym (ap (λ (b : ListHand). first_of b.list) list-is)

  before : Knows ((view_of old).spin, (view_of old).ext.list) → (view_of mid).ext.list.list ≡ (view_of old).ext.list.list
  before knows = ap (λ (b : ListHand). b.list) list-is ∙ ap (λ (b : ListHand). b.list) (f.learnt.same knows)

  -- its look found the code of the first
  finds-code : Finds list_at (first_code (view_of mid).ext.list.list) old mid
  finds-code = subst (λ (n : ℕ). Finds list_at n old mid) (ap waiter_code looked-first ∙ code-of (view_of mid).ext.list.list) found

  -- a later moment of the pass finds it too
  later-found : (new : Pass R O RwSemHand C) {n : ℕ} → (view_of mid).steps ≤ (view_of new).steps → KeepsPast mid new → Finds list_at n old mid → Finds list_at n old new
  later-found new more on g = let by_now = g.2 in (g.0, g.1, omega (arith, by_now, more), record { past = g.3.past; by = g.3.by; found = g.3.found; after = g.3.after; goes_on = λ p t. on p (g.3.goes_on p t) })

  pub same-wake : (view_of mid).ext.wake ≡ (view_of old).ext.wake
  same-wake = ap (λ (z : V). z.ext.wake) f.view

  pub same-held : (view_of mid).hand.held ≡ (view_of old).hand.held
  same-held = ap (λ (z : V). z.hand.held) f.view

  -- who reserves a bias to wake holds nothing shared
  pub still-out : (kind : WakeType) → (kind ≡ Any) ⊎ (kind ≡ Readers) → MayWake kind (view_of old) → shared_weight (view_of mid).hand.held ≡ 0
  still-out kind (inl any) may = ap shared_weight same-held ∙ subst (λ (k : WakeType). MayWake k (view_of old)) any may
  still-out kind (inr readers) may = ap shared_weight same-held ∙ (subst (λ (k : WakeType). MayWake k (view_of old)) readers may).0

  -- no reader is first, and it has looked whom to wake
  pub wakes-first : (new : Pass R O RwSemHand C) (kind : WakeType) (woken : List ℕ) (c : SemWake) → (view_of mid).steps ≤ (view_of new).steps → view_of new ≡ record (view_of mid) { steps = (view_of new).steps; ext = record (view_of mid).ext { wake = c } } → KeepsPast mid new → starts_with_reader (view_of mid).ext.list.list ≡ false
      → woken ≡ first_woken kind (view_of mid).ext.list.list → HasChosenAll woken (view_of old) (view_of new) → Wakes kind woken old new
  wakes-first new kind woken c more is on starts are chosen = let q : List Waiter = (view_of mid).ext.list.list in let u : V = view_of new in let x : V = record (view_of mid) { steps = u.steps; ext = record (view_of mid).ext { wake = c } } in record {
    beside = record { later = omega (arith, later, more); hand = ap (λ (z : V). z.hand) is ∙ ap (λ (z : V). z.hand) f.view; spin = ap (λ (z : V). z.spin) is ∙ ap (λ (z : V). z.spin) f.view; fronts = ap (λ (z : V). z.fronts) is ∙ ap (λ (z : V). z.fronts) f.view; appends = ap (λ (z : V). z.ext.appends) is ∙ ap (λ (z : V). z.ext.appends) f.view; wait = ap (λ (z : V). z.ext.sem.wait) is ∙ ap (λ (z : V). z.ext.sem.wait) f.view };
    rests = subst IsAtRest (sym is) (let r : IsAtRest x = record { stage = looked-rests.stage; clear = looked-rests.clear; none = looked-rests.none; still = looked-rests.still } in r);
    list = subst KnowsList (sym is) (let k : KnowsList x = record { knows = looked-list.knows; still = looked-list.still; sound = looked-list.sound } in k);
    was = q;
    first = later-found new more on finds-code;
    before = before;
    written = false;
    owned = λ _. refl;
    saw = λ _ reader. absurd (let e = ap bit (sym starts ∙ reader) in omega (arith, e));
    woken_are = are ∙ sym (ap (λ (b : Bool). if b then readers_woken false q else first_woken kind q) starts);
    left = ap (λ (z : V). z.ext.list.list) is ∙ sym (ap (λ (b : Bool). without_all (if b then take MAX_READERS_WAKEUP (map task_of (filter reads q)) else []) q) starts);
    chosen = chosen;
  }

  -- what it knows of wakes behind its look
  looked-wake : (new : Pass R O RwSemHand C) (c : SemWake) → Looks (view_of mid) (view_of new) → looked true (view_of mid).hand.held (view_of mid).ext.list.list (view_of mid).ext.wake ≡ c → (view_of new).ext.wake ≡ c
  looked-wake new c l is = ap (λ (z : V). z.ext.wake) l.is ∙ is

  -- nobody waits
  pub wakes-nobody : (new : Pass R O RwSemHand C) (kind : WakeType) (woken : List ℕ) → woken ≡ [] → first ≡ None → Looks (view_of mid) (view_of new) → KeepsPast mid new → Wakes kind woken old new
  wakes-nobody new kind woken empty none l on = let q : List Waiter = (view_of mid).ext.list.list in let e : None ≡ first_of q = sym none ∙ looked-first in wakes-first new kind woken (looked true (view_of mid).hand.held q (view_of mid).ext.wake) l.later l.is on (none-starts q e) (empty ∙ none-woken kind q e)
      (subst (λ (z : List ℕ). HasChosenAll z (view_of old) (view_of new)) (sym empty) (chosen-none (view_of old) (view_of new) (looked-wake new (paid (view_of mid).ext.wake) l (looked-none (view_of mid).hand.held q (view_of mid).ext.wake e) ∙ ap paid same-wake)))

  -- a writer is first, and is woken
  pub wakes-writer : (new : Pass R O RwSemHand C) (kind : WakeType) (woken : List ℕ) (w : Waiter) → first ≡ Some w → w.writer ≡ true → kind ≡ Any → MayWake kind (view_of old) → woken ≡ w.task ∷ [] → Looks (view_of mid) (view_of new) → KeepsPast mid new → Wakes kind woken old new
  wakes-writer new kind woken w some writes any may are l on = let q : List Waiter = (view_of mid).ext.list.list in let e : Some w ≡ first_of q = sym some ∙ looked-first in let out : shared_weight (view_of mid).hand.held ≡ 0 = ap shared_weight same-held ∙ subst (λ (k : WakeType). MayWake k (view_of old)) any may in
      wakes-first new kind woken (looked true (view_of mid).hand.held q (view_of mid).ext.wake) l.later l.is on (writer-starts q w e writes) (are ∙ any-woken kind q w any e)
      (subst (λ (z : List ℕ). HasChosenAll z (view_of old) (view_of new)) (sym are) (chosen-one (view_of old) (view_of new) w.task (looked-wake new (chooses_task w.task (view_of mid).ext.wake) l (looked-writer (view_of mid).hand.held q (view_of mid).ext.wake w e writes out) ∙ ap (chooses_task w.task) same-wake)))

  -- a writer is first, beside a waker that holds shared
  pub wakes-none-beside : (new : Pass R O RwSemHand C) (kind : WakeType) (woken : List ℕ) (w : Waiter) → first ≡ Some w → w.writer ≡ true → kind ≡ ReadOwned → MayWake kind (view_of old) → woken ≡ [] → Looks (view_of mid) (view_of new) → KeepsPast mid new → Wakes kind woken old new
  wakes-none-beside new kind woken w some writes owned may empty l on = let q : List Waiter = (view_of mid).ext.list.list in let e : Some w ≡ first_of q = sym some ∙ looked-first in let one : shared_weight (view_of mid).hand.held ≡ 1 = ap shared_weight same-held ∙ (subst (λ (k : WakeType). MayWake k (view_of old)) owned may).0 in
      wakes-first new kind woken (looked true (view_of mid).hand.held q (view_of mid).ext.wake) l.later l.is on (writer-starts q w e writes) (empty ∙ others-woken kind q (inr owned))
      (subst (λ (z : List ℕ). HasChosenAll z (view_of old) (view_of new)) (sym empty) (chosen-none (view_of old) (view_of new) (looked-wake new (paid (view_of mid).ext.wake) l (looked-shared (view_of mid).hand.held q (view_of mid).ext.wake w e writes one) ∙ ap paid same-wake)))

  -- a writer is first, and the waker wakes readers alone
  pub wakes-readers-none : (kind : WakeType) (woken : List ℕ) (w : Waiter) → first ≡ Some w → w.writer ≡ true → kind ≡ Readers → MayWake kind (view_of old) → woken ≡ [] → Wakes kind woken old mid
  wakes-readers-none kind woken w some writes readers may empty = let q : List Waiter = (view_of mid).ext.list.list in let e : Some w ≡ first_of q = sym some ∙ looked-first in
      wakes-first mid kind woken (view_of mid).ext.wake (omega arith) refl (λ p t. t) (writer-starts q w e writes) (empty ∙ others-woken kind q (inl readers))
      (subst (λ (z : List ℕ). HasChosenAll z (view_of old) (view_of mid)) (sym empty) (chosen-same (view_of old) (view_of mid) same-wake (subst (λ (k : WakeType). MayWake k (view_of old)) readers may).1))

  -- a reader is first
  pub wakes-readers : (new : Pass R O RwSemHand C) (kind : WakeType) (written : Bool) (woken : List ℕ) → Grants written (view_of mid) (view_of new) → starts_with_reader (view_of mid).ext.list.list ≡ true → woken ≡ readers_woken written (view_of mid).ext.list.list
      → (kind ≡ ReadOwned → written ≡ false) → (kind ≢ ReadOwned → SawWriter written (seen_of mid) (seen_of new)) → KeepsPast old mid → KeepsPast mid new → Wakes kind woken old new
  wakes-readers new kind written woken g starts are owned saw goes on = let q : List Waiter = (view_of mid).ext.list.list in record {
    beside = record {
      later = (let l = g.beside.later in omega (arith, l, later));
      hand = g.beside.hand ∙ ap (λ (z : V). z.hand) f.view;
      spin = g.beside.spin ∙ ap (λ (z : V). z.spin) f.view;
      fronts = g.beside.fronts ∙ ap (λ (z : V). z.fronts) f.view;
      appends = g.beside.appends ∙ ap (λ (z : V). z.ext.appends) f.view;
      wait = g.beside.wait ∙ ap (λ (z : V). z.ext.sem.wait) f.view;
    };
    rests = g.rests;
    list = g.list;
    was = q;
    first = later-found new (let l = g.beside.later in l) on finds-code;
    before = before;
    written = written;
    owned = owned;
    saw = λ other _. earlier (saw other);
    woken_are = are ∙ sym (ap (λ (b : Bool). if b then readers_woken written q else first_woken kind q) starts);
    left = g.left;
    chosen = record {
      chose = g.chosen.chose ∙ (λ j. record (same-wake j) { owing = (view_of new).ext.wake.owing; chosen = (same-wake j).chosen ++ sym are j });
      clear = g.chosen.clear;
    };
  }
    where
      earlier : SawWriter written (seen_of mid) (seen_of new) → SawWriter written (seen_of old) (seen_of new)
      earlier s = let at = s.1.3 in let since = s.1.1 in (
        s.0,
        (
          s.1.0,
          omega (arith, since, later),
          s.1.2,
          record {
            past = at.past;
            by = subst (λ (t : Option ℕ). IsStepBy t s.1.0 at.past) (ap (λ (z : V). z.hand.task) f.view) at.by;
            found = at.found;
            after = λ p t. at.after p (goes p t);
            goes_on = at.goes_on;
          },
        ),
        s.2,
      )
