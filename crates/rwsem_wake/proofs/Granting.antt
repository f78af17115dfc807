-- A wake, from its look at the list to its last grant.
use Rattle.std.proofs.Common.{◌≡◌, ◌≢◌, ◌∙◌, ℕ, ◌+◌, ◌/◌, ◌%◌, ◌<◌, ◌≤◌, ◌==◌, ◌||◌, Bool, true, false, List, [], ◌∷◌, ◌++◌, length, Some, refl, sym, ap, subst, arith, inl, inr}
use Rattle.std.proofs.lemmas.List.{append-nil}
use Rattle.word_bits.specs.declared.TheConstants.{MAX_TASKS}
use Rattle.lock_core.specs.Pasts.{FoundAt, GoesOn, IsOwnStep}
use Rattle.lock_core.specs.Laws.SiteRun.{found-at-step}
use Rattle.lock_core.specs.Records.{bit}
use Rattle.lock_core.specs.Shown.{shown}
use Rattle.lock_core.specs.Views.{ticked}
use Rattle.wait_list.specs.Lists.{IsList, Knows, first_code, first_of}
use Rattle.rwsem_count.specs.Counts.{early_weight, late_weight, shared_weight}
use Rattle.rwsem_wake.specs.Batches.{starts_with_reader}
use Rattle.rwsem_wake.specs.Grants.{IsRemoved, KeepsOut, OnlySem, ChangesTo, reserved, unreserved}
use Rattle.rwsem_wake.specs.Duties.{paid}
use Rattle.rwsem_wake.specs.SemParts.{IsWhole, transit_weight}
use Rattle.rwsem_wake.specs.RwSemViews.{V, MayPick, count_at, sem_of, with_sem, with_wake}
use Rattle.rwsem_wake.specs.RwSemPlaces.{line_of}
use Rattle.rwsem_wake.specs.Removals.{KnowsList, RemovesAll, without_all}
use Rattle.rwsem_wake.specs.RwSemWakes.{Grants, IsAtRest, SawWriter, batch_in}
use Rattle.rwsem_wake.specs.Types.{Moment, Waiter, ListHand, Reserve, SemWake}
use Rattle.rwsem_wake.proofs.Removing.{batch-whole}

pub or-false : (a b : Bool) → b ≡ false → (a || b) ≡ a
or-false true b e = refl
or-false false b e = e

-- what a step of the call found of the count
pub saw-writer : (written : Bool) (n : ℕ) (v b u : V) (p r q : List Moment) → n % 2 ≡ bit written → b.hand.task ≡ v.hand.task → v.steps < b.steps → b.steps ≤ u.steps → IsOwnStep b r → FoundAt count_at n r → GoesOn p r → GoesOn r q
    → SawWriter written (shown line_of v.fronts v p) (shown line_of u.fronts u q)
saw-writer written n v b u p r q is same later by_now own found before goes = (n, (b.steps, later, by_now, found-at-step b v.hand.task count_at n p r q same own found before goes), is)

-- the batch of the list has been removed
module _ (v w : V) (list : KnowsList v) (starts : starts_with_reader v.ext.list.list ≡ true) (r : RemovesAll v (batch_in v.ext.list.list) w) where
  pub has-whole : IsWhole w.ext.sem.rest w.ext.list.list
  has-whole = subst (λ (z : List ℕ × List Waiter). IsWhole z.0 z.1) (λ i. (sym r.rest i, sym r.are i)) (batch-whole v.ext.list.list list.sound starts)

  pub is-removed : (readers : List ℕ) → readers ≡ batch_in v.ext.list.list → 0 < length readers → length readers ≤ MAX_TASKS → IsRemoved w.ext.sem readers
  is-removed readers is some few = let same = ap (λ (z : List ℕ). length z) is in record { stage = r.stage (omega (arith, same, some)); rest = r.rest ∙ sym is; some = some; few = few }

  pub keeps-out : KeepsOut sem_of v → KeepsOut sem_of w
  keeps-out k = let held = ap (λ h. shared_weight h.held) r.beside.hand in let early = ap early_weight r.bias in let late = ap late_weight r.bias in let one = k.0 in let none = k.1 in (omega (arith, held, early, one), omega (arith, late, none), ap transit_weight r.bias ∙ k.2)

-- a waker has reserved a bias
module _ (v b : V) (seen : ℕ) (rests : IsAtRest v) (list : KnowsList v) (turns : ChangesTo with_sem with_wake v (reserved v.ext.sem seen) (paid v.ext.wake) b) where
  pub knows-reserved : KnowsList b
  knows-reserved = let spin = ap (λ (z : V). z.spin) turns in let same = ap (λ (z : V). z.ext.list) turns in record {
    knows = subst Knows (λ i. (sym spin i, sym same i)) list.knows;
    still = ap (λ (h : ListHand). h.changes) same ∙ list.still;
    sound = subst IsList (sym (ap (λ (h : ListHand). h.list) same)) list.sound;
  }

  -- and takes it back, after it saw a writer
  pub backs-out : (u : V) → b.steps ≤ u.steps → OnlySem with_sem b (unreserved b.ext.sem) u → Grants true v u
  backs-out u more only = let steps = ap (λ (z : V). z.steps) turns in let list' = ap (λ (z : V). z.ext.list) only ∙ ap (λ (z : V). z.ext.list) turns in let spin = ap (λ (z : V). z.spin) only ∙ ap (λ (z : V). z.spin) turns in record {
    beside = record {
      later = omega (arith, steps, more);
      hand = ap (λ (z : V). z.hand) only ∙ ap (λ (z : V). z.hand) turns;
      spin = spin;
      fronts = ap (λ (z : V). z.fronts) only ∙ ap (λ (z : V). z.fronts) turns;
      appends = ap (λ (z : V). z.ext.appends) only ∙ ap (λ (z : V). z.ext.appends) turns;
      wait = ap (λ (z : V). z.ext.sem.wait) only ∙ ap (λ (z : V). z.ext.sem.wait) turns;
    };
    rests = record {
      stage = ap (λ (z : V). z.ext.sem.stage) only;
      clear = ap (λ (z : V). z.ext.sem.bias) only;
      none = ap (λ (z : V). z.ext.sem.rest) only ∙ (ap (λ (z : V). z.ext.sem.rest) turns ∙ rests.none);
      still = ap (λ (h : ListHand). h.changes) list' ∙ list.still;
    };
    list = record {
      knows = subst Knows (λ i. (sym spin i, sym list' i)) list.knows;
      still = ap (λ (h : ListHand). h.changes) list' ∙ list.still;
      sound = subst IsList (sym (ap (λ (h : ListHand). h.list) list')) list.sound;
    };
    left = ap (λ (h : ListHand). h.list) list';
    chosen = let wake = ap (λ (z : V). z.ext.wake) only ∙ ap (λ (z : V). z.ext.wake) turns in record {
      chose = wake ∙ (λ j. record v.ext.wake { owing = sym (ap (λ (z : SemWake). z.owing) wake) j; chosen = sym (append-nil v.ext.wake.chosen) j });
      clear = ap (λ (z : SemWake). z.owing) wake;
    };
  }

  -- and goes on, after it saw none
  module _ (a : V) (ticks : a ≡ ticked b) where
    list-still : a.ext.list ≡ v.ext.list
    list-still = ap (λ (z : V). z.ext.list) ticks ∙ ap (λ (z : V). z.ext.list) turns

    bias-is : a.ext.sem.bias ≡ Reserve seen
    bias-is = ap (λ (z : V). z.ext.sem.bias) ticks ∙ ap (λ (z : V). z.ext.sem.bias) turns

    pub knows-still : KnowsList a
    knows-still = let spin = ap (λ (z : V). z.spin) ticks ∙ ap (λ (z : V). z.spin) turns in record {
      knows = subst Knows (λ i. (sym spin i, sym list-still i)) list.knows;
      still = ap (λ (h : ListHand). h.changes) list-still ∙ list.still;
      sound = subst IsList (sym (ap (λ (h : ListHand). h.list) list-still)) list.sound;
    }

    pub first-still : (w : Waiter) → Some w ≡ first_of v.ext.list.list → Some w ≡ first_of a.ext.list.list
    first-still w e = e ∙ sym (ap (λ (h : ListHand). first_of h.list) list-still)

    pub picks-reserved : MayPick a.ext.sem
    picks-reserved = inr (inl (seen / 4 % 2 == 1, ap (λ (z : V). z.ext.sem.stage) ticks ∙ ap (λ (z : V). z.ext.sem.stage) turns))

    pub none-yet : a.ext.sem.rest ≡ []
    none-yet = ap (λ (z : V). z.ext.sem.rest) ticks ∙ (ap (λ (z : V). z.ext.sem.rest) turns ∙ rests.none)

    pub reserved-one : seen % 2 ≢ 1 → bit true ≡ early_weight a.ext.sem.bias
    reserved-one free = let e = ap early_weight bias-is in omega (arith, e, free)

    pub keeps-reserved : seen % 2 ≢ 1 → shared_weight v.hand.held ≡ 0 → KeepsOut sem_of a
    keeps-reserved free out = let held = ap (λ (z : V). shared_weight z.hand.held) ticks ∙ ap (λ (z : V). shared_weight z.hand.held) turns in let early = ap early_weight bias-is in let late = ap late_weight bias-is in (omega (arith, held, early, out, free), omega (arith, late, free), ap transit_weight bias-is)

    pub grants-on : (u : V) → Grants false a u → Grants false v u
    grants-on u g = let steps = ap (λ (z : V). z.steps) turns in let more = ap (λ (z : V). z.steps) ticks in record {
      beside = record {
        later = (let l = g.beside.later in omega (arith, steps, more, l));
        hand = g.beside.hand ∙ (ap (λ (z : V). z.hand) ticks ∙ ap (λ (z : V). z.hand) turns);
        spin = g.beside.spin ∙ (ap (λ (z : V). z.spin) ticks ∙ ap (λ (z : V). z.spin) turns);
        fronts = g.beside.fronts ∙ (ap (λ (z : V). z.fronts) ticks ∙ ap (λ (z : V). z.fronts) turns);
        appends = g.beside.appends ∙ (ap (λ (z : V). z.ext.appends) ticks ∙ ap (λ (z : V). z.ext.appends) turns);
        wait = g.beside.wait ∙ (ap (λ (z : V). z.ext.sem.wait) ticks ∙ ap (λ (z : V). z.ext.sem.wait) turns);
      };
      rests = g.rests;
      list = g.list;
      left = g.left ∙ ap (λ (h : ListHand). without_all (batch_in h.list) h.list) list-still;
      chosen = let wake = ap (λ (z : V). z.ext.wake) ticks ∙ ap (λ (z : V). z.ext.wake) turns in record {
        chose = g.chosen.chose ∙ (λ j. record (wake j) { owing = u.ext.wake.owing; chosen = (wake j).chosen ++ batch_in (list-still j).list });
        clear = g.chosen.clear;
      };
    }

-- the first of a list
pub first-code : (q : List Waiter) (w : Waiter) → Some w ≡ first_of q → first_code q ≡ w.task + 1
first-code [] w e = absurd cc
first-code (x ∷ q) w e = ap {A = Waiter} (λ z. z.task + 1) (let is : x ≡ w = cc in is)

pub first-waits : (q : List Waiter) (w : Waiter) → Some w ≡ first_of q → 1 ≤ length q
first-waits [] w e = absurd cc
first-waits (x ∷ q) w e = omega arith
