-- How a reader queues, and comes to hold.
use Rattle.std.proofs.Common.{◌≡◌, ◌∙◌, rules, ℕ, zero, suc, ◌+◌, ◌%◌, ◌<◌, ◌≤◌, Bool, false, List, [], ◌∷◌, length, None, sym, refl, ap, subst, arith, eq-eqb, if◌then◌else◌}
use Rattle.word_bits.specs.declared.TheConstants.{MAX_TASKS}
use Rattle.word_bits.specs.Objects.{Obj}
use Rattle.word_bits.specs.Histories.{Plan}
use Rattle.lock_core.specs.Holding.{Learns}
use Rattle.lock_core.specs.Views.{SpinHolds, took}
use Rattle.wait_list.specs.Lists.{Appends, FindsFirst, IsList, Knows, first_of}
use Rattle.wait_list.proofs.Waiters.{sound-changed}
use Rattle.wake_duty.specs.WakeSteps.{HasTried}
use Rattle.rwsem_wake.specs.SemDuties.{drowsing}
use Rattle.rwsem_wake.specs.SemParts.{apart_hand}
use Rattle.rwsem_wake.specs.Grants.{ChangesTo, TurnsTo, armed, unreserved}
use Rattle.rwsem_wake.specs.Duties.{left_by}
use Rattle.rwsem_wake.specs.GrantQueues.{HoldsBy, MaySettle, settled}
use Rattle.rwsem_slow.specs.Queued.{Becomes, Drowses, IsInTransit, IsListed, Listens, Shares, Tries, WaitsOn, comes, waiting}
use Rattle.rwsem_wake.specs.RwSemPlaces.{dozes_of}
use Rattle.rwsem_wake.specs.Removals.{KnowsList}
use Rattle.rwsem_wake.specs.RwSemViews.{V, IsDone, joined, list_of, sem_of, with_list, with_sem, with_wake}
use Rattle.rwsem_slow.specs.RwSems.{wait_state_of}
use Rattle.rwsem_slow.specs.Types.{Hand, Shared, Enter, ListHand, Waiter, Clear, Transit, Tried, SemWake, SemHand, Armed, Reads}
use Rattle.wait_list.proofs.Joining.{holds-one}
use Rattle.rwsem_slow.proofs.WriterSteps.{knows-same}
use Rattle.rwsem_slow.proofs.WaitStates.{listed-on}

none-first : (q : List Waiter) → None ≡ first_of q → q ≡ []
none-first [] e = refl
none-first (x ∷ q) e = absurd cc

-- a reader whose bias is in the count appends itself, and takes the bias back
module _ (v u x y : V) (w : Waiter) (reads : w.writer ≡ false) (few : w.task < MAX_TASKS) (t : IsInTransit v) (arms : TurnsTo with_sem v (armed v.ext.sem) u) (a : Appends list_of with_list u w x) where
  pub joins-bias : (word : ℕ) × (x.ext.sem.bias ≡ Transit word)
  joins-bias = (t.transit.0, ap (λ (z : V). z.ext.sem.bias) a.view ∙ (ap (λ (z : V). z.ext.sem.bias) arms ∙ ap (λ (s : SemHand). s.bias) t.transit.1))

  module _ (locked : SpinHolds v.spin) (later : u.steps ≤ x.steps) (word : ℕ) (backs : ChangesTo with_sem with_wake x (unreserved x.ext.sem) (left_by word x.ext.wake) y) where
    armed-sem : u.ext.sem ≡ record apart_hand { bias = Transit t.transit.0; stage = Armed }
    armed-sem = ap (λ (z : V). z.ext.sem) arms ∙ ap armed t.transit.1

    sem-is : unreserved x.ext.sem ≡ waiting Reads
    sem-is = ap unreserved (ap (λ (z : V). z.ext.sem) a.view) ∙ (λ i. unreserved (joined (reads i) (length a.hand.list) (armed-sem i)))

    knows-it : KnowsList x
    knows-it = let spin = ap (λ (z : V). z.spin) a.view in let same = ap (λ (z : V). z.ext.list) a.view in record {
      knows = subst Knows (λ i. (sym spin i, sym same i)) (holds-one u (subst SpinHolds (sym (ap (λ (z : V). z.spin) arms)) locked), a.since);
      still = ap (λ (h : ListHand). h.changes) same ∙ a.still;
      sound = subst IsList (sym (ap (λ (h : ListHand). h.list) same ∙ a.now)) (sound-changed (Enter w) a.was a.sound (few, a.fresh));
    }

    wake-is : left_by word x.ext.wake ≡ left_by word (comes v.ext.wake)
    wake-is = ap (λ (z : V). left_by word z.ext.wake) a.view ∙ ap (λ (z : V). left_by word (comes z.ext.wake)) arms

    pub joins-reader : Becomes v 1 (waiting Reads) (left_by word (comes v.ext.wake)) y
    joins-reader = let first = ap (λ (z : V). z.steps) arms in let last = ap (λ (z : V). z.steps) backs in let same = ap (λ (z : V). z.ext.list) backs in record {
      later = omega (arith, first, later, last);
      list = knows-same x y knows-it (ap (λ (z : V). z.spin) backs) same;
      is = backs ∙ ((λ i. record (a.view i) { steps = sym last i; ext = record { list = sym same i; sem = sem-is i; appends = (a.view i).ext.appends; wake = wake-is i } })
          ∙ (λ i. record (arms i) { steps = y.steps; ext = record { list = y.ext.list; sem = waiting Reads; appends = (arms i).ext.appends + 1; wake = left_by word (comes v.ext.wake) } }));
    }

-- it found that nobody waits
module _ (v x : V) (t : IsInTransit v) (f : FindsFirst list_of with_list v None x) where
  pub settle-may : MaySettle list_of sem_of x
  settle-may = let spin = ap (λ (z : V). z.spin) f.view in let same = ap (λ (z : V). z.ext.list) f.view in record {
    knows = subst Knows (λ i. (sym spin i, sym same i)) f.learnt.knows;
    nobody = ap (λ (h : ListHand). h.list) same ∙ none-first f.hand.list f.is;
    stage = ap (λ (z : V). z.ext.sem.stage) f.view ∙ ap (λ (s : SemHand). s.stage) t.transit.1;
    waits = ap (λ (z : V). z.ext.sem.wait) f.view ∙ ap (λ (s : SemHand). s.wait) t.transit.1;
    transit = (t.transit.0, ap (λ (z : V). z.ext.sem.bias) f.view ∙ ap (λ (s : SemHand). s.bias) t.transit.1);
  }

  -- and no writer
  pub settle-shares : {Call : Type 0} (o : Obj Call) (k : Plan) (y : V) (word : ℕ) → v.steps ≤ x.steps → word % 2 ≡ 0 → HoldsBy with_sem with_wake o k Shared (settled x.ext.sem word) x.ext.wake x y → Shares o k v y
  settle-shares o k y word later even h = let hand = ap (λ (z : V). z.hand) f.view in let view = h.3 in let steps = ap (λ (z : V). z.steps) view in let entries = ap (λ (z : V). z.spin.entries) view ∙ ap (λ (z : V). z.spin.entries) f.view in record {
    known = h.0;
    log = h.1;
    learns = subst (λ (z : Hand). Learns o k z h.0 h.1) hand h.2;
    keeps = record {
      later = omega (arith, later, steps);
      entries = omega (arith, entries);
      fronts = ap (λ (z : V). z.fronts) view ∙ ap (λ (z : V). z.fronts) f.view;
      appends = ap (λ (z : V). z.ext.appends) view ∙ ap (λ (z : V). z.ext.appends) f.view;
    };
    hand = ap (λ (z : V). z.hand) view ∙ ap (λ (z : Hand). took z Shared h.0 h.1) hand;
    sem = ap (λ (z : V). z.ext.sem) view ∙ (ap (λ (b : Bool). if b then record x.ext.sem { bias = Clear } else x.ext.sem) (eq-eqb (word % 2) 0 even) ∙ ap (λ (s : SemHand). record s { bias = Clear }) (ap (λ (z : V). z.ext.sem) f.view ∙ t.transit.1));
    still = ap (λ (z : V). z.ext.list.changes) view ∙ (ap (λ (z : V). z.ext.list.changes) f.view ∙ (f.learnt.changes ∙ t.still));
    done = subst IsDone (sym (ap (λ (z : V). z.ext.wake) view ∙ ap (λ (z : V). z.ext.wake) f.view)) t.done;
    wakes = ap (λ (z : V). z.ext.wake.wakes) view ∙ ap (λ (z : V). z.ext.wake.wakes) f.view;
    dozes = ap (λ (z : V). z.ext.wake.dozes) view ∙ ap (λ (z : V). z.ext.wake.dozes) f.view;
  }

-- it waits on after a try and its sleep
waits-drowsed : (n : ℕ) (b : SemWake) → (e : ℕ) × (b.wait_state ≡ Tried e) → IsListed b → IsListed (drowsing n b)
waits-drowsed zero b tried listed = record { clear = listed.clear; none = listed.none; waits = listed.waits }
waits-drowsed (suc n) b tried listed = record { clear = listed.clear; none = listed.none; waits = refl }

pub dozes-since : (u h p : V) → Tries u h → Listens h p → dozes_of p ≡ dozes_of u
dozes-since u h p tries listens = ap (λ (z : V). z.ext.wake.dozes) listens ∙ ap (λ (b : SemWake). b.dozes) tries.keeps.is

pub waits-again : (v u h p d : V) → WaitsOn Reads v u → Tries u h → Listens h p → HasTried wait_state_of p → u.steps ≤ h.steps → h.steps ≤ p.steps → Drowses p d → WaitsOn Reads v d
waits-again v u h p d on tries listens tried a b drowses = let is = drowses.1 in let steps = ap (λ (z : V). z.steps) is in let keeps = on.keeps in let later = keeps.later in let entries = keeps.entries in let e = ap (λ (z : V). z.spin.entries) is ∙ (ap (λ (z : V). z.spin.entries) listens ∙ ap (λ (z : V). z.spin.entries) tries.is) in record {
  keeps = record {
    later = omega (arith, later, a, b, steps);
    entries = omega (arith, entries, e);
    fronts = ap (λ (z : V). z.fronts) is ∙ (ap (λ (z : V). z.fronts) listens ∙ (ap (λ (z : V). z.fronts) tries.is ∙ keeps.fronts));
    appends = ap (λ (z : V). z.ext.appends) is ∙ (ap (λ (z : V). z.ext.appends) listens ∙ (ap (λ (z : V). z.ext.appends) tries.is ∙ keeps.appends));
  };
  line = record {
    waits = ap (λ (z : V). z.ext.sem) is ∙ (ap (λ (z : V). z.ext.sem) listens ∙ (ap (λ (z : V). z.ext.sem) tries.is ∙ on.line.waits));
    still = ap (λ (z : V). z.ext.list.changes) is ∙ (ap (λ (z : V). z.ext.list.changes) listens ∙ (ap (λ (z : V). z.ext.list.changes) tries.is ∙ on.line.still));
    listed = subst IsListed (sym (ap (λ (z : V). z.ext.wake) is)) (waits-drowsed drowses.0 p.ext.wake tried (subst IsListed (sym (ap (λ (z : V). z.ext.wake) listens)) (listed-on u.ext.wake h.ext.wake tries.keeps on.line.listed)));
  };
  hand = let heard = on.hand in search rules;
}
