-- What a failed try shows to callers of any lock.
use Rattle.std.proofs.Common.{◌≡◌, ◌≢◌, ℕ, ◌+◌, ◌≤◌, Bool, true, false, List, inl, inr, refl, sym, ap, ◌∙◌, subst, arith}
use Rattle.std.specs.Prelude.{Result, Ok, Err, IfErr}
use Rattle.word_bits.specs.LockWords.{IsLawfulCount}
use Rattle.lock_core.specs.Holding.{missed}
use Rattle.lock_core.specs.Kinds.{semaphore, unavailable}
use Rattle.lock_core.specs.Locking.{Interrupts, KeepsPlace, Looks, Misses, OnlyTried, SawPending, Sees}
use Rattle.lock_core.specs.Pasts.{GoesOn, FoundAt, FoundAtStep, IsOwnStep}
use Rattle.lock_core.specs.Laws.SiteRun.{found-at-step}
use Rattle.lock_core.specs.Shown.{PastGoesOn, Shown, shown}
use Rattle.lock_core.specs.Signals.{OnlyConsumed}
use Rattle.lock_core.proofs.Showing.{missed-misses}
use Rattle.lock_core.proofs.Within.{sees-within, waits-interrupted}
use Rattle.rwsem_count.specs.CountTries.{MissesCount, MissesSince, at_step}
use Rattle.rwsem_count.specs.CountWordSteps.{IsReadFree}
use Rattle.rwsem_count.proofs.Counting.{free-or-shut}
use Rattle.rwsem_wake.specs.RwSemPlaces.{line_of}
use Rattle.rwsem_slow.specs.Queued.{EntersLock}
use Rattle.rwsem_wake.specs.RwSemViews.{V, count_at}
use Rattle.rwsem_slow.specs.Spinning.{SawIfTried, SeesShut}
use Rattle.rwsem_slow.specs.Types.{How, Interrupted, Tally, Hand, Moment, No}

module _ (fronts swaps : ℕ) (tally : Tally) (v u : V) (p q : List Moment) (out : v.hand.held ≡ No) (own : IsOwnStep u q) (goes : GoesOn p q) where
  abbrev show : V → List Moment → Shown
  show w past = record (shown line_of fronts w past) { swaps = swaps; tally = tally }

  -- a pass that held nothing failed at this word, after some looks
  pub misses-by : (reads : Bool) (word s : ℕ) → v.steps ≤ s → MissesCount (at_step v s) word u → FoundAt count_at word q → unavailable semaphore reads word → Misses semaphore reads count_at word (show v p) (show u q)
  misses-by reads word s later is found shut = let z : V = at_step v s in let m = missed-misses line_of fronts fronts refl semaphore reads count_at word z u p q is own found goes shut out in record {
    keeps = record { task = m.keeps.task; done = m.keeps.done; seen = m.keeps.seen; records = m.keeps.records; sent = m.keeps.sent; last = m.keeps.last; counts = record { steps = (let n = m.keeps.counts.steps in omega (arith, n, later)); misses = m.keeps.counts.misses; entries = m.keeps.counts.entries; fronts = m.keeps.counts.fronts; appends = m.keeps.counts.appends } };
    consumed = m.consumed;
    out = m.out;
    takes = m.takes;
    sees = record { saw = m.sees.saw; is = m.sees.is; word_is = m.sees.word_is; since = (let n = m.sees.since in omega (arith, n, later)); by_now = m.sees.by_now; found = m.sees.found; shut = m.sees.shut };
    once = m.once;
    freed = m.freed;
    entries = m.entries;
    fronts = m.fronts;
    line = m.line;
    swaps = refl;
    tally = refl;
  }

  pub reader-misses : (r : Result (Unit {0}) ℕ) → IfErr r (λ word. MissesSince v word u) → IfErr r (λ word. IsReadFree word → ⊥) → IfErr r (λ word. IsLawfulCount word) → IfErr r (λ word. FoundAt count_at word q) → IfErr r (λ word. Misses semaphore true count_at word (show v p) (show u q))
  reader-misses (Ok x) missed_it shut lawful found = tt
  reader-misses (Err word) missed_it shut lawful found = misses-by true word missed_it.0 missed_it.1 missed_it.2 found (free-or-shut word word lawful refl (omega arith) (λ f is. absurd (shut f)) (λ s not. (lawful, not)))

  pub writer-misses : (r : Result (Unit {0}) ℕ) → IfErr r (λ word. MissesCount v word u) → IfErr r (λ word. (word ≢ 0) × IsLawfulCount word) → IfErr r (λ word. FoundAt count_at word q) → IfErr r (λ word. Misses semaphore false count_at word (show v p) (show u q))
  writer-misses (Ok x) missed_it shut found = tt
  writer-misses (Err word) missed_it shut found = misses-by false word v.steps (omega arith) missed_it found (shut.1, shut.0)

-- a first step at which the pass failed at this word
module _ (fronts swaps : ℕ) (tally : Tally) (word : ℕ) (v a : V) (p q : List Moment) (hand : a.hand ≡ missed v.hand word (v.steps + 1)) (steps : a.steps ≡ v.steps + 1) where
  abbrev before_it : Shown
  before_it = record (shown line_of fronts v p) { swaps = swaps; tally = tally }

  abbrev after_it : Shown
  after_it = record (shown line_of fronts a q) { swaps = swaps; tally = tally }

  pub first-tried : a.spin.entries ≡ v.spin.entries → a.ext.appends ≡ v.ext.appends → OnlyTried before_it after_it
  first-tried entries stood = record {
    keeps = record {
      task = ap (λ (h : Hand). h.task) hand;
      done = ap (λ (h : Hand). h.done) hand;
      seen = ap (λ (h : Hand). h.seen) hand;
      records = ap (λ (h : Hand). h.records) hand;
      sent = ap (λ (h : Hand). h.sent) hand;
      last = ap (λ (h : Hand). h.last) hand;
      counts = record {
        steps = omega (arith, steps);
        misses = (let y = ap (λ (h : Hand). h.misses) hand in omega (arith, y));
        entries = omega (arith, entries);
        fronts = omega arith;
        appends = omega (arith, stood);
      };
    };
    consumed = ap (λ (h : Hand). h.consumed) hand;
    takes = ap (λ (h : Hand). h.takes) hand;
    freed = ap (λ (h : Hand). h.freed) hand;
  }

  pub first-sees : (reads : Bool) → IsOwnStep a q → FoundAt count_at word q → GoesOn p q → unavailable semaphore reads word → Sees semaphore reads count_at word before_it after_it
  first-sees reads own found before shut = record {
    saw = record { word = word; step = v.steps + 1 };
    is = ap (λ (h : Hand). h.saw) hand;
    word_is = refl;
    since = omega arith;
    by_now = omega (arith, steps);
    found = subst (λ (n : ℕ). FoundAtStep v.hand.task n count_at word p q) steps (found-at-step a v.hand.task count_at word p q q (ap (λ (h : Hand). h.task) hand) own found before (λ x e. e));
    shut = shut;
  }

-- tries that failed at this word, and then spins in vain
pub spun-sees : (v a m : Shown) (word : ℕ) → OnlyTried v a → PastGoesOn v a → Sees semaphore false count_at word v a → OnlyTried a m → PastGoesOn a m → SawIfTried a m → SeesShut v m
spun-sees v a m word first before s t after saw = elim saw [
  | inl same ↦ (word, sees-within v v a m refl (omega arith) (λ p e. e) s same t.keeps.counts.steps after)
  | inr x ↦ (x.0, sees-within v a m m first.keeps.task first.keeps.counts.steps before x.1 refl (omega arith) (λ p e. e))
]

-- a call whose tries failed, the last at this word, and which then waited in line until it consumed a signal
module _ (fronts swaps : ℕ) (tally tally' : Tally) (reads : Bool) (word : ℕ) (v : Shown) (m u : V) (q r : List Moment) where
  abbrev in_line : Shown
  in_line = record (shown line_of fronts m q) { swaps = swaps; tally = tally }

  abbrev at_last : Shown
  at_last = record (shown line_of fronts u r) { swaps = swaps; tally = tally' }

  pub waits-quit : OnlyTried v in_line → in_line.line ≡ v.line → PastGoesOn v in_line → m.hand.held ≡ No → Sees semaphore reads count_at word v in_line → m.steps ≤ u.steps → GoesOn q r → (x : Result How Interrupted) → IfErr x (λ _. EntersLock m u) → IfErr x (λ _. u.ext.appends ≡ m.ext.appends + 1) → IfErr x (λ _. OnlyConsumed m u) → IfErr x (λ why. SawPending why (shown line_of m.fronts m q) (shown line_of u.fronts u r))
      → IfErr x (λ why. Interrupts semaphore reads count_at why v at_last)
  waits-quit t line before out sees later after (Ok how) lock waited consumed heard = tt
  waits-quit t line before out sees later after (Err why) lock waited consumed heard = waits-interrupted v in_line at_last t line before out sees consumed
      record { steps = later; misses = (let x = lock.misses in omega (arith, x)); entries = (let x = lock.entries in omega (arith, x)); fronts = omega arith; appends = omega (arith, waited) } after waited
      record { sent = heard.sent; taken = heard.taken; pending = heard.pending }
