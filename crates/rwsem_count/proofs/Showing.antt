-- What a failed try of a count shows to callers of any lock.
use Rattle.std.proofs.Common.{◌≡◌, ◌≢◌, ℕ, ◌+◌, ◌%◌, ◌≤◌, Bool, true, false, List, refl, sym, subst, arith}
use Rattle.std.specs.Prelude.{Result, Ok, Err, IfErr}
use Rattle.word_bits.specs.LockWords.{IsLawfulCount}
use Rattle.lock_core.specs.Holding.{missed}
use Rattle.lock_core.specs.Kinds.{semaphore, unavailable}
use Rattle.lock_core.specs.Locking.{Misses}
use Rattle.lock_core.specs.Pasts.{GoesOn, FoundAt, IsOwnStep}
use Rattle.lock_core.specs.Shown.{Shown, no_line, shown}
use Rattle.lock_core.specs.Views.{handed}
use Rattle.lock_core.proofs.Showing.{missed-misses}
use Rattle.rwsem_count.specs.CountRuled.{V, count_at, new_bias}
use Rattle.rwsem_count.specs.CountTries.{FindsShut, IsTransit, MissesCount, MissesSince, at_step}
use Rattle.rwsem_count.specs.CountWordSteps.{IsReadFree}
use Rattle.rwsem_count.specs.Types.{Moment, No, Bias}
use Rattle.rwsem_count.proofs.Counting.{free-or-shut}

abbrev show : V → List Moment → Shown
show v p = shown (λ x. no_line) v.fronts v p

-- what a pass knows beyond its hand shows nothing of its last step
own-anyhow : (v : V) (e : Bias) (q : List Moment) → IsOwnStep (record v { ext = e }) q → IsOwnStep v q
own-anyhow v e q own = record { now = own.now; before = own.before; rest = own.rest; seat = own.seat; past_is = own.past_is; hand = own.hand; spin = own.spin; steps = own.steps; fronts = own.fronts; had = own.had; had_steps = own.had_steps; counts = own.counts }

-- a pass that held nothing failed at this word, after some looks
misses-by : (reads : Bool) (word s : ℕ) (e : Bias) (v u : V) (p q : List Moment) → v.hand.held ≡ No → v.steps ≤ s → u ≡ record v { hand = missed v.hand word (s + 1); steps = s + 1; ext = e } → IsOwnStep u q → GoesOn p q → FoundAt count_at word q → unavailable semaphore reads word
    → Misses semaphore reads count_at word (show v p) (show u q)
misses-by reads word s e v u p q out later is own goes found shut = let z : V = at_step v s in let w : V = handed z (missed z.hand word (z.steps + 1)) in
    let m = missed-misses (λ x. no_line) z.fronts w.fronts refl semaphore reads count_at word z w p q refl (own-anyhow w e q (subst (λ (x : V). IsOwnStep x q) is own)) found goes shut out in
    subst (λ (x : V). Misses semaphore reads count_at word (show v p) (show x q)) (sym is) record {
      keeps = record { task = m.keeps.task; done = m.keeps.done; seen = m.keeps.seen; records = m.keeps.records; sent = m.keeps.sent; last = m.keeps.last; counts = record { steps = omega arith; misses = m.keeps.counts.misses; entries = m.keeps.counts.entries; fronts = m.keeps.counts.fronts; appends = m.keeps.counts.appends } };
      consumed = m.consumed;
      out = m.out;
      takes = m.takes;
      sees = record { saw = m.sees.saw; is = m.sees.is; word_is = m.sees.word_is; since = omega arith; by_now = m.sees.by_now; found = m.sees.found; shut = m.sees.shut };
      once = m.once;
      freed = m.freed;
      entries = m.entries;
      fronts = m.fronts;
      line = m.line;
      swaps = m.swaps;
      tally = m.tally;
    }

-- a count that lets no reader in shows that a reader can't have the lock
shut-reader : (word m : ℕ) → IsLawfulCount word → m % 256 ≡ word % 256 → m ≤ word + 256 → (IsReadFree m → ⊥) → unavailable semaphore true word
shut-reader word m lawful flags few shut = free-or-shut word m lawful flags few (λ f is. absurd (shut f)) (λ s not. (lawful, not))

module _ (v u : V) (p q : List Moment) (out : v.hand.held ≡ No) (own : IsOwnStep u q) (goes : GoesOn p q) where
  pub reader-misses : (r : Result (Unit {0}) ℕ) → IfErr r (λ word. MissesSince v word u) → IfErr r (λ word. IsReadFree word → ⊥) → IfErr r (λ word. IsLawfulCount word) → IfErr r (λ word. FoundAt count_at word q) → IfErr r (λ word. Misses semaphore true count_at word (show v p) (show u q))
  reader-misses (Ok x) missed_it shut lawful found = tt
  reader-misses (Err word) missed_it shut lawful found = misses-by true word missed_it.0 v.ext v u p q out missed_it.1 missed_it.2 own goes found (shut-reader word word lawful refl (omega arith) shut)

  pub writer-misses : (r : Result (Unit {0}) ℕ) → IfErr r (λ word. MissesCount v word u) → IfErr r (λ word. (word ≢ 0) × IsLawfulCount word) → IfErr r (λ word. FoundAt count_at word q) → IfErr r (λ word. Misses semaphore false count_at word (show v p) (show u q))
  writer-misses (Ok x) missed_it shut found = tt
  writer-misses (Err word) missed_it shut found = misses-by false word v.steps v.ext v u p q out (omega arith) missed_it own goes found (shut.1, shut.0)

  pub transit-misses : (r : Result (Unit {0}) ℕ) → IfErr r (λ count. IsTransit new_bias v count u) → IfErr r (λ count. FindsShut count_at count q) → IfErr r (λ count. (word : ℕ) × (count ≡ word + 256) × Misses semaphore true count_at word (show v p) (show u q))
  transit-misses (Ok x) transit shut = tt
  transit-misses (Err count) transit shut = let word : ℕ = transit.0 in let sum = transit.1 in let sum' = shut.2 in let same : shut.0 ≡ word = omega (arith, sum, sum') in
      (word, sum, misses-by true word v.steps _ v u p q out (omega arith) transit.3 own goes (subst (λ (n : ℕ). FoundAt count_at n q) same shut.1) (shut-reader word (word + 256) transit.2 (omega arith) (omega arith) (subst (λ (n : ℕ). IsReadFree n → ⊥) sum shut.3)))
