-- The kept rule of a semaphore implies what it states.
use Rattle.std.proofs.Common.{◌≡◌, ℕ, zero, suc, ◌+◌, ◌*◌, ◌/◌, ◌%◌, ◌<◌, ◌≤◌, List, map, [], ◌∷◌, length, refl, ◌∙◌, subst, arith}
use Rattle.word_bits.specs.declared.TheConstants.{MAX_TASKS}
use Rattle.lock_core.specs.Totals.{total}
use Rattle.lock_core.specs.ViewParts.{Each}
use Rattle.rwsem_count.specs.Counts.{early_weight, late_weight, CountKept, shared_in, early_in, late_in, alone_in}
use Rattle.rwsem_wake.specs.SemParts.{SemPart, nobody, transit_weight, reserve_weight, granting_weight, shared_of, alone_of, transit_of, reserve_of, early_of, late_of, reads_of, rest_of, granting_of, busy_of, part_of}
use Rattle.rwsem_wake.specs.GrantSemaphores.{number_of, FlagsOf, SemPartOk, SemKept, more_of}
use Rattle.rwsem_wake.proofs.Sums.{total-least, now-idle, flags-rest}
use Rattle.rwsem_wake.proofs.Counting.{total-map}
use Rattle.rwsem_wake.specs.GrantsStated.{StatesCount, StatesWaiters}
use Rattle.rwsem_wake.specs.Types.{Waiter, Bias, Clear, Transit, Reserve, Stage, Rest, Armed, Joining, First, Marking, Took, Removed, Emptied, Overdue, Marked, Removing, Summing, Counted, Granting}

bias-is : (v : SemPart) → early_of v + late_of v ≡ transit_of v + reserve_of v
bias-is v = go v.sem.bias
  where
    go : (b : Bias) → early_weight b + late_weight b ≡ transit_weight b + reserve_weight b
    go Clear = omega arith
    go (Transit n) = omega arith
    go (Reserve n) = omega arith

biases-are : (vs : List SemPart) → total early_of vs + total late_of vs ≡ total transit_of vs + total reserve_of vs
biases-are [] = omega arith
biases-are (v ∷ vs) = let a = bias-is v in let b = biases-are vs in omega arith

granting-least : (vs : List SemPart) → total granting_of vs ≤ total rest_of vs
granting-least = total-least granting_of rest_of (λ v. go v.sem.stage (length v.sem.rest))
  where
    go : (s : Stage) (n : ℕ) → granting_weight s n ≤ n
    go Rest n = omega arith
    go Armed n = omega arith
    go (Joining b) n = omega arith
    go First n = omega arith
    go Marking n = omega arith
    go Took n = omega arith
    go Removed n = omega arith
    go Emptied n = omega arith
    go (Overdue b) n = omega arith
    go (Marked b) n = omega arith
    go Removing n = omega arith
    go Summing n = omega arith
    go (Counted b) n = omega arith
    go Granting n = omega arith

loads : (vs : List SemPart) → Each SemPartOk vs → total shared_of vs + total reads_of vs + (total early_of vs + total late_of vs) ≤ total number_of vs + total busy_of vs
loads [] e = omega arith
loads (v ∷ vs) e = let a = (e zero v refl).slim in let b = loads vs (λ j w at. e (suc j) w at) in omega arith

reserves : (vs : List SemPart) → Each SemPartOk vs → total reserve_of vs ≤ total busy_of vs
reserves [] e = omega arith
reserves (v ∷ vs) e = let a = (e zero v refl).reserved in let b = reserves vs (λ j w at. e (suc j) w at) in omega arith

-- the kept count, in sums over the views themselves
module _ (n more : ℕ) (vs : List SemPart) (r : CountKept n more (map part_of vs)) where
  pub writer-is : n % 2 ≡ total alone_of vs
  writer-is = r.writer ∙ total-map alone_in part_of vs

  pub field-is : n / 256 ≡ more + total shared_of vs + (total early_of vs + total late_of vs)
  field-is = let f = r.field in let s = total-map shared_in part_of vs in let e = total-map early_in part_of vs in let l = total-map late_in part_of vs in omega (arith, f, s, e, l)

  pub apart-is : 0 < n % 2 → more + total shared_of vs + total early_of vs ≡ 0
  apart-is p = let a = r.apart p in let s = total-map shared_in part_of vs in let e = total-map early_in part_of vs in omega (arith, a, s, e)

pub count-least : (n : ℕ) (q : List Waiter) (marks grants : List ℕ) (vs : List SemPart) → SemKept n q marks grants vs → total number_of vs ≤ MAX_TASKS → n ≤ 256 * (MAX_TASKS + 1) + 7
count-least n q marks grants vs r few = let f = field-is n (more_of grants vs) vs r.count in let l = r.count.low in let m = r.members in let b = r.busy in let g = granting-least vs in let o = loads vs r.each in omega arith

pub sem-states : (n : ℕ) (q : List Waiter) (marks grants : List ℕ) (vs : List SemPart) → SemKept n q marks grants vs → total number_of vs ≤ MAX_TASKS → StatesCount n q marks grants vs
sem-states n q marks grants vs r few = let b = biases-are vs in let f = field-is n (more_of grants vs) vs r.count in let w = writer-is n (more_of grants vs) vs r.count in record {
  writer = w;
  alone = λ l. let e = apart-is n (more_of grants vs) vs r.count (omega arith) in omega arith;
  field = omega arith;
  reserved = let b = r.busy in let c = reserves vs r.each in omega arith;
  least = count-least n q marks grants vs r few;
  low = r.count.low;
  free = λ z. flags-rest (n / 2 % 2) (n / 4 % 2) q marks grants nobody refl (subst (λ (v : SemPart). FlagsOf v (n / 2 % 2) (n / 4 % 2) q marks grants) (now-idle vs z) r.flags);
}

pub sem-waiters : (n : ℕ) (q : List Waiter) (marks grants : List ℕ) (vs : List SemPart) → SemKept n q marks grants vs → StatesWaiters q grants vs
sem-waiters n q marks grants vs r = record { as_reader = r.reads; as_writer = r.writes }
