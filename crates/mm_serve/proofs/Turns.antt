-- How many of a task's calls are on an object, as they come.
use Rattle.std.proofs.Common.{◌≡◌, ℕ, ◌+◌, ◌<◌, ◌≤◌, ◌≢◌, ◌==◌, true, false, List, length, take, get_or, ap, arith, cond}
use Rattle.std.proofs.lemmas.Bool.Decides.{nat_tests}
use Rattle.std.proofs.lemmas.List.Sums.{count_by_more_yes, count_by_more_no, sum_by_more_le}
use Rattle.mm_serve.specs.Workers.{calls_to}

pub is-on : (k n : ℕ) → n ≡ k → (n == k) ≡ true
is-on k n same = grind (arith, nat_tests)

pub is-off : (k n : ℕ) → k ≢ n → (n == k) ≡ false
is-off k n other = grind (arith, nat_tests)

pub call-more : (k i : ℕ) (ns : List ℕ) → i < length ns → get_or ns i 0 ≡ k → calls_to k (take (i + 1) ns) ≡ calls_to k (take i ns) + 1
call-more k i ns lt same = count_by_more_yes (λ n. n == k) ns i 0 lt (is-on k (get_or ns i 0) same)

pub call-same : (k i : ℕ) (ns : List ℕ) → i < length ns → k ≢ get_or ns i 0 → calls_to k (take (i + 1) ns) ≡ calls_to k (take i ns)
call-same k i ns lt other = count_by_more_no (λ n. n == k) ns i 0 lt (is-off k (get_or ns i 0) other)

pub call-room : (k i : ℕ) (ns : List ℕ) → i < length ns → get_or ns i 0 ≡ k → calls_to k (take i ns) < calls_to k ns
call-room k i ns lt same =
    let le : calls_to k (take i ns) + cond (get_or ns i 0 == k) 1 0 ≤ calls_to k ns = sum_by_more_le (λ n. cond (n == k) 1 0) ns i 0 lt in
    let one : ◌≡◌ {A = ℕ} (cond (get_or ns i 0 == k) 1 0) 1 = ap (λ b. cond b 1 0) (is-on k (get_or ns i 0) same) in
    omega (arith, le, one)
