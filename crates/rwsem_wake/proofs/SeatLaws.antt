-- The steps of seats keep the facts of a semaphore.
use Rattle.std.proofs.Common.{◌≡◌, ℕ, ◌+◌, ◌%◌, ◌/◌, List, [], ◌∷◌, ◌++◌, map, set, Option, Some, None, sym, refl, ap, ◌∙◌, subst, arith}
use mathlib.Core.Option.{some, some-ne-none}
use lib.ListN.{get_elem?}
use Rattle.lock_core.specs.Totals.{total-same, total-snoc}
use Rattle.lock_core.specs.Views.{held_weight}
use Rattle.lock_core.specs.ViewParts.{each-snoc}
use Rattle.rwsem_count.specs.Counts.{shared_weight, early_weight, late_weight, CountKept, CountPart, shared_in, early_in}
use Rattle.rwsem_wake.specs.SemParts.{SemPart, nobody, apart_hand, busy_of, busy_weight, reads_weight, writes_weight, named_weight, granted_weight, shared_of, holds_of, alone_of, early_of, late_of, reads_of, reads_at, writes_at, rest_of, rest_at, granting_of, granted_of, granted_at, marks_sum, part_of}
use Rattle.rwsem_wake.specs.GrantSemaphores.{pick, now, FlagsOf, FlagsAt, SemPartOk, SemKept, more_of}
use Rattle.rwsem_wake.specs.Types.{No, Waiter, Stage, Rest, SemHand}
use Rattle.rwsem_wake.proofs.Sums.{of-others}
use Rattle.rwsem_wake.proofs.Counting.{count-step, part-least}
use Rattle.rwsem_count.specs.Laws.Count.{count-strangers, count-opens}
use Rattle.rwsem_wake.proofs.WakeLaws.{sem-moves}

-- a view that waits for nothing may change its number
module _ (vs : List SemPart) (id : ℕ) (v : SemPart) (at : get_elem? vs id ≡ some v) (n : ℕ) (q : List Waiter) (marks grants : List ℕ) (r : SemKept n q marks grants vs) (task : Option ℕ) (idle : v.sem ≡ apart_hand) (out : v.held ≡ No) where
  abbrev U : SemPart
  U = record v { task = task }

  apart-granted : (task : Option ℕ) (s : SemHand) → s ≡ apart_hand → granted_weight grants task s.wait ≡ 0
  apart-granted None s e = refl
  apart-granted (Some t) s e = ap (λ (z : SemHand). granted_weight grants (Some t) z.wait) e

  pub sem-renumbers : SemKept n q marks grants (set vs id U)
  sem-renumbers = let u : SemPart = U in let o = r.busy in let gu = apart-granted task v.sem idle in let gv = apart-granted v.task v.sem idle in let z : reads_of v ≡ 0 = ap (λ (s : SemHand). reads_weight s.wait) idle in
      let more : more_of grants (set vs id u) ≡ more_of grants vs = (let a = total-same (granted_of grants) vs id v u at (gu ∙ sym gv) in let b = total-same granting_of vs id v u at refl in omega arith) in
      let b0 : busy_of v ≡ 0 = ap (λ (s : SemHand). busy_weight s.stage) idle in
      sem-moves vs id v at u n n q q marks marks grants r (of-others (n / 2 % 2) (n / 4 % 2) q marks grants vs id v u at r.busy refl flags r.flags) (omega arith)
      (subst (λ (x : ℕ). CountKept n x (map part_of (set vs id u))) (sym more) (count-step vs id v u at n n (more_of grants vs) (more_of grants vs) (alone_of v) (shared_of v) (early_of v) (late_of v) (alone_of v) (shared_of v) (early_of v) (late_of v) r.count
      record { alone_is = refl; shared_is = refl; early_is = refl; late_is = refl } record { alone_is = refl; shared_is = refl; early_is = refl; late_is = refl } r.count.low refl refl (λ p. let e = r.count.apart p in let S = part-least shared_in vs id v at in let F = part-least early_in vs id v at in omega arith)))
      (λ t. let a : granted_at grants t u ≡ 0 = ap (named_weight t task) gu in let b : granted_at grants t v ≡ 0 = ap (named_weight t v.task) gv in let c : reads_at t u ≡ 0 = ap (named_weight t task) z in let d : reads_at t v ≡ 0 = ap (named_weight t v.task) z in omega arith)
      (λ t. let y : writes_weight v.sem.wait ≡ 0 = ap (λ (s : SemHand). writes_weight s.wait) idle in let c : writes_at t u ≡ 0 = ap (named_weight t task) y in let d : writes_at t v ≡ 0 = ap (named_weight t v.task) y in omega arith)
      (omega arith)
      record {
        rest = λ _. ap (λ (s : SemHand). s.rest) idle;
        numbered = λ _. (ap (λ (s : SemHand). s.wait) idle, ap (λ (s : SemHand). s.bias) idle, ap (λ (s : SemHand). s.stage) idle);
        slim = let a : shared_of v ≡ 0 = ap shared_weight out in let b : early_of v + late_of v ≡ 0 = ap (λ (s : SemHand). early_weight s.bias + late_weight s.bias) idle in omega arith;
        single = let a : holds_of v ≡ 0 = ap held_weight out in omega arith;
        reserved = (r.each id v at).reserved;
        apart = (r.each id v at).apart;
      }
    where
      flags : FlagsOf v (n / 2 % 2) (n / 4 % 2) q marks grants → FlagsOf U (n / 2 % 2) (n / 4 % 2) q marks grants
      flags f = let is : v.sem.stage ≡ Rest = ap (λ (s : SemHand). s.stage) idle in subst (λ (s : Stage). FlagsAt s task v.sem.rest (n / 2 % 2) (n / 4 % 2) q marks grants) (sym is) (subst (λ (s : Stage). FlagsAt s v.task v.sem.rest (n / 2 % 2) (n / 4 % 2) q marks grants) is f)

pub nobody-ok : SemPartOk nobody
nobody-ok = record { rest = λ _. refl; numbered = λ _. (refl, refl, refl); slim = omega arith; single = omega arith; reserved = omega arith; apart = omega arith }

now-snoc : (vs : List SemPart) → now (vs ++ nobody ∷ []) ≡ now vs
now-snoc [] = refl
now-snoc (v ∷ vs) = ap (pick (busy_of v) v) (now-snoc vs)

map-snoc : (vs : List SemPart) → map part_of (vs ++ nobody ∷ []) ≡ map part_of vs ++ part_of nobody ∷ []
map-snoc [] = refl
map-snoc (v ∷ vs) = ap (λ (z : List CountPart). part_of v ∷ z) (map-snoc vs)

pub sem-strangers : (vs : List SemPart) (n : ℕ) (q : List Waiter) (marks grants : List ℕ) → SemKept n q marks grants vs → SemKept n q marks grants (vs ++ nobody ∷ [])
sem-strangers vs n q marks grants r = let e = total-snoc (granted_of grants) vs nobody in let f = total-snoc granting_of vs nobody in let g = total-snoc busy_of vs nobody in
    let more : more_of grants (vs ++ nobody ∷ []) ≡ more_of grants vs = omega arith in record {
      count = subst (λ (z : ℕ × List CountPart). CountKept n z.0 z.1) (λ i. (sym more i, sym (map-snoc vs) i)) (count-strangers n (more_of grants vs) (map part_of vs) r.count);
      busy = let o = r.busy in omega arith;
      flags = subst (λ (z : SemPart). FlagsOf z (n / 2 % 2) (n / 4 % 2) q marks grants) (sym (now-snoc vs)) r.flags;
      reads = λ t. let x = r.reads t in let y = total-snoc (rest_at t) vs nobody in let z = total-snoc (granted_at grants t) vs nobody in let u = total-snoc (reads_at t) vs nobody in omega arith;
      writes = λ t. let x = r.writes t in let y = total-snoc (writes_at t) vs nobody in omega arith;
      members = let x = r.members in let y = total-snoc rest_of vs nobody in let u = total-snoc reads_of vs nobody in omega arith;
      each = each-snoc SemPartOk vs nobody nobody-ok r.each;
    }

pub sem-opens : (marks grants : List ℕ) → marks_sum marks ≡ 0 → SemKept 0 [] marks grants (nobody ∷ [])
sem-opens marks grants none = record {
  count = count-opens;
  busy = omega arith;
  flags = record { waiters = omega arith; handoff = omega arith; first = omega arith; marked = omega arith };
  reads = λ t. omega arith;
  writes = λ t. omega arith;
  members = omega arith;
  each = each-snoc SemPartOk [] nobody nobody-ok (λ j w e. absurd (some-ne-none w (sym e)));
}
