-- The walk of a list along its words, and what stores make of it.
use Rattle.std.proofs.Common.{◌≡◌, ◌≢◌, ◌∙◌, ℕ, ◌+◌, ◌*◌, ◌/◌, ◌%◌, ◌==◌, ◌<◌, ◌≤◌, ◌⊎◌, inl, inr, Bool, true, false, List, [], ◌∷◌, ◌++◌, Option, Some, None, get_or, sym, refl, ap, subst, arith, eq-eqb, ne_eqb, if◌then◌else◌}
use mathlib.Core.Logic.{dite}
use native.Mathlib.Decide.{ℕ_discrete}
use Rattle.word_bits.specs.declared.TheConstants.{MAX_TASKS}
use Rattle.lock_core.specs.Records.{bit}
use Rattle.wait_list.specs.Lists.{AreAmong, AreTasks, IsBehind, IsList, IsPrepared, Lists, Walks, counted, first_code, first_of, last_code, next_of, prev_with, without}
use Rattle.wait_list.specs.Types.{Waiter}
use Rattle.wait_list.proofs.Waiters.{counted-behind, counted-else, counted-here, counted-own, without-else, without-here}

pub bit-few : (b : Bool) → bit b < 2
bit-few true = omega arith
bit-few false = omega arith

pub bit-same : (a b : Bool) → bit a ≡ bit b → a ≡ b
bit-same true true e = refl
bit-same false false e = refl
bit-same true false e = absurd (omega (arith, e))
bit-same false true e = absurd (omega (arith, e))

pub task-small : (l : List Waiter) (t : ℕ) → AreTasks l → 0 < counted t l → t < MAX_TASKS
task-small [] t all there = absurd (omega (arith, there))
task-small (x ∷ l) t all there = dite (ℕ_discrete x.task t)
    (λ is. let a = all.0 in omega (arith, a, is))
    (λ not. let c = counted-else x l t not in task-small l t all.1 (omega (arith, c, there)))

-- whoever stands behind the first isn't the first
not-again : (x : Waiter) (l : List Waiter) (t : ℕ) → counted x.task (x ∷ l) ≤ 1 → 0 < counted t l → t ≢ x.task
not-again x l t once there e = let c = counted-here x l x.task refl in let d = ap (λ (z : ℕ). counted z l) e in omega (arith, c, d, once, there)

once-behind : (x : Waiter) (l : List Waiter) → ((t : ℕ) → counted t (x ∷ l) ≤ 1) → (t : ℕ) → counted t l ≤ 1
once-behind x l once t = let o = once t in omega (arith, o)

-- the code of the first doesn't stand behind it
away-behind : (x : Waiter) (l : List Waiter) → ((t : ℕ) → counted t (x ∷ l) ≤ 1) → (t : ℕ) → x.task + 1 ≡ t + 1 → counted t l ≡ 0
away-behind x l once t e = let c = counted-here x l t (omega (arith, e)) in let o = once t in omega (arith, c, o)

-- a walk comes by the words of its list alone
pub walks-same : (ws us : List ℕ) (c : ℕ) (l : List Waiter) → get_or us (8 * c) 0 ≡ get_or ws (8 * c) 0 → ((t : ℕ) → 0 < counted t l → (get_or us (8 * (t + 1)) 0 ≡ get_or ws (8 * (t + 1)) 0) × (get_or us (8 * (t + 1) + 1) 0 ≡ get_or ws (8 * (t + 1) + 1) 0)) → Walks ws c l
    → Walks us c l
walks-same ws us c [] link others walk = link ∙ walk
walks-same ws us c (x ∷ l) link others walk = let mine = others x.task (counted-own x l) in (link ∙ walk.0, mine.1 ∙ walk.1, walks-same ws us (x.task + 1) l mine.0 (λ t there. others t (counted-behind x l t there)) walk.2)

-- the words determine the walk
pub walks-one : (ws : List ℕ) (c : ℕ) (l m : List Waiter) → Walks ws c l → Walks ws c m → l ≡ m
walks-one ws c [] [] a b = refl
walks-one ws c [] (y ∷ m) a b = let p = b.0 in absurd (omega (arith, a, p))
walks-one ws c (x ∷ l) [] a b = let p = a.0 in absurd (omega (arith, p, b))
walks-one ws c (x ∷ l) (y ∷ m) a b = let rest : l ≡ m = walks-one ws (x.task + 1) l m a.2 (subst (λ (z : ℕ). Walks ws (z + 1) m) (sym task) b.2) in λ i. record { task = task i; writer = writer i } ∷ rest i
  where
    task : x.task ≡ y.task
    task = let p = a.0 in let q = b.0 in omega (arith, p, q)

    writer : x.writer ≡ y.writer
    writer = let p = a.1 in let q = b.1 in let e = ap (λ (z : ℕ). get_or ws (8 * (z + 1) + 1) 0) task in bit-same x.writer y.writer (omega (arith, p, q, e))

-- the head is the code of the first
pub head-is : (ws : List ℕ) (l : List Waiter) → Lists ws l → get_or ws 0 0 ≡ first_code l
head-is ws [] r = r.walk
head-is ws (x ∷ l) r = r.walk.0

-- the last is one of the list
pub last-is : (c : ℕ) (x : Waiter) (l : List Waiter) → (t : ℕ) × (last_code c (x ∷ l) ≡ t + 1) × (0 < counted t (x ∷ l))
last-is c x [] = (x.task, refl, counted-own x [])
last-is c x (y ∷ l) = let r = last-is (x.task + 1) y l in (r.0, r.1, counted-behind x (y ∷ l) r.0 r.2)

pub last-small : (l : List Waiter) → AreTasks l → last_code 0 l ≤ MAX_TASKS
last-small [] all = omega arith
last-small (x ∷ l) all = let r = last-is 0 x l in let t = task-small (x ∷ l) r.0 all r.2 in let e = r.1 in omega (arith, e, t)

pub last-among : (n : ℕ) (l : List Waiter) → AreAmong n l → last_code 0 l ≤ n
last-among n [] all = omega arith
last-among n (x ∷ l) all = let r = last-is 0 x l in let t = all r.0 r.2 in let e = r.1 in omega (arith, e, t)

pub first-among : (n : ℕ) (l : List Waiter) → AreAmong n l → first_code l ≤ n
first-among n [] all = omega arith
first-among n (x ∷ l) all = let t = all x.task (counted-own x l) in omega (arith, t)

last-append : (c : ℕ) (l : List Waiter) (w : Waiter) → last_code c (l ++ w ∷ []) ≡ w.task + 1
last-append c [] w = refl
last-append c (x ∷ l) w = last-append (x.task + 1) l w

-- the last one's `next` leads to the one that is appended
walks-append : (ws us : List ℕ) (w : Waiter) (c : ℕ) (l : List Waiter) → counted w.task l ≡ 0 → c ≢ w.task + 1 → ((t : ℕ) → counted t l ≤ 1) → ((t : ℕ) → c ≡ t + 1 → counted t l ≡ 0) → Walks ws c l
    → ((j : ℕ) → j ≢ 1 → j ≢ 8 * last_code c l → get_or us j 0 ≡ get_or ws j 0) → get_or us (8 * last_code c l) 0 ≡ w.task + 1 → get_or ws (8 * (w.task + 1)) 0 ≡ 0 → get_or ws (8 * (w.task + 1) + 1) 0 ≡ 2 * last_code c l + bit w.writer
    → Walks us c (l ++ w ∷ [])
walks-append ws us w c [] fresh other once away walk same link own back = (link, same (8 * (w.task + 1) + 1) (λ e. omega (arith, e)) (λ e. omega (arith, e)) ∙ back, same (8 * (w.task + 1)) (λ e. omega (arith, e)) (λ e. other (omega (arith, e))) ∙ own)
walks-append ws us w c (x ∷ l) fresh other once away walk same link own back = (
  same (8 * c) (λ e. omega (arith, e)) not-last ∙ walk.0,
  same (8 * (x.task + 1) + 1) (λ e. omega (arith, e)) (λ e. omega (arith, e)) ∙ walk.1,
  walks-append ws us w (x.task + 1) l (omega (arith, fresh)) apart (once-behind x l once) (away-behind x l once) walk.2 same link own back,
)
  where
    not-last : 8 * c ≢ 8 * last_code c (x ∷ l)
    not-last e = let r = last-is c x l in let is = r.1 in let a = away r.0 (omega (arith, e, is)) in let there = r.2 in omega (arith, a, there)

    apart : x.task + 1 ≢ w.task + 1
    apart e = let c = counted-here x l w.task (omega (arith, e)) in omega (arith, c, fresh)

module _ (ws : List ℕ) (t : ℕ) where
  -- before a task stands the code from which the walk begins, or one of the list
  before-is : (c : ℕ) (l : List Waiter) → 0 < counted t l → Walks ws c l → (get_or ws (8 * (t + 1) + 1) 0 / 2 ≡ c) ⊎ ((u : ℕ) × (get_or ws (8 * (t + 1) + 1) 0 / 2 ≡ u + 1) × (0 < counted u l))
  before-is c [] there walk = absurd (omega (arith, there))
  before-is c (x ∷ l) there walk = dite (ℕ_discrete x.task t)
      (λ is. let e = ap (λ (z : ℕ). get_or ws (8 * (z + 1) + 1) 0) is in let p = walk.1 in let b = bit-few x.writer in inl (omega (arith, e, p, b)))
      (λ not. let n = counted-else x l t not in elim (before-is (x.task + 1) l (omega (arith, n, there)) walk.2) [
        | inl is ↦ inr (x.task, is, counted-own x l)
        | inr one ↦ inr (one.0, one.1, counted-behind x l one.0 one.2)
      ])

  -- behind it stands nobody, or one of the list
  behind-is : (c : ℕ) (l : List Waiter) → 0 < counted t l → Walks ws c l → (get_or ws (8 * (t + 1)) 0 ≡ 0) ⊎ ((u : ℕ) × (get_or ws (8 * (t + 1)) 0 ≡ u + 1) × (0 < counted u l))
  behind-is c [] there walk = absurd (omega (arith, there))
  behind-is c (x ∷ l) there walk = dite (ℕ_discrete x.task t)
      (λ is. let e = ap (λ (z : ℕ). get_or ws (8 * (z + 1)) 0) is in behind-first l (sym e) walk.2)
      (λ not. let n = counted-else x l t not in elim (behind-is (x.task + 1) l (omega (arith, n, there)) walk.2) [ inl none ↦ inl none | inr one ↦ inr (one.0, one.1, counted-behind x l one.0 one.2) ])
    where
      behind-first : (l : List Waiter) → get_or ws (8 * (t + 1)) 0 ≡ get_or ws (8 * (x.task + 1)) 0 → Walks ws (x.task + 1) l → (get_or ws (8 * (t + 1)) 0 ≡ 0) ⊎ ((u : ℕ) × (get_or ws (8 * (t + 1)) 0 ≡ u + 1) × (0 < counted u (x ∷ l)))
      behind-first [] e walk = inl (e ∙ walk)
      behind-first (y ∷ l) e walk = inr (y.task, e ∙ walk.0, counted-behind x (y ∷ l) y.task (counted-own y l))

  pub before-small : (l : List Waiter) → AreTasks l → 0 < counted t l → Walks ws 0 l → get_or ws (8 * (t + 1) + 1) 0 / 2 ≤ MAX_TASKS
  before-small l all there walk = elim (before-is 0 l there walk) [
    | inl is ↦ omega (arith, is)
    | inr one ↦ let few = task-small l one.0 all one.2 in let is = one.1 in omega (arith, is, few)
  ]

  pub before-among : (n : ℕ) (l : List Waiter) → AreAmong n l → 0 < counted t l → Walks ws 0 l → get_or ws (8 * (t + 1) + 1) 0 / 2 ≤ n
  before-among n l all there walk = elim (before-is 0 l there walk) [
    | inl is ↦ omega (arith, is)
    | inr one ↦ let few = all one.0 one.2 in let is = one.1 in omega (arith, is, few)
  ]

  pub behind-among : (n : ℕ) (l : List Waiter) → AreAmong n l → 0 < counted t l → Walks ws 0 l → get_or ws (8 * (t + 1)) 0 ≤ n
  behind-among n l all there walk = elim (behind-is 0 l there walk) [
    | inl none ↦ omega (arith, none)
    | inr one ↦ let few = all one.0 one.2 in let is = one.1 in omega (arith, is, few)
  ]

  -- the last of the list without the last stands before it
  last-leaves : (c : ℕ) (l : List Waiter) → 0 < counted t l → Walks ws c l → get_or ws (8 * (t + 1)) 0 ≡ 0 → last_code c (without t l) ≡ get_or ws (8 * (t + 1) + 1) 0 / 2
  last-leaves c [] there walk none = absurd (omega (arith, there))
  last-leaves c (x ∷ l) there walk none = dite (ℕ_discrete x.task t)
      (λ is. let e = ap (λ (z : ℕ). get_or ws (8 * (z + 1) + 1) 0) is in let f = ap (λ (z : ℕ). get_or ws (8 * (z + 1)) 0) is in let p = walk.1 in let b = bit-few x.writer in
      ap (last_code c) (without-here x l t is) ∙ (alone l (f ∙ none) walk.2 ∙ omega (arith, e, p, b)))
      (λ not. let n = counted-else x l t not in ap (last_code c) (without-else x l t not) ∙ last-leaves (x.task + 1) l (omega (arith, n, there)) walk.2 none)
    where
      alone : (l : List Waiter) → get_or ws (8 * (x.task + 1)) 0 ≡ 0 → Walks ws (x.task + 1) l → last_code c l ≡ c
      alone [] end walk = refl
      alone (y ∷ l) end walk = let p = walk.0 in absurd (omega (arith, end, p))

  -- without another it stays
  last-stays : (c : ℕ) (l : List Waiter) → 0 < counted t l → Walks ws c l → get_or ws (8 * (t + 1)) 0 ≢ 0 → last_code c (without t l) ≡ last_code c l
  last-stays c [] there walk some = absurd (omega (arith, there))
  last-stays c (x ∷ l) there walk some = dite (ℕ_discrete x.task t)
      (λ is. let f = ap (λ (z : ℕ). get_or ws (8 * (z + 1)) 0) is in ap (last_code c) (without-here x l t is) ∙ longer l (λ e. some (sym f ∙ e)) walk.2)
      (λ not. let n = counted-else x l t not in ap (last_code c) (without-else x l t not) ∙ last-stays (x.task + 1) l (omega (arith, n, there)) walk.2 some)
    where
      longer : (l : List Waiter) → get_or ws (8 * (x.task + 1)) 0 ≢ 0 → Walks ws (x.task + 1) l → last_code c l ≡ last_code (x.task + 1) l
      longer [] some walk = absurd (some walk)
      longer (y ∷ l) some walk = refl

  -- Where n is behind the task and p before it, p leads to n, and n says so.
  module _ (us : List ℕ) (n p : ℕ) (next : get_or ws (8 * (t + 1)) 0 ≡ n) (prev : get_or ws (8 * (t + 1) + 1) 0 / 2 ≡ p) (same : (j : ℕ) → j ≢ 8 * n + 1 → j ≢ 8 * p → get_or us j 0 ≡ get_or ws j 0) (link : get_or us (8 * p) 0 ≡ n)
      (back : n ≢ 0 → get_or us (8 * n + 1) 0 ≡ 2 * p + get_or ws (8 * n + 1) 0 % 2) where
    -- the task is the first
    walks-rest : (c : ℕ) (x : Waiter) (l : List Waiter) → x.task ≡ t → ((u : ℕ) → counted u (x ∷ l) ≤ 1) → ((u : ℕ) → c ≡ u + 1 → counted u (x ∷ l) ≡ 0) → Walks ws c (x ∷ l) → Walks us c l
    walks-rest c x l is once away walk = go l (once-behind x l once) (λ u e. let a = away u e in omega (arith, a)) walk.2
      where
        here : p ≡ c
        here = let e = ap (λ (z : ℕ). get_or ws (8 * (z + 1) + 1) 0) is in let q = walk.1 in let b = bit-few x.writer in omega (arith, e, q, b, prev)

        after : get_or ws (8 * (x.task + 1)) 0 ≡ n
        after = ap (λ (z : ℕ). get_or ws (8 * (z + 1)) 0) is ∙ next

        linked : get_or us (8 * c) 0 ≡ n
        linked = ap (λ (z : ℕ). get_or us (8 * z) 0) (sym here) ∙ link

        go : (l : List Waiter) → ((u : ℕ) → counted u l ≤ 1) → ((u : ℕ) → c ≡ u + 1 → counted u l ≡ 0) → Walks ws (x.task + 1) l → Walks us c l
        go [] once away walk = linked ∙ (sym after ∙ walk)
        go (y ∷ m) once away walk = (
          linked ∙ code,
          told,
          walks-same ws us (y.task + 1) m (same (8 * (y.task + 1)) (λ e. omega (arith, e)) (λ e. clear y.task (counted-own y m) (omega (arith, e, at))))
              (λ u there. (
                same (8 * (u + 1)) (λ e. omega (arith, e)) (λ e. clear u (counted-behind y m u there) (omega (arith, e, at))),
                same (8 * (u + 1) + 1) (λ e. not-again y m u (once y.task) there (omega (arith, e, code))) (λ e. omega (arith, e)),
              )) walk.2,
        )
          where
            at : p ≡ c
            at = here

            code : n ≡ y.task + 1
            code = sym after ∙ walk.0

            told : get_or us (8 * (y.task + 1) + 1) 0 ≡ 2 * c + bit y.writer
            told = let e = ap (λ (z : ℕ). get_or us (8 * z + 1) 0) code in let f = ap (λ (z : ℕ). get_or ws (8 * z + 1) 0) code in let b = back (λ z. omega (arith, z, code)) in let q = walk.1 in let m = bit-few y.writer in omega (arith, e, f, b, q, m, at)

            clear : (u : ℕ) → 0 < counted u (y ∷ m) → c ≢ u + 1
            clear u there e = let a = away u e in omega (arith, a, there)

    walks-without : (c : ℕ) (l : List Waiter) → 0 < counted t l → ((u : ℕ) → counted u l ≤ 1) → ((u : ℕ) → c ≡ u + 1 → counted u l ≡ 0) → Walks ws c l → Walks us c (without t l)
    walks-without c [] there once away walk = absurd (omega (arith, there))
    walks-without c (x ∷ l) there once away walk = dite (ℕ_discrete x.task t)
        (λ is. subst (Walks us c) (sym (without-here x l t is)) (walks-rest c x l is once away walk))
        (λ not. subst (Walks us c) (sym (without-else x l t not)) (
          same (8 * c) (λ e. omega (arith, e)) (λ e. not-before not (omega (arith, e))) ∙ walk.0,
          same (8 * (x.task + 1) + 1) (λ e. not-behind not (omega (arith, e))) (λ e. omega (arith, e)) ∙ walk.1,
          walks-without (x.task + 1) l (later not) (once-behind x l once) (away-behind x l once) walk.2,
        ))
      where
        later : x.task ≢ t → 0 < counted t l
        later not = let n = counted-else x l t not in omega (arith, n, there)

        not-before : x.task ≢ t → c ≢ p
        not-before not e = elim (before-is (x.task + 1) l (later not) walk.2) [
          | inl is ↦ let a = away x.task (omega (arith, e, is, prev)) in let own = counted-own x l in omega (arith, a, own)
          | inr one ↦ let is = one.1 in let a = away one.0 (omega (arith, e, is, prev)) in let own = counted-behind x l one.0 one.2 in omega (arith, a, own)
        ]

        not-behind : x.task ≢ t → x.task + 1 ≢ n
        not-behind not e = elim (behind-is (x.task + 1) l (later not) walk.2) [
          | inl none ↦ omega (arith, e, none, next)
          | inr one ↦ let is = one.1 in not-again x l one.0 (once x.task) one.2 (omega (arith, e, is, next))
        ]

pub with-none : (ws : List ℕ) (n p : ℕ) → n ≡ 0 → prev_with ws n p ≡ p
with-none ws n p is = ap (λ (b : Bool). if b then p else 2 * p + get_or ws (8 * n + 1) 0 % 2) (eq-eqb n 0 is)

pub with-some : (ws : List ℕ) (n p : ℕ) → n ≢ 0 → prev_with ws n p ≡ 2 * p + get_or ws (8 * n + 1) 0 % 2
with-some ws n p not = ap (λ (b : Bool). if b then p else 2 * p + get_or ws (8 * n + 1) 0 % 2) (ne_eqb n 0 not)

-- the words of a task that isn't in the list
pub apart-lists : (ws us : List ℕ) (l : List Waiter) (t : ℕ) → Lists ws l → counted t l ≡ 0 → ((j : ℕ) → j ≢ 8 * (t + 1) → j ≢ 8 * (t + 1) + 1 → get_or us j 0 ≡ get_or ws j 0) → get_or us (8 * (t + 1)) 0 ≤ MAX_TASKS → Lists us l
apart-lists ws us l t r out same few = record {
  walk = walks-same ws us 0 l (same 0 (λ e. omega (arith, e)) (λ e. omega (arith, e)))
      (λ u there. (same (8 * (u + 1)) (λ e. other u there (omega (arith, e))) (λ e. omega (arith, e)), same (8 * (u + 1) + 1) (λ e. omega (arith, e)) (λ e. other u there (omega (arith, e))))) r.walk;
  tail = same 1 (λ e. omega (arith, e)) (λ e. omega (arith, e)) ∙ r.tail;
  codes = λ c small. dite (ℕ_discrete c (t + 1))
      (λ is. let e = ap (λ (z : ℕ). get_or us (8 * z) 0) is in omega (arith, e, few))
      (λ not. let e = same (8 * c) (λ e. not (omega (arith, e))) (λ e. omega (arith, e)) in let f = r.codes c small in omega (arith, e, f));
}
  where
    other : (u : ℕ) → 0 < counted u l → u ≢ t
    other u there e = let c = ap (λ (z : ℕ). counted z l) e in omega (arith, c, there, out)

-- the words of the longer list
pub appended-lists : (ws us : List ℕ) (l : List Waiter) (w : Waiter) → Lists ws l → IsList l → counted w.task l ≡ 0 → w.task < MAX_TASKS → IsPrepared ws w → ((j : ℕ) → j ≢ 1 → j ≢ 8 * get_or ws 1 0 → get_or us j 0 ≡ get_or ws j 0) → get_or us 1 0 ≡ w.task + 1
    → get_or us (8 * get_or ws 1 0) 0 ≡ w.task + 1 → Lists us (l ++ w ∷ [])
appended-lists ws us l w r sound fresh small prepared same tail link = record {
  walk = walks-append ws us w 0 l fresh (λ e. omega (arith, e)) sound.once (λ t e. absurd (omega (arith, e))) r.walk (λ j a b. same j a (λ e. b (e ∙ at))) (ap (λ (z : ℕ). get_or us z 0) (sym at) ∙ link) prepared.0 (prepared.1 ∙ ap (λ (z : ℕ). 2 * z + bit w.writer) r.tail);
  tail = tail ∙ sym (last-append 0 l w);
  codes = λ c few. dite (ℕ_discrete c (get_or ws 1 0))
      (λ is. let e = ap (λ (z : ℕ). get_or us (8 * z) 0) is in omega (arith, e, link, small))
      (λ not. let e = same (8 * c) (λ e. omega (arith, e)) (λ e. not (omega (arith, e))) in let f = r.codes c few in omega (arith, e, f));
}
  where
    at : 8 * get_or ws 1 0 ≡ 8 * last_code 0 l
    at = ap (λ (z : ℕ). 8 * z) r.tail

-- the words of the shorter list
pub removed-lists : (ws us : List ℕ) (l : List Waiter) (t n p : ℕ) → Lists ws l → IsList l → 0 < counted t l → t < MAX_TASKS → get_or ws (8 * (t + 1)) 0 ≡ n → get_or ws (8 * (t + 1) + 1) 0 / 2 ≡ p → ((j : ℕ) → j ≢ 8 * n + 1 → j ≢ 8 * p → get_or us j 0 ≡ get_or ws j 0)
    → get_or us (8 * p) 0 ≡ n → get_or us (8 * n + 1) 0 ≡ prev_with ws n p → Lists us (without t l)
removed-lists ws us l t n p r sound there small next prev same link back = record {
  walk = walks-without ws t us n p next prev same link (λ some. back ∙ with-some ws n p some) 0 l there sound.once (λ u e. absurd (omega (arith, e))) r.walk;
  tail = dite (ℕ_discrete n 0)
      (λ none. ap (λ (z : ℕ). get_or us (8 * z + 1) 0) (sym none) ∙ (back ∙ (with-none ws n p none ∙ (sym prev ∙ sym (last-leaves ws t 0 l there r.walk (next ∙ none))))))
      (λ some. same 1 (λ e. some (omega (arith, e))) (λ e. omega (arith, e)) ∙ (r.tail ∙ sym (last-stays ws t 0 l there r.walk (λ e. some (sym next ∙ e)))));
  codes = λ c few. dite (ℕ_discrete c p)
      (λ is. let e = ap (λ (z : ℕ). get_or us (8 * z) 0) is in let f = r.codes (t + 1) (omega (arith, small)) in omega (arith, e, f, link, next))
      (λ not. let e = same (8 * c) (λ e. omega (arith, e)) (λ e. not (omega (arith, e))) in let f = r.codes c few in omega (arith, e, f));
}

-- the lowest bit
pub parity : (n : ℕ) → bit (n % 2 == 1) ≡ n % 2
parity n = dite (ℕ_discrete (n % 2) 1) (λ is. ap bit (eq-eqb (n % 2) 1 is) ∙ sym is) (λ not. ap bit (ne_eqb (n % 2) 1 not) ∙ omega (arith, not))

-- whom a `next` names
pub behind-first : (ws : List ℕ) (c : ℕ) (l : List Waiter) (o : Option Waiter) → Walks ws c l → IsBehind ws c o → o ≡ first_of l
behind-first ws c [] None walk is = refl
behind-first ws c [] (Some w) walk is = let a = is.0 in absurd (omega (arith, walk, a))
behind-first ws c (x ∷ l) None walk is = let a = walk.0 in absurd (omega (arith, a, is))
behind-first ws c (x ∷ l) (Some w) walk is = λ i. Some (record { task = task i; writer = writer i })
  where
    task : w.task ≡ x.task
    task = let a = walk.0 in let b = is.0 in omega (arith, a, b)

    writer : w.writer ≡ x.writer
    writer = let a = walk.1 in let b = is.1 in let e = ap (λ (z : ℕ). get_or ws (8 * (z + 1) + 1) 0) task in let m = bit-few x.writer in bit-same w.writer x.writer (omega (arith, a, b, e, m))

pub behind-next : (ws : List ℕ) (t c : ℕ) (l : List Waiter) (o : Option Waiter) → 0 < counted t l → Walks ws c l → IsBehind ws (t + 1) o → o ≡ next_of t l
behind-next ws t c [] o there walk is = absurd (omega (arith, there))
behind-next ws t c (x ∷ l) o there walk is = dite (ℕ_discrete x.task t)
    (λ e. behind-first ws (t + 1) l o (subst (λ (z : ℕ). Walks ws (z + 1) l) e walk.2) is ∙ sym (ap (λ (b : Bool). if b then first_of l else next_of t l) (eq-eqb x.task t e)))
    (λ not. let n = counted-else x l t not in behind-next ws t (x.task + 1) l o (omega (arith, n, there)) walk.2 is ∙ sym (ap (λ (b : Bool). if b then first_of l else next_of t l) (ne_eqb x.task t not)))
