-- Lists of waiters, and what an append and a removal make of them.
use Rattle.std.proofs.Common.{zero, suc, subst, ◌≡◌, ◌≢◌, ◌∙◌, ℕ, ◌+◌, ◌<◌, ◌≤◌, Bool, List, [], ◌∷◌, ◌++◌, length, sym, refl, ap, arith, eq-eqb, ne_eqb, if◌then◌else◌}
use mathlib.Core.Logic.{dite}
use native.Mathlib.Decide.{ℕ_discrete}
use Rattle.lock_core.specs.Records.{bit}
use Rattle.wait_list.specs.Lists.{first_code, without, counted, AreTasks, IsList, Allowed, changed}
use Rattle.wait_list.specs.Types.{Waiter, Change, Stay, Enter, Leave}
use Rattle.word_bits.specs.declared.TheConstants.{MAX_TASKS}

-- a task of the plan
pub task-of : (n t : ℕ) → n ≤ MAX_TASKS → t < n → t < MAX_TASKS
task-of n t few there = omega (arith, few, there)

pub code-of : (n c : ℕ) → n ≤ MAX_TASKS → c ≤ n → c ≤ MAX_TASKS
code-of n c few there = omega (arith, few, there)

module _ (w : Waiter) (ws : List Waiter) where
  pub without-here : (t : ℕ) → w.task ≡ t → without t (w ∷ ws) ≡ ws
  without-here t is = ap (λ (b : Bool). if b then ws else w ∷ without t ws) (eq-eqb w.task t is)

  pub without-else : (t : ℕ) → w.task ≢ t → without t (w ∷ ws) ≡ w ∷ without t ws
  without-else t not = ap (λ (b : Bool). if b then ws else w ∷ without t ws) (ne_eqb w.task t not)

  pub counted-here : (t : ℕ) → w.task ≡ t → counted t (w ∷ ws) ≡ 1 + counted t ws
  counted-here t is = ap (λ (b : Bool). bit b + counted t ws) (eq-eqb w.task t is)

  pub counted-else : (t : ℕ) → w.task ≢ t → counted t (w ∷ ws) ≡ counted t ws
  counted-else t not = let e : counted t (w ∷ ws) ≡ 0 + counted t ws = ap (λ (b : Bool). bit b + counted t ws) (ne_eqb w.task t not) in omega (arith, e)

-- a waiter of the list stands in it too behind another
pub counted-behind : (x : Waiter) (l : List Waiter) (t : ℕ) → 0 < counted t l → 0 < counted t (x ∷ l)
counted-behind x l t there = omega (arith, there)

pub counted-own : (x : Waiter) (l : List Waiter) → 0 < counted x.task (x ∷ l)
counted-own x l = let c = counted-here x l x.task refl in omega (arith, c)

pub counted-append : (u : ℕ) (l : List Waiter) (w : Waiter) → counted u (l ++ w ∷ []) ≡ counted u l + counted u (w ∷ [])
counted-append u [] w = omega arith
counted-append u (x ∷ l) w = let r = counted-append u l w in omega (arith, r)

pub counted-without-other : (t u : ℕ) (l : List Waiter) → u ≢ t → counted u (without t l) ≡ counted u l
counted-without-other t u [] apart = refl
counted-without-other t u (w ∷ ws) apart = dite (ℕ_discrete w.task t)
    (λ is. ap (counted u) (without-here w ws t is) ∙ sym (counted-else w ws u (λ e. apart (sym e ∙ is))))
    (λ not. let r = counted-without-other t u ws apart in ap (counted u) (without-else w ws t not) ∙ omega (arith, r))

pub counted-without-own : (t : ℕ) (l : List Waiter) → 0 < counted t l → counted t (without t l) + 1 ≡ counted t l
counted-without-own t [] there = absurd (omega (arith, there))
counted-without-own t (w ∷ ws) there = dite (ℕ_discrete w.task t)
    (λ is. let a = ap (counted t) (without-here w ws t is) in let b = counted-here w ws t is in omega (arith, a, b))
    (λ not. let a = ap (counted t) (without-else w ws t not) in let b = counted-else w ws t not in let c = counted-else w (without t ws) t not in let r = counted-without-own t ws (omega (arith, b, there)) in omega (arith, a, b, c, r))

pub length-without : (t : ℕ) (l : List Waiter) → 0 < counted t l → length (without t l) + 1 ≡ length l
length-without t [] there = absurd (omega (arith, there))
length-without t (w ∷ ws) there = dite (ℕ_discrete w.task t)
    (λ is. let a = ap length (without-here w ws t is) in omega (arith, a))
    (λ not. let a = ap length (without-else w ws t not) in let b = counted-else w ws t not in let r = length-without t ws (omega (arith, b, there)) in omega (arith, a, r))

pub first-without : (t : ℕ) (l : List Waiter) → first_code l ≢ t + 1 → first_code (without t l) ≡ first_code l
first-without t [] other = refl
first-without t (w ∷ ws) other = ap first_code (without-else w ws t (λ e. other (omega (arith, e))))

pub tasks-append : (l : List Waiter) (w : Waiter) → AreTasks l → w.task < MAX_TASKS → AreTasks (l ++ w ∷ [])
tasks-append [] w all small = (small, tt)
tasks-append (x ∷ l) w all small = (all.0, tasks-append l w all.1 small)

pub tasks-without : (t : ℕ) (l : List Waiter) → AreTasks l → AreTasks (without t l)
tasks-without t [] all = tt
tasks-without t (w ∷ ws) all = dite (ℕ_discrete w.task t)
    (λ is. subst AreTasks (sym (without-here w ws t is)) all.1)
    (λ not. subst AreTasks (sym (without-else w ws t not)) (all.0, tasks-without t ws all.1))

pub sound-changed : (c : Change) (l : List Waiter) → IsList l → Allowed c l → IsList (changed c l)
sound-changed Stay l r may = r
sound-changed (Enter w) l r may = record {
  small = tasks-append l w r.small may.0;
  once = λ t. let a = counted-append t l w in let o = r.once t in dite (ℕ_discrete w.task t)
      (λ is. let n : counted t l ≡ 0 = ap (λ (z : ℕ). counted z l) (sym is) ∙ may.1 in let b = counted-here w [] t is in omega (arith, a, n, b))
      (λ not. let b = counted-else w [] t not in omega (arith, a, o, b));
}
sound-changed (Leave t) l r may = record {
  small = tasks-without t l r.small;
  once = λ u. let o = r.once u in dite (ℕ_discrete u t)
      (λ is. let b = counted-without-own t l may in let p = r.once t in let e = ap (λ (z : ℕ). counted z (without t l)) is in omega (arith, b, p, e))
      (λ not. let b = counted-without-other t u l not in omega (arith, b, o));
}

without-none : (t : ℕ) (l : List Waiter) → counted t l ≡ 0 → without t l ≡ l
without-none t [] out = refl
without-none t (w ∷ ws) out = dite (ℕ_discrete w.task t)
    (λ is. let c = counted-here w ws t is in absurd (omega (arith, c, out)))
    (λ not. let c = counted-else w ws t not in without-else w ws t not ∙ ap (λ (z : List Waiter). w ∷ z) (without-none t ws (omega (arith, c, out))))

abbrev AreBelow : ℕ → List Waiter → Type 0
AreBelow n [] = Unit {0}
AreBelow n (w ∷ ws) = (w.task < n) × AreBelow n ws

below-without : (n : ℕ) (l : List Waiter) → AreBelow (suc n) l → counted n l ≤ 1 → AreBelow n (without n l)
below-without n [] all once = tt
below-without n (w ∷ ws) all once = dite (ℕ_discrete w.task n)
    (λ is. let c = counted-here w ws n is in subst (AreBelow n) (sym (without-here w ws n is ∙ sym (without-none n ws (omega (arith, c, once))))) (below-without n ws all.1 (omega (arith, c, once))))
    (λ not. let c = counted-else w ws n not in let a = all.0 in subst (AreBelow n) (sym (without-else w ws n not)) (omega (arith, a, not), below-without n ws all.1 (omega (arith, c, once))))

-- a list of tasks, none twice, has as many at most
few : (n : ℕ) (l : List Waiter) → AreBelow n l → ((t : ℕ) → counted t l ≤ 1) → length l ≤ n
few zero [] all once = omega arith
few zero (w ∷ ws) all once = let a = all.0 in absurd (omega (arith, a))
few (suc n) l all once = let r = few n (without n l) (below-without n l all (once n)) (λ t. let o = once t in dite (ℕ_discrete t n)
    (λ is. elim (native.Mathlib.Decide.dec_le (counted n l) 0) [
      | yes none ↦ let e = ap (counted t) (without-none n l (omega (arith, none))) in omega (arith, e, o)
      | no some ↦ let e = counted-without-own n l (omega (arith, some)) in let p = once n in let f = ap (λ (z : ℕ). counted z (without n l)) is in omega (arith, e, p, f)
    ])
    (λ not. let e = counted-without-other n t l not in omega (arith, e, o))) in
    elim (native.Mathlib.Decide.dec_le (counted n l) 0) [
      | yes none ↦ let e = ap length (without-none n l (omega (arith, none))) in omega (arith, e, r)
      | no some ↦ let e = length-without n l (omega (arith, some)) in omega (arith, e, r)
    ]

below-tasks : (l : List Waiter) → AreTasks l → AreBelow MAX_TASKS l
below-tasks [] all = tt
below-tasks (w ∷ ws) all = (all.0, below-tasks ws all.1)

pub few-tasks : (l : List Waiter) → IsList l → length l ≤ MAX_TASKS
few-tasks l r = few MAX_TASKS l (below-tasks l r.small) r.once
