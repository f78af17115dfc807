-- The walk along a list, from waiter to waiter.
use Rattle.std.proofs.Common.{◌≡◌, ◌≢◌, ℕ, ◌<◌, ◌≤◌, ◌==◌, Bool, List, [], ◌∷◌, ◌++◌, length, Option, Some, None, sym, refl, ap, ◌∙◌, subst, arith, eq-eqb, ne_eqb, if◌then◌else◌, append_assoc, length-append}
use mathlib.Core.Logic.{dite}
use native.Mathlib.Decide.{ℕ_discrete}
use Rattle.word_bits.specs.declared.TheConstants.{MAX_TASKS}
use Rattle.lock_core.specs.Records.{bit}
use Rattle.wait_list.specs.Lists.{AreAmong, FindsNext, IsList, Knows, KnowsWaiter, counted, first_of, next_of}
use Rattle.wait_list.proofs.Waiters.{counted-append, counted-else}
use Rattle.rwsem_wake.specs.RwSemViews.{V, list_of, with_list}
use Rattle.rwsem_wake.specs.Removals.{IsAlong, KnowsList}
use Rattle.rwsem_wake.specs.Types.{Waiter, ListHand}

abbrev by-task : ℕ → Waiter → List Waiter → Bool → Option Waiter
by-task t x q b = if b then first_of q else next_of t q

there : (pre : List Waiter) (w : Waiter) (post : List Waiter) → 1 ≤ counted w.task (pre ++ w ∷ post)
there [] w post = let e : bit (w.task == w.task) ≡ 1 = ap bit (eq-eqb w.task w.task refl) in omega (arith, e)
there (x ∷ pre) w post = let l = there pre w post in omega (arith, l)

next-is : (pre : List Waiter) (w : Waiter) (post : List Waiter) → counted w.task (pre ++ w ∷ post) ≤ 1 → next_of w.task (pre ++ w ∷ post) ≡ first_of post
next-is [] w post once = ap (by-task w.task w post) (eq-eqb w.task w.task refl)
next-is (x ∷ pre) w post once = let l = there pre w post in let not : x.task ≢ w.task = λ e. (let y : bit (x.task == w.task) ≡ 1 = ap bit (eq-eqb x.task w.task e) in absurd (omega (arith, y, l, once))) in
    ap (by-task w.task x (pre ++ w ∷ post)) (ne_eqb x.task w.task not) ∙ next-is pre w post (omega (arith, once))

some-first : (q : List Waiter) (w : Waiter) → Some w ≡ first_of q → (post : List Waiter) × (q ≡ w ∷ post)
some-first [] w e = absurd cc
some-first (x ∷ q) w e = (q, λ i. same i ∷ q)
  where
    same : x ≡ w
    same = cc

none-first : (q : List Waiter) → None ≡ first_of q → q ≡ []
none-first [] e = refl
none-first (x ∷ q) e = absurd cc

pub along-starts : (known : List Waiter) (w : Waiter) (read : List Waiter) → Some w ≡ first_of known → read ≡ w ∷ [] → IsAlong known read w
along-starts known w read first is = let s = some-first known w first in ([], s.0, is, s.1)

-- tasks of a plan of so many, and one more behind them
pub among-on : (n : ℕ) (l : List Waiter) (w : Waiter) → AreAmong n l → w.task < n → AreAmong n (l ++ w ∷ [])
among-on n l w are few t more = dite (ℕ_discrete w.task t) (λ is. subst (λ (z : ℕ). z < n) is few) (λ not. are t (let a = counted-append t l w in let b = counted-else w [] t not in omega (arith, a, b, more)))

module _ (known read : List Waiter) (last : Waiter) (a : IsAlong known read last) where
  -- the last that is read is one of those that are
  pub along-read : 0 < counted last.task read
  along-read = subst (λ (z : List Waiter). 0 < counted last.task z) (sym a.2) (let l = there a.0 last [] in omega (arith, l))

  pub along-there : 0 < counted last.task known
  along-there = subst (λ (z : List Waiter). 0 < counted last.task z) (sym a.3) (let l = there a.0 last a.1 in omega (arith, l))

  along-next : (next : Option Waiter) → ((t : ℕ) → counted t known ≤ 1) → (0 < counted last.task known → next ≡ next_of last.task known) → next ≡ first_of a.1
  along-next next once is = is along-there ∙ (ap (next_of last.task) a.3 ∙ next-is a.0 last a.1 (subst (λ (z : List Waiter). counted last.task z ≤ 1) a.3 (once last.task)))

  pub along-on : (w : Waiter) (read' : List Waiter) → ((t : ℕ) → counted t known ≤ 1) → (0 < counted last.task known → Some w ≡ next_of last.task known) → read' ≡ read ++ w ∷ [] → IsAlong known read' w
  along-on w read' once is more = let s = some-first a.1 w (along-next (Some w) once is) in (
    a.0 ++ last ∷ [],
    s.0,
    more ∙ ap (λ (z : List Waiter). z ++ w ∷ []) a.2,
    a.3 ∙ (ap (λ (z : List Waiter). a.0 ++ last ∷ z) s.1 ∙ sym (append_assoc a.0 (last ∷ []) (w ∷ s.0))),
  )

  pub along-ends : ((t : ℕ) → counted t known ≤ 1) → (0 < counted last.task known → None ≡ next_of last.task known) → read ≡ known
  along-ends once is = a.2 ∙ sym (a.3 ∙ ap (λ (z : List Waiter). a.0 ++ last ∷ z) (none-first a.1 (along-next None once is)))

  pub along-full : length known ≤ MAX_TASKS → MAX_TASKS ≤ length read → read ≡ known
  along-full few many = a.2 ∙ sym (a.3 ∙ ap (λ (z : List Waiter). a.0 ++ last ∷ z) (none a.1 refl))
    where
      none : (post : List Waiter) → a.1 ≡ post → a.1 ≡ []
      none [] e = e
      none (x ∷ post) e = let n = ap length a.2 in let m = ap length a.3 in let p = length-append a.0 (last ∷ []) in let r = length-append a.0 (last ∷ a.1) in let l = ap length e in absurd (omega (arith, n, m, p, r, l, few, many))

-- a look along a list that a pass knows only counts steps
module _ (v : V) (list : KnowsList v) (t : ℕ) (next : Option Waiter) (u : V) (f : FindsNext list_of with_list v t next u) where
  same : f.hand ≡ v.ext.list
  same = f.learnt.same list.knows

  pub finds-steps : u ≡ record v { steps = u.steps }
  finds-steps = f.view ∙ ap (λ (b : ListHand). record v { steps = u.steps; ext = record v.ext { list = b } }) same

  pub finds-next : 0 < counted t v.ext.list.list → next ≡ next_of t v.ext.list.list
  finds-next inside = subst (λ (b : ListHand). 0 < counted t b.list → next ≡ next_of t b.list) same f.is inside

-- so it is after some steps
module _ (v w : V) (list : KnowsList v) (kept : w ≡ record v { steps = w.steps }) where
  same-list : w.ext.list ≡ v.ext.list
  same-list = ap (λ (z : V). z.ext.list) kept

  pub knows-on : KnowsList w
  knows-on = let spin = ap (λ (z : V). z.spin) kept in record {
    knows = subst Knows (λ i. (sym spin i, sym same-list i)) list.knows;
    still = ap (λ (b : ListHand). b.changes) same-list ∙ list.still;
    sound = subst IsList (sym (ap (λ (b : ListHand). b.list) same-list)) list.sound;
  }

  pub walk-there : (t : ℕ) → 0 < counted t v.ext.list.list → KnowsWaiter list_of t w
  walk-there t inside = (knows-on.knows, subst (λ (b : ListHand). 0 < counted t b.list) (sym same-list) inside)

  module _ (t : ℕ) (next : Option Waiter) (u : V) (f : FindsNext list_of with_list w t next u) where
    pub walk-steps : u ≡ record v { steps = u.steps }
    walk-steps = finds-steps w knows-on t next u f ∙ (λ i. record (kept i) { steps = u.steps })

    pub walk-next : 0 < counted t v.ext.list.list → next ≡ next_of t v.ext.list.list
    walk-next inside = subst (λ (b : ListHand). 0 < counted t b.list → next ≡ next_of t b.list) same-list (finds-next w knows-on t next u f) inside
