-- Passes that take in others.
use Rattle.std.proofs.Common.{◌≡◌, ℕ, ◌<◌, ◌≤◌, suc, zero, List, [], ◌∷◌, length, get_or, set, sym, ap, ◌∙◌, subst, arith, Bool, true, false}
use Rattle.std.specs.Prelude.{slice_index_or, slice_get, Some}
use Rattle.std.proofs.lemmas.List.{get_or_default}
use Rattle.word_bits.specs.Histories.{Plan}
use mathlib.Core.Logic.{dite}
use native.Mathlib.Decide.{ℕ_discrete}
use Rattle.lock_core.proofs.RowLaws.{get-there, none-some, same-some}
use Rattle.mm_serve.specs.declared.worker.Worker.{Worker}
use Rattle.mm_serve.specs.Workers.{EachOf, KnowsMore, HaveGathered, HaveDoneTheirTasks, KnowsFrom, AreNumbered, KnowsAllDone, TakesUp}
use Rattle.mm_serve.specs.MachineHistories.{HasDoneOn}
use Rattle.mm_serve.specs.MachineQueues.{GoesBackToTask, GoesBackToTasks}
use Rattle.mm_serve.specs.Types.{Hand, Moment}
use Rattle.mm_serve.proofs.Each.{each-set, each-at, each-map}

pub get-some : {X : Type 0} (xs : List X) (n : ℕ) (x : X) → slice_get xs n ≡ Some x → get_or xs n x ≡ x
get-some [] n x at = none-some x at
get-some (y ∷ ys) zero x at = same-some y x at
get-some (y ∷ ys) (suc n) x at = get-some ys n x at

module _ {S P : Type 0} (idle : S → P → Type 0) (takes_up : P → P → Type 0) where
  pub gathers : (sites : List S) (olds others news : List P) (m : ℕ) (s : S) (was other new : P) → length olds ≡ length sites → length others ≡ length sites → HaveGathered idle takes_up (suc m) sites olds others news → m < length sites
      → s ≡ get_or sites m s → was ≡ get_or news m was → other ≡ get_or others m other → idle s new → takes_up was new → takes_up other new
      → HaveGathered idle takes_up m sites olds others (set news m new)
  gathers sites olds others news m s was other new many many' so-far below s-is was-is other-is rest kept taken =
      let old = (each-at (λ k s p. idle s p × (k < suc m → p ≡ slice_index_or olds k p) × (suc m ≤ k → takes_up (slice_index_or olds k p) p × takes_up (slice_index_or others k p) p)) sites news m s was so-far below s-is was-is).1 (omega arith) in
      let a : get_or olds m new ≡ was = get_or_default olds m new was (omega (arith, many, below)) ∙ sym old in
      let b : get_or others m new ≡ other = get_or_default others m new other (omega (arith, many', below)) ∙ sym other-is in
      each-set (λ k s p. idle s p × (k < suc m → p ≡ slice_index_or olds k p) × (suc m ≤ k → takes_up (slice_index_or olds k p) p × takes_up (slice_index_or others k p) p))
      (λ k s p. idle s p × (k < m → p ≡ slice_index_or olds k p) × (m ≤ k → takes_up (slice_index_or olds k p) p × takes_up (slice_index_or others k p) p))
      sites news m s new so-far below s-is
      (rest, (λ l. absurd (omega (arith, l))), (λ _. (subst (λ (p : P). takes_up p new) (sym a) kept, subst (λ (p : P). takes_up p new) (sym b) taken)))
      (λ k t p lt ne r. (r.0, (λ l. r.1 (omega (arith, l))), (λ l. r.2 (omega (arith, l, ne)))))

  pub takes : ((p q r : P) → takes_up p q → takes_up q r → takes_up p r) → {C : Type 0} (sites : List S) (ws : List (Worker C P)) (n : ℕ) (w : Worker C P) (olds news : List P) → length olds ≡ length sites → length w.passes.items ≡ length sites → n < length ws → w ≡ get_or ws n w
      → EachOf (λ k s p. idle s p × KnowsFrom takes_up (suc n) ws k p) sites olds → HaveGathered idle takes_up 0 sites olds w.passes.items news → EachOf (λ k s p. idle s p × KnowsFrom takes_up n ws k p) sites news
  takes on {C} sites ws n w olds news many many' below w-is so-far g =
      each-map (λ k s p. idle s p × (k < 0 → p ≡ slice_index_or olds k p) × (0 ≤ k → takes_up (slice_index_or olds k p) p × takes_up (slice_index_or w.passes.items k p) p)) (λ k s p. idle s p × KnowsFrom takes_up n ws k p) sites news g
      (λ k s p lt at r. let learns = r.2 (omega arith) in (
        r.0,
        (λ i d q le l. dite (ℕ_discrete i n)
            (λ (same : i ≡ n).
            let here : get_or ws i d ≡ w = ap (λ (j : ℕ). get_or ws j d) same ∙ (get_or_default ws n d w below ∙ sym w-is) in
            let pass : get_or (get_or ws i d).passes.items k q ≡ get_or w.passes.items k p = ap (λ (v : Worker C P). get_or v.passes.items k q) here ∙ get_or_default w.passes.items k q p (omega (arith, lt, many')) in
            subst (λ (z : P). takes_up z p) (sym pass) learns.1)
            (λ ne. on (get_or (get_or ws i d).passes.items k q) (get_or olds k p) p ((so-far.1 k s p lt).1 i d q (omega (arith, le, ne)) l) learns.0)),
      ))

-- what is taken up by one pass is taken up by whoever takes up that one
pub on : {P : Type 0} (hand : P → Hand) (past spun : P → List Moment) (p q r : P) → TakesUp hand past spun p q → TakesUp hand past spun q r → TakesUp hand past spun p r
on hand past spun p q r a b = ((λ e x knows. b.0 e x (a.0 e x knows)), (λ ms t. b.1 ms (a.1 ms t)), (λ ms t. b.2 ms (a.2 ms t)))

module _ {S P : Type 0} (idle : S → P → Type 0) (hand : P → Hand) (looked_back : S → P → ℕ → Type 0) (past spun : P → List Moment) where
  done-more : (b : Bool) (k : Plan) (h g : Hand) (t : ℕ) → KnowsMore h g → HasDoneOn b k h t → HasDoneOn b k g t
  done-more true k h g t more d = (d.0, record { exact = d.1.exact; known = λ c r at. more (record { task = t; call = c }) r (d.1.known c r at) }, d.2)
  done-more false k h g t more d = (d.0, record { exact = d.1.exact; known = λ c r at. more (record { task = t; call = c }) r (d.1.known c r at) }, d.2)

  pub runs : {C : Type 0} (is_space : S → Bool) (calls_on : S → Plan) (sites : List S) (ws after : List (Worker C P)) (news : List P) → ((k : ℕ) (s : S) → slice_get sites k ≡ Some s → length (calls_on s) ≡ length ws) → AreNumbered ws → HaveDoneTheirTasks idle hand looked_back past spun is_space calls_on sites ws after
      → EachOf (λ k s p. idle s p × KnowsFrom (TakesUp hand past spun) 0 after k p) sites news → EachOf (λ k s p. idle s p × KnowsAllDone hand is_space calls_on s p) sites news × EachOf (λ k s p. GoesBackToTasks looked_back past spun calls_on s p) sites news
  runs {C} is_space calls_on sites ws after news tasks numbered done each = (
    each-map (λ k s p. idle s p × KnowsFrom (TakesUp hand past spun) 0 after k p) (λ k s p. idle s p × KnowsAllDone hand is_space calls_on s p) sites news each
        (λ k s p lt at r. (
          r.0,
          (λ t l. let one = of k s p lt at r t l in done-more (is_space s) (calls_on s) (hand one.0) (hand p) t one.1.0 one.2.0),
        )),
    each-map (λ k s p. idle s p × KnowsFrom (TakesUp hand past spun) 0 after k p) (λ k s p. GoesBackToTasks looked_back past spun calls_on s p) sites news each
        (λ k s p lt at r t l. let one = of k s p lt at r t l in record { pass = one.2.1.pass; looked = one.2.1.looked; table = λ ms e. one.1.1 ms (one.2.1.table ms e); queue = λ ms e. one.1.2 ms (one.2.1.queue ms e) }),
  )
    where
      -- the pass of a task's worker, once it has done the task's calls
      of : (k : ℕ) (s : S) (p : P) → k < length sites → slice_get sites k ≡ Some s → idle s p × KnowsFrom (TakesUp hand past spun) 0 after k p → (t : ℕ) → t < length (calls_on s) → (q : P) × TakesUp hand past spun q p × (HasDoneOn (is_space s) (calls_on s) (hand q) t × GoesBackToTask looked_back past spun s t q)
      of k s p lt at r t l =
          let many = tasks k s at in
          let inside : t < length ws = omega (arith, l, many) in
          let d = (get-there ws t inside).0 in
          let did = done.1 t d inside in
          let task = did.task ∙ numbered t d inside in
          let there : t < length after = omega (arith, inside, done.0) in
          let q = get_or (get_or after t d).passes.items k p in
          let here = did.passes.1 k s p lt in
          let all = subst (λ (z : S). HasDoneOn (is_space z) (calls_on z) (hand q) (get_or after t d).task × GoesBackToTask looked_back past spun z (get_or after t d).task q) (get-some sites k s at) (here.1, here.2) in
          (q, r.1 t d p (omega arith) there, subst (λ (u : ℕ). HasDoneOn (is_space s) (calls_on s) (hand q) u × GoesBackToTask looked_back past spun s u q) task all)
