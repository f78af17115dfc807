-- What loads tell of the list: who is first, and who stands behind a task.
use Rattle.std.proofs.Common.{◌≡◌, ◌≢◌, ◌∙◌, ℕ, ◌+◌, ◌-◌, ◌*◌, ◌%◌, ◌==◌, ◌<◌, ◌≤◌, false, List, Option, Some, None, length, get_or, sym, refl, ap, subst, arith}
use mathlib.Core.Logic.{dite}
use native.Mathlib.Decide.{ℕ_discrete}
use Rattle.word_bits.specs.declared.TheConstants.{MAX_TASKS}
use Rattle.word_bits.specs.Histories.{Plan}
use Rattle.lock_core.specs.Pasts.{FoundAt, FoundSince, GoesOn, IsOwnStep}
use Rattle.lock_core.specs.Laws.SiteRun.{found-at-step}
use Rattle.wait_list.specs.Lists.{ArePlanned, FindsBehind, FindsFirst, FindsNext, Knows, KnowsCode, Learnt, counted, Part, list_part, listed}
use Rattle.wait_list.specs.Types.{Moment, View, Waiter, Change, Stay, ListHand}
use Rattle.wait_list.proofs.Walks.{behind-among, behind-first, behind-next, first-among, head-is, parity}

-- what a step of a pass found, it has found since an earlier one
pub found-since : {E : Type 0} (v : View E) (task : Option ℕ) (begun done i n : ℕ) (old past new : List Moment) → v.hand.task ≡ task → begun < v.steps → v.steps ≤ done → IsOwnStep v past → FoundAt i n past → GoesOn old past → GoesOn past new → FoundSince task begun done i n old new
found-since v task begun done i n old past new named later by_now own found after goes = (v.steps, later, by_now, found-at-step v task i n old past new named own found after goes)

-- a word of the list, which a load found
pub finds-word : {E : Type 0} (with_list : Change → View E → ListHand → E) (v u : View E) (b : ListHand) (place at i word n done : ℕ) (old past new : List Moment) → u ≡ listed with_list Stay v b → u.steps ≤ done → IsOwnStep u past → FoundAt (place + at) word past → at ≡ i → word ≡ n → GoesOn old past → GoesOn past new
    → FoundSince v.hand.task v.steps done (place + i) n old new
finds-word {E} with_list v u b place at i word n done old past new is by_now own found there same after goes =
    found-since u v.hand.task v.steps done (place + i) n old past new (ap (λ (w : View E). w.hand.task) is) (let s = ap (λ (w : View E). w.steps) is in omega (arith, s)) by_now own (subst (λ (z : ℕ × ℕ). FoundAt (place + z.0) z.1 past) (λ k. (there k, same k)) found) after goes

module _ {E : Type 0} (list : E → ListHand) (with_list : Change → View E → ListHand → E)
    (back : (c : Change) (v : View E) (b : ListHand) → list (with_list c v b) ≡ b)
    (over : (c : Change) (v : View E) (n : ℕ) (b d : ListHand) → with_list c (record v { steps = n; ext = with_list Stay v b }) d ≡ with_list c v d)
    (v w1 : View E) (b : ListHand) (learnt : Learnt (list_part list v) b) (e1 : w1 ≡ listed with_list Stay v b) where
  pub part1 : list_part list w1 ≡ (v.spin, b)
  part1 = ap (list_part list) e1 ∙ (λ i. (v.spin, back Stay v b i))

  pub knows1 : Knows (list_part list w1)
  knows1 = subst Knows (sym part1) learnt.knows

  view1 : w1 ≡ record v { steps = w1.steps; ext = with_list Stay v b }
  view1 = subst (λ (z : View E). z ≡ record v { steps = z.steps; ext = with_list Stay v b }) (sym e1) refl

  module _ (w2 : View E) (b2 : ListHand) (learnt2 : Learnt (list_part list w1) b2) (e2 : w2 ≡ listed with_list Stay w1 b2) where
    -- a second load tells nothing new
    pub same2 : b2 ≡ b
    same2 = learnt2.same knows1 ∙ ap (λ (p : Part). p.1) part1

    pub view2 : w2 ≡ record v { steps = w2.steps; ext = with_list Stay v b }
    view2 = subst (λ (z : View E). z ≡ record v { steps = z.steps; ext = with_list Stay v b }) (sym e2) (λ i. record (e1 i) { steps = w1.steps + 1; ext = ext i })
      where
        ext : with_list Stay w1 b2 ≡ with_list Stay v b
        ext = ap (λ (z : View E). with_list Stay z b2) e1 ∙ (over Stay v (v.steps + 1) b b2 ∙ ap (with_list Stay v) same2)

  module _ (still : (list v.ext).changes ≡ false) (code next at : ℕ) (small : code ≤ MAX_TASKS) (is_at : at ≡ 8 * code) (told : next ≡ get_or b.words at 0) (few : ArePlanned v b.list) where
    names : get_or b.words (8 * code) 0 ≡ next
    names = ap (λ (z : ℕ). get_or b.words z 0) (sym is_at) ∙ sym told

    pub next-small : next ≤ MAX_TASKS
    next-small = let f = (learnt.lists (learnt.changes ∙ still)).codes code small in let e = names in omega (arith, f, e)

    -- whom the word of a waiter's code names, or the head, is a task of the plan
    pub next-few : (k : Plan) → v.hand.plan ≡ Some k → KnowsCode list code v → next ≤ length k
    next-few k its knows = let r = learnt.lists (learnt.changes ∙ still) in let e = names in dite (ℕ_discrete code 0)
        (λ none. let f = first-among (length k) b.list (few k its) in let h = head-is b.words b.list r in let g = ap (λ (z : ℕ). get_or b.words (8 * z) 0) none in omega (arith, e, f, g, h))
        (λ some. let t : ℕ = code - 1 in let one = knows t (omega (arith, some)) in let there : 0 < counted t b.list = subst (λ (d : ListHand). 0 < counted t d.list) (sym (learnt.same one.0)) one.1 in let f = behind-among b.words t (length k) b.list (few k its) there r.walk in let g : code ≡ t + 1 = omega (arith, some) in let h = ap (λ (z : ℕ). get_or b.words (8 * z) 0) g in omega (arith, e, f, h))

    pub finds-none : next ≡ 0 → FindsBehind list with_list v code None w1
    finds-none none = record { hand = b; learnt = learnt; few = few; is = names ∙ none; view = view1 }

    pub finds-some : (prev task at2 : ℕ) (w2 : View E) (b2 : ListHand) → next ≢ 0 → task ≡ next - 1 → at2 ≡ 8 * next + 1 → Learnt (list_part list w1) b2 → prev ≡ get_or b2.words at2 0 → w2 ≡ listed with_list Stay w1 b2 → FindsBehind list with_list v code (Some (record { task = task; writer = prev % 2 == 1 })) w2
    finds-some prev task at2 w2 b2 some is is2 learnt2 told2 e2 = let up : next ≡ task + 1 = omega (arith, some, is) in record {
      hand = b;
      learnt = learnt;
      few = few;
      is = (names ∙ up, (let e : prev ≡ get_or b.words (8 * (task + 1) + 1) 0 = told2 ∙ ((λ i. get_or (same2 w2 b2 learnt2 e2 i).words (is2 i) 0) ∙ ap (λ (z : ℕ). get_or b.words (8 * z + 1) 0) up) in let p = parity prev in omega (arith, e, p)));
      view = view2 w2 b2 learnt2 e2;
    }

module _ {E : Type 0} (list : E → ListHand) (with_list : Change → View E → ListHand → E) (v u : View E) (still : (list v.ext).changes ≡ false) where
  pub finds-first : (first : Option Waiter) → FindsBehind list with_list v 0 first u → FindsFirst list with_list v first u
  finds-first first f = let lists = f.learnt.lists (f.learnt.changes ∙ still) in record { hand = f.hand; learnt = f.learnt; few = f.few; is = behind-first f.hand.words 0 f.hand.list first lists.walk f.is; view = f.view }

  pub finds-next : (t : ℕ) (next : Option Waiter) → FindsBehind list with_list v (t + 1) next u → FindsNext list with_list v t next u
  finds-next t next f = let lists = f.learnt.lists (f.learnt.changes ∙ still) in record { hand = f.hand; learnt = f.learnt; few = f.few; is = λ there. behind-next f.hand.words t 0 f.hand.list next there lists.walk f.is; view = f.view }
