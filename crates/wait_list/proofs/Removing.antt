-- The steps of a removal, one after the other.
use Rattle.std.proofs.Common.{◌≡◌, ◌∙◌, ℕ, ◌+◌, ◌*◌, ◌/◌, ◌<◌, ◌≤◌, inl, inr, true, List, Some, length, get_or, set, sym, refl, ap, subst, arith, length-set, get_or-set_same, get_or-set_other}
use mathlib.Core.Logic.{dite}
use native.Mathlib.Decide.{ℕ_discrete}
use Rattle.lock_core.proofs.HandLaws.{not-both}
use Rattle.wait_list.specs.Lists.{AllowsChange, AllowsStill, IsList, IsStill, Knows, Learnt, LearntWord, Lists, MayStore, Part, Removes, counted, ending, first_code, leaving, list_part, listed, only_steps, prev_with, without}
use Rattle.wait_list.specs.Types.{View, SpinHand, Waiter, Change, Stay, Leave, ListHand}
use Rattle.wait_list.proofs.Waiters.{first-without}
use Rattle.wait_list.proofs.Walks.{before-among, before-small, behind-among, head-is, removed-lists}
use Rattle.wait_list.proofs.Courses.{Came, allowed-on, comes, comes-on, end-may, loads-on, part-of, stays-on, steps-on}
use Rattle.wait_list.specs.declared.words.TheConstants.{LIST_WORDS}
use Rattle.word_bits.specs.declared.TheConstants.{MAX_TASKS}
use Rattle.word_bits.specs.Histories.{Plan}

-- the store by which a task leaves: the head is still that of the list before
pub leave-may : (s : SpinHand) (b : ListHand) (t at n : ℕ) → Knows (s, b) → Lists b.words b.list → 0 < at → MayStore (s, b) at n (Leave t) (leaving b t at n)
leave-may s b t at n knows is behind = record {
  knows = knows;
  since = refl;
  list = refl;
  words = refl;
  leaver = refl;
  near = λ _. let word : get_or (set b.words at n) 0 0 ≡ first_code b.list = get_or-set_other b.words at 0 n 0 (λ e. omega (arith, e, behind)) ∙ head-is b.words b.list is in dite (ℕ_discrete (first_code b.list) (t + 1))
      (λ e. inr (inr (word ∙ e)))
      (λ not. inl (word ∙ sym (first-without t b.list not)));
  done = λ f. not-both true f refl;
}

-- the words after both stores
pub removed-words : (b : ListHand) (t next prev n : ℕ) → Lists b.words b.list → IsList b.list → length b.words ≡ LIST_WORDS → 0 < counted t b.list → t < MAX_TASKS → next ≡ get_or b.words (8 * (t + 1)) 0 → prev ≡ get_or b.words (8 * (t + 1) + 1) 0 / 2 → n ≡ prev_with b.words next prev
    → Lists (set (set b.words (8 * next + 1) n) (8 * prev) next) (without t b.list)
removed-words b t next prev n lists sound wide there small is_next is_prev is = let ws : List ℕ = set b.words (8 * next + 1) n in let us : List ℕ = set (set b.words (8 * next + 1) n) (8 * prev) next in removed-lists b.words us b.list t next prev lists sound there small (sym is_next) (sym is_prev)
    (λ j not_back not_link. get_or-set_other ws (8 * prev) j next 0 (λ e. not_link (omega (arith, e))) ∙ get_or-set_other b.words (8 * next + 1) j n 0 (λ e. not_back (omega (arith, e))))
    (get_or-set_same ws (8 * prev) next 0 (let l = length-set b.words (8 * next + 1) n in let m = before-small b.words t b.list sound.small there lists.walk in omega (arith, l, wide, m, is_prev)))
    (get_or-set_other ws (8 * prev) (8 * next + 1) next 0 (λ e. omega (arith, e)) ∙ (get_or-set_same b.words (8 * next + 1) n 0 (let f = lists.codes (t + 1) (omega (arith, small)) in omega (arith, wide, f, is_next)) ∙ is))

-- The facts on the way through a removal, from the view at its beginning.
module _ {E : Type 0} (list : E → ListHand) (with_list : Change → View E → ListHand → E) (may_change : Change → View E → List Waiter → Type 0)
    (back : (c : Change) (v : View E) (b : ListHand) → list (with_list c v b) ≡ b)
    (over : (c : Change) (v : View E) (n : ℕ) (b d : ListHand) → with_list c (record v { steps = n; ext = with_list Stay v b }) d ≡ with_list c v d)
    (again : (c : Change) (v : View E) (n : ℕ) (b d : ListHand) → d.list ≡ b.list → with_list Stay (record v { steps = n; ext = with_list c v b }) d ≡ with_list c v d)
    (may_on : (c : Change) (v : View E) (b : ListHand) (l : List Waiter) → may_change c v l → may_change c (listed with_list Stay v b) l)
    (v u1 : View E) (t next at1 : ℕ) (is1 : at1 ≡ 8 * (t + 1)) (told : LearntWord list with_list may_change v at1 next u1) (still : IsStill list v) (small : t < MAX_TASKS) (allows : AllowsChange list may_change (Leave t) v) where
  learnt : Learnt (list_part list v) told.0
  learnt = told.1

  lists : Lists told.0.words told.0.list
  lists = learnt.lists (learnt.changes ∙ still)

  host : may_change (Leave t) v told.0.list
  host = allows told.0.list (λ k. ap (λ (d : ListHand). d.list) (learnt.same k))

  there : 0 < counted t told.0.list
  there = told.4 (Leave t) host

  next-is : next ≡ get_or told.0.words (8 * (t + 1)) 0
  next-is = told.2 ∙ ap (λ (z : ℕ). get_or told.0.words z 0) is1

  pub next-small : next ≤ MAX_TASKS
  next-small = let f = lists.codes (t + 1) (omega (arith, small)) in let e = next-is in omega (arith, f, e)

  -- whom it names is a task of the plan
  pub next-few : (k : Plan) → v.hand.plan ≡ Some k → next ≤ length k
  next-few k its = let f = behind-among told.0.words t (length k) told.0.list (told.5 k its) there lists.walk in let e = next-is in omega (arith, f, e)

  came1 : Came list with_list back over again v Stay told.0 u1
  came1 = comes list with_list back over again v Stay told.0 u1 told.3

  module _ (u2 : View E) (word at2 : ℕ) (is2 : at2 ≡ 8 * (t + 1) + 1) (told2 : LearntWord list with_list may_change u1 at2 word u2) where
    loaded : (told2.0 ≡ told.0) × Came list with_list back over again v Stay told.0 u2
    loaded = loads-on list with_list back over again v told.0 told2.0 u1 u2 came1 learnt.knows told2.1 told2.3

    prev-is : word / 2 ≡ get_or told.0.words (8 * (t + 1) + 1) 0 / 2
    prev-is = ap (λ (z : ℕ). z / 2) (told2.2 ∙ (λ i. get_or (loaded.0 i).words (is2 i) 0))

    pub prev-small : word / 2 ≤ MAX_TASKS
    prev-small = let m = before-small told.0.words t told.0.list learnt.sound.small there lists.walk in let e = prev-is in omega (arith, m, e)

    pub prev-few : (k : Plan) → v.hand.plan ≡ Some k → word / 2 ≤ length k
    prev-few k its = let m = before-among told.0.words t (length k) told.0.list (told.5 k its) there lists.walk in let e = prev-is in omega (arith, m, e)

    part2 : list_part list u2 ≡ (v.spin, told.0)
    part2 = part-of list with_list back over again v Stay told.0 u2 loaded.1

    pub knows2 : Knows (list_part list u2)
    knows2 = subst Knows (sym part2) learnt.knows

    module _ (u3 : View E) (n : ℕ) (is : n ≡ prev_with (list u2.ext).words next (word / 2)) (only : only_steps u2 u3) (allowing : AllowsStill may_change u2 u3) where
      came3 : Came list with_list back over again v Stay told.0 u3
      came3 = steps-on list with_list back over again v Stay told.0 u2 u3 loaded.1 only

      part3 : list_part list u3 ≡ (v.spin, told.0)
      part3 = part-of list with_list back over again v Stay told.0 u3 came3

      pub leaves-knows : Knows (list_part list u3)
      leaves-knows = subst Knows (sym part3) learnt.knows

      pub leaves-lists : Lists (list u3.ext).words (list u3.ext).list
      leaves-lists = subst (λ (p : Part). Lists p.1.words p.1.list) (sym part3) lists

      pub leaves-host : may_change (Leave t) u3 (list u3.ext).list
      leaves-host = subst (λ (p : Part). may_change (Leave t) u3 p.1.list) (sym part3) (allowing (Leave t) told.0.list (allowed-on with_list may_change may_on (Leave t) u1 u2 told2.0 told.0.list told2.3 (allowed-on with_list may_change may_on (Leave t) v u1 told.0 told.0.list told.3 host)))

      value : n ≡ prev_with told.0.words next (word / 2)
      value = is ∙ (λ i. prev_with (part2 i).1.words next (word / 2))

      done : Lists (set (set told.0.words (8 * next + 1) n) (8 * (word / 2)) next) (without t told.0.list)
      done = removed-words told.0 t next (word / 2) n lists learnt.sound learnt.wide there small next-is prev-is value

      module _ (u4 : View E) (at3 : ℕ) (is3 : at3 ≡ 8 * next + 1) (e4 : u4 ≡ listed with_list (Leave t) u3 (leaving (list u3.ext) t at3 n)) where
        abbrev left : ListHand
        left = leaving told.0 t (8 * next + 1) n

        came4 : Came list with_list back over again v (Leave t) left u4
        came4 = comes-on list with_list back over again v (Leave t) told.0 left u3 u4 came3 (e4 ∙ (λ i. listed with_list (Leave t) u3 (leaving (part3 i).1 t (is3 i) n)))

        part4 : list_part list u4 ≡ (v.spin, left)
        part4 = part-of list with_list back over again v (Leave t) left u4 came4

        pub last-may : (at : ℕ) → at ≡ 8 * (word / 2) → MayStore (list_part list u4) at next Stay (ending (list u4.ext) at next)
        last-may at e = subst (λ (z : Part × ℕ). MayStore z.0 z.1 next Stay (ending z.0.1 z.1 next)) (λ i. (sym part4 i, sym e i)) (end-may v.spin left (8 * (word / 2)) next learnt.knows done)

        pub removes : (u5 : View E) (at : ℕ) → at ≡ 8 * (word / 2) → u5 ≡ listed with_list Stay u4 (ending (list u4.ext) at next) → Removes list with_list v t u5
        removes u5 at e e5 = record {
          was = told.0.list;
          hand = ending left (8 * (word / 2)) next;
          before = λ k. ap (λ (d : ListHand). d.list) (learnt.same k);
          sound = learnt.sound;
          few = told.5;
          there = there;
          now = refl;
          since = learnt.knows.1;
          still = refl;
          gone = refl;
          is = done;
          view = stays-on list with_list back over again v (Leave t) left (ending left (8 * (word / 2)) next) u4 u5 came4 refl (e5 ∙ (λ i. listed with_list Stay u4 (ending (part4 i).1 (e i) next)));
        }
