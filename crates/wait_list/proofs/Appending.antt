-- The stores of an append, one after the other.
use Rattle.std.proofs.Common.{◌≡◌, ◌∙◌, ℕ, ◌+◌, ◌*◌, ◌<◌, ◌≤◌, inl, inr, Bool, true, false, List, [], ◌∷◌, ◌++◌, Some, length, get_or, set, sym, refl, ap, subst, arith, length-set, get_or-set_same, get_or-set_other}
use Rattle.lock_core.specs.Records.{bit}
use Rattle.lock_core.proofs.HandLaws.{not-both}
use Rattle.wait_list.specs.Lists.{AllowsChange, Appends, IsList, IsNear, IsPrepared, IsStill, Knows, Learnt, LearntWord, Lists, MayStore, Part, counted, ending, entering, first_code, going_on, list_part, listed}
use Rattle.wait_list.specs.Types.{View, SpinHand, Waiter, Change, Stay, Enter, ListHand}
use Rattle.wait_list.proofs.Walks.{appended-lists, apart-lists, head-is, last-among, last-small}
use Rattle.wait_list.proofs.Courses.{Came, allowed-on, comes, comes-on, end-may, part-of, stay-may, stays-on}
use Rattle.wait_list.specs.declared.words.TheConstants.{LIST_WORDS}
use Rattle.word_bits.specs.declared.TheConstants.{MAX_TASKS}
use Rattle.word_bits.specs.Histories.{Plan}

first-append : (ws : List ℕ) (l : List Waiter) (w : Waiter) → get_or ws 0 0 ≡ first_code l → IsNear ws (l ++ w ∷ []) 0
first-append ws [] w is = inr (inl is)
first-append ws (x ∷ l) w is = inl is

-- the store of the tail, by which the waiter enters
pub enter-may : (s : SpinHand) (b : ListHand) (w : Waiter) (n : ℕ) → Knows (s, b) → Lists b.words b.list → MayStore (s, b) 1 n (Enter w) (entering b w 1 n)
enter-may s b w n knows is = record {
  knows = knows;
  since = refl;
  list = refl;
  words = refl;
  leaver = refl;
  near = λ _. first-append (set b.words 1 n) b.list w (get_or-set_other b.words 1 0 n 0 (λ e. omega (arith, e)) ∙ head-is b.words b.list is);
  done = λ f. not-both true f refl;
}

pub byte-bit : (b : Bool) → (mir.Val.bool_byte b ≡ bit b) × (bit b ≤ 1)
byte-bit true = (refl, omega arith)
byte-bit false = (refl, omega arith)

-- the words on the way, where those before are the list's, and the waiter isn't in it
module _ (b : ListHand) (w : Waiter) (tail n : ℕ) (lists : Lists b.words b.list) (wide : length b.words ≡ LIST_WORDS) (fresh : counted w.task b.list ≡ 0) (small : w.task < MAX_TASKS) (is_tail : tail ≡ get_or b.words 1 0) where
  abbrev pub after_next : ListHand
  after_next = going_on b (8 * (w.task + 1)) 0

  abbrev pub after_prev : ListHand
  after_prev = going_on after_next (8 * (w.task + 1) + 1) n

  abbrev pub after_tail : ListHand
  after_tail = entering after_prev w 1 (w.task + 1)

  abbrev pub after_link : ListHand
  after_link = ending after_tail (8 * tail) (w.task + 1)

  wide-next : length after_next.words ≡ LIST_WORDS
  wide-next = length-set b.words (8 * (w.task + 1)) 0 ∙ wide

  wide-prev : length after_prev.words ≡ LIST_WORDS
  wide-prev = length-set after_next.words (8 * (w.task + 1) + 1) n ∙ wide-next

  wide-tail : length after_tail.words ≡ LIST_WORDS
  wide-tail = length-set after_prev.words 1 (w.task + 1) ∙ wide-prev

  pub wide-link : length after_link.words ≡ LIST_WORDS
  wide-link = length-set after_tail.words (8 * tail) (w.task + 1) ∙ wide-tail

  own-next : get_or after_next.words (8 * (w.task + 1)) 0 ≡ 0
  own-next = get_or-set_same b.words (8 * (w.task + 1)) 0 0 (omega (arith, wide, small))

  pub lists-next : Lists after_next.words b.list
  lists-next = apart-lists b.words after_next.words b.list w.task lists fresh (λ j a _. get_or-set_other b.words (8 * (w.task + 1)) j 0 0 (λ e. a (omega (arith, e)))) (let o = own-next in omega (arith, o))

  kept-next : get_or after_prev.words (8 * (w.task + 1)) 0 ≡ 0
  kept-next = get_or-set_other after_next.words (8 * (w.task + 1) + 1) (8 * (w.task + 1)) n 0 (λ e. omega (arith, e)) ∙ own-next

  pub lists-prev : Lists after_prev.words b.list
  lists-prev = apart-lists after_next.words after_prev.words b.list w.task lists-next fresh (λ j _ a. get_or-set_other after_next.words (8 * (w.task + 1) + 1) j n 0 (λ e. a (omega (arith, e)))) (let o = kept-next in omega (arith, o))

  tail-kept : get_or after_prev.words 1 0 ≡ tail
  tail-kept = get_or-set_other after_next.words (8 * (w.task + 1) + 1) 1 n 0 (λ e. omega (arith, e)) ∙ (get_or-set_other b.words (8 * (w.task + 1)) 1 0 0 (λ e. omega (arith, e)) ∙ sym is_tail)

  pub prepared : n ≡ 2 * tail + bit w.writer → IsPrepared after_prev.words w
  prepared is = (kept-next, get_or-set_same after_next.words (8 * (w.task + 1) + 1) n 0 (let l = wide-next in omega (arith, l, small)) ∙ (is ∙ ap (λ (z : ℕ). 2 * z + bit w.writer) (sym tail-kept)))

  pub lists-link : IsList b.list → n ≡ 2 * tail + bit w.writer → Lists after_link.words (b.list ++ w ∷ [])
  lists-link sound is = appended-lists after_prev.words after_link.words b.list w lists-prev sound fresh small (prepared is)
      (λ j not_tail not_link. get_or-set_other after_tail.words (8 * tail) j (w.task + 1) 0 (λ e. not_link (let t = tail-kept in omega (arith, e, t))) ∙ get_or-set_other after_prev.words 1 j (w.task + 1) 0 (λ e. not_tail (omega (arith, e))))
      (get_or-set_other after_tail.words (8 * tail) 1 (w.task + 1) 0 (λ e. omega (arith, e)) ∙ get_or-set_same after_prev.words 1 (w.task + 1) 0 (let l = wide-prev in omega (arith, l)))
      (ap (λ (z : ℕ). get_or after_link.words (8 * z) 0) tail-kept ∙ get_or-set_same after_tail.words (8 * tail) (w.task + 1) 0 (let l = wide-tail in let t = lists.tail in let m = last-small b.list sound.small in omega (arith, l, t, m, is_tail)))

-- The facts on the way through an append, from the view at its beginning.
module _ {E : Type 0} (list : E → ListHand) (with_list : Change → View E → ListHand → E) (may_change : Change → View E → List Waiter → Type 0)
    (back : (c : Change) (v : View E) (b : ListHand) → list (with_list c v b) ≡ b)
    (over : (c : Change) (v : View E) (n : ℕ) (b d : ListHand) → with_list c (record v { steps = n; ext = with_list Stay v b }) d ≡ with_list c v d)
    (again : (c : Change) (v : View E) (n : ℕ) (b d : ListHand) → d.list ≡ b.list → with_list Stay (record v { steps = n; ext = with_list c v b }) d ≡ with_list c v d)
    (may_on : (c : Change) (v : View E) (b : ListHand) (l : List Waiter) → may_change c v l → may_change c (listed with_list Stay v b) l)
    (v u1 : View E) (w : Waiter) (tail n : ℕ) (told : LearntWord list with_list may_change v 1 tail u1) (still : IsStill list v) (small : w.task < MAX_TASKS) (allows : AllowsChange list may_change (Enter w) v) where
  abbrev hand : ListHand
  hand = told.0

  learnt : Learnt (list_part list v) told.0
  learnt = told.1

  lists : Lists told.0.words told.0.list
  lists = learnt.lists (learnt.changes ∙ still)

  still-here : told.0.changes ≡ false
  still-here = learnt.changes ∙ still

  host : may_change (Enter w) v told.0.list
  host = allows told.0.list (λ k. ap (λ (d : ListHand). d.list) (learnt.same k))

  fresh : counted w.task told.0.list ≡ 0
  fresh = (told.4 (Enter w) host).1

  pub tail-small : tail ≤ MAX_TASKS
  tail-small = let t = lists.tail in let m = last-small told.0.list learnt.sound.small in let e = told.2 in omega (arith, t, m, e)

  -- the last waiter is a task of the plan
  pub tail-few : (k : Plan) → v.hand.plan ≡ Some k → tail ≤ length k
  tail-few k its = let t = lists.tail in let m = last-among (length k) told.0.list (told.5 k its) in let e = told.2 in omega (arith, t, m, e)

  abbrev hand_next : ListHand
  hand_next = after_next told.0 w tail n lists learnt.wide fresh small told.2

  abbrev hand_prev : ListHand
  hand_prev = after_prev told.0 w tail n lists learnt.wide fresh small told.2

  abbrev hand_tail : ListHand
  hand_tail = after_tail told.0 w tail n lists learnt.wide fresh small told.2

  abbrev hand_link : ListHand
  hand_link = after_link told.0 w tail n lists learnt.wide fresh small told.2

  came1 : Came list with_list back over again v Stay told.0 u1
  came1 = comes list with_list back over again v Stay told.0 u1 told.3

  part1 : list_part list u1 ≡ (v.spin, told.0)
  part1 = part-of list with_list back over again v Stay told.0 u1 came1

  pub next-may : (at : ℕ) → at ≡ 8 * (w.task + 1) → MayStore (list_part list u1) at 0 Stay (going_on (list u1.ext) at 0)
  next-may at is = subst (λ (z : Part × ℕ). MayStore z.0 z.1 0 Stay (going_on z.0.1 z.1 0)) (λ i. (sym part1 i, sym is i))
      (stay-may v.spin told.0 (8 * (w.task + 1)) 0 learnt.knows still-here (lists-next told.0 w tail n lists learnt.wide fresh small told.2))

  pub still1 : IsStill list u1
  still1 = ap (λ (p : Part). p.1.changes) part1 ∙ still-here

  module _ (u2 : View E) (at1 : ℕ) (is1 : at1 ≡ 8 * (w.task + 1)) (e2 : u2 ≡ listed with_list Stay u1 (going_on (list u1.ext) at1 0)) where
    came2 : Came list with_list back over again v Stay hand_next u2
    came2 = comes-on list with_list back over again v Stay told.0 hand_next u1 u2 came1 (e2 ∙ (λ i. listed with_list Stay u1 (going_on (part1 i).1 (is1 i) 0)))

    part2 : list_part list u2 ≡ (v.spin, hand_next)
    part2 = part-of list with_list back over again v Stay hand_next u2 came2

    pub still2 : IsStill list u2
    still2 = ap (λ (p : Part). p.1.changes) part2 ∙ still-here

    pub prev-may : (at : ℕ) → at ≡ 8 * (w.task + 1) + 1 → MayStore (list_part list u2) at n Stay (going_on (list u2.ext) at n)
    prev-may at is = subst (λ (z : Part × ℕ). MayStore z.0 z.1 n Stay (going_on z.0.1 z.1 n)) (λ i. (sym part2 i, sym is i))
        (stay-may v.spin hand_next (8 * (w.task + 1) + 1) n learnt.knows still-here (lists-prev told.0 w tail n lists learnt.wide fresh small told.2))

    module _ (u3 : View E) (at2 : ℕ) (is2 : at2 ≡ 8 * (w.task + 1) + 1) (writes : n ≡ 2 * tail + bit w.writer) (e3 : u3 ≡ listed with_list Stay u2 (going_on (list u2.ext) at2 n)) where
      came3 : Came list with_list back over again v Stay hand_prev u3
      came3 = comes-on list with_list back over again v Stay hand_next hand_prev u2 u3 came2 (e3 ∙ (λ i. listed with_list Stay u2 (going_on (part2 i).1 (is2 i) n)))

      part3 : list_part list u3 ≡ (v.spin, hand_prev)
      part3 = part-of list with_list back over again v Stay hand_prev u3 came3

      pub enters-knows : Knows (list_part list u3)
      enters-knows = subst Knows (sym part3) learnt.knows

      pub enters-lists : Lists (list u3.ext).words (list u3.ext).list
      enters-lists = subst (λ (p : Part). Lists p.1.words p.1.list) (sym part3) (lists-prev told.0 w tail n lists learnt.wide fresh small told.2)

      pub enters-prepared : IsPrepared (list u3.ext).words w
      enters-prepared = subst (λ (p : Part). IsPrepared p.1.words w) (sym part3) (prepared told.0 w tail n lists learnt.wide fresh small told.2 writes)

      pub enters-host : may_change (Enter w) u3 (list u3.ext).list
      enters-host = subst (λ (p : Part). may_change (Enter w) u3 p.1.list) (sym part3) (allowed-on with_list may_change may_on (Enter w) u2 u3 (going_on (list u2.ext) at2 n) told.0.list e3
          (allowed-on with_list may_change may_on (Enter w) u1 u2 (going_on (list u1.ext) at1 0) told.0.list e2 (allowed-on with_list may_change may_on (Enter w) v u1 told.0 told.0.list told.3 host)))

      module _ (u4 : View E) (e4 : u4 ≡ listed with_list (Enter w) u3 (entering (list u3.ext) w 1 (w.task + 1))) where
        came4 : Came list with_list back over again v (Enter w) hand_tail u4
        came4 = comes-on list with_list back over again v (Enter w) hand_prev hand_tail u3 u4 came3 (e4 ∙ (λ i. listed with_list (Enter w) u3 (entering (part3 i).1 w 1 (w.task + 1))))

        part4 : list_part list u4 ≡ (v.spin, hand_tail)
        part4 = part-of list with_list back over again v (Enter w) hand_tail u4 came4

        done : Lists hand_link.words (told.0.list ++ w ∷ [])
        done = lists-link told.0 w tail n lists learnt.wide fresh small told.2 learnt.sound writes

        pub link-may : (at code : ℕ) → at ≡ 8 * tail → code ≡ w.task + 1 → MayStore (list_part list u4) at code Stay (ending (list u4.ext) at code)
        link-may at code is coded = subst (λ (z : Part × ℕ × ℕ). MayStore z.0 z.1 z.2 Stay (ending z.0.1 z.1 z.2)) (λ i. (sym part4 i, sym is i, sym coded i)) (end-may v.spin hand_tail (8 * tail) (w.task + 1) learnt.knows done)

        pub appends : (u5 : View E) (at code : ℕ) → at ≡ 8 * tail → code ≡ w.task + 1 → u5 ≡ listed with_list Stay u4 (ending (list u4.ext) at code) → Appends list with_list v w u5
        appends u5 at code is coded e5 = record {
          was = told.0.list;
          hand = hand_link;
          before = λ k. ap (λ (d : ListHand). d.list) (learnt.same k);
          sound = learnt.sound;
          few = told.5;
          fresh = fresh;
          now = refl;
          since = learnt.knows.1;
          still = refl;
          wide = wide-link told.0 w tail n lists learnt.wide fresh small told.2;
          is = done;
          view = stays-on list with_list back over again v (Enter w) hand_tail hand_link u4 u5 came4 refl (e5 ∙ (λ i. listed with_list Stay u4 (ending (part4 i).1 (is i) (coded i))));
        }
