-- A pass uses as many nodes as its depth says, each with a number of its own below the depth: so it uses the node of each such number.
use Rattle.std.proofs.Common.{◌≡◌, ◌≢◌, ℕ, zero, suc, ◌+◌, ◌<◌, ◌≤◌, ◌==◌, Bool, true, false, List, [], ◌∷◌, Some, sym, refl, ap, ◌∙◌, subst, arith, eq-eqb, ne_eqb}
use mathlib.Core.Logic.{dite}
use native.Mathlib.Decide.{ℕ_discrete}
use Rattle.qspin_queue.specs.Types.{LockHand}
use Rattle.lock_core.specs.Records.{bit}
use Rattle.lock_core.specs.Totals.{total}
use Rattle.lock_core.specs.Views.{SpinPart}
use Rattle.lock_core.specs.LockHands.{lock_hand_in, lock_hands, frame_at, point_at, used_by, depth_of}
use Rattle.lock_core.specs.SpinFrames.{when, code_is, uses}
use Rattle.lock_core.specs.Spins.{OwnNodes, node_code}
use Rattle.lock_core.proofs.HandLaws.{false-or-true, same-number}
use Rattle.qspin_queue.proofs.Standing.{counts-stands}

-- f of each number below d, added up
abbrev below : (ℕ → ℕ) → ℕ → ℕ
below f zero = 0
below f (suc d) = below f d + f d

below-sum : (f g : ℕ → ℕ) (d : ℕ) → below (λ i. f i + g i) d ≡ below f d + below g d
below-sum f g zero = refl
below-sum f g (suc d) = let r = below-sum f g d in omega (arith, r)

below-none : (f : ℕ → ℕ) (d : ℕ) → ((i : ℕ) → i < d → f i ≡ 0) → below f d ≡ 0
below-none f zero none = refl
below-none f (suc d) none = let r = below-none f d (λ i less. none i (omega (arith, less))) in let z = none d (omega arith) in omega (arith, r, z)

below-one : (f : ℕ → ℕ) (d i : ℕ) → i < d → f i ≡ 1 → ((j : ℕ) → j ≢ i → f j ≡ 0) → below f d ≡ 1
below-one f zero i less one other = absurd (omega (arith, less))
below-one f (suc d) i less one other = dite (ℕ_discrete i d)
    (λ e. let last : f d ≡ 1 = ap f (sym e) ∙ one in let r = below-none f d (λ j few. other j (λ same. omega (arith, e, same, few))) in omega (arith, r, last))
    (λ n. let z = other d (λ e. n (sym e)) in let r = below-one f d i (omega (arith, less, n)) one other in omega (arith, r, z))

below-few : (f : ℕ → ℕ) (d : ℕ) → ((i : ℕ) → f i ≤ 1) → below f d ≤ d
below-few f zero few = omega arith
below-few f (suc d) few = let r = below-few f d few in let z = few d in omega (arith, r, z)

-- so many numbers of at most 1 that come to as many are all 1
below-full : (f : ℕ → ℕ) (d : ℕ) → ((i : ℕ) → f i ≤ 1) → below f d ≡ d → (i : ℕ) → i < d → f i ≡ 1
below-full f zero few all i less = absurd (omega (arith, less))
below-full f (suc d) few all i less = let most = below-few f d few in let last = few d in dite (ℕ_discrete i d)
    (λ e. let one : f d ≡ 1 = omega (arith, most, last, all) in ap f e ∙ one)
    (λ n. below-full f d few (omega (arith, most, last, all)) i (omega (arith, less, n)))

-- where two places of a list can't both count, one counts at most
total-zero : (f : LockHand → ℕ) (bs : List LockHand) → ((l : ℕ) → f (lock_hand_in bs l) ≡ 0) → total f bs ≡ 0
total-zero f [] none = refl
total-zero f (b ∷ bs) none = let z : f b ≡ 0 = none 0 in let r = total-zero f bs (λ l. none (suc l)) in omega (arith, z, r)

total-once : (f : LockHand → ℕ) (bs : List LockHand) → ((b : LockHand) → f b ≤ 1) → ((l m : ℕ) → 1 ≤ f (lock_hand_in bs l) → 1 ≤ f (lock_hand_in bs m) → l ≡ m) → total f bs ≤ 1
total-once f [] few apart = omega arith
total-once f (b ∷ bs) few apart = dite (ℕ_discrete (f b) 0)
    (λ z. let r = total-once f bs few (λ l m x y. let e = apart (suc l) (suc m) x y in omega (arith, e)) in omega (arith, z, r))
    (λ n. let first = few b in let mine : 1 ≤ f b = omega (arith, n) in let r = total-zero f bs (λ l. dite (ℕ_discrete (f (lock_hand_in bs l)) 0) (λ z. z) (λ some. let theirs : 1 ≤ f (lock_hand_in bs l) = omega (arith, some) in let e = apart 0 (suc l) mine theirs in absurd (omega (arith, e)))) in omega (arith, first, r))

total-alike : (f g : LockHand → ℕ) (bs : List LockHand) → ((l : ℕ) → f (lock_hand_in bs l) ≡ g (lock_hand_in bs l)) → total f bs ≡ total g bs
total-alike f g [] same = refl
total-alike f g (b ∷ bs) same = let e : f b ≡ g b = same 0 in let r = total-alike f g bs (λ l. same (suc l)) in omega (arith, e, r)

-- a sum that isn't 0 has a place that counts
some-place : (f : LockHand → ℕ) (bs : List LockHand) → 1 ≤ total f bs → (l : ℕ) × (1 ≤ f (lock_hand_in bs l))
some-place f [] some = absurd (omega (arith, some))
some-place f (b ∷ bs) some = dite (ℕ_discrete (f b) 0) (λ z. let r = some-place f bs (omega (arith, some, z)) in (suc r.0, r.1)) (λ n. let mine : 1 ≤ f b = omega (arith, n) in (0, mine))

-- 1 where it uses the node of this task and this number
abbrev is_node : ℕ → ℕ → LockHand → ℕ
is_node t i b = when (uses b.frame.point) (code_is (node_code t i) b.frame.code)

bit-few : (b : Bool) → bit b ≤ 1
bit-few true = omega arith
bit-few false = omega arith

when-few : (b : Bool) (n : ℕ) → n ≤ 1 → when b n ≤ 1
when-few true n few = few
when-few false n few = omega arith

is_node-few : (t i : ℕ) (b : LockHand) → is_node t i b ≤ 1
is_node-few t i b = when-few (uses b.frame.point) (code_is (node_code t i) b.frame.code) (bit-few (b.frame.code == node_code t i))

-- over the list and over the numbers the same nodes are counted
counted-both : (t d : ℕ) (bs : List LockHand) → below (λ i. total (is_node t i) bs) d ≡ total (λ b. below (λ i. is_node t i b) d) bs
counted-both t d [] = below-none (λ i. 0) d (λ i less. refl)
counted-both t d (b ∷ bs) = below-sum (λ i. is_node t i b) (λ i. total (is_node t i) bs) d ∙ ap (λ (z : ℕ). below (λ i. is_node t i b) d + z) (counted-both t d bs)

-- each place in use counts for one number below the depth
counted-used : (t d : ℕ) (b : LockHand) → (uses b.frame.point ≡ true → (i : ℕ) × (i < d) × (b.frame.code ≡ node_code t i)) → below (λ i. is_node t i b) d ≡ used_by b
counted-used t d b node = false-or-true (uses b.frame.point)
    (λ used. let n = node used in below-one (λ i. is_node t i b) d n.0 n.1
    (ap (λ (z : Bool). when z (code_is (node_code t n.0) b.frame.code)) used ∙ ap bit (eq-eqb b.frame.code (node_code t n.0) n.2))
    (λ j apart. ap (λ (z : Bool). when z (code_is (node_code t j) b.frame.code)) used ∙ ap bit (ne_eqb b.frame.code (node_code t j) (λ e. let same = n.2 in apart (omega (arith, e, same)))))
    ∙ sym (ap bit used))
    (λ free. below-none (λ i. is_node t i b) d (λ i less. ap (λ (z : Bool). when z (code_is (node_code t i) b.frame.code)) free) ∙ sym (ap bit free))

module _ (p : SpinPart) (o : OwnNodes p) where
  -- the task of a pass that uses a node
  user : 1 ≤ depth_of p.spin → (t : ℕ) × (p.task ≡ Some t)
  user some = let place = some-place used_by (lock_hands p.spin) some in false-or-true (uses (point_at place.0 p.spin))
      (λ used. let n = o.node place.0 used in (n.task, n.named))
      (λ free. let z : used_by (lock_hand_in (lock_hands p.spin) place.0) ≡ 0 = ap bit free in let one = place.1 in absurd (omega (arith, z, one)))

  own-index : (t : ℕ) → p.task ≡ Some t → (l : ℕ) → uses (point_at l p.spin) ≡ true → (i : ℕ) × (i < depth_of p.spin) × ((frame_at l p.spin).code ≡ node_code t i)
  own-index t named l used = let n = o.node l used in (n.index, n.below, subst (λ (z : ℕ). (frame_at l p.spin).code ≡ node_code z n.index) (same-number n.task t (sym n.named ∙ named)) n.is)

  filled-by : (t : ℕ) → p.task ≡ Some t → (i : ℕ) → i < depth_of p.spin → (l : ℕ) × (uses (point_at l p.spin) ≡ true) × ((frame_at l p.spin).code ≡ node_code t i)
  filled-by t named i less = let bs : List LockHand = lock_hands p.spin in let d : ℕ = depth_of p.spin in
      let few : (j : ℕ) → total (is_node t j) bs ≤ 1 = λ j. total-once (is_node t j) bs (is_node-few t j) (λ l m x y. let a = counts-stands (uses (point_at l p.spin)) (node_code t j) (frame_at l p.spin).code x in let b = counts-stands (uses (point_at m p.spin)) (node_code t j) (frame_at m p.spin).code y in o.apart l m a.0 b.0 (a.1 ∙ sym b.1)) in
      let all : below (λ j. total (is_node t j) bs) d ≡ d = counted-both t d bs ∙ total-alike (λ b. below (λ j. is_node t j b) d) used_by bs (λ l. counted-used t d (lock_hand_in bs l) (own-index t named l)) in
      let one : total (is_node t i) bs ≡ 1 = below-full (λ j. total (is_node t j) bs) d few all i less in let place = some-place (is_node t i) bs (omega (arith, one)) in
      let is = counts-stands (uses (point_at place.0 p.spin)) (node_code t i) (frame_at place.0 p.spin).code place.1 in (place.0, is.0, is.1)

  pub filled : (i : ℕ) → i < depth_of p.spin → (t : ℕ) × (l : ℕ) × (p.task ≡ Some t) × (uses (point_at l p.spin) ≡ true) × ((frame_at l p.spin).code ≡ node_code t i)
  filled i less = let u = user (omega (arith, less)) in let place = filled-by u.0 u.1 i less in (u.0, place.0, u.1, place.1, place.2)
