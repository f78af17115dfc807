-- Laws of sums and of the view at a stage.
use Rattle.std.proofs.Common.{◌≡◌, ℕ, zero, suc, ◌≤◌, List, [], ◌∷◌, set, sym, refl, ap, ◌∙◌, subst, arith}
use mathlib.Core.Option.{some, some-injective, some-ne-none}
use lib.ListN.{get_elem?}
use Rattle.lock_core.specs.Totals.{total, total-set, total-at}
use Rattle.rwsem_wake.specs.SemParts.{SemPart, nobody, busy_of, busy_weight}
use Rattle.rwsem_wake.specs.GrantSemaphores.{pick, now, FlagsAt, FlagsOf, Quiet}
use Rattle.rwsem_wake.specs.Types.{Waiter, Stage, Rest, Armed, Joining, First, Marking, Took, Removed, Emptied, Overdue, Marked, Removing, Summing, Counted, Granting}

pub total-least : {V : Type 0} (f g : V → ℕ) → ((v : V) → f v ≤ g v) → (vs : List V) → total f vs ≤ total g vs
total-least f g less [] = omega arith
total-least f g less (v ∷ vs) = let a = less v in let b = total-least f g less vs in omega arith

pub total-none : {V : Type 0} (f : V → ℕ) (vs : List V) (i : ℕ) (v : V) → get_elem? vs i ≡ some v → total f vs ≡ 0 → f v ≡ 0
total-none f vs i v at e = let a = total-at f vs i v at in omega arith

pub busy-most : (s : Stage) → busy_weight s ≤ 1
busy-most Rest = omega arith
busy-most Armed = omega arith
busy-most (Joining b) = omega arith
busy-most First = omega arith
busy-most Marking = omega arith
busy-most Took = omega arith
busy-most Removed = omega arith
busy-most Emptied = omega arith
busy-most (Overdue b) = omega arith
busy-most (Marked b) = omega arith
busy-most Removing = omega arith
busy-most Summing = omega arith
busy-most (Counted b) = omega arith
busy-most Granting = omega arith

pub rests : (s : Stage) → busy_weight s ≡ 0 → s ≡ Rest
rests Rest e = refl
rests Armed e = absurd (omega (arith, e))
rests (Joining b) e = absurd (omega (arith, e))
rests First e = absurd (omega (arith, e))
rests Marking e = absurd (omega (arith, e))
rests Took e = absurd (omega (arith, e))
rests Removed e = absurd (omega (arith, e))
rests Emptied e = absurd (omega (arith, e))
rests (Overdue b) e = absurd (omega (arith, e))
rests (Marked b) e = absurd (omega (arith, e))
rests Removing e = absurd (omega (arith, e))
rests Summing e = absurd (omega (arith, e))
rests (Counted b) e = absurd (omega (arith, e))
rests Granting e = absurd (omega (arith, e))

pick-none : (n : ℕ) (v w : SemPart) → n ≡ 0 → pick n v w ≡ w
pick-none zero v w e = refl
pick-none (suc n) v w e = absurd (omega arith)

pick-one : (n : ℕ) (v w : SemPart) → n ≡ 1 → pick n v w ≡ v
pick-one zero v w e = absurd (omega arith)
pick-one (suc n) v w e = refl

pub now-idle : (vs : List SemPart) → total busy_of vs ≡ 0 → now vs ≡ nobody
now-idle [] e = refl
now-idle (v ∷ vs) e = pick-none (busy_of v) v (now vs) (omega arith) ∙ now-idle vs (omega arith)

pub now-at : (vs : List SemPart) (id : ℕ) (v : SemPart) → get_elem? vs id ≡ some v → busy_of v ≡ 1 → total busy_of vs ≤ 1 → now vs ≡ v
now-at [] id v at b one = absurd (some-ne-none v (sym at))
now-at (x ∷ vs) zero v at b one = let is = some-injective x v at in pick-one (busy_of x) x (now vs) (ap busy_of is ∙ b) ∙ is
now-at (x ∷ vs) (suc id) v at b one = let a = total-at busy_of vs id v at in pick-none (busy_of x) x (now vs) (omega arith) ∙ now-at vs id v at b (omega arith)

pub now-beside : (vs : List SemPart) (id : ℕ) (v w : SemPart) → get_elem? vs id ≡ some v → busy_of v ≡ 0 → busy_of w ≡ 0 → now (set vs id w) ≡ now vs
now-beside [] id v w at a b = absurd (some-ne-none v (sym at))
now-beside (x ∷ vs) zero v w at a b = let is = some-injective x v at in pick-none (busy_of w) w (now vs) b ∙ sym (pick-none (busy_of x) x (now vs) (ap busy_of is ∙ a))
now-beside (x ∷ vs) (suc id) v w at a b = ap (pick (busy_of x) x) (now-beside vs id v w at a b)

pub set-mine : (vs : List SemPart) (id : ℕ) (v u : SemPart) → get_elem? vs id ≡ some v → get_elem? (set vs id u) id ≡ some u
set-mine [] id v u at = absurd (some-ne-none v (sym at))
set-mine (x ∷ vs) zero v u at = refl
set-mine (x ∷ vs) (suc id) v u at = set-mine vs id v u at

module _ (w h : ℕ) (q : List Waiter) (marks grants : List ℕ) where
  abbrev Flags : SemPart → Type 0
  Flags v = FlagsOf v w h q marks grants

  -- at rest the rule is the quiet one
  pub flags-rest : (v : SemPart) → busy_of v ≡ 0 → Flags v → Quiet w h q marks
  flags-rest v e = subst (λ (s : Stage). FlagsAt s v.task v.sem.rest w h q marks grants → Quiet w h q marks) (sym (rests v.sem.stage e)) (λ f. f)

  pub rest-flags : (v : SemPart) → busy_of v ≡ 0 → Quiet w h q marks → Flags v
  rest-flags v e = subst (λ (s : Stage). Quiet w h q marks → FlagsAt s v.task v.sem.rest w h q marks grants) (sym (rests v.sem.stage e)) (λ f. f)

  -- a holder of the wait lock has the facts of its own stage
  pub mine-of : (vs : List SemPart) (id : ℕ) (v : SemPart) → get_elem? vs id ≡ some v → total busy_of vs ≡ busy_of v → Flags (now vs) → Flags v
  mine-of vs id v at only f = elim (native.Mathlib.Decide.dec_le 1 (busy_of v)) [
    | yes l ↦ let m = busy-most v.sem.stage in subst Flags (now-at vs id v at (omega (arith, l, m)) (omega (arith, only, m))) f
    | no l ↦ let z : busy_of v ≡ 0 = omega (arith, l) in rest-flags v z (flags-rest nobody refl (subst Flags (now-idle vs (omega (arith, only, z))) f))
  ]

  -- and gives those of its next stage
  pub of-mine : (vs : List SemPart) (id : ℕ) (v u : SemPart) → get_elem? vs id ≡ some v → total busy_of vs ≡ busy_of v → Flags u → Flags (now (set vs id u))
  of-mine vs id v u at only f = let t = total-set busy_of vs id v u at in let mine = set-mine vs id v u at in let m = busy-most u.sem.stage in elim (native.Mathlib.Decide.dec_le 1 (busy_of u)) [
    | yes l ↦ subst Flags (sym (now-at (set vs id u) id u mine (omega (arith, l, m)) (omega (arith, only, t, m)))) f
    | no l ↦ let z : busy_of u ≡ 0 = omega (arith, l) in subst Flags (sym (now-idle (set vs id u) (omega (arith, only, t, z)))) (rest-flags nobody refl (flags-rest u z f))
  ]

  -- a step that leaves its stage leaves the facts of whatever stage there is
  pub of-others : (vs : List SemPart) (id : ℕ) (v u : SemPart) → get_elem? vs id ≡ some v → total busy_of vs ≤ 1 → busy_of u ≡ busy_of v → (Flags v → Flags u) → Flags (now vs) → Flags (now (set vs id u))
  of-others vs id v u at one same go f = let t = total-set busy_of vs id v u at in let m = busy-most v.sem.stage in elim (native.Mathlib.Decide.dec_le 1 (busy_of v)) [
    | yes l ↦ let is : busy_of v ≡ 1 = omega (arith, l, m) in subst Flags (sym (now-at (set vs id u) id u (set-mine vs id v u at) (omega (arith, is, same)) (omega (arith, t, same, one)))) (go (subst Flags (now-at vs id v at is one) f))
    | no l ↦ let z : busy_of v ≡ 0 = omega (arith, l) in subst Flags (sym (now-beside vs id v u at z (omega (arith, z, same)))) f
  ]
