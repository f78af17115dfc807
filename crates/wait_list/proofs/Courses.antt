-- Where steps on the list lead that a pass makes one after the other.
use Rattle.std.proofs.Common.{◌≡◌, ◌∙◌, ℕ, ◌+◌, false, List, refl, sym, ap, subst, inl, inr, set}
use Rattle.lock_core.proofs.HandLaws.{not-both}
use Rattle.wait_list.specs.Lists.{Knows, Learnt, Lists, MayStore, ending, going_on, list_part, listed}
use Rattle.wait_list.specs.Types.{View, SpinHand, Waiter, Change, Stay, ListHand}

-- a store after which the words are still those of the list, and one after which they are so again
pub stay-may : (s : SpinHand) (d : ListHand) (i n : ℕ) → Knows (s, d) → d.changes ≡ false → Lists (set d.words i n) d.list → MayStore (s, d) i n Stay (going_on d i n)
stay-may s d i n knows still is = record { knows = knows; since = refl; list = refl; words = refl; leaver = inl refl; near = λ t. not-both d.changes still t; done = λ _. is }

pub end-may : (s : SpinHand) (d : ListHand) (i n : ℕ) → Knows (s, d) → Lists (set d.words i n) d.list → MayStore (s, d) i n Stay (ending d i n)
end-may s d i n knows is = record { knows = knows; since = refl; list = refl; words = refl; leaver = inr refl; near = λ t. not-both false refl t; done = λ _. is }

module _ {E : Type 0} (list : E → ListHand) (with_list : Change → View E → ListHand → E)
    (back : (c : Change) (v : View E) (b : ListHand) → list (with_list c v b) ≡ b)
    (over : (c : Change) (v : View E) (n : ℕ) (b d : ListHand) → with_list c (record v { steps = n; ext = with_list Stay v b }) d ≡ with_list c v d)
    (again : (c : Change) (v : View E) (n : ℕ) (b d : ListHand) → d.list ≡ b.list → with_list Stay (record v { steps = n; ext = with_list c v b }) d ≡ with_list c v d)
    (v : View E) where
  -- the pass has made this change since, and knows this now
  abbrev pub Came : Change → ListHand → View E → Type 0
  Came c d u = u ≡ record v { steps = u.steps; ext = with_list c v d }

  pub hand-of : (c : Change) (d : ListHand) (u : View E) → Came c d u → list u.ext ≡ d
  hand-of c d u is = ap (λ (z : View E). list z.ext) is ∙ back c v d

  pub part-of : (c : Change) (d : ListHand) (u : View E) → Came c d u → list_part list u ≡ (v.spin, d)
  part-of c d u is = ap (list_part list) is ∙ (λ i. (v.spin, back c v d i))

  -- the first step since
  pub comes : (c : Change) (d : ListHand) (u : View E) → u ≡ listed with_list c v d → Came c d u
  comes c d u e = subst (λ (z : View E). z ≡ record v { steps = z.steps; ext = with_list c v d }) (sym e) refl

  -- a step after some that left the list
  pub comes-on : (c : Change) (d e : ListHand) (u x : View E) → Came Stay d u → x ≡ listed with_list c u e → Came c e x
  comes-on c d e u x is next = subst (λ (z : View E). z ≡ record v { steps = z.steps; ext = with_list c v e }) (sym next) (λ i. record (is i) { steps = u.steps + 1; ext = ext i })
    where
      ext : with_list c u e ≡ with_list c v e
      ext = ap (λ (z : View E). with_list c z e) is ∙ over c v u.steps d e

  -- a step that leaves the list, after the change
  pub stays-on : (c : Change) (d e : ListHand) (u x : View E) → Came c d u → e.list ≡ d.list → x ≡ listed with_list Stay u e → Came c e x
  stays-on c d e u x is kept next = subst (λ (z : View E). z ≡ record v { steps = z.steps; ext = with_list c v e }) (sym next) (λ i. record (is i) { steps = u.steps + 1; ext = ext i })
    where
      ext : with_list Stay u e ≡ with_list c v e
      ext = ap (λ (z : View E). with_list Stay z e) is ∙ again c v u.steps d e kept

  -- steps that tell nothing new
  pub steps-on : (c : Change) (d : ListHand) (u x : View E) → Came c d u → x ≡ record u { steps = x.steps } → Came c d x
  steps-on c d u x is only = only ∙ (λ i. record (is i) { steps = x.steps })

  -- a load after it knows the list tells nothing new
  pub loads-on : (d e : ListHand) (u x : View E) → Came Stay d u → Knows (v.spin, d) → Learnt (list_part list u) e → x ≡ listed with_list Stay u e → (e ≡ d) × Came Stay d x
  loads-on d e u x is knows learnt next = (same, subst (λ (z : ListHand). Came Stay z x) same (comes-on Stay d e u x is next))
    where
      same : e ≡ d
      same = learnt.same (subst Knows (sym (part-of Stay d u is)) knows) ∙ hand-of Stay d u is

module _ {E : Type 0} (with_list : Change → View E → ListHand → E) (may_change : Change → View E → List Waiter → Type 0)
    (may_on : (c : Change) (v : View E) (b : ListHand) (l : List Waiter) → may_change c v l → may_change c (listed with_list Stay v b) l) where
  -- what the host allows, it allows after a step that leaves the list
  pub allowed-on : (c : Change) (v u : View E) (b : ListHand) (l : List Waiter) → u ≡ listed with_list Stay v b → may_change c v l → may_change c u l
  allowed-on c v u b l e may = subst (λ (z : View E). may_change c z l) (sym e) (may_on c v b l may)
