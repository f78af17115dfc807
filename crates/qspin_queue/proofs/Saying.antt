-- What the words of a table state of its spin locks.
use Rattle.std.proofs.Common.{◌∙◌, ◌≡◌, ℕ, zero, suc, ◌+◌, ◌*◌, ◌/◌, ◌%◌, ◌-◌, ◌<◌, ◌≤◌, ◌⊎◌, ⊎_elim, inl, inr, Bool, true, false, List, [], ◌∷◌, map, Option, Some, None, sym, refl, ap, subst, arith}
use Rattle.std.specs.Prelude.{IfSome}
use mathlib.Core.Option.{some, some-injective, some-ne-none}
use lib.ListN.{get_elem?}
use Rattle.atomic_table.proofs.Lists.{at_map}
use Rattle.qspin_queue.specs.Types.{Tail, Frame, Hand, SpinHand, View}
use Rattle.word_bits.specs.OwnerWord.{bit}
use Rattle.word_bits.specs.SpinWord.{IsTail, tail_code}
use Rattle.lock_core.specs.declared.layout.TheConstants.{SPIN_WORDS}
use Rattle.lock_core.specs.Layout.{part}
use Rattle.lock_core.specs.Views.{SpinPart, hand_of, spin_of, spin_part}
use Rattle.lock_core.specs.LockHands.{frame_at, RestsAt}
use Rattle.lock_core.specs.ViewParts.{at_unmap}
use Rattle.lock_core.specs.Pasts.{instant, moment}
use Rattle.lock_core.specs.SpinQueues.{tail_of}
use Rattle.lock_core.specs.Laws.Spin.{lock-of}
use Rattle.lock_core.specs.Spins.{SpinsKept, SpinFacts, frame_on, word_in, next_in, locked_in}
use Rattle.lock_core.specs.SpinStated.{SpinWordsSay, IsSpinWord, UsesOwnNodes, UsesEachBelow, AreSpinLocksThen}
use Rattle.qspin_word.specs.Allows.{AreNumbered}
use Rattle.qspin_word.proofs.Codes.{tail-in}
use Rattle.qspin_word.proofs.Regions.{codes}
use Rattle.qspin_queue.proofs.Filling.{filled}
use Rattle.qspin_queue.proofs.Sharing.{queued-user, small-tail, same-lock}
use Rattle.qspin_queue.proofs.Stating.{states}

is_one : ℕ → Bool
is_one zero = false
is_one (suc n) = true

one_bit : (b : ℕ) → b ≤ 1 → bit (is_one b) ≡ b
unfolding is_one
one_bit zero l = refl
one_bit (suc n) l = omega arith

node_in : ℕ → Option Tail
node_in zero = None
node_in (suc n) = Some (record { cpu = (suc n) / 4 - 1; index = (suc n) % 4 })

its_code : (t : ℕ) → (t ≡ 0) ⊎ (4 ≤ t) → tail_code (node_in t) ≡ t
unfolding node_in
its_code zero which = refl
its_code (suc n) which = ⊎_elim (λ e. absurd (omega (arith, e))) (λ m. omega (arith, m)) which

its_range : (t : ℕ) → t < codes → IfSome (node_in t) IsTail
unfolding node_in
its_range zero l = tt
its_range (suc n) l = record { cpu = omega (arith, l); index = omega arith }

packs : (word b p t : ℕ) → word ≡ b + 256 * p + 512 * t → b ≤ 1 → p ≤ 1 → t < codes → (t ≡ 0) ⊎ (4 ≤ t) → IsSpinWord word
packs word b p t is one_byte one_owner few which = let i = one_bit b one_byte in let j = one_bit p one_owner in let k = its_code t which in record {
  spin = record { locked = is_one b; pending = is_one p; tail = node_in t };
  ranged = its_range t few;
  is = omega (arith, i, j, k, is);
}

map-frames : {E : Type 0} (l : ℕ) (vs : List (View E)) → map (frame_on l) (map spin_part vs) ≡ map (frame_at l) (map spin_of vs)
map-frames l [] = refl
map-frames l (v ∷ vs) = ap (λ (z : List Frame). frame_at l v.spin ∷ z) (map-frames l vs)

one_view : {E : Type 0} (vs : List (View E)) (j : ℕ) (h : Hand) (s : SpinHand) → get_elem? (map hand_of vs) j ≡ some h → get_elem? (map spin_of vs) j ≡ some s → (v : View E) × (get_elem? vs j ≡ some v) × (v.hand ≡ h) × (v.spin ≡ s)
one_view [] j h s at at' = absurd (some-ne-none h (sym at))
one_view (v ∷ vs) zero h s at at' = (v, refl, some-injective v.hand h at, some-injective v.spin s at')
one_view (v ∷ vs) (suc j) h s at at' = one_view vs j h s at at'

module _ {E : Type 0} {tasks : ℕ} (n : ℕ) (w : List ℕ) (q : ℕ → List ℕ) (vs : List (View E)) (k : SpinFacts n w q (map spin_part vs)) (named : AreNumbered tasks (map spin_part vs)) where
  own_nodes : (j : ℕ) (h : Hand) (s : SpinHand) → get_elem? (map hand_of vs) j ≡ some h → get_elem? (map spin_of vs) j ≡ some s → UsesOwnNodes h s
  own_nodes j h s at at' = let v = one_view vs j h s at at' in subst (λ (z : Hand × SpinHand). UsesOwnNodes z.0 z.1) (λ i. (v.2 i, v.3 i)) (k.own j (spin_part v.0) (at_map spin_part vs j v.0 v.1))

  each_below : (j : ℕ) (h : Hand) (s : SpinHand) → get_elem? (map hand_of vs) j ≡ some h → get_elem? (map spin_of vs) j ≡ some s → UsesEachBelow h s
  each_below j h s at at' = filled (record { task = h.task; spin = s }) (own_nodes j h s at at')

  -- a code of a queue is that of a task's node
  big : (l : ℕ) → l < n → (tail_of (q l) ≡ 0) ⊎ (4 ≤ tail_of (q l))
  big l less = ⊎_elim (λ e. inl (ap tail_of e)) (λ t. inr (let u = queued-user n w q (map spin_part vs) k named l less t.0 (tail_of (q l)) t.1 in let o = (k.own u.0 u.1 u.2).node l u.3 in let a = o.is in let b = u.4 in omega (arith, a, b))) (tail-in (q l))

  pub stated : (l : ℕ) → l < n → SpinWordsSay l w (q l) (map (frame_at l) (map spin_of vs))
  stated l less = subst (λ (fs : List Frame). SpinWordsSay l w (q l) fs) (map-frames l vs) (states (word_in w l) (next_in w) (locked_in w) (q l) (map (frame_on l) (map spin_part vs)) (lock-of n w q (map spin_part vs) k l less))

  packed : (l : ℕ) → l < n → IsSpinWord (word_in w l)
  packed l less = let b = (lock-of n w q (map spin_part vs) k l less).balanced in let t = small-tail n w q (map spin_part vs) k named l less in let c = b.comes in let i = b.word_is in let o = b.owner in let most = named.most in
      packs (word_in w l) _ _ (tail_of (q l)) i (omega (arith, c)) o (omega (arith, i, c, o, t, most)) (big l less)

pub says : {E : Type 0} {tasks : ℕ} (marks : E → List ℕ) (n first : ℕ) (ws : List ℕ) (vs : List (View E)) → SpinsKept n (part first SPIN_WORDS ws) (map spin_part vs) → AreNumbered tasks (map spin_part vs) → AreSpinLocksThen n first (moment marks (instant ws vs))
says marks n first ws vs (q, k) named = let w : List ℕ = part first SPIN_WORDS ws in let ps : List SpinPart = map spin_part vs in record {
  queues = q;
  says = stated n w q vs k named;
  packed = packed n w q vs k named;
  nodes = own_nodes n w q vs k named;
  filled = each_below n w q vs k named;
  numbers = λ i j t h g at at' own own'. let v = at_unmap hand_of vs i h at in let u = at_unmap hand_of vs j g at' in
      named.apart i j (spin_part v.0) (spin_part u.0) t (at_map spin_part vs i v.0 v.1) (at_map spin_part vs j u.0 u.1) (ap (λ (x : Hand). x.task) v.2 ∙ own) (ap (λ (x : Hand). x.task) u.2 ∙ own');
  few = λ j s at l past. let v = at_unmap spin_of vs j s at in subst (λ (z : SpinHand). RestsAt l z) v.2 (k.few j (spin_part v.0) (at_map spin_part vs j v.0 v.1) l past);
  apart = λ l m c p r less more at at'. same-lock n w q ps k named l m c (queued-user n w q ps k named l less p c at) (queued-user n w q ps k named m more r c at');
}
