-- A word in the ranges is that of some value.
use Rattle.std.proofs.Common.{◌≡◌, ◌≢◌, ℕ, zero, suc, ◌-◌, ◌/◌, ◌%◌, ◌^◌, ◌<◌, ◌≤◌, Bool, true, false, Option, Some, None, refl, inl, inr, arith}
use Rattle.std.specs.Prelude.{IfSome, ◌⊎◌}
use mathlib.Core.Logic.{dite}
use native.Mathlib.Decide.{ℕ_discrete}
use Rattle.word_bits.specs.declared.TheConstants.{MAX_TASKS}
use Rattle.word_bits.specs.declared.owner.Owner.{Owner}
use Rattle.word_bits.specs.declared.count.Count.{Count}
use Rattle.word_bits.specs.declared.spin.Spin.{Spin}
use Rattle.word_bits.specs.declared.spin.Tail.{Tail}
use Rattle.word_bits.specs.OwnerWord.{bit, task_code, IsOwner, owner_word}
use Rattle.word_bits.specs.CountWord.{IsCount, count_word}
use Rattle.lock_decode.specs.Here.{IsTaskNode}
use Rattle.word_bits.specs.SpinWord.{IsTail, IsSpin, tail_code, spin_word}

-- some bit is the last of a number
pub last_bit : (n : ℕ) → (b : Bool) × (bit b ≡ n % 2)
last_bit n = dite (ℕ_discrete (n % 2) 1) (λ (is : n % 2 ≡ 1). (true, omega arith)) (λ (not : n % 2 ≢ 1). (false, omega arith))

coded : (code : ℕ) → code ≤ MAX_TASKS → (t : Option ℕ) × (task_code t ≡ code) × IfSome t (λ task. task < MAX_TASKS)
coded zero small = (None, refl, tt)
coded (suc task) small = (Some task, omega arith, omega arith)

-- of every small word there is an owner
pub owner : (word : ℕ) → word / 8 ≤ MAX_TASKS → (o : Owner) × IsOwner o × (owner_word o ≡ word)
owner word small =
    let w = last_bit word in let h = last_bit (word / 2) in let p = last_bit (word / 4) in let t = coded (word / 8) small in
    let we = w.1 in let he = h.1 in let pe = p.1 in let te = t.1 in
    (record { task = t.0; waiters = w.0; handoff = h.0; pickup = p.0 }, t.2, omega arith)

-- of every word without unused bits there is a count
pub count : (word : ℕ) → word < 2 ^ 64 → word / 8 % 2 ^ 5 ≡ 0 → (c : Count) × IsCount c × (count_word c ≡ word)
count word small clear =
    let w = last_bit word in let a = last_bit (word / 2) in let h = last_bit (word / 4) in let f = last_bit (word / 2 ^ 63) in
    let we = w.1 in let ae = a.1 in let he = h.1 in let fe = f.1 in
    (record { writer = w.0; waiters = a.0; handoff = h.0; readers = word / 2 ^ 8 % 2 ^ 55; read_fail = f.0 }, omega arith, omega arith)

tailed : (code : ℕ) → code < 2 ^ 23 → (code ≡ 0) ⊎ (4 ≤ code) → (t : Option Tail) × (tail_code t ≡ code) × IfSome t IsTail
tailed zero small whole = (None, refl, tt)
tailed (suc m) small whole = (Some (record { cpu = (suc m) / 4 - 1; index = (suc m) % 4 }), omega arith, record { cpu = omega arith; index = omega arith })

-- of every word of 32 bits without unused bits, and no node without its CPU, there is a spin lock
pub spin : (word : ℕ) → word < 2 ^ 32 → word / 2 % 2 ^ 7 ≡ 0 → (word / 512 ≡ 0) ⊎ (4 ≤ word / 512) → (s : Spin) × IsSpin s × (spin_word s ≡ word)
spin word small clear whole =
    let l = last_bit word in let p = last_bit (word / 2 ^ 8) in let t = tailed (word / 512) (omega arith) whole in
    let le = l.1 in let pe = p.1 in let te = t.1 in
    (record { locked = l.0; pending = p.0; tail = t.0 }, t.2, omega arith)

-- a word that is none's, and whose node has a CPU, has a bit that belongs to no field
pub unused : (word : ℕ) → (word / 512 ≡ 0) ⊎ (4 ≤ word / 512) → ((s : Spin) → IsSpin s × (spin_word s ≡ word) → ⊥) → (2 ^ 32 ≤ word) ⊎ (word / 2 % 2 ^ 7 ≢ 0)
unused word whole none = dite (ℕ_discrete (word / 2 ^ 32) 0)
    (λ (small : word / 2 ^ 32 ≡ 0). inr (λ clear. let s = spin word (omega arith) clear whole in none s.0 (s.1, s.2)))
    (λ (large : word / 2 ^ 32 ≢ 0). inl (omega arith))

-- a word that is none's, though it has 32 bits and no bit of no field, has a node without a CPU
pub nodeless : (word : ℕ) → word < 2 ^ 32 → word / 2 % 2 ^ 7 ≡ 0 → ((s : Spin) → IsSpin s × (spin_word s ≡ word) → ⊥) → (0 < word / 512) × (word / 512 < 4)
nodeless word small clear none =
    let some : (word / 512 ≡ 0) → ⊥ = λ e. let s = spin word small clear (inl e) in none s.0 (s.1, s.2) in
    let few : (4 ≤ word / 512) → ⊥ = λ e. let s = spin word small clear (inr e) in none s.0 (s.1, s.2) in
    (omega (arith, some), omega (arith, few))

-- a node of a task's CPU is one of a CPU
pub any_node : (t : Option Tail) → IfSome t IsTaskNode → IfSome t IsTail
any_node None h = tt
any_node (Some t) h = let cpu = h.cpu in record { cpu = omega arith; index = h.index }

-- a tail's code has a CPU where it has a node
pub whole : (tail : ℕ) → ((0 < tail) × (tail < 4) → ⊥) → (tail ≡ 0) ⊎ (4 ≤ tail)
whole tail not = dite (ℕ_discrete tail 0) (λ (e : tail ≡ 0). inl e) (λ (e : tail ≢ 0). dite (ℕ_discrete (tail / 4) 0) (λ (f : tail / 4 ≡ 0). absurd (not (omega arith, omega arith))) (λ (f : tail / 4 ≢ 0). inr (omega arith)))
