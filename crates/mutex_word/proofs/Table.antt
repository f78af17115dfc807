-- What the table of tries says of a word.
use Rattle.std.proofs.Common.{◌≡◌, ◌≢◌, inl, inr, ℕ, zero, suc, ◌+◌, ◌*◌, ◌/◌, ◌%◌, ◌==◌, ◌<◌, Bool, true, false, Option, Some, None, IfSome, refl, sym, subst, arith}
use Rattle.word_bits.specs.OwnerWord.{IsOwner, owner_word, task_code, bit}
use Rattle.mutex_word.specs.declared.word_steps.Try.{Try}
use Rattle.mutex_word.specs.Owners.{IsOwnerWord}
use Rattle.mutex_word.specs.OwnerWordSteps.{try_of, try_named, release_of, handoff_of}
use Rattle.mutex_word.specs.OwnerTries.{IsLawful, IsLeft, IsReleased, IsHanded, Says}
use Rattle.mutex_word.specs.Types.{Owner}
use Rattle.word_bits.specs.declared.TheConstants.{MAX_TASKS}
use Rattle.lock_core.proofs.HandLaws.{not-both}
use Rattle.std.proofs.lemmas.Bool.Decides.{nat_tests}

-- the owner that a word is of
abbrev task-of : ℕ → Option ℕ
task-of zero = None
task-of (suc t) = Some t

abbrev bit-of : ℕ → Bool
bit-of zero = false
bit-of (suc n) = true

bit-is : (n : ℕ) → n < 2 → bit (bit-of n) ≡ n
bit-is zero l = refl
bit-is (suc zero) l = refl
bit-is (suc (suc n)) l = absurd (omega (arith, l))

code-is : (c : ℕ) → task_code (task-of c) ≡ c
code-is zero = refl
code-is (suc t) = omega arith

small-task : (c : ℕ) → c < MAX_TASKS + 1 → IfSome (task-of c) (λ (t : ℕ). t < MAX_TASKS)
small-task zero l = tt
small-task (suc t) l = omega (arith, l)

pub owner-of : (n : ℕ) → n < 8 * MAX_TASKS + 8 → IsOwnerWord n
owner-of n small = let a = bit-is (n % 2) (omega arith) in let b = bit-is (n / 2 % 2) (omega arith) in let c = bit-is (n / 4 % 2) (omega arith) in let d = code-is (n / 8) in record {
  owner = record { task = task-of (n / 8); waiters = bit-of (n % 2); handoff = bit-of (n / 2 % 2); pickup = bit-of (n / 4 % 2) };
  ranged = small-task (n / 8) (omega (arith, small));
  is = omega (arith, a, b, c, d);
}

bit-less : (b : Bool) → bit b < 2
bit-less true = omega arith
bit-less false = omega arith

named : (n me t : ℕ) (w : Bool) (mine : Bool) → (mine ≡ true → t ≡ me) → (mine ≡ false → t ≢ me) → (p ask h : Bool) → n ≡ bit w + bit h * 2 + bit p * 4 + (t + 1) * 8 → Says ask (Some me) n (try_named (record { task = Some t; waiters = w; handoff = h; pickup = p }) mine ask)
named n me t w true yes_it no_it true ask h e = let a = bit-less w in let b = bit-less h in let same = yes_it refl in (me, refl, inr (omega (arith, a, b, e), omega (arith, a, b, e, same), omega (arith, e)))
named n me t w false yes_it no_it true ask h e = let a = bit-less w in let b = bit-less h in ((omega (arith, e), inr (λ is. no_it refl (omega (arith, a, b, e, is)))), λ _. omega (arith, a, b, e))
named n me t w mine yes_it no_it false true false e = let a = bit-less w in (refl, (omega (arith, a, e), omega (arith, e), omega (arith, e)))
named n me t w mine yes_it no_it false true true e = let a = bit-less w in ((omega (arith, e), inl (omega (arith, a, e))), λ _. omega (arith, a, e))
named n me t w mine yes_it no_it false false h e = let a = bit-less w in let b = bit-less h in ((omega (arith, e), inl (omega (arith, a, b, e))), λ z. not-both false refl z)

says-of : (n me : ℕ) (ask : Bool) → IsLawful n → (task : Option ℕ) (w h p : Bool) → n ≡ bit w + bit h * 2 + bit p * 4 + task_code task * 8 → Says ask (Some me) n (try_of (record { task = task; waiters = w; handoff = h; pickup = p }) me ask)
says-of n me ask lawful None w h p e = let a = bit-less w in let b = bit-less h in let c = bit-less p in let l : n < 8 = omega (arith, a, b, c, e) in let two = lawful.nobody l in (me, refl, inl (l, omega (arith, e)))
says-of n me ask lawful (Some t) w h p e = named n me t w (t == me) (λ z. grind (nat_tests, arith)) (λ z. grind (nat_tests, arith)) p ask h e

-- the answer of the table, for a word that can stand there
pub says : (n me : ℕ) (ask : Bool) → IsLawful n → (result : Try) → ((o : Owner) → IsOwner o → owner_word o ≡ n → result ≡ try_of o me ask) → Says ask (Some me) n result
says n me ask lawful result table = let w = owner-of n lawful.small in let o = w.owner in subst (Says ask (Some me) n) (sym (table o w.ranged w.is)) (says-of n me ask lawful o.task o.waiters o.handoff o.pickup (sym w.is))

-- what a release makes of the word of a pass that holds
pub released-flags : (n : ℕ) → n < 8 * MAX_TASKS + 8 → n % 8 < 4 → (result : Option ℕ) → ((o : Owner) → IsOwner o → owner_word o ≡ n → result ≡ release_of o) → IsReleased n result
released-flags n small low result table = let w = owner-of n small in let o = w.owner in subst (IsReleased n) (sym (table o w.ranged w.is)) (go o.task o.waiters o.handoff o.pickup (sym w.is))
  where
    go : (task : Option ℕ) (w h p : Bool) → n ≡ bit w + bit h * 2 + bit p * 4 + task_code task * 8 → IsReleased n (release_of (record { task = task; waiters = w; handoff = h; pickup = p }))
    go task w true p e = let a = bit-less w in let b = bit-less p in omega (arith, a, b, e)
    go task w false true e = let a = bit-less w in absurd (omega (arith, a, e, low))
    go task w false false e = let a = bit-less w in (omega (arith, a, e), omega (arith, a, e))

-- what handing over does
pub handed-on : (n : ℕ) → n < 8 * MAX_TASKS + 8 → n % 8 < 4 → (first : Option ℕ) (result : ℕ) → ((o : Owner) → IsOwner o → owner_word o ≡ n → result ≡ handoff_of o first) → IsHanded first n result
handed-on n small low first result table = let w = owner-of n small in let o = w.owner in subst (IsHanded first n) (sym (table o w.ranged w.is)) (go first o.task o.waiters o.handoff o.pickup (sym w.is))
  where
    go : (first task : Option ℕ) (w h p : Bool) → n ≡ bit w + bit h * 2 + bit p * 4 + task_code task * 8 → IsHanded first n (handoff_of (record { task = task; waiters = w; handoff = h; pickup = p }) first)
    go None task w h p e = let a = bit-less w in omega (arith, a, e)
    go (Some f) task w h p e = let a = bit-less w in omega (arith, a, e)

pub handed-left : (first : Option ℕ) (n m : ℕ) → IfSome first (λ (t : ℕ). t < MAX_TASKS) → IsHanded first n m → IsLeft m
handed-left None n m small is = inl (omega (arith, is))
handed-left (Some f) n m small is = inr (omega (arith, is, small), omega (arith, is), omega (arith, is), omega (arith, is))
