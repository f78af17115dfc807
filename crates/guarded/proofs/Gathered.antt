-- The passes of all tasks, taken into one.
use Rattle.std.proofs.Common.{◌≡◌, ℕ, zero, suc, ◌<◌, List, [], ◌∷◌, ◌++◌, length, take, drop, get_or, refl, sym, ap, ◌∙◌, arith, length-append, append-nil}
use Rattle.std.proofs.lemmas.List.{drop_all}
use Rattle.std.proofs.Math.Seq.{take-append_seam}
use Rattle.word_bits.specs.LockWords.{Unavailable}
use Rattle.word_bits.specs.Objects.{Obj}
use Rattle.word_bits.specs.Histories.{Plan}
use Rattle.lock_core.specs.Records.{row}
use Rattle.guarded.specs.Gathering.{HasDone, HasDoneAll, IsGathered}
use Rattle.guarded.specs.Types.{Hand}

last_of : {X : Type 0} (others new : List X) (x : X) → new ++ x ∷ [] ≡ take (suc (length new)) others → (new ≡ take (length new) others) × (x ≡ get_or others (length new) x) × (length new < length others)
last_of [] [] x e = cc
last_of (y ∷ ys) [] x e = (refl, cc, omega arith)
last_of [] (z ∷ zs) x e = cc
last_of (y ∷ ys) (z ∷ zs) x e =
    let tails : zs ++ x ∷ [] ≡ take (suc (length zs)) ys = cc in
    let heads : z ≡ y = cc in
    let r = last_of ys zs x tails in ((λ i. heads i ∷ r.0 i), r.1, omega (arith, r.2))

-- what is popped of a vector that has had so many of others popped
pub popped : {X : Type 0} (others now new : List X) (x : X) → now ≡ take (length now) others → now ≡ new ++ x ∷ [] → (new ≡ take (length new) others) × (x ≡ get_or others (length new) x) × (length now ≡ suc (length new)) × (length new < length others)
popped others now new x was is =
    let len : length now ≡ suc (length new) = ap length is ∙ simp length-append (omega arith) in
    let r = last_of others new x (sym is ∙ (was ∙ ap (λ (n : ℕ). take n others) len)) in (r.0, r.1, len, r.2)

-- a vector whose slice was lent as a whole
pub whole : {X : Type 0} (n : ℕ) (new old : List X) → length new ≡ length old → n ≡ length old → take n (new ++ drop (length new) old) ≡ new
whole n new old same all = rw (drop_all (length new) old (omega arith), all ∙ sym same, append-nil) (ap (take (length new)) (sym (append-nil new)) ∙ take-append_seam new [])

-- a list of lists, one for each number below n
tabulate : {X : Type 0} (P : ℕ → List X → Type 0) (n : ℕ) → ((t : ℕ) → t < n → (xs : List X) × P t xs) → (xss : List (List X)) × (length xss ≡ n) × ((t : ℕ) → t < n → P t (row xss t))
tabulate P zero f = ([], refl, λ t l. absurd (omega (arith, l)))
tabulate {X} P (suc n) f =
    let here = f 0 (omega arith) in
    let rest = tabulate (λ t. P (suc t)) n (λ t l. f (suc t) (omega (arith, l))) in
    (here.0 ∷ rest.0, ap suc rest.1, at here.0 rest.0 here.1 rest.2)
  where
    at : (xs : List X) (xss : List (List X)) → P 0 xs → ((t : ℕ) → t < n → P (suc t) (row xss t)) → (t : ℕ) → t < suc n → P t (row (xs ∷ xss) t)
    at xs xss one more zero l = one
    at xs xss one more (suc t) l = more t (omega (arith, l))

outside : {X Y : Type 0} (xss : List (List X)) (yss : List (List Y)) → length xss ≡ length yss → ((t : ℕ) → t < length yss → length (row xss t) ≡ length (row yss t)) → (t : ℕ) → length (row xss t) ≡ length (row yss t)
outside [] [] same each t = refl
outside [] (ys ∷ yss) same each t = absurd (omega (arith, same))
outside (xs ∷ xss) [] same each t = absurd (omega (arith, same))
outside (xs ∷ xss) (ys ∷ yss) same each zero = each 0 (omega arith)
outside (xs ∷ xss) (ys ∷ yss) same each (suc t) = outside xss yss (omega (arith, same)) (λ u l. each (suc u) (omega (arith, l))) t

-- a pass has gathered all that knows the records of all calls of each task
pub all-gathered : {Call : Type 0} (o : Obj Call) (unavailable : Unavailable) (k : Plan) (h : Hand) → ((t : ℕ) → t < length k → HasDoneAll o unavailable k h t) → IsGathered o unavailable k h
all-gathered o unavailable k h each =
    let rows = tabulate (λ t rs. HasDone o unavailable k h t rs × (length rs ≡ length (row k t))) (length k) (λ t l. let d = each t l in (d.0, (d.1, d.2))) in record {
      made = rows.0;
      all = outside rows.0 k rows.1 (λ t l. (rows.2 t l).1);
      done = λ t l. (rows.2 t l).0;
    }
