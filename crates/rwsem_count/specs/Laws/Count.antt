-- Each kind of step keeps the count's own facts.
use Rattle.std.proofs.Common.{◌≡◌, ℕ, ◌+◌, ◌-◌, ◌/◌, ◌%◌, ◌<◌, ◌⊎◌, inl, inr, List, [], ◌∷◌, ◌++◌, set, refl, ap, arith}
use mathlib.Core.Option.{some}
use lib.ListN.{get_elem?}
use Rattle.lock_core.specs.Views.{alone_weight}
use Rattle.lock_core.specs.Totals.{total, total-set, total-same, total-at, total-snoc}
use Rattle.rwsem_count.specs.Counts.{CountPart, CountKept, shared_weight, early_weight, late_weight, shared_in, alone_in, early_in, late_in}
use Rattle.rwsem_count.specs.Types.{Held, No, Shared, Alone, Bias, Clear, Transit, Reserve}

-- what a pass adds to the count
pub record Adds (p : CountPart) (alone shared early late : ℕ) : Type 0 where
  pub alone_is : alone_in p ≡ alone
  pub shared_is : shared_in p ≡ shared
  pub early_is : early_in p ≡ early
  pub late_is : late_in p ≡ late

pub part-adds : (p : CountPart) (held : Held) (bias : Bias) → p.held ≡ held → p.bias ≡ bias → Adds p (alone_weight held) (shared_weight held) (early_weight bias) (late_weight bias)
part-adds p held bias h b = record { alone_is = ap alone_weight h; shared_is = ap shared_weight h; early_is = ap early_weight b; late_is = ap late_weight b }

module _ (ps : List CountPart) (id : ℕ) (p q : CountPart) (at : get_elem? ps id ≡ some p) where
  -- the general step, from what the pass added before to what it adds after
  pub count-step : (n m more more' a s e l a' s' e' l' : ℕ) → CountKept n more ps → Adds p a s e l → Adds q a' s' e' l' → m % 256 < 8 → m % 2 + a ≡ n % 2 + a'
      → m / 256 + (more + s + e + l) ≡ n / 256 + (more' + s' + e' + l')
      → (0 < m % 2 → more' + (total shared_in ps + s') + (total early_in ps + e') ≡ s + e) → CountKept m more' (set ps id q)
  count-step n m more more' a s e l a' s' e' l' r was is low writer field apart = let wa = was.alone_is in let ws = was.shared_is in let we = was.early_is in let wl = was.late_is in
      let ia = is.alone_is in let es = is.shared_is in let ee = is.early_is in let il = is.late_is in
      let A = total-set alone_in ps id p q at in let S = total-set shared_in ps id p q at in let F = total-set early_in ps id p q at in let L = total-set late_in ps id p q at in let rw' = r.writer in
      let rf = r.field in record {
        low = low;
        writer = omega arith;
        field = omega arith;
        apart = λ z. let c = apart z in omega arith;
      }

  -- a reader adds its bias, and holds by it
  pub count-reads : (n more : ℕ) → CountKept n more ps → n % 8 ≡ 0 → p.held ≡ No → p.bias ≡ Clear → q.held ≡ Shared → q.bias ≡ Clear → CountKept (n + 256) more (set ps id q)
  count-reads n more r free out clear holds clear' = let low = r.low in
      count-step n (n + 256) more more 0 0 0 0 0 1 0 0 r (part-adds p No Clear out clear) (part-adds q Shared Clear holds clear') (omega arith) (omega arith) (omega arith) (λ z. absurd (omega arith))

  -- or is in transit
  pub count-transit : (n more : ℕ) → CountKept n more ps → p.held ≡ No → p.bias ≡ Clear → q.held ≡ No → q.bias ≡ Transit n → CountKept (n + 256) more (set ps id q)
  count-transit n more r out clear still biased = let low = r.low in let ap' = r.apart in
      count-step n (n + 256) more more 0 0 0 0 0 0 (1 - n % 2) (n % 2) r (part-adds p No Clear out clear) (part-adds q No (Transit n) still biased) (omega arith) (omega arith) (omega arith)
      (λ z. let c = ap' (omega arith) in omega arith)

  -- a waker reserves a bias
  pub count-reserves : (n more : ℕ) → CountKept n more ps → q.held ≡ p.held → p.bias ≡ Clear → q.bias ≡ Reserve n → CountKept (n + 256) more (set ps id q)
  count-reserves n more r same clear biased = let low = r.low in let ap' = r.apart in let S = total-at shared_in ps id p at in
      count-step n (n + 256) more more (alone_weight p.held) (shared_weight p.held) 0 0 (alone_weight p.held) (shared_weight p.held) (1 - n % 2) (n % 2) r (part-adds p p.held Clear refl clear)
      (part-adds q p.held (Reserve n) same biased)
      (omega arith) (omega arith) (omega arith) (λ z. let c = ap' (omega arith) in omega arith)

  -- a bias is taken back, whatever else of the flags changes
  pub count-backs : (n m more : ℕ) → CountKept n more ps → m / 256 + 1 ≡ n / 256 → m % 256 < 8 → m % 2 ≡ n % 2 → q.held ≡ p.held → early_in p + late_in p ≡ 1 → q.bias ≡ Clear
      → CountKept m more (set ps id q)
  count-backs n m more r less low' writer same biased clear = let ap' = r.apart in let S = total-at shared_in ps id p at in let F = total-at early_in ps id p at in
      count-step n m more more (alone_weight p.held) (shared_weight p.held) (early_in p) (late_in p) (alone_weight p.held) (shared_weight p.held) 0 0 r
      record { alone_is = refl; shared_is = refl; early_is = refl; late_is = refl } (part-adds q p.held Clear same clear)
      low' (omega arith) (omega arith) (λ z. let c = ap' (omega arith) in omega arith)

  -- a try in transit comes to hold by its bias: its addition saw no writer, or it sees none now
  pub count-keeps : (n m more : ℕ) → CountKept n more ps → (n % 2 ≡ 0) ⊎ (m % 2 ≡ 0) → p.held ≡ No → p.bias ≡ Transit m → q.held ≡ Shared → q.bias ≡ Clear → CountKept n more (set ps id q)
  count-keeps n m more r sees out biased holds clear = let low = r.low in let ap' = r.apart in let F = total-at early_in ps id p at in let f : early_in p ≡ 1 - m % 2 = ap early_weight biased in
      count-step n n more more 0 0 (1 - m % 2) (m % 2) 0 1 0 0 r (part-adds p No (Transit m) out biased) (part-adds q Shared Clear holds clear) low (omega arith) (omega arith)
      (λ z. let e = ap' z in elim sees [ inl none ↦ absurd (omega (arith, none, z)) | inr none ↦ omega (arith, none, e, f, F) ])

  -- a writer takes: the word has neither writer nor readers
  pub count-writes : (n m more : ℕ) → CountKept n more ps → n / 256 ≡ 0 → n % 2 ≡ 0 → m % 2 ≡ 1 → m < 8 → p.held ≡ No → q.held ≡ Alone → q.bias ≡ p.bias → CountKept m more (set ps id q)
  count-writes n m more r none free writer low' out alone same = let rf = r.field in let F = total-at early_in ps id p at in let L = total-at late_in ps id p at in
      let S = total-at shared_in ps id p at in
      count-step n m more more 0 0 (early_in p) (late_in p) 1 0 (early_in p) (late_in p) r
      record { alone_is = ap alone_weight out; shared_is = ap shared_weight out; early_is = refl; late_is = refl } record
      { alone_is = ap alone_weight alone; shared_is = ap shared_weight alone; early_is = ap early_weight same; late_is = ap late_weight same }
      (omega arith) (omega arith) (omega arith) (λ z. omega arith)

  -- a shared hold ends
  pub count-frees-shared : (n m more : ℕ) → CountKept n more ps → m + 256 ≡ n → p.held ≡ Shared → p.bias ≡ Clear → q.held ≡ No → q.bias ≡ Clear → CountKept m more (set ps id q)
  count-frees-shared n m more r less holds clear out clear' = let low = r.low in let ap' = r.apart in let S = total-at shared_in ps id p at in let s : shared_in p ≡ 1 = ap shared_weight holds in
      count-step n m more more 0 1 0 0 0 0 0 0 r (part-adds p Shared Clear holds clear) (part-adds q No Clear out clear') (omega arith) (omega arith) (omega arith)
      (λ z. let e = ap' (omega arith) in omega arith)

  -- an exclusive hold ends
  pub count-frees-alone : (n m more : ℕ) → CountKept n more ps → m + 1 ≡ n → p.held ≡ Alone → p.bias ≡ Clear → q.held ≡ No → q.bias ≡ Clear → CountKept m more (set ps id q)
  count-frees-alone n m more r less holds clear out clear' = let low = r.low in let A = total-at alone_in ps id p at in let a : alone_in p ≡ 1 = ap alone_weight holds in let rw' = r.writer in
      count-step n m more more 1 0 0 0 0 0 0 0 r (part-adds p Alone Clear holds clear) (part-adds q No Clear out clear') (omega arith) (omega arith) (omega arith) (λ z. absurd (omega arith))

  -- a writer goes on as a reader
  pub count-downgrades : (n more : ℕ) → CountKept n more ps → p.held ≡ Alone → p.bias ≡ Clear → q.held ≡ Shared → q.bias ≡ Clear → CountKept (n + 255) more (set ps id q)
  count-downgrades n more r holds clear shares clear' = let low = r.low in let A = total-at alone_in ps id p at in let a : alone_in p ≡ 1 = ap alone_weight holds in let rw' = r.writer in
      count-step n (n + 255) more more 1 0 0 0 0 1 0 0 r (part-adds p Alone Clear holds clear) (part-adds q Shared Clear shares clear') (omega arith) (omega arith) (omega arith)
      (λ z. absurd (omega arith))

-- a pass that adds as much
pub count-stays : (n more : ℕ) (ps : List CountPart) (id : ℕ) (p q : CountPart) → get_elem? ps id ≡ some p → CountKept n more ps → q.held ≡ p.held → q.bias ≡ p.bias → CountKept n more (set ps id q)
count-stays n more ps id p q at r held bias = let a = total-same alone_in ps id p q at (ap alone_weight held) in let b = total-same shared_in ps id p q at (ap shared_weight held) in
    let c = total-same early_in ps id p q at (ap early_weight bias) in let d = total-same late_in ps id p q at (ap late_weight bias) in
    let w = r.writer in let f = r.field in record { low = r.low; writer = omega arith; field = omega arith; apart = λ z. let e = r.apart z in omega arith }

-- a pass that adds nothing
pub count-strangers : (n more : ℕ) (ps : List CountPart) → CountKept n more ps → CountKept n more (ps ++ record { held = No; bias = Clear } ∷ [])
count-strangers n more ps r = let g : CountPart = record { held = No; bias = Clear } in let a = total-snoc alone_in ps g in let b = total-snoc shared_in ps g in let c = total-snoc early_in ps g in
    let d = total-snoc late_in ps g in
    let w = r.writer in let f = r.field in record { low = r.low; writer = omega arith; field = omega arith; apart = λ z. let e = r.apart z in omega arith }

pub count-opens : CountKept 0 0 (record { held = No; bias = Clear } ∷ [])
count-opens = record { low = omega arith; writer = omega arith; field = omega arith; apart = λ z. absurd (omega arith) }
