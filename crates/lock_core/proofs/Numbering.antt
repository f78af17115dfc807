-- What a pass knows that has taken a number.
use Rattle.std.proofs.Common.{◌≡◌, ℕ, zero, suc, ◌+◌, ◌*◌, ◌<◌, ◌≤◌, max, Bool, List, [], ◌∷◌, length, take, get_or, set, slice_get, Some, None, refl, sym, ap, subst, ◌∙◌, arith, length-take-le, inl, inr}
use mathlib.Core.Option.{some}
use lib.ListN.{get_elem?}
use Rattle.word_bits.specs.LockWords.{Unavailable}
use Rattle.word_bits.specs.Objects.{Obj}
use Rattle.word_bits.specs.Histories.{Plan, logs}
use Rattle.word_bits.specs.Legal.{seen_after}
use Rattle.lock_core.specs.Layout.{SiteWords, lay}
use Rattle.lock_core.specs.Plans.{calls_in}
use Rattle.lock_core.specs.Records.{row, AreNext, seen_by}
use Rattle.lock_core.specs.Views.{told_from, became, longer, Knows}
use Rattle.lock_core.specs.Sites.{SiteKept, SiteStep}
use Rattle.lock_core.specs.Moves.{KeepsHold}
use Rattle.atomic_table.specs.Table.{Me}
use Rattle.atomic_table.specs.Seated.{TableId}
use Rattle.lock_core.specs.declared.pass.Face.{Face}
use Rattle.lock_core.specs.SitePasses.{Sits, Numbered}
use Rattle.lock_core.specs.Regions.{part-at}
use Rattle.lock_core.specs.Types.{CallWords, Entry, Rec, Hand, View, Seen, Held}
use Rattle.lock_core.proofs.RowLaws.{none-some, same-some, get-longer, get-there}
use Rattle.lock_core.proofs.HandLaws.{longer-is}
use Rattle.lock_core.proofs.RecordLaws.{seen_by-within}
use Rattle.lock_core.proofs.SeatSteps.{site-begins}
use Rattle.lock_core.proofs.SeatLaws.{line-stored}
use Rattle.lock_core.specs.declared.layout.TheConstants.{LINES_AT}
use Rattle.word_bits.specs.declared.TheConstants.{MAX_TASKS}

told-at : (t c : ℕ) (rs : List Rec) (i : ℕ) (r : Rec) → slice_get rs i ≡ Some r → slice_get (told_from t c rs) i ≡ Some (record { entry = record { task = t; call = c + i }; rec = r })
told-at t c [] i r e = none-some r e
told-at t c (x ∷ rs) zero r e = let n : c ≡ c + 0 = omega arith in λ i. Some (record { entry = record { task = t; call = n i }; rec = same-some x r e i })
told-at t c (x ∷ rs) (suc i) r e = let n : c + 1 + i ≡ c + suc i = omega arith in told-at t (c + 1) rs i r e ∙ ap (λ (z : ℕ). Some (record { entry = record { task = t; call = z }; rec = r })) n

pub became-knows : (h : Hand) (t : ℕ) (rs : List Rec) (seen : List Entry) (c : ℕ) (r : Rec) → slice_get rs c ≡ Some r → Knows (became h t rs seen) (record { task = t; call = c }) r
became-knows h t rs seen c r e = let n : 0 + c ≡ c = omega arith in (c, get-longer (told_from t 0 rs) h.records c (record { entry = record { task = t; call = c }; rec = r }) (told-at t 0 rs c r e ∙ ap (λ (z : ℕ). Some (record { entry = record { task = t; call = z }; rec = r })) n))

pub length-longer : (xs ys : List Entry) → length (longer xs ys) ≡ max (length xs) (length ys)
length-longer xs ys = longer-is xs ys (λ (zs : List Entry). length zs ≡ max (length xs) (length ys)) (λ l. omega (arith, l)) (λ l. omega (arith, l))

module _ {Call : Type 0} (o : Obj Call) (unavailable : Unavailable) (k : Plan) where
  pub next-short : (log : List Entry) (t c seen : ℕ) (ws : List CallWords) (rs : List Rec) → AreNext o unavailable k log t c seen ws rs → length rs ≤ length ws
  next-short log t c seen ws [] a = omega arith
  next-short log t c seen [] (x ∷ rs) a = absurd a
  next-short log t c seen (w ∷ ws) (x ∷ rs) a = let l = next-short log t (c + 1) _ ws rs a.1 in omega arith

  pub seen_by-last : (c : ℕ) (ws : List CallWords) (rs : List Rec) (w : CallWords) (r : Rec) (seen : ℕ) → length rs ≡ c + 1 → slice_get ws c ≡ Some w → slice_get rs c ≡ Some r → seen_by o seen ws rs ≡ seen_after (logs o w r.reply) r
  seen_by-last c [] rs w r seen n e f = none-some w e
  seen_by-last c (x ∷ ws) [] w r seen n e f = none-some r f
  seen_by-last zero (x ∷ ws) (y ∷ []) w r seen n e f = done ws (seen_after (logs o x y.reply) y) ∙ (λ i. seen_after (logs o (same-some x w e i) (same-some y r f i).reply) (same-some y r f i))
    where
      done : (ws : List CallWords) (n : ℕ) → seen_by o n ws [] ≡ n
      done [] n = refl
      done (w ∷ ws) n = refl
  seen_by-last zero (x ∷ ws) (y ∷ z ∷ rs) w r seen n e f = absurd (omega (arith, n))
  seen_by-last (suc c) (x ∷ ws) (y ∷ rs) w r seen n e f = seen_by-last c ws rs w r (seen_after (logs o x y.reply) y) (omega (arith, n)) e f

  pub seen_by-none : (seen : ℕ) (ws : List CallWords) (rs : List Rec) → length rs ≡ 0 → seen_by o seen ws rs ≡ seen
  seen_by-none seen [] rs n = refl
  seen_by-none seen (w ∷ ws) [] n = refl
  seen_by-none seen (w ∷ ws) (r ∷ rs) n = absurd (omega (arith, n))

module _ {E Call : Type 0} (o : Obj Call) (unavailable : Unavailable) (size : ℕ) (k : Plan) (rests : View E → Type 0) where
  abbrev Kept : SiteWords → List Hand → Type 0
  Kept = SiteKept o unavailable size k

  pub begins-there : {unheld : Bool} (s : List ℕ) (hs : List Hand) (id t : ℕ) (v : View E) → t < length k → Kept (lay k s) hs → get_elem? hs id ≡ some v.hand → v.hand.task ≡ None → get_or s (LINES_AT + 8 * t) 0 ≡ 0
      → (g : Hand) × Numbered o unavailable k v.hand t g × KeepsHold rests v g × Kept (lay k (set s (LINES_AT + 8 * t) 1)) (set hs id g) × SiteStep unheld (v.steps + 1) (lay k s) (lay k (set s (LINES_AT + 8 * t) 1)) v.hand g
  begins-there s hs id t v inside r at out zero_there = let few = r.laid.small.tasks in let rs = row r.told t in let g : Hand = became v.hand t rs (longer v.hand.seen (take (seen_by o 0 (row k t) rs) r.log)) in
      let kept = line-stored o unavailable size k s (set hs id g) (8 * t) 1 v.hand g (omega (arith, inside, few)) (record { misses = omega arith; freed = λ _. refl; takes = omega arith; comes = λ l. omega (arith, l) }, refl, refl) (site-begins o unavailable size k (lay k s) hs id t v.hand r at out inside (part-at s LINES_AT (8 * MAX_TASKS) (8 * t) (omega (arith, inside, few)) ∙ zero_there)) in
      (g, (rs, r.log, r.tells.legal t, r.tells.within, refl), (refl, inr (inl out), (refl, inr refl)), kept.0, kept.1)

module _ {Call : Type 0} (o : Obj Call) (unavailable : Unavailable) (k : Plan) (h g : Hand) (t : ℕ) (n : Numbered o unavailable k h t g) where
  pub numbered-short : g.done ≤ length (row k t)
  numbered-short = let l = next-short o unavailable k n.1 t 0 0 (row k t) n.0 n.2 in let d : g.done ≡ length n.0 = ap (λ (z : Hand). z.done) n.4 in omega (arith, l, d)

  pub numbered-known : (c : ℕ) → c < g.done → (r : Rec) × Knows g (record { task = t; call = c }) r
  numbered-known c l = let d : g.done ≡ length n.0 = ap (λ (z : Hand). z.done) n.4 in let x = get-there n.0 c (omega (arith, l, d)) in
      (x.0, subst (λ (z : Hand). Knows z (record { task = t; call = c }) x.0) (sym n.4) (became-knows h t n.0 (longer h.seen (take (seen_by o 0 (row k t) n.0) n.1)) c x.0 x.1))

  pub numbered-knows : (c : ℕ) (r : Rec) → slice_get n.0 c ≡ Some r → Knows g (record { task = t; call = c }) r
  numbered-knows c r e = subst (λ (z : Hand). Knows z (record { task = t; call = c }) r) (sym n.4) (became-knows h t n.0 (longer h.seen (take (seen_by o 0 (row k t) n.0) n.1)) c r e)

  numbered-front : length g.seen ≡ max (length h.seen) (seen_by o 0 (row k t) n.0)
  numbered-front = let s = seen_by o 0 (row k t) n.0 in let short = seen_by-within o unavailable k n.1 t 0 0 (row k t) n.0 n.2 (omega arith) in
      ap (λ (z : Hand). length z.seen) n.4 ∙ (length-longer h.seen (take s n.1) ∙ ap (max (length h.seen)) (length-take-le s n.1 short))

pub sits-numbered : {E Call : Type 0} (o : Obj Call) (unavailable : Unavailable) (k : Plan) (table seat seat' : TableId) (me me' : Me (Unit {0}) (Seen E)) (face : Face) (t done seen front' : ℕ) (held' : Held) → Sits k table seat me face → seat' ≡ seat → me'.1 ≡ me.1 → t < length k
    → (n : Numbered o unavailable k me.0.view.hand t me'.0.view.hand) → done ≡ me'.0.view.hand.done → seen ≡ seen_by o 0 (row k t) n.0 → front' ≡ max face.front seen → held' ≡ face.held → me.0.view.steps ≤ me'.0.view.steps → Sits k table seat' me' (record { task = Some t; held = held'; done = done; front = front' })
sits-numbered o unavailable k table seat seat' me me' face t done seen front' held' r same slots inside n many front most same-held later = record {
  own = same ∙ r.own;
  slots = slots ∙ r.slots;
  plan = ap (λ (z : Hand). z.plan) n.4 ∙ r.plan;
  task = sym (ap (λ (z : Hand). z.task) n.4);
  held = same-held ∙ (r.held ∙ sym (ap (λ (z : Hand). z.held) n.4));
  done = many;
  front = most ∙ ((λ i. max (r.front i) (front i)) ∙ sym (numbered-front o unavailable k me.0.view.hand me'.0.view.hand t n));
  stage = ap (λ (z : Hand). z.stage) n.4 ∙ r.stage;
  latest = let l = r.latest in let e = ap (λ (z : Hand). z.last) n.4 in omega (arith, l, e, later);
  short = subst (λ (z : Hand). length z.log ≤ calls_in k) (sym n.4) r.short;
  shorter = subst (λ (z : Hand). length z.seen ≤ calls_in k) (sym n.4) (longer-is me.0.view.hand.seen (take (seen_by o 0 (row k t) n.0) n.1) (λ (zs : List Entry). length zs ≤ calls_in k)
      (λ _. let s = seen_by-within o unavailable k n.1 t 0 0 (row k t) n.0 n.2 (omega arith) in let l = n.3 in omega (arith, length-take-le (seen_by o 0 (row k t) n.0) n.1 s, s, l)) (λ _. r.shorter));
  planned = λ u e. let s = numbered-short o unavailable k me.0.view.hand me'.0.view.hand t n in subst (λ (z : ℕ). (z < length k) × (done ≤ length (row k z))) (same-some t u e) (inside, omega (arith, s, many));
  saw = λ x e. none-some x (sym (ap (λ (z : Hand). z.saw) n.4) ∙ e);
  writer = λ e. ap (λ (z : Hand). z.held) n.4 ∙ r.writer (sym (ap (λ (z : Hand). z.writes) n.4) ∙ e);
  nameless = λ e. none-some t (sym e ∙ ap (λ (z : Hand). z.task) n.4);
}
