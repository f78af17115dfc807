-- A pass goes on with its seat where a step on a count changed how it holds, or its bias.
use Rattle.std.proofs.Common.{◌≡◌, ◌∙◌, false, ℕ, ◌+◌, ◌<◌, ◌≤◌, Some, IsSome, refl, ap, arith}
use Rattle.atomic_table.specs.Table.{Me}
use Rattle.atomic_table.specs.Seated.{TableId}
use Rattle.word_bits.specs.LockWords.{IsLawfulCount}
use Rattle.word_bits.specs.Histories.{Plan}
use Rattle.lock_core.specs.Holding.{missed, downgraded}
use Rattle.lock_core.specs.SitePasses.{Sits}
use Rattle.lock_core.specs.Pasts.{unseen}
use Rattle.lock_core.proofs.Sitting.{has-number, sits-on, sits-view}
use Rattle.rwsem_count.specs.CountPlays.{SeenBy}
use Rattle.rwsem_count.proofs.Counting.{free-or-not}
use Rattle.lock_core.proofs.RowLaws.{same-some}
use Rattle.lock_core.proofs.HandLaws.{not-both}
use Rattle.rwsem_count.specs.Counts.{based}
use Rattle.rwsem_count.specs.Types.{View, Seen, Hand, Saw, Held, Shared, Face, Bias}

small-saw : (word step : ℕ) → IsLawfulCount word → (x : Saw) → Some (record { word = word; step = step }) ≡ Some x → x.word < 4194304
small-saw word step lawful x is = let low = lawful.0 in let high = lawful.1 in let e : word ≡ x.word = ap (λ (y : Saw). y.word) (same-some (record { word = word; step = step }) x is) in omega arith

module _ {E : Type 0} {k : Plan} {table seat seat' : TableId} {me me' : Me (Unit {0}) (Seen E)} {face face' : Face} where
  -- a failed try, whatever else it changes
  pub sits-missed : (word steps step : ℕ) (ext : E) → me'.0.view ≡ record me.0.view { hand = missed me.0.view.hand word step; steps = steps; ext = ext } → me.0.view.steps ≤ steps → IsLawfulCount word → seat' ≡ seat → me'.1 ≡ me.1 → face' ≡ face → Sits k table seat me face → Sits k table seat' me' face'
  sits-missed word steps step ext view later lawful same slots says r = sits-view (record me.0.view { hand = missed me.0.view.hand word step; steps = steps; ext = ext }) view same slots record { plan = refl; task = refl; done = refl; seen = refl; stage = refl; last = refl; writer = r.writer; nameless = r.nameless }
      (says ∙ ap (λ (z : Held). record face { held = z }) r.held) later r.short (small-saw word step lawful) r

  -- a try that saw a count
  pub sits-saw : (word : ℕ) → SeenBy (unseen me) word (unseen me') → seat' ≡ seat → face' ≡ face → Sits k table seat me face → Sits k table seat' me' face'
  sits-saw word told same says r = free-or-not word told.0
      (λ free. let turn = told.1 free in sits-on same turn.1 (ap (λ (v : View E). v.hand) turn.0) (let n = ap (λ (v : View E). v.steps) turn.0 in omega (arith, n)) says r)
      (λ shut. let turn = told.2 shut in sits-missed word (me.0.view.steps + 1) (me.0.view.steps + 1) me.0.view.ext turn.0 (omega arith) told.0 same turn.1 says r)

module _ {E : Type 0} (counted : View E → Hand → Bias → E) {k : Plan} {table seat seat' : TableId} {me me' : Me (Unit {0}) (Seen E)} {face face' : Face} (b : Bias) where
  pub sits-downgraded : (word : ℕ) → me'.0.view ≡ based counted me.0.view (downgraded me.0.view.hand word) b → me.0.view.hand.writes ≡ false → IsSome face.task → seat' ≡ seat → me'.1 ≡ me.1 → face' ≡ record face { held = Shared } → Sits k table seat me face → Sits k table seat' me' face'
  sits-downgraded word view quiet numbered same slots says r = sits-view (based counted me.0.view (downgraded me.0.view.hand word) b) view same slots
      record { plan = refl; task = refl; done = refl; seen = refl; stage = refl; last = refl; writer = λ w. not-both me.0.view.hand.writes quiet w; nameless = λ bare. absurd (has-number me.0.view.hand.task face.task r.task numbered bare) } says (omega arith) r.short r.saw r
