-- A pass goes on with its seat where a step changed how it holds.
use Rattle.std.proofs.Common.{Bool, ◌≡◌, true, false, ℕ, ◌+◌, ◌*◌, ◌<◌, ◌≤◌, Option, Some, None, IfSome, refl, sym, ap, subst, arith}
use Rattle.atomic_table.specs.Table.{Me}
use Rattle.atomic_table.specs.Seated.{TableId}
use Rattle.word_bits.specs.Histories.{Plan}
use Rattle.lock_core.specs.Plans.{IsSmall}
use Rattle.lock_core.specs.Views.{handed}
use Rattle.lock_core.specs.SitePasses.{Sits}
use Rattle.lock_core.proofs.Sitting.{sits-on, sits-held}
use Rattle.mutex_word.specs.OwnerTries.{SawWord, missing}
use Rattle.mutex_word.specs.Types.{Seen, Saw, Face, View, Turn, Fail}
use Rattle.mutex_word.proofs.Owning.{fail-or-on}
use Rattle.lock_core.proofs.RowLaws.{same-some}
use Rattle.lock_core.specs.Holding.{missed}
use Rattle.word_bits.specs.declared.TheConstants.{MAX_TASKS}

module _ {E : Type 0} {k : Plan} {table seat seat' : TableId} {me me' : Me (Unit {0}) (Seen E)} {face face' : Face} where
  pub sits-missed : (word : ℕ) → seat' ≡ seat → me'.1 ≡ me.1 → me'.0.view ≡ handed me.0.view (missed me.0.view.hand word (me.0.view.steps + 1)) → word < 8 * MAX_TASKS + 8 → face' ≡ face → Sits k table seat me face → Sits k table seat' me' face'
  sits-missed word same slots view small says r = subst (λ (m : Me (Unit {0}) (Seen E)). Sits k table seat' m face') (λ i. (record me'.0 { view = sym view i }, me'.1))
      (sits-held face.held same slots
      record { plan = refl; task = refl; done = refl; seen = refl; stage = refl; last = refl; writer = r.writer; nameless = r.nameless } (sym r.held) says (omega arith) r.short (λ x is. let e : word ≡ x.word = ap (λ (y : Saw). y.word) (same-some (record { word = word; step = me.0.view.steps + 1 }) x is) in omega arith) r)

  -- a failed try, whether it counts or not
  sits-missing : (counts : Bool) (word step steps : ℕ) → seat' ≡ seat → me'.1 ≡ me.1 → (ext : E) → me'.0.view ≡ record me.0.view { hand = missing counts me.0.view.hand word step; steps = steps; ext = ext } → me.0.view.steps ≤ steps → word < 8 * MAX_TASKS + 8 → face' ≡ face → Sits k table seat me face → Sits k table seat' me' face'
  sits-missing true word step steps same slots ext view later small says r = subst (λ (m : Me (Unit {0}) (Seen E)). Sits k table seat' m face') (λ i. (record me'.0 { view = sym view i }, me'.1))
      (sits-held face.held same slots
      record { plan = refl; task = refl; done = refl; seen = refl; stage = refl; last = refl; writer = r.writer; nameless = r.nameless } (sym r.held) says later r.short (λ x is. let e : word ≡ x.word = ap (λ (y : Saw). y.word) (same-some (record { word = word; step = step }) x is) in omega arith) r)
  sits-missing false word step steps same slots ext view later small says r = sits-on same slots (ap (λ v. v.hand) view) (let n = ap (λ v. v.steps) view in omega (arith, n, later)) says r

  -- a try that saw a word
  pub sits-saw : (turned : Turn → View E → E) (asks counts : Bool) (word : ℕ) → seat' ≡ seat → me'.1 ≡ me.1 → SawWord turned asks counts me.0.view word me'.0.view → face' ≡ face → Sits k table seat me face → Sits k table seat' me' face'
  sits-saw turned asks counts word same slots saw says r = let later = saw.later in fail-or-on asks me.0.view.hand.task word
      (λ f. sits-missing counts word (saw.step + 1) (saw.step + 1) same slots (turned Fail (record me.0.view { steps = saw.step })) (saw.fails f) (omega (arith, later)) saw.lawful.small says r)
      (λ on. let view = saw.on on in sits-on same slots (ap (λ (v : View E). v.hand) view) (let n = ap (λ (v : View E). v.steps) view in omega (arith, n, later)) says r)

module _ {E : Type 0} {k : Plan} {table seat : TableId} {me : Me (Unit {0}) (Seen E)} {face : Face} where
  -- a pass's number is that of a task
  pub its-number : IsSmall k → Sits k table seat me face → IfSome face.task (λ task. task < MAX_TASKS)
  its-number small r = go face.task (λ t is. let l = (r.planned t is).0 in let few = small.tasks in omega arith)
    where
      go : (task : Option ℕ) → ((t : ℕ) → task ≡ Some t → t < MAX_TASKS) → IfSome task (λ task. task < MAX_TASKS)
      go None each = tt
      go (Some t) each = each t refl
