-- A try goes on from word to word.
use Rattle.std.proofs.Common.{◌≡◌, ◌∙◌, ℕ, ◌+◌, ◌%◌, ◌<◌, Bool, true, false, List, Option, refl, sym, ap, subst, arith}
use mathlib.Core.Logic.{dite}
use native.Mathlib.Decide.{ℕ_discrete}
use Rattle.word_bits.specs.Objects.{Obj}
use Rattle.word_bits.specs.Histories.{Plan}
use Rattle.lock_core.specs.Pasts.{FoundAt, FoundAtStep, GoesOn, IsOwnStep}
use Rattle.lock_core.specs.Laws.SiteRun.{found-at-step}
use Rattle.mutex_word.specs.declared.tries.Tried.{Tried}
use Rattle.mutex_word.specs.declared.tries.Tried.TheVariants.{Took, Asked, Failed}
use Rattle.mutex_word.specs.Holders.{TakesOwner, turns}
use Rattle.mutex_word.specs.OwnerTries.{FindsUnasked, IsFail, MayTry, SawWord, Acted, CameTo, missing}
use Rattle.mutex_word.specs.Types.{View, Hand, Moment, Turn, Ask}
use Rattle.mutex_word.proofs.Owning.{fail-or-on}

-- a step that found no handoff asked for leaves it to the next one to tell
pub unasked-on : {E : Type 0} (v u : View E) (task : Option ℕ) (place n begun : ℕ) (old past new : List Moment) → v.hand.task ≡ task → FindsUnasked task place begun v.steps old past → IsOwnStep v past → FoundAt place n past → n % 8 < 2 → GoesOn old past → GoesOn past new → u.steps ≡ v.steps + 1
    → FindsUnasked task place begun u.steps old new
unasked-on v u task place n begun old past new named unasked own found few before after next step later sooner = dite (ℕ_discrete step v.steps)
    (λ last. (n, subst (λ (s : ℕ). FoundAtStep task s place n old new) (sym last) (found-at-step v task place n old past new named own found before after), few))
    (λ earlier. let f = unasked step later (omega (arith, sooner, next, earlier)) in (f.0, stays-found f.1, f.2))
  where
    stays-found : {m : ℕ} → FoundAtStep task step place m old past → FoundAtStep task step place m old new
    stays-found f = record { past = f.past; by = f.by; found = f.found; after = f.after; goes_on = λ p t. after p (f.goes_on p t) }

module _ {E : Type 0} (turned : Turn → View E → E) (may_own : Turn → View E → ℕ → ℕ → Type 0) (may_miss : View E → Type 0) (asks counts : Bool) where
  pub may-later : (v u : View E) (s : ℕ) → u ≡ record v { steps = s } → MayTry may_own may_miss asks counts v → MayTry may_own may_miss asks counts u
  may-later v u s is may = subst (MayTry may_own may_miss asks counts) (sym is) (record { fails = λ x. may.fails x; takes = λ x. may.takes x; begs = λ e x. may.begs e x })

  missing-task : (counts : Bool) (h : Hand) (n step : ℕ) → (missing counts h n step).task ≡ h.task
  missing-task true h n step = refl
  missing-task false h n step = refl

  saw-task : (v w : View E) (n : ℕ) → SawWord turned asks counts v n w → w.hand.task ≡ v.hand.task
  saw-task v w n saw = fail-or-on asks v.hand.task n (λ f. ap (λ (z : View E). z.hand.task) (saw.fails f) ∙ missing-task counts v.hand n (saw.step + 1)) (λ on. ap (λ (z : View E). z.hand.task) (saw.on on))

  -- what it may do at a word at which it doesn't fail
  pub may-on : (v w : View E) (n : ℕ) → MayTry may_own may_miss asks counts v → SawWord turned asks counts v n w → (IsFail asks v.hand.task n → ⊥) → MayTry may_own may_miss asks counts w
  may-on v w n may saw on = may-later v w saw.step (saw.on on) may

  pub saw-again : (v w u : View E) (n m : ℕ) → SawWord turned asks counts v n w → (IsFail asks v.hand.task n → ⊥) → SawWord turned asks counts w m u → SawWord turned asks counts v m u
  saw-again v w u n m saw on next = go w (saw.on on) next
    where
      go : (z : View E) → z ≡ record v { steps = saw.step } → SawWord turned asks counts z m u → SawWord turned asks counts v m u
      go z is x = let y : SawWord turned asks counts (record v { steps = saw.step }) m u = subst (λ (q : View E). SawWord turned asks counts q m u) is x in let a = saw.later in let b = y.later in record { step = y.step; later = omega (arith, a, b); lawful = y.lawful; fails = y.fails; on = y.on }

  pub came : {Call : Type 0} (o : Obj Call) (k : Plan) (v w u : View E) (n : ℕ) (t : Tried) → SawWord turned asks counts v n w → Acted turned o k asks w u n t → CameTo turned o k asks counts v u t
  came o k v w u n Took saw acted = let view = saw.on (λ f. acted.0 (subst (λ task. IsFail asks task n) (sym (saw-task v w n saw)) f)) in (saw.step, saw.later, subst (λ (z : View E). TakesOwner turned o k z u) view acted.1)
  came o k v w u n Asked saw acted = let view = saw.on (λ f. acted.0 (subst (λ task. IsFail asks task n) (sym (saw-task v w n saw)) f)) in (saw.step, saw.later, acted.1, acted.2 ∙ ap (λ (z : View E). turns turned Ask z z.hand) view)
  came o k v w u n (Failed m) saw acted = let f = subst (λ task. IsFail asks task n) (saw-task v w n saw) acted.1 in subst (λ (z : ℕ). CameTo turned o k asks counts v u (Failed z)) (sym acted.0) (saw.step, saw.later, saw.lawful, f, acted.2 ∙ saw.fails f)
