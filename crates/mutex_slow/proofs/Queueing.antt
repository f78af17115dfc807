-- What appending itself makes of where a pass stands.
use Rattle.std.proofs.Common.{◌≡◌, ◌≢◌, ◌∙◌, Bool, List, [], ◌∷◌, ◌++◌, length, None, Some, sym, refl, ap, subst, eq-eqb, ne_eqb, if◌then◌else◌}
use Rattle.lock_core.specs.Views.{SpinHolds}
use Rattle.wait_list.specs.Lists.{Appends, FindsFirst, Knows, list_part, first_of}
use Rattle.wait_list.proofs.Joining.{alone-first, holds-one, others-first}
use Rattle.wake_duty.specs.DutyWakes.{waits}
use Rattle.mutex_slow.specs.Mutexes.{V, OwesNoWake, list_of, with_list, turned}
use Rattle.mutex_slow.specs.MutexPlaces.{IsInLine}
use Rattle.mutex_slow.specs.Types.{Waiter, Enter, ListHand, Rest, Joins, Flag}
use Rattle.mutex_word.specs.Holders.{turns}

module _ (v u x : V) (w : Waiter) (first : Waiter) (locked : SpinHolds v.spin) (a : Appends list_of with_list v w u) (f : FindsFirst list_of with_list u (Some first) x) where
  mine : list_part list_of u ≡ (v.spin, a.hand)
  mine = λ i. ((a.view i).spin, (a.view i).ext.list)

  same : f.hand ≡ a.hand
  same = f.learnt.same (subst Knows (sym mine) (holds-one v locked, a.since)) ∙ ap (λ p. p.1) mine

  whole : x ≡ record v { steps = x.steps; ext = with_list (Enter w) v a.hand }
  whole = f.view ∙ (λ i. record (a.view i) { steps = x.steps; ext = record (a.view i).ext { list = same i } })

  is-first : Some first ≡ first_of (a.was ++ w ∷ [])
  is-first = f.is ∙ (ap (λ (h : ListHand). first_of h.list) same ∙ ap first_of a.now)

  pub point-joins : first.task ≡ w.task → x.ext.point ≡ Joins
  point-joins mine = let one = alone-first a.was w first a.fresh is-first mine in ap (λ (z : V). z.ext.point) whole ∙ ap (λ (c : Bool). if c then Joins else Rest) (eq-eqb (length a.hand.list) 1 (ap length a.now ∙ one))

  pub point-rests : first.task ≢ w.task → x.ext.point ≡ Rest
  point-rests other = let more = others-first a.was w first is-first other in ap (λ (z : V). z.ext.point) whole ∙ ap (λ (c : Bool). if c then Joins else Rest) (ne_eqb (length a.hand.list) 1 (λ z. more (sym (ap length a.now) ∙ z)))

  pub appended : x ≡ record v { steps = x.steps; ext = with_list (Enter w) v a.hand }
  appended = whole

  pub flagged-listed : (y : V) → OwesNoWake v → y ≡ turns turned Flag x x.hand → IsInLine y
  flagged-listed y clear now = let z : y ≡ turns turned Flag (record v { steps = x.steps; ext = with_list (Enter w) v a.hand }) v.hand = now ∙ ap (λ (z : V). turns turned Flag z z.hand) whole in
      subst (λ (z : V). IsInLine z) (sym z) (record { queued = refl; rests = refl; still = a.still; clear = clear; waits = refl })

  pub behind-listed : OwesNoWake v → first.task ≢ w.task → IsInLine x
  behind-listed clear other = record { queued = ap (λ (z : V). z.ext.queued) whole; rests = point-rests other; still = ap (λ (z : V). z.ext.list.changes) whole ∙ a.still; clear = subst OwesNoWake (sym whole) clear; waits = ap (λ (z : V). waits z.ext.wake.wait_state) whole }

-- it isn't empty then
pub found-some : {P : Type 0} (v u x : V) (w : Waiter) → SpinHolds v.spin → Appends list_of with_list v w u → FindsFirst list_of with_list u None x → P
found-some v u x w locked a f = nobody a.was (f.is ∙ (ap (λ (h : ListHand). first_of h.list) same ∙ ap first_of a.now))
  where
    mine : list_part list_of u ≡ (v.spin, a.hand)
    mine = λ i. ((a.view i).spin, (a.view i).ext.list)

    same : f.hand ≡ a.hand
    same = f.learnt.same (subst Knows (sym mine) (holds-one v locked, a.since)) ∙ ap (λ p. p.1) mine

    nobody : {P : Type 0} (was : List Waiter) → None ≡ first_of (was ++ w ∷ []) → P
    nobody [] e = absurd cc
    nobody (y ∷ ys) e = absurd cc
