-- What appending itself makes of where a pass stands.
use Rattle.std.proofs.Common.{◌≡◌, ◌≢◌, ◌∙◌, ℕ, ◌+◌, ◌≤◌, ◌==◌, Bool, true, false, List, [], ◌∷◌, ◌++◌, length, Some, sym, ap, subst, arith, eq-eqb, ne_eqb, if◌then◌else◌}
use Rattle.lock_core.specs.Views.{SpinHolds}
use Rattle.wait_list.specs.Lists.{Appends, FindsFirst, IsList, Knows, first_code, first_of, list_part}
use Rattle.wait_list.proofs.Joining.{alone-first, holds-one, others-first}
use Rattle.rwsem_wake.specs.SemParts.{apart_hand}
use Rattle.rwsem_wake.specs.Grants.{TurnsTo}
use Rattle.rwsem_wake.specs.GrantQueues.{rested}
use Rattle.rwsem_slow.specs.Queued.{Becomes, comes, waiting}
use Rattle.rwsem_slow.specs.Types.{Waiter, Enter, ListHand, Rest, First, Joining, Reads, Writes}
use Rattle.rwsem_wake.specs.Removals.{KnowsList}
use Rattle.rwsem_wake.specs.RwSemViews.{V, list_of, with_list, with_sem}

-- a list with a first waiter isn't empty
pub code-waits : (q : List Waiter) (t : ℕ) → first_code q ≡ t + 1 → 1 ≤ length q
code-waits [] t e = absurd (omega (arith, e))
code-waits (w ∷ q) t e = omega arith

-- it appended itself, and looked who is first
module _ (v u x : V) (w first : Waiter) (locked : SpinHolds v.spin) (later : v.steps ≤ x.steps) (a : Appends list_of with_list v w u) (f : FindsFirst list_of with_list u (Some first) x) where
  mine : list_part list_of u ≡ (v.spin, a.hand)
  mine = λ i. ((a.view i).spin, (a.view i).ext.list)

  same : f.hand ≡ a.hand
  same = f.learnt.same (subst Knows (sym mine) (holds-one v locked, a.since)) ∙ ap (λ p. p.1) mine

  whole : x ≡ record v { steps = x.steps; ext = with_list (Enter w) v a.hand }
  whole = f.view ∙ (λ i. record (a.view i) { steps = x.steps; ext = record (a.view i).ext { list = same i } })

  is-first : Some first ≡ first_of (a.was ++ w ∷ [])
  is-first = f.is ∙ (ap (λ (h : ListHand). first_of h.list) same ∙ ap first_of a.now)

  sound : IsList x.ext.list.list
  sound = subst IsList (sym (ap (λ (z : V). z.ext.list.list) f.view)) f.learnt.sound

  pub joined-list : KnowsList x
  joined-list = let spin = ap (λ (z : V). z.spin) whole in let list = ap (λ (z : V). z.ext.list) whole in record {
    knows = subst Knows (λ i. (sym spin i, sym list i)) (holds-one v locked, a.since);
    still = ap (λ (h : ListHand). h.changes) list ∙ a.still;
    sound = sound;
  }

  -- whether it stands alone
  pub stands-alone : first.task ≡ w.task → (length a.hand.list == 1) ≡ true
  stands-alone mine = let one = alone-first a.was w first a.fresh is-first mine in eq-eqb (length a.hand.list) 1 (ap length a.now ∙ one)

  pub stands-behind : first.task ≢ w.task → (length a.hand.list == 1) ≡ false
  stands-behind other = let more = others-first a.was w first is-first other in ne_eqb (length a.hand.list) 1 (λ z. more (sym (ap length a.now) ∙ z))

  sem-is : (b : Bool) → (length a.hand.list == 1) ≡ b → (writes : w.writer ≡ true) → v.ext.sem ≡ apart_hand → x.ext.sem ≡ record (waiting Writes) { stage = if b then First else Rest }
  sem-is b long writes apart = ap (λ (z : V). z.ext.sem) whole ∙ (λ i. record (apart i) { wait = if writes i then Writes else Reads; stage = if writes i then (if long i then First else Rest) else Joining (length a.hand.list == 1) })

  module _ (writes : w.writer ≡ true) (apart : v.ext.sem ≡ apart_hand) where
    pub writer-first : first.task ≡ w.task → x.ext.sem ≡ record (waiting Writes) { stage = First }
    writer-first mine = sem-is true (stands-alone mine) writes apart

    -- it is behind others, or has set WAITERS
    pub writer-behind : first.task ≢ w.task → Becomes v 1 (waiting Writes) (comes v.ext.wake) x
    writer-behind other = let sem = sem-is false (stands-behind other) writes apart in record {
      later = later;
      list = joined-list;
      is = whole ∙ (λ i. record v { steps = x.steps; ext = record { list = sym (ap (λ (z : V). z.ext.list) whole) i; sem = (sym (ap (λ (z : V). z.ext.sem) whole) ∙ sem) i; appends = v.ext.appends + 1; wake = comes v.ext.wake } });
    }

    pub writer-alone : first.task ≡ w.task → (y : V) → TurnsTo with_sem x (rested x.ext.sem) y → Becomes v 1 (waiting Writes) (comes v.ext.wake) y
    writer-alone mine y turns = let sem = writer-first mine in let list = ap (λ (z : V). z.ext.list) turns in let spin = ap (λ (z : V). z.spin) turns in let steps = ap (λ (z : V). z.steps) turns in record {
      later = omega (arith, later, steps);
      list = record {
        knows = subst Knows (λ i. (sym spin i, sym list i)) joined-list.knows;
        still = ap (λ (h : ListHand). h.changes) list ∙ joined-list.still;
        sound = subst IsList (sym (ap (λ (h : ListHand). h.list) list)) sound;
      };
      is = turns ∙ (λ i. record (whole i) { steps = sym steps i; ext = record { list = sym list i; sem = rested (sem i); appends = (whole i).ext.appends; wake = (whole i).ext.wake } });
    }
