-- What the guarded words tell of the object.
use Rattle.std.proofs.Common.{◌≡◌, ℕ, false, List, Some, length, sym, ap, ◌∙◌, subst, arith}
use Rattle.word_bits.specs.Objects.{Obj, IsObjectReply}
use Rattle.word_bits.specs.Histories.{Plan, state_after}
use Rattle.word_bits.proofs.States.{IsLawful, state_is_state}
use Rattle.lock_core.specs.Views.{committed, next_entry}
use Rattle.lock_core.proofs.RecordLaws.{state-snoc}
use Rattle.lock_core.specs.SitePasses.{IsChange}
use Rattle.lock_core.specs.Shown.{Shown, IsNextCall}
use Rattle.lock_core.specs.Locking.{IsStored, HasSince}
use Rattle.guarded.specs.declared.next.Next.{Next}
use Rattle.guarded.specs.Performing.{IsNext, HasStored}
use Rattle.guarded.specs.Types.{CallWords, Entry, Reply, Hand}
use Rattle.guarded.proofs.Passing.{beside-trans}

module _ {Call : Type 0} (o : Obj Call) (lawful : IsLawful o) (k : Plan) (h : Hand) (stored : IsStored o k h) where
  -- a holder knows all the words that store a state
  pub known-sized : (n : ℕ) → ((s : o.State) (ws : List ℕ) → o.Represents s ws → ws ≡ o.stores s) → ((s : o.State) → o.IsState s → length (o.stores s) ≡ n) → length h.known ≡ n
  known-sized n exact sized = ap length (exact (state_after o k h.log) h.known stored) ∙ sized (state_after o k h.log) (state_is_state o lawful k h.log)

module _ {Call : Type 0} (o : Obj Call) (lawful : IsLawful o) (k : Plan) (log : List Entry) (words : CallWords) (c : Call) (is : o.call_of words ≡ Some c) where
  -- what a call replies on the state after a log is a reply of the object
  pub is-object : (reply : Reply) → reply ≡ (o.meaning (state_after o k log) c).1 → IsObjectReply reply
  is-object reply e = subst IsObjectReply (sym e) (lawful.replies (state_after o k log) c (state_is_state o lawful k log) (lawful.called words c is))

  -- after a change the log has one entry more, and the guarded words store the state behind it
  module _ (h g : Hand) (step : ℕ) (reply : Reply) (begun : h.log ≡ log) (next : IsNextCall k h words) (now : g ≡ committed (record h { known = o.stores (o.meaning (state_after o k h.log) c).0 }) step (next_entry h) reply) where
    pub state-changed : (o.meaning (state_after o k h.log) c).0 ≡ state_after o k g.log
    state-changed = sym (state-snoc o k h.log (next_entry h) words c next.1 is) ∙ ap (state_after o k) (sym (ap {A = Hand} (λ (x : Hand). x.log) now))

    pub still-stored : ((s : o.State) (ws : List ℕ) → ws ≡ o.stores s → o.Represents s ws) → IsStored o k g
    still-stored stands = stands (state_after o k g.log) g.known (ap {A = Hand} (λ (x : Hand). x.known) now ∙ ap o.stores state-changed)

-- a pass that stored words and committed
module _ (v m : Shown) (words : List ℕ) (stored : HasStored words v m) where
  pub change-kept : (u : Shown) (reply : Reply) → HasSince (λ step. committed m.hand step (next_entry m.hand) reply) m u → HasSince (λ step. committed (record v.hand { known = words }) step (next_entry v.hand) reply) v u
  change-kept u reply c = (
    c.0,
    (let b = stored.1.1.3 in let l = c.1 in omega (arith, b, l)),
    c.2,
    (c.3.0 ∙ ap {B = Hand} (λ (h : Hand). committed h c.0 (next_entry h) reply) stored.1.0, beside-trans v m u stored.1.1 c.3.1),
  )

  pub may-commit : {Call : Type 0} (o : Obj Call) → ((s : o.State) (ws : List ℕ) → ws ≡ o.stores s → o.Represents s ws) → (k : Plan) (n : Next Call) (reply : Reply) → IsNext o k v.hand n → o.reads n.call ≡ false → words ≡ o.stores (o.meaning (state_after o k v.hand.log) n.call).0 → reply ≡ (o.meaning (state_after o k v.hand.log) n.call).1
      → IsChange o k m.hand (next_entry m.hand) reply
  may-commit o stands k n reply next changes store replies = subst (λ (h : Hand). IsChange o k h (next_entry h) reply) (sym stored.1.0)
      (record { words = n.words; call = n.call; planned = next.planned.1; is = next.is; changes = changes; stored = stands (o.meaning (state_after o k v.hand.log) n.call).0 words store; replies = replies })
