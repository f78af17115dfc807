-- What a semaphore's words state, as callers of any lock see it.
use Rattle.std.proofs.Common.{◌≡◌, ◌∙◌, ℕ, zero, suc, ◌==◌, ◌<◌, List, [], ◌∷◌, length, map, eq-eqb, refl, ap, arith}
use Rattle.std.specs.Prelude.{slice_index_or}
use native.Mathlib.Decide.{dec_le}
use Rattle.word_bits.specs.LockWords.{counted as shut}
use Rattle.word_bits.specs.Objects.{Obj}
use Rattle.word_bits.specs.Histories.{Plan}
use Rattle.lock_core.specs.Kinds.{semaphore}
use Rattle.lock_core.specs.Layout.{site}
use Rattle.lock_core.specs.Locked.{IsLockedThen, shared_of}
use Rattle.lock_core.specs.Pasts.{instant, moment}
use Rattle.lock_core.specs.Records.{bit}
use Rattle.lock_core.specs.Totals.{total}
use Rattle.lock_core.specs.Views.{alone_of, hand_of}
use Rattle.lock_core.proofs.Stating.{kept-states}
use Rattle.wait_list.specs.Lists.{counted}
use Rattle.rwsem_wake.specs.SemParts.{alone_of as alone_in, shared_of as shared_in}
use Rattle.rwsem_wake.proofs.Places.{some-length}
use Rattle.rwsem_wake.specs.RwSemViews.{V, count_at, seen}
use Rattle.rwsem_slow.specs.RwSems.{Kept, standing}
use Rattle.rwsem_slow.specs.RwSemStated.{task_of, waits_on}
use Rattle.rwsem_slow.specs.Types.{Waiter}
use Rattle.rwsem_slow.proofs.Stating.{queued}

-- the same passes hold alone and shared, as the parts and as the hands have it
alones : (vs : List V) → total alone_in (map seen vs) ≡ total alone_of (map hand_of vs)
alones [] = refl
alones (v ∷ vs) = let e = alones vs in omega (arith, e)

shares : (vs : List V) → total shared_in (map seen vs) ≡ total shared_of (map hand_of vs)
shares [] = refl
shares (v ∷ vs) = let e = shares vs in omega (arith, e)

some-waits : (q : List Waiter) → map task_of q ≡ [] → length q ≡ 0
some-waits [] e = refl
some-waits (w ∷ q) e = absurd (let n = ap length e in omega (arith, n))

nobody-waits : (q : List Waiter) → length q ≡ 0 → map task_of q ≡ []
nobody-waits [] e = refl
nobody-waits (w ∷ q) e = absurd (omega (arith, e))

waits-counted : (q : List Waiter) (t k : ℕ) → k < length (map task_of q) → slice_index_or (map task_of q) k t ≡ t → 0 < counted t q
waits-counted [] t k within is = absurd (omega (arith, within))
waits-counted (w ∷ q) t zero within is = let one : bit (w.task == t) ≡ 1 = ap bit (eq-eqb w.task t is) in omega (arith, one)
waits-counted (w ∷ q) t (suc k) within is = let more = waits-counted q t k (omega (arith, within)) is in omega (arith, more)

module _ {Call : Type 0} (o : Obj Call) (size : ℕ) where
  pub sem-locked : (k : Plan) (ws : List ℕ) (vs : List V) → Kept o size k ws vs → IsLockedThen o semaphore size k count_at waits_on (moment standing (instant ws vs))
  sem-locked k ws vs (q, r) = let m = moment standing (instant ws vs) in let is = queued o size k ws vs q r in let c = is.count in let s = some-length q in record {
    is_site = kept-states o shut size k (site k ws) (map hand_of vs) r.site_holds;
    waiting = map task_of q;
    are = (q, is.sound, refl, is.states);
    states = (
      record { writer = c.writer ∙ alones vs; readers = let f = c.field in let l = c.least in let e = shares vs in omega (arith, f, l, e) },
      record {
        set = λ free flag none. let w = (is.flags free).waiters in let z = s.3 (some-waits q none) in absurd (omega (arith, w, z, flag));
        clear = λ free flag. nobody-waits q (elim (dec_le 1 (length q)) [ yes more ↦ absurd (flag ((is.flags free).waiters ∙ s.0 more)) | no none ↦ omega (arith, none) ]);
        passes = λ free t waits. is.passes t (waits-counted q t waits.0 waits.1 waits.2);
      },
    );
  }
