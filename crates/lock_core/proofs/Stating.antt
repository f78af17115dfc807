-- The rule that is kept implies the one that is stated.
use Rattle.std.proofs.Common.{◌≡◌, ℕ, zero, suc, ◌+◌, ◌-◌, ◌<◌, inl, inr, false, List, [], ◌∷◌, length, slice_get, Some, sym, refl, ap, ◌∙◌, arith}
use Rattle.word_bits.specs.LockWords.{Unavailable}
use Rattle.word_bits.specs.Objects.{Obj}
use Rattle.word_bits.specs.Histories.{Plan}
use Rattle.lock_core.specs.Layout.{SiteWords}
use Rattle.lock_core.specs.Records.{bit}
use Rattle.lock_core.specs.Views.{owed_weight, owed_of, writes_of}
use Rattle.lock_core.specs.Sites.{SiteKept}
use Rattle.lock_core.specs.SiteStated.{IsSite}
use Rattle.lock_core.specs.Totals.{total}
use Rattle.lock_core.specs.Types.{Entry, Hand, Stage, Rest, Entered, Logged}
use Rattle.lock_core.specs.ViewParts.{Each}
use Rattle.lock_core.proofs.RowLaws.{same-some, some-inside}
use Rattle.lock_core.proofs.WordSteps.{some-of, owed-one, others-free}

pub none-writes : (hs : List Hand) → Each (λ h. h.writes ≡ false) hs → total writes_of hs ≡ 0
none-writes [] e = refl
none-writes (h ∷ hs) e = let a = none-writes hs (λ j g at. e (suc j) g at) in let b : writes_of h ≡ 0 = ap bit (e zero h refl) in omega arith

owes : (s : Stage) {P : Type 0} → 0 < owed_weight s → ((e : Entry) → s ≡ Logged e → P) → P
owes Rest l f = absurd (omega (arith, l))
owes (Entered e) l f = absurd (omega (arith, l))
owes (Logged e) l f = f e refl

module _ {Call : Type 0} (o : Obj Call) (unavailable : Unavailable) (size : ℕ) (k : Plan) where
  pub kept-states : (w : SiteWords) (hs : List Hand) → SiteKept o unavailable size k w hs → IsSite o unavailable size k w hs
  kept-states w hs r = record {
    log = r.log;
    told = r.told;
    plan = r.laid.calls;
    plans = λ j h at. (r.each j h at).plan;
    numbers = r.balances.named;
    tasks = λ j h at t has. ((r.each j h at).mine t has).0;
    done = λ j h at t has. ((r.each j h at).mine t has).1;
    nameless = λ j h at. (r.each j h at).nameless;
    guarded = λ none. r.balances.quiet (none-writes hs none);
    writers = λ j h at. (r.each j h at).writer;
    apart = λ i j g h at at' other writes. others-free o unavailable size k hs i j g h r.balances.apart at ((r.each i g at).writer writes) (λ e. other (sym e)) at';
    alone = λ i j g h at at' other alone. others-free o unavailable size k hs i j g h r.balances.apart at alone (λ e. other (sym e)) at';
    known = λ j h at. (r.each j h at).known;
    entries = (r.tells.many, r.tells.entered);
    seen = λ j h at. (r.each j h at).seen.1;
    knows = λ j h at e x knows. (r.each j h at).knows knows.0 (record { entry = e; rec = x }) knows.1;
    records = r.tells.filled;
    legal = r.tells.legal;
    logged = λ j e there. elim (native.Mathlib.Decide.dec_le (length r.log) (j + total owed_of hs)) [
      | no before ↦ inl (r.balances.recorded j e there (omega (arith, before)))
      | yes last ↦
          let inside = some-inside r.log j e there in let s = some-of owed_of hs (omega (arith, last, inside)) in owes s.1.stage s.3 (λ x is.
          let ok = (r.each s.0 s.1 s.2).logged x is in let one = owed-one o unavailable size k w hs s.0 s.1 r s.2 ok.0 in
          let place : j ≡ length r.log - 1 = omega (arith, last, inside, one) in let same : e ≡ x = same-some e x (sym there ∙ (ap (slice_get r.log) place ∙ ok.3)) in
          inr (s.0, s.1, s.2, record { task = ok.1 ∙ ap (λ (z : Entry). Some z.task) (sym same); call = ok.2 ∙ ap (λ (z : Entry). z.call) (sym same); alone = ok.0; stage = is ∙ ap Logged (sym same) }))
    ];
    sent = r.balances.sent;
    consumed = r.balances.consumed;
    pending = r.balances.pending;
    saw = λ j h at. (r.each j h at).saw;
  }
