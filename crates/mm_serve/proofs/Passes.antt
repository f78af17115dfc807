-- What one pass knows, from call to call and at a copy.
use Rattle.std.proofs.Common.{◌≡◌, ℕ, [], ◌∷◌, ◌++◌, length, slice_get, sym, ap, ◌∙◌, subst}
use Rattle.word_bits.specs.LockWords.{Unavailable}
use Rattle.word_bits.specs.Objects.{Obj}
use Rattle.word_bits.specs.Snapshots.{Words}
use Rattle.word_bits.specs.Histories.{Plan}
use Rattle.lock_core.specs.Records.{row}
use Rattle.lock_core.specs.Views.{gave_up}
use Rattle.lock_core.specs.SitePasses.{Numbered}
use Rattle.lock_core.specs.Shown.{Shown}
use Rattle.lock_core.specs.Kinds.{Kind, unavailable}
use Rattle.guarded.specs.Performing.{Performs}
use Rattle.guarded.specs.ObjectCopying.{IsKnownHistory}
use Rattle.guarded.specs.Gathering.{HasDoneAll, HasDoneSoFar, DoesOneMore, KeepsDone}
use Rattle.guarded.proofs.Chained.{none-done}
use Rattle.mm_serve.specs.TaskServing.{AllTasksDone, IsIdle, IsQuiet, IsServing}
use Rattle.mm_serve.specs.Types.{Hand}

-- a pass that has another's hand but for the fields that say nothing of what it owes
still-quiet : (h g : Hand) → g.held ≡ h.held → g.sent ≡ h.sent → g.consumed ≡ h.consumed → IsQuiet h → IsQuiet g
still-quiet h g held sent consumed q = record { out = held ∙ q.out; sent = sent ∙ q.sent; consumed = consumed ∙ q.consumed }

module _ {Call : Type 0} (o : Obj Call) where
  -- a pass that took the number of a task without records
  pub begun : (unavailable : Unavailable) (k : Plan) (h g : Hand) (t : ℕ) → IsIdle h → Numbered o unavailable k h t g → g.done ≡ 0 → length g.seen ≡ 0 → IsServing o unavailable k g t
  begun unavailable k h g t idle n done seen = record {
    numbered = ap {A = Hand} (λ x. x.task) n.4;
    quiet = still-quiet h g (ap {A = Hand} (λ x. x.held) n.4) (ap {A = Hand} (λ x. x.sent) n.4) (ap {A = Hand} (λ x. x.consumed) n.4) idle.quiet;
    made = [];
    done = subst (λ m. HasDoneSoFar o unavailable k g t m []) (sym done) (none-done o unavailable k g t done seen);
  }

  -- one more call
  pub went-on : (kind : Kind) (at : ℕ) (k : Plan) (t : ℕ) (reply : _) (v u : Shown) → IsServing o (unavailable kind) k v.hand t → Performs o kind at k reply v u → DoesOneMore o (unavailable kind) k v.hand u.hand → IsServing o (unavailable kind) k u.hand t
  went-on kind at k t reply v u s p more = let m = more t v.hand.done s.made s.numbered s.done in record {
    numbered = p.task ∙ s.numbered;
    quiet = record { out = p.out; sent = p.accounted.0; consumed = p.accounted.1 };
    made = s.made ++ m.0 ∷ [];
    done = subst (λ n. HasDoneSoFar o (unavailable kind) k u.hand t n (s.made ++ m.0 ∷ [])) (sym p.done) m.1;
  }

  -- the number is given back
  pub now-idle : (h g : Hand) → IsQuiet h → g ≡ gave_up h → IsIdle g
  now-idle h g q is = record {
    numberless = ap {A = Hand} (λ x. x.task) is;
    quiet = still-quiet h g (ap {A = Hand} (λ x. x.held) is) (ap {A = Hand} (λ x. x.sent) is) (ap {A = Hand} (λ x. x.consumed) is) q;
  }

  pub all-done : (unavailable : Unavailable) (k : Plan) (h g : Hand) (t : ℕ) → IsServing o unavailable k h t → h.done ≡ length (row k t) → KeepsDone o unavailable k h g → HasDoneAll o unavailable k g t
  all-done unavailable k h g t s all keeps = (s.made, keeps t s.made s.done.does, s.done.many ∙ all)

  pub still-done : (unavailable : Unavailable) (k : Plan) (h g : Hand) → KeepsDone o unavailable k h g → AllTasksDone o unavailable k h → AllTasksDone o unavailable k g
  still-done unavailable k h g keeps all = λ t l. let d = all t l in (d.0, keeps t d.0 d.1, d.2)

-- a pass with the same records knows the history too
pub still-known : {Call : Type 0} (o : Obj Call) (unavailable : Unavailable) (k : Plan) (h g : Hand) (w : Words) → g.records ≡ h.records → IsKnownHistory o unavailable k h w → IsKnownHistory o unavailable k g w
still-known o unavailable k h g w same known = (known.0, known.1, known.2, known.3, λ t c r at. let one = known.4 t c r at in (one.0, ap (λ xs. slice_get xs one.0) same ∙ one.1))
