-- A pass of a per-CPU semaphore that takes a number, makes a round, and gives the number back.
use Rattle.std.proofs.Common.{◌≡◌, ℕ, ◌+◌, false, is_some, ap, ◌∙◌, sym}
use Rattle.word_bits.specs.LockWords.{Unavailable}
use Rattle.word_bits.specs.Objects.{Obj}
use Rattle.word_bits.specs.Histories.{Plan}
use Rattle.lock_core.specs.declared.view.Hand.{Hand}
use Rattle.lock_core.specs.declared.view.Held.TheVariants.{Shared}
use Rattle.lock_core.specs.declared.view.SpinHand.{SpinHand}
use Rattle.lock_core.specs.Holding.{released}
use Rattle.lock_core.specs.SitePasses.{Numbered}
use Rattle.lock_core.specs.Views.{gave_up, handed, BesideForgetting}
use Rattle.percpu_rwsem.specs.declared.pass.PercpuPass.{PercpuPass}
use Rattle.percpu_rwsem.specs.declared.site.PercpuRwSem.{PercpuRwSem}
use Rattle.percpu_rwsem.specs.declared.view.Phase.TheVariants.{Idle, Reads}
use Rattle.percpu_rwsem.specs.PercpuHandles.{after, blocks_in, hand_in, seen_in, task_in, view_of, SitsAt, TakesSince}
use Rattle.percpu_rwsem.specs.PercpuRuled.{V}
use Rattle.lock_bench.specs.BenchPercpuPasses.{IsBetween, IsIdle}

module _ {O C Call : Type 0} (o : Obj Call) (k : Plan) (sem : PercpuRwSem O C) where
  pub begun : (unavailable : Unavailable) (old new : PercpuPass O C) (t : ℕ) → IsIdle sem old → SitsAt sem new → seen_in new ≡ seen_in old → Numbered o unavailable k (hand_in old) t (hand_in new) → BesideForgetting (view_of old) (view_of new)
      → IsBetween sem new × ((hand_in new).takes ≡ (hand_in old).takes)
  begun unavailable old new t idle own seen became beside = let before = idle.own.seat in let none = before.nameless (sym before.task ∙ idle.numberless) in let now = became.4 in (
    record {
      own = own;
      numbered = ap is_some (own.seat.task ∙ ap (λ (h : Hand). h.task) now);
      apart = ap is_some seen ∙ idle.apart;
      rests = (ap (λ (h : Hand). h.held) now ∙ none.0, ap (λ (s : SpinHand). s.frame.point) beside.0 ∙ idle.unspun);
      recorded = (ap (λ (h : Hand). h.sent) now ∙ none.1, ap (λ (h : Hand). h.consumed) now ∙ none.2);
    },
    ap (λ (h : Hand). h.takes) now,
  )

  pub round : (old mid new : PercpuPass O C) → IsBetween sem old → TakesSince o k Shared Reads (view_of old) (view_of mid) → task_in mid ≡ task_in old → SitsAt sem new → blocks_in new ≡ false → view_of new ≡ after 2 (view_of mid) (released (hand_in mid) 0) Idle → task_in new ≡ task_in mid
      → IsBetween sem new × ((hand_in new).takes ≡ (hand_in old).takes + 1)
  round old mid new was took same own apart kept still = let is = kept ∙ ap (λ (v : V). after 2 v (released v.hand 0) Idle) took.2.3 in (
    record {
      own = own;
      numbered = ap is_some (still ∙ same) ∙ was.numbered;
      apart = apart;
      rests = (ap (λ (v : V). v.hand.held) is, ap (λ (v : V). v.spin.frame.point) is ∙ was.rests.1);
      recorded = (ap (λ (v : V). v.hand.sent) is ∙ was.recorded.0, ap (λ (v : V). v.hand.consumed) is ∙ was.recorded.1);
    },
    ap (λ (v : V). v.hand.takes) is,
  )

  pub ended : (old new : PercpuPass O C) → IsBetween sem old → SitsAt sem new → seen_in new ≡ seen_in old → view_of new ≡ handed (view_of old) (gave_up (hand_in old)) → IsIdle sem new
  ended old new was own seen kept = record {
    own = own;
    numberless = own.seat.task ∙ ap (λ (v : V). v.hand.task) kept;
    apart = ap is_some seen ∙ was.apart;
    unspun = ap (λ (v : V). v.spin.frame.point) kept ∙ was.rests.1;
  }
