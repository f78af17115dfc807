-- A pass of a table with a sequence word that takes a number, makes a call, and gives the number back.
use Rattle.std.proofs.Common.{◌≡◌, ℕ, ◌+◌, ◌<◌, ◌≤◌, List, length, slice_get, Some, ap, ◌∙◌, sym, refl, subst, arith}
use Rattle.std.proofs.lemmas.List.{length-replicate}
use Rattle.word_bits.specs.declared.call.CallWords.{CallWords}
use Rattle.word_bits.specs.declared.entry.Entry.{Entry}
use Rattle.word_bits.specs.declared.reply.Reply.{Reply}
use Rattle.word_bits.specs.LockWords.{Unavailable}
use Rattle.word_bits.specs.Objects.{Obj}
use Rattle.lock_core.specs.declared.view.Hand.{Hand}
use Rattle.lock_core.specs.declared.view.Held.TheVariants.{No}
use Rattle.lock_core.specs.declared.view.SpinHand.{SpinHand}
use Rattle.lock_core.specs.SitePasses.{Numbered}
use Rattle.lock_core.specs.Records.{row}
use Rattle.lock_core.specs.Views.{gave_up, handed, ticked, Beside, BesideForgetting}
use Rattle.lock_core.proofs.Recording.{next-is}
use Rattle.vma_map.specs.declared.call.SpaceCall.TheVariants.{Map}
use Rattle.vma_map.specs.Spaces.{space}
use Rattle.seq_fault.specs.declared.site.SeqPass.{SeqPass}
use Rattle.seq_fault.specs.declared.site.SeqSite.{SeqSite}
use Rattle.seq_fault.specs.SeqHandles.{done_in, hand_in, held_in, plan_of, view_of, SitsAt}
use Rattle.seq_fault.specs.SeqRuled.{V}
use Rattle.seq_fault.specs.SeqSteps.{Faults, HasNextFault, OnlySteps}
use Rattle.seq_fault.specs.SeqWriting.{HasNextChange, Writes}
use Rattle.lock_bench.specs.FaultPasses.{IsAtCall, IsIdle}
use Rattle.lock_bench.specs.FaultPlans.{HasFaults, MapsArea, fault_words, map_words}
use Rattle.lock_bench.proofs.Planned.{get-replicate}

module _ {O C : Type 0} (site : SeqSite O C) where
  abbrev P : Type 0
  P = SeqPass O C

  pub begun : {Call : Type 0} (o : Obj Call) (unavailable : Unavailable) (old new : P) (t : ℕ) → IsIdle site old → SitsAt site new → Numbered o unavailable (plan_of site) (hand_in old) t (hand_in new) → BesideForgetting (view_of old) (view_of new) → IsAtCall site t (done_in new) new
  begun o unavailable old new t idle own became beside = let before = idle.own in let none = before.nameless (sym before.task ∙ idle.numberless) in let now = became.4 in record {
    own = own;
    numbered = own.task ∙ ap (λ (h : Hand). h.task) now;
    rests = (ap (λ (h : Hand). h.held) now ∙ none.0, ap (λ (s : SpinHand). s.frame.point) beside.0 ∙ idle.unspun);
    recorded = (ap (λ (h : Hand). h.sent) now ∙ none.1, ap (λ (h : Hand). h.consumed) now ∙ none.2);
    next = refl;
  }

  -- no more of its task's calls are done than it has
  pub within : (pass : P) (t call count : ℕ) → IsAtCall site t call pass → HasFaults (plan_of site) t count → call ≤ count
  within pass t call count at faults = let most = (at.own.planned t at.numbered).1 in let next = at.next in let long = ap (λ (ws : List CallWords). length ws) faults.1 in omega (arith, most, next, long, length-replicate count fault_words)

  pub next-fault : (pass : P) (t call count : ℕ) → IsAtCall site t call pass → HasFaults (plan_of site) t count → call < count → HasNextFault (plan_of site) (hand_in pass)
  next-fault pass t call count at faults less = (
    17,
    2,
    record {
      words = fault_words;
      planned = subst (λ (e : Entry). slice_get (row (plan_of site) e.task) e.call ≡ Some fault_words) (sym (next-is (hand_in pass) t call (sym at.own.task ∙ at.numbered) (sym at.own.done ∙ at.next)))
          (ap (λ (ws : List CallWords). slice_get ws call) faults.1 ∙ get-replicate count fault_words call less);
      is = refl;
    },
  )

  pub next-map : (pass : P) (t call : ℕ) → IsAtCall site t call pass → MapsArea (plan_of site) t → call ≡ 0 → HasNextChange space (plan_of site) (hand_in pass)
  next-map pass t call at maps none = record {
    words = map_words;
    call = Map 16 4 3;
    planned = subst (λ (e : Entry). slice_get (row (plan_of site) e.task) e.call ≡ Some map_words) (sym (next-is (hand_in pass) t 0 (sym at.own.task ∙ at.numbered) (sym at.own.done ∙ (at.next ∙ none))))
        (ap (λ (ws : List CallWords). slice_get ws 0) maps.1);
    is = refl;
    changes = refl;
  }

  pub faulted : (old new : P) (t call : ℕ) (reply : Reply) → IsAtCall site t call old → SitsAt site new → ((v : V) × OnlySteps (view_of old) v × Faults (plan_of site) (ticked (ticked v)) reply (view_of new)) → IsAtCall site t (call + 1) new
  faulted old new t call reply was own did = let on = did.1.3 in let is = did.2.is in record {
    own = own;
    numbered = own.task ∙ (ap (λ (v : V). v.hand.task) is ∙ (ap (λ (v : V). v.hand.task) on ∙ (sym was.own.task ∙ was.numbered)));
    rests = (ap (λ (v : V). v.hand.held) is ∙ (ap (λ (v : V). v.hand.held) on ∙ was.rests.0), ap (λ (v : V). v.spin.frame.point) is ∙ (ap (λ (v : V). v.spin.frame.point) on ∙ was.rests.1));
    recorded = (ap (λ (v : V). v.hand.sent) is ∙ (ap (λ (v : V). v.hand.sent) on ∙ was.recorded.0), ap (λ (v : V). v.hand.consumed) is ∙ (ap (λ (v : V). v.hand.consumed) on ∙ was.recorded.1));
    next = own.done ∙ (ap (λ (v : V). v.hand.done) is ∙ (ap (λ (v : V). v.hand.done + 1) on ∙ ap (λ (n : ℕ). n + 1) (sym was.own.done ∙ was.next)));
  }

  pub mapped : (old new : P) (t call : ℕ) (reply : Reply) → IsAtCall site t call old → SitsAt site new → held_in new ≡ No → Writes space (plan_of site) (hand_in old) reply (hand_in new) → Beside (view_of old) (view_of new) → done_in new ≡ done_in old + 1 → IsAtCall site t (call + 1) new
  mapped old new t call reply was own out wrote beside done = record {
    own = own;
    numbered = own.task ∙ (wrote.appends.task ∙ (sym was.own.task ∙ was.numbered));
    rests = (sym own.held ∙ out, ap (λ (s : SpinHand). s.frame.point) beside.0 ∙ was.rests.1);
    recorded = wrote.appends.owes;
    next = done ∙ ap (λ (n : ℕ). n + 1) was.next;
  }

  pub ended : (old new : P) (t call : ℕ) → IsAtCall site t call old → SitsAt site new → view_of new ≡ handed (view_of old) (gave_up (hand_in old)) → IsIdle site new × (done_in new ≡ call)
  ended old new t call was own kept = (
    record {
      own = own;
      numberless = own.task ∙ ap (λ (v : V). v.hand.task) kept;
      unspun = ap (λ (v : V). v.spin.frame.point) kept ∙ was.rests.1;
    },
    own.done ∙ (ap (λ (v : V). v.hand.done) kept ∙ (sym was.own.done ∙ was.next)),
  )
