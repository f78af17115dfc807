-- What is known under a lock of some kind is known of the object of either kind.
use Rattle.std.proofs.Common.{◌≡◌, ℕ, sym, subst}
use Rattle.word_bits.specs.Objects.{Obj}
use Rattle.word_bits.specs.Snapshots.{Words}
use Rattle.word_bits.specs.Histories.{Plan}
use Rattle.mm_serve.specs.Types.{Hand}
use Rattle.lock_core.specs.Kinds.{Kind, unavailable}
use Rattle.lock_core.specs.Views.{Knows, gathered}
use Rattle.guarded.specs.ObjectCopying.{IsKnownHistory}
use Rattle.guarded.specs.Gathering.{HasDoneAll}
use Rattle.guarded.proofs.Joining.{knows-left, knows-right}
use Rattle.mm_serve.specs.Workers.{KnowsMore}

module _ {Call : Type 0} (o : Obj Call) (kind other : Kind) (same : kind ≡ other) (k : Plan) (h : Hand) where
  pub done-of : (t : ℕ) → HasDoneAll o (unavailable kind) k h t → HasDoneAll o (unavailable other) k h t
  done-of t done = subst (λ (x : Kind). HasDoneAll o (unavailable x) k h t) same done

  pub history-of : (w : Words) → IsKnownHistory o (unavailable kind) k h w → IsKnownHistory o (unavailable other) k h w
  history-of w known = subst (λ (x : Kind). IsKnownHistory o (unavailable x) k h w) same known

pub takes-in : (h g new : Hand) → new ≡ gathered h g → KnowsMore g new
takes-in h g new is e r knows = subst (λ (x : Hand). Knows x e r) (sym is) (knows-right h g e r knows)

pub keeps-own : (h g new : Hand) → new ≡ gathered h g → KnowsMore h new
keeps-own h g new is e r knows = subst (λ (x : Hand). Knows x e r) (sym is) (knows-left h g e r knows)
