-- A pass that has looked back goes back to the causes of calls that are told.
use Rattle.std.proofs.Common.{ℕ, false, List, [], ◌∷◌, sym, subst}
use Rattle.word_bits.specs.Objects.{Obj}
use Rattle.word_bits.specs.Histories.{Plan}
use Rattle.lock_core.specs.Causes.{HasCause}
use Rattle.lock_core.specs.Kinds.{Kind, unavailable}
use Rattle.lock_core.specs.Locked.{IsLockedThen, IsSiteStep}
use Rattle.lock_core.specs.Pasts.{BeganWith, EachMoment, Paced}
use Rattle.lock_core.specs.SiteStated.{IsSiteThen}
use Rattle.lock_core.proofs.Causing.{calls_have_causes}
use Rattle.mm_serve.specs.CallCauses.{RecalledCauses}
use Rattle.mm_serve.specs.Types.{Moment}
use Rattle.mm_serve.proofs.RealTime.{recorded_now}

pub recalled_causes : {Call : Type 0} (o : Obj Call) (kind : Kind) (size word_at : ℕ) (waits : Plan → Moment → List ℕ → Type 0) (opened : Plan → Moment) → RecalledCauses o kind size word_at waits opened
recalled_causes o kind size word_at waits opened k u records v few knows known is =
    let step = knows.last.step in
    let past : List Moment = step.now ∷ step.before ∷ step.rest in
    subst (λ (z : List Moment). HasCause k word_at z v.entry.task v.entry.call v.told.reply) (sym step.past_is)
    (calls_have_causes o (unavailable kind) size word_at false k (opened k) step.now (step.before ∷ step.rest) few
    (sites past (subst (EachMoment (IsLockedThen o kind size k word_at waits)) step.past_is knows.always))
    (subst (Paced (IsSiteStep k word_at)) step.past_is knows.moves)
    knows.new
    (subst (BeganWith (opened k)) step.past_is knows.begins)
    v.entry.task v.entry.call v.told
    (recorded_now o kind size word_at waits (λ k u. Unit {0}) opened k u knows records v known is))
  where
    sites : (past : List Moment) → EachMoment (IsLockedThen o kind size k word_at waits) past → EachMoment (IsSiteThen o (unavailable kind) size k) past
    sites [] all = tt
    sites (m ∷ past) all = (all.0.is_site, sites past all.1)
