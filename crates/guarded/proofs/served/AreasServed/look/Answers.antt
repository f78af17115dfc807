use Rattle.std.proofs.Common.{◌≡◌, sym, ap, ◌∙◌}
use Rattle.word_bits.specs.Histories.{state_after}
use Rattle.word_bits.specs.PageMaps.{PageMap, runs}
use Rattle.word_bits.proofs.States.{IsLawful, state_is_state}
use Rattle.vma_map.specs.Runs.{page_map}
use Rattle.vma_map.specs.Laws.PageRun.{page_map-runs}
use Rattle.vma_map.specs.Spaces.{space, meaning}
use Rattle.vma_map.specs.Laws.Space.{IsSpace-runs, starts, called, goes_on, replies}
use Rattle.guarded.specs.Splicing.{areas_in}
use Rattle.guarded.proofs.Spliced.{have-areas}
use Rattle.guarded.specs.CallServing.{readable_from}
use Rattle.guarded.specs.Types.{Num, SpaceCall}
use Rattle.guarded.proofs.Counting.{populate-counts}
use Rattle.guarded.proofs.served.AreasServed.look.Goals as goal

lawful : IsLawful space
lawful = record { starts = starts; called = called; goes_on = goes_on; replies = replies }

pub returns-in-Fault-clause-read : goal.returns-in-Fault-clause-read
returns-in-Fault-clause-read g c =
    let k = g.L.SiteLock.calls_on c.args.lock.now in
    let h = (g.L.SiteLock.view c.args.pass.now).hand in
    let m = state_after space k h.log in
    λ _. c.fault.ensures.reply m (state_is_state space lawful k h.log) (sym c.requires.stored) ∙ ap (λ (x : SpaceCall). (meaning m x).1) (sym c.in-Fault.is)

pub count_readable-requires-clause-areas : goal.count_readable-requires-clause-areas
count_readable-requires-clause-areas g c =
    let k = g.L.SiteLock.calls_on c.args.lock.now in
    let v = g.L.SiteLock.view c.args.pass.now in
    let m = state_after space k v.hand.log in
    let is = state_is_state space lawful k v.hand.log in
    let found = have-areas (runs m) v.hand.known (IsSpace-runs m is) (sym c.requires.stored) in
    found.0

pub returns-in-Populate-clause-done : goal.returns-in-Populate-clause-done
returns-in-Populate-clause-done g c =
    let k = g.L.SiteLock.calls_on c.args.lock.now in
    let v = g.L.SiteLock.view c.args.pass.now in
    let m = state_after space k v.hand.log in
    let is = state_is_state space lawful k v.hand.log in
    let found = have-areas (runs m) v.hand.known (IsSpace-runs m is) (sym c.requires.stored) in
    let before : page_map (areas_in v.hand.known) ≡ m = ap page_map found.1 ∙ page_map-runs m is in
    λ downs reply done fine. let s = done.0 in ap Num (c.count_readable.ensures.pages ∙ ap (λ (n : PageMap). readable_from n c.in-Populate.start c.in-Populate.len) before)
    ∙ (populate-counts s m c.in-Populate.start c.in-Populate.len c.in-Populate.prot (ap (λ (x : SpaceCall). (meaning s x).0) (sym c.in-Populate.is) ∙ done.2) (λ errno e. fine errno (done.3 ∙ (ap (λ (x : SpaceCall). (meaning s x).1) c.in-Populate.is ∙ e)))
    ∙ (ap (λ (x : SpaceCall). (meaning s x).1) (sym c.in-Populate.is) ∙ sym done.3))
