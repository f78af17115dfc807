-- The words store the runs of the state after the log, and then those of what the call makes of it.
use Rattle.std.proofs.Common.{◌≡◌, sym, ap, subst, ◌∙◌}
use Rattle.word_bits.specs.Histories.{state_after}
use Rattle.word_bits.specs.PageMaps.{PageMap, runs}
use Rattle.word_bits.proofs.States.{IsLawful, state_is_state}
use Rattle.vma_map.specs.Runs.{page_map, words_of_areas}
use Rattle.vma_map.specs.Laws.PageRun.{page_map-runs, runs-page_map}
use Rattle.vma_map.specs.Spaces.{space, meaning, stores}
use Rattle.vma_map.specs.Laws.Space.{IsSpace-runs, starts, called, goes_on, replies}
use Rattle.guarded.specs.Splicing.{areas_in}
use Rattle.guarded.proofs.Spliced.{have-areas}
use Rattle.guarded.specs.Performing.{HasStored}
use Rattle.guarded.proofs.served.AreasServed.change.Goals as goal

lawful : IsLawful space
lawful = record { starts = starts; called = called; goes_on = goes_on; replies = replies }

pub apply-requires-clause-has : goal.apply-requires-clause-has
apply-requires-clause-has g c =
    let k = g.L.SiteLock.calls_on c.args.lock.now in
    let v = g.L.SiteLock.view c.args.pass.now in
    let m = state_after space k v.hand.log in
    let is = state_is_state space lawful k v.hand.log in
    let found = have-areas (runs m) v.hand.known (IsSpace-runs m is) (sym c.requires.stored) in
    (c.requires.own, c.requires.held, found.0)

pub returns-clause-on : goal.returns-clause-on
returns-clause-on g c = record { own = c.apply.ensures.has.0; goes_on = c.apply.ensures.kept.0.0 }

pub returns-clause-queue : goal.returns-clause-queue
returns-clause-queue g c = c.apply.ensures.kept.1

pub returns-clause-stored : goal.returns-clause-stored
returns-clause-stored g c =
    let k = g.L.SiteLock.calls_on c.args.lock.now in
    let v = g.L.SiteLock.view c.args.pass.now in
    let m = state_after space k v.hand.log in
    let is = state_is_state space lawful k v.hand.log in
    let found = have-areas (runs m) v.hand.known (IsSpace-runs m is) (sym c.requires.stored) in
    let before : page_map (areas_in v.hand.known) ≡ m = ap page_map found.1 ∙ page_map-runs m is in
    let u = g.L.SiteLock.view c.apply.new.hand in
    let after = c.apply.ensures.has.2 in
    let next = c.apply.ensures.next ∙ ap (λ (n : PageMap). (meaning n c.args.call).0) before in
    let now : u.hand.known ≡ stores (meaning m c.args.call).0 = sym after.whole ∙ ap words_of_areas (sym (runs-page_map (areas_in u.hand.known) after.space.runs)) ∙ ap (λ (n : PageMap). words_of_areas (runs n)) next in
    subst (λ xs. HasStored xs v u) now c.apply.ensures.kept.0.1

pub returns-clause-reply : goal.returns-clause-reply
returns-clause-reply g c =
    let k = g.L.SiteLock.calls_on c.args.lock.now in
    let v = g.L.SiteLock.view c.args.pass.now in
    let m = state_after space k v.hand.log in
    let is = state_is_state space lawful k v.hand.log in
    let found = have-areas (runs m) v.hand.known (IsSpace-runs m is) (sym c.requires.stored) in
    let before : page_map (areas_in v.hand.known) ≡ m = ap page_map found.1 ∙ page_map-runs m is in
    c.apply.ensures.reply ∙ ap (λ (n : PageMap). (meaning n c.args.call).1) before
