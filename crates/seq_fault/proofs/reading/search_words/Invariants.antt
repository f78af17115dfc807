-- The words that were given were found while the pass watched.
use Rattle.std.proofs.Common.{◌≡◌, ◌-◌}
use Rattle.lock_core.specs.SitePasses.{Sits}
use Rattle.lock_core.specs.Pasts.{GoesOn, IsOwnStep}
use Rattle.vma_map.specs.Searches.{asked, page_of}
use Rattle.seq_fault.specs.SeqSteps.{HasSearched}
use Rattle.seq_fault.specs.Types.{Glance, On}
use Rattle.seq_fault.proofs.reading.search_words.Given as goal

abbrev pub invariant-loop-at : goal.invariant-loop-at
invariant-loop-at l = Sits l.site.table.shared.key l.site.table.shared.table_id l.pass.seat.table_id l.pass.seat.me l.pass.face × (l.pass.face ≡ l.fn.pass.face) × GoesOn l.fn.pass.seat.me.0.past l.pass.seat.me.0.past × IsOwnStep l.pass.seat.me.0.view l.pass.seat.me.0.past
    × (page_of l.search ≡ page_of l.fn.search) × ((m : Glance) → l.fn.pass.seat.me.0.view.ext ≡ On m → HasSearched m l.search l.fn.pass.seat.me.0.view l.pass.seat.me.0.view)

abbrev pub decreases-loop-at : goal.decreases-loop-at
decreases-loop-at l = 10 - asked l.search
