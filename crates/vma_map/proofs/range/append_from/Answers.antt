-- The last area leaves what it has from the page on.
use Rattle.std.proofs.Common.{[], length, take, ◌-◌, sym, ◌∙◌, ◌≤◌, arith}
use Rattle.vma_map.specs.Laws.Area.{AreRuns-head}
use Rattle.vma_map.proofs.RangeLemmas.{AreRuns-from}
use Rattle.vma_map.proofs.WordLemmas.{last_of}
use Rattle.vma_map.proofs.CutLemmas.{last_holds}
use Rattle.vma_map.proofs.SpliceLemmas.{last_piece}
use Rattle.vma_map.proofs.range.append_from.Goals as goal

pub append-requires : goal.append-requires
append-requires c =
    let is = last_of c.args.areas.now c.in-Some.area.now (sym c.in-Some.ensures.value) in
    let area = AreRuns-head c.in-Some.area.now [] (AreRuns-from (take (length c.args.areas.now - 1) c.args.areas.now) c.in-Some.area.now [] (rw is at c.requires.areas)) in
    let room = c.requires.room in
    let first = c.max.ensures in (
      omega arith,
      (
        c.requires.runs,
        (omega (arith, room), (area.within, (area.prot, λ some q above. c.requires.before q (omega (arith, first, above))))),
      ),
    )

pub returns-in-Some-clause-pages : goal.returns-in-Some-clause-pages
returns-in-Some-clause-pages c = λ q.
    let is = last_of c.args.areas.now c.in-Some.area.now (sym c.in-Some.ensures.value) in
    let begun = last_holds (λ a. a.start ≤ c.args.page) c.args.areas.now _ c.in-Some.area.now is c.requires.reach in
    rw (sym c.max.ensures) (c.append.ensures.pages q) ∙ last_piece c.args.next.now.items c.args.areas.now _ c.in-Some.area.now c.args.page is c.requires.areas begun c.requires.before q
