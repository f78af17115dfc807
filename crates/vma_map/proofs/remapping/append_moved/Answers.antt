-- Each area's piece follows those before it.
use Rattle.std.proofs.Common.{ℕ, ◌+◌, ◌-◌, Some, get_or, ap, ◌∙◌, arith}
use Rattle.vma_map.specs.Runs.{page_map}
use Rattle.vma_map.specs.Spaces.{changed}
use Rattle.vma_map.proofs.RangeLemmas.{no_area, AreRuns-at}
use Rattle.vma_map.proofs.MoveLemmas.{place_of, none-moved, more-moved}
use Rattle.vma_map.proofs.remapping.append_moved.Goals as goal

pub append-requires : goal.append-requires
append-requires c =
    let areas = c.args.areas.now in
    let i = c.loop-area.area-index in
    let is = AreRuns-at areas i no_area c.loop-area-test.true c.requires.areas in
    let start = c.clamp.ensures in
    let end = c.clamp-in-loop-area.ensures in
    let few = c.loop-area.invariant.few in
    let room = c.requires.room in
    let below = c.loop-area-test.true in
    let order = c.requires.order in
    let within = c.requires.within in (
      omega arith,
      (
        c.loop-area.invariant.runs,
        (
          omega (arith, few, room, below),
          (
            omega (arith, end, order, within),
            (
              is.prot,
              λ some q above. none-moved areas i no_area (page_map c.args.next.now.items) (page_map c.loop-area.next.items) c.args.from c.args.end c.args.to below c.requires.areas order c.loop-area.invariant.pages (omega (arith, some, start, end)) q (omega (arith, above, start)),
            ),
          ),
        ),
      ),
    )

pub loop-area-preserved : goal.loop-area-preserved
loop-area-preserved c =
    let areas = c.args.areas.now in
    let i = c.loop-area.area-index in
    let few = c.loop-area.invariant.few in
    let more = c.append.ensures.few in
    let before = page_map c.loop-area.next.items in
    let prot = Some (get_or areas i no_area).prot in
    let start = ap (λ (n : ℕ). n - c.args.from + c.args.to) c.clamp.ensures in
    let end = ap (λ (n : ℕ). n - c.args.from + c.args.to) c.clamp-in-loop-area.ensures in record {
      runs = c.append.ensures.runs;
      few = omega (arith, few, more);
      pages = λ q. c.append.ensures.pages q ∙ ap (λ (n : ℕ). changed before n (c.clamp-in-loop-area.result - c.args.from + c.args.to) prot q) start ∙ ap (λ (n : ℕ). changed before (place_of c.args.from c.args.end c.args.to (get_or areas i no_area).start) n prot q) end ∙ more-moved areas i no_area (page_map c.args.next.now.items) before c.args.from c.args.end c.args.to c.loop-area-test.true c.requires.areas c.requires.order c.loop-area.invariant.pages q;
    }
