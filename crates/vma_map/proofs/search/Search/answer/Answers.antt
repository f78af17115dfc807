-- The last area that begins at the page or before it has the page, or none has.
use Rattle.std.proofs.Common.{◌≤◌, ◌<◌, drop, Some, refl, sym, ap, subst, ◌∙◌, arith}
use Rattle.std.specs.List.{AllByRecursion}
use Rattle.word_bits.specs.declared.area.Area.{Area}
use Rattle.word_bits.specs.PageMaps.{PageMap, runs}
use Rattle.vma_map.specs.Laws.PageRun.{page_map-runs}
use Rattle.vma_map.specs.Laws.Space.{IsSpace-runs}
use Rattle.vma_map.specs.Spaces.{IsRunAt, stores}
use Rattle.vma_map.proofs.Ascending.{last-packs, none-behind, run-found, run-none}
use Rattle.vma_map.proofs.Narrowing.{number-first, parted-there, wanted-over}
use Rattle.vma_map.proofs.search.Search.answer.Goals as goal

pub returns-then-least-eq0 : goal.returns-then-least-eq0
returns-then-least-eq0 c = record {
  found = λ m is agrees.
      let s = c.args.self.now in
      let over = wanted-over s.asked s.begun.low s.begun.high c.requires.over in
      let r = agrees (runs m) (IsSpace-runs m is) refl over.0 in
      let parted = parted-there s (runs m) (stores m) over.1 r in
      let none = none-behind (runs m) s.page (subst (λ n. AllByRecursion (λ (a : Area). s.page < a.start) (drop n (runs m))) (sym c.least.ensures ∙ c.if-least-eq0.true) parted.1) in
      sym (ap (λ (n : PageMap). n s.page) (page_map-runs m is)) ∙ none;
}

pub returns-in_err-area : goal.returns-in_err-area
returns-in_err-area c = record {
  found = λ m is agrees.
      let s = c.args.self.now in
      let over = wanted-over s.asked s.begun.low s.begun.high c.requires.over in
      let r = agrees (runs m) (IsSpace-runs m is) refl over.0 in
      let many = number-first (runs m) (stores m) refl in
      let within = r.within in
      let order = s.begun.order in
      let packs = last-packs (runs m) (stores m) s.begun.low s.last s.page (IsSpace-runs m is) refl (λ e. c.if-least-eq0.false (c.least.ensures ∙ e)) (omega (arith, many, within, order)) (r.last (λ e. c.if-least-eq0.false (c.least.ensures ∙ e))) in
      absurd (c.in_err-area.ensures _ packs);
}

pub returns-then-self-area : goal.returns-then-self-area
returns-then-self-area c = record {
  found = λ m is agrees.
      let s = c.args.self.now in
      let over = wanted-over s.asked s.begun.low s.begun.high c.requires.over in
      let r = agrees (runs m) (IsSpace-runs m is) refl over.0 in
      let many = number-first (runs m) (stores m) refl in
      let within = r.within in
      let order = s.begun.order in
      let found = run-found (runs m) (stores m) s.begun.low s.last s.page (IsSpace-runs m is) refl (λ e. c.if-least-eq0.false (c.least.ensures ∙ e)) (omega (arith, many, within, order)) (r.last (λ e. c.if-least-eq0.false (c.least.ensures ∙ e))) c.in_ok-area.area c.in_ok-area.ensures.1 (parted-there s (runs m) (stores m) over.1 r) c.if-self-area.true in
      subst (λ (n : PageMap). IsRunAt (runs m) n s.page (Some c.in_ok-area.area)) (page_map-runs m is) found;
}

pub returns-else-self-area : goal.returns-else-self-area
returns-else-self-area c = record {
  found = λ m is agrees.
      let s = c.args.self.now in
      let over = wanted-over s.asked s.begun.low s.begun.high c.requires.over in
      let r = agrees (runs m) (IsSpace-runs m is) refl over.0 in
      let many = number-first (runs m) (stores m) refl in
      let within = r.within in
      let order = s.begun.order in
      let ends : c.in_ok-area.area.end ≤ s.page = omega (arith, c.if-self-area.false) in
      let none = run-none (runs m) (stores m) s.begun.low s.last s.page (IsSpace-runs m is) refl (λ e. c.if-least-eq0.false (c.least.ensures ∙ e)) (omega (arith, many, within, order)) (r.last (λ e. c.if-least-eq0.false (c.least.ensures ∙ e))) c.in_ok-area.area c.in_ok-area.ensures.1 (parted-there s (runs m) (stores m) over.1 r) ends in
      sym (ap (λ (n : PageMap). n s.page) (page_map-runs m is)) ∙ none;
}
