-- A piece is joined, added behind the last area, or is the first.
use Rattle.std.proofs.Common.{◌≡◌, ◌<◌, List, [], ◌∷◌, length, refl, ap, ◌∙◌, sym, arith}
use Rattle.std.proofs.lemmas.Bool.{false≢true}
use Rattle.arrayvec.specs.ArrayVec.{ArrayVec}
use Rattle.word_bits.specs.declared.area.Area.{Area}
use Rattle.word_bits.specs.AreaWord.{IsArea}
use Rattle.vma_map.proofs.RangeLemmas.{joined-runs, joined-pages, pushed-runs, page_map-push}
use Rattle.vma_map.proofs.range.append.Goals as goal
use Rattle.vma_map.proofs.range.append.Goals.{then-last-piece+else-last-piece-2, else-last-piece}

-- a list with no last area is empty
nothing : (areas : List Area) → (0 < length areas → ⊥) → areas ≡ []
nothing [] none = refl
nothing (a ∷ areas) none = absurd (none (omega arith))

pub returns-in-Some-clause-runs : goal.returns-in-Some-clause-runs
returns-in-Some-clause-runs g c =
    rw c.push.ensures.items (joined-runs _ _ c.in-Some.last c.args.piece c.in-Some.ensures.items c.requires.runs c.if-last-piece.true c.if-last-piece-2.true (omega arith) c.requires.within)

pub returns-in-Some-clause-pages : goal.returns-in-Some-clause-pages
returns-in-Some-clause-pages g c =
    rw c.push.ensures.items (joined-pages _ _ c.in-Some.last c.args.piece c.in-Some.ensures.items c.requires.runs c.if-last-piece.true c.if-last-piece-2.true (omega arith))

pub returns-in-Some-2-clause-runs : goal.returns-in-Some-2-clause-runs
returns-in-Some-2-clause-runs g c =
    let old = c.push-in-Some-2.ensures.items ∙ sym c.in-Some.ensures.items in
    let area : IsArea c.args.piece = record { prot = c.requires.prot; some = omega arith; within = c.requires.within } in
    let differ : c.in-Some.last.end ≡ c.args.piece.start → c.in-Some.last.prot ≡ c.args.piece.prot → ⊥ = λ touch same. elim c.if-last-piece.branch [ then-last-piece+else-last-piece-2 w ↦ w.if-last-piece-2.false same | else-last-piece w ↦ w.if-last-piece.false touch ] in
    rw (c.push-in-Some-2-2.ensures.items, old) (pushed-runs _ _ c.in-Some.last c.args.piece c.in-Some.ensures.items c.requires.runs area (c.requires.behind (omega arith)) differ)

pub returns-in-Some-2-clause-pages : goal.returns-in-Some-2-clause-pages
returns-in-Some-2-clause-pages g c =
    let old = c.push-in-Some-2.ensures.items ∙ sym c.in-Some.ensures.items in
    rw (c.push-in-Some-2-2.ensures.items, old) (page_map-push _ c.args.piece (c.requires.behind (omega arith)))

pub returns-in-None-clause-runs : goal.returns-in-None-clause-runs
returns-in-None-clause-runs g c =
    let none = ap (λ (v : ArrayVec Area). v.items) c.in-None.ensures.empty ∙ nothing _ (λ some. false≢true (c.in-None.ensures.variant.1 some)) in
    rw (c.push-in-None.ensures.items, none) (record { prot = c.requires.prot; some = omega arith; within = c.requires.within })

pub returns-in-None-clause-pages : goal.returns-in-None-clause-pages
returns-in-None-clause-pages g c =
    let none = ap (λ (v : ArrayVec Area). v.items) c.in-None.ensures.empty in
    rw (c.push-in-None.ensures.items, none) (page_map-push _ c.args.piece (c.requires.behind (omega arith)))
