use Rattle.std.proofs.Common.{List, refl, sym, ap, subst, ◌∙◌, rules}
use Rattle.word_bits.specs.Snapshots.{Words}
use Rattle.mm_report.specs.Results.{AreComplete, AreLegal}
use Rattle.mm_program.proofs.Services.{has_served}
use Rattle.mm_program.proofs.threads.run_on_threads.Goals as goal

pub report-written-requires : goal.report-written-requires
report-written-requires g c = subst (λ (ws : List Words). AreComplete c.args.script.now ws) (sym c.results.ensures.value) (c.run.ensures.legal c.args.script.now c.in-Ok.ensures.script).complete

pub returns-in-Ok-written-clause-says : goal.returns-in-Ok-written-clause-says
returns-in-Ok-written-clause-says g c =
    let results = c.run.ensures.legal c.args.script.now c.in-Ok.ensures.script in
    let same = c.report-written.ensures.kept ∙ c.results.ensures.value in (
      record c.run.new.self { results = c.report-written.new.results },
      results.told,
      refl,
      has_served g.O.SharedObject.is_space g.O.SharedObject.calls_on g.O.SharedObject.hand g.O.SharedObject.past g.O.SharedObject.spun g.O.SharedObject.idle g.O.SharedObject.looked_back g.O.SharedObject.knows_past c.args.script.now c.in-Ok.machine c.run.new.self _ c.in-Ok.ensures.script c.run.ensures.ran results c.run.ensures.rest c.run.ensures.past c.run.ensures.tasks
          (ap (λ (ws : List Words). record c.run.new.self { results = ws }) same),
      c.in-Ok-written.ensures.text results.told (subst (λ (ws : List Words). AreLegal c.args.script.now ws results.told) (sym c.results.ensures.value) results.legal),
    )

pub returns-in-Err-clause-says : goal.returns-in-Err-clause-says
returns-in-Err-clause-says g c =
    let results = c.run.ensures.legal c.args.script.now c.in-Ok.ensures.script in
    let same = c.report-written.ensures.kept ∙ c.results.ensures.value in (
      (search rules),
      (
        record c.run.new.self { results = c.report-written.new.results },
        results.told,
        refl,
        has_served g.O.SharedObject.is_space g.O.SharedObject.calls_on g.O.SharedObject.hand g.O.SharedObject.past g.O.SharedObject.spun g.O.SharedObject.idle g.O.SharedObject.looked_back g.O.SharedObject.knows_past c.args.script.now c.in-Ok.machine c.run.new.self _ c.in-Ok.ensures.script c.run.ensures.ran results c.run.ensures.rest c.run.ensures.past c.run.ensures.tasks
            (ap (λ (ws : List Words). record c.run.new.self { results = ws }) same),
        c.in-Err.ensures.text results.told (subst (λ (ws : List Words). AreLegal c.args.script.now ws results.told) (sym c.results.ensures.value) results.legal),
      ),
    )
