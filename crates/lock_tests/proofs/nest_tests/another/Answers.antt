use Rattle.std.proofs.Common.{rules, ap}
use Rattle.lock_core.specs.declared.view.View.{View}
use Rattle.qspin_word.proofs.Noting.{told-same}
use Rattle.qspin_queue.proofs.Interrupting.{out-same}
use Rattle.lock_tests.proofs.nest_tests.another.Goals as goal

pub returns-clause-first : goal.returns-clause-first
returns-clause-first c = record {
  own = search rules;
  numberless = search rules;
  told = told-same c.args.first.now c.split.new.pass c.split.ensures.nest (ap (λ (x : View _). x.spin) c.split.ensures.kept) c.requires.idle.told;
  out = out-same c.args.first.now c.split.new.pass (ap (λ (x : View _). x.spin) c.split.ensures.kept) c.requires.idle.out;
}
